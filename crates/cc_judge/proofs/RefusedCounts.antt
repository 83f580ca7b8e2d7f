-- The clauses refuse these claims about counts, times and cuts.
use Rattle.std.proofs.Common.{◌≡◌, ℕ, zero, suc, ◌+◌, ◌<◌, ◌≤◌, true, false, inl, inr, List, [], ◌∷◌, length, Some, None, refl, sym, ap, ◌∙◌, subst, arith}
use Rattle.std.specs.List.{slice_get}
use Rattle.cc_judge.specs.Names.{Act, Call, Rules, Tie, Verdict}
use Rattle.cc_judge.specs.Faults.{Did}
use Rattle.cc_judge.specs.Faults.{In, Once}
use Rattle.cc_judge.specs.Splits.{AllTouch, DoTouch, HasRoom, HaveRoom, spend}
use Rattle.cc_judge.specs.Verdict.{IsDecided}
use Rattle.cc_judge.specs.Counts.{SentBy, IsLeftBy, WaitsBy, MoreLeft, AreEnough, NeverEmpty}
use Rattle.cc_judge.specs.Refused.{call, waiting, handed}
use Rattle.cc_judge.specs.Cuts.{MeetAt, MayBeCut, CutCall}
use Rattle.cc_judge.specs.RefusedCounts.{RefusedCounts, left, left_and_taking, filled, two_meetings, first_meeting, overlapping, second_meeting}
use Rattle.cc_judge.proofs.Turns.{one_at}

same_end : (one other : Call) (e f : ℕ) → one ≡ other → one.end ≡ Some e → other.end ≡ Some f → e ≡ f
same_end one other e f same ends there = let both : Some e ≡ Some f = sym ends ∙ ap (λ (c : Call). c.end) same ∙ there in cc

-- ---- as many takes as items

sends_first : (s item : ℕ) → Did left_and_taking s (Act.Send item) → s ≡ 0
sends_first zero item d = refl
sends_first (suc zero) item d = absurd (cc (d.call_is, d.act_is))
sends_first (suc (suc s)) item d = absurd (cc (d.call_is))

at_most_one : (xs : List ℕ) → Once xs → ((x : ℕ) → In x xs → x ≡ 0) → length xs ≤ 1
at_most_one [] once each = omega arith
at_most_one (x ∷ []) once each = omega arith
at_most_one (x ∷ y ∷ xs) once each = absurd (once.0 (inl (each y (inr (inl refl)) ∙ sym (each x (inl refl)))))

at_least_one : (xs : List ℕ) → In 1 xs → 1 ≤ length xs
at_least_one [] within = absurd within
at_least_one (x ∷ xs) within = omega arith

as_many : (rules : Rules) → MoreLeft rules left_and_taking 2 2 → ⊥
as_many rules m =
    let sends = at_most_one m.sends m.apart (λ s within. let l = m.each s within in sends_first s l.item l.sent_by.sent) in
    let takes = at_least_one m.takes (m.all 1 (record { call = waiting 0 Act.Taking; call_is = refl; act_is = refl }, record { call = waiting 0 Act.Taking; call_is = refl; by = omega arith })) in
    let more = m.more in
    absurd (omega (arith, sends, takes, more))

-- ---- cuts

beside_the_later : CutCall (first_meeting ∷ []) 1 (call 5 9 (Act.Send 1)) (call 20 39 (Act.Send 1)) → ⊥
beside_the_later cut = elim cut.begin [
  | inl late ↦ let begins = late.1 in omega (arith, begins)
  | inr first ↦ first.0 (0, first_meeting, refl, refl)
]

two_pairs : MayBeCut two_meetings (first_meeting ∷ second_meeting ∷ []) → ⊥
two_pairs may =
    let one : MeetAt two_meetings first_meeting 5 = record { one = call 0 5 (Act.Send 0); other = call 5 9 (Act.Send 1); one_is = refl; other_is = refl; ends = refl; begins = refl } in
    let other : MeetAt two_meetings second_meeting 5 = record { one = call 1 5 (Act.Send 2); other = call 5 8 (Act.Send 3); one_is = refl; other_is = refl; ends = refl; begins = refl } in
    let same : 0 ≡ 1 = may.alone 0 1 5 first_meeting second_meeting refl refl one other in
    omega (arith, same)

-- ---- when a send is done

done_when_it_ended : (rules : Rules) → rules.closes ≡ false → SentBy rules handed 0 0 1 → ⊥
done_when_it_ended rules open_then s = elim s.done [
  | inl e ↦ let end = same_end e.call (call 0 1 (Act.Send 0)) e.end 1 (one_at handed 0 e.call (call 0 1 (Act.Send 0)) e.call_is refl) e.ended refl in let by = e.by in absurd (omega (arith, end, by))
  | inr shut ↦ let clash : true ≡ false = sym shut.judged ∙ open_then in cc
]

sends_filled : (s item : ℕ) → Did filled s (Act.Send item) → s ≡ 0
sends_filled zero item d = refl
sends_filled (suc zero) item d = absurd (cc (d.call_is, d.act_is))
sends_filled (suc (suc zero)) item d = absurd (cc (d.call_is, d.act_is))
sends_filled (suc (suc (suc s))) item d = absurd (cc (d.call_is))

not_yet : (rules : Rules) → rules.closes ≡ false → (send item : ℕ) → SentBy rules filled send item 1 → ⊥
not_yet rules open_then send item s = elim s.done [
  | inl e ↦
      let here = sends_filled send item s.sent in
      let end = same_end e.call (call 0 5 (Act.Send 0)) e.end 5 (one_at filled 0 e.call (call 0 5 (Act.Send 0)) (ap (slice_get filled) (sym here) ∙ e.call_is) refl) e.ended refl in
      let by = e.by in
      absurd (omega (arith, end, by))
  | inr shut ↦ let clash : true ≡ false = sym shut.judged ∙ open_then in cc
]

some_in : (xs : List ℕ) → 0 < length xs → (x : ℕ) × In x xs
some_in [] more = absurd (omega (arith, more))
some_in (x ∷ xs) more = (x, inl refl)

empty_at_first : (rules : Rules) → rules.closes ≡ false → NeverEmpty rules filled 1 → ⊥
empty_at_first rules open_then f =
    let d = f.found_none.did in
    let one = one_at filled 1 d.call (call 1 9 Act.FoundNone) d.call_is refl in
    let begins : d.call.begin ≡ 1 = ap (λ (c : Call). c.begin) one in
    let begin = f.found_none.begin_is in
    let end = same_end d.call (call 1 9 Act.FoundNone) f.end 9 one f.found_none.end_is refl in
    elim (f.inside 1 (omega (arith, begins, begin)) (omega (arith, end))) [
      | inl s ↦ not_yet rules open_then s.send s.item s.sent_by
      | inr m ↦
          let more = m.more in
          let s = some_in m.sends (omega (arith, more)) in
          let l = m.each s.0 s.1 in
          not_yet rules open_then s.0 l.item l.sent_by
    ]

at_no_time : (rules : Rules) → NeverEmpty rules (call 3 1 Act.FoundNone ∷ []) 0 → ⊥
at_no_time rules f =
    let d = f.found_none.did in
    let one = one_at (call 3 1 Act.FoundNone ∷ []) 0 d.call (call 3 1 Act.FoundNone) d.call_is refl in
    let begins : d.call.begin ≡ 3 = ap (λ (c : Call). c.begin) one in
    let begin = f.found_none.begin_is in
    let end = same_end d.call (call 3 1 Act.FoundNone) f.end 1 one f.found_none.end_is refl in
    let timed = f.timed in
    absurd (omega (arith, begins, begin, end, timed))

-- ---- left, and taken

not_taken : (t : ℕ) → Did left t (Act.Took 0) → ⊥
not_taken zero d = absurd (cc (d.call_is, d.act_is))
not_taken (suc t) d = absurd (cc (d.call_is))

not_waiting : (q : ℕ) → Did left q Act.Taking → ⊥
not_waiting zero d = absurd (cc (d.call_is, d.act_is))
not_waiting (suc q) d = absurd (cc (d.call_is))

none_waits : (takes : List ℕ) → length takes ≡ 1 → ((q : ℕ) → In q takes → WaitsBy left 2 q) → ⊥
none_waits [] one each = absurd (omega (arith, one))
none_waits (q ∷ takes) one each = not_waiting q (each q (inl refl)).0

without_a_take : (rules : Rules) → AreEnough rules left 2 2 → ⊥
without_a_take rules enough =
    let sent : Did left 0 (Act.Send 0) = record { call = call 0 1 (Act.Send 0); call_is = refl; act_is = refl } in
    let done : SentBy rules left 0 0 2 = record { sent = sent; done = inl (record { call = call 0 1 (Act.Send 0); call_is = refl; end = 1; ended = refl; by = omega arith }) } in
    let r = enough (0 ∷ []) ((λ h. h), tt) (λ s within. elim within [
      | inl same ↦ subst (IsLeftBy rules left 2) same (record { item = 0; sent_by = done; untaken = not_taken })
      | inr none ↦ absurd none
    ]) in
    none_waits r.0 r.1 r.3

though_taken : (rules : Rules) → IsLeftBy rules handed 4 0 → ⊥
though_taken rules l =
    let one = one_at handed 0 l.sent_by.sent.call (call 0 1 (Act.Send 0)) l.sent_by.sent.call_is refl in
    let acts : Act.Send l.item ≡ Act.Send 0 = sym l.sent_by.sent.act_is ∙ ap (λ (c : Call). c.act) one in
    let item : l.item ≡ 0 = cc in
    l.untaken 1 (record { call = call 2 3 (Act.Took 0); call_is = refl; act_is = ap Act.Took (sym item) })

-- ---- small

both : (P : ℕ → Call → Type 0) → P 0 (call 0 5 (Act.Send 0)) → P 1 (call 3 9 (Act.Send 1)) → (p : ℕ) (c : Call) → slice_get overlapping p ≡ Some c → P p c
both P first second zero c is = let e : call 0 5 (Act.Send 0) ≡ c = cc in subst (P 0) e first
both P first second (suc zero) c is = let e : call 3 9 (Act.Send 1) ≡ c = cc in subst (P 1) e second
both P first second (suc (suc p)) c is = absurd (cc (is))

sends : (p : ℕ) (c : Call) → slice_get overlapping p ≡ Some c → c.act ≡ Act.Send p
sends = both (λ p c. c.act ≡ Act.Send p) refl refl

though_small : (rules : Rules) → rules.ties.items ≡ first_meeting ∷ [] → IsDecided rules overlapping 2 (Verdict.Undecided None) → ⊥
though_small rules ties decided = decided tt (inr (record { touch = subst (AllTouch overlapping) (sym ties) touch; room = subst (λ (l : List Tie). HaveRoom (length l) overlapping) (sym ties) room; few = subst (λ (l : List Tie). 2 + spend 2 (length l) ≤ 1048576) (sym ties) (omega arith) })) differ (record { sent = λ p item d. below p item d; took = λ p item d. absurd (other p (Act.Took item) (λ v is. absurd (cc (is))) d) }) (record {
  timed = λ p c e is ends. both (λ p c. (e : ℕ) → c.end ≡ Some e → c.begin ≤ e) (λ e is. let n : 5 ≡ e = cc in omega (arith, n)) (λ e is. let n : 9 ≡ e = cc in omega (arith, n)) p c is e ends;
  waits = λ q d. absurd (other q Act.Taking (λ v is. absurd (cc (is))) d);
  took = λ q item d. absurd (other q (Act.Took item) (λ v is. absurd (cc (is))) d);
  ended = λ q d. absurd (other q Act.Ended (λ v is. absurd (cc (is))) d);
})
  where
    other : (p : ℕ) (act : Act) → ((v : ℕ) → Act.Send v ≡ act → ⊥) → Did overlapping p act → ⊥
    other p act never d = never p (sym (sends p d.call d.call_is) ∙ d.act_is)

    at : (p item : ℕ) → Did overlapping p (Act.Send item) → p ≡ item
    at p item d = let acts : Act.Send p ≡ Act.Send item = sym (sends p d.call d.call_is) ∙ d.act_is in cc

    differ : (item i j : ℕ) → Did overlapping i (Act.Send item) → Did overlapping j (Act.Send item) → i ≡ j
    differ item i j one two = at i item one ∙ sym (at j item two)

    below : (p item : ℕ) → Did overlapping p (Act.Send item) → item < 2
    below p item d = let same = at p item d in let less = both (λ p c. p < 2) (omega arith) (omega arith) p d.call d.call_is in omega (arith, same, less)

    touch : AllTouch overlapping (first_meeting ∷ [])
    touch zero tie is = let e : first_meeting ≡ tie = cc in subst (DoTouch overlapping) e (record { apart = λ same. absurd (cc (same)); one = call 0 5 (Act.Send 0); other = call 3 9 (Act.Send 1); one_is = refl; other_is = refl; end = 5; ended = refl; touch = omega arith })
    touch (suc i) tie is = absurd (cc (is))

    room : HaveRoom 1 overlapping
    room = both (λ p c. HasRoom 1 c) (omega arith, λ e is. let n : 5 ≡ e = cc in omega (arith, n)) (omega arith, λ e is. let n : 9 ≡ e = cc in omega (arith, n))

pub counts_refused : RefusedCounts
counts_refused = record {
  as_many_takes_as_items = as_many;
  cut_beside_the_later_call = beside_the_later;
  cut_where_two_pairs_meet = two_pairs;
  done_when_it_ended = done_when_it_ended;
  empty_at_first = empty_at_first;
  empty_at_no_time = at_no_time;
  enough_without_a_take = without_a_take;
  left_though_taken = though_taken;
  met_apart = λ m.
      let one = one_at handed 1 m.other (call 2 3 (Act.Took 0)) m.other_is refl in
      let begins : m.other.begin ≡ 2 = ap (λ (c : Call). c.begin) one in
      let is = m.begins in
      absurd (omega (arith, begins, is));
  no_order_though_one = λ rules none. none ([], record { each = λ k s is. absurd (cc (is)); once = λ j k s t less s_is. absurd (cc (s_is)); whole = λ p c is. absurd (cc (is)); in_time = λ j k s t less s_is. absurd (cc (s_is)); in_line = λ i tie is j k s t less s_is. absurd (cc (s_is)); legal = tt; closing = λ judged. tt });
  split_beside_the_time = λ s. elim s.begin [ inl late ↦ absurd (cc (late.1)) | inr free ↦ free.0 refl ];
  undecided_though_small = though_small;
  waits_before_it_began = λ w.
      let one = one_at (waiting 5 Act.Taking ∷ []) 0 w.1.call (waiting 5 Act.Taking) w.1.call_is refl in
      let begins : w.1.call.begin ≡ 5 = ap (λ (c : Call). c.begin) one in
      let by = w.1.by in
      absurd (omega (arith, begins, by));
  written_backwards = λ w. let t = w.timed 0 (call 3 1 Act.FoundNone) 1 refl refl in absurd (omega (arith, t));
}
