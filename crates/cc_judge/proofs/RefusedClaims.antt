-- The clauses refuse these claims.
use Rattle.std.proofs.Common.{◌≡◌, ℕ, zero, suc, ◌<◌, List, [], ◌∷◌, length, Some, inl, inr, refl, sym, ap, ◌∙◌, subst, arith}
use Rattle.std.specs.List.{slice_get}
use Rattle.cc_judge.specs.Names.{Act, Call, Fault, Rules, Spell}
use Rattle.cc_judge.specs.Order.{EndsBefore, of_any_capacity}
use Rattle.cc_judge.specs.Faults.{BeganBy, Did, EndedBy, FewerAt, In, MayHaveTaken, MoreAt, Passed, WasClosed}
use Rattle.cc_judge.specs.Room.{FullsArePossible}
use Rattle.cc_judge.specs.Refused.{RefusedClaims, call, waiting, handed, beside, closed, crowded, full_early, next_item, strays}
use Rattle.cc_judge.specs.Until.{IsCallUntil, IsOver, IsUntil, act_until}
use Rattle.cc_judge.specs.Verdict.{StandsFirst}
use Rattle.cc_judge.proofs.NoOrder.{no_order}
use Rattle.cc_judge.proofs.Listing.{some_is}

-- a call that ended at a time didn't end before one that began by then
late : (calls : List Call) (first second : ℕ) (one other : Call) (end : ℕ) → slice_get calls first ≡ Some one → slice_get calls second ≡ Some other → one.end ≡ Some end → other.begin < end → EndsBefore calls first second → ⊥
late calls first second one other end here there ended by before =
    let same : Some before.one ≡ Some one = sym before.one_is ∙ here in
    let one_is : before.one ≡ one = cc in
    let too : Some before.other ≡ Some other = sym before.other_is ∙ there in
    let other_is : before.other ≡ other = cc in
    let ends : Some before.end ≡ Some end = sym before.ended ∙ ap (λ (c : Call). c.end) one_is ∙ ended in
    let end_is : before.end ≡ end = cc in
    let begins : before.other.begin ≡ other.begin = ap (λ (c : Call). c.begin) other_is in
    omega (arith, before.before, end_is, begins, by)

untaken : (take : ℕ) → Passed (waiting 0 (Act.Send 0) ∷ []) 0 take → ⊥
untaken zero p = absurd (cc (p.took.call_is, p.took.act_is))
untaken (suc take) p = absurd (cc (p.took.call_is))

-- no send of that log began by 3
none_sent : (time send item : ℕ) → time < 4 → Did full_early send (Act.Send item) → BeganBy full_early send time → ⊥
none_sent time zero item early d by = absurd (cc (d.call_is, d.act_is))
none_sent time (suc zero) item early d b =
    let is : call 4 5 (Act.Send 0) ≡ b.call = cc b.call_is in
    let le = b.by in
    let begin : 4 ≡ b.call.begin = ap (λ (c : Call). c.begin) is in
    absurd (omega (arith, early, le, begin))
none_sent time (suc (suc k)) item early d by = absurd (cc (d.call_is))

none_at : (time : ℕ) → time < 4 → FewerAt full_early 1 time
none_at time early = record { may = []; fewer = omega arith; others = λ send item d by. absurd (none_sent time send item early d by) }

not_full : (rules : Rules) → rules.capacity ≡ Some 1 → FullsArePossible rules full_early → ⊥
not_full rules one possible = possible 0 (record {
  capacity = 1;
  capacity_is = one;
  begin = 0;
  end = 3;
  full = (call 0 3 Act.Full, refl, refl, refl, refl);
  at_begin = none_at 0 (omega arith);
  at_sends = λ send item c is act from upto. none_at c.begin (omega (arith, upto));
})

-- a send doesn't show that the queue was closed
shut_by_a_send : WasClosed handed 0 → ⊥
shut_by_a_send w =
    let same : Some w.returned.call ≡ Some (call 0 1 (Act.Send 0)) = sym w.returned.call_is in
    let is : w.returned.call ≡ call 0 1 (Act.Send 0) = cc in
    let act : w.act ≡ Act.Send 0 = sym w.returned.act_is ∙ ap (λ (c : Call). c.act) is in
    elim w.shows [
      | inl close ↦ let e : Act.Close ≡ Act.Send 0 = sym close ∙ act in cc
      | inr answers ↦ elim answers [
        | inl answered ↦ let e : Act.Closed ≡ Act.Send 0 = sym answered ∙ act in cc
        | inr ended ↦ let e : Act.Ended ≡ Act.Send 0 = sym ended ∙ act in cc
      ]
    ]

-- an item that was taken by a call that had begun isn't in the queue for certain
taken_by_then : MoreAt handed (0 ∷ []) 0 3 → ⊥
taken_by_then m = elim (m.others 0 0 1 (inl refl) record { call = call 0 1 (Act.Send 0); call_is = refl; act_is = refl } (inl record { call = call 2 3 (Act.Took 0); call_is = refl; act_is = refl })) [
  | inl has ↦ none_of_none m.takes (let more = m.more in omega (arith, more)) has
  | inr late ↦
      let same : Some late.call ≡ Some (call 2 3 (Act.Took 0)) = sym late.call_is in
      let is : late.call ≡ call 2 3 (Act.Took 0) = cc in
      absurd (omega (arith, late.after, ap (λ (c : Call). c.begin) is))
]
  where
    none_of_none : (takes : List ℕ) → length takes < 1 → In 1 takes → ⊥
    none_of_none [] few has = has
    none_of_none (x ∷ takes) few has = absurd (omega (arith, few))

-- ---- two items, and room for one

no_take : (take item : ℕ) → MayHaveTaken crowded take item → ⊥
no_take zero item (inl took) = absurd (cc (took.call_is, took.act_is))
no_take zero item (inr taking) = absurd (cc (taking.0.call_is, taking.0.act_is))
no_take (suc zero) item (inl took) = absurd (cc (took.call_is, took.act_is))
no_take (suc zero) item (inr taking) = absurd (cc (taking.0.call_is, taking.0.act_is))
no_take (suc (suc take)) item (inl took) = absurd (cc (took.call_is))
no_take (suc (suc take)) item (inr taking) = absurd (cc (taking.0.call_is))

abbrev Ended : ℕ → Type 0
Ended send = (item : ℕ) × Did crowded send (Act.Send item) × EndedBy crowded send 4

two_held : MoreAt crowded (0 ∷ 1 ∷ []) 1 3
two_held = record {
  apart = ((λ within. elim within [ inl same ↦ omega (arith, same) | inr none ↦ none ]), ((λ none. none), tt));
  each = λ send within. elim within [
    | inl here ↦ subst Ended here (0, record { call = call 0 1 (Act.Send 0); call_is = refl; act_is = refl }, record { call = call 0 1 (Act.Send 0); call_is = refl; end = 1; ended = refl; by = omega arith })
    | inr later ↦ elim later [
      | inl here ↦ subst Ended here (1, record { call = call 2 3 (Act.Send 1); call_is = refl; act_is = refl }, record { call = call 2 3 (Act.Send 1); call_is = refl; end = 3; ended = refl; by = omega arith })
      | inr none ↦ absurd none
    ]
  ];
  takes = [];
  more = omega arith;
  others = λ send item take within did may. absurd (no_take take item may);
}

-- ---- the fault that shows first

early : List Call
early = call 0 1 (Act.Took 7) ∷ waiting 10 Act.Taking ∷ []

none_sent_early : (send item : ℕ) → Did early send (Act.Send item) → ⊥
unfolding early
none_sent_early zero item d = absurd (cc (d.call_is, d.act_is))
none_sent_early (suc zero) item d = absurd (cc (d.call_is, d.act_is))
none_sent_early (suc (suc send)) item d = absurd (cc (d.call_is))

until_1 : IsUntil 1 strays early
unfolding early
until_1 = record { there = there; back = back }
  where
    not_over : IsOver 1 (call 10 11 (Act.Took 8)) → ⊥
    not_over over = let by = over 11 refl in omega (arith, by)

    over_1 : IsOver 1 (call 0 1 (Act.Took 7))
    over_1 end e = let is : Some 1 ≡ Some end = e in let same : 1 ≡ end = cc in omega (arith, same)

    there : (place : ℕ) (c : Call) → slice_get strays place ≡ Some c → (d : Call) × (slice_get early place ≡ Some d) × IsCallUntil 1 c d
    there zero c is = subst (λ (x : Call). (d : Call) × (slice_get early 0 ≡ Some d) × IsCallUntil 1 x d) (some_is (call 0 1 (Act.Took 7)) c is) (call 0 1 (Act.Took 7), refl, inl (over_1, refl))
    there (suc zero) c is = subst (λ (x : Call). (d : Call) × (slice_get early 1 ≡ Some d) × IsCallUntil 1 x d) (some_is (call 10 11 (Act.Took 8)) c is) (waiting 10 Act.Taking, refl, inr (not_over, refl))
    there (suc (suc place)) c is = absurd (cc (is))

    back : (place : ℕ) (d : Call) → slice_get early place ≡ Some d → (c : Call) × (slice_get strays place ≡ Some c) × IsCallUntil 1 c d
    back zero d is = subst (λ (x : Call). (c : Call) × (slice_get strays 0 ≡ Some c) × IsCallUntil 1 c x) (some_is (call 0 1 (Act.Took 7)) d is) (call 0 1 (Act.Took 7), refl, inl (over_1, refl))
    back (suc zero) d is = subst (λ (x : Call). (c : Call) × (slice_get strays 1 ≡ Some c) × IsCallUntil 1 c x) (some_is (waiting 10 Act.Taking) d is) (call 10 11 (Act.Took 8), refl, inr (not_over, refl))
    back (suc (suc place)) d is = absurd (cc (is))

last_named : (rules : Rules) → rules.ties.items ≡ [] → StandsFirst rules strays (Fault.NeverSent 1) → ⊥
unfolding early
last_named rules ties f =
    let took = f.stands.took in
    let c = f.part_is.back 1 took.call took.call_is in
    let one = sym (some_is (call 10 11 (Act.Took 8)) c.0 c.1) in
    elim c.2 [
      | inr held ↦
          let act : Act.Took f.stands.item ≡ Act.Taking = sym took.act_is ∙ ap (λ (x : Call). x.act) held.1 ∙ ap (λ (x : Call). act_until x.act) one in
          cc
      | inl over ↦
          let by = over.0 11 (ap (λ (x : Call). x.end) one) in
          no_order (of_any_capacity rules) early (Fault.NeverSent 0) (λ item i j d e. absurd (none_sent_early i item d)) (record {
            item = 7;
            took = record { call = call 0 1 (Act.Took 7); call_is = refl; act_is = refl; ended = refl };
            none = λ i d. none_sent_early i 7 d;
          }) (f.first ties 1 (omega (arith, by)) early until_1)
    ]

pub claims_refused : RefusedClaims
claims_refused = record {
  accepted_though_untaken = λ h. untaken h.0 h.1;
  as_many_items_as_room = λ m. absurd (omega (arith, m.more));
  clean_without_an_order = λ rules o. absurd (cc (o.legal.1));
  close_before_a_late_log_forgotten = λ is. absurd (cc (is));
  closed_early_beside_a_close = λ rules c. late closed 1 0 (call 2 3 Act.Closed) (call 0 1 Act.Close) 3 refl refl refl (omega arith) (c.later 0 record { call = call 0 1 Act.Close; call_is = refl; act_is = refl });
  ended_while_open = λ e. absurd (cc (e));
  first_item_passed_named = λ rules calls lists are p. let le = p.last 1 next_item (ap (λ (xs : List Spell). slice_get xs 1) are) (omega arith) (omega arith) in absurd (omega (arith, le));
  full_before_a_send_began = not_full;
  last_fault_named = last_named;
  late_log_judged_by_a_capacity = λ is. absurd (cc (is));
  more_items_than_room = λ rules one fit. fit 1 3 (0 ∷ 1 ∷ []) one two_held;
  never_sent_of_a_sent_item = λ is. absurd (cc (is));
  none_beside_an_item = λ d. absurd (cc (d.0));
  overtaken_in_one_go = λ take later o. late beside 0 1 (call 0 5 (Act.Send 0)) (call 1 6 (Act.Send 1)) 5 refl refl refl (omega arith) o.sent_first;
  shut_by_a_send = shut_by_a_send;
  taken_after_sent = λ t. late handed 1 0 (call 2 3 (Act.Took 0)) (call 0 1 (Act.Send 0)) 3 refl refl refl (omega arith) t.early;
  taken_twice_by_one_call = λ t. t.apart refl;
  too_many_of_a_taken_item = taken_by_then;
}
