-- A log in which at most two calls meet at a time has the orders of the log that is cut between them.
use Rattle.std.proofs.Common.{◌≡◌, ◌≢◌, ℕ, zero, suc, ◌+◌, ◌*◌, ◌≤◌, ◌⊎◌, inl, inr, List, [], ◌∷◌, Option, Some, None, IsSome, refl, sym, ap, ◌∙◌, subst, arith}
use Rattle.std.specs.List.{slice_get}
use Rattle.std.proofs.lemmas.Bool.{cases_lt}
use Rattle.cc_judge.specs.Names.{Act, Call, Rules, Step, Tie}
use Rattle.cc_judge.specs.Order.{EndsBefore, MayHaveDone, IsLinearizable, IsRun, RespectsLines, RespectsRealTime, IsOrder}
use Rattle.cc_judge.specs.Faults.{Did, Differ}
use Rattle.cc_judge.specs.Faultless.{IsWritten}
use Rattle.cc_judge.specs.Verdict.{AreSentBelow}
use Rattle.cc_judge.specs.Splits.{AreLeft, IsFiner, IsTimed}
use Rattle.cc_judge.specs.Cuts.{IsEarlier, IsLater, MeetAt, AreLone, CutCall, IsCut, AreWithoutTies, CutLogsAreExact}
use Rattle.cc_judge.proofs.Turns.{nat_cases, one_at}
use Rattle.cc_judge.proofs.Faultless.{choose}
use Rattle.cc_judge.proofs.Calls.{end_cases, is_some_of, none_some, one_end}

-- ---- a finer log

module _ (calls cut : List Call) (f : IsFiner calls cut) where
  did_whole : (place : ℕ) (act : Act) → Did cut place act → Did calls place act
  did_whole place act did = let c = f.back place did.call did.call_is in record { call = c.0; call_is = c.1; act_is = sym c.2 ∙ did.act_is }

  pub finer_differ : Differ calls → Differ cut
  finer_differ differ item i j one other = differ item i j (did_whole i (Act.Send item) one) (did_whole j (Act.Send item) other)

  pub finer_below : (items : ℕ) → AreSentBelow calls items → AreSentBelow cut items
  finer_below items below place item did = below place item (did_whole place (Act.Send item) did)

  -- an order of it is one of the log, if it keeps the ties
  pub unfiner : (rules rest : Rules) (order : List Step) → AreLeft rules rest cut → IsOrder rest cut order → IsOrder rules calls order
  unfiner rules rest order l o = record {
    each = λ j s is.
        let i = o.each j s is in
        let r = f.back s.place i.call i.call_is in
        record { call = r.0; call_is = r.1; may = subst (λ (a : Act). MayHaveDone a s.act) r.2 i.may };
    once = o.once;
    whole = λ place c is some. let d = f.there place c is in o.whole place d.0 d.1 (d.3 some);
    in_time = λ i j s t less s_is t_is ends. o.in_time i j s t less s_is t_is (f.before t.place s.place ends);
    in_line = λ n tie is i j s t less s_is t_is later earlier. elim (l.all n tie is) [
      | inl before ↦ o.in_time i j s t less s_is t_is (subst (λ (p : ℕ). EndsBefore cut p s.place) (sym earlier) (subst (EndsBefore cut tie.earlier) (sym later) before))
      | inr k ↦ o.in_line k.0 tie k.1 i j s t less s_is t_is later earlier
    ];
    legal = subst (λ (c : Option ℕ). IsRun c [] order) l.capacity o.legal;
    closing = λ judged. o.closing (l.closes ∙ judged);
  }

  -- and the other way round, if the order keeps the times of the finer log
  pub into_finer : (rules rest : Rules) (order : List Step) → rest.capacity ≡ rules.capacity → rest.closes ≡ rules.closes → RespectsLines rest.ties.items order → RespectsRealTime cut order → IsOrder rules calls order → IsOrder rest cut order
  into_finer rules rest order capacity closes in_line in_time o = record {
    each = λ j s is.
        let i = o.each j s is in
        let r = f.there s.place i.call i.call_is in
        record { call = r.0; call_is = r.1; may = subst (λ (a : Act). MayHaveDone a s.act) (sym r.2) i.may };
    once = o.once;
    whole = λ place d is some. let c = f.back place d is in o.whole place c.0 c.1 (c.3 some);
    in_time = in_time;
    in_line = in_line;
    legal = subst (λ (c : Option ℕ). IsRun c [] order) (sym capacity) o.legal;
    closing = λ judged. o.closing (sym closes ∙ judged);
  }

  pub finer_written : IsWritten calls → ((p : ℕ) (d : Call) (e : ℕ) → slice_get cut p ≡ Some d → d.end ≡ Some e → d.begin ≤ e) → IsWritten cut
  finer_written written timed = record {
    timed = timed;
    waits = λ q did. elim (end_cases did.call.end) [ inr none ↦ none | inl e ↦ let c = f.back q did.call did.call_is in let d = did_whole q Act.Taking did in absurd (none_some c.0.end (ap (λ (x : Call). x.end) (one_at calls q c.0 d.call c.1 d.call_is) ∙ written.waits q d) (c.3 (is_some_of did.call.end e.0 e.1))) ];
    took = λ q item did. let d = did_whole q (Act.Took item) did in still q did.call d.call did.call_is d.call_is (written.took q item d);
    ended = λ q did. let d = did_whole q Act.Ended did in still q did.call d.call did.call_is d.call_is (written.ended q d);
  }
    where
      still : (q : ℕ) (d c : Call) → slice_get cut q ≡ Some d → slice_get calls q ≡ Some c → IsSome c.end → IsSome d.end
      still q d c d_is c_is some = let e = f.there q c c_is in subst (λ (x : Call). IsSome x.end) (one_at cut q e.0 d e.1 d_is) (e.3 some)

module _ (ties : List Tie) (calls cut : List Call) (alone : AreLone calls ties) (k : IsCut ties calls cut) where
  ended : (p : ℕ) (c d : Call) → CutCall ties p c d → IsSome c.end → IsSome d.end
  ended p c d h some = elim (end_cases c.end) [
    | inr open_end ↦ absurd (none_some c.end open_end some)
    | inl e ↦ elim (h.end e.0 e.1) [ inl tied ↦ is_some_of d.end (4 * e.0 + 1) tied.1 | inr free ↦ is_some_of d.end (4 * e.0 + 3) free.1 ]
  ]

  had_ended : (p : ℕ) (c d : Call) → CutCall ties p c d → IsSome d.end → IsSome c.end
  had_ended p c d h some = elim (end_cases c.end) [ inr open_end ↦ absurd (none_some d.end (h.open_end open_end) some) | inl e ↦ is_some_of c.end e.0 e.1 ]

  -- ---- an order of the cut log is one of the log

  still_before : (a b : ℕ) → EndsBefore calls a b → EndsBefore cut a b
  still_before a b e =
      let one = k.there a e.one e.one_is in
      let other = k.there b e.other e.other_is in
      let less = e.before in
      elim (one.2.end e.end e.ended) [
        | inl tied ↦ record { one = one.0; other = other.0; end = 4 * e.end + 1; one_is = one.1; other_is = other.1; ended = tied.1; before = elim other.2.begin [ inl late ↦ let b_is = late.1 in omega (arith, less, b_is) | inr first ↦ let b_is = first.1 in omega (arith, less, b_is) ] }
        | inr free ↦ record { one = one.0; other = other.0; end = 4 * e.end + 3; one_is = one.1; other_is = other.1; ended = free.1; before = elim other.2.begin [ inl late ↦ let b_is = late.1 in omega (arith, less, b_is) | inr first ↦ let b_is = first.1 in omega (arith, less, b_is) ] }
      ]

  tied_before : (i : ℕ) (tie : Tie) → slice_get ties i ≡ Some tie → EndsBefore cut tie.earlier tie.later
  tied_before i tie is =
      let m = (alone.meet i tie is).1 in
      let time = (alone.meet i tie is).0 in
      let one = k.there tie.earlier m.one m.one_is in
      let other = k.there tie.later m.other m.other_is in
      let begins = m.begins in
      elim (one.2.end time m.ends) [
        | inr free ↦ absurd (free.0 (i, tie, is, refl))
        | inl tied ↦ elim other.2.begin [
          | inr first ↦ absurd (first.0 (i, tie, is, refl))
          | inl late ↦ let b_is = late.1 in record { one = one.0; other = other.0; end = 4 * time + 1; one_is = one.1; other_is = other.1; ended = tied.1; before = omega (arith, begins, b_is) }
        ]
      ]

  pub cut_timed : IsTimed ties calls cut
  cut_timed = record {
    finer = record {
      there = λ place c is. let d = k.there place c is in (d.0, d.1, d.2.act, ended place c d.0 d.2);
      back = λ place d is. let c = k.back place d is in (c.0, c.1, c.2.act, had_ended place c.0 d c.2);
      before = still_before;
    };
    timed = tied_before;
  }

  -- ---- and the other way round

  -- what ends first in the cut log ends first, or meets the other
  pub was_before : (a b : ℕ) → EndsBefore cut a b → EndsBefore calls a b ⊎ ((i : ℕ) × (tie : Tie) × (slice_get ties i ≡ Some tie) × (tie.earlier ≡ a) × (tie.later ≡ b))
  was_before a b e =
      let one = k.back a e.one e.one_is in
      let other = k.back b e.other e.other_is in
      let less = e.before in
      elim (end_cases one.0.end) [
        | inr open_end ↦ absurd (none_some e.one.end (one.2.open_end open_end) (is_some_of e.one.end e.end e.ended))
        | inl f ↦ elim (cases_lt f.0 other.0.begin) [
          | inl before ↦ inl (record { one = one.0; other = other.0; end = f.0; one_is = one.1; other_is = other.1; ended = f.1; before = before })
          | inr not_before ↦ elim (one.2.end f.0 f.1) [
            | inr free ↦
                let end_is = one_end e.one.end e.end (4 * f.0 + 3) e.ended free.1 in
                absurd (elim other.2.begin [ inl late ↦ let b_is = late.1 in omega (arith, less, b_is, end_is, not_before) | inr first ↦ let b_is = first.1 in omega (arith, less, b_is, end_is, not_before) ])
            | inl tied ↦
                let end_is = one_end e.one.end e.end (4 * f.0 + 1) e.ended tied.1 in
                elim other.2.begin [
                  | inr first ↦ let b_is = first.1 in absurd (omega (arith, less, b_is, end_is, not_before))
                  | inl late ↦
                      let b_is = late.1 in
                      let stamps : f.0 ≡ other.0.begin = omega (arith, less, b_is, end_is, not_before) in
                      inr (meets one.0 other.0 f.0 one.1 other.1 f.1 stamps tied.0 late.0)
                ]
          ]
        ]
      ]
    where
      meets : (c d : Call) (time : ℕ) → slice_get calls a ≡ Some c → slice_get calls b ≡ Some d → c.end ≡ Some time → time ≡ d.begin → IsEarlier ties a → IsLater ties b → (i : ℕ) × (tie : Tie) × (slice_get ties i ≡ Some tie) × (tie.earlier ≡ a) × (tie.later ≡ b)
      meets c d time c_is d_is ends stamps (i, one, one_is, earlier) (j, other, other_is, later) =
          let m = alone.meet i one one_is in
          let n = alone.meet j other other_is in
          let first = one_at calls a m.1.one c (ap (slice_get calls) (sym earlier) ∙ m.1.one_is) c_is in
          let second = one_at calls b n.1.other d (ap (slice_get calls) (sym later) ∙ n.1.other_is) d_is in
          let m_time : m.0 ≡ time = one_end c.end m.0 time (ap (λ (x : Call). x.end) (sym first) ∙ m.1.ends) ends in
          let n_time : n.0 ≡ time = sym n.1.begins ∙ ap (λ (x : Call). x.begin) second ∙ sym stamps in
          let l = alone.lone i j time one other one_is other_is (subst (MeetAt calls one) m_time m.1) (subst (MeetAt calls other) n_time n.1) in
          (i, one, one_is, earlier, l.1 ∙ later)

into_cut : (rules plain : Rules) (calls cut : List Call) (order : List Step) → AreWithoutTies rules plain → AreLone calls rules.ties.items → IsCut rules.ties.items calls cut → IsOrder rules calls order → IsOrder plain cut order
into_cut rules plain calls cut order same alone k o = into_finer calls cut (cut_timed rules.ties.items calls cut alone k).finer rules plain order same.capacity same.closes (subst (λ (l : List Tie). RespectsLines l order) (sym same.none) (λ i tie is. cc)) (λ i j s t less s_is t_is ends. elim (was_before rules.ties.items calls cut alone k t.place s.place ends) [
  | inl before ↦ o.in_time i j s t less s_is t_is before
  | inr tied ↦ o.in_line tied.0 tied.1 tied.2 i j s t less s_is t_is (sym tied.4) (sym tied.3)
]) o

-- an order of a log that is cut so that times order all calls is one of the log
pub untimed : (rules plain : Rules) (calls cut : List Call) → AreWithoutTies rules plain → IsTimed rules.ties.items calls cut → IsLinearizable plain cut → IsLinearizable rules calls
untimed rules plain calls cut same timed o = (o.0, unfiner calls cut timed.finer rules plain o.0 (record { capacity = same.capacity; closes = same.closes; of = subst (λ (l : List Tie). (i : ℕ) (tie : Tie) → slice_get l i ≡ Some tie → (k : ℕ) × (slice_get rules.ties.items k ≡ Some tie)) (sym same.none) (λ i tie is. cc); all = λ i tie is. inl (timed.timed i tie is) }) o.1)

-- ---- there is a cut log

-- a tie has this place as the earlier one, or as the later one
abbrev IsTied : (Tie → ℕ) → List Tie → (place : ℕ) → Type 0
IsTied which ties p = (i : ℕ) × (tie : Tie) × (slice_get ties i ≡ Some tie) × (which tie ≡ p)

is_tied : (which : Tie → ℕ) (ties : List Tie) (p : ℕ) → IsTied which ties p ⊎ (IsTied which ties p → ⊥)
is_tied which [] p = inr (λ e. let is = e.2 in cc)
is_tied which (x ∷ ties) p = elim (nat_cases (which x) p) [
  | inl same ↦ inl (0, x, refl, same)
  | inr other ↦ elim (is_tied which ties p) [ inl e ↦ inl (suc e.0, e.1, e.2, e.3) | inr none ↦ inr (λ e. neither other none e.0 e.1 e.2 e.3) ]
]
  where
    neither : which x ≢ p → (IsTied which ties p → ⊥) → (i : ℕ) (tie : Tie) → slice_get (x ∷ ties) i ≡ Some tie → which tie ≡ p → ⊥
    neither other none zero tie is at = let e : x ≡ tie = cc in other (ap which e ∙ at)
    neither other none (suc i) tie is at = none (i, tie, is, at)

cut_begin : (ties : List Tie) (p b : ℕ) → (n : ℕ) × ((IsLater ties p × (n ≡ 4 * b + 2)) ⊎ ((IsLater ties p → ⊥) × (n ≡ 4 * b)))
cut_begin ties p b = elim (is_tied (λ (tie : Tie). tie.later) ties p) [ inl late ↦ (4 * b + 2, inl (late, refl)) | inr first ↦ (4 * b, inr (first, refl)) ]

-- a cut end
record CutEnd (ties : List Tie) (p : ℕ) (o : Option ℕ) : Type 0 where
  q : Option ℕ
  open_end : o ≡ None → q ≡ None
  end : (time : ℕ) → o ≡ Some time → (IsEarlier ties p × (q ≡ Some (4 * time + 1))) ⊎ ((IsEarlier ties p → ⊥) × (q ≡ Some (4 * time + 3)))

cut_end : (ties : List Tie) (p : ℕ) (o : Option ℕ) → CutEnd ties p o
cut_end ties p None = record { q = None; open_end = λ is. refl; end = λ time is. cc }
cut_end ties p (Some e) = elim (is_tied (λ (tie : Tie). tie.earlier) ties p) [
  | inl tied ↦ record { q = Some (4 * e + 1); open_end = λ is. cc; end = λ time is. let t = one_end (Some e) e time refl is in inl (tied, ap (λ (n : ℕ). Some (4 * n + 1)) t) }
  | inr free ↦ record { q = Some (4 * e + 3); open_end = λ is. cc; end = λ time is. let t = one_end (Some e) e time refl is in inr (free, ap (λ (n : ℕ). Some (4 * n + 3)) t) }
]

cut_call : (ties : List Tie) (p : ℕ) (c : Call) → (d : Call) × CutCall ties p c d
cut_call ties p c =
    let b = cut_begin ties p c.begin in
    let e = cut_end ties p c.end in
    (record { begin = b.0; end = e.q; act = c.act }, record { act = refl; begin = b.1; open_end = e.open_end; end = e.end })

cut_there : (ties : List Tie) (calls : List Call) → (cut : List Call) × IsCut ties calls cut
cut_there ties calls = let c = choose (CutCall ties) calls (λ p c is. cut_call ties p c) in (c.ds, record { there = c.there; back = c.back })

pub cut_logs_are_exact : CutLogsAreExact
cut_logs_are_exact = record {
  exact = λ rules plain calls cut same alone k o. (o.0, into_cut rules plain calls cut o.0 same alone k o.1);
  sound = λ rules plain calls cut same alone k. untimed rules plain calls cut same (cut_timed rules.ties.items calls cut alone k);
  there = cut_there;
}
