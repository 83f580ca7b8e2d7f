-- A log that is cut between two calls has the orders of the log, at one of the times at which both were under way.
use Rattle.std.proofs.Common.{◌≡◌, ◌≢◌, ℕ, zero, suc, ◌<◌, ◌≤◌, ◌⊎◌, inl, inr, List, [], ◌∷◌, Some, IsSome, refl, sym, ap, ◌∙◌, subst, arith}
use Rattle.std.specs.List.{slice_get}
use Rattle.std.proofs.lemmas.Bool.{cases_lt}
use Rattle.cc_judge.specs.Names.{Call, Rules, Step, Tie}
use Rattle.cc_judge.specs.Order.{EndsBefore, IsLinearizable, IsOfLog, IsOrder}
use Rattle.cc_judge.specs.Faultless.{IsWritten}
use Rattle.cc_judge.specs.Splits.{AreLeft, DoTouch, IsFiner, IsSplit, MaySplit, SplitCall, SplitsAreExact}
use Rattle.cc_judge.proofs.Cuts.{finer_written, into_finer, unfiner}
use Rattle.cc_judge.proofs.Calls.{end_cases, is_some_of, none_some, one_end}
use Rattle.cc_judge.proofs.Turns.{one_at}

-- ---- a log that is split is finer

module _ (calls cut : List Call) (tie : Tie) (time : ℕ) (may : MaySplit calls tie time) (k : IsSplit tie time calls cut) where
  ended : (p : ℕ) (c d : Call) → SplitCall tie time p c d → IsSome c.end → IsSome d.end
  ended p c d h some = elim (end_cases c.end) [ inr open_end ↦ absurd (none_some c.end open_end some) | inl e ↦ let n = h.end e.0 e.1 in is_some_of d.end n.0 n.1 ]

  had_ended : (p : ℕ) (c d : Call) → SplitCall tie time p c d → IsSome d.end → IsSome c.end
  had_ended p c d h some = elim (end_cases c.end) [ inr open_end ↦ absurd (none_some d.end (h.open_end open_end) some) | inl e ↦ is_some_of c.end e.0 e.1 ]

  -- of the earlier call, and of the later one
  by_end : (c : Call) (e : ℕ) → slice_get calls tie.earlier ≡ Some c → c.end ≡ Some e → time ≤ e
  by_end c e is ends = may.earlier.until e (ap (λ (x : Call). x.end) (one_at calls tie.earlier may.earlier.call c may.earlier.call_is is) ∙ ends)

  by_begin : (c : Call) → slice_get calls tie.later ≡ Some c → c.begin ≤ time
  by_begin c is = subst (λ (x : Call). x.begin ≤ time) (one_at calls tie.later may.later.call c may.later.call_is is) may.later.begun

  still_before : (a b : ℕ) → EndsBefore calls a b → EndsBefore cut a b
  still_before a b e =
      let one = k.there a e.one e.one_is in
      let other = k.there b e.other e.other_is in
      let new = one.2.end e.end e.ended in
      let less = e.before in
      record {
        one = one.0;
        other = other.0;
        end = new.0;
        one_is = one.1;
        other_is = other.1;
        ended = new.1;
        before = elim new.2 [
          | inl early ↦
              let by = by_end e.one e.end (ap (slice_get calls) (sym early.0) ∙ e.one_is) e.ended in
              let is = early.1 in
              elim other.2.begin [
                | inl late ↦ let b_is = late.1 in omega (arith, is, b_is)
                | inr free ↦ elim free.1 [ inl low ↦ let at = low.0 in omega (arith, by, less, at) | inr high ↦ let at = high.1 in omega (arith, by, less, is, at) ]
              ]
          | inr free ↦ elim other.2.begin [
            | inl late ↦
                let by = by_begin e.other (ap (slice_get calls) (sym late.0) ∙ e.other_is) in
                let b_is = late.1 in
                elim free.1 [ inl low ↦ let is = low.1 in omega (arith, by, less, is, b_is) | inr high ↦ let at = high.0 in omega (arith, by, less, at) ]
            | inr too ↦ elim free.1 [
              | inl low ↦ let is = low.1 in elim too.1 [ inl first ↦ let b_is = first.1 in omega (arith, less, is, b_is) | inr second ↦ let b_is = second.1 in omega (arith, less, is, b_is) ]
              | inr high ↦ let is = high.1 in let at = high.0 in elim too.1 [ inl first ↦ let by = first.0 in omega (arith, less, at, by) | inr second ↦ let b_is = second.1 in omega (arith, less, is, b_is) ]
            ]
          ]
        ];
      }

  pub split_finer : IsFiner calls cut
  split_finer = record {
    there = λ place c is. let d = k.there place c is in (d.0, d.1, d.2.act, ended place c d.0 d.2);
    back = λ place d is. let c = k.back place d is in (c.0, c.1, c.2.act, had_ended place c.0 d c.2);
    before = still_before;
  }

  pub split_before : (c : Call) → slice_get calls tie.earlier ≡ Some c → IsSome c.end → EndsBefore cut tie.earlier tie.later
  split_before c is some =
      let one = k.there tie.earlier c is in
      let other = k.there tie.later may.later.call may.later.call_is in
      elim (end_cases c.end) [
        | inr open_end ↦ absurd (none_some c.end open_end some)
        | inl e ↦
            let new = one.2.end e.0 e.1 in
            record {
              one = one.0;
              other = other.0;
              end = new.0;
              one_is = one.1;
              other_is = other.1;
              ended = new.1;
              before = elim new.2 [
                | inr free ↦ absurd (free.0 refl)
                | inl early ↦ elim other.2.begin [ inr free ↦ absurd (free.0 refl) | inl late ↦ let is = early.1 in let b_is = late.1 in omega (arith, is, b_is) ]
              ];
            }
      ]

  pub split_written : tie.earlier ≢ tie.later → IsWritten calls → IsWritten cut
  split_written apart written = finer_written calls cut split_finer written (λ p d f is ends. let c = k.back p d is in timed p c.0 d f c.1 c.2 ends)
    where
      timed : (p : ℕ) (c d : Call) (f : ℕ) → slice_get calls p ≡ Some c → SplitCall tie time p c d → d.end ≡ Some f → d.begin ≤ f
      timed p c d f is h ends = elim (end_cases c.end) [
        | inr open_end ↦ absurd (none_some d.end (h.open_end open_end) (is_some_of d.end f ends))
        | inl e ↦
            let new = h.end e.0 e.1 in
            let same : f ≡ new.0 = one_end d.end f new.0 ends new.1 in
            let le = written.timed p c e.0 is e.1 in
            elim new.2 [
              | inl early ↦
                  let first = one_at calls p may.earlier.call c (ap (slice_get calls) early.0 ∙ may.earlier.call_is) is in
                  let begun : c.begin ≤ time = subst (λ (x : Call). x.begin ≤ time) first may.earlier.begun in
                  let f_is = early.1 in
                  elim h.begin [
                    | inl late ↦ absurd (apart (sym early.0 ∙ late.0))
                    | inr free ↦ elim free.1 [ inl low ↦ let b_is = low.1 in omega (arith, begun, b_is, f_is, same) | inr high ↦ let at = high.0 in omega (arith, begun, at) ]
                  ]
              | inr free ↦ elim h.begin [
                | inl late ↦
                    let second = one_at calls p may.later.call c (ap (slice_get calls) late.0 ∙ may.later.call_is) is in
                    let until : time ≤ e.0 = may.later.until e.0 (ap (λ (x : Call). x.end) second ∙ e.1) in
                    let b_is = late.1 in
                    elim free.1 [ inl low ↦ let at = low.0 in omega (arith, until, at) | inr high ↦ let f_is = high.1 in omega (arith, until, b_is, f_is, same) ]
                | inr too ↦ elim free.1 [
                  | inl low ↦ let f_is = low.1 in let at = low.0 in elim too.1 [ inl first ↦ let b_is = first.1 in omega (arith, le, b_is, f_is, same) | inr second ↦ let by = second.0 in omega (arith, le, at, by) ]
                  | inr high ↦ let f_is = high.1 in elim too.1 [ inl first ↦ let b_is = first.1 in omega (arith, le, b_is, f_is, same) | inr second ↦ let b_is = second.1 in omega (arith, le, b_is, f_is, same) ]
                ]
              ]
            ]
      ]

  -- what ends first in the split log ends first in the log, or that is so by the cut
  AsCut : (a b : ℕ) → Type 0
  AsCut a b = ((a ≡ tie.earlier) × (b ≡ tie.later)) ⊎ (((a ≡ tie.earlier) × (c : Call) × (slice_get calls b ≡ Some c) × (time < c.begin)) ⊎ ((b ≡ tie.later) × (c : Call) × (e : ℕ) × (slice_get calls a ≡ Some c) × (c.end ≡ Some e) × (e < time)))

  was_before : (a b : ℕ) → EndsBefore cut a b → EndsBefore calls a b ⊎ AsCut a b
  unfolding AsCut
  was_before a b e =
      let one = k.back a e.one e.one_is in
      let other = k.back b e.other e.other_is in
      let less = e.before in
      elim (end_cases one.0.end) [
        | inr open_end ↦ absurd (none_some e.one.end (one.2.open_end open_end) (is_some_of e.one.end e.end e.ended))
        | inl f ↦
            let new = one.2.end f.0 f.1 in
            let same : e.end ≡ new.0 = one_end e.one.end e.end new.0 e.ended new.1 in
            let ends : f.0 < other.0.begin → EndsBefore calls a b = λ before. record { one = one.0; other = other.0; end = f.0; one_is = one.1; other_is = other.1; ended = f.1; before = before } in
            elim new.2 [
              | inl early ↦ elim other.2.begin [
                | inl late ↦ inr (inl (early.0, late.0))
                | inr free ↦ elim free.1 [
                  | inl low ↦ let is = early.1 in let b_is = low.1 in let by = low.0 in absurd (omega (arith, less, same, is, b_is, by))
                  | inr high ↦ inr (inr (inl (early.0, other.0, other.1, high.0)))
                ]
              ]
              | inr free ↦ elim other.2.begin [
                | inl late ↦ elim free.1 [
                  | inl low ↦ inr (inr (inr (late.0, one.0, f.0, one.1, f.1, low.0)))
                  | inr high ↦ let is = high.1 in let b_is = late.1 in let by = high.0 in absurd (omega (arith, less, same, is, b_is, by))
                ]
                | inr too ↦ inl (ends (elim free.1 [
                  | inl low ↦ let is = low.1 in let at = low.0 in elim too.1 [ inl first ↦ let b_is = first.1 in omega (arith, less, same, is, b_is) | inr second ↦ let by = second.0 in omega (arith, at, by) ]
                  | inr high ↦ let is = high.1 in elim too.1 [ inl first ↦ let b_is = first.1 in let at = high.0 in let by = first.0 in omega (arith, less, same, is, b_is, at, by) | inr second ↦ let b_is = second.1 in omega (arith, less, same, is, b_is) ]
                ]))
              ]
            ]
      ]

-- ---- the time at which an order cuts

-- of the steps up to this one the last to begin
record Latest (calls : List Call) (order : List Step) (upto : ℕ) : Type 0 where
  at : ℕ
  step : Step
  call : Call
  by : at ≤ upto
  step_is : slice_get order at ≡ Some step
  call_is : slice_get calls step.place ≡ Some call
  most : (j : ℕ) (s : Step) (c : Call) → j ≤ upto → slice_get order j ≡ Some s → slice_get calls s.place ≡ Some c → c.begin ≤ call.begin

step_before : (order : List Step) (n : ℕ) (s : Step) → slice_get order (suc n) ≡ Some s → (t : Step) × (slice_get order n ≡ Some t)
step_before [] n s is = absurd (cc (is))
step_before (x ∷ order) zero s is = (x, refl)
step_before (x ∷ order) (suc n) s is = step_before order n s is

here : (calls : List Call) (order : List Step) (n j : ℕ) (s u : Step) (c d : Call) → j ≤ n → n ≤ j → slice_get order n ≡ Some s → slice_get order j ≡ Some u → slice_get calls s.place ≡ Some c → slice_get calls u.place ≡ Some d → d.begin ≡ c.begin
here calls order n j s u c d by not_before s_is u_is c_is d_is =
    let at : n ≡ j = omega (arith, by, not_before) in
    let same = one_at order j u s u_is (ap (slice_get order) (sym at) ∙ s_is) in
    ap (λ (x : Call). x.begin) (one_at calls s.place d c (ap (λ (x : Step). slice_get calls x.place) (sym same) ∙ d_is) c_is)

latest : (calls : List Call) (order : List Step) → IsOfLog calls order → (upto : ℕ) (s : Step) → slice_get order upto ≡ Some s → Latest calls order upto
latest calls order of zero s is =
    let i = of 0 s is in
    record {
      at = 0;
      step = s;
      call = i.call;
      by = omega arith;
      step_is = is;
      call_is = i.call_is;
      most = λ j u c by u_is c_is. let begins = here calls order 0 j s u i.call c by (omega arith) is u_is i.call_is c_is in omega (arith, begins);
    }
latest calls order of (suc n) s is =
    let i = of (suc n) s is in
    let t = step_before order n s is in
    let l = latest calls order of n t.0 t.1 in
    elim (cases_lt l.call.begin i.call.begin) [
      | inl less ↦ record {
        at = suc n;
        step = s;
        call = i.call;
        by = omega arith;
        step_is = is;
        call_is = i.call_is;
        most = λ j u c by u_is c_is. elim (cases_lt j (suc n)) [
          | inl before ↦ let m = l.most j u c (omega (arith, before)) u_is c_is in omega (arith, m, less)
          | inr not_before ↦ let begins = here calls order (suc n) j s u i.call c by not_before is u_is i.call_is c_is in omega (arith, begins)
        ];
      }
      | inr not_less ↦ record {
        at = l.at;
        step = l.step;
        call = l.call;
        by = let b = l.by in omega (arith, b);
        step_is = l.step_is;
        call_is = l.call_is;
        most = λ j u c by u_is c_is. elim (cases_lt j (suc n)) [
          | inl before ↦ l.most j u c (omega (arith, before)) u_is c_is
          | inr not_before ↦ let begins = here calls order (suc n) j s u i.call c by not_before is u_is i.call_is c_is in omega (arith, begins, not_less)
        ];
      }
    ]

module _ (rules : Rules) (calls : List Call) (i : ℕ) (tie : Tie) (tie_is : slice_get rules.ties.items i ≡ Some tie) (written : IsWritten calls) (touch : DoTouch calls tie) (order : List Step) (o : IsOrder rules calls order) where
  one_place : (j k : ℕ) (s t : Step) → slice_get order j ≡ Some s → slice_get order k ≡ Some t → s.place ≡ t.place → j ≡ k
  one_place j k s t s_is t_is places = elim (cases_lt j k) [
    | inl less ↦ absurd (o.once j k s t less s_is t_is places)
    | inr not_less ↦ elim (cases_lt k j) [ inl more ↦ absurd (o.once k j t s more t_is s_is (sym places)) | inr not_more ↦ omega (arith, not_less, not_more) ]
  ]

  -- a call that ended before the call of a step began has no step there or after it
  past : (j k : ℕ) (s t : Step) (c d : Call) (e : ℕ) → slice_get order j ≡ Some s → slice_get order k ≡ Some t → slice_get calls s.place ≡ Some c → slice_get calls t.place ≡ Some d → d.end ≡ Some e → e < c.begin → k < j
  past j k s t c d e s_is t_is c_is d_is ends less = elim (cases_lt k j) [
    | inl before ↦ before
    | inr not_before ↦ elim (cases_lt j k) [
      | inl after ↦ absurd (o.in_time j k s t after s_is t_is (record { one = d; other = c; end = e; one_is = d_is; other_is = c_is; ended = ends; before = less }))
      | inr not_after ↦
          let at : j ≡ k = omega (arith, not_before, not_after) in
          let same = one_at order k s t (ap (slice_get order) (sym at) ∙ s_is) t_is in
          let one = one_at calls t.place c d (ap (λ (x : Step). slice_get calls x.place) (sym same) ∙ c_is) d_is in
          let begins = ap (λ (x : Call). x.begin) one in
          let timed = written.timed t.place d e d_is ends in
          absurd (omega (arith, less, begins, timed))
    ]
  ]

  -- the step of the earlier call is before one of the later
  in_turn : (j k : ℕ) (s t : Step) → slice_get order j ≡ Some s → slice_get order k ≡ Some t → s.place ≡ tie.earlier → t.place ≡ tie.later → j < k
  in_turn j k s t s_is t_is first second = elim (cases_lt j k) [
    | inl before ↦ before
    | inr not_before ↦ elim (cases_lt k j) [
      | inl after ↦ absurd (o.in_line i tie tie_is k j t s after t_is s_is second first)
      | inr not_after ↦
          let at : j ≡ k = omega (arith, not_before, not_after) in
          let same = one_at order k s t (ap (slice_get order) (sym at) ∙ s_is) t_is in
          absurd (touch.apart (sym first ∙ ap (λ (x : Step). x.place) same ∙ second))
    ]
  ]

  -- the begin of this call is a time at which the order cuts: that of the later call, or of one that is placed up to the earlier one
  record CutsAt (p place : ℕ) (call : Call) : Type 0 where
    call_is : slice_get calls place ≡ Some call
    may : MaySplit calls tie call.begin
    most : (j : ℕ) (s : Step) (c : Call) → j ≤ p → slice_get order j ≡ Some s → slice_get calls s.place ≡ Some c → c.begin ≤ call.begin
    before : (k : ℕ) (s : Step) (c : Call) (e : ℕ) → slice_get order k ≡ Some s → slice_get calls s.place ≡ Some c → c.end ≡ Some e → e < call.begin → (j : ℕ) (t : Step) → slice_get order j ≡ Some t → t.place ≡ tie.later → k < j

  cuts_at : (p : ℕ) (h : Step) → slice_get order p ≡ Some h → h.place ≡ tie.earlier → (place : ℕ) × (call : Call) × CutsAt p place call
  cuts_at p h h_is place_is =
      let l = latest calls order o.each p h h_is in
      let one_is = ap (slice_get calls) place_is ∙ touch.one_is in
      let one = l.most p h touch.one (omega arith) h_is one_is in
      let by = l.by in
      elim (cases_lt l.call.begin touch.other.begin) [
        | inl less ↦ (
          tie.later,
          touch.other,
          record {
            call_is = touch.other_is;
            may = record {
              earlier = record { call = touch.one; call_is = touch.one_is; begun = omega (arith, one, less); until = λ e ends. let t = touch.touch in let same = one_end touch.one.end e touch.end ends touch.ended in omega (arith, t, same) };
              later = record { call = touch.other; call_is = touch.other_is; begun = omega arith; until = λ e ends. written.timed tie.later touch.other e touch.other_is ends };
            };
            most = λ j s c below s_is c_is. let m = l.most j s c below s_is c_is in omega (arith, m, less);
            before = λ k s c e s_is c_is ends early j t t_is second. past j k t s touch.other c e t_is s_is (ap (slice_get calls) second ∙ touch.other_is) c_is ends early;
          },
        )
        | inr not_less ↦ (
          l.step.place,
          l.call,
          record {
            call_is = l.call_is;
            may = record {
              earlier = record {
                call = touch.one;
                call_is = touch.one_is;
                begun = one;
                until = λ e ends. elim (cases_lt e l.call.begin) [
                  | inl early ↦ let lower = past l.at p l.step h l.call touch.one e l.step_is h_is l.call_is one_is ends early in absurd (omega (arith, lower, by))
                  | inr not_early ↦ omega (arith, not_early)
                ];
              };
              later = record {
                call = touch.other;
                call_is = touch.other_is;
                begun = omega (arith, not_less);
                until = λ e ends. elim (cases_lt e l.call.begin) [
                  | inl early ↦
                      let s = o.whole tie.later touch.other touch.other_is (is_some_of touch.other.end e ends) in
                      let lower = past l.at s.at l.step s.step l.call touch.other e l.step_is s.step_is l.call_is (ap (slice_get calls) s.place_is ∙ touch.other_is) ends early in
                      let after = in_turn p s.at h s.step h_is s.step_is place_is s.place_is in
                      absurd (omega (arith, lower, by, after))
                  | inr not_early ↦ omega (arith, not_early)
                ];
              };
            };
            most = l.most;
            before = λ k s c e s_is c_is ends early j t t_is second.
                let lower = past l.at k l.step s l.call c e l.step_is s_is l.call_is c_is ends early in
                let after = in_turn p j h t h_is t_is place_is second in
                omega (arith, lower, by, after);
          },
        )
      ]

  into_split : (p place : ℕ) (h : Step) (call : Call) → slice_get order p ≡ Some h → h.place ≡ tie.earlier → CutsAt p place call → (rest : Rules) (cut : List Call) → IsSplit tie call.begin calls cut → AreLeft rules rest cut → IsOrder rest cut order
  unfolding AsCut
  into_split p place h call h_is first at rest cut k l = into_finer calls cut (split_finer calls cut tie call.begin at.may k) rules rest order l.capacity l.closes (λ n other is. let r = l.of n other is in o.in_line r.0 other r.1) (λ j n s t less s_is t_is ends. elim (was_before calls cut tie call.begin at.may k t.place s.place ends) [
    | inl before ↦ o.in_time j n s t less s_is t_is before
    | inr cuts ↦ elim cuts [
      | inl both ↦ o.in_line i tie tie_is j n s t less s_is t_is both.1 both.0
      | inr or ↦ elim or [
        | inl after ↦
            let n_is = one_place n p t h t_is h_is (after.0 ∙ sym first) in
            let m = at.most j s after.1 (omega (arith, less, n_is)) s_is after.2 in
            let late = after.3 in
            omega (arith, m, late)
        | inr before ↦ let lower = at.before n t before.1 before.2 t_is before.3 before.4 before.5 j s s_is before.0 in omega (arith, lower, less)
      ]
    ]
  ]) o

  split_exact : (place : ℕ) × (call : Call) × (slice_get calls place ≡ Some call) × MaySplit calls tie call.begin × ((rest : Rules) (cut : List Call) → IsSplit tie call.begin calls cut → AreLeft rules rest cut → IsLinearizable rest cut)
  split_exact =
      let h = o.whole tie.earlier touch.one touch.one_is (is_some_of touch.one.end touch.end touch.ended) in
      let c = cuts_at h.at h.step h.step_is h.place_is in
      (c.0, c.1, c.2.call_is, c.2.may, λ rest cut k l. (order, into_split h.at c.0 h.step c.1 h.step_is h.place_is c.2 rest cut k l))

pub splits_are_exact : SplitsAreExact
splits_are_exact = record {
  exact = λ rules calls i tie is written touch o. split_exact rules calls i tie is written touch o.0 o.1;
  sound = λ rules rest calls cut tie time may k l o. (o.0, unfiner calls cut (split_finer calls cut tie time may k) rules rest o.0 l o.1);
}
