-- Orders of the calls of a small run of a queue with two groups.
use Rattle.std.proofs.Common.{◌≡◌, ℕ, zero, suc, false, true, List, [], ◌∷◌, ◌++◌, length, Some, refl, sym, ap, ◌∙◌, arith, length-append}
use Rattle.std.specs.List.{slice_get}
use Rattle.cc_runs.specs.State.{chain_of}
use Rattle.cc_agree.specs.Names.{Call, Answer, TakeAnswer, Chain, Move}
use Rattle.cc_agree.specs.RealTime.{Begins, Returns, Point, IsCallOf, HasCall}
use Rattle.cc_agree.specs.SmallCalls.{two_groups, steps, small_run, a_take, first, second, SmallCalls}
use Rattle.cc_agree.proofs.Lists.{two_ends}

off : false ≡ true → ⊥
off e = absurd (cc)

first_returned : Returns two_groups small_run 0 14 (Answer.Take TakeAnswer.Empty)
first_returned = record { pass = 2; call = Call.Take; known = 0; later = Move.Begin 3 Call.Take 0 ∷ []; during = steps 2 13 []; before = []; split = refl; begin_is = refl; end_is = refl; own = tt; answer_is = refl }

-- the move at the time at which a call began is its begin
at_begin : (e : Point) (front back : List Move) (m : Move) → small_run ≡ front ++ m ∷ back → (c : IsCallOf two_groups small_run e) → length back ≡ e.begin → m ≡ Move.Begin c.pass c.begins.call c.begins.known
at_begin e front back m split c time = by_mid ends.0 ends.1
  where
    b : Begins two_groups small_run e.begin c.pass e.effect.entry
    b = c.begins

    ends : (mid : List Move) × (m ∷ back ≡ mid ++ Move.Begin c.pass c.begins.call c.begins.known ∷ c.begins.before)
    ends = two_ends b.later (Move.Begin c.pass b.call b.known ∷ b.before) front (m ∷ back) (sym b.split ∙ split) (omega (arith, time, b.begin_is))

    by_mid : (mid : List Move) → m ∷ back ≡ mid ++ Move.Begin c.pass c.begins.call c.begins.known ∷ c.begins.before → m ≡ Move.Begin c.pass c.begins.call c.begins.known
    by_mid [] e = cc
    by_mid (x ∷ mid) e = absurd (omega (arith, ap length e, length-append mid (Move.Begin c.pass b.call b.known ∷ b.before), time, b.begin_is))

not_there : HasCall (second ∷ []) 0 (Answer.Take TakeAnswer.Empty) → ⊥
not_there h = by_place h.at h.point_is
  where
    by_place : (at : ℕ) → slice_get (second ∷ []) at ≡ Some h.point → ⊥
    by_place zero is = let same : second ≡ h.point = cc in omega (arith, ap (λ (z : Point). z.begin) same, h.begin_is)
    by_place (suc at) is = absurd (cc)

no_begin : IsCallOf two_groups small_run (a_take 1 3 TakeAnswer.Empty) → ⊥
no_begin c =
    let same : Move.Step 2 ≡ Move.Begin c.pass c.begins.call c.begins.known = at_begin (a_take 1 3 TakeAnswer.Empty) (Move.Begin 3 Call.Take 0 ∷ Move.Take 2 ∷ steps 2 10 []) (steps 2 2 (Move.Begin 2 Call.Take 0 ∷ [])) (Move.Step 2) refl c refl in
    absurd (cc)

no_group : IsCallOf two_groups small_run (a_take 0 15 TakeAnswer.Empty) → ⊥
no_group c =
    let same : Move.Begin 3 Call.Take 0 ≡ Move.Begin c.pass c.begins.call c.begins.known = at_begin (a_take 0 15 TakeAnswer.Empty) [] (Move.Take 2 ∷ steps 2 13 (Move.Begin 2 Call.Take 0 ∷ [])) (Move.Begin 3 Call.Take 0) refl c refl in
    let pass_is : 3 ≡ c.pass = cc in
    let groups : Chain.Take 0 ≡ Chain.Take 1 = c.chain_is ∙ ap (chain_of two_groups.config) (sym pass_is) in
    let no : ◌≡◌ {A = ℕ} 0 1 = cc in
    omega (arith, no)

pub small_calls : SmallCalls
small_calls = record {
  run = ((((((((((((((((tt, (omega arith, tt, tt, omega arith, omega arith)), (omega arith, λ e. cc)), (omega arith, λ e. cc)), (omega arith, λ e. cc)), (omega arith, λ e. cc)), (omega arith, λ e. cc)), (omega arith, λ e. cc)), (omega arith, λ e. cc)), (omega arith, λ e. cc)), (omega arith, λ e. cc)), (omega arith, λ e. cc)), (omega arith, λ e. cc)), (omega arith, λ e. cc)), (omega arith, λ e. cc)), (omega arith, tt)), (omega arith, tt, tt, omega arith, omega arith));
  returned = first_returned;
  exact = (((tt, omega arith, (omega arith, omega arith, refl), (refl, refl)), omega arith, (omega arith, omega arith, refl), (refl, refl)));
  exact_turned = (((tt, omega arith, (omega arith, omega arith, refl), (refl, refl)), omega arith, (omega arith, omega arith, refl), (refl, refl)));
  turned_round = λ o. omega (arith, o.in_time 0 1 first second refl refl (record { end = 14; answer = Answer.Take TakeAnswer.Empty; returned = first_returned; earlier = omega arith }));
  left_out = λ o. not_there (o.whole 0 14 (Answer.Take TakeAnswer.Empty) first_returned);
  with_another_answer = λ o. off o.exact.0.3.0;
  twice = λ o. omega (arith, o.once 1 2 first first refl refl refl);
  never_begun = λ o. no_begin (o.each 1 (a_take 1 3 TakeAnswer.Empty) refl);
  of_another_group = λ o. no_group (o.each 0 (a_take 0 15 TakeAnswer.Empty) refl);
}
