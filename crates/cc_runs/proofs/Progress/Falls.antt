-- Numbers that fall: in a round, with the first step of a pass that must move; and over rounds.
use Rattle.std.proofs.Common.{◌≡◌, ◌≢◌, ◌⊎◌, ℕ, suc, ◌+◌, ◌<◌, ◌≤◌, true, List, [], ◌∷◌, ◌++◌, length, refl, ap, sym, ◌∙◌, subst, arith, append_assoc, inl, inr}
use Rattle.std.proofs.lemmas.Bool.{cases_eq}
use Rattle.cc_runs.specs.Names.{Setting, Chain, Event, Phase, Move}
use Rattle.cc_runs.specs.State.{State}
use Rattle.cc_runs.specs.Lines.{event_at}
use Rattle.cc_runs.specs.Run.{IsIdle, IsFinished, reached, IsRun, May, moved}
use Rattle.cc_runs.specs.Passes.{pass_of, by}
use Rattle.cc_runs.specs.Turns.{is_in}
use Rattle.cc_runs.specs.Progress.{IsRound, moves_in, AreRounds}
use Rattle.cc_runs.proofs.RunPrefixes.{prefixes_begin}
use Rattle.cc_runs.proofs.Passes.{by-other}

idle_event : (at : Phase) → IsIdle at → event_at at ≡ Event.Idle
idle_event at is = grind arith

pub finished_event : (at : Phase) → IsFinished at → event_at at ≡ Event.Idle
finished_event at is = grind arith

-- a pass in its call has a step
pub in_event : (at : Phase) → is_in at ≡ true → event_at at ≢ Event.Idle
in_event at inside = grind arith

-- a number that no move makes more, and that the step of pass q makes less while this holds, which other passes leave so
pub record Lessens (c : Setting) (q : ℕ) (f : State → ℕ) (P : State → Type 0) (s : State) (m : Move) : Type 0 where
  pub le : f (moved c s m) ≤ f s
  pub lt : m ≡ Move.Step q → P s → f (moved c s m) < f s
  pub stays : pass_of m ≢ q → P s → P (moved c s m)

-- a pass that has a step to do can do nothing else
pub its_step : (s : State) (m : Move) (c : Setting) → May c s m → event_at (s.stand (pass_of m)).phase ≢ Event.Idle → m ≡ Move.Step (pass_of m)
its_step s (Move.Step p) c may busy = refl
its_step s (Move.Begin p call known) c may busy = absurd (busy (idle_event (s.stand p).phase may.2))
its_step s (Move.Take p) c may busy = absurd (busy (finished_event (s.stand p).phase may.1))

-- along moves that are good: each prefix of them is, and is a run
module _ (c : Setting) (q : ℕ) (f : State → ℕ) (P : State → Type 0) (busy : (s : State) → P s → event_at (s.stand q).phase ≢ Event.Idle) (seen : List Move)
    (Good : List Move → Type 0) (run : (now : List Move) → Good now → IsRun c (now ++ seen)) (rest : (m : Move) (now : List Move) → Good (m ∷ now) → Good now)
    (law : (m : Move) (now : List Move) → Good (m ∷ now) → Lessens c q f P (reached c (now ++ seen)) m) where
  no_more_in : (now : List Move) → Good now → f (reached c (now ++ seen)) ≤ f (reached c seen)
  no_more_in [] good = omega arith
  no_more_in (m ∷ now) good = omega (arith, (law m now good).le, no_more_in now (rest m now good))

  -- after part of a round the pass hasn't moved yet, or the number is less
  part_of_round : (now : List Move) → Good now → P (reached c seen) → ((by q now ≡ []) × P (reached c (now ++ seen))) ⊎ (f (reached c (now ++ seen)) < f (reached c seen))
  part_of_round [] good h = inl (refl, h)
  part_of_round (m ∷ now) good h = elim (part_of_round now (rest m now good) h) [
    | inr less ↦ inr (omega (arith, less, (law m now good).le))
    | inl v ↦ elim (cases_eq (pass_of m) q) [
      | inl same ↦
          let step : m ≡ Move.Step (pass_of m) = its_step (reached c (now ++ seen)) m c (run (m ∷ now) good).1 (subst (λ (z : ℕ). event_at ((reached c (now ++ seen)).stand z).phase ≢ Event.Idle) (sym same) (busy (reached c (now ++ seen)) v.1)) in
          inr (omega (arith, no_more_in now (rest m now good), (law m now good).lt (step ∙ ap (λ (z : ℕ). Move.Step z) same) v.1))
      | inr ne ↦ inl (by-other (pass_of m) q m now refl ne v.0, (law m now good).stays ne v.1)
    ]
  ]

  -- so a number falls in which it moves
  pub falls_in : (now : List Move) → Good now → P (reached c seen) → by q now ≢ [] → f (reached c (now ++ seen)) < f (reached c seen)
  falls_in now good h moves = elim (part_of_round now good h) [ inl v ↦ absurd (moves v.0) | inr less ↦ less ]

-- along any run
pub falls_in_run : (c : Setting) (q : ℕ) (f : State → ℕ) (P : State → Type 0) → ((s : State) → P s → is_in (s.stand q).phase ≡ true) → (seen : List Move) →
    ((now : List Move) → IsRun c (now ++ seen) → (m : Move) → May c (reached c (now ++ seen)) m → Lessens c q f P (reached c (now ++ seen)) m) →
    (now : List Move) → IsRun c (now ++ seen) → P (reached c seen) → by q now ≢ [] → f (reached c (now ++ seen)) < f (reached c seen)
falls_in_run c q f P inside seen law =
    falls_in c q f P (λ s h. in_event (s.stand q).phase (inside s h)) seen (λ now. IsRun c (now ++ seen)) (λ now run. run) (λ m now run. run.0) (λ m now run. law now run.0 m run.1)

-- ---- over rounds

-- what holds at the end of a round held at its beginning, and in such a round the number falls
pub record FallsInRounds (c : Setting) (x : Chain) (Must : State → ℕ → Type 0) (f : State → ℕ) (P : List Move → Type 0) (seen : List Move) : Type 0 where
  pub back : (later earlier : List Move) → IsRun c (later ++ (earlier ++ seen)) → P (later ++ (earlier ++ seen)) → P (earlier ++ seen)
  pub falls : (now earlier : List Move) → IsRun c (now ++ (earlier ++ seen)) → IsRound Must c x (earlier ++ seen) now → P (now ++ (earlier ++ seen)) → f (reached c (now ++ (earlier ++ seen))) < f (reached c (earlier ++ seen))

module _ (c : Setting) (x : Chain) (Must : State → ℕ → Type 0) (f : State → ℕ) (P : List Move → Type 0) (seen : List Move) (law : FallsInRounds c x Must f P seen) where
  pub over_rounds : (rounds : List (List Move)) → IsRun c (moves_in rounds ++ seen) → AreRounds Must c x seen rounds → P (moves_in rounds ++ seen) → f (reached c (moves_in rounds ++ seen)) + length rounds ≤ f (reached c seen)
  over_rounds [] run fair holds = none_more (f (reached c seen))
    where
      none_more : (m : ℕ) → m + 0 ≤ m
      none_more m = omega arith
  over_rounds (now ∷ earlier) run fair holds =
      let joined : (now ++ moves_in earlier) ++ seen ≡ now ++ (moves_in earlier ++ seen) = append_assoc now (moves_in earlier) seen in
      let run2 : IsRun c (now ++ (moves_in earlier ++ seen)) = subst (IsRun c) joined run in
      let at_end : P (now ++ (moves_in earlier ++ seen)) = subst P joined holds in
      let before : P (moves_in earlier ++ seen) = law.back now (moves_in earlier) run2 at_end in
      let so_far : f (reached c (moves_in earlier ++ seen)) + length earlier ≤ f (reached c seen) = over_rounds earlier (prefixes_begin c now (moves_in earlier ++ seen) run2).0 fair.0 before in
      subst (λ (l : List Move). f (reached c l) + suc (length earlier) ≤ f (reached c seen)) (sym joined)
      (sum_up (f (reached c (now ++ (moves_in earlier ++ seen)))) (f (reached c (moves_in earlier ++ seen))) (length earlier) (f (reached c seen)) (law.falls now (moves_in earlier) run2 fair.1 at_end) so_far)
    where
      sum_up : (a b m t : ℕ) → a < b → b + m ≤ t → a + suc m ≤ t
      sum_up a b m t less so_far = omega (arith, less, so_far)
