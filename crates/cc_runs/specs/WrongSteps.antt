-- Two other machines, each with one step changed. Both are safe, and in both a call never ends: so the law that each call ends, which holds
-- of the machine, is false of them.
use Rattle.std.specs.Prelude.{◌≡◌, ◌≢◌, ℕ, ◌+◌, ◌<◌, ◌≤◌, ◌==◌, if◌then◌else◌, List, [], ◌∷◌, ◌++◌, length, Ok}
use Rattle.std.specs.List.{AllByRecursion}
use Rattle.cc_model.specs.Config.{config_fault}
use Rattle.cc_runs.specs.Names.{Setting, Chain, NodeField, ItemField, Word, Job, Parcel, Sending, Phase, Move}
use Rattle.cc_runs.specs.Words.{groups}
use Rattle.cc_runs.specs.State.{State, chain_of, hold}
use Rattle.cc_runs.specs.SendLines.{after}
use Rattle.cc_runs.specs.Step.{stepped}
use Rattle.cc_runs.specs.OnChain.{IsChain, pass_on, passes_on}
use Rattle.cc_runs.specs.Passes.{by}
use Rattle.cc_runs.specs.Run.{opening, May, IsFinished, moved}
use Rattle.cc_runs.specs.Progress.{HasStep, moves_in, all_rounds}

-- ---- the law, of any machine that has these states

-- `step` is what a step of a pass does
module _ (step : Setting → State → ℕ → State) where
  abbrev pub moved_by : Setting → State → Move → State
  moved_by c s (Move.Step p) = step c s p
  moved_by c s m = moved c s m

  abbrev pub reached_by : Setting → List Move → State
  reached_by c [] = opening c
  reached_by c (m ∷ earlier) = moved_by c (reached_by c earlier) m

  abbrev pub IsRunBy : Setting → List Move → Type 0
  IsRunBy c [] = Unit {0}
  IsRunBy c (m ∷ earlier) = IsRunBy c earlier × May c (reached_by c earlier) m

  abbrev pub AreRoundsBy : Setting → Chain → List Move → List (List Move) → Type 0
  AreRoundsBy c x seen [] = Unit {0}
  AreRoundsBy c x seen (now ∷ earlier) = AreRoundsBy c x seen earlier × ((n : ℕ) → n < passes_on c x → HasStep c x (reached_by c (moves_in earlier ++ seen)) n → by (pass_on c x n) now ≢ [])

  -- EachCallEnds, with what this step leads to
  abbrev pub EachCallEndsBy : Type 0
  EachCallEndsBy = (c : Setting) (seen : List Move) (rounds : List (List Move)) → config_fault c.config ≡ Ok tt → IsRunBy c (moves_in rounds ++ seen) → (x : Chain) → IsChain c x →
      (n : ℕ) → n < passes_on c x → HasStep c x (reached_by c seen) n → AreRoundsBy c x seen rounds → AllByRecursion (λ m. m ≢ Move.Take (pass_on c x n)) (moves_in rounds) →
      all_rounds c x ≤ length rounds → IsFinished ((reached_by c (moves_in rounds ++ seen)).stand (pass_on c x n)).phase

-- ---- the two machines

-- A combiner that finds no further call linked reads the link again, in place of a hand-over.
abbrev pub spinning_at : Setting → State → ℕ → Phase → State
spinning_at c s p (Phase.ReadNext round) = if s.mem (Word.Node (chain_of c.config p) round.at NodeField.Next) == 0 then s else stepped c s p
spinning_at c s p _ = stepped c s p

abbrev pub spinning : Setting → State → ℕ → State
spinning c s p = spinning_at c s p (s.stand p).phase

-- A send that finds no free list node looks at all of them again, in place of the answer Full.
abbrev pub scans_again : Setting → State → ℕ → Job → Parcel → ℕ → State
scans_again c s p job parcel at = record s { stand = hold s.stand p (record (s.stand p) { phase = Phase.Sending job (Sending.ReadPassed parcel (after c.config at) 1) }) }

abbrev pub rescanning_at : Setting → State → ℕ → Phase → State
rescanning_at c s p (Phase.Sending job (Sending.ReadPassed parcel at reads)) =
    if reads == c.config.capacity + 1 then (if s.mem (Word.Item at ItemField.Passed) == groups c.config then stepped c s p else scans_again c s p job parcel at) else stepped c s p
rescanning_at c s p _ = stepped c s p

abbrev pub rescanning : Setting → State → ℕ → State
rescanning c s p = rescanning_at c s p (s.stand p).phase

-- ---- the verdict of the law

pub record WrongSteps : Type 0 where
  pub right : EachCallEndsBy stepped
  pub spins : EachCallEndsBy spinning → ⊥
  pub rescans : EachCallEndsBy rescanning → ⊥
