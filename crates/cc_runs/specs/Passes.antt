-- The part of one pass in a run, what others' moves leave of it, and what it can know of a prefix.
use Rattle.std.specs.Prelude.{◌≡◌, ℕ, ◌≤◌, ◌==◌, if◌then◌else◌, List, [], ◌∷◌, ◌++◌, Ok}
use Rattle.cc_model.specs.Config.{config_fault}
use Rattle.cc_model.specs.Items.{known_at}
use Rattle.cc_runs.specs.Names.{Setting, Kind, Event, Move}
use Rattle.cc_runs.specs.State.{pass_at}
use Rattle.cc_runs.specs.Lines.{event_at}
use Rattle.cc_runs.specs.CallsMade.{made}
use Rattle.cc_runs.specs.Run.{IsRun, reached, history_of}

-- the pass whose move it is
abbrev pub pass_of : Move → ℕ
pass_of (Move.Begin p call known) = p
pass_of (Move.Step p) = p
pass_of (Move.Take p) = p

-- the moves of one pass
abbrev pub by : ℕ → List Move → List Move
by p [] = []
by p (m ∷ earlier) = if pass_of m == p then m ∷ by p earlier else by p earlier

-- one step more
abbrev pub then_did : Event → List Kind → List Kind
then_did (Event.Did kind) before = kind ∷ before
then_did Event.Idle before = before

-- the kinds of a pass's steps in a run, the newest first
abbrev pub kinds : Setting → List Move → ℕ → List Kind
kinds c [] p = []
kinds c (Move.Step q ∷ earlier) p = if q == p then then_did (event_at ((reached c earlier).stand p).phase) (kinds c earlier p) else kinds c earlier p
kinds c (_ ∷ earlier) p = kinds c earlier p

-- moves of others alone leave a pass in its phase, with the calls that it began and the steps that it did
abbrev pub OthersLeaveAPass : Type 0
OthersLeaveAPass = (c : Setting) (more seen : List Move) (p : ℕ) → by p more ≡ [] →
    ((reached c (more ++ seen)).stand p ≡ (reached c seen).stand p) × (made c (more ++ seen) p ≡ made c seen p) × (kinds c (more ++ seen) p ≡ kinds c seen p)

-- of a prefix of a run a pass can know no more than of the run
abbrev pub PrefixesKnowNoMore : Type 0
PrefixesKnowNoMore = (c : Setting) → config_fault c.config ≡ Ok tt → (more seen : List Move) → IsRun c (more ++ seen) → (p : ℕ) →
    known_at (pass_at c.config p) (history_of c seen) ≤ known_at (pass_at c.config p) (history_of c (more ++ seen))
