-- The plain stores of the queue's passes by the finer discipline: all but the marks of the senders' chain.
use Rattle.std.specs.Prelude.{◌≡◌, ℕ, ◌<◌, zero, suc, Bool, true, false, List, ◌++◌, Ok}
use Rattle.cc_x86.specs.Program.{Turn}
use Rattle.cc_x86.specs.Sequential.{effects}
use Rattle.cc_x86.specs.Buffered as buffers
use Rattle.cc_x86.specs.Buffered.{Plain}
use Rattle.cc_x86.specs.Posted.{Waits, order, outsides}
use Rattle.cc_model.specs.Config.{config_fault}
use Rattle.cc_model.specs.Legal.{Legal}
use Rattle.cc_x86.specs.Names.{Setting, Served, Answer, Phase, Stand, Move}
use Rattle.cc_runs.specs.Linearizable.{IsLinearizable}
use Rattle.cc_runs.specs.Early.{may_be_early}
use Rattle.cc_runs.specs.State.{chain_of, pass_at}
use Rattle.cc_runs.specs.ChainLaws.{IsLastAnswer}
use Rattle.cc_runs.specs.Run.{IsRun, passes, history_of}
use Rattle.cc_x86.specs.Threads.{Ask, passes_as_threads, opened, moves_of}
use Rattle.cc_x86.specs.OnX86.{MayBegin}

-- the store that pass p does next may be plain
abbrev pub early : Setting → Plain Stand
early c p at = may_be_early (chain_of c.config p) at.phase

-- a load of the state of its own node waits if it finds 1
abbrev pub waits_at : Phase → ℕ → Bool
waits_at Phase.ReadState (suc zero) = true
waits_at _ _ = false

abbrev pub waiting : Waits Stand
waiting p at found = waits_at at.phase found

-- the turns of a run with store buffers, and its moves, each plain store where its pass looks next or where it leaves its buffer
abbrev pub early_turns : Setting → (ℕ → Ask) → List buffers.Move → List Turn
early_turns c asks moves = (order (passes_as_threads c asks) (early c) waiting (opened c) moves).turns

abbrev pub early_order : Setting → (ℕ → Ask) → List buffers.Move → List Move
early_order c asks moves = moves_of c asks (early_turns c asks moves)

-- They are a run of atomic steps, with the same begins and returns in the same order. Its history is legal, and what a pass has read
-- as its answer is its last answer there. Its calls have an order as a sequential queue answers them; and each moment of the run
-- with store buffers is a moment of that run, so that this is the order in real time.
pub record IsLinearizableEarly (c : Setting) (asks : ℕ → Ask) (moves : List buffers.Move) : Type 0 where
  pub run : IsRun c (early_order c asks moves)
  pub outside : outsides (effects (passes_as_threads c asks) (opened c) (early_turns c asks moves)) ≡ outsides (buffers.shown (passes_as_threads c asks) (early c) (opened c) moves)
  pub legal : Legal c.config (history_of c (early_order c asks moves))
  pub told : (p : ℕ) (answer : Answer) → p < passes c
      → ((buffers.arrived (passes_as_threads c asks) (early c) (opened c) moves).own p).phase ≡ Phase.Finished answer
      → IsLastAnswer (pass_at c.config p) (history_of c (early_order c asks moves)) answer
  pub linearizable : IsLinearizable c (early_order c asks moves)
  pub in_time : (later seen : List buffers.Move) → moves ≡ later ++ seen
      → (meanwhile : List Move) × (early_order c asks moves ≡ meanwhile ++ early_order c asks seen)

-- of every run with store buffers, whichever of these stores are plain, if callers begin what they may
abbrev pub LinearizableWithEarlyStores : Type 0
LinearizableWithEarlyStores =
    (c : Setting) (asks : ℕ → Ask) (moves : List buffers.Move) → c.served ≡ Served.List → config_fault c.config ≡ Ok tt
    → buffers.IsBufferedRun (passes_as_threads c asks) (early c) (opened c) moves → MayBegin c (early_order c asks moves)
    → IsLinearizableEarly c asks moves
