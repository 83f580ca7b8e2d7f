-- Threads that drive several passes of the queue each, by one buffer, with the plain stores of Early.
use Rattle.std.specs.Prelude.{◌≡◌, ℕ, List, ◌++◌, Ok}
use Rattle.cc_x86.specs.Buffered as buffers
use Rattle.cc_x86.specs.Driven.{Fresh, Move, IsDrivenRun, IsByPasses, by_passes}
use Rattle.cc_model.specs.Config.{config_fault}
use Rattle.cc_runs.specs.Early.{is_fresh}
use Rattle.cc_x86.specs.Names.{Setting, Served, Stand}
use Rattle.cc_x86.specs.Threads.{Ask, passes_as_threads, opened}
use Rattle.cc_x86.specs.OnX86.{MayBegin}
use Rattle.cc_x86.specs.Early.{early, early_order, IsLinearizableEarly}

-- pass p loads nothing before its next exchange
abbrev pub fresh : Fresh Stand
fresh p at = is_fresh at.phase

abbrev pub moves_by_passes : Setting → (ℕ → Ask) → List Move → List buffers.Move
moves_by_passes c asks moves = by_passes (passes_as_threads c asks) (early c) (opened c) moves

-- Their moves make a run of the passes with a buffer each, with the same effects in the same order. So it is linearizable too; and
-- each moment of it is a moment of that run.
pub record IsLinearizableDriven (c : Setting) (asks : ℕ → Ask) (moves : List Move) : Type 0 where
  pub by_passes : IsByPasses (passes_as_threads c asks) (early c) (opened c) moves
  pub linearizable : IsLinearizableEarly c asks (moves_by_passes c asks moves)
  pub in_time : (later seen : List Move) → moves ≡ later ++ seen
      → (meanwhile : List buffers.Move) × (moves_by_passes c asks moves ≡ meanwhile ++ moves_by_passes c asks seen)

-- of every run of threads that drive passes, whichever of these stores are plain, if callers begin what they may
abbrev pub LinearizableWithDrivenPasses : Type 0
LinearizableWithDrivenPasses =
    (c : Setting) (asks : ℕ → Ask) (moves : List Move) → c.served ≡ Served.List → config_fault c.config ≡ Ok tt
    → IsDrivenRun (passes_as_threads c asks) (early c) fresh (opened c) moves → MayBegin c (early_order c asks (moves_by_passes c asks moves))
    → IsLinearizableDriven c asks moves
