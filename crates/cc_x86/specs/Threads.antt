-- The passes of a machine as threads that share words.
use Rattle.std.specs.Prelude.{ℕ, ◌+◌, nat_lt, if◌then◌else◌, List, [], ◌∷◌}
use Rattle.cc_x86.specs.Program as threads
use Rattle.cc_x86.specs.Program.{Program, Turn}
use Rattle.cc_x86.specs.Sequential as atomic
use Rattle.cc_x86.specs.Names.{Setting, Call, Chain, Word, Stand, Phase, Move}
use Rattle.cc_runs.specs.Words.{same}
use Rattle.cc_runs.specs.State.{Operation, Load, Store, Swap, Add, chain_of}
use Rattle.cc_runs.specs.Lines.{operation}
use Rattle.cc_runs.specs.Step.{advanced}
use Rattle.cc_runs.specs.Run.{passes, begins, rests, opening}

-- a swap and an addition are locked instructions
abbrev pub as_thread : Operation → threads.Operation Word
as_thread (Load w) = threads.Load w
as_thread (Store w value) = threads.Store w value
as_thread (Swap w value) = threads.Locked w (λ x. value)
as_thread (Add w value) = threads.Locked w (λ x. x + value)

-- A pass with no call asks outside for one, and one that has read its answer hands it out.
abbrev pub next_at : Setting → Chain → ℕ → Phase → threads.Operation Word
next_at c x own Phase.Idle = threads.Outside 0
next_at c x own (Phase.Finished told) = threads.Outside 0
next_at c x own at = as_thread (operation c x own at)

-- A call that a caller may ask for, and how much its caller knows. Each is asked for by a number.
pub record Ask : Type 0 where
  pub call : Call
  pub known : ℕ

abbrev pub after_at : Setting → (ℕ → Ask) → ℕ → Stand → Phase → ℕ → Stand
after_at c asks p at Phase.Idle told = begins c.config p (asks told).call (asks told).known at
after_at c asks p at (Phase.Finished told) _ = rests at
after_at c asks p at _ found = advanced c (chain_of c.config p) at found

-- there are no other threads than the passes
abbrev pub passes_as_threads : Setting → (ℕ → Ask) → Program Word Stand
passes_as_threads c asks = record {
  same = same;
  next = λ p at. if nat_lt p (passes c) then next_at c (chain_of c.config p) at.node at.phase else threads.Stop;
  after = λ p at found. after_at c asks p at at.phase found;
}

abbrev pub opened : Setting → threads.State Word Stand
opened c = record { words = (opening c).mem; own = (opening c).stand }

-- the move that a turn is
abbrev pub move_at : (ℕ → Ask) → Turn → Phase → Move
move_at asks t Phase.Idle = Move.Begin t.thread (asks t.told).call (asks t.told).known
move_at asks t (Phase.Finished told) = Move.Take t.thread
move_at asks t _ = Move.Step t.thread

abbrev pub moves_of : Setting → (ℕ → Ask) → List Turn → List Move
moves_of c asks [] = []
moves_of c asks (t ∷ earlier) =
    move_at asks t ((atomic.reached (passes_as_threads c asks) (opened c) earlier).own t.thread).phase ∷ moves_of c asks earlier
