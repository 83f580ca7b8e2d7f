-- Any code that shares the queue's words. If its accesses are those of the passes in every run of atomic steps, as
-- contracts say, then they are so in every run with store buffers too: the law of Crews reaches the code.
use Rattle.std.specs.Prelude.{◌≡◌, ◌≢◌, ℕ, ◌<◌, Bool, true, List, [], ◌∷◌, Ok}
use Rattle.cc_model.specs.Config.{config_fault}
use Rattle.cc_runs.specs.Words.{same}
use Rattle.cc_runs.specs.State.{chain_of}
use Rattle.cc_runs.specs.Run.{passes}
use Rattle.cc_x86.specs.Program.{Operation, Stop, Program, State, Turn}
use Rattle.cc_x86.specs.Sequential as atomic
use Rattle.cc_x86.specs.Buffered.{Plain, is_plain}
use Rattle.cc_x86.specs.Driven.{Fresh, Move, Acts, reached, IsDrivenRun, done}
use Rattle.cc_x86.specs.Names.{Setting, Served, Chain, Word, Job, Phase, Stand}
use Rattle.cc_x86.specs.Threads.{Ask, passes_as_threads, opened, moves_of}
use Rattle.cc_x86.specs.OnX86.{MayBegin}
use Rattle.cc_x86.specs.Early.{early, waiting, early_order}
use Rattle.cc_x86.specs.Crews.{fresh, moves_by_passes, IsLinearizableDriven}

-- An access of a shared word, or a call or return; whether it is a plain store; and whether a thread with a store in
-- its buffer may take up the pass here.
pub record Access : Type 0 where
  pub does : Operation Word
  pub is_plain : Bool
  pub is_fresh : Bool

-- The code of one pass: its next access is a function of what its accesses have found, the oldest first. So it doesn't
-- depend on time, nor on other threads but by what it finds.
abbrev pub Code : Type 0
Code = List ℕ → Access

abbrev pub code : Program Word Code
code = record { same = same; next = λ p own. (own []).does; after = λ p own found later. own (found ∷ later) }

abbrev pub plain : Plain Code
plain p own = (own []).is_plain

abbrev pub ready : Fresh Code
ready p own = (own []).is_fresh

-- the queue's words at the opening, and this code for each pass
abbrev pub begins : Setting → (ℕ → Code) → State Word Code
begins c codes = record { words = (opened c).words; own = codes }

-- ---- the premise, of atomic steps

-- The code of a pass follows the table: its next access is that of the pass at its place. Its stores are plain only
-- where they may be early, and it is taken up with a store in the buffer only where the pass is fresh. A load that
-- waits changes nothing that the code does later: it is in a loop, whose counters decide nothing.
pub record Follows (c : Setting) (asks : ℕ → Ask) (p : ℕ) (own : Code) (at : Stand) : Type 0 where
  pub does : code.next p own ≡ (passes_as_threads c asks).next p at
  pub plain : plain p own ≡ true → early c p at ≡ true
  pub fresh : ready p own ≡ true → fresh p at ≡ true
  pub waits : (found : ℕ) → waiting p at found ≡ true → code.after p own found ≡ own

-- at each moment of each run of atomic steps in which callers begin what they may
abbrev pub FollowsByAtomicSteps : Setting → (ℕ → Ask) → (ℕ → Code) → Type 0
FollowsByAtomicSteps c asks codes =
    (ts : List Turn) → atomic.IsRun code (begins c codes) ts → MayBegin c (moves_of c asks ts)
    → (p : ℕ) → Follows c asks p ((atomic.reached code (begins c codes) ts).own p)
    ((atomic.reached (passes_as_threads c asks) (opened c) ts).own p)

-- ---- the law, of store buffers

-- the same moves, with the flag of each store as the program has it: a store that may not be plain isn't
abbrev pub as_marked : {W S : Type 0} → Program W S → Plain S → State W S → List Move → List Move
as_marked c may_be s [] = []
as_marked c may_be s (Acts t turn plainly ∷ earlier) =
    let flag : Bool = is_plain may_be turn.thread ((reached c may_be s earlier).own turn.thread) plainly in
    Acts t turn flag ∷ as_marked c may_be s earlier
as_marked c may_be s (m ∷ earlier) = m ∷ as_marked c may_be s earlier

abbrev pub by_table : Setting → (ℕ → Code) → List Move → List Move
by_table c codes moves = as_marked code plain (begins c codes) moves

-- These moves are a run of the passes, with the same effects in the same order and the same words. So the run is
-- linearizable. And the code follows the table at its end.
pub record FollowsWithBuffers (c : Setting) (asks : ℕ → Ask) (codes : ℕ → Code) (moves : List Move) : Type 0 where
  pub run : IsDrivenRun (passes_as_threads c asks) (early c) fresh (opened c) (by_table c codes moves)
  pub effects : done code plain (begins c codes) moves
      ≡ done (passes_as_threads c asks) (early c) (opened c) (by_table c codes moves)
  pub words : (reached code plain (begins c codes) moves).words
      ≡ (reached (passes_as_threads c asks) (early c) (opened c) (by_table c codes moves)).words
  pub follows : (p : ℕ) → Follows c asks p ((reached code plain (begins c codes) moves).own p)
      ((reached (passes_as_threads c asks) (early c) (opened c) (by_table c codes moves)).own p)
  pub linearizable : IsLinearizableDriven c asks (by_table c codes moves)

-- of every run of threads that drive passes of any code, if callers begin what they may
abbrev pub CodeFollowsWithBuffers : Type 0
CodeFollowsWithBuffers =
    (c : Setting) (asks : ℕ → Ask) (codes : ℕ → Code) (moves : List Move)
    → c.served ≡ Served.List → config_fault c.config ≡ Ok tt
    → FollowsByAtomicSteps c asks codes → IsDrivenRun code plain ready (begins c codes) moves
    → MayBegin c (early_order c asks (moves_by_passes c asks (by_table c codes moves)))
    → FollowsWithBuffers c asks codes moves

-- ---- which code it is about

-- where a pass is, after it has found these
abbrev pub stands : Setting → (ℕ → Ask) → ℕ → Stand → List ℕ → Stand
stands c asks p at [] = at
stands c asks p at (found ∷ later) = stands c asks p ((passes_as_threads c asks).after p at found) later

-- the passes as code, with as few fences as may be
abbrev pub code_of : Setting → (ℕ → Ask) → ℕ → Stand → Code
code_of c asks p at found = record {
  does = (passes_as_threads c asks).next p (stands c asks p at found);
  is_plain = early c p (stands c asks p at found);
  is_fresh = fresh p (stands c asks p at found);
}

-- The premise holds of the passes themselves. It doesn't hold of code with a plain mark of a send, of code that does
-- nothing, of code that makes another access after a load that waits, nor of code that is taken up with a store in the
-- buffer where the pass loads.
pub record PremiseOfCode : Type 0 where
  pub passes_follow : (c : Setting) (asks : ℕ → Ask)
      → FollowsByAtomicSteps c asks (λ p. code_of c asks p ((opened c).own p))
  pub plain_mark : (c : Setting) (asks : ℕ → Ask) (p : ℕ) (own : Code) (at : Stand) (job : Job)
      → chain_of c.config p ≡ Chain.Send → at.phase ≡ Phase.MarkDone job → plain p own ≡ true
      → Follows c asks p own at → ⊥
  pub stopped : (c : Setting) (asks : ℕ → Ask) (codes : ℕ → Code) (p : ℕ)
      → p < passes c → code.next p (codes p) ≡ Stop → FollowsByAtomicSteps c asks codes → ⊥
  pub counts_its_waits : (c : Setting) (asks : ℕ → Ask) (p : ℕ) (own : Code) (at : Stand)
      → at.phase ≡ Phase.ReadState → code.next p (code.after p own 1) ≢ code.next p own → Follows c asks p own at → ⊥
  pub taken_up_while_it_waits : (c : Setting) (asks : ℕ → Ask) (p : ℕ) (own : Code) (at : Stand)
      → at.phase ≡ Phase.ReadState → ready p own ≡ true → Follows c asks p own at → ⊥
