-- The queue's machine on a processor with store buffers.
use Rattle.std.specs.Prelude.{◌≡◌, ℕ, ◌<◌, List, [], ◌∷◌, ◌++◌, Ok}
use Rattle.cc_x86.specs.Buffered as buffers
use Rattle.cc_x86.specs.Buffered.{Plain}
use Rattle.cc_x86.specs.Fenced.{IsFenced, turns}
use Rattle.cc_model.specs.Config.{config_fault}
use Rattle.cc_model.specs.Legal.{Legal}
use Rattle.cc_x86.specs.Names.{Setting, Served, Answer, Phase, Stand, Move}
use Rattle.cc_runs.specs.State.{pass_at}
use Rattle.cc_runs.specs.ChainLaws.{IsLastAnswer}
use Rattle.cc_runs.specs.Linearizable.{IsLinearizable}
use Rattle.cc_runs.specs.Run.{IsRun, May, reached, history_of, passes}
use Rattle.cc_x86.specs.Threads.{Ask, passes_as_threads, opened, moves_of}

-- each call was one that could be begun
abbrev pub MayBegin : Setting → List Move → Type 0
MayBegin c [] = Unit {0}
MayBegin c (Move.Begin p call known ∷ earlier) = MayBegin c earlier × May c (reached c earlier) (Move.Begin p call known)
MayBegin c (Move.Step p ∷ earlier) = MayBegin c earlier
MayBegin c (Move.Take p ∷ earlier) = MayBegin c earlier

-- the moves of a run with store buffers, each plain store at the moment at which it leaves its buffer
abbrev pub in_order : Setting → (ℕ → Ask) → Plain Stand → List buffers.Move → List Move
in_order c asks plain moves = moves_of c asks (turns (passes_as_threads c asks) plain (opened c) moves)

-- They are a run of atomic steps, which leads to the same words, and to the same state of each pass that has no store waiting.
pub record IsTheRun (c : Setting) (asks : ℕ → Ask) (plain : Plain Stand) (moves : List buffers.Move) : Type 0 where
  pub run : IsRun c (in_order c asks plain moves)
  pub words : (reached c (in_order c asks plain moves)).mem ≡ (buffers.arrived (passes_as_threads c asks) plain (opened c) moves).words
  pub own : (p : ℕ) → (buffers.arrived (passes_as_threads c asks) plain (opened c) moves).buffer p ≡ []
      → (reached c (in_order c asks plain moves)).stand p ≡ (buffers.arrived (passes_as_threads c asks) plain (opened c) moves).own p

-- of every run with store buffers, whichever stores are plain, if they are fenced, and callers begin what they may
abbrev pub WithBuffers : (Setting → (ℕ → Ask) → Plain Stand → List buffers.Move → Type 0) → Type 0
WithBuffers P =
    (c : Setting) (asks : ℕ → Ask) (plain : Plain Stand) (moves : List buffers.Move)
    → IsFenced (passes_as_threads c asks) plain → buffers.IsBufferedRun (passes_as_threads c asks) plain (opened c) moves
    → MayBegin c (in_order c asks plain moves)
    → P c asks plain moves

abbrev pub RunsAreThoseOfAtomicSteps : Type 0
RunsAreThoseOfAtomicSteps = WithBuffers IsTheRun

-- The history is legal, and what a pass has read as its answer is its last answer there.
pub record IsLegalOnX86 (c : Setting) (asks : ℕ → Ask) (plain : Plain Stand) (moves : List buffers.Move) : Type 0 where
  pub legal : Legal c.config (history_of c (in_order c asks plain moves))
  pub told : (p : ℕ) (answer : Answer) → p < passes c
      → ((buffers.arrived (passes_as_threads c asks) plain (opened c) moves).own p).phase ≡ Phase.Finished answer
      → IsLastAnswer (pass_at c.config p) (history_of c (in_order c asks plain moves)) answer

abbrev pub HistoryIsLegalOnX86 : Type 0
HistoryIsLegalOnX86 = WithBuffers (λ c asks plain moves. c.served ≡ Served.List → config_fault c.config ≡ Ok tt → IsLegalOnX86 c asks plain moves)

-- Its calls have an order as a sequential queue answers them, each at a moment of the run of atomic steps between its exchange and
-- its decision; and each moment of the run with store buffers is a moment of that run, so that this is the order in real time.
pub record IsLinearizableOnX86 (c : Setting) (asks : ℕ → Ask) (plain : Plain Stand) (moves : List buffers.Move) : Type 0 where
  pub linearizable : IsLinearizable c (in_order c asks plain moves)
  pub in_time : (later seen : List buffers.Move) → moves ≡ later ++ seen
      → (meanwhile : List Move) × (in_order c asks plain moves ≡ meanwhile ++ in_order c asks plain seen)

abbrev pub RunsAreLinearizableOnX86 : Type 0
RunsAreLinearizableOnX86 =
    WithBuffers (λ c asks plain moves. c.served ≡ Served.List → config_fault c.config ≡ Ok tt → IsLinearizableOnX86 c asks plain moves)
