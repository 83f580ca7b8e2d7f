-- Why the mark of a send is locked: in a small run with that mark plain too a take misses an item.
use Rattle.std.specs.Prelude.{◌≡◌, ℕ, zero, suc, true, List, [], ◌∷◌}
use Rattle.cc_model.specs.Body.{body_of}
use Rattle.cc_runs.specs.SmallWaits.{small_list}
use Rattle.cc_x86.specs.Program.{Program}
use Rattle.cc_x86.specs.Buffered.{Plain, Machine, Move, Acts, Drains, arrived, IsBufferedRun}
use Rattle.cc_x86.specs.Names.{Call, Answer, SendAnswer, TakeAnswer, Word, Phase, Stand}
use Rattle.cc_x86.specs.Threads.{Ask, passes_as_threads, opened}
use Rattle.cc_x86.specs.Early.{early}

-- each store of the passes may be plain, the marks too
abbrev pub marks_too : Plain Stand
marks_too p at = true

-- a caller asks for a send of one word by 0, and for a take by 1
abbrev pub small_asks : ℕ → Ask
small_asks zero = record { call = Call.Send (body_of (7 ∷ [])); known = 0 }
small_asks (suc n) = record { call = Call.Take; known = 0 }

-- two senders and a receiver, with room for one item
abbrev pub small : Program Word Stand
small = passes_as_threads small_list small_asks

-- the machine after these moves
abbrev pub machine : List Move → Machine Word Stand
machine moves = arrived small marks_too (opened small_list) moves

-- what a pass does next, with this number if it asks outside; a store is plain
abbrev pub acts : (pass told : ℕ) → List Move → List Move
acts p told earlier = Acts record { thread = p; told = told } true ∷ earlier

-- a pass makes this many steps, each store plain; and this many of its stores reach the words
abbrev pub steps : (pass count : ℕ) → List Move → List Move
steps p zero earlier = earlier
steps p (suc n) earlier = acts p 0 (steps p n earlier)

abbrev pub drains : (pass count : ℕ) → List Move → List Move
drains p zero earlier = earlier
drains p (suc n) earlier = Drains p ∷ drains p n earlier

-- A pass begins a call and resets its node. These two stores reach the words, since its exchange is a locked instruction. Then it
-- makes this many steps, and what it stores by them waits.
abbrev pub makes : (pass ask count : ℕ) → List Move → List Move
makes p ask n earlier = steps p n (drains p 2 (steps p 2 (acts p ask earlier)))

-- a sender's call, up to its mark; up to its answer; and its return
abbrev pub before_mark : List Move
before_mark = makes 0 0 22 []

abbrev pub sent : List Move
sent = steps 0 3 before_mark

abbrev pub returned : List Move
returned = acts 0 0 sent

-- then the receiver's call, up to its answer
abbrev pub taken : List Move
taken = makes 2 1 11 returned

-- The send's answer is that its item was accepted. The take begins after the send has returned, and its answer is that no item is
-- there. With the mark locked this isn't a run.
pub record MarksOfSendsAreNeeded : Type 0 where
  pub run : IsBufferedRun small marks_too (opened small_list) taken
  pub accepted : ((machine sent).own 0).phase ≡ Phase.Finished (Answer.Send (SendAnswer.Accepted 0))
  pub not_begun : ((machine returned).own 2).phase ≡ Phase.Idle
  pub missed : ((machine taken).own 2).phase ≡ Phase.Finished (Answer.Take TakeAnswer.Empty)
  pub refused : IsBufferedRun small (early small_list) (opened small_list) taken → ⊥
