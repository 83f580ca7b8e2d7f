-- The words that count the items of the list, and the mark of its close, after any run: a look finds them. The service of a send counts its item
-- after it has linked the item, and the service of a take before it decides: so a count may be one behind the history, or one ahead.
use Rattle.std.specs.Prelude.{◌≡◌, ◌≢◌, ℕ, ◌+◌, ◌<◌, ◌≤◌, List, ◌++◌, length, true, Option, Some, Ok}
use Rattle.std.specs.List.{AllByRecursion}
use Rattle.cc_model.specs.Config.{config_fault}
use Rattle.cc_model.specs.Record.{Record}
use Rattle.cc_model.specs.Items.{accepted, is_shut, handed, handed_to_all, calls_of}
use Rattle.cc_model.specs.Sequential.{Exactly}
use Rattle.cc_runs.specs.Names.{Config, Body, Call, Entry, Answer, SendAnswer, CloseAnswer, Setting, Served, Object, Word, Chain, Move}
use Rattle.cc_runs.specs.Words.{groups}
use Rattle.cc_runs.specs.State.{State, pass_at}
use Rattle.cc_runs.specs.Run.{IsRun, passes, reached, history_of}
use Rattle.cc_runs.specs.Ready.{HasOpenCall}
use Rattle.cc_runs.specs.ChainLaws.{IsOut}
use Rattle.cc_runs.specs.MachineLaws.{AfterEveryRun}

-- how many items are counted as accepted, and as taken by a group
abbrev pub counted : State → ℕ
counted s = s.mem (Word.Object Object.Count)

abbrev pub counted_for : State → (group : ℕ) → ℕ
counted_for s g = s.mem (Word.Object (Object.Taken g))

-- the mark of the close: 1, or 0
abbrev pub mark_of : State → ℕ
mark_of s = s.mem (Word.Object Object.Shut)

-- the item of an accepted send is counted, and a close that shut the queue is marked
abbrev pub IsSeen : (count mark : ℕ) → Entry × Option Answer → Type 0
IsSeen count mark (e, Some (Answer.Send (SendAnswer.Accepted place))) = place < count
IsSeen count mark (e, Some (Answer.Close (CloseAnswer.Shut total))) = mark ≡ 1
IsSeen count mark _ = Unit {0}

-- all calls of a pass in a history
abbrev pub AreSeen : Config → (count mark : ℕ) → (pass : ℕ) → Record → Type 0
AreSeen c count mark p h = AllByRecursion (IsSeen count mark) (calls_of (pass_at c p) h)

-- The counts of a state, beside its history.
pub record CountsOf (c : Setting) (s : State) : Type 0 where
  -- no more than was accepted, and at most one fewer
  pub most : counted s ≤ length (accepted s.history)
  pub near : length (accepted s.history) ≤ counted s + 1
  -- all that a group was handed, and at most one more: the item of a take of the group that has no answer yet
  pub taken_least : (g : ℕ) → g < groups c.config → length (handed s.history g) ≤ counted_for s g
  pub taken_near : (g : ℕ) → g < groups c.config → counted_for s g ≤ length (handed s.history g) + 1
  pub taken_pending : (g : ℕ) → g < groups c.config → length (handed s.history g) < counted_for s g → HasOpenCall s.history (Chain.Take g)
  pub taken_most : (g : ℕ) → g < groups c.config → counted_for s g ≤ length (accepted s.history)
  -- a list with the mark is shut
  pub shut : mark_of s ≡ 1 → is_shut s.history ≡ true
  -- the calls of a pass that is out of its chain are counted and marked
  pub ended : (p : ℕ) → p < passes c → IsOut (s.stand p).phase → AreSeen c.config (counted s) (mark_of s) p s.history

abbrev pub CountsAreNear : Type 0
CountsAreNear = AfterEveryRun (λ c moves. CountsOf c (reached c moves))

-- no count becomes less, and the mark stays
pub record CountsNoLess (c : Setting) (s t : State) : Type 0 where
  pub count : counted s ≤ counted t
  pub taken : (g : ℕ) → g < groups c.config → counted_for s g ≤ counted_for t g
  pub mark : mark_of s ≤ mark_of t

-- of a run and of one that goes on from it
abbrev pub OnEachRunOn : (Setting → (later seen : List Move) → Type 0) → Type 0
OnEachRunOn P = (c : Setting) (later seen : List Move) → c.served ≡ Served.List → config_fault c.config ≡ Ok tt → IsRun c (later ++ seen) → P c later seen

abbrev pub CountsGrow : Type 0
CountsGrow = OnEachRunOn (λ c later seen. CountsNoLess c (reached c seen) (reached c (later ++ seen)))

-- A look sees each call that had ended before: all calls of a pass that was out of its chain then.
abbrev pub EndedCallsAreSeen : Type 0
EndedCallsAreSeen = OnEachRunOn (λ c later seen. let t : State = reached c (later ++ seen) in
    (p : ℕ) → p < passes c → IsOut ((reached c seen).stand p).phase → AreSeen c.config (counted t) (mark_of t) p (history_of c seen))

-- ---- Full and Empty

-- as many items wait as the queue holds, so that a sequential queue accepts none
pub record IsFull (c : Config) (h : Record) : Type 0 where
  pub waits : length (accepted h) ≡ handed_to_all h + c.capacity
  pub accepts_none : (body : Body) (taken place : ℕ) → Exactly c (accepted h) (is_shut h) taken (handed_to_all h) (Call.Send body) (Answer.Send (SendAnswer.Accepted place)) → ⊥

-- A look that finds as many items accepted as the queue holds beyond those that a group has taken, of which the look finds the number
-- later: the queue was full when the look began.
abbrev pub LooksFindFull : Type 0
LooksFindFull = OnEachRunOn (λ c later seen. (g : ℕ) → g < groups c.config → counted_for (reached c (later ++ seen)) g + c.config.capacity ≤ counted (reached c seen) → IsFull c.config (history_of c seen))

-- The group has the items of all sends that have ended, and all that another group was handed; the last of these may be that of a take of
-- the group that has no answer yet.
pub record HasAll (c : Setting) (s : State) (g : ℕ) : Type 0 where
  pub sent : (p : ℕ) → p < passes c → IsOut (s.stand p).phase → AreSeen c.config (counted_for s g) (mark_of s) p s.history
  pub others : (k : ℕ) → k < groups c.config → length (handed s.history k) ≤ counted_for s g
  pub pending : length (handed s.history g) < counted_for s g → HasOpenCall s.history (Chain.Take g)

-- A look that finds how many items a group has taken, and later no more items accepted, and none more taken by another group: the group had
-- all items when the look began.
abbrev pub LooksFindNone : Type 0
LooksFindNone = OnEachRunOn (λ c later seen. let t : State = reached c (later ++ seen) in
    (g : ℕ) → g < groups c.config → counted t ≤ counted_for (reached c seen) g → ((k : ℕ) → k < groups c.config → k ≢ g → counted_for t k ≤ counted_for (reached c seen) g) → HasAll c (reached c seen) g)
