-- A look at the counts of a queue finds the counts of one run, beside the history of that run.
use Rattle.std.specs.Prelude.{◌≡◌, ◌≢◌, ℕ, ◌+◌, ◌<◌, ◌≤◌, Bool, ◌==◌, List}
use Rattle.cc_runs.specs.State.{State}
use Rattle.cc_runs.specs.Run.{passes, reached, history_of}
use Rattle.cc_runs.specs.ChainLaws.{IsOut}
use Rattle.cc_runs.specs.Counts.{counted, counted_for, mark_of, AreSeen, CountsOf, IsFull, HasAll}
use Rattle.cc_queue.specs.Names.{Move}
use Rattle.cc_steps.specs.Names.{Object, Word}
use Rattle.cc_steps.specs.Seen.{GoesOn}
use Rattle.cc_steps.specs.Walk.{Walk}
use Rattle.cc_runs.specs.Words.{groups}
use Rattle.cc_queue.specs.Headline.{history}
use Rattle.cc_queue.specs.Met.{HasMet}
use Rattle.cc_queue.specs.Noted.{IsListChecked}

-- the state after the run that a pass has seen
abbrev pub state_seen : Walk → State
state_seen w = reached w.setting w.seen

-- what a word of the list holds
abbrev pub in_word : Object → State → ℕ
in_word object s = s.mem (Word.Object object)

-- the mark of the close is set
abbrev pub is_marked : State → Bool
is_marked s = mark_of s == 1

-- A pass has seen more, and did nothing: a run with its counts. They have every call that had ended in what the pass had seen before: all
-- calls of each pass that was out of its chain then.
pub record SeesCounts (v w : Walk) : Type 0 where
  pub met : HasMet v w
  pub counts : CountsOf w.setting (state_seen w)
  pub ended : (first : List Move) → GoesOn first v.seen → (p : ℕ) → p < passes w.setting → IsOut ((reached w.setting first).stand p).phase → AreSeen w.setting.config (counted (state_seen w)) (mark_of (state_seen w)) p (history_of w.setting first)

-- a pass looked, and this number is read of the state after the run that it has seen now
pub record Found (read : State → ℕ) (v w : Walk) (found : ℕ) : Type 0 where
  pub sees : SeesCounts v w
  pub found_is : found ≡ read (state_seen w)

-- ---- Full and Empty, by two looks of one pass, one after the other

-- If the first finds as many items accepted as the queue holds beyond those that the second finds taken by some group, numbered from 0, then the
-- queue was full in the history that the pass had seen between the two.
abbrev pub LooksAnswerFull : Type 0
LooksAnswerFull = (u v w : Walk) (g accepted taken : ℕ) → IsListChecked v.setting → Found counted u v accepted → Found (λ s. counted_for s g) v w taken
    → g < groups v.setting.config → taken + v.setting.config.capacity ≤ accepted → IsFull v.setting.config (history v)

-- If the first finds how many items a group has taken, and the second no more items accepted, and the counts of that one run none more taken by
-- another group, then the group had all items in the history that the pass had seen between the two.
abbrev pub LooksAnswerEmpty : Type 0
LooksAnswerEmpty = (u v w : Walk) (g taken accepted : ℕ) → IsListChecked v.setting → Found (λ s. counted_for s g) u v taken → Found counted v w accepted
    → g < groups v.setting.config → accepted ≤ taken → ((k : ℕ) → k < groups v.setting.config → k ≢ g → counted_for (state_seen w) k ≤ taken) → HasAll v.setting (state_seen v) g
