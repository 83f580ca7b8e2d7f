-- How long a call waits, as its pass sees it.
use Rattle.std.specs.Prelude.{◌≡◌, ℕ, ◌-◌, ◌≤◌, false, List, ◌++◌, length}
use Rattle.cc_queue.specs.Names.{Chain, Move}
use Rattle.cc_runs.specs.State.{chain_of}
use Rattle.cc_runs.specs.OnChain.{calls_on}
use Rattle.cc_runs.specs.Turns.{has_later, IsAmong}
use Rattle.cc_runs.specs.Ahead.{most_ahead}
use Rattle.cc_runs.specs.Progress.{calls_after, answers_after, moves_in, AreRounds}
use Rattle.cc_steps.specs.Walk.{Walk}
use Rattle.cc_queue.specs.Headline.{name, history}

-- the chain of a pass
abbrev pub chain : Walk → Chain
chain w = chain_of w.setting.config w.number

-- the calls of its chain that had exchanged after these moves, and how many of them had no answer
abbrev pub exchanged : Walk → List Move → ℕ
exchanged w seen = calls_after w.setting (chain w) seen

abbrev pub unanswered : Walk → List Move → ℕ
unanswered w seen = exchanged w seen - answers_after w.setting (chain w) seen

-- A call that waits has waited for at most one service of each call before it. Take a moment since which its pass began no call, and the
-- rounds that the pass has seen since then, in each of which each pass moved that was in a call which had exchanged by that
-- moment. There are no more rounds than one service takes of each of these calls that had no answer, and some steps.
abbrev pub WaitsBriefly : Walk → Type 0
WaitsBriefly w = (seen : List Move) (rounds : List (List Move)) → w.seen ≡ moves_in rounds ++ seen → AreRounds (IsAmong w.setting (chain w) (exchanged w seen)) w.setting (chain w) seen rounds →
    has_later (name w) (exchanged w seen) (calls_on (chain w) (history w)) ≡ false → length rounds ≤ most_ahead w.setting (chain w) (unanswered w seen)
