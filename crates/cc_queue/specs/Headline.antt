-- Each answer belongs to one history, that of a run of single steps, which begins with all that the caller had seen.
use Rattle.std.specs.Prelude.{◌≡◌, List, [], ◌++◌}
use Rattle.std.specs.List.{AllByRecursion}
use Rattle.cc_model.specs.Record.{Record}
use Rattle.cc_model.specs.Items.{HasAnswer, Begins, calls_of, calls_made_by}
use Rattle.cc_model.specs.Legal.{Legal}
use Rattle.cc_model.specs.Fifo.{Fifo}
use Rattle.cc_queue.specs.Names.{Call, Entry, Pass}
use Rattle.cc_runs.specs.State.{pass_at}
use Rattle.cc_runs.specs.Run.{IsRun, history_of, number_of}
use Rattle.cc_runs.specs.Linearizable.{IsLinearizable}
use Rattle.cc_steps.specs.Seen.{Onward, known_in}
use Rattle.cc_steps.specs.Walk.{Walk, IsSameSeat}

-- by what name its queue knows a pass
abbrev pub name : Walk → Pass
name w = pass_at w.setting.config w.number

-- the history that a pass has seen
abbrev pub history : Walk → Record
history w = history_of w.setting w.seen

-- the call that a pass begins now: it knows what the pass has seen
abbrev pub entry_of : Walk → Call → Entry
entry_of v call = record { pass = name v; call = call; number = number_of call v.stand.begun; known = known_in v.setting v.number v.seen }

-- There is one history, the one that the pass has seen now: that of a run of single steps which extends all that it had
-- seen, and which is linearizable. It is legal, and first in, first out. Of the pass it has exactly the calls that it made, each
-- once and in order: those that it had made, and these.
pub record StandsInOne (v : Walk) (calls : List Entry) (w : Walk) : Type 0 where
  pub same : IsSameSeat v w
  pub run : IsRun w.setting w.seen
  pub onward : Onward v.seen w.seen
  pub begins : Begins (history v) (history w)
  pub legal : Legal w.setting.config (history w)
  -- follows from `legal` (LegalGivesFifo)
  pub fifo : Fifo (history w)
  pub linearizable : IsLinearizable w.setting w.seen
  pub made : w.made ≡ v.made ++ calls
  pub calls_are : calls_made_by (name w) (history w) ≡ w.made

-- A pass has come to rest: all that it has seen is one history, in which each of its calls has its answer.
pub record IsAtRest (w : Walk) : Type 0 where
  pub stands : StandsInOne w [] w
  pub answered : AllByRecursion HasAnswer (calls_of (name w) (history w))
