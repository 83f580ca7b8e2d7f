-- A turn of a send, of a close by a sender that leaves its queue, and of a take.
use Rattle.std.specs.Prelude.{◌≡◌, ℕ}
use Rattle.cc_queue.specs.Calls.{Waited, Answered}
use Rattle.cc_queue.specs.Names.{Answer, CloseAnswer, TakeAnswer}
use Rattle.cc_switch.specs.Closing.{TellsClosed}
use Rattle.cc_switch.specs.Position.{RowWalk}
use Rattle.cc_switch.specs.declared.sends.Sent.{Sent}
use Rattle.cc_switch.specs.declared.turns.Leave.{Leave}
use Rattle.cc_switch.specs.declared.turns.Taken.{Taken}

-- the pass has stayed at its position
abbrev pub IsAt : RowWalk → RowWalk → Type 0
IsAt v w = (w.spot ≡ v.spot) × (w.group ≡ v.group)

-- a call of the queue waits after this turn
abbrev pub StillWaits : RowWalk → RowWalk → Type 0
StillWaits v w = IsAt v w × Waited v.pass w.pass

-- a call of the queue was answered in this turn
abbrev pub IsTold : RowWalk → Answer → RowWalk → Type 0
IsTold v told w = IsAt v w × ((served : ℕ) × Answered v.pass told served w.pass)

abbrev pub Sends : RowWalk → Sent → Type 0
Sends v (Sent.Waiting same) = StillWaits v same
Sends v (Sent.Done sender answer) = IsTold v (Answer.Send answer) sender

-- the close waits, or was answered with this total
abbrev pub Leaves : RowWalk → Leave → Type 0
Leaves v (Leave.Waiting same) = StillWaits v same
Leaves v (Leave.Left left) = (told : CloseAnswer) × IsTold v (Answer.Close told) left.at
    × TellsClosed left.total (Answer.Close told)

abbrev pub Takes : RowWalk → Taken → Type 0
Takes v (Taken.Waiting same) = StillWaits v same
Takes v (Taken.Got receiver item) = IsTold v (Answer.Take (TakeAnswer.Got item)) receiver
Takes v (Taken.Empty receiver) = IsTold v (Answer.Take TakeAnswer.Empty) receiver
Takes v (Taken.Over over) = IsTold v (Answer.Take (TakeAnswer.Ended over.total)) over.at
