-- Order between calls: what the answer of a call says of a history that it came after.
use Rattle.std.specs.Prelude.{◌+◌, ◌≡◌, ◌≤◌, false, List, length, ⊤}
use Rattle.cc_model.specs.Config.{group_of}
use Rattle.cc_model.specs.Record.{Side, Record, of_group}
use Rattle.cc_model.specs.Items.{IsPrefix, accepted, accepted_by, is_shut, handed_by, handed_to_all}
use Rattle.cc_model.specs.Fresh.{GoesOn, HasSeen, IsAnswered}
use Rattle.cc_model.specs.Names.{Config, Pass, Entry, Answer, SendAnswer, CloseAnswer, TakeAnswer}

-- the side of a pass: the senders', or that of its group
abbrev pub side_of : Config → Pass → Record → Side
side_of cfg (Pass.Sender s) h = h.sends
side_of cfg (Pass.Receiver r) h = of_group h (group_of cfg r)

-- A call of the later history comes after all of the earlier one: its pass had seen that when the call began, and on its side
-- the call comes after all calls that are there. It has this answer, after the answers `before`.
pub record ComesAfter (cfg : Config) (h later : Record) (before : List Answer) (call : Entry) (told : Answer) : Type 0 where
  pub answered : IsAnswered (side_of cfg call.pass later) before call told
  pub seen : HasSeen h call
  pub behind : length (side_of cfg call.pass h).calls ≤ length before

-- Such an answer says of the earlier history, for a take: Got is an item that its group wasn't handed there, Empty says that
-- its group was handed, before, all items that were accepted there, and Ended that there are no more items than are counted.
-- For a send: Accepted comes after all items that were accepted there, and Full says that before it at least `capacity` items
-- were accepted beyond those that every group was handed there. If that history is shut, only Closed and Already are possible.
abbrev pub Tells : Config → (h later : Record) → Pass → (before : List Answer) → Answer → Type 0
Tells cfg h later who before (Answer.Take (TakeAnswer.Got item)) = length (handed_by (side_of cfg who h).answers) ≤ item.place
Tells cfg h later who before (Answer.Take TakeAnswer.Empty) = IsPrefix (accepted h) (handed_by before) × (is_shut h ≡ false)
Tells cfg h later who before (Answer.Take (TakeAnswer.Ended total)) = length (accepted h) ≤ total
Tells cfg h later who before (Answer.Send (SendAnswer.Accepted place)) = (length (accepted h) ≤ place) × (is_shut h ≡ false)
Tells cfg h later who before (Answer.Send SendAnswer.Full) = (handed_to_all h + cfg.capacity ≤ length (accepted_by later.sends.calls before)) × (is_shut h ≡ false)
Tells cfg h later who before (Answer.Send SendAnswer.Spent) = is_shut h ≡ false
Tells cfg h later who before (Answer.Send SendAnswer.Closed) = ⊤
Tells cfg h later who before (Answer.Close (CloseAnswer.Shut total)) = (length (accepted h) ≤ total) × (is_shut h ≡ false)
Tells cfg h later who before (Answer.Close (CloseAnswer.Already total)) = length (accepted h) ≤ total

-- of two legal histories the first begins the second: the answer of a call of the second that comes after all of the first
abbrev pub LaterTells : Type 0
LaterTells = (cfg : Config) (h later : Record) → GoesOn cfg h later → (before : List Answer) (call : Entry) (told : Answer) →
    ComesAfter cfg h later before call told → Tells cfg h later call.pass before told
