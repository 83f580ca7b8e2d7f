-- The service of a send or a close to the list: a line for each phase of its combiner.
use Rattle.std.specs.Prelude.{ℕ, zero, suc, ◌+◌, ◌-◌, ◌%◌, ◌==◌, if◌then◌else◌, Option}
use Rattle.cc_runs.specs.Names.{Config, Answer, SendAnswer, CloseAnswer, Chain, NodeField, ItemField, Object, Word, Kind, Parcel, Request, Job, Phase, Sending as Service}
use Rattle.cc_runs.specs.declared.phase.Sending.TheVariants.{ReadTag, ReadBody, ReadShut, ReadTotal, ReadCount, ReadLastToClose, LinkMark, WriteLastMark, WriteShut, ReadCursor, ReadPassed, ResetPassed, ResetItemNext, WriteItemTag, WriteItemBody, ReadLast, LinkItem, WriteLast, WriteCount, WriteCursor}
use Rattle.cc_runs.specs.Words.{groups}
use Rattle.cc_runs.specs.Codes.{further_words, word, no_words, with_asked, behind}
use Rattle.cc_runs.specs.State.{Operation}
use Rattle.cc_runs.specs.ServiceLine.{ServiceLine, Next, On, Decides, DecidesAndOn, Tells, load, store, phase_of, answer_of}

-- the reserved list node
abbrev pub mark : Config → ℕ
mark c = c.capacity + 1

-- the ordinary list node after this one, round the end
abbrev pub after : Config → ℕ → ℕ
after c at = (at + 1) % (c.capacity + 1)

-- once it is shut, a send returns Closed, and a close how many items were accepted
abbrev pub by_shut : Request → ℕ → Next Service
by_shut request zero = On (ReadCount request)
by_shut request (suc _) = if request.tag == 0 then On ReadTotal else Decides (Answer.Send SendAnswer.Closed)

-- a send is refused once as many items were accepted as the queue takes in its life
abbrev pub by_count : Config → Request → ℕ → Next Service
by_count c request count =
    if request.tag == 0 then On (ReadLastToClose count)
    else if count == c.life then Decides (Answer.Send SendAnswer.Spent)
    else On (ReadCursor record { place = count; tag = request.tag; body = request.body })

-- a node is free when every group has passed it; each ordinary node is read once at most
abbrev pub by_passed : Config → Parcel → ℕ → ℕ → ℕ → Next Service
by_passed c parcel at reads passed =
    if passed == groups c then On (ResetPassed parcel at)
    else if reads == c.capacity + 1 then Decides (Answer.Send SendAnswer.Full)
    else On (ReadPassed parcel (after c at) (reads + 1))

-- served is the node with the request
abbrev pub line : Config → ℕ → Service → ℕ → ServiceLine Service
line c served ReadTag tag = load Kind.ReadRequest (Word.Node Chain.Send served NodeField.Tag) (On (ReadBody record { tag = tag; body = no_words } 0))
line c served (ReadBody request i) found = load Kind.ReadRequest (Word.Node Chain.Send served (NodeField.Body i)) (On (behind (further_words request.tag) i (ReadBody (with_asked request i found) (i + 1)) (ReadShut (with_asked request i found))))
line c served (ReadShut request) shut = load Kind.ReadObject (Word.Object Object.Shut) (by_shut request shut)
line c served ReadTotal count = load Kind.ReadObject (Word.Object Object.Count) (Decides (Answer.Close (CloseAnswer.Already count)))
line c served (ReadCount request) count = load Kind.ReadObject (Word.Object Object.Count) (by_count c request count)
-- a close
line c served (ReadLastToClose total) last = load Kind.ReadObject (Word.Object Object.Last) (On (LinkMark total (last - 1)))
line c served (LinkMark total last) _ = store Kind.LinkLast (Word.Item last ItemField.Next) (mark c + 1) (DecidesAndOn (Answer.Close (CloseAnswer.Shut total)) (WriteLastMark total))
line c served (WriteLastMark total) _ = store Kind.WriteObject (Word.Object Object.Last) (mark c + 1) (On (WriteShut total))
line c served (WriteShut total) _ = store Kind.WriteObject (Word.Object Object.Shut) 1 (Tells (Answer.Close (CloseAnswer.Shut total)))
-- the scan for a free node
line c served (ReadCursor parcel) cursor = load Kind.ReadObject (Word.Object Object.Cursor) (On (ReadPassed parcel cursor 1))
line c served (ReadPassed parcel at reads) passed = load Kind.ReadPassed (Word.Item at ItemField.Passed) (by_passed c parcel at reads passed)
-- the node is prepared, and linked to the last one
line c served (ResetPassed parcel at) _ = store Kind.ResetListNode (Word.Item at ItemField.Passed) 0 (On (ResetItemNext parcel at))
line c served (ResetItemNext parcel at) _ = store Kind.ResetListNode (Word.Item at ItemField.Next) 0 (On (WriteItemTag parcel at))
line c served (WriteItemTag parcel at) _ = store Kind.WriteItem (Word.Item at ItemField.Tag) parcel.tag (On (WriteItemBody parcel at 0))
line c served (WriteItemBody parcel at i) _ = store Kind.WriteItem (Word.Item at (ItemField.Body i)) (word parcel.body i) (On (behind (further_words parcel.tag) i (WriteItemBody parcel at (i + 1)) (ReadLast parcel.place at)))
line c served (ReadLast place at) last = load Kind.ReadObject (Word.Object Object.Last) (On (LinkItem place at (last - 1)))
line c served (LinkItem place at last) _ = store Kind.LinkLast (Word.Item last ItemField.Next) (at + 1) (DecidesAndOn (Answer.Send (SendAnswer.Accepted place)) (WriteLast place at))
line c served (WriteLast place at) _ = store Kind.WriteObject (Word.Object Object.Last) (at + 1) (On (WriteCount place at))
line c served (WriteCount place at) _ = store Kind.WriteObject (Word.Object Object.Count) (place + 1) (On (WriteCursor place at))
line c served (WriteCursor place at) _ = store Kind.WriteObject (Word.Object Object.Cursor) (after c at) (Tells (Answer.Send (SendAnswer.Accepted place)))

-- ---- what follows from the lines

-- a configuration for what doesn't depend on it
abbrev pub any_config : Config
any_config = record { senders = 0; receivers = 0; capacity = 0; bound = 0; life = 0; per_sender = 0; groups = 0 }

abbrev pub kind_of : Service → Kind
kind_of service = (line any_config 0 service 0).kind

abbrev pub operation : Config → ℕ → Service → Operation
operation c served service = (line c served service 0).does

abbrev pub in_service : Job → Service → Phase
in_service job service = Phase.Sending job service

abbrev pub goes : Config → Job → Service → ℕ → Phase
goes c job service found = phase_of in_service job (line c 0 service found).next

abbrev pub decides : Config → Service → ℕ → Option Answer
decides c service found = answer_of (line c 0 service found).next
