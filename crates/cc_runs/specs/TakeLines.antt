-- The service of a take in group g: a line for each phase of its combiner.
use Rattle.std.specs.Prelude.{ℕ, zero, suc, ◌+◌, ◌-◌, Option}
use Rattle.cc_runs.specs.Names.{Answer, TakeAnswer, ItemField, Object, Word, Kind, Job, Phase, Taking as Service}
use Rattle.cc_runs.specs.declared.phase.Taking.TheVariants.{ReadHead, ReadTaken, ReadDummyNext, ReadItemTag, ReadItemBody, WriteHead, WriteTaken, AddPassed}
use Rattle.cc_runs.specs.Codes.{item_in, further_words, no_words, parcel, with_read, behind}
use Rattle.cc_runs.specs.State.{Operation}
use Rattle.cc_runs.specs.ServiceLine.{ServiceLine, Next, On, Decides, load, store, add, phase_of, answer_of}

-- if no node is after the dummy the list is empty
abbrev pub by_next : ℕ → ℕ → ℕ → Next Service
by_next dummy taken zero = Decides (Answer.Take TakeAnswer.Empty)
by_next dummy taken (suc at) = On (ReadItemTag dummy taken at)

-- the closing mark's tag is 0
abbrev pub by_tag : ℕ → ℕ → ℕ → ℕ → Next Service
by_tag dummy taken at zero = Decides (Answer.Take (TakeAnswer.Ended taken))
by_tag dummy taken at (suc tag) = On (ReadItemBody dummy at (parcel taken (suc tag) no_words) 0)

abbrev pub line : ℕ → Service → ℕ → ServiceLine Service
line g ReadHead head = load Kind.ReadObject (Word.Object (Object.Head g)) (On (ReadTaken (head - 1)))
line g (ReadTaken dummy) taken = load Kind.ReadObject (Word.Object (Object.Taken g)) (On (ReadDummyNext dummy taken))
line g (ReadDummyNext dummy taken) next = load Kind.ReadDummyNext (Word.Item dummy ItemField.Next) (by_next dummy taken next)
line g (ReadItemTag dummy taken at) tag = load Kind.ReadItem (Word.Item at ItemField.Tag) (by_tag dummy taken at tag)
line g (ReadItemBody dummy at p i) found = load Kind.ReadItem (Word.Item at (ItemField.Body i)) (On (behind (further_words p.tag) i (ReadItemBody dummy at (with_read p i found) (i + 1)) (WriteHead dummy at (with_read p i found))))
line g (WriteHead dummy at parcel) _ = store Kind.WriteObject (Word.Object (Object.Head g)) (at + 1) (On (WriteTaken dummy parcel))
line g (WriteTaken dummy parcel) _ = store Kind.WriteObject (Word.Object (Object.Taken g)) (parcel.place + 1) (On (AddPassed dummy parcel))
line g (AddPassed dummy parcel) _ = add Kind.AddPassed (Word.Item dummy ItemField.Passed) 1 (Decides (Answer.Take (TakeAnswer.Got (item_in parcel))))

-- ---- what follows from the lines

abbrev pub kind_of : Service → Kind
kind_of service = (line 0 service 0).kind

abbrev pub operation : ℕ → Service → Operation
operation g service = (line g service 0).does

abbrev pub in_service : Job → Service → Phase
in_service job service = Phase.Taking job service

abbrev pub goes : Job → Service → ℕ → Phase
goes job service found = phase_of in_service job (line 0 service found).next

abbrev pub decides : Service → ℕ → Option Answer
decides service found = answer_of (line 0 service found).next
