-- The service of a request to the counter: a line for each phase of its combiner. It hands out the number
-- that the counter holds, and adds one.
use Rattle.std.specs.Prelude.{ℕ, ◌+◌, Option}
use Rattle.cc_runs.specs.Names.{Answer, SendAnswer, Chain, NodeField, Object, Word, Kind, Job, Phase, Counting as Service}
use Rattle.cc_runs.specs.declared.phase.Counting.TheVariants.{ReadTag, ReadBody, ReadCount, WriteCount}
use Rattle.cc_runs.specs.Codes.{further_words, behind}
use Rattle.cc_runs.specs.State.{Operation}
use Rattle.cc_runs.specs.ServiceLine.{ServiceLine, On, Decides, load, store, phase_of, answer_of}

-- served is the node with the request
abbrev pub line : ℕ → Service → ℕ → ServiceLine Service
line served ReadTag tag = load Kind.ReadRequest (Word.Node Chain.Send served NodeField.Tag) (On (ReadBody tag 0))
line served (ReadBody tag i) _ = load Kind.ReadRequest (Word.Node Chain.Send served (NodeField.Body i)) (On (behind (further_words tag) i (ReadBody tag (i + 1)) ReadCount))
line served ReadCount count = load Kind.ReadObject (Word.Object Object.Count) (On (WriteCount count))
line served (WriteCount count) _ = store Kind.WriteObject (Word.Object Object.Count) (count + 1) (Decides (Answer.Send (SendAnswer.Accepted count)))

-- ---- what follows from the lines

abbrev pub kind_of : Service → Kind
kind_of service = (line 0 service 0).kind

abbrev pub operation : ℕ → Service → Operation
operation served service = (line served service 0).does

abbrev pub in_service : Job → Service → Phase
in_service job service = Phase.Counting job service

abbrev pub goes : Job → Service → ℕ → Phase
goes job service found = phase_of in_service job (line 0 service found).next

abbrev pub decides : Service → ℕ → Option Answer
decides service found = answer_of (line 0 service found).next
