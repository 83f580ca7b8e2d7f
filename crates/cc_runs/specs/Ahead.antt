-- The steps that are ahead of a call: those of its chain's passes up to the mark of the call.
use Rattle.std.specs.Prelude.{ℕ, zero, suc, ◌+◌, ◌-◌, ◌*◌, ◌==◌, nat_lt, if◌then◌else◌, length}
use Rattle.cc_runs.specs.Names.{Config, Answer, TakeAnswer, Setting, Chain, Counting, Sending, Taking, Phase}
use Rattle.cc_runs.specs.State.{State}
use Rattle.cc_runs.specs.OnChain.{pass_on, passes_on, answers_on}
use Rattle.cc_runs.specs.ChainLaws.{is_combining}
use Rattle.cc_runs.specs.Turns.{is_among, decided}

-- ---- the steps of a service

-- The steps from each phase of a service on, with that of the phase, at most. A body has four words, and a scan reads each
-- ordinary list node once.
abbrev pub sending_left : Config → Sending → ℕ
sending_left c Sending.ReadTag = c.capacity + 21
sending_left c (Sending.ReadBody request i) = c.capacity + 17 + (3 - i)
sending_left c (Sending.ReadShut request) = c.capacity + 16
sending_left c Sending.ReadTotal = 1
sending_left c (Sending.ReadCount request) = c.capacity + 15
sending_left c (Sending.ReadLastToClose total) = 4
sending_left c (Sending.LinkMark total last) = 3
sending_left c (Sending.WriteLastMark total) = 2
sending_left c (Sending.WriteShut total) = 1
sending_left c (Sending.ReadCursor parcel) = c.capacity + 14
sending_left c (Sending.ReadPassed parcel at reads) = 13 + (c.capacity + 1 - reads)
sending_left c (Sending.ResetPassed parcel at) = 12
sending_left c (Sending.ResetItemNext parcel at) = 11
sending_left c (Sending.WriteItemTag parcel at) = 10
sending_left c (Sending.WriteItemBody parcel at i) = 6 + (3 - i)
sending_left c (Sending.ReadLast place at) = 5
sending_left c (Sending.LinkItem place at last) = 4
sending_left c (Sending.WriteLast place at) = 3
sending_left c (Sending.WriteCount place at) = 2
sending_left c (Sending.WriteCursor place at) = 1

abbrev pub taking_left : Taking → ℕ
taking_left Taking.ReadHead = 11
taking_left (Taking.ReadTaken dummy) = 10
taking_left (Taking.ReadDummyNext dummy taken) = 9
taking_left (Taking.ReadItemTag dummy taken at) = 8
taking_left (Taking.ReadItemBody dummy at p i) = 4 + (3 - i)
taking_left (Taking.WriteHead dummy at parcel) = 3
taking_left (Taking.WriteTaken dummy parcel) = 2
taking_left (Taking.AddPassed dummy parcel) = 1

abbrev pub counting_left : Counting → ℕ
counting_left Counting.ReadTag = 7
counting_left (Counting.ReadBody tag i) = 3 + (3 - i)
counting_left Counting.ReadCount = 2
counting_left (Counting.WriteCount count) = 1

-- those that write an answer, and the mark: an item has a tag and a body
abbrev pub writing_left : Answer → ℕ
writing_left (Answer.Take (TakeAnswer.Got item)) = 7
writing_left _ = 2

-- a combiner's steps for one call at most, from the read of the link to the mark
abbrev pub service : Config → Chain → ℕ
service c Chain.Send = c.capacity + 24
service c (Chain.Take g) = 19

-- a call that has exchanged writes its request and its link
abbrev pub entering_left : Phase → ℕ
entering_left (Phase.WriteTag put request) = 6
entering_left (Phase.WriteBody put request i) = 2 + (3 - i)
entering_left (Phase.Link put) = 1
entering_left _ = 0

-- ---- the combiner of a chain

-- the phase of the pass that combines among the first n passes, or Idle if none does
abbrev pub combiner_among : Setting → Chain → State → ℕ → Phase
combiner_among c x s zero = Phase.Idle
combiner_among c x s (suc n) = if is_combining (s.stand (pass_on c x n)).phase then (s.stand (pass_on c x n)).phase else combiner_among c x s n

abbrev pub combiner : Setting → Chain → State → Phase
combiner c x s = combiner_among c x s (passes_on c x)

-- It has taken on the next call, and hasn't decided its answer: 1. A combiner that has served no call has taken on its own.
abbrev pub taken_on : Phase → ℕ
taken_on (Phase.ReadNext round) = if round.served == 0 then 1 else 0
taken_on (Phase.Counting job at) = 1
taken_on (Phase.Sending job at) = 1 - decided (Phase.Sending job at)
taken_on (Phase.Taking job at) = 1
taken_on _ = 0

-- its steps for the call that it has taken on, and two more: it reads that no further call is linked, and hands over
abbrev pub serving_left : Config → Chain → Phase → ℕ
serving_left c x (Phase.ReadNext round) = if round.served == 0 then service c x + 2 else 2
serving_left c x (Phase.Counting job at) = counting_left at + 4
serving_left c x (Phase.Sending job at) = sending_left c at + 4
serving_left c x (Phase.Taking job at) = taking_left at + 9
serving_left c x (Phase.WriteAnswer job told) = writing_left told + 2
serving_left c x (Phase.WriteAnswerTag job item) = 8
serving_left c x (Phase.WriteAnswerBody job item i) = 4 + (3 - i)
serving_left c x (Phase.MarkDone job) = 3
serving_left c x (Phase.HandOver at) = 1
serving_left c x _ = 0

-- ---- what is ahead

-- the share of a pass in a count of steps, if it is in one of the first k calls; and those of the first n passes
abbrev pub share : (Phase → ℕ) → Setting → Chain → ℕ → State → ℕ → ℕ
share left c x k s n = if is_among c x k s n then left (s.stand (pass_on c x n)).phase else 0

abbrev pub shares : (Phase → ℕ) → Setting → Chain → ℕ → State → ℕ → ℕ
shares left c x k s zero = 0
shares left c x k s (suc n) = share left c x k s n + shares left c x k s n

-- A call that isn't taken on costs a service, and three steps: two of the combiner before it, and the read of state 0.
abbrev pub serving_part : Config → Chain → ℕ → ℕ → Phase → ℕ
serving_part c x k answers at = (k - (answers + taken_on at)) * (service c x + 3) + (if nat_lt answers (k + decided at) then serving_left c x at else 0)

-- the steps ahead of the end of the service of the first k calls of a chain: those of combiners, and those of passes that enter
abbrev pub ahead : Setting → Chain → ℕ → State → ℕ
ahead c x k s = serving_part c.config x k (length (answers_on x s.history)) (combiner c x s) + shares entering_left c x k s (passes_on c x)

-- at most that many, if this number of the first k calls have no answer
abbrev pub most_ahead : Setting → Chain → ℕ → ℕ
most_ahead c x unanswered = unanswered * (service c.config x + 3) + (service c.config x + 2) + passes_on c x * 6

-- and at most that many in any state, since no two calls without an answer are of one pass
abbrev pub all_ahead : Setting → Chain → ℕ
all_ahead c x = most_ahead c x (passes_on c x)
