-- A call on its chain: a line for each phase of a pass. Chain x is the pass's, own its node. The order of
-- steps is this project's own, after CC-Synch (Fatourou and Kallimanis, PPoPP 2012), with the two flags of its nodes in one
-- word of state: 1 waiting, 2 done, 0 serve.
use Rattle.std.specs.Prelude.{ℕ, zero, suc, ◌+◌, ◌-◌, ◌==◌, if◌then◌else◌, Option, Some, None}
use Rattle.cc_runs.specs.Names.{Setting, Served, Entry, Answer, TakeAnswer, Chain, NodeField, Word, Kind, Event, Round, Job, Phase, Counting, Sending, Taking}
use Rattle.cc_runs.specs.Codes.{item_in, tag_of, body_words, request_in, ret_of, code_of, value_of, sender_reads, further_words, word, no_words, parcel, with_read, behind}
use Rattle.cc_runs.specs.State.{Operation, Load, Store, Swap}
use Rattle.cc_runs.specs.CountLines as count_side
use Rattle.cc_runs.specs.SendLines as send_side
use Rattle.cc_runs.specs.TakeLines as take_side

-- the group of a chain of receivers
abbrev pub group_of : Chain → ℕ
group_of Chain.Send = 0
group_of (Chain.Take g) = g

-- a sender writes its request, a receiver has none
abbrev pub after_exchange : Chain → ℕ → Entry → Phase
after_exchange Chain.Send own call = Phase.WriteTag own (request_in call)
after_exchange (Chain.Take g) own call = Phase.Link own

-- 0: the caller combines, from its own node on; 1: it waits; 2: its answer is there
abbrev pub after_state : ℕ → ℕ → Phase
after_state own zero = Phase.ReadNext record { at = own; served = 0 }
after_state own (suc zero) = Phase.ReadState
after_state own (suc (suc _)) = Phase.ReadAnswer

-- the service of one request
abbrev pub serves : Served → Chain → Job → Phase
serves Served.Counter x job = Phase.Counting job Counting.ReadTag
serves Served.List Chain.Send job = Phase.Sending job Sending.ReadTag
serves Served.List (Chain.Take g) job = Phase.Taking job Taking.ReadHead

-- if no node is linked yet, the combiner stops here
abbrev pub after_next : Served → Chain → Round → ℕ → Phase
after_next served x round zero = Phase.HandOver round.at
after_next served x round (suc next) = serves served x record { round = round; next = next }

-- a take that is handed an item gets its tag and its body too
abbrev pub after_answer : Job → Answer → Phase
after_answer job (Answer.Take (TakeAnswer.Got item)) = Phase.WriteAnswerTag job item
after_answer job _ = Phase.MarkDone job

-- a combiner stops at the bound
abbrev pub after_done : ℕ → Job → Phase
after_done bound job =
    if job.round.served + 1 == bound then Phase.HandOver job.next
    else Phase.ReadNext record { at = job.next; served = job.round.served + 1 }

-- a take that got an item reads its tag and its body too
abbrev pub after_ret : Served → Chain → ℕ → Phase
after_ret served Chain.Send ret = Phase.Finished (sender_reads served ret)
after_ret served (Chain.Take g) ret =
    if code_of ret == 1 then Phase.ReadAnswerTag (value_of ret)
    else if code_of ret == 2 then Phase.Finished (Answer.Take TakeAnswer.Empty)
    else Phase.Finished (Answer.Take (TakeAnswer.Ended (value_of ret)))

-- One line: the kind of the step, or that there is none; the one word that it touches, and how; the phase afterwards, the
-- pass's node afterwards, the call that it puts into the history, and the answer that it decides.
pub record Line : Type 0 where
  pub event : Event
  pub does : Operation
  pub goes : Phase
  pub node : ℕ
  pub enters : Option Entry
  pub decides : Option Answer

module _ (c : Setting) (x : Chain) (own : ℕ) where
  -- most steps move their pass on, and do nothing else
  abbrev step : Kind → Operation → Phase → Line
  step what does to = record { event = Event.Did what; does = does; goes = to; node = own; enters = None; decides = None }

  abbrev load : Kind → Word → Phase → Line
  load what word to = step what (Load word) to

  abbrev store : Kind → Word → ℕ → Phase → Line
  store what word value to = step what (Store word value) to

  -- a swap puts a call into the history, and gives the pass another node
  abbrev swap : Kind → Word → ℕ → Entry → ℕ → Phase → Line
  swap what word value call node to = record (step what (Swap word value) to) { node = node; enters = Some call }

  -- a pass that is idle or has finished its call has no step
  abbrev none : Phase → Line
  none at = record { event = Event.Idle; does = Load (Word.Tail x); goes = at; node = own; enters = None; decides = None }

  abbrev pub line : Phase → ℕ → Line
  line Phase.Idle _ = none Phase.Idle
  -- the call enters
  line (Phase.ResetNext call) _ = store Kind.ResetNext (Word.Node x own NodeField.Next) 0 (Phase.ResetState call)
  line (Phase.ResetState call) _ = store Kind.ResetState (Word.Node x own NodeField.State) 1 (Phase.Exchange call)
  line (Phase.Exchange call) found = swap Kind.Exchange (Word.Tail x) (own + 1) call (found - 1) (after_exchange x own call)
  line (Phase.WriteTag put request) _ = store Kind.WriteRequest (Word.Node x own NodeField.Tag) request.tag (Phase.WriteBody put request 0)
  line (Phase.WriteBody put request i) _ = store Kind.WriteRequest (Word.Node x own (NodeField.Body i)) (word request.body i) (behind (further_words request.tag) i (Phase.WriteBody put request (i + 1)) (Phase.Link put))
  line (Phase.Link put) _ = store Kind.Link (Word.Node x own NodeField.Next) (put + 1) Phase.ReadState
  line Phase.ReadState state = load Kind.ReadState (Word.Node x own NodeField.State) (after_state own state)
  -- it combines
  line (Phase.ReadNext round) next = load Kind.ReadNext (Word.Node x round.at NodeField.Next) (after_next c.served x round next)
  line (Phase.Counting job service) found = record (step (count_side.kind_of service) (count_side.operation job.round.at service) (count_side.goes job service found)) { decides = count_side.decides service found }
  line (Phase.Sending job service) found = record (step (send_side.kind_of service) (send_side.operation c.config job.round.at service) (send_side.goes c.config job service found)) { decides = send_side.decides c.config service found }
  line (Phase.Taking job service) found = record (step (take_side.kind_of service) (take_side.operation (group_of x) service) (take_side.goes job service found)) { decides = take_side.decides service found }
  line (Phase.WriteAnswer job told) _ = store Kind.WriteAnswer (Word.Node x job.round.at NodeField.Ret) (ret_of c.served told) (after_answer job told)
  line (Phase.WriteAnswerTag job item) _ = store Kind.WriteAnswer (Word.Node x job.round.at NodeField.Tag) (tag_of item) (Phase.WriteAnswerBody job item 0)
  line (Phase.WriteAnswerBody job item i) _ = store Kind.WriteAnswer (Word.Node x job.round.at (NodeField.Body i)) (word (body_words item) i) (behind (further_words (tag_of item)) i (Phase.WriteAnswerBody job item (i + 1)) (Phase.MarkDone job))
  line (Phase.MarkDone job) _ = store Kind.MarkDone (Word.Node x job.round.at NodeField.State) 2 (after_done c.config.bound job)
  line (Phase.HandOver at) _ = store Kind.HandOver (Word.Node x at NodeField.State) 0 Phase.ReadAnswer
  -- it reads its answer
  line Phase.ReadAnswer ret = load Kind.ReadAnswer (Word.Node x own NodeField.Ret) (after_ret c.served x ret)
  line (Phase.ReadAnswerTag at) tag = load Kind.ReadAnswer (Word.Node x own NodeField.Tag) (Phase.ReadAnswerBody (parcel at tag no_words) 0)
  line (Phase.ReadAnswerBody p i) found = load Kind.ReadAnswer (Word.Node x own (NodeField.Body i)) (behind (further_words p.tag) i (Phase.ReadAnswerBody (with_read p i found) (i + 1)) (Phase.Finished (Answer.Take (TakeAnswer.Got (item_in (with_read p i found))))))
  line (Phase.Finished told) _ = none (Phase.Finished told)

-- ---- what follows from the lines

-- a setting for what doesn't depend on it
abbrev pub any_setting : Setting
any_setting = record { served = Served.List; config = send_side.any_config }

abbrev pub event_at : Phase → Event
event_at at = (line any_setting Chain.Send 0 at 0).event

abbrev pub operation : Setting → Chain → ℕ → Phase → Operation
operation c x own at = (line c x own at 0).does

abbrev pub goes : Setting → Chain → ℕ → Phase → ℕ → Phase
goes c x own at found = (line c x own at found).goes

abbrev pub node_after : ℕ → Phase → ℕ → ℕ
node_after own at found = (line any_setting Chain.Send own at found).node

abbrev pub enters : Phase → Option Entry
enters at = (line any_setting Chain.Send 0 at 0).enters

abbrev pub decides : Setting → Phase → ℕ → Option Answer
decides c at found = (line c Chain.Send 0 at found).decides
