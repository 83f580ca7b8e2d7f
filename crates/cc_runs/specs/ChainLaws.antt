-- The laws of each chain after every run, whatever is served; and of a counter.
use Rattle.std.specs.Prelude.{◌≡◌, ◌≢◌, ℕ, ◌+◌, ◌<◌, ◌≤◌, Bool, true, false, IsTrue, List, [], ◌∷◌, ◌++◌, length, Option, Some, None, Ok}
use Rattle.std.specs.List.{AllByRecursion, slice_get}
use Rattle.cc_model.specs.Record.{Record}
use Rattle.cc_model.specs.Items.{HasAnswer, calls_of}
use Rattle.cc_model.specs.Config.{config_fault}
use Rattle.cc_runs.specs.Names.{Pass, Entry, Item, Answer, SendAnswer, TakeAnswer, Setting, Served, Chain, NodeField, Object, Word, Phase, Move}
use Rattle.cc_runs.specs.Codes.{tag_of, body_words, further_words, word, request_in, ret_of}
use Rattle.cc_runs.specs.State.{State, chain_of, pass_at, word_of}
use Rattle.cc_runs.specs.Lines.{operation}
use Rattle.cc_runs.specs.Run.{IsRun, reached, passes, history_of}
use Rattle.cc_runs.specs.Ready.{WhileUndecided, IsReady}
use Rattle.cc_runs.specs.OnChain.{passes_on, calls_on, answers_on, FitsIn}

-- a combiner, from its read of state 0 to its hand-over
abbrev pub is_combining : Phase → Bool
is_combining (Phase.ReadNext round) = true
is_combining (Phase.Counting job service) = true
is_combining (Phase.Sending job service) = true
is_combining (Phase.Taking job service) = true
is_combining (Phase.WriteAnswer job told) = true
is_combining (Phase.WriteAnswerTag job item) = true
is_combining (Phase.WriteAnswerBody job item i) = true
is_combining (Phase.MarkDone job) = true
is_combining (Phase.HandOver at) = true
is_combining _ = false

abbrev pub IsCombining : Phase → Type 0
IsCombining at = IsTrue (is_combining at)

-- how many requests it has served since then
abbrev pub served_by : Phase → ℕ
served_by (Phase.ReadNext round) = round.served
served_by (Phase.Counting job service) = job.round.served
served_by (Phase.Sending job service) = job.round.served
served_by (Phase.Taking job service) = job.round.served
served_by (Phase.WriteAnswer job told) = job.round.served
served_by (Phase.WriteAnswerTag job item) = job.round.served
served_by (Phase.WriteAnswerBody job item i) = job.round.served
served_by (Phase.MarkDone job) = job.round.served
served_by _ = 0

-- the nodes that it will touch, with the pass's own, are among the chain's
abbrev pub AreNodes : ℕ → Phase → Type 0
AreNodes n (Phase.WriteTag put request) = put ≤ n
AreNodes n (Phase.WriteBody put request i) = put ≤ n
AreNodes n (Phase.Link put) = put ≤ n
AreNodes n (Phase.ReadNext round) = round.at ≤ n
AreNodes n (Phase.Counting job service) = (job.round.at ≤ n) × (job.next ≤ n)
AreNodes n (Phase.Sending job service) = (job.round.at ≤ n) × (job.next ≤ n)
AreNodes n (Phase.Taking job service) = (job.round.at ≤ n) × (job.next ≤ n)
AreNodes n (Phase.WriteAnswer job told) = (job.round.at ≤ n) × (job.next ≤ n)
AreNodes n (Phase.WriteAnswerTag job item) = (job.round.at ≤ n) × (job.next ≤ n)
AreNodes n (Phase.WriteAnswerBody job item i) = (job.round.at ≤ n) × (job.next ≤ n)
AreNodes n (Phase.MarkDone job) = (job.round.at ≤ n) × (job.next ≤ n)
AreNodes n (Phase.HandOver at) = at ≤ n
AreNodes n _ = Unit {0}

-- the node whose request is in service
abbrev pub served_node : Phase → ℕ
served_node (Phase.Counting job service) = job.round.at
served_node (Phase.Sending job service) = job.round.at
served_node (Phase.Taking job service) = job.round.at
served_node _ = 0

-- a node of the chain holds the request of this call: a take has no request words
abbrev pub HoldsRequest : State → Chain → ℕ → Entry → Type 0
HoldsRequest s Chain.Send at e = (s.mem (Word.Node Chain.Send at NodeField.Tag) ≡ (request_in e).tag) × ((i : ℕ) → i ≤ further_words (request_in e).tag → s.mem (Word.Node Chain.Send at (NodeField.Body i)) ≡ word (request_in e).body i)
HoldsRequest s (Chain.Take g) at e = Unit {0}

-- the request in this node is that of the first call without an answer
pub record ServesNext (s : State) (x : Chain) (at : ℕ) : Type 0 where
  pub entry : Entry
  pub next : slice_get (calls_on x s.history) (length (answers_on x s.history)) ≡ Some entry
  pub request : HoldsRequest s x at entry

-- the k-th call of a list is the last one of this pass
pub record IsLastCall (calls : List Entry) (who : Pass) (k : ℕ) : Type 0 where
  pub entry : Entry
  pub its : slice_get calls k ≡ Some entry
  pub who_is : entry.pass ≡ who
  pub none_later : (j : ℕ) (later : Entry) → k < j → slice_get calls j ≡ Some later → later.pass ≢ who

-- a combiner began with its own call, and answered at most bound calls from there on
pub record IsWithinBound (bound : ℕ) (calls : List Entry) (answers : List Answer) (who : Pass) : Type 0 where
  pub own : ℕ
  pub last : IsLastCall calls who own
  pub low : own ≤ length answers
  pub high : length answers ≤ own + bound

-- the last call of this pass is answered in the history, and this is what was read as its answer
pub record WasTold (what : Served) (h : Record) (who : Pass) (told : Answer) : Type 0 where
  pub before : List (Entry × Option Answer)
  pub entry : Entry
  pub answer : Answer
  pub last : calls_of who h ≡ before ++ (entry, Some answer) ∷ []
  pub same : FitsIn what answer → told ≡ answer

-- its answer is there, and it reads its words
abbrev pub IsReading : Phase → Type 0
IsReading Phase.ReadAnswer = Unit {0}
IsReading (Phase.ReadAnswerTag at) = Unit {0}
IsReading (Phase.ReadAnswerBody p i) = Unit {0}
IsReading _ = ⊥

-- the word of this answer that it reads next, in its node own
abbrev pub ReadsWord : Served → State → Chain → ℕ → Answer → Phase → Type 0
ReadsWord what s x own a Phase.ReadAnswer = s.mem (Word.Node x own NodeField.Ret) ≡ ret_of what a
ReadsWord what s x own a (Phase.ReadAnswerTag at) = (item : Item) × (a ≡ Answer.Take (TakeAnswer.Got item)) × (s.mem (Word.Node x own NodeField.Tag) ≡ tag_of item)
ReadsWord what s x own a (Phase.ReadAnswerBody p i) = (item : Item) × (a ≡ Answer.Take (TakeAnswer.Got item)) × (s.mem (Word.Node x own (NodeField.Body i)) ≡ word (body_words item) i)
ReadsWord what s x own a _ = Unit {0}

-- the last call of this pass is answered in the history, and the word that it reads next is one of that answer
pub record IsToldBy (what : Served) (s : State) (x : Chain) (own : ℕ) (who : Pass) (at : Phase) : Type 0 where
  pub before : List (Entry × Option Answer)
  pub entry : Entry
  pub answer : Answer
  pub last : calls_of who s.history ≡ before ++ (entry, Some answer) ∷ []
  pub word : ReadsWord what s x own answer at

-- out of its chain: from the last word of an answer that it reads to its next exchange
abbrev pub IsOut : Phase → Type 0
IsOut Phase.Idle = Unit {0}
IsOut (Phase.ResetNext call) = Unit {0}
IsOut (Phase.ResetState call) = Unit {0}
IsOut (Phase.Exchange call) = Unit {0}
IsOut (Phase.Finished told) = Unit {0}
IsOut _ = ⊥

-- the laws of the chains of a state
pub record ChainLaws (c : Setting) (s : State) : Type 0 where
  -- one pass of a chain combines at most
  pub one : (p q : ℕ) → p < passes c → q < passes c → chain_of c.config p ≡ chain_of c.config q → IsCombining (s.stand p).phase → IsCombining (s.stand q).phase → p ≡ q
  -- it continues only if it has served fewer than the bound, and answers no more than that in all
  pub bounded : (p : ℕ) → p < passes c → served_by (s.stand p).phase < c.config.bound
  pub within : (p : ℕ) → p < passes c → IsCombining (s.stand p).phase →
      IsWithinBound c.config.bound (calls_on (chain_of c.config p) s.history) (answers_on (chain_of c.config p) s.history) (pass_at c.config p)
  -- what it serves, before it decides, is the first call without an answer: so answers come in the order of the exchanges
  pub ordered : (x : Chain) → length (answers_on x s.history) ≤ length (calls_on x s.history)
  pub serves : (p : ℕ) → p < passes c → WhileUndecided (s.stand p).phase (ServesNext s (chain_of c.config p) (served_node (s.stand p).phase))
  -- what a call reads as its answer, word by word and in all, is its answer in the history
  pub reads : (p : ℕ) → p < passes c → IsReading (s.stand p).phase → IsToldBy c.served s (chain_of c.config p) (s.stand p).node (pass_at c.config p) (s.stand p).phase
  pub told : (p : ℕ) (told : Answer) → p < passes c → (s.stand p).phase ≡ Phase.Finished told → WasTold c.served s.history (pass_at c.config p) told
  -- each node that is named is one of the chain, and each link that is read is null or names one
  pub own : (p : ℕ) → p < passes c → (s.stand p).node ≤ passes_on c (chain_of c.config p)
  pub nodes : (p : ℕ) → p < passes c → AreNodes (passes_on c (chain_of c.config p)) (s.stand p).phase
  pub link : (p at served : ℕ) → p < passes c → (s.stand p).phase ≡ Phase.ReadNext record { at = at; served = served } → s.mem (Word.Node (chain_of c.config p) at NodeField.Next) ≤ passes_on c (chain_of c.config p) + 1
  -- a combiner that has served nobody yet finds its own node linked, so it serves its own request first
  pub own_link : (p at : ℕ) → p < passes c → (s.stand p).phase ≡ Phase.ReadNext record { at = at; served = 0 } → 0 < s.mem (Word.Node (chain_of c.config p) at NodeField.Next)
  pub tail : (p : ℕ) → p < passes c → (0 < s.mem (Word.Tail (chain_of c.config p))) × (s.mem (Word.Tail (chain_of c.config p)) ≤ passes_on c (chain_of c.config p) + 1)
  -- no two passes of a chain own one node, and nobody owns the node in its tail: so a pass that resets its node resets nobody else's
  pub apart : (p q : ℕ) → p < passes c → q < passes c → chain_of c.config p ≡ chain_of c.config q → (s.stand p).node ≡ (s.stand q).node → p ≡ q
  pub free : (p : ℕ) → p < passes c → s.mem (Word.Tail (chain_of c.config p)) ≢ (s.stand p).node + 1
  -- and while a pass is out of its chain, also when it resets its node, no other pass's step touches that node
  pub untouched : (p q : ℕ) (f : NodeField) → p < passes c → q < passes c → p ≢ q → IsOut (s.stand p).phase →
      word_of (operation c (chain_of c.config q) (s.stand q).node (s.stand q).phase) ≢ Word.Node (chain_of c.config p) (s.stand p).node f

-- they hold after every run
abbrev pub ChainLawsOfRuns : Type 0
ChainLawsOfRuns = (c : Setting) → config_fault c.config ≡ Ok tt → (moves : List Move) → IsRun c moves → ChainLaws c (reached c moves)

-- its call has exchanged, and isn't linked to the next node yet
abbrev pub IsEntering : Phase → Type 0
IsEntering (Phase.WriteTag put request) = Unit {0}
IsEntering (Phase.WriteBody put request i) = Unit {0}
IsEntering (Phase.Link put) = Unit {0}
IsEntering _ = ⊥

-- the last call of a pass in a history has no answer
pub record IsLastPending (who : Pass) (h : Record) : Type 0 where
  pub before : List (Entry × Option Answer)
  pub entry : Entry
  pub last : calls_of who h ≡ before ++ (entry, None) ∷ []

-- after every run, a call that has exchanged and isn't linked is pending
abbrev pub CallsWaitForTheirLink : Type 0
CallsWaitForTheirLink = (c : Setting) → config_fault c.config ≡ Ok tt → (moves : List Move) → IsRun c moves →
    (p : ℕ) → p < passes c → IsEntering ((reached c moves).stand p).phase → IsLastPending (pass_at c.config p) (history_of c moves)

-- after every run, each call that the history has of a pass out of its chain has its answer
abbrev pub CallsEndAnswered : Type 0
CallsEndAnswered = (c : Setting) → config_fault c.config ≡ Ok tt → (moves : List Move) → IsRun c moves →
    (p : ℕ) → p < passes c → IsOut ((reached c moves).stand p).phase → AllByRecursion HasAnswer (calls_of (pass_at c.config p) (history_of c moves))

-- the laws of a counter: it hands out the numbers from 0 on, in the order of the exchanges
pub record CounterLaws (c : Setting) (s : State) : Type 0 where
  pub chain : ChainLaws c s
  pub count : s.mem (Word.Object Object.Count) ≡ length s.history.sends.answers
  pub numbers : (k : ℕ) → k < length s.history.sends.answers → slice_get s.history.sends.answers k ≡ Some (Answer.Send (SendAnswer.Accepted k))
  -- each step can be done, and leaves every number in its range
  pub ready : (p : ℕ) → p < passes c → IsReady c s p

-- they hold after every run of a counter
abbrev pub CounterLawsOfRuns : Type 0
CounterLawsOfRuns = (c : Setting) → c.served ≡ Served.Counter → config_fault c.config ≡ Ok tt → (moves : List Move) → IsRun c moves → CounterLaws c (reached c moves)

-- the last call of a pass in a history has this answer
pub record IsLastAnswer (pass : Pass) (h : Record) (told : Answer) : Type 0 where
  pub before : List (Entry × Option Answer)
  pub entry : Entry
  pub last : calls_of pass h ≡ before ++ (entry, Some told) ∷ []
