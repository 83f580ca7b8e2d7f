-- The registers at the places of a chain's passes, and their relation to the history.
use Rattle.std.proofs.Common.{◌≡◌, ◌≤◌, ◌<◌, ◌+◌, ℕ, length, ◌==◌, if◌then◌else◌, List, get_or}
use Rattle.cc_runs.specs.Names.{Entry, Pass, Call, Answer, SendAnswer, CloseAnswer, TakeAnswer, Setting, Served, Chain, BodyWords, Counting, Sending, Phase}
use Rattle.cc_runs.specs.Codes.{item_of, tag_of, body_words, no_words, further_words, word, request_in, ret_of, code_of, value_of, sender_reads}
use Rattle.cc_model.specs.Record.{Record}
use Rattle.cc_runs.specs.State.{pass_at}
use Rattle.cc_runs.specs.Run.{IsOn}
pub use Rattle.cc_runs.specs.OnChain.{IsChainOf, IsChain, calls_on, answers_on}
use Rattle.cc_runs.proofs.Chains.View.{pass_on, told_words, no_word}

-- the history has a side for it
abbrev pub HasSide : Chain → Record → Type 0
HasSide Chain.Send h = Unit {0}
HasSide (Chain.Take g) h = g < length h.takes

abbrev pub no_call : Entry
no_call = record { pass = Pass.Sender 0; call = Call.Close; number = 0; known = 0 }

abbrev pub no_answer : Answer
no_answer = Answer.Take TakeAnswer.Empty

abbrev pub call_at : List Entry → ℕ → Entry
call_at calls k = get_or calls k no_call

abbrev pub answer_at : List Answer → ℕ → Answer
answer_at answers k = get_or answers k no_answer

-- a call of pass p of the chain
pub record IsCall (c : Setting) (x : Chain) (p : ℕ) (e : Entry) : Type 0 where
  pub pass_is : e.pass ≡ pass_at c.config (pass_on c x p)
  pub on : IsOn c.served x e.call
  pub number_in : e.number ≤ c.config.per_sender

-- the facts of senders, of receivers, and if this is served
abbrev pub OnSend : Chain → Type 0
OnSend Chain.Send = Unit {0}
OnSend (Chain.Take g) = ⊥

abbrev pub OnTake : Chain → Type 0 → Type 0
OnTake Chain.Send A = ⊥
OnTake (Chain.Take g) A = A

abbrev pub Counts : Served → Chain → Type 0
Counts Served.Counter Chain.Send = Unit {0}
Counts _ _ = ⊥

abbrev pub Sends : Served → Chain → Type 0 → Type 0
Sends Served.List Chain.Send A = A
Sends _ _ A = ⊥

abbrev pub Takes : Served → Chain → Type 0
Takes Served.List (Chain.Take g) = Unit {0}
Takes _ _ = ⊥

-- a pass with a call that hasn't exchanged keeps it, and only a sender writes a request
abbrev pub HasCall : Setting → Chain → ℕ → Phase → Type 0
HasCall c x p (Phase.ResetNext call) = IsCall c x p call
HasCall c x p (Phase.ResetState call) = IsCall c x p call
HasCall c x p (Phase.Exchange call) = IsCall c x p call
HasCall c x p (Phase.WriteTag put request) = OnSend x
HasCall c x p (Phase.WriteBody put request i) = OnSend x × (i ≤ further_words request.tag)
HasCall c x p _ = Unit {0}

-- what a call of this chain can be answered
abbrev pub IsAnswer : Served → Chain → Answer → Type 0
IsAnswer Served.Counter Chain.Send (Answer.Send (SendAnswer.Accepted place)) = Unit {0}
IsAnswer Served.List Chain.Send (Answer.Send told) = Unit {0}
IsAnswer Served.List Chain.Send (Answer.Close told) = Unit {0}
IsAnswer Served.List (Chain.Take g) (Answer.Take told) = Unit {0}
IsAnswer _ _ _ = ⊥

-- a tag, and the first words of a body: those that were read of the request of a call
abbrev pub HasAsked : Entry → ℕ → BodyWords → ℕ → Type 0
HasAsked e tag body n = (tag ≡ (request_in e).tag) × ((j : ℕ) → j < n → word body j ≡ word (request_in e).body j)

-- and the words of all of it
abbrev pub HasRequest : Entry → ℕ → BodyWords → Type 0
HasRequest e tag body = HasAsked e tag body (further_words tag + 1)

-- the senders' combiner keeps words of the request that it serves, and then the answer that it has decided
abbrev pub HasSend : Entry → Answer → Sending → Type 0
HasSend e a (Sending.ReadBody request i) = HasAsked e request.tag request.body i × (i ≤ further_words request.tag)
HasSend e a (Sending.ReadShut request) = HasRequest e request.tag request.body
HasSend e a (Sending.ReadCount request) = HasRequest e request.tag request.body
HasSend e a (Sending.ReadCursor parcel) = HasRequest e parcel.tag parcel.body
HasSend e a (Sending.ReadPassed parcel at reads) = HasRequest e parcel.tag parcel.body
HasSend e a (Sending.ResetPassed parcel at) = HasRequest e parcel.tag parcel.body
HasSend e a (Sending.ResetItemNext parcel at) = HasRequest e parcel.tag parcel.body
HasSend e a (Sending.WriteItemTag parcel at) = HasRequest e parcel.tag parcel.body
HasSend e a (Sending.WriteItemBody parcel at i) = HasRequest e parcel.tag parcel.body × (i ≤ further_words parcel.tag)
HasSend e a (Sending.WriteLastMark total) = a ≡ Answer.Close (CloseAnswer.Shut total)
HasSend e a (Sending.WriteShut total) = a ≡ Answer.Close (CloseAnswer.Shut total)
HasSend e a (Sending.WriteLast place at) = a ≡ Answer.Send (SendAnswer.Accepted place)
HasSend e a (Sending.WriteCount place at) = a ≡ Answer.Send (SendAnswer.Accepted place)
HasSend e a (Sending.WriteCursor place at) = a ≡ Answer.Send (SendAnswer.Accepted place)
HasSend e a _ = Unit {0}

-- that of the counter reads the words of a body that there are
abbrev pub HasCount : Counting → Type 0
HasCount (Counting.ReadBody tag i) = i ≤ further_words tag
HasCount _ = Unit {0}

-- a combiner serves what its chain serves, here the call e, which is answered a
abbrev pub HasService : Served → Chain → Entry → Answer → Phase → Type 0
HasService served x e a (Phase.Counting job service) = Counts served x × HasCount service
HasService served x e a (Phase.Sending job service) = Sends served x (HasSend e a service)
HasService served x e a (Phase.Taking job service) = Takes served x
HasService served x e a (Phase.WriteAnswer job told) = a ≡ told
HasService served x e a (Phase.WriteAnswerTag job item) = OnTake x (a ≡ Answer.Take (TakeAnswer.Got item))
HasService served x e a (Phase.WriteAnswerBody job item i) = OnTake x ((a ≡ Answer.Take (TakeAnswer.Got item)) × (i ≤ further_words (tag_of item)))
HasService served x e a _ = Unit {0}

-- the words of an answer
abbrev pub tag_word : Answer → ℕ
tag_word (Answer.Take (TakeAnswer.Got item)) = tag_of item
tag_word _ = 0

abbrev pub words_told : Answer → BodyWords
words_told (Answer.Take (TakeAnswer.Got item)) = body_words item
words_told _ = no_words

abbrev pub coded_words : Served → Chain → Answer → ℕ → ℕ
coded_words served Chain.Send a j = told_words (ret_of served a) 0 no_word j
coded_words served (Chain.Take g) a j = told_words (ret_of served a) (tag_word a) (word (words_told a)) j

-- what a call makes of them
abbrev pub take_reads : ℕ → ℕ → BodyWords → Answer
take_reads ret tag body =
    if code_of ret == 1 then Answer.Take (TakeAnswer.Got (item_of (value_of ret) tag body))
    else if code_of ret == 2 then Answer.Take TakeAnswer.Empty
    else Answer.Take (TakeAnswer.Ended (value_of ret))

abbrev pub reads : Served → Chain → Answer → Answer
reads served Chain.Send a = sender_reads served (ret_of served a)
reads served (Chain.Take g) a = take_reads (ret_of served a) (tag_word a) (words_told a)

-- a call that is answered a has read so much of it
abbrev pub HasRead : Served → Chain → Answer → Phase → Type 0
HasRead served x a (Phase.ReadAnswerTag at) = OnTake x ((code_of (ret_of served a) ≡ 1) × (at ≡ value_of (ret_of served a)))
HasRead served x a (Phase.ReadAnswerBody p i) =
    OnTake x ((code_of (ret_of served a) ≡ 1) × (p.place ≡ value_of (ret_of served a)) × (p.tag ≡ tag_word a) × (i ≤ further_words p.tag) × ((j : ℕ) → j < i → word p.body j ≡ word (words_told a) j))
HasRead served x a (Phase.Finished told) = told ≡ reads served x a
HasRead served x a _ = Unit {0}
