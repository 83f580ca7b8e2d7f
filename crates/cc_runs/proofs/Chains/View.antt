-- A chain of a state, as the abstract chain sees it.
use Rattle.std.proofs.Common.{ℕ, zero, suc, ◌+◌}
use Rattle.cc_runs.specs.Names.{Setting, Chain, NodeField, Word, Job, Request, Stand, Sending, Phase, Entry, Answer, TakeAnswer}
use Rattle.cc_runs.specs.Codes.{request_in, further_words, tag_of}
use Rattle.cc_runs.specs.State.{State}
pub use Rattle.cc_runs.specs.OnChain.{passes_on as members, pass_on}
use Rattle.cc_runs.proofs.Combining.Chain.{Post, Cell, Chain as Seen}

-- the words of a request: its tag, and those of its body; a take has none
abbrev pub words_of : ℕ → (ℕ → ℕ) → ℕ → ℕ
words_of tag body zero = tag
words_of tag body (suc i) = body i

abbrev pub request_words : Chain → (NodeField → ℕ) → ℕ → ℕ
request_words Chain.Send w j = words_of (w NodeField.Tag) (λ i. w (NodeField.Body i)) j
request_words (Chain.Take g) w j = 0

-- the words of a request as its sender has them, and after all of them how many of the body's there are
abbrev pub asks_in : Request → ℕ → ℕ
asks_in r zero = r.tag
asks_in r (suc zero) = r.body.first
asks_in r (suc (suc zero)) = r.body.second
asks_in r (suc (suc (suc zero))) = r.body.third
asks_in r (suc (suc (suc (suc zero)))) = r.body.fourth
asks_in r (suc (suc (suc (suc (suc zero))))) = further_words r.tag
asks_in r (suc (suc (suc (suc (suc (suc _)))))) = 0

-- what a call asks for, and in how many words
abbrev pub asked_words : Chain → Entry → ℕ → ℕ
asked_words Chain.Send e j = asks_in (request_in e) j
asked_words (Chain.Take g) e j = 0

abbrev pub request_long : Chain → Entry → ℕ
request_long Chain.Send e = further_words (request_in e).tag + 2
request_long (Chain.Take g) e = 0

-- the words of an answer: a take gets an item's tag and its body too
abbrev pub told_words : ℕ → ℕ → (ℕ → ℕ) → ℕ → ℕ
told_words ret tag body zero = ret
told_words ret tag body (suc j) = words_of tag body j

abbrev pub no_word : ℕ → ℕ
no_word i = 0

abbrev pub answer_words : Chain → (NodeField → ℕ) → ℕ → ℕ
answer_words Chain.Send w j = told_words (w NodeField.Ret) 0 no_word j
answer_words (Chain.Take g) w j = told_words (w NodeField.Ret) (w NodeField.Tag) (λ i. w (NodeField.Body i)) j

-- how many words an answer has
abbrev pub answer_long : Answer → ℕ
answer_long (Answer.Take (TakeAnswer.Got item)) = further_words (tag_of item) + 3
answer_long _ = 1

-- as many words as no answer and no request has more
abbrev pub all_told : ℕ
all_told = 6

abbrev pub all_wrote : Chain → ℕ
all_wrote Chain.Send = 6
all_wrote (Chain.Take g) = 0

-- how many words of an answer are there once its first is written
abbrev pub told_next : Answer → ℕ
told_next (Answer.Take (TakeAnswer.Got item)) = 1
told_next _ = all_told

abbrev pub cell_of : Chain → (NodeField → ℕ) → Cell
cell_of x w = record { next = w NodeField.Next; state = w NodeField.State; request = request_words x w; answer = answer_words x w }

-- out of the chain, or with no register in it
abbrev pub out : ℕ → ℕ → Post
out rank own = record { rank = rank; node = own; put = 0; asks = λ j. 0; wrote = 0; target = 0; served = 0; next = 0; stage = 0; told = 0 }

-- exchanged, and not linked yet
abbrev pub entering : ℕ → ℕ → (ℕ → ℕ) → ℕ → Post
entering own put asks wrote = record { rank = 3; node = own; put = put; asks = asks; wrote = wrote; target = 0; served = 0; next = 0; stage = 0; told = 0 }

-- combining, with nobody served
abbrev pub resting : ℕ → ℕ → ℕ → ℕ → Post
resting own at served stage = record { rank = 5; node = own; put = 0; asks = λ j. 0; wrote = 0; target = at; served = served; next = 0; stage = stage; told = 0 }

-- combining, in the service of a request
abbrev pub serving : ℕ → Job → ℕ → ℕ → Post
serving own job stage told = record { rank = 5; node = own; put = 0; asks = λ j. 0; wrote = 0; target = job.round.at; served = job.round.served; next = job.next + 1; stage = stage; told = told }

-- 1 before the answer is decided, 2 from then on
abbrev pub send_stage : Sending → ℕ
send_stage (Sending.WriteLastMark total) = 2
send_stage (Sending.WriteShut total) = 2
send_stage (Sending.WriteLast place at) = 2
send_stage (Sending.WriteCount place at) = 2
send_stage (Sending.WriteCursor place at) = 2
send_stage _ = 1

abbrev pub post_of : Chain → ℕ → Phase → Post
post_of x own Phase.Idle = out 0 own
post_of x own (Phase.ResetNext call) = out 0 own
post_of x own (Phase.ResetState call) = out 1 own
post_of x own (Phase.Exchange call) = out 2 own
post_of x own (Phase.WriteTag put request) = entering own put (asks_in request) 0
post_of x own (Phase.WriteBody put request i) = entering own put (asks_in request) (suc i)
post_of x own (Phase.Link put) = entering own put no_word (all_wrote x)
post_of x own Phase.ReadState = out 4 own
post_of x own (Phase.ReadNext round) = resting own round.at round.served 0
post_of x own (Phase.Counting job service) = serving own job 1 0
post_of x own (Phase.Sending job service) = serving own job (send_stage service) 0
post_of x own (Phase.Taking job service) = serving own job 1 0
post_of x own (Phase.WriteAnswer job told) = serving own job 2 0
post_of x own (Phase.WriteAnswerTag job item) = serving own job 2 1
post_of x own (Phase.WriteAnswerBody job item i) = serving own job 2 (suc (suc i))
post_of x own (Phase.MarkDone job) = serving own job 2 all_told
post_of x own (Phase.HandOver at) = resting own at 0 3
post_of x own Phase.ReadAnswer = out 6 own
post_of x own (Phase.ReadAnswerTag at) = out 6 own
post_of x own (Phase.ReadAnswerBody p i) = out 6 own
post_of x own (Phase.Finished told) = out 0 own

abbrev pub post_at : Chain → Stand → Post
post_at x at = post_of x at.node at.phase

abbrev pub view : Setting → Chain → State → Seen
view c x s = record { tail = s.mem (Word.Tail x); node = λ i. cell_of x (λ f. s.mem (Word.Node x i f)); post = λ p. post_at x (s.stand (pass_on c x p)) }
