-- Small facts of places, calls and answers.
use Rattle.std.proofs.Common.{◌≡◌, ◌⊎◌, ℕ, ◌+◌, ◌≤◌, Bool, true, false, ◌==◌, cond, refl, ap, sym, arith, inl, inr, None, List}
use Rattle.std.proofs.lemmas.Bool.{eqb-true, eq-eqb}
use Rattle.std.proofs.lemmas.List.{set-get_or, get_or-set_same, length-set}
use Rattle.cc_model.specs.Record.{Side, Record, silent}
use Rattle.cc_runs.specs.Names.{Entry, Item, Answer, TakeAnswer, Setting, Served, Chain, Job, Phase}
use Rattle.cc_runs.specs.Codes.{item_of, tag_of, further_words, request_in, ret_of, code_of, value_of}
use Rattle.cc_runs.specs.State.{side, with_side, noted}
use Rattle.cc_runs.specs.Lines.{serves, after_exchange, after_answer, after_ret}
use Rattle.cc_runs.specs.Run.{IsFinished}
use Rattle.cc_runs.proofs.Bodies.{few_further}
use Rattle.cc_runs.proofs.Chains.View.{post_of, out, request_long, answer_long, all_told, all_wrote}
use Rattle.cc_runs.proofs.Chains.Registers.{IsChainOf, HasSide, HasCall, IsAnswer, HasService, coded_words, HasRead, reads, tag_word, words_told}

pub noted_none : (x : Chain) (h : Record) → noted x h None None ≡ h
noted_none Chain.Send h = refl
noted_none (Chain.Take g) h = ap (λ (l : List Side). record h { takes = l }) (set-get_or h.takes g silent)

pub side_same : (x : Chain) (h : Record) (now : Side) → HasSide x h → side x (with_side x h now) ≡ now
side_same Chain.Send h now i = refl
side_same (Chain.Take g) h now i = get_or-set_same h.takes g now silent i

pub keeps_side : (x y : Chain) (h : Record) (now : Side) → HasSide x h → HasSide x (with_side y h now)
keeps_side Chain.Send y h now i = tt
keeps_side (Chain.Take g) Chain.Send h now i = i
keeps_side (Chain.Take g) (Chain.Take k) h now i = omega (arith, i, length-set h.takes k now)

-- a place with no register but a combiner's
pub record IsFree (c : Setting) (x : Chain) (p : ℕ) (at : Phase) : Type 0 where
  pub call : HasCall c x p at
  pub read : (a : Answer) → HasRead c.served x a at
  pub unfinished : IsFinished at → ⊥

pub free_at : (c : Setting) (x : Chain) (p own : ℕ) (at : Phase) → (post_of x own at).rank ≡ 5 → IsFree c x p at
free_at c x p own (Phase.ReadNext round) e = record { call = tt; read = λ a. tt; unfinished = λ f. f }
free_at c x p own (Phase.Counting job service) e = record { call = tt; read = λ a. tt; unfinished = λ f. f }
free_at c x p own (Phase.Sending job service) e = record { call = tt; read = λ a. tt; unfinished = λ f. f }
free_at c x p own (Phase.Taking job service) e = record { call = tt; read = λ a. tt; unfinished = λ f. f }
free_at c x p own (Phase.WriteAnswer job told) e = record { call = tt; read = λ a. tt; unfinished = λ f. f }
free_at c x p own (Phase.WriteAnswerTag job item) e = record { call = tt; read = λ a. tt; unfinished = λ f. f }
free_at c x p own (Phase.WriteAnswerBody job item i) e = record { call = tt; read = λ a. tt; unfinished = λ f. f }
free_at c x p own (Phase.MarkDone job) e = record { call = tt; read = λ a. tt; unfinished = λ f. f }
free_at c x p own (Phase.HandOver at) e = record { call = tt; read = λ a. tt; unfinished = λ f. f }
free_at c x p own _ e = absurd (omega arith)

-- after an exchange
pub exchanged_free : (c : Setting) (x : Chain) (p own : ℕ) (call : Entry) → IsFree c x p (after_exchange x own call)
exchanged_free c Chain.Send p own call = record { call = tt; read = λ a. tt; unfinished = λ f. f }
exchanged_free c (Chain.Take g) p own call = record { call = tt; read = λ a. tt; unfinished = λ f. f }

-- a service begins
pub serves_it : (s : Served) (n : ℕ) (x : Chain) (e : Entry) (a : Answer) (job : Job) → IsChainOf s n x → HasService s x e a (serves s x job)
serves_it s n x e a job ok = grind arith

-- the first word of an answer is written
pub answers_it : (s : Served) (x : Chain) (e : Entry) (a told : Answer) (job : Job) → a ≡ told → IsAnswer s x told → HasService s x e a (after_answer job told)
answers_it s x e a told job same is = grind arith

-- a request is marked
pub done_it : (s : Served) (x : Chain) (e : Entry) (a : Answer) (job : Job) (b : Bool) → HasService s x e a (cond b (Phase.HandOver job.next) (Phase.ReadNext record { at = job.next; served = job.round.served + 1 }))
done_it s x e a job b = grind arith

pub done_rank : (x : Chain) (own : ℕ) (job : Job) (b : Bool) → (post_of x own (cond b (Phase.HandOver job.next) (Phase.ReadNext record { at = job.next; served = job.round.served + 1 }))).rank ≡ 5
done_rank x own job b = grind arith

pub some_words : (a : Answer) → (1 ≤ answer_long a) × (answer_long a ≤ all_told)
some_words (Answer.Take (TakeAnswer.Got item)) = omega (arith, few_further (tag_of item))
some_words _ = omega arith

-- nor has a request more words than all
pub few_asked : (x : Chain) (e : Entry) → request_long x e ≤ all_wrote x
few_asked Chain.Send e = omega (arith, few_further (request_in e).tag)
few_asked (Chain.Take g) e = omega arith

pub coded_first : (s : Served) (x : Chain) (a : Answer) → coded_words s x a 0 ≡ ret_of s a
coded_first s x a = grind arith

-- an answer word of code 1 on a receivers' chain is that of an item
pub got_long : (s : Served) (g : ℕ) (a : Answer) → IsAnswer s (Chain.Take g) a → code_of (ret_of s a) ≡ 1 → answer_long a ≡ further_words (tag_word a) + 3
got_long s g a is code = grind arith

pub got_item : (s : Served) (g : ℕ) (a : Answer) → IsAnswer s (Chain.Take g) a → code_of (ret_of s a) ≡ 1 → (item : Item) × (a ≡ Answer.Take (TakeAnswer.Got item))
got_item s g a is code = grind arith

-- what is read after the first word: the end, or an item to come
pub record ReadsOn (c : Setting) (s : Served) (g p own : ℕ) (a : Answer) (at : Phase) : Type 0 where
  pub call : HasCall c (Chain.Take g) p at
  pub post : post_of (Chain.Take g) own at ≡ out 6 own
  pub read : HasRead s (Chain.Take g) a at
  pub unfinished : IsFinished at → ⊥

pub record ReadsAll (c : Setting) (s : Served) (g p own : ℕ) (a : Answer) (at : Phase) : Type 0 where
  pub call : HasCall c (Chain.Take g) p at
  pub post : post_of (Chain.Take g) own at ≡ out 0 own
  pub read : HasRead s (Chain.Take g) a at

reads_by : (c : Setting) (s : Served) (g p own : ℕ) (a : Answer) (one two : Bool) → (code_of (ret_of s a) == 1) ≡ one → (code_of (ret_of s a) == 2) ≡ two →
    ReadsOn c s g p own a (cond one (Phase.ReadAnswerTag (value_of (ret_of s a))) (cond two (Phase.Finished (Answer.Take TakeAnswer.Empty)) (Phase.Finished (Answer.Take (TakeAnswer.Ended (value_of (ret_of s a)))))))
    ⊎ ReadsAll c s g p own a (cond one (Phase.ReadAnswerTag (value_of (ret_of s a))) (cond two (Phase.Finished (Answer.Take TakeAnswer.Empty)) (Phase.Finished (Answer.Take (TakeAnswer.Ended (value_of (ret_of s a)))))))
reads_by c s g p own a true two is_one is_two = inl record { call = tt; post = refl; read = (eqb-true (code_of (ret_of s a)) 1 is_one, refl); unfinished = λ f. f }
reads_by c s g p own a false true is_one is_two = inr record { call = tt; post = refl; read = sym (λ i. cond (is_one i) (Answer.Take (TakeAnswer.Got (item_of (value_of (ret_of s a)) (tag_word a) (words_told a)))) (cond (is_two i) (Answer.Take TakeAnswer.Empty) (Answer.Take (TakeAnswer.Ended (value_of (ret_of s a)))))) }
reads_by c s g p own a false false is_one is_two = inr record { call = tt; post = refl; read = sym (λ i. cond (is_one i) (Answer.Take (TakeAnswer.Got (item_of (value_of (ret_of s a)) (tag_word a) (words_told a)))) (cond (is_two i) (Answer.Take TakeAnswer.Empty) (Answer.Take (TakeAnswer.Ended (value_of (ret_of s a)))))) }

pub reads_first : (c : Setting) (s : Served) (g p own : ℕ) (a : Answer) → ReadsOn c s g p own a (after_ret s (Chain.Take g) (ret_of s a)) ⊎ ReadsAll c s g p own a (after_ret s (Chain.Take g) (ret_of s a))
reads_first c s g p own a = reads_by c s g p own a (code_of (ret_of s a) == 1) (code_of (ret_of s a) == 2) refl refl

pub reads_item : (s : Served) (g : ℕ) (a : Answer) → code_of (ret_of s a) ≡ 1 → reads s (Chain.Take g) a ≡ Answer.Take (TakeAnswer.Got (item_of (value_of (ret_of s a)) (tag_word a) (words_told a)))
reads_item s g a code = ap (λ (b : Bool). cond b (Answer.Take (TakeAnswer.Got (item_of (value_of (ret_of s a)) (tag_word a) (words_told a)))) (cond (code_of (ret_of s a) == 2) (Answer.Take TakeAnswer.Empty) (Answer.Take (TakeAnswer.Ended (value_of (ret_of s a)))))) (eq-eqb (code_of (ret_of s a)) 1 code)

-- each pass has one node
pub own_node : (x : Chain) (own : ℕ) (at : Phase) → (post_of x own at).node ≡ own
own_node x own at = grind arith
