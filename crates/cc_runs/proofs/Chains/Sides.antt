-- The steps that one side alone has: a sender writes its request, and a receiver gets an item.
use Rattle.std.proofs.Common.{◌≡◌, ◌≢◌, ℕ, zero, suc, ◌+◌, ◌≤◌, ◌<◌, refl, ap, sym, arith}
use Rattle.cc_runs.specs.Names.{Item, Setting, Chain, NodeField, Word, Job, Request, Phase}
use Rattle.cc_runs.specs.Codes.{tag_of, body_words, further_words, word}
use Rattle.cc_runs.specs.State.{State}
use Rattle.cc_runs.proofs.Bodies.{few_further}
use Rattle.cc_runs.proofs.ReadWords.{behind_word}
use Rattle.cc_runs.proofs.Chains.View.{asks_in, view, pass_on, post_at, post_of, cell_of, words_of, request_words, answer_words, told_words, all_wrote, all_told, no_word, entering, serving}
use Rattle.cc_runs.proofs.Chains.Frame.{put_here, word_apart, cell_apart}
use Rattle.cc_runs.proofs.Chains.Bridge.{standing, after, is_at, was_at, others, before_at, words_at}
use Rattle.cc_runs.proofs.Combining.CallSteps.{Writes}
use Rattle.cc_runs.proofs.Combining.CombinerSteps.{Tells}

-- words from the second on don't ask for the first, nor the others for one word of the body
pub words_later : (a b : ℕ) (body : ℕ → ℕ) (j : ℕ) → j ≢ 0 → words_of a body j ≡ words_of b body j
words_later a b body j ne = grind arith

pub words_but : (tag : ℕ) (a b : ℕ → ℕ) (i j : ℕ) → ((k : ℕ) → k ≢ i → a k ≡ b k) → j ≢ suc i → words_of tag a j ≡ words_of tag b j
words_but tag a b i zero same ne = refl
words_but tag a b i (suc k) same ne = same k (λ e. ne (ap suc e))

-- what a request asks for is its body's words
pub asks_word : (r : Request) (i : ℕ) → i ≤ 3 → asks_in r (suc i) ≡ word r.body i
asks_word r i most = grind arith

-- and after all of them nothing
asks_late : (r : Request) (j : ℕ) → all_wrote Chain.Send ≤ j → asks_in r j ≡ 0
asks_late r j far = grind arith

module _ (c : Setting) (s : State) (p begun own : ℕ) where
  pub write_tag : (long put : ℕ) (request : Request) → s.stand (pass_on c Chain.Send p) ≡ standing c Chain.Send s p begun own (Phase.WriteTag put request) →
      Writes long (view c Chain.Send s) (view c Chain.Send (after c Chain.Send s p begun own (Phase.WriteTag put request))) p
  write_tag long put request e =
      let was = was_at c Chain.Send s p begun own (Phase.WriteTag put request) e in
      let is : post_at Chain.Send ((after c Chain.Send s p begun own (Phase.WriteTag put request)).stand (pass_on c Chain.Send p)) ≡ post_of Chain.Send own (Phase.WriteBody put request 0) = is_at c Chain.Send s p begun own (Phase.WriteTag put request) in
      let cell : (after c Chain.Send s p begun own (Phase.WriteTag put request)).mem (Word.Node Chain.Send own NodeField.Tag) ≡ request.tag = put_here s.mem (Word.Node Chain.Send own NodeField.Tag) request.tag in
      let later : (j : ℕ) → j ≢ 0 → request_words Chain.Send (words_at c Chain.Send s p begun own (Phase.WriteTag put request) own) j ≡ request_words Chain.Send (before_at c Chain.Send s p begun own own) j = λ j ne. words_later _ _ (λ i. s.mem (Word.Node Chain.Send own (NodeField.Body i))) j ne in
      let cells : (i : ℕ) → i ≢ own → cell_of Chain.Send (words_at c Chain.Send s p begun own (Phase.WriteTag put request) i) ≡ cell_of Chain.Send (before_at c Chain.Send s p begun own i) = λ i ne. cell_apart s.mem Chain.Send own i NodeField.Tag request.tag ne in
      grind (arith, others c Chain.Send s p begun own (Phase.WriteTag put request))

  -- a word of the body, and the next step is there
  write_word : (long put : ℕ) (request : Request) (i wrote : ℕ) (asked : ℕ → ℕ) → s.stand (pass_on c Chain.Send p) ≡ standing c Chain.Send s p begun own (Phase.WriteBody put request i) →
      post_at Chain.Send ((after c Chain.Send s p begun own (Phase.WriteBody put request i)).stand (pass_on c Chain.Send p)) ≡ entering own put asked wrote →
      suc i < wrote → ((j : ℕ) → j < wrote → j < long → j ≤ suc i) → ((j : ℕ) → wrote ≤ j → asked j ≡ asks_in request j) → i ≤ 3 →
      Writes long (view c Chain.Send s) (view c Chain.Send (after c Chain.Send s p begun own (Phase.WriteBody put request i))) p
  write_word long put request i wrote asked e is more told asks few =
      let word_is : asks_in request (suc i) ≡ word request.body i = asks_word request i few in
      let was = was_at c Chain.Send s p begun own (Phase.WriteBody put request i) e in
      let cell : (after c Chain.Send s p begun own (Phase.WriteBody put request i)).mem (Word.Node Chain.Send own (NodeField.Body i)) ≡ word request.body i = put_here s.mem (Word.Node Chain.Send own (NodeField.Body i)) (word request.body i) in
      let later : (j : ℕ) → j ≢ suc i → request_words Chain.Send (words_at c Chain.Send s p begun own (Phase.WriteBody put request i) own) j ≡ request_words Chain.Send (before_at c Chain.Send s p begun own own) j =
      λ j ne. words_but (s.mem (Word.Node Chain.Send own NodeField.Tag)) _ _ i j (λ k other. word_apart s.mem Chain.Send own i k (word request.body i) other) ne in
      let cells : (k : ℕ) → k ≢ own → cell_of Chain.Send (words_at c Chain.Send s p begun own (Phase.WriteBody put request i) k) ≡ cell_of Chain.Send (before_at c Chain.Send s p begun own k) = λ k ne. cell_apart s.mem Chain.Send own k (NodeField.Body i) (word request.body i) ne in
      grind (arith, others c Chain.Send s p begun own (Phase.WriteBody put request i))

  pub write_body : (long put : ℕ) (request : Request) (i : ℕ) → long ≡ further_words request.tag + 2 → i ≤ further_words request.tag → s.stand (pass_on c Chain.Send p) ≡ standing c Chain.Send s p begun own (Phase.WriteBody put request i) →
      Writes long (view c Chain.Send s) (view c Chain.Send (after c Chain.Send s p begun own (Phase.WriteBody put request i))) p
  write_body long put request i long_is most e =
      behind_word (λ (z : Phase). post_at Chain.Send ((after c Chain.Send s p begun own (Phase.WriteBody put request i)).stand (pass_on c Chain.Send p)) ≡ post_of Chain.Send own z → Writes long (view c Chain.Send s) (view c Chain.Send (after c Chain.Send s p begun own (Phase.WriteBody put request i))) p)
      (further_words request.tag) i (Phase.WriteBody put request (i + 1)) (Phase.Link put)
      (λ more is. write_word long put request i (suc (i + 1)) (asks_in request) e is (omega arith) (λ j a b. omega (arith, a)) (λ j far. refl) few)
      (λ last is. write_word long put request i (all_wrote Chain.Send) no_word e is (omega (arith, few)) (λ j a b. omega (arith, b, long_is, last)) (λ j far. sym (asks_late request j far)) few)
      (is_at c Chain.Send s p begun own (Phase.WriteBody put request i))
    where
      few : i ≤ 3
      few = omega (arith, most, few_further request.tag)

-- an item's tag, and a word of its body
told_but_one : (ret tag a : ℕ) (body : ℕ → ℕ) (j : ℕ) → j ≢ 1 → told_words ret a body j ≡ told_words ret tag body j
told_but_one ret tag a body zero ne = refl
told_but_one ret tag a body (suc j) ne = words_later a tag body j (λ none. ne (omega arith))

told_but : (ret tag : ℕ) (a b : ℕ → ℕ) (i j : ℕ) → ((k : ℕ) → k ≢ i → a k ≡ b k) → j ≢ suc (suc i) → told_words ret tag a j ≡ told_words ret tag b j
told_but ret tag a b i zero same ne = refl
told_but ret tag a b i (suc j) same ne = words_but tag a b i j same (λ one. ne (ap suc one))

module _ (c : Setting) (g : ℕ) (s : State) (p begun own : ℕ) where
  pub write_answer_tag : (job : Job) (item : Item) → s.stand (pass_on c (Chain.Take g) p) ≡ standing c (Chain.Take g) s p begun own (Phase.WriteAnswerTag job item) →
      Tells (further_words (tag_of item) + 3) (view c (Chain.Take g) s) (view c (Chain.Take g) (after c (Chain.Take g) s p begun own (Phase.WriteAnswerTag job item))) p (tag_of item)
  write_answer_tag job item e =
      let was = was_at c (Chain.Take g) s p begun own (Phase.WriteAnswerTag job item) e in
      let is : post_at (Chain.Take g) ((after c (Chain.Take g) s p begun own (Phase.WriteAnswerTag job item)).stand (pass_on c (Chain.Take g) p)) ≡ post_of (Chain.Take g) own (Phase.WriteAnswerBody job item 0) = is_at c (Chain.Take g) s p begun own (Phase.WriteAnswerTag job item) in
      let cell : (after c (Chain.Take g) s p begun own (Phase.WriteAnswerTag job item)).mem (Word.Node (Chain.Take g) job.round.at NodeField.Tag) ≡ tag_of item = put_here s.mem (Word.Node (Chain.Take g) job.round.at NodeField.Tag) (tag_of item) in
      let later : (j : ℕ) → j ≢ 1 → answer_words (Chain.Take g) (words_at c (Chain.Take g) s p begun own (Phase.WriteAnswerTag job item) job.round.at) j ≡ answer_words (Chain.Take g) (before_at c (Chain.Take g) s p begun own job.round.at) j = λ j ne. told_but_one (s.mem (Word.Node (Chain.Take g) job.round.at NodeField.Ret)) _ _ (λ i. s.mem (Word.Node (Chain.Take g) job.round.at (NodeField.Body i))) j ne in
      let cells : (i : ℕ) → i ≢ job.round.at → cell_of (Chain.Take g) (words_at c (Chain.Take g) s p begun own (Phase.WriteAnswerTag job item) i) ≡ cell_of (Chain.Take g) (before_at c (Chain.Take g) s p begun own i) = λ i ne. cell_apart s.mem (Chain.Take g) job.round.at i NodeField.Tag (tag_of item) ne in
      grind (arith, others c (Chain.Take g) s p begun own (Phase.WriteAnswerTag job item))

  -- a word of the body, and the next step is there
  write_answer_word : (long : ℕ) (job : Job) (item : Item) (i told : ℕ) → s.stand (pass_on c (Chain.Take g) p) ≡ standing c (Chain.Take g) s p begun own (Phase.WriteAnswerBody job item i) →
      post_at (Chain.Take g) ((after c (Chain.Take g) s p begun own (Phase.WriteAnswerBody job item i)).stand (pass_on c (Chain.Take g) p)) ≡ serving own job 2 told →
      ((j : ℕ) → j < told → j < long → j ≤ suc (suc i)) →
      Tells long (view c (Chain.Take g) s) (view c (Chain.Take g) (after c (Chain.Take g) s p begun own (Phase.WriteAnswerBody job item i))) p (word (body_words item) i)
  write_answer_word long job item i told e is most =
      let was = was_at c (Chain.Take g) s p begun own (Phase.WriteAnswerBody job item i) e in
      let cell : (after c (Chain.Take g) s p begun own (Phase.WriteAnswerBody job item i)).mem (Word.Node (Chain.Take g) job.round.at (NodeField.Body i)) ≡ word (body_words item) i = put_here s.mem (Word.Node (Chain.Take g) job.round.at (NodeField.Body i)) (word (body_words item) i) in
      let later : (j : ℕ) → j ≢ suc (suc i) → answer_words (Chain.Take g) (words_at c (Chain.Take g) s p begun own (Phase.WriteAnswerBody job item i) job.round.at) j ≡ answer_words (Chain.Take g) (before_at c (Chain.Take g) s p begun own job.round.at) j =
      λ j ne. told_but (s.mem (Word.Node (Chain.Take g) job.round.at NodeField.Ret)) (s.mem (Word.Node (Chain.Take g) job.round.at NodeField.Tag)) _ _ i j (λ k other. word_apart s.mem (Chain.Take g) job.round.at i k (word (body_words item) i) other) ne in
      let cells : (k : ℕ) → k ≢ job.round.at → cell_of (Chain.Take g) (words_at c (Chain.Take g) s p begun own (Phase.WriteAnswerBody job item i) k) ≡ cell_of (Chain.Take g) (before_at c (Chain.Take g) s p begun own k) = λ k ne. cell_apart s.mem (Chain.Take g) job.round.at k (NodeField.Body i) (word (body_words item) i) ne in
      grind (arith, others c (Chain.Take g) s p begun own (Phase.WriteAnswerBody job item i))

  pub write_answer_body : (job : Job) (item : Item) (i : ℕ) → s.stand (pass_on c (Chain.Take g) p) ≡ standing c (Chain.Take g) s p begun own (Phase.WriteAnswerBody job item i) →
      Tells (further_words (tag_of item) + 3) (view c (Chain.Take g) s) (view c (Chain.Take g) (after c (Chain.Take g) s p begun own (Phase.WriteAnswerBody job item i))) p (word (body_words item) i)
  write_answer_body job item i e =
      behind_word (λ (z : Phase). post_at (Chain.Take g) ((after c (Chain.Take g) s p begun own (Phase.WriteAnswerBody job item i)).stand (pass_on c (Chain.Take g) p)) ≡ post_of (Chain.Take g) own z → Tells (further_words (tag_of item) + 3) (view c (Chain.Take g) s) (view c (Chain.Take g) (after c (Chain.Take g) s p begun own (Phase.WriteAnswerBody job item i))) p (word (body_words item) i))
      (further_words (tag_of item)) i (Phase.WriteAnswerBody job item (i + 1)) (Phase.MarkDone job)
      (λ more is. write_answer_word (further_words (tag_of item) + 3) job item i (suc (suc (i + 1))) e is (λ j a b. omega (arith, a)))
      (λ last is. write_answer_word (further_words (tag_of item) + 3) job item i all_told e is (λ j a b. omega (arith, b, last)))
      (is_at c (Chain.Take g) s p begun own (Phase.WriteAnswerBody job item i))
