-- The steps that one side alone has, and the reading of an answer, keep what holds of the chain.
use Rattle.std.proofs.Common.{◌≡◌, ◌≢◌, ◌⊎◌, ℕ, suc, ◌+◌, ◌<◌, ◌≤◌, refl, ap, sym, ◌∙◌, subst, arith, inl, inr, None}
use Rattle.cc_runs.specs.Names.{Entry, Item, Answer, TakeAnswer, Setting, Chain, NodeField, Word, Stand, Job, Request, Parcel, Phase}
use Rattle.cc_runs.specs.Codes.{item_of, item_in, tag_of, body_words, parcel, no_words, with_read, further_words, word, request_in, ret_of, code_of, value_of, sender_reads}
use Rattle.cc_runs.specs.State.{State}
use Rattle.cc_runs.specs.Lines.{goes, node_after, enters, decides, after_ret}
use Rattle.cc_runs.specs.Run.{IsFinished}
use Rattle.cc_runs.proofs.Combining.Stay as by_stay
use Rattle.cc_runs.proofs.Combining.CallSteps as by_call
use Rattle.cc_runs.proofs.Bodies.{few_further}
use Rattle.cc_runs.proofs.ReadWords.{next_word, one_item, behind_word}
use Rattle.cc_runs.proofs.Chains.View.{view, members, pass_on, post_of, post_at, request_long, asked_words, answer_words, answer_long}
use Rattle.cc_runs.proofs.Chains.Bridge as bridge
use Rattle.cc_runs.proofs.Chains.Sides as sides
use Rattle.cc_runs.proofs.Chains.Registers.{IsChain, calls_on, answers_on, call_at, answer_at, OnSend, HasCall, IsAnswer, HasService, HasRead, coded_words, tag_word, words_told}
use Rattle.cc_runs.proofs.Chains.Ties.{ghost_of, Holds}
use Rattle.cc_runs.proofs.Chains.Facts.{some_words, got_long, ReadsOn, ReadsAll, reads_first, reads_item}
use Rattle.cc_runs.proofs.Chains.Steps.{Moves, goes_on}
use Rattle.cc_runs.proofs.Chains.Serve.{At, then, finds, seen, the_call, the_answer, serves_at, tells}

-- a sender writes its request
module _ (c : Setting) (some : 0 < c.config.bound) (s : State) (p begun own : ℕ) (inside : p < members c Chain.Send) (w : Holds c Chain.Send s) where
  -- the call that it asks for
  abbrev its_call : Entry
  its_call = call_at (calls_on Chain.Send s.history) ((ghost_of w).at p)

  long_is : (at : Phase) → At c Chain.Send tt some s p begun own inside w at → (post_of Chain.Send own at).rank ≡ 3 → (ghost_of w).asks_long ((ghost_of w).at p) ≡ request_long Chain.Send its_call
  long_is at e three = refl

  -- a word that it hasn't written yet, or how many there are
  asks_is : (at : Phase) (j : ℕ) → At c Chain.Send tt some s p begun own inside w at → (post_of Chain.Send own at).rank ≡ 3 → (post_of Chain.Send own at).wrote ≤ j → (post_of Chain.Send own at).asks j ≡ asked_words Chain.Send its_call j
  asks_is at j e three low =
      let is : post_at Chain.Send (s.stand (pass_on c Chain.Send p)) ≡ post_of Chain.Send own at = seen c Chain.Send tt some s p begun own inside w at e in
      let rank : (post_at Chain.Send (s.stand (pass_on c Chain.Send p))).rank ≡ 3 = ap (λ z. z.rank) is ∙ three in
      sym (ap (λ z. z.asks j) is) ∙ w.inv.links.asks_is p j inside rank (omega (arith, ap (λ z. z.wrote) is))

  write_tag_send : (put : ℕ) (request : Request) → At c Chain.Send tt some s p begun own inside w (Phase.WriteTag put request) → Holds c Chain.Send (then c Chain.Send tt some s p begun own inside w (Phase.WriteTag put request))
  write_tag_send put request e =
      goes_on c Chain.Send tt some s p begun own inside w (Phase.WriteTag put request) (Phase.WriteBody put request 0) (ghost_of w).marked (ghost_of w).server refl refl refl
      (by_call.writes (members c Chain.Send) c.config.bound (view c Chain.Send s) (view c Chain.Send (then c Chain.Send tt some s p begun own inside w (Phase.WriteTag put request))) (ghost_of w) p inside w.inv
      (sides.write_tag c s p begun own ((ghost_of w).asks_long ((ghost_of w).at p)) put request e))
      record { onward = omega arith; call = (tt, omega arith); read = tt; ended = λ f. absurd f; serves = λ a. tt; keep = λ q ne a. (a, refl) }

  write_body_send : (put : ℕ) (request : Request) (i : ℕ) → At c Chain.Send tt some s p begun own inside w (Phase.WriteBody put request i) →
      Holds c Chain.Send (then c Chain.Send tt some s p begun own inside w (Phase.WriteBody put request i))
  write_body_send put request i e =
      let has : OnSend Chain.Send × (i ≤ further_words request.tag) = subst (λ (z : Stand). HasCall c Chain.Send p z.phase) e (w.ties.begun p inside) in
      let many : further_words request.tag ≡ further_words (request_in its_call).tag = asks_is (Phase.WriteBody put request i) 5 e refl (omega (arith, has.1, few_further request.tag)) in
      goes_on c Chain.Send tt some s p begun own inside w (Phase.WriteBody put request i) _ (ghost_of w).marked (ghost_of w).server refl refl refl
      (by_call.writes (members c Chain.Send) c.config.bound (view c Chain.Send s) (view c Chain.Send (then c Chain.Send tt some s p begun own inside w (Phase.WriteBody put request i))) (ghost_of w) p inside w.inv
      (sides.write_body c s p begun own ((ghost_of w).asks_long ((ghost_of w).at p)) put request i (long_is (Phase.WriteBody put request i) e refl ∙ ap (λ (z : ℕ). z + 2) (sym many)) has.1 e))
      (behind_word (λ (z : Phase). Moves c Chain.Send s (ghost_of w) p (ghost_of w).marked (ghost_of w).server z) (further_words request.tag) i _ _
      (λ more. record { onward = omega arith; call = (tt, omega (arith, more)); read = tt; ended = λ f. absurd f; serves = λ a. tt; keep = λ q ne a. (a, refl) })
      (λ last. record { onward = omega arith; call = tt; read = tt; ended = λ f. absurd f; serves = λ a. tt; keep = λ q ne a. (a, refl) }))

-- what a call reads of its answer
module _ (c : Setting) (x : Chain) (ok : IsChain c x) (some : 0 < c.config.bound) (s : State) (p begun own : ℕ) (inside : p < members c x) (w : Holds c x s) where
  abbrev its_answer : Answer
  its_answer = answer_at (answers_on x s.history) ((ghost_of w).at p)

  pub done_before : (at : Phase) → At c x ok some s p begun own inside w at → (post_of x own at).rank ≡ 6 → (ghost_of w).at p < (ghost_of w).answers
  done_before at e six = omega (arith, w.inv.passes.late p inside (ap (λ z. z.rank) (seen c x ok some s p begun own inside w at e) ∙ six), w.inv.calls.in_order)

  pub answer_is : (at : Phase) → At c x ok some s p begun own inside w at → (post_of x own at).rank ≡ 6 → IsAnswer c.served x its_answer
  answer_is at e six = w.ties.answered ((ghost_of w).at p) (done_before at e six)

  -- word j of it
  pub word_at : (at : Phase) (j : ℕ) → At c x ok some s p begun own inside w at → post_of x own at ≡ post_of x own Phase.ReadAnswer → j < answer_long its_answer →
      answer_words x (λ (f : NodeField). s.mem (Word.Node x own f)) j ≡ coded_words c.served x its_answer j
  word_at at j e six less =
      let is : post_at x (s.stand (pass_on c x p)) ≡ post_of x own Phase.ReadAnswer = seen c x ok some s p begun own inside w at e ∙ six in
      let rank : (post_at x (s.stand (pass_on c x p))).rank ≡ 6 = ap (λ z. z.rank) is in
      let node_is : (post_at x (s.stand (pass_on c x p))).node ≡ own = ap (λ z. z.node) is in
      let below : (ghost_of w).at p < (ghost_of w).answers = done_before at e (ap (λ z. z.rank) six) in
      let told : answer_words x (λ (f : NodeField). s.mem (Word.Node x (post_at x (s.stand (pass_on c x p))).node f)) j ≡ (ghost_of w).told ((ghost_of w).at p) j =
      w.inv.words.done_told p j inside (omega (arith, rank)) (w.inv.passes.late p inside rank) (omega arith) in
      ap (λ (z : ℕ). answer_words x (λ (f : NodeField). s.mem (Word.Node x z f)) j) (sym node_is) ∙ told

  idle_server : (at : Phase) → At c x ok some s p begun own inside w at → (post_of x own at).rank ≡ 6 → (ghost_of w).server ≢ p + 1
  idle_server at e six a = absurd (omega (arith, w.inv.server.server_rank p a, ap (λ z. z.rank) (seen c x ok some s p begun own inside w at e) ∙ six))

  -- not all of it is read yet
  reads_more : (at there : Phase) → At c x ok some s p begun own inside w at → post_of x own at ≡ post_of x own Phase.ReadAnswer → post_of x own there ≡ post_of x own Phase.ReadAnswer →
      goes c x own at (finds c x ok some s p begun own inside w at) ≡ there → enters at ≡ None → decides c at (finds c x ok some s p begun own inside w at) ≡ None → node_after own at (finds c x ok some s p begun own inside w at) ≡ own →
      (then c x ok some s p begun own inside w at).mem (Word.Tail x) ≡ s.mem (Word.Tail x) → ((i : ℕ) (f : NodeField) → (then c x ok some s p begun own inside w at).mem (Word.Node x i f) ≡ s.mem (Word.Node x i f)) →
      HasCall c x p there → HasRead c.served x its_answer there → (IsFinished there → ⊥) → Holds c x (then c x ok some s p begun own inside w at)
  reads_more at there e six next_six go enter none keeps_node tail words call read unfinished =
      goes_on c x ok some s p begun own inside w at there (ghost_of w).marked (ghost_of w).server go enter none
      (by_stay.keeps (members c x) c.config.bound (view c x s) (view c x (then c x ok some s p begun own inside w at)) (ghost_of w) w.inv
      (bridge.stays c x s p begun own (members c x) at e (ap (λ (z : ℕ). post_of x z (goes c x own at (finds c x ok some s p begun own inside w at))) keeps_node ∙ ap (λ (z : Phase). post_of x own z) go ∙ next_six ∙ sym six) tail words))
      record { onward = omega arith; call = call; read = read; ended = λ f. absurd (unfinished f); serves = λ a. absurd (idle_server at e (ap (λ z. z.rank) six) a); keep = λ q ne a. (a, refl) }

  -- all of it is read
  reads_end : (at there : Phase) → At c x ok some s p begun own inside w at → post_of x own at ≡ post_of x own Phase.ReadAnswer → post_of x own there ≡ post_of x own Phase.Idle →
      goes c x own at (finds c x ok some s p begun own inside w at) ≡ there → enters at ≡ None → decides c at (finds c x ok some s p begun own inside w at) ≡ None → node_after own at (finds c x ok some s p begun own inside w at) ≡ own →
      (then c x ok some s p begun own inside w at).mem (Word.Tail x) ≡ s.mem (Word.Tail x) → ((i : ℕ) (f : NodeField) → (then c x ok some s p begun own inside w at).mem (Word.Node x i f) ≡ s.mem (Word.Node x i f)) →
      HasCall c x p there → HasRead c.served x its_answer there → Holds c x (then c x ok some s p begun own inside w at)
  reads_end at there e six next_out go enter none keeps_node tail words call read =
      let rank : (post_at x (s.stand (pass_on c x p))).rank ≡ 6 = ap (λ z. z.rank) (seen c x ok some s p begun own inside w at e ∙ six) in
      goes_on c x ok some s p begun own inside w at there (ghost_of w).marked (ghost_of w).server go enter none
      (by_call.ends (members c x) c.config.bound (view c x s) (view c x (then c x ok some s p begun own inside w at)) (ghost_of w) p inside w.inv
      (bridge.end c x s p begun own at e six (ap (λ (z : ℕ). post_of x z (goes c x own at (finds c x ok some s p begun own inside w at))) keeps_node ∙ ap (λ (z : Phase). post_of x own z) go ∙ next_out) tail words))
      record {
        onward = omega arith;
        call = call;
        read = read;
        ended = λ f. (w.inv.passes.late p inside rank, w.inv.passes.at_is p inside (omega (arith, rank)));
        serves = λ a. absurd (idle_server at e (ap (λ z. z.rank) six) a);
        keep = λ q ne a. (a, refl);
      }

-- a receiver gets an item, and reads it
module _ (c : Setting) (g : ℕ) (ok : IsChain c (Chain.Take g)) (some : 0 < c.config.bound) (s : State) (p begun own : ℕ) (inside : p < members c (Chain.Take g)) (w : Holds c (Chain.Take g) s) where
  write_answer_tag_take : (job : Job) (item : Item) → At c (Chain.Take g) ok some s p begun own inside w (Phase.WriteAnswerTag job item) → Holds c (Chain.Take g) (then c (Chain.Take g) ok some s p begun own inside w (Phase.WriteAnswerTag job item))
  write_answer_tag_take job item e =
      let is : the_answer c (Chain.Take g) ok some s p begun own inside w ≡ Answer.Take (TakeAnswer.Got item) = serves_at c (Chain.Take g) ok some s p begun own inside w (Phase.WriteAnswerTag job item) e refl in
      tells c (Chain.Take g) ok some s p begun own inside w (Phase.WriteAnswerTag job item) (Phase.WriteAnswerBody job item 0) (further_words (tag_of item) + 3) (tag_of item) 1 e refl refl refl refl refl refl refl
      (sides.write_answer_tag c g s p begun own job item e) (sym (ap answer_long is)) (sym (ap (λ (z : Answer). coded_words c.served (Chain.Take g) z 1) is)) (is, omega arith)

  write_answer_body_take : (job : Job) (item : Item) (i : ℕ) → At c (Chain.Take g) ok some s p begun own inside w (Phase.WriteAnswerBody job item i) →
      Holds c (Chain.Take g) (then c (Chain.Take g) ok some s p begun own inside w (Phase.WriteAnswerBody job item i))
  write_answer_body_take job item i e =
      let has = serves_at c (Chain.Take g) ok some s p begun own inside w (Phase.WriteAnswerBody job item i) e refl in
      tells c (Chain.Take g) ok some s p begun own inside w (Phase.WriteAnswerBody job item i) _ (further_words (tag_of item) + 3) (word (body_words item) i) (suc (suc i)) e refl refl refl refl refl refl
      (behind_word (λ (z : Phase). (post_of (Chain.Take g) own z).rank ≡ 5) (further_words (tag_of item)) i _ _ (λ more. refl) (λ last. refl))
      (sides.write_answer_body c g s p begun own job item i e) (sym (ap answer_long has.0)) (sym (ap (λ (z : Answer). coded_words c.served (Chain.Take g) z (suc (suc i))) has.0))
      (behind_word (λ (z : Phase). HasService c.served (Chain.Take g) (the_call c (Chain.Take g) ok some s p begun own inside w) (the_answer c (Chain.Take g) ok some s p begun own inside w) z) (further_words (tag_of item)) i _ _
      (λ more. (has.0, omega (arith, more))) (λ last. tt))

  abbrev item_answer : Answer
  item_answer = answer_at (answers_on (Chain.Take g) s.history) ((ghost_of w).at p)

  first_is : At c (Chain.Take g) ok some s p begun own inside w Phase.ReadAnswer → s.mem (Word.Node (Chain.Take g) own NodeField.Ret) ≡ ret_of c.served item_answer
  first_is e = word_at c (Chain.Take g) ok some s p begun own inside w Phase.ReadAnswer 0 e refl (omega (arith, some_words item_answer))

  read_answer_by : At c (Chain.Take g) ok some s p begun own inside w Phase.ReadAnswer →
      ReadsOn c c.served g p own item_answer (after_ret c.served (Chain.Take g) (ret_of c.served item_answer)) ⊎ ReadsAll c c.served g p own item_answer (after_ret c.served (Chain.Take g) (ret_of c.served item_answer)) →
      Holds c (Chain.Take g) (then c (Chain.Take g) ok some s p begun own inside w Phase.ReadAnswer)
  read_answer_by e (inl on) =
      reads_more c (Chain.Take g) ok some s p begun own inside w Phase.ReadAnswer (after_ret c.served (Chain.Take g) (ret_of c.served item_answer)) e refl on.post (ap (λ (z : ℕ). after_ret c.served (Chain.Take g) z) (first_is e)) refl refl refl refl
      (λ i f. refl) on.call on.read on.unfinished
  read_answer_by e (inr all) =
      reads_end c (Chain.Take g) ok some s p begun own inside w Phase.ReadAnswer (after_ret c.served (Chain.Take g) (ret_of c.served item_answer)) e refl all.post (ap (λ (z : ℕ). after_ret c.served (Chain.Take g) z) (first_is e)) refl refl refl refl
      (λ i f. refl) all.call all.read

  read_answer_take : At c (Chain.Take g) ok some s p begun own inside w Phase.ReadAnswer → Holds c (Chain.Take g) (then c (Chain.Take g) ok some s p begun own inside w Phase.ReadAnswer)
  read_answer_take e = read_answer_by e (reads_first c c.served g p own item_answer)

  read_tag_take : (at : ℕ) → At c (Chain.Take g) ok some s p begun own inside w (Phase.ReadAnswerTag at) → Holds c (Chain.Take g) (then c (Chain.Take g) ok some s p begun own inside w (Phase.ReadAnswerTag at))
  read_tag_take at e =
      let had : (code_of (ret_of c.served item_answer) ≡ 1) × (at ≡ value_of (ret_of c.served item_answer)) = subst (λ (z : Stand). HasRead c.served (Chain.Take g) item_answer z.phase) e (w.ties.read p inside) in
      let long : answer_long item_answer ≡ further_words (tag_word item_answer) + 3 = got_long c.served g item_answer (answer_is c (Chain.Take g) ok some s p begun own inside w (Phase.ReadAnswerTag at) e refl) had.0 in
      let tag : s.mem (Word.Node (Chain.Take g) own NodeField.Tag) ≡ tag_word item_answer = word_at c (Chain.Take g) ok some s p begun own inside w (Phase.ReadAnswerTag at) 1 e refl (omega (arith, long)) in
      reads_more c (Chain.Take g) ok some s p begun own inside w (Phase.ReadAnswerTag at) (Phase.ReadAnswerBody (parcel at (s.mem (Word.Node (Chain.Take g) own NodeField.Tag)) no_words) 0) e refl refl refl refl refl refl refl (λ i f. refl) tt
      (had.0, had.1, tag, omega arith, (λ j low. absurd (omega arith))) (λ f. f)

  -- the words of the item so far, and one more
  abbrev Had : Parcel → ℕ → Type 0
  Had at i = (code_of (ret_of c.served item_answer) ≡ 1) × (at.place ≡ value_of (ret_of c.served item_answer)) × (at.tag ≡ tag_word item_answer) × (i ≤ further_words at.tag) × ((j : ℕ) → j < i → word at.body j ≡ word (words_told item_answer) j)

  read_word : (at : Parcel) (i : ℕ) → At c (Chain.Take g) ok some s p begun own inside w (Phase.ReadAnswerBody at i) → Had at i → s.mem (Word.Node (Chain.Take g) own (NodeField.Body i)) ≡ word (words_told item_answer) i
  read_word at i e had =
      word_at c (Chain.Take g) ok some s p begun own inside w (Phase.ReadAnswerBody at i) (suc (suc i)) e refl
      (omega (arith, had.3, ap further_words had.2, got_long c.served g item_answer (answer_is c (Chain.Take g) ok some s p begun own inside w (Phase.ReadAnswerBody at i) e refl) had.0))

  words_more : (at : Parcel) (i found : ℕ) → found ≡ word (words_told item_answer) i → Had at i → (j : ℕ) → j ≤ i → word (with_read at i found).body j ≡ word (words_told item_answer) j
  words_more at i found is had = next_word at.body (word (words_told item_answer)) i found (omega (arith, had.3, few_further at.tag)) is had.4

  read_body_take : (at : Parcel) (i : ℕ) → At c (Chain.Take g) ok some s p begun own inside w (Phase.ReadAnswerBody at i) → Holds c (Chain.Take g) (then c (Chain.Take g) ok some s p begun own inside w (Phase.ReadAnswerBody at i))
  read_body_take at i e =
      behind_word (λ (z : Phase). goes c (Chain.Take g) own (Phase.ReadAnswerBody at i) (finds c (Chain.Take g) ok some s p begun own inside w (Phase.ReadAnswerBody at i)) ≡ z → Holds c (Chain.Take g) (then c (Chain.Take g) ok some s p begun own inside w (Phase.ReadAnswerBody at i)))
      (further_words at.tag) i _ _
      (λ less is.
      reads_more c (Chain.Take g) ok some s p begun own inside w (Phase.ReadAnswerBody at i) (Phase.ReadAnswerBody (with_read at i found) (i + 1)) e refl refl is refl refl refl refl (λ i f. refl) tt
      (had.0, had.1, had.2, omega (arith, less), (λ j low. more j (omega arith))) (λ f. f))
      (λ last is.
      let same : item_in (with_read at i found) ≡ item_of (value_of (ret_of c.served item_answer)) (tag_word item_answer) (words_told item_answer) = one_item (with_read at i found) (words_told item_answer) had.1 had.2 (λ j low. more j (omega (arith, last))) in
      reads_end c (Chain.Take g) ok some s p begun own inside w (Phase.ReadAnswerBody at i) (Phase.Finished (Answer.Take (TakeAnswer.Got (item_in (with_read at i found))))) e refl refl is refl refl refl refl (λ i f. refl) tt
      (ap (λ (z : Item). Answer.Take (TakeAnswer.Got z)) same ∙ sym (reads_item c.served g item_answer had.0)))
      refl
    where
      found : ℕ
      found = s.mem (Word.Node (Chain.Take g) own (NodeField.Body i))

      had : Had at i
      had = subst (λ (z : Stand). HasRead c.served (Chain.Take g) item_answer z.phase) e (w.ties.read p inside)

      more : (j : ℕ) → j ≤ i → word (with_read at i found).body j ≡ word (words_told item_answer) j
      more = words_more at i found (read_word at i e had) had

-- each of these on any chain
module _ (c : Setting) (some : 0 < c.config.bound) (s : State) (p begun own : ℕ) where
  pub write_tag : (x : Chain) (ok : IsChain c x) (inside : p < members c x) (w : Holds c x s) (put : ℕ) (request : Request) → At c x ok some s p begun own inside w (Phase.WriteTag put request) →
      Holds c x (then c x ok some s p begun own inside w (Phase.WriteTag put request))
  write_tag Chain.Send ok inside w put request e = write_tag_send c some s p begun own inside w put request e
  write_tag (Chain.Take g) ok inside w put request e = absurd (subst (λ (z : Stand). HasCall c (Chain.Take g) p z.phase) e (w.ties.begun p inside))

  pub write_body : (x : Chain) (ok : IsChain c x) (inside : p < members c x) (w : Holds c x s) (put : ℕ) (request : Request) (i : ℕ) → At c x ok some s p begun own inside w (Phase.WriteBody put request i) →
      Holds c x (then c x ok some s p begun own inside w (Phase.WriteBody put request i))
  write_body Chain.Send ok inside w put request i e = write_body_send c some s p begun own inside w put request i e
  write_body (Chain.Take g) ok inside w put request i e = absurd (subst (λ (z : Stand). HasCall c (Chain.Take g) p z.phase) e (w.ties.begun p inside)).0

  pub write_answer_tag : (x : Chain) (ok : IsChain c x) (inside : p < members c x) (w : Holds c x s) (job : Job) (item : Item) → At c x ok some s p begun own inside w (Phase.WriteAnswerTag job item) →
      Holds c x (then c x ok some s p begun own inside w (Phase.WriteAnswerTag job item))
  write_answer_tag Chain.Send ok inside w job item e = absurd (serves_at c Chain.Send ok some s p begun own inside w (Phase.WriteAnswerTag job item) e refl)
  write_answer_tag (Chain.Take g) ok inside w job item e = write_answer_tag_take c g ok some s p begun own inside w job item e

  pub write_answer_body : (x : Chain) (ok : IsChain c x) (inside : p < members c x) (w : Holds c x s) (job : Job) (item : Item) (i : ℕ) → At c x ok some s p begun own inside w (Phase.WriteAnswerBody job item i) →
      Holds c x (then c x ok some s p begun own inside w (Phase.WriteAnswerBody job item i))
  write_answer_body Chain.Send ok inside w job item i e = absurd (serves_at c Chain.Send ok some s p begun own inside w (Phase.WriteAnswerBody job item i) e refl)
  write_answer_body (Chain.Take g) ok inside w job item i e = write_answer_body_take c g ok some s p begun own inside w job item i e

  pub read_answer : (x : Chain) (ok : IsChain c x) (inside : p < members c x) (w : Holds c x s) → At c x ok some s p begun own inside w Phase.ReadAnswer → Holds c x (then c x ok some s p begun own inside w Phase.ReadAnswer)
  read_answer Chain.Send ok inside w e =
      let first : s.mem (Word.Node Chain.Send own NodeField.Ret) ≡ ret_of c.served (its_answer c Chain.Send ok some s p begun own inside w) =
      word_at c Chain.Send ok some s p begun own inside w Phase.ReadAnswer 0 e refl (omega (arith, some_words (its_answer c Chain.Send ok some s p begun own inside w))) in
      reads_end c Chain.Send ok some s p begun own inside w Phase.ReadAnswer (Phase.Finished (sender_reads c.served (s.mem (Word.Node Chain.Send own NodeField.Ret)))) e refl refl refl refl refl refl refl (λ i f. refl) tt
      (ap (λ (z : ℕ). sender_reads c.served z) first)
  read_answer (Chain.Take g) ok inside w e = read_answer_take c g ok some s p begun own inside w e

  pub read_tag : (x : Chain) (ok : IsChain c x) (inside : p < members c x) (w : Holds c x s) (at : ℕ) → At c x ok some s p begun own inside w (Phase.ReadAnswerTag at) → Holds c x (then c x ok some s p begun own inside w (Phase.ReadAnswerTag at))
  read_tag Chain.Send ok inside w at e = absurd (subst (λ (z : Stand). HasRead c.served Chain.Send (its_answer c Chain.Send ok some s p begun own inside w) z.phase) e (w.ties.read p inside))
  read_tag (Chain.Take g) ok inside w at e = read_tag_take c g ok some s p begun own inside w at e

  pub read_body : (x : Chain) (ok : IsChain c x) (inside : p < members c x) (w : Holds c x s) (at : Parcel) (i : ℕ) → At c x ok some s p begun own inside w (Phase.ReadAnswerBody at i) →
      Holds c x (then c x ok some s p begun own inside w (Phase.ReadAnswerBody at i))
  read_body Chain.Send ok inside w at i e = absurd (subst (λ (z : Stand). HasRead c.served Chain.Send (its_answer c Chain.Send ok some s p begun own inside w) z.phase) e (w.ties.read p inside))
  read_body (Chain.Take g) ok inside w at i e = read_body_take c g ok some s p begun own inside w at i e
