-- A step of a call on its chain is a step of the abstract chain.
use Rattle.std.proofs.Common.{◌≡◌, ◌≢◌, ℕ, suc, ◌+◌, ◌-◌, ◌<◌, ◌≤◌, Bool, true, false, ◌==◌, cond, refl, ap, sym, ◌∙◌, arith}
use Rattle.std.proofs.lemmas.Bool.{eqb-true, eqb-false}
use Rattle.cc_runs.specs.Names.{Entry, Answer, Setting, Chain, NodeField, Word, Round, Job, Stand, Phase}
use Rattle.cc_runs.specs.Codes.{ret_of}
use Rattle.cc_runs.specs.State.{State, word_of}
use Rattle.cc_runs.specs.Lines.{operation, after_state, after_next}
use Rattle.cc_runs.specs.Step.{stepped_from, advanced}
use Rattle.cc_runs.proofs.Chains.View.{view, pass_on, post_at, post_of, cell_of, request_words, answer_words, all_told, all_wrote, asked_words, entering, serving, resting, answer_long, told_next}
use Rattle.cc_runs.proofs.Chains.Frame.{put_here, cell_apart, hold_here, hold_apart, pass_apart, request_same, answer_same, answer_first, answer_later, exchanged_post, serves_post, after_answer_post}
use Rattle.cc_runs.proofs.Combining.Chain.{Post}
use Rattle.cc_runs.proofs.Combining.Stay.{Stays}
use Rattle.cc_runs.proofs.Combining.CallSteps.{Resets, Exchanges, Links, Collects, Starts, Ends}
use Rattle.cc_runs.proofs.Combining.CombinerSteps.{Stops, Picks, Decides, Tells, Marks, Hands}

module _ (c : Setting) (x : Chain) (s : State) (p begun own : ℕ) where
  abbrev pub standing : Phase → Stand
  standing at = record { begun = begun; node = own; phase = at }

  abbrev pub after : Phase → State
  after at = stepped_from c s x (pass_on c x p) (standing at)

  abbrev pub found : Phase → ℕ
  found at = s.mem (word_of (operation c x own at))

  -- how the chain sees the pass before and afterwards, and the others
  pub was_at : (at : Phase) → s.stand (pass_on c x p) ≡ standing at → post_at x (s.stand (pass_on c x p)) ≡ post_of x own at
  was_at at e = ap (λ (z : Stand). post_at x z) e

  pub is_at : (at : Phase) → post_at x ((after at).stand (pass_on c x p)) ≡ post_at x (advanced c x (standing at) (found at))
  is_at at = ap (λ (z : Stand). post_at x z) (hold_here s.stand (pass_on c x p) (advanced c x (standing at) (found at)))

  pub others : (at : Phase) (q : ℕ) → q ≢ p → post_at x ((after at).stand (pass_on c x q)) ≡ post_at x (s.stand (pass_on c x q))
  others at q ne = ap (λ (z : Stand). post_at x z) (hold_apart s.stand (pass_on c x p) (pass_on c x q) _ (pass_apart c x p q ne))

  -- the words of node i before and afterwards
  abbrev pub before_at : ℕ → NodeField → ℕ
  before_at i f = s.mem (Word.Node x i f)

  abbrev pub words_at : Phase → ℕ → NodeField → ℕ
  words_at at i f = (after at).mem (Word.Node x i f)

  -- a step that the chain doesn't see
  pub stays : (n : ℕ) (at : Phase) → s.stand (pass_on c x p) ≡ standing at → post_at x (advanced c x (standing at) (found at)) ≡ post_of x own at →
      (after at).mem (Word.Tail x) ≡ s.mem (Word.Tail x) → ((i : ℕ) (f : NodeField) → (after at).mem (Word.Node x i f) ≡ s.mem (Word.Node x i f)) → Stays n (view c x s) (view c x (after at))
  stays n at e same tail words =
      let own_post : post_at x ((after at).stand (pass_on c x p)) ≡ post_at x (s.stand (pass_on c x p)) = is_at at ∙ same ∙ sym (was_at at e) in
      record {
        tail = tail;
        nodes = λ i j. cell_of x (λ f. words i f j);
        posts = λ q qn. grind (arith, others at q);
      }

  pub reset_next : (call : Entry) → s.stand (pass_on c x p) ≡ standing (Phase.ResetNext call) → Resets (view c x s) (view c x (after (Phase.ResetNext call))) p
  reset_next call e =
      let was = was_at (Phase.ResetNext call) e in
      let is : post_at x ((after (Phase.ResetNext call)).stand (pass_on c x p)) ≡ post_of x own (Phase.ResetState call) = is_at (Phase.ResetNext call) in
      let cell : (after (Phase.ResetNext call)).mem (Word.Node x own NodeField.Next) ≡ 0 = put_here s.mem (Word.Node x own NodeField.Next) 0 in
      let cells : (i : ℕ) → i ≢ own → cell_of x (words_at (Phase.ResetNext call) i) ≡ cell_of x (before_at i) = λ i ne. cell_apart s.mem x own i NodeField.Next 0 ne in
      grind (arith, others (Phase.ResetNext call))

  pub reset_state : (call : Entry) → s.stand (pass_on c x p) ≡ standing (Phase.ResetState call) → s.mem (Word.Node x own NodeField.Next) ≡ 0 → Resets (view c x s) (view c x (after (Phase.ResetState call))) p
  reset_state call e clear =
      let was = was_at (Phase.ResetState call) e in
      let is : post_at x ((after (Phase.ResetState call)).stand (pass_on c x p)) ≡ post_of x own (Phase.Exchange call) = is_at (Phase.ResetState call) in
      let cell : (after (Phase.ResetState call)).mem (Word.Node x own NodeField.State) ≡ 1 = put_here s.mem (Word.Node x own NodeField.State) 1 in
      let cells : (i : ℕ) → i ≢ own → cell_of x (words_at (Phase.ResetState call) i) ≡ cell_of x (before_at i) = λ i ne. cell_apart s.mem x own i NodeField.State 1 ne in
      grind (arith, others (Phase.ResetState call))

  pub exchange : (call : Entry) → s.stand (pass_on c x p) ≡ standing (Phase.Exchange call) → 0 < s.mem (Word.Tail x) → Exchanges (view c x s) (view c x (after (Phase.Exchange call))) p
  exchange call e some =
      let was = was_at (Phase.Exchange call) e in
      let is : post_at x ((after (Phase.Exchange call)).stand (pass_on c x p)) ≡ entering (s.mem (Word.Tail x) - 1) own (asked_words x call) 0 =
      is_at (Phase.Exchange call) ∙ exchanged_post x (s.mem (Word.Tail x) - 1) own call in
      let tail = put_here s.mem (Word.Tail x) (own + 1) in grind (arith, others (Phase.Exchange call))

  pub asks : (call : Entry) → (j : ℕ) → asked_words x call j ≡ (post_at x ((after (Phase.Exchange call)).stand (pass_on c x p))).asks j
  asks call j = sym (ap (λ (z : Post). z.asks j) (is_at (Phase.Exchange call) ∙ exchanged_post x (s.mem (Word.Tail x) - 1) own call))

  pub link : (long put : ℕ) → long ≤ all_wrote x → s.stand (pass_on c x p) ≡ standing (Phase.Link put) → Links long (view c x s) (view c x (after (Phase.Link put))) p
  link long put most e =
      let was = was_at (Phase.Link put) e in
      let is : post_at x ((after (Phase.Link put)).stand (pass_on c x p)) ≡ post_of x own Phase.ReadState = is_at (Phase.Link put) in
      let cell : (after (Phase.Link put)).mem (Word.Node x own NodeField.Next) ≡ put + 1 = put_here s.mem (Word.Node x own NodeField.Next) (put + 1) in
      let words : (j : ℕ) → request_words x (words_at (Phase.Link put) own) j ≡ request_words x (before_at own) j = λ j. request_same x _ _ j refl (λ i. refl) in
      let cells : (i : ℕ) → i ≢ own → cell_of x (words_at (Phase.Link put) i) ≡ cell_of x (before_at i) = λ i ne. cell_apart s.mem x own i NodeField.Next (put + 1) ne in
      grind (arith, others (Phase.Link put))

  state_at : (w : ℕ) → s.mem (Word.Node x own NodeField.State) ≡ w → post_at x ((after Phase.ReadState).stand (pass_on c x p)) ≡ post_of x own (after_state own w)
  state_at w saw = is_at Phase.ReadState ∙ ap (λ (z : ℕ). post_of x own (after_state own z)) saw

  pub collect : (w : ℕ) → s.stand (pass_on c x p) ≡ standing Phase.ReadState → s.mem (Word.Node x own NodeField.State) ≡ suc (suc w) → Collects (view c x s) (view c x (after Phase.ReadState)) p
  collect w e saw =
      let was = was_at Phase.ReadState e in
      let is = state_at (suc (suc w)) saw in grind (arith, others Phase.ReadState)

  pub start : s.stand (pass_on c x p) ≡ standing Phase.ReadState → s.mem (Word.Node x own NodeField.State) ≡ 0 → Starts (view c x s) (view c x (after Phase.ReadState)) p
  start e saw =
      let was = was_at Phase.ReadState e in
      let is = state_at 0 saw in grind (arith, others Phase.ReadState)

  next_at : (round : Round) (w : ℕ) → s.mem (Word.Node x round.at NodeField.Next) ≡ w → post_at x ((after (Phase.ReadNext round)).stand (pass_on c x p)) ≡ post_of x own (after_next c.served x round w)
  next_at round w saw = is_at (Phase.ReadNext round) ∙ ap (λ (z : ℕ). post_of x own (after_next c.served x round z)) saw

  pub stop : (round : Round) → s.stand (pass_on c x p) ≡ standing (Phase.ReadNext round) → s.mem (Word.Node x round.at NodeField.Next) ≡ 0 → Stops (view c x s) (view c x (after (Phase.ReadNext round))) p
  stop round e saw =
      let was = was_at (Phase.ReadNext round) e in
      let is = next_at round 0 saw in grind (arith, others (Phase.ReadNext round))

  pub pick : (round : Round) (w : ℕ) → s.stand (pass_on c x p) ≡ standing (Phase.ReadNext round) → s.mem (Word.Node x round.at NodeField.Next) ≡ suc w → Picks (view c x s) (view c x (after (Phase.ReadNext round))) p
  pick round w e saw =
      let was = was_at (Phase.ReadNext round) e in
      let is : post_at x ((after (Phase.ReadNext round)).stand (pass_on c x p)) ≡ serving own record { round = round; next = w } 1 0 =
      next_at round (suc w) saw ∙ serves_post c.served x own record { round = round; next = w } in
      grind (arith, others (Phase.ReadNext round))

  -- a step of a service that decides the answer
  pub decide : (at : Phase) (job : Job) → s.stand (pass_on c x p) ≡ standing at → post_of x own at ≡ serving own job 1 0 → post_at x (advanced c x (standing at) (found at)) ≡ serving own job 2 0 →
      (after at).mem (Word.Tail x) ≡ s.mem (Word.Tail x) → ((i : ℕ) (f : NodeField) → (after at).mem (Word.Node x i f) ≡ s.mem (Word.Node x i f)) → Decides (view c x s) (view c x (after at)) p
  decide at job e first second tail words =
      let was : post_at x (s.stand (pass_on c x p)) ≡ serving own job 1 0 = was_at at e ∙ first in
      let is : post_at x ((after at).stand (pass_on c x p)) ≡ serving own job 2 0 = is_at at ∙ second in
      let cells : (i : ℕ) → cell_of x (words_at at i) ≡ cell_of x (before_at i) = λ i j. cell_of x (λ f. words i f j) in
      grind (arith, others at)

  told_in : (told : Answer) (j : ℕ) → j < told_next told → j < answer_long told → j ≤ 0
  told_in told j a b = grind arith

  pub write_answer : (job : Job) (told : Answer) → s.stand (pass_on c x p) ≡ standing (Phase.WriteAnswer job told) →
      Tells (answer_long told) (view c x s) (view c x (after (Phase.WriteAnswer job told))) p (ret_of c.served told)
  write_answer job told e =
      let was = was_at (Phase.WriteAnswer job told) e in
      let is : post_at x ((after (Phase.WriteAnswer job told)).stand (pass_on c x p)) ≡ serving own job 2 (told_next told) = is_at (Phase.WriteAnswer job told) ∙ after_answer_post x own job told in
      let cell : answer_words x (words_at (Phase.WriteAnswer job told) job.round.at) 0 ≡ ret_of c.served told =
      answer_first x (words_at (Phase.WriteAnswer job told) job.round.at) ∙ put_here s.mem (Word.Node x job.round.at NodeField.Ret) (ret_of c.served told) in
      let later : (j : ℕ) → j ≢ 0 → answer_words x (words_at (Phase.WriteAnswer job told) job.round.at) j ≡ answer_words x (before_at job.round.at) j = λ j ne. answer_later x _ _ j ne refl (λ i. refl) in
      let words : (j : ℕ) → request_words x (words_at (Phase.WriteAnswer job told) job.round.at) j ≡ request_words x (before_at job.round.at) j = λ j. request_same x _ _ j refl (λ i. refl) in
      let cells : (i : ℕ) → i ≢ job.round.at → cell_of x (words_at (Phase.WriteAnswer job told) i) ≡ cell_of x (before_at i) = λ i ne. cell_apart s.mem x job.round.at i NodeField.Ret (ret_of c.served told) ne in
      grind (arith, others (Phase.WriteAnswer job told), told_in told)

  -- the round is full, and the combiner is about to hand over; or it goes on
  marks : (job : Job) (served stage : ℕ) → (job.round.served + 1 ≡ c.config.bound → stage ≡ 3) → (job.round.served + 1 ≢ c.config.bound → (stage ≡ 0) × (served ≡ job.round.served + 1)) →
      s.stand (pass_on c x p) ≡ standing (Phase.MarkDone job) → post_at x ((after (Phase.MarkDone job)).stand (pass_on c x p)) ≡ resting own job.next served stage →
      (w : ℕ) → w ≤ all_told → Marks c.config.bound w (view c x s) (view c x (after (Phase.MarkDone job))) p
  marks job served stage full again e is w few =
      let was = was_at (Phase.MarkDone job) e in
      let cell : (after (Phase.MarkDone job)).mem (Word.Node x job.round.at NodeField.State) ≡ 2 = put_here s.mem (Word.Node x job.round.at NodeField.State) 2 in
      let words : (j : ℕ) → request_words x (words_at (Phase.MarkDone job) job.round.at) j ≡ request_words x (before_at job.round.at) j = λ j. request_same x _ _ j refl (λ i. refl) in
      let told : (j : ℕ) → answer_words x (words_at (Phase.MarkDone job) job.round.at) j ≡ answer_words x (before_at job.round.at) j = λ j. answer_same x _ _ j refl refl (λ i. refl) in
      let cells : (i : ℕ) → i ≢ job.round.at → cell_of x (words_at (Phase.MarkDone job) i) ≡ cell_of x (before_at i) = λ i ne. cell_apart s.mem x job.round.at i NodeField.State 2 ne in
      grind (arith, others (Phase.MarkDone job))

  -- its place then
  led : (job : Job) (b : Bool) → (job.round.served + 1 == c.config.bound) ≡ b → post_at x ((after (Phase.MarkDone job)).stand (pass_on c x p)) ≡ post_of x own (cond b (Phase.HandOver job.next) (Phase.ReadNext record { at = job.next; served = job.round.served + 1 }))
  led job b is = is_at (Phase.MarkDone job) ∙ ap (λ (b : Bool). post_of x own (cond b (Phase.HandOver job.next) (Phase.ReadNext record { at = job.next; served = job.round.served + 1 }))) is

  mark_by : (job : Job) (b : Bool) → (job.round.served + 1 == c.config.bound) ≡ b → s.stand (pass_on c x p) ≡ standing (Phase.MarkDone job) →
      (w : ℕ) → w ≤ all_told → Marks c.config.bound w (view c x s) (view c x (after (Phase.MarkDone job))) p
  mark_by job true is e w few = marks job 0 3 (λ full. refl) (λ ne. absurd (ne (eqb-true (job.round.served + 1) c.config.bound is))) e (led job true is) w few
  mark_by job false is e w few = marks job (job.round.served + 1) 0 (λ full. absurd (eqb-false (job.round.served + 1) c.config.bound is full)) (λ ne. (refl, refl)) e (led job false is) w few

  pub mark : (job : Job) → s.stand (pass_on c x p) ≡ standing (Phase.MarkDone job) → (w : ℕ) → w ≤ all_told → Marks c.config.bound w (view c x s) (view c x (after (Phase.MarkDone job))) p
  mark job e w few = mark_by job (job.round.served + 1 == c.config.bound) refl e w few

  pub hand_over : (at : ℕ) → s.stand (pass_on c x p) ≡ standing (Phase.HandOver at) → Hands (view c x s) (view c x (after (Phase.HandOver at))) p
  hand_over at e =
      let was = was_at (Phase.HandOver at) e in
      let is : post_at x ((after (Phase.HandOver at)).stand (pass_on c x p)) ≡ post_of x own Phase.ReadAnswer = is_at (Phase.HandOver at) in
      let cell : (after (Phase.HandOver at)).mem (Word.Node x at NodeField.State) ≡ 0 = put_here s.mem (Word.Node x at NodeField.State) 0 in
      let words : (j : ℕ) → request_words x (words_at (Phase.HandOver at) at) j ≡ request_words x (before_at at) j = λ j. request_same x _ _ j refl (λ i. refl) in
      let told : (j : ℕ) → answer_words x (words_at (Phase.HandOver at) at) j ≡ answer_words x (before_at at) j = λ j. answer_same x _ _ j refl refl (λ i. refl) in
      let cells : (i : ℕ) → i ≢ at → cell_of x (words_at (Phase.HandOver at) i) ≡ cell_of x (before_at i) = λ i ne. cell_apart s.mem x at i NodeField.State 0 ne in
      grind (arith, others (Phase.HandOver at))

  -- the last word of an answer is read
  pub end : (at : Phase) → s.stand (pass_on c x p) ≡ standing at → (post_of x own at) ≡ post_of x own Phase.ReadAnswer → post_at x (advanced c x (standing at) (found at)) ≡ post_of x own Phase.Idle →
      (after at).mem (Word.Tail x) ≡ s.mem (Word.Tail x) → ((i : ℕ) (f : NodeField) → (after at).mem (Word.Node x i f) ≡ s.mem (Word.Node x i f)) → Ends (view c x s) (view c x (after at)) p
  end at e first second tail words =
      let was : post_at x (s.stand (pass_on c x p)) ≡ post_of x own Phase.ReadAnswer = was_at at e ∙ first in
      let is : post_at x ((after at).stand (pass_on c x p)) ≡ post_of x own Phase.Idle = is_at at ∙ second in
      let cells : (i : ℕ) → cell_of x (words_at at i) ≡ cell_of x (before_at i) = λ i j. cell_of x (λ f. words i f j) in
      grind (arith, others at)
