-- Each step of a combiner, and of a call that reads its answer, keeps what holds of the chain.
use Rattle.std.proofs.Common.{◌++◌, [], ◌∷◌, ◌≡◌, ℕ, ◌+◌, ◌<◌, ◌≤◌, ◌==◌, refl, ap, sym, ◌∙◌, subst, arith, Some, None}
use Rattle.cc_model.specs.Record.{Side}
use Rattle.cc_runs.specs.Names.{Entry, Answer, Setting, Chain, NodeField, Word, Stand, Job, Phase}
use Rattle.cc_runs.specs.Codes.{ret_of}
use Rattle.cc_runs.specs.State.{side, State, noted}
use Rattle.cc_runs.specs.Lines.{goes, node_after, enters, decides, after_answer, after_done}
use Rattle.cc_runs.specs.Step.{advanced}
use Rattle.cc_runs.proofs.Combining.CombinerSteps.{Tells}
use Rattle.cc_runs.proofs.Combining.Stay as by_stay
use Rattle.cc_runs.proofs.Combining.CombinerSteps as by_combiner
use Rattle.cc_runs.proofs.Chains.View.{view, members, pass_on, post_of, post_at, serving, request_words, request_long, asked_words, answer_long, all_told}
use Rattle.cc_runs.proofs.Chains.Frame.{after_answer_post}
use Rattle.cc_runs.proofs.Chains.Bridge as bridge
use Rattle.cc_runs.proofs.Chains.Registers.{IsChain, calls_on, answers_on, call_at, answer_at, IsAnswer, HasService, coded_words}
use Rattle.cc_runs.proofs.Chains.Service.{Outcome, quiet, decides as decided}
use Rattle.cc_runs.proofs.Chains.Ties.{holds_at, ghost_of, Holds, stands_on}
use Rattle.cc_runs.proofs.Chains.Grown as grown
use Rattle.cc_runs.proofs.Chains.Facts.{side_same, keeps_side, IsFree, free_at, answers_it, done_it, done_rank, some_words, coded_first}
use Rattle.cc_runs.proofs.Chains.Steps.{Here, next, found_at, goes_on, stays_in, mine, others}

module _ (c : Setting) (x : Chain) (ok : IsChain c x) (some : 0 < c.config.bound) (s : State) (p begun own : ℕ) (inside : p < members c x) (w : Holds c x s) where
  abbrev pub At : Phase → Type 0
  At at = Here c x ok some s p begun own inside w at

  abbrev pub then : Phase → State
  then at = next c x ok some s p begun own inside w at

  abbrev pub finds : Phase → ℕ
  finds at = found_at c x ok some s p begun own inside w at

  abbrev pub the_call : Entry
  the_call = call_at (calls_on x s.history) (ghost_of w).marked

  abbrev pub the_answer : Answer
  the_answer = answer_at (answers_on x s.history) (ghost_of w).marked

  pub seen : (at : Phase) → At at → post_at x (s.stand (pass_on c x p)) ≡ post_of x own at
  seen at e = ap (λ (z : Stand). post_at x z) e

  -- who combines, combines
  pub me : (at : Phase) → At at → (post_of x own at).rank ≡ 5 → (ghost_of w).server ≡ p + 1
  me at e five = w.inv.server.server_is p inside (ap (λ z. z.rank) (seen at e) ∙ five)

  pub serves_at : (at : Phase) → At at → (post_of x own at).rank ≡ 5 → HasService c.served x the_call the_answer at
  serves_at at e five = subst (λ (z : Stand). HasService c.served x the_call the_answer z.phase) e (w.ties.served p (me at e five))

  -- the words of the request that is served
  pub request_at : (at : Phase) (job : Job) (j : ℕ) → At at → post_of x own at ≡ serving own job 1 0 → j < request_long x the_call →
      request_words x (λ (f : NodeField). s.mem (Word.Node x job.round.at f)) j ≡ asked_words x the_call j
  request_at at job j e is less =
      let now : post_at x (s.stand (pass_on c x p)) ≡ serving own job 1 0 = seen at e ∙ is in
      let mine : (ghost_of w).server ≡ p + 1 = me at e (ap (λ z. z.rank) is) in
      let busy : (ghost_of w).marked < (ghost_of w).calls = w.inv.serving.serving p mine (grind arith) (grind arith) in
      let linked : 4 ≤ (post_at x (s.stand (pass_on c x ((ghost_of w).pass_of (ghost_of w).marked)))).rank = w.inv.serving.serving_linked p mine (grind arith) (grind arith) in
      let at_is : (ghost_of w).at ((ghost_of w).pass_of (ghost_of w).marked) ≡ (ghost_of w).marked = w.inv.calls.open_at (ghost_of w).marked (omega arith) busy in
      let node_is : (post_at x (s.stand (pass_on c x ((ghost_of w).pass_of (ghost_of w).marked)))).node ≡ (ghost_of w).chain (ghost_of w).marked = w.inv.calls.open_node (ghost_of w).marked (omega arith) busy in
      let target : job.round.at ≡ (ghost_of w).chain (ghost_of w).marked = sym (ap (λ z. z.target) now) ∙ w.inv.server.server_target p mine in
      let written : request_words x (λ (f : NodeField). s.mem (Word.Node x (post_at x (s.stand (pass_on c x ((ghost_of w).pass_of (ghost_of w).marked)))).node f)) j ≡ (ghost_of w).asked ((ghost_of w).at ((ghost_of w).pass_of (ghost_of w).marked)) j =
      w.inv.words.linked_written ((ghost_of w).pass_of (ghost_of w).marked) j (w.inv.calls.open_pass (ghost_of w).marked (omega arith) busy) linked (omega arith)
      (omega (arith, less, ap (λ (z : ℕ). (ghost_of w).asks_long z) at_is)) in
      ap (λ (z : ℕ). request_words x (λ (f : NodeField). s.mem (Word.Node x z f)) j) (target ∙ sym node_is) ∙ written ∙ ap (λ (z : ℕ). (ghost_of w).asked z j) at_is

  -- a step of a service
  quietly : (at : Phase) (job : Job) → At at → (post_of x own at).rank ≡ 5 → enters at ≡ None → decides c at (finds at) ≡ None → node_after own at (finds at) ≡ own →
      post_of x own (goes c x own at (finds at)) ≡ post_of x own at → (HasService c.served x the_call the_answer at → HasService c.served x the_call the_answer (goes c x own at (finds at))) →
      (then at).mem (Word.Tail x) ≡ s.mem (Word.Tail x) → ((i : ℕ) (f : NodeField) → (then at).mem (Word.Node x i f) ≡ s.mem (Word.Node x i f)) → Holds c x (then at)
  quietly at job e five enter none keeps_node same serve tail words =
      goes_on c x ok some s p begun own inside w at (goes c x own at (finds at)) (ghost_of w).marked (ghost_of w).server refl enter none
      (by_stay.keeps (members c x) c.config.bound (view c x s) (view c x (then at)) (ghost_of w) w.inv
      (bridge.stays c x s p begun own (members c x) at e (ap (λ (z : ℕ). post_of x z (goes c x own at (finds at))) keeps_node ∙ same) tail words))
      (stays_in c x ok some s p begun own inside w (goes c x own at (finds at)) (free_at c x p own (goes c x own at (finds at)) (ap (λ z. z.rank) same ∙ five)) (λ a. serve (serves_at at e five)))

  decides_now : (at : Phase) (job : Job) (a : Answer) → At at → enters at ≡ None → decides c at (finds at) ≡ Some a → node_after own at (finds at) ≡ own →
      post_of x own at ≡ serving own job 1 0 → post_of x own (goes c x own at (finds at)) ≡ serving own job 2 0 → IsAnswer c.served x a → HasService c.served x the_call a (goes c x own at (finds at)) →
      (then at).mem (Word.Tail x) ≡ s.mem (Word.Tail x) → ((i : ℕ) (f : NodeField) → (then at).mem (Word.Node x i f) ≡ s.mem (Word.Node x i f)) → Holds c x (then at)
  decides_now at job a e enter tells keeps_node first second is serve tail words =
      let mine_is : (ghost_of w).server ≡ p + 1 = me at e (ap (λ z. z.rank) first) in
      let stage : (post_at x (s.stand (pass_on c x p))).stage ≡ 1 = ap (λ z. z.stage) (seen at e ∙ first) in
      let even : (ghost_of w).answers ≡ (ghost_of w).marked = w.inv.serving.undecided p mine_is (λ two. omega (arith, stage)) in
      let free : IsFree c x p (goes c x own at (finds at)) = free_at c x p own (goes c x own at (finds at)) (ap (λ z. z.rank) second) in
      let history : (then at).history ≡ noted x s.history None (Some a) = λ i. noted x s.history (enter i) (tells i) in
      let side_is : side x (then at).history ≡ record { calls = calls_on x s.history; answers = answers_on x s.history ++ a ∷ [] } = ap (side x) history ∙ side_same x s.history _ w.side_in in
      holds_at c x (then at) (calls_on x s.history) (answers_on x s.history ++ a ∷ []) w.kept (ap (λ (z : Side). z.calls) side_is) (ap (λ (z : Side). z.answers) side_is)
      (by_combiner.decides (members c x) c.config.bound (view c x s) (view c x (then at)) (ghost_of w) p inside w.inv _ (coded_words c.served x a)
      (bridge.decide c x s p begun own at job e first (ap (λ (z : ℕ). post_of x z (goes c x own at (finds at))) keeps_node ∙ second) tail words)
      (grown.answers_more c x (calls_on x s.history) (answers_on x s.history) (stands_on c x s) (stands_on c x (then at)) w.kept p inside w.ties a))
      (grown.ties_answered c x (calls_on x s.history) (answers_on x s.history) (stands_on c x s) (stands_on c x (then at)) w.kept p inside w.ties a (advanced c x (bridge.standing c x s p begun own at) (finds at)) is
      (mine c x s p begun own at) (λ q ne. others c x s p begun own at q ne) mine_is even (λ q qn six. w.inv.passes.late q qn six) free.call free.read free.unfinished serve)
      (keeps_side x x s.history _ w.side_in)

  pub service : (at : Phase) (job : Job) → At at → (post_of x own at).rank ≡ 5 → enters at ≡ None → node_after own at (finds at) ≡ own → Outcome c.served x job the_call at (goes c x own at (finds at)) (decides c at (finds at)) →
      (then at).mem (Word.Tail x) ≡ s.mem (Word.Tail x) → ((i : ℕ) (f : NodeField) → (then at).mem (Word.Node x i f) ≡ s.mem (Word.Node x i f)) → Holds c x (then at)
  service at job e five enter keeps_node (quiet none same serve) tail words = quietly at job e five enter none keeps_node (same own) (serve the_answer) tail words
  service at job e five enter keeps_node (decided a tells first second is serve) tail words = decides_now at job a e enter tells keeps_node (first own) (second own) is serve tail words

  -- the answer that is decided
  pub told_of : (at : Phase) → At at → (post_of x own at).rank ≡ 5 → (post_of x own at).stage ≡ 2 →
      ((ghost_of w).marked < (ghost_of w).answers) × ((ghost_of w).told_long (ghost_of w).marked ≡ answer_long the_answer) × ((j : ℕ) → (ghost_of w).told (ghost_of w).marked j ≡ coded_words c.served x the_answer j) × IsAnswer c.served x the_answer
  told_of at e five two =
      let less : (ghost_of w).marked < (ghost_of w).answers = omega (arith, w.inv.serving.decided p (me at e five) (ap (λ z. z.stage) (seen at e) ∙ two)) in
      (less, refl, (λ j. refl), w.ties.answered (ghost_of w).marked less)

  -- an answer word is written
  pub tells : (at there : Phase) (long word told : ℕ) → At at → (post_of x own at).rank ≡ 5 → (post_of x own at).stage ≡ 2 → (post_of x own at).told ≡ told → goes c x own at (finds at) ≡ there →
      enters at ≡ None → decides c at (finds at) ≡ None → (post_of x own there).rank ≡ 5 → Tells long (view c x s) (view c x (then at)) p word → long ≡ answer_long the_answer → word ≡ coded_words c.served x the_answer told →
      HasService c.served x the_call the_answer there → Holds c x (then at)
  tells at there long word told e five two count go enter none next_five t long_is word_is serve =
      let k = told_of at e five two in
      let told_now : (post_at x (s.stand (pass_on c x p))).told ≡ told = ap (λ z. z.told) (seen at e) ∙ count in
      let word_now : word ≡ (ghost_of w).told (ghost_of w).marked (post_at x (s.stand (pass_on c x p))).told = word_is ∙ sym (k.2 told) ∙ ap (λ (z : ℕ). (ghost_of w).told (ghost_of w).marked z) (sym told_now) in
      goes_on c x ok some s p begun own inside w at there (ghost_of w).marked (ghost_of w).server go enter none
      (by_combiner.tells (members c x) c.config.bound (view c x s) (view c x (then at)) (ghost_of w) p inside w.inv
      (subst (λ (z : ℕ). Tells z (view c x s) (view c x (then at)) p ((ghost_of w).told (ghost_of w).marked (post_at x (s.stand (pass_on c x p))).told)) (long_is ∙ sym k.1)
      (subst (λ (z : ℕ). Tells long (view c x s) (view c x (then at)) p z) word_now t)))
      (stays_in c x ok some s p begun own inside w there (free_at c x p own there next_five) (λ a. serve))

  pub write_answer : (job : Job) (told : Answer) → At (Phase.WriteAnswer job told) → Holds c x (then (Phase.WriteAnswer job told))
  write_answer job told e =
      let is : the_answer ≡ told = serves_at (Phase.WriteAnswer job told) e refl in
      let k = told_of (Phase.WriteAnswer job told) e refl refl in
      tells (Phase.WriteAnswer job told) (after_answer job told) (answer_long told) (ret_of c.served told) 0 e refl refl refl refl refl refl (ap (λ z. z.rank) (after_answer_post x own job told))
      (bridge.write_answer c x s p begun own job told e) (ap answer_long (sym is)) (sym (coded_first c.served x told) ∙ ap (λ (z : Answer). coded_words c.served x z 0) (sym is))
      (answers_it c.served x the_call the_answer told job is (subst (λ (z : Answer). IsAnswer c.served x z) is k.3))

  pub mark : (job : Job) → At (Phase.MarkDone job) → Holds c x (then (Phase.MarkDone job))
  mark job e =
      let k = told_of (Phase.MarkDone job) e refl refl in
      let few : (ghost_of w).told_long (ghost_of w).marked ≤ all_told = omega (arith, k.1, some_words the_answer) in
      let rank : (post_of x own (after_done c.config.bound job)).rank ≡ 5 = done_rank x own job (job.round.served + 1 == c.config.bound) in
      let free : IsFree c x p (after_done c.config.bound job) = free_at c x p own (after_done c.config.bound job) rank in
      let mine_is : (ghost_of w).server ≡ p + 1 = me (Phase.MarkDone job) e refl in
      goes_on c x ok some s p begun own inside w (Phase.MarkDone job) (after_done c.config.bound job) ((ghost_of w).marked + 1) (ghost_of w).server refl refl refl
      (by_combiner.marks (members c x) c.config.bound (view c x s) (view c x (then (Phase.MarkDone job))) (ghost_of w) p inside w.inv
      (bridge.mark c x s p begun own job e ((ghost_of w).told_long (ghost_of w).marked) few))
      record {
        onward = omega arith;
        call = free.call;
        read = free.read _;
        ended = λ f. absurd (free.unfinished f);
        serves = λ a. done_it c.served x (call_at (calls_on x s.history) ((ghost_of w).marked + 1)) (answer_at (answers_on x s.history) ((ghost_of w).marked + 1)) job (job.round.served + 1 == c.config.bound);
        keep = λ q ne a. absurd (ne (omega (arith, mine_is)));
      }

  pub hand_over : (at : ℕ) → At (Phase.HandOver at) → Holds c x (then (Phase.HandOver at))
  hand_over at e =
      goes_on c x ok some s p begun own inside w (Phase.HandOver at) Phase.ReadAnswer (ghost_of w).marked 0 refl refl refl
      (by_combiner.hands (members c x) c.config.bound (view c x s) (view c x (then (Phase.HandOver at))) (ghost_of w) p inside w.inv (bridge.hand_over c x s p begun own at e))
      record { onward = omega arith; call = tt; read = tt; ended = λ f. absurd f; serves = λ a. absurd (omega arith); keep = λ q ne a. absurd (omega arith) }
