-- The steps with which calls enter, and whose turn it is.
use Rattle.std.proofs.Common.{◌≡◌, ◌≢◌, ℕ, zero, suc, ◌+◌, ◌<◌, ◌≤◌, Bool, true, ◌==◌, cond, IsTrue, refl, ap, sym, ◌∙◌, arith, inl, inr, length}
use Rattle.std.proofs.lemmas.Bool.{cases_eq}
use Rattle.cc_runs.specs.Names.{Answer, TakeAnswer, Setting, Served, Chain, NodeField, Word, Round, Job, Phase}
use Rattle.cc_runs.specs.Codes.{code_of, value_of, further_words, tag_of}
use Rattle.cc_runs.specs.State.{State}
use Rattle.cc_runs.specs.Lines.{goes, after_state, after_next, after_answer, after_ret}
use Rattle.cc_runs.specs.ServiceLine.{Next, phase_of}
use Rattle.cc_runs.specs.CountLines as count_side
use Rattle.cc_runs.specs.SendLines as send_side
use Rattle.cc_runs.specs.TakeLines as take_side
use Rattle.cc_runs.specs.Turns.{is_in, is_among, decided, IsTurnAt, SomeTurn}
use Rattle.cc_runs.specs.Ahead.{entering_left}
use Rattle.cc_runs.specs.ChainLaws.{is_combining}
use Rattle.cc_runs.proofs.Bodies.{few_further}
use Rattle.cc_runs.proofs.ReadWords.{behind_word}
use Rattle.cc_runs.proofs.Chains.View.{members, pass_on, post_of, post_at}
use Rattle.cc_runs.proofs.Chains.Registers.{calls_on, answers_on}
use Rattle.cc_runs.proofs.Chains.Ties.{ghost_of, Holds}
use Rattle.cc_runs.proofs.Chains.Facts.{own_node}
use Rattle.cc_runs.proofs.Progress.Among.{among_at, at_among}
use Rattle.cc_runs.proofs.Progress.Combiner.{five_combining, two_decided}

-- ---- the steps of an entry

after_service : {S : Type 0} (in_service : Job → S → Phase) → ((job : Job) (at : S) → entering_left (in_service job at) ≡ 0) → (job : Job) (next : Next S) → entering_left (phase_of in_service job next) ≡ 0
after_service in_service none job next = grind arith

module _ (c : Setting) (x : Chain) (own : ℕ) where
  abbrev Enters : Phase → Phase → Type 0
  Enters from to = entering_left to ≤ entering_left from

  state_read : (n : ℕ) → Enters Phase.ReadState (after_state own n)
  state_read n = grind arith

  next_read : (what : Served) (y : Chain) (round : Round) (n : ℕ) → Enters (Phase.ReadNext round) (after_next what y round n)
  next_read what y round n = grind arith

  answer_written : (job : Job) (told : Answer) → Enters (Phase.WriteAnswer job told) (after_answer job told)
  answer_written job told = grind arith

  taken_read : (ret : ℕ) (one two : Bool) → Enters Phase.ReadAnswer (cond one (Phase.ReadAnswerTag (value_of ret)) (cond two (Phase.Finished (Answer.Take TakeAnswer.Empty)) (Phase.Finished (Answer.Take (TakeAnswer.Ended (value_of ret))))))
  taken_read ret one two = grind arith

  done : (job : Job) (b : Bool) → Enters (Phase.MarkDone job) (cond b (Phase.HandOver job.next) (Phase.ReadNext record { at = job.next; served = job.round.served + 1 }))
  done job b = grind arith

  ret_read : (what : Served) (y : Chain) (ret : ℕ) → Enters Phase.ReadAnswer (after_ret what y ret)
  ret_read what Chain.Send ret = omega arith
  ret_read what (Chain.Take g) ret = taken_read ret (code_of ret == 1) (code_of ret == 2)

  pub enters_le : (at : Phase) (found : ℕ) → is_in at ≡ true → entering_left (goes c x own at found) ≤ entering_left at
  enters_le (Phase.WriteBody put request i) found inside = behind_word (Enters (Phase.WriteBody put request i)) (further_words request.tag) i _ _ (λ more. omega (arith, more)) (λ last. omega arith)
  enters_le Phase.ReadState found inside = state_read found
  enters_le (Phase.ReadNext round) found inside = next_read c.served x round found
  enters_le (Phase.Counting job at) found inside = omega (arith, after_service count_side.in_service (λ j z. refl) job (count_side.line 0 at found).next)
  enters_le (Phase.Sending job at) found inside = omega (arith, after_service send_side.in_service (λ j z. refl) job (send_side.line c.config 0 at found).next)
  enters_le (Phase.Taking job at) found inside = omega (arith, after_service take_side.in_service (λ j z. refl) job (take_side.line 0 at found).next)
  enters_le (Phase.WriteAnswer job told) found inside = answer_written job told
  enters_le (Phase.WriteAnswerBody job item i) found inside = behind_word (Enters (Phase.WriteAnswerBody job item i)) (further_words (tag_of item)) i _ _ (λ more. omega arith) (λ last. omega arith)
  enters_le (Phase.MarkDone job) found inside = done job (job.round.served + 1 == c.config.bound)
  enters_le Phase.ReadAnswer found inside = ret_read c.served x found
  enters_le (Phase.ReadAnswerBody p i) found inside = behind_word (Enters (Phase.ReadAnswerBody p i)) (further_words p.tag) i _ _ (λ more. omega arith) (λ last. omega arith)
  enters_le at found inside = grind arith

  pub enters_lt : (at : Phase) (found : ℕ) → 0 < entering_left at → entering_left (goes c x own at found) < entering_left at
  enters_lt (Phase.WriteBody put request i) found some = behind_word (λ (z : Phase). entering_left z < entering_left (Phase.WriteBody put request i)) (further_words request.tag) i _ _ (λ more. omega (arith, more, few_further request.tag)) (λ last. omega arith)
  enters_lt at found some = grind arith

pub enters_most : (at : Phase) → entering_left at ≤ 6
enters_most at = grind arith

-- ---- whose turn it is

abbrev pred_of : ℕ → ℕ
pred_of zero = 0
pred_of (suc n) = n

is_pred : (n : ℕ) → n ≢ 0 → n ≡ pred_of n + 1
is_pred n ne = grind arith

module _ (c : Setting) (x : Chain) (s : State) (w : Holds c x s) (k : ℕ) where
  abbrev answers : ℕ
  answers = length (answers_on x s.history)

  -- an entering pass
  enters_turn : (q own : ℕ) (at : Phase) → (post_of x own at).rank ≡ 3 → IsTrue (is_among c x k s q) → IsTurnAt c x k s q at
  enters_turn q own at rank among = grind arith

  -- one that reads state 0
  reads_turn : (q own : ℕ) (at : Phase) → (post_of x own at).rank ≡ 4 → s.mem (Word.Node x (s.stand (pass_on c x q)).node NodeField.State) ≡ 0 → length (answers_on x s.history) < k → IsTurnAt c x k s q at
  reads_turn q own at rank state less = grind arith

  -- the combiner
  serves_turn : (q : ℕ) (at : Phase) → is_combining at ≡ true → length (answers_on x s.history) < k + decided at → IsTurnAt c x k s q at
  serves_turn q at is less = grind arith

  -- a call that waits isn't marked
  late : (n : ℕ) → n < members c x → (post_at x (s.stand (pass_on c x n))).rank ≡ 4 → s.mem (Word.Node x (s.stand (pass_on c x n)).node NodeField.State) ≡ 1 → (ghost_of w).marked ≤ (ghost_of w).at n
  late n inside four one = grind (arith, w.inv.states.done_state n inside four, own_node)

  free : (n : ℕ) → n < members c x → (ghost_of w).at n < k → 3 ≤ (post_at x (s.stand (pass_on c x n))).rank → (ghost_of w).marked ≤ (ghost_of w).at n → (ghost_of w).server ≡ 0 → SomeTurn c x k s
  free n inside less entered low none =
      let q : ℕ = (ghost_of w).pass_of (ghost_of w).marked in
      let more : (ghost_of w).marked < (ghost_of w).calls = omega (arith, low, w.inv.passes.at_in n inside entered) in
      let q_in : (ghost_of w).pass_of (ghost_of w).marked < members c x = w.inv.calls.open_pass (ghost_of w).marked (omega arith) more in
      let three : 3 ≤ (post_at x (s.stand (pass_on c x ((ghost_of w).pass_of (ghost_of w).marked)))).rank = w.inv.calls.open_low (ghost_of w).marked (omega arith) more in
      let five : (post_at x (s.stand (pass_on c x ((ghost_of w).pass_of (ghost_of w).marked)))).rank ≤ 5 = w.inv.calls.open_high (ghost_of w).marked (omega arith) more in
      let not_five : (post_at x (s.stand (pass_on c x ((ghost_of w).pass_of (ghost_of w).marked)))).rank ≢ 5 = λ is. absurd (omega (arith, none, w.inv.server.server_is ((ghost_of w).pass_of (ghost_of w).marked) q_in is)) in
      let first : (ghost_of w).at ((ghost_of w).pass_of (ghost_of w).marked) < k = omega (arith, less, low, w.inv.calls.open_at (ghost_of w).marked (omega arith) more) in
      let node : (post_at x (s.stand (pass_on c x ((ghost_of w).pass_of (ghost_of w).marked)))).node ≡ (s.stand (pass_on c x ((ghost_of w).pass_of (ghost_of w).marked))).node =
      own_node x (s.stand (pass_on c x ((ghost_of w).pass_of (ghost_of w).marked))).node (s.stand (pass_on c x ((ghost_of w).pass_of (ghost_of w).marked))).phase in
      let state : s.mem (Word.Node x (s.stand (pass_on c x ((ghost_of w).pass_of (ghost_of w).marked))).node NodeField.State) ≡ 0 =
      ap (λ (z : ℕ). s.mem (Word.Node x z NodeField.State)) (sym node ∙ w.inv.calls.open_node (ghost_of w).marked (omega arith) more) ∙ w.inv.states.free_state none in
      let open_answers : length (answers_on x s.history) < k = omega (arith, less, low, w.inv.serving.free_answers none) in
      elim (cases_eq (post_at x (s.stand (pass_on c x ((ghost_of w).pass_of (ghost_of w).marked)))).rank 3) [
        | inl is ↦ record {
          pass = (ghost_of w).pass_of (ghost_of w).marked;
          inside = q_in;
          turn = enters_turn ((ghost_of w).pass_of (ghost_of w).marked) (s.stand (pass_on c x ((ghost_of w).pass_of (ghost_of w).marked))).node (s.stand (pass_on c x ((ghost_of w).pass_of (ghost_of w).marked))).phase is (at_among c x s w k ((ghost_of w).pass_of (ghost_of w).marked) q_in three first);
        }
        | inr other ↦ record {
          pass = (ghost_of w).pass_of (ghost_of w).marked;
          inside = q_in;
          turn = reads_turn ((ghost_of w).pass_of (ghost_of w).marked) (s.stand (pass_on c x ((ghost_of w).pass_of (ghost_of w).marked))).node (s.stand (pass_on c x ((ghost_of w).pass_of (ghost_of w).marked))).phase (omega (arith, three, five, not_five, other)) state open_answers;
        }
      ]

  busy : (n : ℕ) → (ghost_of w).at n < k → (ghost_of w).marked ≤ (ghost_of w).at n → (q : ℕ) → (ghost_of w).server ≡ q + 1 → SomeTurn c x k s
  busy n less low q is =
      let five : (post_at x (s.stand (pass_on c x q))).rank ≡ 5 = w.inv.server.server_rank q is in
      let combines : is_combining (s.stand (pass_on c x q)).phase ≡ true = five_combining x (s.stand (pass_on c x q)).node (s.stand (pass_on c x q)).phase five in
      record {
        pass = q;
        inside = w.inv.server.server_in q is;
        turn = serves_turn q (s.stand (pass_on c x q)).phase combines (elim (cases_eq (post_at x (s.stand (pass_on c x q))).stage 2) [
          | inl two ↦ omega (arith, less, low, w.inv.serving.decided q is two, two_decided x (s.stand (pass_on c x q)).node (s.stand (pass_on c x q)).phase two)
          | inr other ↦ omega (arith, less, low, w.inv.serving.undecided q is other)
        ]);
      }

  -- while one of the first k calls has no answer
  pub open_turn : k ≤ length (calls_on x s.history) → length (answers_on x s.history) < k → SomeTurn c x k s
  open_turn few less = elim (cases_eq (ghost_of w).server 0) [
    | inl none ↦
        let same : length (answers_on x s.history) ≡ (ghost_of w).marked = w.inv.serving.free_answers none in
        let more : (ghost_of w).marked < (ghost_of w).calls = omega (arith, same, less, few) in
        let at : (ghost_of w).at ((ghost_of w).pass_of (ghost_of w).marked) ≡ (ghost_of w).marked = w.inv.calls.open_at (ghost_of w).marked (omega arith) more in
        free ((ghost_of w).pass_of (ghost_of w).marked) (w.inv.calls.open_pass (ghost_of w).marked (omega arith) more) (omega (arith, at, same, less)) (w.inv.calls.open_low (ghost_of w).marked (omega arith) more) (omega (arith, at)) none
    | inr some ↦
        let is : (ghost_of w).server ≡ pred_of (ghost_of w).server + 1 = is_pred (ghost_of w).server some in
        let five : (post_at x (s.stand (pass_on c x (pred_of (ghost_of w).server)))).rank ≡ 5 = w.inv.server.server_rank (pred_of (ghost_of w).server) is in
        let combines : is_combining (s.stand (pass_on c x (pred_of (ghost_of w).server))).phase ≡ true =
        five_combining x (s.stand (pass_on c x (pred_of (ghost_of w).server))).node (s.stand (pass_on c x (pred_of (ghost_of w).server))).phase five in
        record {
          pass = pred_of (ghost_of w).server;
          inside = w.inv.server.server_in (pred_of (ghost_of w).server) is;
          turn = serves_turn (pred_of (ghost_of w).server) (s.stand (pass_on c x (pred_of (ghost_of w).server))).phase combines (omega (arith, less));
        }
  ]

  -- while a call waits
  pub some_turn : (n : ℕ) → n < members c x → IsTrue (is_among c x k s n) → (s.stand (pass_on c x n)).phase ≡ Phase.ReadState → s.mem (Word.Node x (s.stand (pass_on c x n)).node NodeField.State) ≡ 1 → SomeTurn c x k s
  some_turn n inside among reads one =
      let at = among_at c x s w k n inside among in
      let four : (post_at x (s.stand (pass_on c x n))).rank ≡ 4 = ap (λ (z : Phase). (post_of x (s.stand (pass_on c x n)).node z).rank) reads in
      let low : (ghost_of w).marked ≤ (ghost_of w).at n = late n inside four one in
      grind (arith, free n inside at.1 at.0 low, busy n at.1 low (pred_of (ghost_of w).server), is_pred (ghost_of w).server)
