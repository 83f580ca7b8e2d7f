-- The places of accepted items go up, and a queue is shut once; so the calls of a pass that is out of its chain are counted.
use Rattle.std.proofs.Common.{◌≡◌, ℕ, zero, suc, ◌+◌, ◌<◌, ◌≤◌, Bool, true, ◌||◌, List, [], ◌∷◌, length, Some, ap, ◌∙◌, subst, arith, length-append, false, inl, inr, refl, sym}
use Rattle.std.proofs.Math.Bool.{or-true}
use Rattle.std.specs.List.{AllByRecursion, slice_get, list_any}
use Rattle.cc_model.specs.Items.{accepted_by, accepted_item, shuts, is_pass, calls_of}
use Rattle.cc_model.specs.Legal.{SendSideAnswer, SendSideAnswers, IsSenders}
use Rattle.cc_runs.specs.Names.{Config, Pass, Call, Entry, Answer, SendAnswer, CloseAnswer, Served, Chain, Phase, Sending, Job, Move}
use Rattle.std.proofs.lemmas.Bool.{cases_lt}
use Rattle.std.proofs.lemmas.Option.{slice_get-get_or, same_Some}
use Rattle.cc_runs.specs.State.{State, chain_of, pass_at}
use Rattle.cc_runs.specs.Run.{passes, reached, IsRun}
use Rattle.cc_runs.specs.ChainLaws.{IsOut}
use Rattle.cc_runs.specs.Counts.{counted, mark_of, IsSeen, AreSeen}
use Rattle.cc_runs.proofs.ChainLaws.{out_rank}
use Rattle.cc_runs.proofs.ChainRuns.{not_other}
use Rattle.cc_runs.proofs.Chains.View.{pass_on, post_of, post_at}
use Rattle.cc_runs.proofs.Chains.Registers.{calls_on, answers_on, call_at, answer_at, no_answer, IsAnswer, HasSend, HasService}
use Rattle.cc_runs.proofs.Chains.Ties.{ghost_of, Holds}
use Rattle.cc_runs.proofs.Chains.Last.{chosen, all_chosen}
use Rattle.cc_runs.proofs.Chains.Others.{IsOn}
use Rattle.cc_runs.proofs.Chains.Serving.{Chains, chains_hold, chain_is, on_chain, sending_where}
use Rattle.cc_runs.proofs.Chains.ReadAnswers.{named, name_is, calls_one}
use Rattle.cc_runs.proofs.LinkedList.Invariant.{LInv}
use Rattle.cc_runs.proofs.ListRuns.View.{enq_at, queue_of}
use Rattle.cc_runs.proofs.ListRuns.Ties.{further}
use Rattle.cc_runs.proofs.ListRuns.Facts.{lists}
use Rattle.cc_runs.proofs.ListRuns.Invariant.{Parts, ghosts_at}
use Rattle.cc_runs.proofs.ListRuns.Runs.{Whole}
use Rattle.cc_runs.proofs.Counts.State.{Late, Closing, late_at, closing_at, stage, count_now, count_late, either_count, shut_now}
use Rattle.cc_runs.proofs.EndAnswered.{marked}

abbrev Senders : Config → List Entry → Type 0
Senders c calls = AllByRecursion (λ (e : Entry). IsSenders c e.pass e.call) calls

-- the first answer
module _ (c : Config) (n known place number : ℕ) where
  one_item : (shut : Bool) (pass : Pass) (call : Call) → IsSenders c pass call → SendSideAnswer c n shut known call (Answer.Send (SendAnswer.Accepted place))
      → (place ≡ n) × (length (accepted_item (record { pass = pass; call = call; number = number; known = known }) (Answer.Send (SendAnswer.Accepted place))) ≡ 1)
  one_item shut pass call is h = grind arith

-- each place is among those of the items
within : (c : Config) (n : ℕ) (shut : Bool) (calls : List Entry) (answers : List Answer) → SendSideAnswers c n shut calls answers → Senders c calls → (j place : ℕ) → slice_get answers j ≡ Some (Answer.Send (SendAnswer.Accepted place))
    → (n ≤ place) × (place < n + length (accepted_by calls answers))
within c n shut calls [] h all j place is = absurd (cc)
within c n shut [] (a ∷ answers) h all j place is = absurd h
within c n shut (e ∷ calls) (a ∷ answers) h all zero place is =
    let told : a ≡ Answer.Send (SendAnswer.Accepted place) = same_Some a (Answer.Send (SendAnswer.Accepted place)) is in
    let one = one_item c n e.known place e.number shut e.pass e.call all.0 (subst (λ (z : Answer). SendSideAnswer c n shut e.known e.call z) told h.0) in
    (omega (arith, one.0), omega (arith, one.0, one.1, ap (λ (z : Answer). length (accepted_item e z)) told, length-append (accepted_item e a) (accepted_by calls answers)))
within c n shut (e ∷ calls) (a ∷ answers) h all (suc j) place is =
    let later = within c (n + length (accepted_item e a)) (shut || shuts a) calls answers h.1 all.1 j place is in
    (omega (arith, later.0), omega (arith, later.1, length-append (accepted_item e a) (accepted_by calls answers)))

-- the places go up
up : (c : Config) (n : ℕ) (shut : Bool) (calls : List Entry) (answers : List Answer) → SendSideAnswers c n shut calls answers → Senders c calls → (j k place next : ℕ) → j < k → slice_get answers j ≡ Some (Answer.Send (SendAnswer.Accepted place))
    → slice_get answers k ≡ Some (Answer.Send (SendAnswer.Accepted next)) → place < next
up c n shut calls [] h all j k place next less is then = absurd (cc (is))
up c n shut [] (a ∷ answers) h all j k place next less is then = absurd h
up c n shut (e ∷ calls) (a ∷ answers) h all j zero place next less is then = absurd (omega (arith, less))
up c n shut (e ∷ calls) (a ∷ answers) h all zero (suc k) place next less is then =
    let told : a ≡ Answer.Send (SendAnswer.Accepted place) = same_Some a (Answer.Send (SendAnswer.Accepted place)) is in
    let one = one_item c n e.known place e.number shut e.pass e.call all.0 (subst (λ (z : Answer). SendSideAnswer c n shut e.known e.call z) told h.0) in
    let later = within c (n + length (accepted_item e a)) (shut || shuts a) calls answers h.1 all.1 k next then in
    omega (arith, one.0, one.1, ap (λ (z : Answer). length (accepted_item e z)) told, later.0)
up c n shut (e ∷ calls) (a ∷ answers) h all (suc j) (suc k) place next less is then =
    up c (n + length (accepted_item e a)) (shut || shuts a) calls answers h.1 all.1 j k place next (omega (arith, less)) is then

-- ---- shut once

no_second : (c : Config) (n known total : ℕ) (call : Call) → SendSideAnswer c n true known call (Answer.Close (CloseAnswer.Shut total)) → ⊥
no_second c n known total call h = grind arith

none_after : (c : Config) (n : ℕ) (calls : List Entry) (answers : List Answer) → SendSideAnswers c n true calls answers → (j total : ℕ) → slice_get answers j ≡ Some (Answer.Close (CloseAnswer.Shut total)) → ⊥
none_after c n calls [] h j total is = absurd (cc)
none_after c n [] (a ∷ answers) h j total is = h
none_after c n (e ∷ calls) (a ∷ answers) h zero total is = no_second c n e.known total e.call (subst (λ (z : Answer). SendSideAnswer c n true e.known e.call z) (same_Some a (Answer.Close (CloseAnswer.Shut total)) is) h.0)
none_after c n (e ∷ calls) (a ∷ answers) h (suc j) total is = none_after c (n + length (accepted_item e a)) calls answers h.1 j total is

once : (c : Config) (n : ℕ) (shut : Bool) (calls : List Entry) (answers : List Answer) → SendSideAnswers c n shut calls answers → (j k first second : ℕ) → j < k → slice_get answers j ≡ Some (Answer.Close (CloseAnswer.Shut first))
    → slice_get answers k ≡ Some (Answer.Close (CloseAnswer.Shut second)) → ⊥
once c n shut calls [] h j k first second less is then = absurd (cc (is))
once c n shut [] (a ∷ answers) h j k first second less is then = h
once c n shut (e ∷ calls) (a ∷ answers) h j zero first second less is then = absurd (omega (arith, less))
once c n shut (e ∷ calls) (a ∷ answers) h zero (suc k) first second less is then =
    let told : a ≡ Answer.Close (CloseAnswer.Shut first) = same_Some a (Answer.Close (CloseAnswer.Shut first)) is in
    let now : (shut || shuts a) ≡ true = ap (λ (z : Answer). shut || shuts z) told ∙ or-true shut in
    none_after c (n + length (accepted_item e a)) calls answers (subst (λ (b : Bool). SendSideAnswers c (n + length (accepted_item e a)) b calls answers) now h.1) k second then
once c n shut (e ∷ calls) (a ∷ answers) h (suc j) (suc k) first second less is then = once c (n + length (accepted_item e a)) (shut || shuts a) calls answers h.1 j k first second (omega (arith, less)) is then

-- ---- the calls that a filter has chosen

abbrev Each : (count mark : ℕ) → (Entry → Bool) → List Entry → List Answer → Type 0
Each count mark f calls answers = (j : ℕ) → j < length calls → j < length answers → f (call_at calls j) ≡ true → IsSeen count mark (call_at calls j, Some (answer_at answers j))

-- an answer to a take is always seen
take_seen : (count mark g : ℕ) (e : Entry) (a : Answer) → IsAnswer Served.List (Chain.Take g) a → IsSeen count mark (e, Some a)
take_seen count mark g e a is = grind arith

-- ---- the senders' chain: what is marked is counted

module _ (c : Config) (s : State) (chains : Chains (lists c) s) {nodes : List ℕ} (whole : Whole c s nodes) (w : Holds (lists c) Chain.Send s) where
  abbrev k : Parts c s nodes
  k = whole.parts

  abbrev calls : List Entry
  calls = calls_on Chain.Send s.history

  abbrev answers : List Answer
  answers = answers_on Chain.Send s.history

  get_answer : (j : ℕ) → j < length answers → slice_get answers j ≡ Some (answer_at answers j)
  get_answer j less = slice_get-get_or answers j no_answer less

  not_idle : (p : ℕ) (job : Job) (service : Sending) → (s.stand p).phase ≡ Phase.Sending job service → p < passes (lists c)
  not_idle p job service stands = grind (arith, whole.posts.outside p)

  -- the answer of the call that a service with a decided answer serves
  module _ (job : Job) (service : Sending) (stands : (s.stand k.duty.e_pass).phase ≡ Phase.Sending job service) (two : (own : ℕ) → (post_of Chain.Send own (Phase.Sending job service)).stage ≡ 2) where
    p : ℕ
    p = k.duty.e_pass

    less : k.duty.e_pass < passes (lists c)
    less = not_idle k.duty.e_pass job service stands

    on : IsOn (lists c) Chain.Send k.duty.e_pass
    on = subst (λ (y : Chain). IsOn (lists c) y k.duty.e_pass) (sending_where (lists c) s chains k.duty.e_pass job service less stands).1 (on_chain (lists c) k.duty.e_pass less)

    there : (s.stand (pass_on (lists c) Chain.Send on.number)).phase ≡ Phase.Sending job service
    there = ap (λ (q : ℕ). (s.stand q).phase) (sym on.pass_is) ∙ stands

    mine : (ghost_of w).server ≡ on.number + 1
    mine = w.inv.server.server_is on.number on.inside (ap (λ (z : Phase). (post_of Chain.Send (s.stand (pass_on (lists c) Chain.Send on.number)).node z).rank) there)

    decided : (ghost_of w).answers ≡ (ghost_of w).marked + 1
    decided = w.inv.serving.decided on.number mine (ap (λ (z : Phase). (post_of Chain.Send (s.stand (pass_on (lists c) Chain.Send on.number)).node z).stage) there ∙ two (s.stand (pass_on (lists c) Chain.Send on.number)).node)

    pub inside : (ghost_of w).marked < length answers
    inside = omega (arith, decided)

    pub serves : HasSend (call_at calls (ghost_of w).marked) (answer_at answers (ghost_of w).marked) service
    serves = subst (λ (z : Phase). HasService Served.List Chain.Send (call_at calls (ghost_of w).marked) (answer_at answers (ghost_of w).marked) z) there (w.ties.served on.number mine)

  last_count : (count : ℕ) → Late (s.stand k.duty.e_pass).phase count → (slice_get answers (ghost_of w).marked ≡ Some (Answer.Send (SendAnswer.Accepted count)))
  last_count count (Late.last job node stands) =
      get_answer (ghost_of w).marked (inside job (Sending.WriteLast count node) stands (λ own. refl)) ∙ ap (λ (a : Answer). Some a) (serves job (Sending.WriteLast count node) stands (λ own. refl))
  last_count count (Late.then job node stands) =
      get_answer (ghost_of w).marked (inside job (Sending.WriteCount count node) stands (λ own. refl)) ∙ ap (λ (a : Answer). Some a) (serves job (Sending.WriteCount count node) stands (λ own. refl))

  last_shut : (total : ℕ) → Closing (s.stand k.duty.e_pass).phase total → (slice_get answers (ghost_of w).marked ≡ Some (Answer.Close (CloseAnswer.Shut total)))
  last_shut total (Closing.last job stands) =
      get_answer (ghost_of w).marked (inside job (Sending.WriteLastMark total) stands (λ own. refl)) ∙ ap (λ (a : Answer). Some a) (serves job (Sending.WriteLastMark total) stands (λ own. refl))
  last_shut total (Closing.then job stands) =
      get_answer (ghost_of w).marked (inside job (Sending.WriteShut total) stands (λ own. refl)) ∙ ap (λ (a : Answer). Some a) (serves job (Sending.WriteShut total) stands (λ own. refl))

  i : LInv c.capacity c.life (further c + 1) (queue_of s k.duty) (ghosts_at c s k)
  i = k.list

  count_seen : (j place : ℕ) → j < (ghost_of w).marked → slice_get answers j ≡ Some (Answer.Send (SendAnswer.Accepted place)) → place < counted s
  count_seen j place before is = elim (either_count c s k) [
    | inl now ↦ omega (arith, (within c 0 false calls answers k.ties.legal.sends whole.calls.senders j place is).1, count_now c s k now)
    | inr late ↦
        let seen : ℕ = (enq_at k.duty.e_call k.duty.from (s.stand k.duty.e_pass).phase).seen in
        let last = last_count (enq_at k.duty.e_call k.duty.from (s.stand k.duty.e_pass).phase).seen (late_at k.duty.e_call k.duty.from (s.stand k.duty.e_pass).phase late.0 late.1) in
        omega (
          arith,
          up c 0 false calls answers k.ties.legal.sends whole.calls.senders j (ghost_of w).marked place (enq_at k.duty.e_call k.duty.from (s.stand k.duty.e_pass).phase).seen before is last,
          i.request.seen_late late.0 (omega (arith, late.1)),
          count_late c s k late.0 late.1,
        )
  ]

  any_shut : (l : List Answer) (j total : ℕ) → slice_get l j ≡ Some (Answer.Close (CloseAnswer.Shut total)) → list_any shuts l ≡ true
  any_shut [] j total is = absurd (cc)
  any_shut (a ∷ l) zero total is = let told : a ≡ Answer.Close (CloseAnswer.Shut total) = cc in ap (λ (b : Bool). b || list_any shuts l) (ap shuts told)
  any_shut (a ∷ l) (suc j) total is = later (shuts a) (any_shut l j total is)
    where
      later : (b : Bool) → list_any shuts l ≡ true → (b || list_any shuts l) ≡ true
      later b so = grind arith

  mark_seen : (j total : ℕ) → j < (ghost_of w).marked → slice_get answers j ≡ Some (Answer.Close (CloseAnswer.Shut total)) → mark_of s ≡ 1
  mark_seen j total before is = elim (cases_lt (stage c s k) 16) [
    | inl early ↦ shut_now c s k (omega (arith, early)) (any_shut answers j total is)
    | inr late ↦ absurd (once c 0 false calls answers k.ties.legal.sends j (ghost_of w).marked total (enq_at k.duty.e_call k.duty.from (s.stand k.duty.e_pass).phase).seen before is (last_shut _ (closing_at k.duty.e_call k.duty.from (s.stand k.duty.e_pass).phase late)))
  ]

  one_seen : (j : ℕ) (e : Entry) (a : Answer) → j < (ghost_of w).marked → slice_get answers j ≡ Some a → IsSeen (counted s) (mark_of s) (e, Some a)
  one_seen j e (Answer.Send (SendAnswer.Accepted place)) before is = count_seen j place before is
  one_seen j e (Answer.Close (CloseAnswer.Shut total)) before is = mark_seen j total before is
  one_seen j e a before is = grind arith

  -- each answered call of a sender that is out of the chain
  seen_send : (n : ℕ) → (post_at Chain.Send (s.stand (pass_on (lists c) Chain.Send n))).rank ≤ 2 → Each (counted s) (mark_of s) (λ (e : Entry). is_pass (named (lists c) Chain.Send n) e.pass) (calls_on Chain.Send s.history) (answers_on Chain.Send s.history)
  seen_send n out j less inside its = one_seen j (call_at calls j) (answer_at answers j) (marked (lists c) Chain.Send s w n out j less its) (get_answer j inside)

-- of each chain
seen_on : (c : Config) (s : State) (chains : Chains (lists c) s) {nodes : List ℕ} (whole : Whole c s nodes) (x : Chain) (hold : Holds (lists c) x s) (n : ℕ) → (post_at x (s.stand (pass_on (lists c) x n))).rank ≤ 2
    → Each (counted s) (mark_of s) (λ (e : Entry). is_pass (named (lists c) x n) e.pass) (calls_on x s.history) (answers_on x s.history)
seen_on c s chains whole Chain.Send hold n out = seen_send c s chains whole hold n out
seen_on c s chains whole (Chain.Take g) hold n out =
    λ j less inside its. take_seen (counted s) (mark_of s) g (call_at (calls_on (Chain.Take g) s.history) j) (answer_at (answers_on (Chain.Take g) s.history) j) (hold.ties.answered j (omega (arith, inside)))

pub ended : (c : Config) (some : 0 < c.bound) (moves : List Move) (run : IsRun (lists c) moves) {nodes : List ℕ} (whole : Whole c (reached (lists c) moves) nodes) (p : ℕ) → p < passes (lists c) → IsOut ((reached (lists c) moves).stand p).phase
    → AreSeen c (counted (reached (lists c) moves)) (mark_of (reached (lists c) moves)) p (reached (lists c) moves).history
ended c some moves run whole p less out =
    let chains : Chains (lists c) (reached (lists c) moves) = chains_hold (lists c) some moves run in
    let on : IsOn (lists c) (chain_of c p) p = on_chain (lists c) p less in
    let low : (post_at (chain_of c p) ((reached (lists c) moves).stand (pass_on (lists c) (chain_of c p) on.number))).rank ≤ 2 =
    subst (λ (q : ℕ). (post_at (chain_of c p) ((reached (lists c) moves).stand q)).rank ≤ 2) on.pass_is (out_rank (chain_of c p) ((reached (lists c) moves).stand p).node ((reached (lists c) moves).stand p).phase out) in
    let hold : Holds (lists c) (chain_of c p) (reached (lists c) moves) = chains.holds (chain_of c p) (chain_is (lists c) p less) in
    let are : calls_of (pass_at c p) (reached (lists c) moves).history ≡ chosen (λ (e : Entry). is_pass (named (lists c) (chain_of c p) on.number) e.pass) (calls_on (chain_of c p) (reached (lists c) moves).history) (answers_on (chain_of c p) (reached (lists c) moves).history) =
    ap (λ (z : Pass). calls_of z (reached (lists c) moves).history) (ap (pass_at c) on.pass_is ∙ name_is (lists c) (chain_of c p) on.number on.inside)
    ∙ calls_one (lists c) (chain_of c p) (reached (lists c) moves).history on.number on.inside (not_other (lists c) some moves run (chain_of c p)) in
    subst (AllByRecursion (IsSeen (counted (reached (lists c) moves)) (mark_of (reached (lists c) moves)))) (sym are)
    (all_chosen (IsSeen (counted (reached (lists c) moves)) (mark_of (reached (lists c) moves))) (λ (e : Entry). is_pass (named (lists c) (chain_of c p) on.number) e.pass) (calls_on (chain_of c p) (reached (lists c) moves).history)
    (answers_on (chain_of c p) (reached (lists c) moves).history) (seen_on c (reached (lists c) moves) chains whole (chain_of c p) hold on.number low) (λ j less none its. tt))
