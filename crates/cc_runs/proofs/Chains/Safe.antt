-- A step of a call on its chain finds its words, and no number of the chain leaves its range.
use Rattle.std.proofs.Common.{◌≡◌, ℕ, ◌+◌, ◌^◌, ◌<◌, ◌≤◌, ◌&&◌, nat_lt, refl, ap, sym, ◌∙◌, subst, arith, length, IsTrue, true, Bool}
use Rattle.std.proofs.lemmas.Bool.{cases_eq, lt-ltb}
use Rattle.cc_model.specs.Record.{Record}
use Rattle.cc_runs.specs.Names.{Answer, Setting, Chain, NodeField, Word, Stand, Round, Job, Sending, Phase}
use Rattle.cc_runs.specs.Codes.{tag_of, further_words, ret_of}
use Rattle.cc_runs.specs.Words.{groups, layout_of, is_node_field, exists}
use Rattle.cc_runs.specs.State.{State}
use Rattle.cc_runs.specs.Ready.{IsSafe, HasOpenCall, WhileUndecided, IsOpenAt}
use Rattle.cc_runs.proofs.Ranges.{InRange}
use Rattle.cc_runs.proofs.Bodies.{few_further}
use Rattle.cc_runs.proofs.Chains.View.{members, pass_on, post_of, post_at, send_stage}
use Rattle.cc_runs.proofs.Chains.Registers.{IsChain, calls_on, answers_on, call_at, answer_at, OnSend, OnTake, HasCall, HasService, HasRead}
use Rattle.cc_runs.proofs.Chains.Ties.{ghost_of, Holds, send_in}
use Rattle.cc_runs.proofs.Chains.Facts.{own_node}
use Rattle.cc_runs.proofs.Chains.Others.{group_in}

-- the words of a chain that there are
pub node_exists : (c : Setting) (x : Chain) → IsChain c x → (i : ℕ) (f : NodeField) → IsTrue (is_node_field f) → i ≤ members c x → IsTrue (exists (layout_of c.config) (Word.Node x i f))
node_exists c Chain.Send ok i f field low = ap (λ (b : Bool). b && is_node_field f) (lt-ltb i (c.config.senders + 1) (omega arith)) ∙ field
node_exists c (Chain.Take g) ok i f field low =
    let group : nat_lt g (groups c.config) ≡ true = lt-ltb g (groups c.config) (group_in c.served (groups c.config) g ok) in
    ap (λ (b : Bool). (b && nat_lt i (c.config.receivers + 1)) && is_node_field f) group ∙ ap (λ (b : Bool). b && is_node_field f) (lt-ltb i (c.config.receivers + 1) (omega arith)) ∙ field

-- a word of a body that its tag counts
pub four_words : (i tag : ℕ) → i ≤ further_words tag → IsTrue (nat_lt i 4)
four_words i tag most = lt-ltb i 4 (omega (arith, few_further tag))

pub on_take : (x : Chain) (A : Type 0) → OnTake x A → A
on_take x A a = grind arith

pub tail_exists : (c : Setting) (x : Chain) → IsChain c x → IsTrue (exists (layout_of c.config) (Word.Tail x))
tail_exists c Chain.Send ok = refl
tail_exists c (Chain.Take g) ok = lt-ltb g (groups c.config) (group_in c.served (groups c.config) g ok)

pub few_members : (c : Setting) (x : Chain) → InRange c.config → members c x ≤ 64
few_members c Chain.Send r = r.senders.1
few_members c (Chain.Take g) r = r.receivers.1

-- a place of a service, if the served object has a word in it
abbrev pub IsService : Phase → Type 0
IsService (Phase.Counting job service) = Unit {0}
IsService (Phase.Sending job service) = Unit {0}
IsService (Phase.Taking job service) = Unit {0}
IsService _ = ⊥

open_call : (x : Chain) (h : Record) → length (answers_on x h) < length (calls_on x h) → HasOpenCall h x
open_call x h less = grind arith

pub send_high : (service : Sending) → 1 ≤ send_stage service
send_high service = (send_in service).0

pub send_low : (service : Sending) → send_stage service ≤ 2
send_low service = (send_in service).1

module _ (c : Setting) (x : Chain) (ok : IsChain c x) (r : InRange c.config) (s : State) (p own begun : ℕ) (inside : p < members c x) (w : Holds c x s) where
  abbrev At : Phase → Type 0
  At at = s.stand (pass_on c x p) ≡ record { begun = begun; node = own; phase = at }

  seen : (at : Phase) → At at → post_at x (s.stand (pass_on c x p)) ≡ post_of x own at
  seen at e = ap (λ (z : Stand). post_at x z) e

  pub own_in : (at : Phase) → At at → own ≤ members c x
  own_in at e = subst (λ (z : ℕ). z ≤ members c x) (ap (λ z. z.node) (seen at e) ∙ own_node x own at) (w.inv.nodes.node_in p inside)

  chain_in : (k : ℕ) → (ghost_of w).marked ≤ k → k ≤ (ghost_of w).calls → (ghost_of w).chain k ≤ members c x
  chain_in k a b = grind (arith, cases_eq k (ghost_of w).calls, w.inv.nodes.last_in, w.inv.calls.open_node k, w.inv.calls.open_pass k, w.inv.nodes.node_in ((ghost_of w).pass_of k))

  pub put_in : (at : Phase) → At at → (post_of x own at).rank ≡ 3 → (post_of x own at).put ≤ members c x
  put_in at e three =
      let is : post_at x (s.stand (pass_on c x p)) ≡ post_of x own at = seen at e in
      let rank : (post_at x (s.stand (pass_on c x p))).rank ≡ 3 = ap (λ z. z.rank) is ∙ three in
      omega (arith, ap (λ z. z.put) is, w.inv.links.put_is p inside rank, chain_in ((ghost_of w).at p + 1) (omega (arith, w.inv.passes.early p inside rank)) (omega (arith, w.inv.passes.at_in p inside (omega (arith, rank)))))

  pub me : (at : Phase) → At at → (post_of x own at).rank ≡ 5 → (ghost_of w).server ≡ p + 1
  me at e five = w.inv.server.server_is p inside (ap (λ z. z.rank) (seen at e) ∙ five)

  pub target_in : (at : Phase) → At at → (post_of x own at).rank ≡ 5 → (post_of x own at).target ≤ members c x
  target_in at e five =
      let mine : (ghost_of w).server ≡ p + 1 = me at e five in
      omega (arith, ap (λ z. z.target) (seen at e), w.inv.server.server_target p mine, chain_in (ghost_of w).marked (omega arith) (omega (arith, w.inv.calls.in_order, w.inv.calls.in_order2)))

  pub served_in : (at : Phase) → At at → (post_of x own at).rank ≡ 5 → (post_of x own at).stage ≤ 2 → (post_of x own at).served < c.config.bound
  served_in at e five low = omega (arith, ap (λ z. z.served) (seen at e), w.inv.server.server_bound p (me at e five) (omega (arith, ap (λ z. z.stage) (seen at e))))

  pub next_in : (at : Phase) (next : ℕ) → At at → (post_of x own at).rank ≡ 5 → 1 ≤ (post_of x own at).stage → (post_of x own at).stage ≤ 2 → (post_of x own at).next ≡ next + 1 → next ≤ members c x
  next_in at next e five low high is =
      let mine : (ghost_of w).server ≡ p + 1 = me at e five in
      let stage : (post_at x (s.stand (pass_on c x p))).stage ≡ (post_of x own at).stage = ap (λ z. z.stage) (seen at e) in
      let more : (ghost_of w).marked < (ghost_of w).calls = w.inv.serving.serving p mine (omega (arith, stage)) (omega (arith, stage)) in
      omega (arith, ap (λ z. z.next) (seen at e), w.inv.serving.serving_next p mine (omega (arith, stage)) (omega (arith, stage)), chain_in ((ghost_of w).marked + 1) (omega arith) (omega arith))

  -- the link that a combiner reads
  pub link_in : (round : Round) → At (Phase.ReadNext round) → s.mem (Word.Node x round.at NodeField.Next) ≤ members c x + 1
  link_in round e =
      let is : post_at x (s.stand (pass_on c x p)) ≡ post_of x own (Phase.ReadNext round) = seen (Phase.ReadNext round) e in
      let mine : (ghost_of w).server ≡ p + 1 = me (Phase.ReadNext round) e refl in
      let target : round.at ≡ (ghost_of w).chain (ghost_of w).marked = sym (ap (λ z. z.target) is) ∙ w.inv.server.server_target p mine in
      grind (
        arith,
        cases_eq (ghost_of w).marked (ghost_of w).calls,
        w.inv.links.last_next,
        target,
        w.inv.calls.in_order,
        w.inv.calls.in_order2,
        w.inv.calls.open_pass (ghost_of w).marked,
        w.inv.calls.open_at (ghost_of w).marked,
        w.inv.calls.open_low (ghost_of w).marked,
        w.inv.calls.open_node (ghost_of w).marked,
        cases_eq (post_at x (s.stand (pass_on c x ((ghost_of w).pass_of (ghost_of w).marked)))).rank 3,
        w.inv.links.ready_next ((ghost_of w).pass_of (ghost_of w).marked),
        w.inv.links.linked ((ghost_of w).pass_of (ghost_of w).marked),
        chain_in ((ghost_of w).marked + 1),
      )

  -- a combiner that has served nobody yet finds its own node linked
  pub own_link_in : (at : ℕ) → At (Phase.ReadNext record { at = at; served = 0 }) → 0 < s.mem (Word.Node x at NodeField.Next)
  own_link_in at e =
      let is : post_at x (s.stand (pass_on c x p)) ≡ post_of x own (Phase.ReadNext record { at = at; served = 0 }) = seen (Phase.ReadNext record { at = at; served = 0 }) e in
      let mine : (ghost_of w).server ≡ p + 1 = me (Phase.ReadNext record { at = at; served = 0 }) e refl in
      let rank : (post_at x (s.stand (pass_on c x p))).rank ≡ 5 = ap (λ z. z.rank) is in
      let first : (ghost_of w).at p ≡ (ghost_of w).marked = omega (arith, ap (λ z. z.served) is, w.inv.server.server_at p mine (omega (arith, ap (λ z. z.stage) is))) in
      let more : (ghost_of w).marked < (ghost_of w).calls = omega (arith, w.inv.passes.at_in p inside (omega (arith, rank))) in
      let its : (ghost_of w).pass_of (ghost_of w).marked ≡ p = ap (ghost_of w).pass_of (sym first) ∙ w.inv.passes.at_is p inside (omega (arith, rank)) in
      let node_is : (post_at x (s.stand (pass_on c x p))).node ≡ at =
      ap (λ (z : ℕ). (post_at x (s.stand (pass_on c x z))).node) (sym its) ∙ w.inv.calls.open_node (ghost_of w).marked (omega arith) more ∙ sym (w.inv.server.server_target p mine) ∙ ap (λ z. z.target) is in
      omega (arith, w.inv.links.linked p inside (omega (arith, rank)) (omega arith), ap (λ (z : ℕ). s.mem (Word.Node x z NodeField.Next)) node_is)

  -- the request in service has no answer before the step that decides it
  pub unanswered : (at : Phase) → At at → (post_of x own at).rank ≡ 5 → (post_of x own at).stage ≡ 1 → length (answers_on x s.history) < length (calls_on x s.history)
  unanswered at e five one =
      let mine : (ghost_of w).server ≡ p + 1 = me at e five in
      let stage : (post_at x (s.stand (pass_on c x p))).stage ≡ 1 = ap (λ z. z.stage) (seen at e) ∙ one in
      omega (arith, w.inv.serving.undecided p mine (λ two. omega (arith, stage)), w.inv.serving.serving p mine (omega (arith, stage)) (omega (arith, stage)))

  -- and from that step on the call that is marked next has this answer
  pub answer_in : (at : Phase) → At at → (post_of x own at).rank ≡ 5 → (post_of x own at).stage ≡ 2 → (ghost_of w).marked < length (answers_on x s.history)
  answer_in at e five two = omega (arith, w.inv.serving.decided p (me at e five) (ap (λ z. z.stage) (seen at e) ∙ two))

  abbrev Fit : Type 0
  Fit = (k : ℕ) → k < length (answers_on x s.history) → ret_of c.served (answer_at (answers_on x s.history) k) < 2 ^ 64

  told_fits : (job : Job) (told : Answer) → At (Phase.WriteAnswer job told) → Fit → ret_of c.served told < 2 ^ 64
  told_fits job told e fit =
      let is : answer_at (answers_on x s.history) (ghost_of w).marked ≡ told = subst (λ (z : Stand). HasService c.served x (call_at (calls_on x s.history) (ghost_of w).marked) (answer_at (answers_on x s.history) (ghost_of w).marked) z.phase) e (w.ties.served p (me (Phase.WriteAnswer job told) e refl)) in
      subst (λ (z : Answer). ret_of c.served z < 2 ^ 64) is (fit (ghost_of w).marked (answer_in (Phase.WriteAnswer job told) e refl refl))

  pub safe_at : (at : Phase) → At at → Fit → (IsService at → IsSafe c s x own at) → IsSafe c s x own at
  safe_at Phase.Idle e fit served = record { word = tail_exists c x ok; numbers = tt }
  safe_at (Phase.ResetNext call) e fit served = record { word = node_exists c x ok own NodeField.Next refl (own_in (Phase.ResetNext call) e); numbers = tt }
  safe_at (Phase.ResetState call) e fit served = record { word = node_exists c x ok own NodeField.State refl (own_in (Phase.ResetState call) e); numbers = tt }
  safe_at (Phase.Exchange call) e fit served = record { word = tail_exists c x ok; numbers = (omega (arith, w.inv.nodes.tail_is), omega (arith, own_in (Phase.Exchange call) e, few_members c x r)) }
  safe_at (Phase.WriteTag put request) e fit served = record { word = node_exists c x ok own NodeField.Tag refl (own_in (Phase.WriteTag put request) e); numbers = tt }
  safe_at (Phase.WriteBody put request i) e fit served =
      let has : OnSend x × (i ≤ further_words request.tag) = subst (λ (z : Stand). HasCall c x p z.phase) e (w.ties.begun p inside) in
      record { word = node_exists c x ok own (NodeField.Body i) (four_words i request.tag has.1) (own_in (Phase.WriteBody put request i) e); numbers = tt }
  safe_at (Phase.Link put) e fit served = record { word = node_exists c x ok own NodeField.Next refl (own_in (Phase.Link put) e); numbers = omega (arith, put_in (Phase.Link put) e refl, few_members c x r) }
  safe_at Phase.ReadState e fit served = record { word = node_exists c x ok own NodeField.State refl (own_in Phase.ReadState e); numbers = tt }
  safe_at (Phase.ReadNext round) e fit served = record { word = node_exists c x ok round.at NodeField.Next refl (target_in (Phase.ReadNext round) e refl); numbers = tt }
  safe_at (Phase.WriteAnswer job told) e fit served = record { word = node_exists c x ok job.round.at NodeField.Ret refl (target_in (Phase.WriteAnswer job told) e refl); numbers = told_fits job told e fit }
  safe_at (Phase.WriteAnswerTag job item) e fit served = record { word = node_exists c x ok job.round.at NodeField.Tag refl (target_in (Phase.WriteAnswerTag job item) e refl); numbers = tt }
  safe_at (Phase.WriteAnswerBody job item i) e fit served =
      let has = on_take x _ (subst (λ (z : Stand). HasService c.served x (call_at (calls_on x s.history) (ghost_of w).marked) (answer_at (answers_on x s.history) (ghost_of w).marked) z.phase) e (w.ties.served p (me (Phase.WriteAnswerBody job item i) e refl))) in
      record { word = node_exists c x ok job.round.at (NodeField.Body i) (four_words i (tag_of item) has.1) (target_in (Phase.WriteAnswerBody job item i) e refl); numbers = tt }
  safe_at (Phase.MarkDone job) e fit served = record { word = node_exists c x ok job.round.at NodeField.State refl (target_in (Phase.MarkDone job) e refl); numbers = omega (arith, served_in (Phase.MarkDone job) e refl (omega arith), r.bound) }
  safe_at (Phase.HandOver at) e fit served = record { word = node_exists c x ok at NodeField.State refl (target_in (Phase.HandOver at) e refl); numbers = tt }
  safe_at Phase.ReadAnswer e fit served = record { word = node_exists c x ok own NodeField.Ret refl (own_in Phase.ReadAnswer e); numbers = tt }
  safe_at (Phase.ReadAnswerTag at) e fit served = record { word = node_exists c x ok own NodeField.Tag refl (own_in (Phase.ReadAnswerTag at) e); numbers = tt }
  safe_at (Phase.ReadAnswerBody at i) e fit served =
      let has = on_take x _ (subst (λ (z : Stand). HasRead c.served x (answer_at (answers_on x s.history) ((ghost_of w).at p)) z.phase) e (w.ties.read p inside)) in
      record { word = node_exists c x ok own (NodeField.Body i) (four_words i at.tag has.3) (own_in (Phase.ReadAnswerBody at i) e); numbers = tt }
  safe_at (Phase.Finished told) e fit served = record { word = tail_exists c x ok; numbers = tt }
  safe_at at e fit served = grind arith

  send_open : (job : Job) (service : Sending) → At (Phase.Sending job service) → WhileUndecided (Phase.Sending job service) (HasOpenCall s.history x)
  send_open job (Sending.WriteLastMark total) e = tt
  send_open job (Sending.WriteShut total) e = tt
  send_open job (Sending.WriteLast at on) e = tt
  send_open job (Sending.WriteCount at on) e = tt
  send_open job (Sending.WriteCursor at on) e = tt
  send_open job Sending.ReadTag e = open_call x s.history (unanswered (Phase.Sending job Sending.ReadTag) e refl refl)
  send_open job service e = open_call x s.history (unanswered (Phase.Sending job service) e refl refl)

  pub open_at : (at : Phase) → At at → IsOpenAt s.history x at
  open_at at e = grind (arith, open_call x s.history, unanswered, send_open)
