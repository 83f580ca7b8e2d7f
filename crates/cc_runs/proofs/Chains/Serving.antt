-- The combiner of a chain, and the call that it serves, after every run.
use Rattle.std.proofs.Common.{◌≡◌, ◌⊎◌, ℕ, ◌+◌, ◌-◌, ◌/◌, ◌<◌, ◌≤◌, ap, sym, ◌∙◌, subst, arith, inl, inr, Some, List, length}
use Rattle.std.specs.List.{slice_get}
use Rattle.std.proofs.lemmas.Option.{slice_get-get_or}
use Rattle.std.proofs.Math.Nat.{div-lt_iff_lt-mul}
use Rattle.cc_runs.specs.Names.{Config, Entry, Setting, Served, Chain, NodeField, Word, Job, Stand, Counting, Sending, Taking, Phase, Move}
use Rattle.cc_runs.specs.State.{State, chain_of}
use Rattle.cc_runs.specs.Words.{groups}
use Rattle.cc_runs.specs.Run.{IsRun, reached, passes, passes_of}
use Rattle.cc_runs.proofs.Chains.View.{pass_on, post_of, post_at, serving, asked_words, request_words, request_long}
use Rattle.cc_runs.proofs.Chains.Registers.{IsChainOf, IsChain, calls_on, answers_on, call_at, answer_at, no_call, HasSend, HasService}
use Rattle.cc_runs.proofs.Chains.Ties.{ghost_of, Holds}
use Rattle.cc_runs.proofs.Chains.Own.{counts_where, sends_where}
use Rattle.cc_runs.proofs.Chains.Others.{IsOther, IsOn, IsOff, which, sender_chain, receiver_chain}
use Rattle.cc_runs.proofs.Chains.Serve as serve
use Rattle.cc_runs.proofs.Chains.Runs.{chain_holds}

-- every chain that there is
pub record Chains (c : Setting) (s : State) : Type 0 where
  pub some : 0 < c.config.bound
  pub holds : (x : Chain) → IsChain c x → Holds c x s

pub chains_hold : (c : Setting) → 0 < c.config.bound → (moves : List Move) → IsRun c moves → Chains c (reached c moves)
chains_hold c some moves run = record { some = some; holds = λ x ok. chain_holds c x ok some moves run }

not_other : (x : Chain) → IsOther x x → ⊥
not_other x o = grind arith

pub taken_chain : (what : Served) (config : Config) (p : ℕ) → p < passes_of what config → config.senders ≤ p → IsChainOf what (groups config) (Chain.Take ((p - config.senders) / config.receivers))
taken_chain Served.List config p less far = grind (arith, div-lt_iff_lt-mul)
taken_chain Served.Counter config p less far = absurd (omega arith)

-- the chain of a pass
pub chain_is : (c : Setting) (p : ℕ) → p < passes c → IsChain c (chain_of c.config p)
chain_is c p less =
    grind (arith, sender_chain c.config p, receiver_chain c.config p, taken_chain c.served c.config p less)

on_by : (c : Setting) (p : ℕ) → IsOn c (chain_of c.config p) p ⊎ IsOff c (chain_of c.config p) p → IsOn c (chain_of c.config p) p
on_by c p (inl on) = on
on_by c p (inr off) = absurd (not_other (chain_of c.config p) off.other)

pub on_chain : (c : Setting) (p : ℕ) → p < passes c → IsOn c (chain_of c.config p) p
on_chain c p less = on_by c p (which c (chain_of c.config p) (chain_is c p less) p less)

-- the state of a combiner
abbrev pub Combines : Stand → Type 0
Combines at = (post_at Chain.Send at).rank ≡ 5

same_rank : (x y : Chain) (own : ℕ) (at : Phase) → (post_of x own at).rank ≡ (post_of y own at).rank
same_rank x y own at = grind arith

module _ (c : Setting) (s : State) (k : Chains c s) where
  -- one pass of a chain combines at most
  pub one_on : (x : Chain) → IsChain c x → (p q : ℕ) → IsOn c x p → IsOn c x q → Combines (s.stand p) → Combines (s.stand q) → p ≡ q
  one_on x ok p q on_p on_q a b =
      let w : Holds c x s = k.holds x ok in
      let first : (post_at x (s.stand (pass_on c x on_p.number))).rank ≡ 5 = subst (λ (z : ℕ). (post_at x (s.stand z)).rank ≡ 5) on_p.pass_is (same_rank x Chain.Send (s.stand p).node (s.stand p).phase ∙ a) in
      let second : (post_at x (s.stand (pass_on c x on_q.number))).rank ≡ 5 = subst (λ (z : ℕ). (post_at x (s.stand z)).rank ≡ 5) on_q.pass_is (same_rank x Chain.Send (s.stand q).node (s.stand q).phase ∙ b) in
      let same : on_p.number ≡ on_q.number = omega (arith, w.inv.server.server_is on_p.number on_p.inside first, w.inv.server.server_is on_q.number on_q.inside second) in
      on_p.pass_is ∙ ap (λ (z : ℕ). pass_on c x z) same ∙ sym on_q.pass_is

  pub one_combiner : (p q : ℕ) → p < passes c → q < passes c → chain_of c.config p ≡ chain_of c.config q → Combines (s.stand p) → Combines (s.stand q) → p ≡ q
  one_combiner p q pn qn same a b =
      one_on (chain_of c.config p) (chain_is c p pn) p q (on_chain c p pn) (subst (λ (y : Chain). IsOn c y q) (sym same) (on_chain c q qn)) a b

  -- what a combiner serves, on the chain x of it
  abbrev the_holds : (p : ℕ) → p < passes c → Holds c (chain_of c.config p) s
  the_holds p less = k.holds (chain_of c.config p) (chain_is c p less)

  serves_what : (p : ℕ) (less : p < passes c) → Combines (s.stand p) →
      HasService c.served (chain_of c.config p) (call_at (calls_on (chain_of c.config p) s.history) (ghost_of (the_holds p less)).marked) (answer_at (answers_on (chain_of c.config p) s.history) (ghost_of (the_holds p less)).marked) (s.stand p).phase
  serves_what p less five =
      let x : Chain = chain_of c.config p in
      let w : Holds c (chain_of c.config p) s = the_holds p less in
      let on : IsOn c (chain_of c.config p) p = on_chain c p less in
      let rank : (post_at (chain_of c.config p) (s.stand (pass_on c (chain_of c.config p) on.number))).rank ≡ 5 =
      subst (λ (z : ℕ). (post_at (chain_of c.config p) (s.stand z)).rank ≡ 5) on.pass_is (same_rank (chain_of c.config p) Chain.Send (s.stand p).node (s.stand p).phase ∙ five) in
      let mine : (ghost_of w).server ≡ on.number + 1 = w.inv.server.server_is on.number on.inside rank in
      subst (λ (z : ℕ). HasService c.served (chain_of c.config p) (call_at (calls_on (chain_of c.config p) s.history) (ghost_of w).marked) (answer_at (answers_on (chain_of c.config p) s.history) (ghost_of w).marked) (s.stand z).phase)
      (sym on.pass_is) (w.ties.served on.number mine)

  pub sending_where : (p : ℕ) (job : Job) (service : Sending) → p < passes c → (s.stand p).phase ≡ Phase.Sending job service → (c.served ≡ Served.List) × (chain_of c.config p ≡ Chain.Send)
  sending_where p job service less e =
      sends_where c.served (chain_of c.config p) (HasSend (call_at (calls_on (chain_of c.config p) s.history) (ghost_of (the_holds p less)).marked) (answer_at (answers_on (chain_of c.config p) s.history) (ghost_of (the_holds p less)).marked) service)
      (subst (λ (z : Phase). HasService c.served (chain_of c.config p) (call_at (calls_on (chain_of c.config p) s.history) (ghost_of (the_holds p less)).marked) (answer_at (answers_on (chain_of c.config p) s.history) (ghost_of (the_holds p less)).marked) z) e
      (serves_what p less (ap (λ (z : Phase). (post_of Chain.Send (s.stand p).node z).rank) e)))

  pub counting_where : (p : ℕ) (job : Job) (service : Counting) → p < passes c → (s.stand p).phase ≡ Phase.Counting job service → (c.served ≡ Served.Counter) × (chain_of c.config p ≡ Chain.Send)
  counting_where p job service less e =
      counts_where c.served (chain_of c.config p)
      (subst (λ (z : Phase). HasService c.served (chain_of c.config p) (call_at (calls_on (chain_of c.config p) s.history) (ghost_of (the_holds p less)).marked) (answer_at (answers_on (chain_of c.config p) s.history) (ghost_of (the_holds p less)).marked) z) e
      (serves_what p less (ap (λ (z : Phase). (post_of Chain.Send (s.stand p).node z).rank) e))).0

  -- one service of a side at most
  pub one_sending : (p q : ℕ) (job job2 : Job) (service service2 : Sending) → p < passes c → q < passes c → (s.stand p).phase ≡ Phase.Sending job service → (s.stand q).phase ≡ Phase.Sending job2 service2 → p ≡ q
  one_sending p q job job2 service service2 pn qn a b =
      one_combiner p q pn qn ((sending_where p job service pn a).1 ∙ sym (sending_where q job2 service2 qn b).1) (ap (λ (z : Phase). (post_of Chain.Send (s.stand p).node z).rank) a) (ap (λ (z : Phase). (post_of Chain.Send (s.stand q).node z).rank) b)

  pub one_taking : (p q : ℕ) (job job2 : Job) (service service2 : Taking) → p < passes c → q < passes c → chain_of c.config p ≡ chain_of c.config q → (s.stand p).phase ≡ Phase.Taking job service → (s.stand q).phase ≡ Phase.Taking job2 service2 → p ≡ q
  one_taking p q job job2 service service2 pn qn same a b =
      one_combiner p q pn qn same
      (ap (λ (z : Phase). (post_of Chain.Send (s.stand p).node z).rank) a) (ap (λ (z : Phase). (post_of Chain.Send (s.stand q).node z).rank) b)

  -- the request in service is that of the first call without an answer
  module _ (x : Chain) (ok : IsChain c x) (p : ℕ) (on : IsOn c x p) (at : Phase) (job : Job) (e : (s.stand p).phase ≡ at) (undecided : (own : ℕ) → post_of x own at ≡ serving own job 1 0) where
    w : Holds c x s
    w = k.holds x ok

    abbrev P : ℕ
    P = pass_on c x on.number

    here : s.stand (pass_on c x on.number) ≡ record { begun = (s.stand (pass_on c x on.number)).begun; node = (s.stand (pass_on c x on.number)).node; phase = at }
    here = λ i. record { begun = (s.stand (pass_on c x on.number)).begun; node = (s.stand (pass_on c x on.number)).node; phase = (ap (λ (z : ℕ). (s.stand z).phase) (sym on.pass_is) ∙ e) i }

    is_serving : post_at x (s.stand (pass_on c x on.number)) ≡ serving (s.stand (pass_on c x on.number)).node job 1 0
    is_serving = ap (λ (z : Stand). post_at x z) here ∙ undecided (s.stand (pass_on c x on.number)).node

    mine : (ghost_of (k.holds x ok)).server ≡ on.number + 1
    mine = (k.holds x ok).inv.server.server_is on.number on.inside (ap (λ z. z.rank) is_serving)

    pub even : length (answers_on x s.history) ≡ (ghost_of (k.holds x ok)).marked
    even = (k.holds x ok).inv.serving.undecided on.number mine (λ two. omega (arith, ap (λ z. z.stage) is_serving))

    pub next_call : slice_get (calls_on x s.history) (length (answers_on x s.history)) ≡ Some (call_at (calls_on x s.history) (length (answers_on x s.history)))
    next_call =
        let busy : (ghost_of (k.holds x ok)).marked < (ghost_of (k.holds x ok)).calls = (k.holds x ok).inv.serving.serving on.number mine (omega (arith, ap (λ z. z.stage) is_serving)) (omega (arith, ap (λ z. z.stage) is_serving)) in
        slice_get-get_or (calls_on x s.history) (length (answers_on x s.history)) no_call (omega (arith, even))

    pub next_service : (a : Entry) → a ≡ call_at (calls_on x s.history) (length (answers_on x s.history)) → HasService c.served x a (answer_at (answers_on x s.history) (length (answers_on x s.history))) at
    next_service a is =
        subst (λ (z : Entry). HasService c.served x z (answer_at (answers_on x s.history) (length (answers_on x s.history))) at) (sym is)
        (subst (λ (n : ℕ). HasService c.served x (call_at (calls_on x s.history) n) (answer_at (answers_on x s.history) n) at) (sym even)
        (subst (λ (z : Stand). HasService c.served x (call_at (calls_on x s.history) (ghost_of (k.holds x ok)).marked) (answer_at (answers_on x s.history) (ghost_of (k.holds x ok)).marked) z.phase) here ((k.holds x ok).ties.served on.number mine)))

    pub next_words : (j : ℕ) → j < request_long x (call_at (calls_on x s.history) (length (answers_on x s.history))) → request_words x (λ (f : NodeField). s.mem (Word.Node x job.round.at f)) j ≡ asked_words x (call_at (calls_on x s.history) (length (answers_on x s.history))) j
    next_words j less =
        serve.request_at c x ok k.some s on.number (s.stand (pass_on c x on.number)).begun (s.stand (pass_on c x on.number)).node on.inside (k.holds x ok) at job j here (undecided (s.stand (pass_on c x on.number)).node) (omega (arith, less, ap (λ (n : ℕ). request_long x (call_at (calls_on x s.history) n)) even))
        ∙ ap (λ (n : ℕ). asked_words x (call_at (calls_on x s.history) n) j) (sym even)
