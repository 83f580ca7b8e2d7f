-- The laws of the nodes of the chains, from the invariant of each chain.
use Rattle.std.proofs.Common.{◌≡◌, ◌≢◌, ◌⊎◌, ℕ, zero, suc, ◌+◌, ◌*◌, ◌<◌, ◌≤◌, refl, ap, sym, ◌∙◌, subst, ⊎_elim, inl, inr, arith}
use Rattle.std.proofs.lemmas.Bool.{cases_lt, cases_eq}
use Rattle.cc_runs.specs.Names.{Setting, Chain, NodeField, Word, Phase}
use Rattle.cc_runs.specs.State.{State, chain_of, word_of}
use Rattle.cc_runs.specs.Lines.{operation}
use Rattle.cc_runs.specs.Run.{reached, passes}
use Rattle.cc_runs.specs.ChainLaws.{IsCombining, IsEntering}
use Rattle.cc_runs.specs.NodeLaws.{IsAsking, IsAnswering, IsSending, HasNode, IsAwaited, IsWaitedFor, NodeLaws, NodeLawsOfRuns}
use Rattle.cc_runs.proofs.Chains.Ties.{ghost_of}
use Rattle.cc_runs.proofs.Ranges.{in_range}
use Rattle.cc_runs.proofs.Combining.Chain.{Post, Ghost, Chain as Seen}
use Rattle.cc_runs.proofs.Combining.Invariant.{Inv}
use Rattle.cc_runs.proofs.Combining.Apart.{node_chain, node_apart, reads_zero}
use Rattle.cc_runs.proofs.Chains.View.{post_of, members, pass_on, view}
use Rattle.cc_runs.proofs.Chains.Registers.{IsChain}
use Rattle.cc_runs.proofs.Chains.Facts.{own_node}
use Rattle.cc_runs.proofs.Chains.Others.{IsOn, sender_chain, receiver_chain, group_is}
use Rattle.cc_runs.proofs.Chains.Opening.{member_in}
use Rattle.cc_runs.proofs.Chains.Touched.{Touches, touches}
use Rattle.cc_runs.proofs.Chains.Serving.{Chains, chains_hold, chain_is, on_chain, sending_where, counting_where}

-- ---- ranks

rank_combining : (x : Chain) (own : ℕ) (at : Phase) → (post_of x own at).rank ≡ 5 → IsCombining at
rank_combining x own at e = grind arith

rank_asking : (x : Chain) (own : ℕ) (at : Phase) → 3 ≤ (post_of x own at).rank → (post_of x own at).rank ≤ 4 → IsAsking at
rank_asking x own at low high = grind arith

asking_rank : (x : Chain) (own : ℕ) (at : Phase) → IsAsking at → ((post_of x own at).rank ≡ 3) ⊎ ((post_of x own at).rank ≡ 4)
asking_rank x own at a = grind arith

rank_linked : (x : Chain) (own : ℕ) (at : Phase) → (post_of x own at).rank ≡ 4 → at ≡ Phase.ReadState
rank_linked x own at e = grind arith

entering_rank : (x : Chain) (own : ℕ) (at : Phase) → IsEntering at → (post_of x own at).rank ≡ 3
entering_rank x own at a = grind arith

-- a combiner that answers a request has decided its answer
record AnswersAt (p : Post) (n : ℕ) : Type 0 where
  pub rank : p.rank ≡ 5
  pub stage : p.stage ≡ 2
  pub target : p.target ≡ n

answers_at : (x : Chain) (own n : ℕ) (at : Phase) → IsAnswering at n → AnswersAt (post_of x own at) n
answers_at x own n (Phase.WriteAnswer job told) a = record { rank = refl; stage = refl; target = a }
answers_at x own n (Phase.WriteAnswerTag job item) a = record { rank = refl; stage = refl; target = a }
answers_at x own n (Phase.WriteAnswerBody job item i) a = record { rank = refl; stage = refl; target = a }
answers_at x own n (Phase.MarkDone job) a = record { rank = refl; stage = refl; target = a }
answers_at x own n _ a = absurd a

-- the pass of a number on a chain is on it
on_number : (c : Setting) (x : Chain) → IsChain c x → (n : ℕ) → n < members c x → chain_of c.config (pass_on c x n) ≡ x
on_number c Chain.Send ok n less = sender_chain c.config n less
on_number c (Chain.Take g) ok n less =
    receiver_chain c.config (c.config.senders + (g * c.config.receivers + n)) (omega arith) ∙ ap (λ (z : ℕ). Chain.Take z) (group_is c.config g n less)

zero_one : (z : ℕ) → z ≡ 0 → z ≡ 1 → ⊥
zero_one z a b = omega (arith, a, b)

-- ---- a chain of a state

module _ (c : Setting) (s : State) (k : Chains c s) (x : Chain) (ok : IsChain c x) where
  abbrev g : Ghost
  g = (ghost_of (k.holds x ok))

  abbrev v : Seen
  v = view c x s

  inv : Inv (members c x) c.config.bound (view c x s) (ghost_of (k.holds x ok))
  inv = (k.holds x ok).inv

  abbrev state : ℕ → ℕ
  state n = s.mem (Word.Node x n NodeField.State)

  -- a pass of the chain, as the chain sees it
  post_is : (p : ℕ) (on : IsOn c x p) → v.post on.number ≡ post_of x (s.stand p).node (s.stand p).phase
  post_is p on = ap (λ (z : ℕ). post_of x (s.stand z).node (s.stand z).phase) (sym on.pass_is)

  node_is : (p : ℕ) (on : IsOn c x p) → (v.post on.number).node ≡ (s.stand p).node
  node_is p on = ap (λ (z : Post). z.node) (post_is p on) ∙ own_node x (s.stand p).node (s.stand p).phase

  has_node : (q : ℕ) → q < members c x → HasNode c s.mem s.stand x (v.post q).node (pass_on c x q)
  has_node q inside = (member_in c x ok q inside, on_number c x ok q inside, sym (own_node x (s.stand (pass_on c x q)).node (s.stand (pass_on c x q)).phase))

  -- a call that isn't linked is among the open ones, and its node has the state 1, or 0 if it is the first of them
  module _ (n : ℕ) (inside : n < members c x) (three : (v.post n).rank ≡ 3) where
    at_in : g.at n < g.calls
    at_in = inv.passes.at_in n inside (omega (arith, three))

    low : g.marked ≤ g.at n
    low = inv.passes.early n inside three

    place : (v.post n).node ≡ g.chain (g.at n)
    place = node_chain (members c x) c.config.bound (view c x s) (ghost_of (k.holds x ok)) inv n inside (omega (arith, three)) low

    later_one : g.marked < g.at n → state (v.post n).node ≡ 1
    later_one later = ap state place ∙ inv.states.waiting (g.at n) later (omega (arith, at_in))

    by_server : (z : ℕ) → g.server ≡ z → g.at n ≡ g.marked → state (v.post n).node ≤ 1
    by_server zero none first =
        let free : state (g.chain g.marked) ≡ 0 = inv.states.free_state none in
        omega (arith, ap state place, ap (λ (z : ℕ). state (g.chain z)) first, free)
    by_server (suc q) is first =
        let server : g.server ≡ q + 1 = omega (arith, is) in
        let five : (v.post q).rank ≡ 5 = inv.server.server_rank q server in
        let most : g.at q ≤ g.marked = inv.server.server_low q server in
        let its : g.pass_of (g.at q) ≡ q = inv.passes.at_is q (inv.server.server_in q server) (omega (arith, five)) in
        let mine : g.pass_of (g.at n) ≡ n = inv.passes.at_is n inside (omega (arith, three)) in
        ⊎_elim
        (λ (before : g.at q < g.marked).
        let one : state (g.chain g.marked) ≡ 1 = inv.states.busy_state q server before in
        omega (arith, ap state place, ap (λ (z : ℕ). state (g.chain z)) first, one))
        (λ (not_before : g.marked ≤ g.at q).
        let same_place : g.at q ≡ g.at n = omega (arith, most, not_before, first) in
        let one_pass : q ≡ n = sym its ∙ ap g.pass_of same_place ∙ mine in
        absurd (differ (v.post q).rank five (ap (λ (z : ℕ). (v.post z).rank) one_pass ∙ three)))
        (cases_lt (g.at q) g.marked)
      where
        differ : (z : ℕ) → z ≡ 5 → z ≡ 3 → ⊥
        differ z five three = omega (arith, five, three)

    entering_low : state (v.post n).node ≤ 1
    entering_low = ⊎_elim
        (λ (later : g.marked < g.at n). omega (arith, later_one later))
        (λ (not_later : g.at n ≤ g.marked). by_server g.server refl (omega (arith, low, not_later)))
        (cases_lt g.marked (g.at n))

  -- the only node of a call whose state may be 0 is that of the first one that isn't marked
  zero_at : (n : ℕ) → n < members c x → ((v.post n).rank ≡ 3) ⊎ ((v.post n).rank ≡ 4) → state (v.post n).node ≡ 0 → g.at n ≡ g.marked
  zero_at n inside (inr four) nil = (reads_zero (members c x) c.config.bound (view c x s) (ghost_of (k.holds x ok)) inv n inside four nil).0
  zero_at n inside (inl three) nil = ⊎_elim
      (λ (later : g.marked < g.at n). absurd (zero_one (state (v.post n).node) nil (later_one n inside three later)))
      (λ (not_later : g.at n ≤ g.marked). omega (arith, low n inside three, not_later))
      (cases_lt g.marked (g.at n))

  -- two nodes of which this is true are one
  module _ (ons : (q : ℕ) → q < passes c → chain_of c.config q ≡ x → IsOn c x q) (p n : ℕ) (on : IsOn c x p) where
    one_zero : state n ≡ 0 → IsAwaited c s.mem s.stand x n → (s.stand p).phase ≡ Phase.ReadState → state (s.stand p).node ≡ 0 → (s.stand p).node ≡ n
    one_zero nil awaited reads free =
        let four : (v.post on.number).rank ≡ 4 = ap (λ (z : Post). z.rank) (post_is p on) ∙ ap (λ (z : Phase). (post_of x (s.stand p).node z).rank) reads in
        let mine : g.at on.number ≡ g.marked = zero_at on.number on.inside (inr four) (ap state (node_is p on) ∙ free) in
        let at_in : g.at on.number < g.calls = inv.passes.at_in on.number on.inside (omega (arith, four)) in
        ⊎_elim
        (λ (tail : s.mem (Word.Tail x) ≡ n + 1).
        let last : n ≡ g.chain g.calls = omega (arith, tail, inv.nodes.tail_is) in
        let one : state (g.chain g.calls) ≡ 1 = inv.states.waiting g.calls (omega (arith, at_in, mine)) (omega arith) in
        absurd (zero_one (state n) nil (ap state last ∙ one)))
        (λ (its : (q : ℕ) × HasNode c s.mem s.stand x n q × IsAsking (s.stand q).phase).
        let on_q : IsOn c x its.0 = ons its.0 its.1.0 its.1.1 in
        let rank : ((v.post on_q.number).rank ≡ 3) ⊎ ((v.post on_q.number).rank ≡ 4) =
        subst (λ (z : Post). (z.rank ≡ 3) ⊎ (z.rank ≡ 4)) (sym (post_is its.0 on_q)) (asking_rank x (s.stand its.0).node (s.stand its.0).phase its.2) in
        let other : g.at on_q.number ≡ g.marked = zero_at on_q.number on_q.inside rank (ap state (node_is its.0 on_q ∙ its.1.2) ∙ nil) in
        let linked : 3 ≤ (v.post on_q.number).rank = ⊎_elim (λ (e : (v.post on_q.number).rank ≡ 3). omega (arith, e)) (λ (e : (v.post on_q.number).rank ≡ 4). omega (arith, e)) rank in
        let same : on.number ≡ on_q.number = sym (inv.passes.at_is on.number on.inside (omega (arith, four))) ∙ ap g.pass_of (mine ∙ sym other) ∙ inv.passes.at_is on_q.number on_q.inside linked in
        sym (node_is p on) ∙ ap (λ (z : ℕ). (v.post z).node) same ∙ node_is its.0 on_q ∙ its.1.2)
        awaited

    -- where a combiner hands over
    module _ (hands : (s.stand p).phase ≡ Phase.HandOver n) where
      post_hand : v.post on.number ≡ post_of x (s.stand p).node (Phase.HandOver n)
      post_hand = post_is p on ∙ ap (λ (z : Phase). post_of x (s.stand p).node z) hands

      server : g.server ≡ on.number + 1
      server = inv.server.server_is on.number on.inside (ap (λ (z : Post). z.rank) post_hand)

      past : g.at on.number < g.marked
      past = inv.server.server_past on.number server (ap (λ (z : Post). z.stage) post_hand)

      head : n ≡ g.chain g.marked
      head = sym (ap (λ (z : Post). z.target) post_hand) ∙ inv.server.server_target on.number server

      hands_one : state n ≡ 1
      hands_one = ap state head ∙ inv.states.busy_state on.number server past

      most : g.marked ≤ g.calls
      most = omega (arith, inv.calls.in_order, inv.calls.in_order2)

      -- the pass of the first call that isn't marked asks
      asks : g.marked < g.calls → IsAsking (s.stand (pass_on c x (g.pass_of g.marked))).phase
      asks more =
          let n : ℕ = g.pass_of g.marked in
          rank_asking x (s.stand (pass_on c x n)).node (s.stand (pass_on c x n)).phase (inv.calls.open_low g.marked (omega arith) more)
          (by_rank more (v.post n).rank refl (inv.calls.open_high g.marked (omega arith) more))
        where
          by_rank : g.marked < g.calls → (z : ℕ) → (v.post (g.pass_of g.marked)).rank ≡ z → z ≤ 5 → z ≤ 4
          by_rank more z is high = ⊎_elim
              (λ (e : z ≡ 5).
              let same : g.pass_of g.marked ≡ on.number = omega (arith, server, inv.server.server_is (g.pass_of g.marked) (inv.calls.open_pass g.marked (omega arith) more) (is ∙ e)) in
              absurd (too_low (ap g.at (sym same) ∙ inv.calls.open_at g.marked (omega arith) more) past))
              (λ (ne : z ≡ 5 → ⊥). below z high ne) (cases_eq z 5)
            where
              too_low : g.at on.number ≡ g.marked → g.at on.number < g.marked → ⊥
              too_low a b = omega (arith, a, b)

              below : (z : ℕ) → z ≤ 5 → (z ≡ 5 → ⊥) → z ≤ 4
              below z high ne = grind (arith, high, ne)

      hands_asking : (q : ℕ) → HasNode c s.mem s.stand x n q → IsAsking (s.stand q).phase
      hands_asking q has =
          let on_q : IsOn c x q = ons q has.0 has.1 in
          ⊎_elim
          (λ (more : g.marked < g.calls). ⊎_elim
          (λ (e : g.pass_of g.marked ≡ on_q.number).
          subst (λ (z : ℕ). IsAsking (s.stand z).phase) (ap (λ (z : ℕ). pass_on c x z) e ∙ sym on_q.pass_is) (asks more))
          (λ (ne : g.pass_of g.marked ≡ on_q.number → ⊥). absurd (away q has on_q (λ more' e. ne e))) (cases_eq (g.pass_of g.marked) on_q.number))
          (λ (end : g.calls ≤ g.marked). absurd (away q has on_q (λ more e. too_few more end)))
          (cases_lt g.marked g.calls)
        where
          too_few : g.marked < g.calls → g.calls ≤ g.marked → ⊥
          too_few a b = omega (arith, a, b)

          away : (q : ℕ) → HasNode c s.mem s.stand x n q → (on_q : IsOn c x q) → (g.marked < g.calls → g.pass_of g.marked ≢ on_q.number) → ⊥
          away q has on_q ne =
              node_apart (members c x) c.config.bound (view c x s) (ghost_of (k.holds x ok)) inv on_q.number g.marked on_q.inside (omega arith) most ne (sym head ∙ sym has.2 ∙ sym (node_is q on_q))

      hands_awaited : IsAwaited c s.mem s.stand x n
      hands_awaited = ⊎_elim
          (λ (more : g.marked < g.calls).
          let n : ℕ = g.pass_of g.marked in
          let has : HasNode c s.mem s.stand x (v.post n).node (pass_on c x n) = has_node n (inv.calls.open_pass g.marked (omega arith) more) in
          inr (pass_on c x n, (has.0, has.1, has.2 ∙ inv.calls.open_node g.marked (omega arith) more ∙ sym head), asks more))
          (λ (end : g.calls ≤ g.marked). inl (inv.nodes.tail_is ∙ ap (λ (z : ℕ). z + 1) (ap g.chain (omega (arith, most, end)) ∙ sym head)))
          (cases_lt g.marked g.calls)

    -- whom a combiner answers
    module _ (answers : IsAnswering (s.stand p).phase n) (other : (s.stand p).node ≢ n) where
      at : AnswersAt (v.post on.number) n
      at = subst (λ (z : Post). AnswersAt z n) (sym (post_is p on)) (answers_at x (s.stand p).node n (s.stand p).phase answers)

      serves : g.server ≡ on.number + 1
      serves = inv.server.server_is on.number on.inside at.rank

      first : n ≡ g.chain g.marked
      first = sym at.target ∙ inv.server.server_target on.number serves

      some : g.marked < g.calls
      some = inv.serving.serving on.number serves (omega (arith, at.stage)) (omega (arith, at.stage))

      abbrev its : ℕ
      its = g.pass_of g.marked

      its_node : (v.post its).node ≡ n
      its_node = inv.calls.open_node g.marked (omega arith) some ∙ sym first

      not_own : its ≢ on.number
      not_own e = other (sym (node_is p on) ∙ ap (λ (z : ℕ). (v.post z).node) (sym e) ∙ its_node)

      low_rank : (z : ℕ) → (v.post its).rank ≡ z → z ≤ 5 → 4 ≤ z → z ≡ 4
      low_rank z is high low = ⊎_elim
          (λ (e : z ≡ 5). absurd (not_own (omega (arith, serves, inv.server.server_is its (inv.calls.open_pass g.marked (omega arith) some) (is ∙ e)))))
          (λ (ne : z ≡ 5 → ⊥). four z high low ne) (cases_eq z 5)
        where
          four : (z : ℕ) → z ≤ 5 → 4 ≤ z → (z ≡ 5 → ⊥) → z ≡ 4
          four z high low ne = grind (arith, high, low, ne)

      waits : (v.post its).rank ≡ 4
      waits = low_rank (v.post its).rank refl (inv.calls.open_high g.marked (omega arith) some) (inv.serving.serving_linked on.number serves (omega (arith, at.stage)) (omega (arith, at.stage)))

      own_past : g.at on.number < g.marked
      own_past = ⊎_elim (λ (less : g.at on.number < g.marked). less)
          (λ (not_less : g.marked ≤ g.at on.number).
          let same : g.at on.number ≡ g.marked = omega (arith, not_less, inv.server.server_low on.number serves) in
          absurd (not_own (ap g.pass_of (sym same) ∙ inv.passes.at_is on.number on.inside (omega (arith, at.rank)))))
          (cases_lt (g.at on.number) g.marked)

      answers_waiting : IsWaitedFor c s.mem s.stand x n
      answers_waiting =
          let has : HasNode c s.mem s.stand x (v.post its).node (pass_on c x its) = has_node its (inv.calls.open_pass g.marked (omega arith) some) in (
            pass_on c x its,
            (has.0, has.1, has.2 ∙ its_node),
            rank_linked x (s.stand (pass_on c x its)).node (s.stand (pass_on c x its)).phase waits,
            ap state first ∙ inv.states.busy_state on.number serves own_past,
          )

-- ---- after every run

module _ (c : Setting) (s : State) (k : Chains c s) where
  ons : (x : Chain) (q : ℕ) → q < passes c → chain_of c.config q ≡ x → IsOn c x q
  ons x q less same = subst (λ (y : Chain). IsOn c y q) same (on_chain c q less)

  -- of each pass, on its own chain
  module _ (p : ℕ) (less : p < passes c) where
    abbrev its_chain : Chain
    its_chain = chain_of c.config p

    is_chain : IsChain c (chain_of c.config p)
    is_chain = chain_is c p less

    on : IsOn c (chain_of c.config p) p
    on = on_chain c p less

    touched_at : (n : ℕ) (y : Chain) (f : NodeField) → word_of (operation c its_chain (s.stand p).node (s.stand p).phase) ≡ Word.Node y n f → (y ≡ its_chain) × (((s.stand p).node ≡ n) ⊎ IsCombining (s.stand p).phase)
    touched_at n y f e =
        let t : Touches its_chain y (s.stand p).node n (s.stand p).phase =
        touches c its_chain y (s.stand p).node n f (s.stand p).phase (λ job service is. (counting_where c s k p job service less is).1) (λ job service is. (sending_where c s k p job service less is).1) e in (
          t.chain,
          ⊎_elim (λ (own : n ≡ (s.stand p).node). inl (sym own))
              (λ (five : ((post_of its_chain (s.stand p).node (s.stand p).phase).rank ≡ 5) × (n ≡ (post_of its_chain (s.stand p).node (s.stand p).phase).target)). inr (rank_combining its_chain (s.stand p).node (s.stand p).phase five.0))
              t.which,
        )

    sends_at : (at : Phase) → (s.stand p).phase ≡ at → IsSending at → its_chain ≡ Chain.Send
    sends_at (Phase.Counting job service) e a = (counting_where c s k p job service less e).1
    sends_at (Phase.Sending job service) e a = (sending_where c s k p job service less e).1
    sends_at _ e a = absurd a

    entering_at : IsEntering (s.stand p).phase → s.mem (Word.Node its_chain (s.stand p).node NodeField.State) ≤ 1
    entering_at a =
        subst (λ (z : ℕ). s.mem (Word.Node its_chain z NodeField.State) ≤ 1) (node_is c s k its_chain is_chain p on)
        (entering_low c s k its_chain is_chain on.number on.inside (ap (λ (z : Post). z.rank) (post_is c s k its_chain is_chain p on) ∙ entering_rank its_chain (s.stand p).node (s.stand p).phase a))

  laws_of_nodes : NodeLaws c s.mem s.stand
  laws_of_nodes = record {
    touched = λ p n y f less. touched_at p less n y f;
    sends = λ p less. sends_at p less (s.stand p).phase refl;
    entering = λ p less. entering_at p less;
    one_zero = λ p n less. one_zero c s k (its_chain p less) (is_chain p less) (ons (its_chain p less)) p n (on p less);
    hands_one = λ p n less. hands_one c s k (its_chain p less) (is_chain p less) (ons (its_chain p less)) p n (on p less);
    hands_awaited = λ p n less. hands_awaited c s k (its_chain p less) (is_chain p less) (ons (its_chain p less)) p n (on p less);
    hands_asking = λ p q n less hands. hands_asking c s k (its_chain p less) (is_chain p less) (ons (its_chain p less)) p n (on p less) hands q;
    answers_waiting = λ p n less. answers_waiting c s k (its_chain p less) (is_chain p less) (ons (its_chain p less)) p n (on p less);
  }

pub node_laws : NodeLawsOfRuns
node_laws c checked moves run = laws_of_nodes c (reached c moves) (chains_hold c (in_range c.config checked).bound.0 moves run)
