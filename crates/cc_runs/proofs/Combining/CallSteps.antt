-- The steps of a call, from the resets of its node to the end, but for those of the combiner.
use Rattle.std.proofs.Common.{◌≡◌, ℕ, ◌+◌, ◌<◌, ◌≤◌, ◌≢◌, ◌⊎◌, arith}
use Rattle.std.proofs.lemmas.Bool.{cases_eq}
use Rattle.cc_runs.proofs.Combining.Chain.{Chain, Ghost}
use Rattle.cc_runs.proofs.Combining.Invariant.{Inv, Words}
use Rattle.cc_runs.proofs.Combining.Apart.{node_chain, node_apart, reads_two, reads_zero}
use Rattle.cc_runs.proofs.Combining.Step.{Loads, Stores, post_at}

-- a pass that is out of the chain resets a word of its own node
pub record Resets (v v' : Chain) (p : ℕ) : Type 0 where
  pub step : Stores v v' p (v.post p).node
  pub low : (v.post p).rank ≤ 1
  pub rank : (v'.post p).rank ≡ (v.post p).rank + 1
  pub next : (v'.node (v.post p).node).next ≡ 0
  pub state : (v.post p).rank ≡ 1 → (v'.node (v.post p).node).state ≡ 1

-- Tail is swapped with the link of the own node
pub record Exchanges (v v' : Chain) (p : ℕ) : Type 0 where
  pub before : (v.post p).rank ≡ 2
  pub rank : (v'.post p).rank ≡ 3
  pub wrote : (v'.post p).wrote ≡ 0
  pub got : (v'.post p).node + 1 ≡ v.tail
  pub put : (v'.post p).put ≡ (v.post p).node
  pub tail : v'.tail ≡ (v.post p).node + 1
  pub others : (q : ℕ) → q ≢ p → v'.post q ≡ v.post q
  pub nodes : (i : ℕ) → v'.node i ≡ v.node i

-- and the history has one call more
pub record Extends (g g' : Ghost) (p own : ℕ) (asks : ℕ → ℕ) : Type 0 where
  pub asks_long : (k : ℕ) → k < g.calls → g'.asks_long k ≡ g.asks_long k
  pub told_long : (k : ℕ) → g'.told_long k ≡ g.told_long k
  pub calls : g'.calls ≡ g.calls + 1
  pub answers : g'.answers ≡ g.answers
  pub marked : g'.marked ≡ g.marked
  pub server : g'.server ≡ g.server
  pub pass_now : g'.pass_of g.calls ≡ p
  pub pass_before : (k : ℕ) → k < g.calls → g'.pass_of k ≡ g.pass_of k
  pub asked_now : (j : ℕ) → g'.asked g.calls j ≡ asks j
  pub asked_before : (k j : ℕ) → k < g.calls → g'.asked k j ≡ g.asked k j
  pub told : (k j : ℕ) → g'.told k j ≡ g.told k j
  pub chain_now : g'.chain (g.calls + 1) ≡ own
  pub chain_before : (k : ℕ) → k ≤ g.calls → g'.chain k ≡ g.chain k
  pub at_now : g'.at p ≡ g.calls
  pub at_before : (q : ℕ) → q ≢ p → g'.at q ≡ g.at q

-- a call that has exchanged stores into the node that it got
pub record Enters (v v' : Chain) (p : ℕ) : Type 0 where
  pub stores : Stores v v' p (v.post p).node
  pub before : (v.post p).rank ≡ 3
  pub state : (v'.node (v.post p).node).state ≡ (v.node (v.post p).node).state

-- the next word of a request of this number of words; after the last one all are written
pub record Writes (long : ℕ) (v v' : Chain) (p : ℕ) : Type 0 where
  pub step : Enters v v' p
  pub rank : (v'.post p).rank ≡ 3
  pub put : (v'.post p).put ≡ (v.post p).put
  pub asks : (j : ℕ) → (v'.post p).wrote ≤ j → (v'.post p).asks j ≡ (v.post p).asks j
  pub onward : (v.post p).wrote < (v'.post p).wrote
  pub wrote : (j : ℕ) → j < (v'.post p).wrote → j < long → j ≤ (v.post p).wrote
  pub next : (v'.node (v.post p).node).next ≡ (v.node (v.post p).node).next
  pub word : (v'.node (v.post p).node).request (v.post p).wrote ≡ (v.post p).asks (v.post p).wrote
  pub words : (j : ℕ) → j ≢ (v.post p).wrote → (v'.node (v.post p).node).request j ≡ (v.node (v.post p).node).request j

-- the link to the node that was put into Tail, after a request of this number of words, which are all written
pub record Links (long : ℕ) (v v' : Chain) (p : ℕ) : Type 0 where
  pub step : Enters v v' p
  pub wrote : long ≤ (v.post p).wrote
  pub rank : (v'.post p).rank ≡ 4
  pub next : (v'.node (v.post p).node).next ≡ (v.post p).put + 1
  pub request : (j : ℕ) → (v'.node (v.post p).node).request j ≡ (v.node (v.post p).node).request j

-- state 2 is loaded
pub record Collects (v v' : Chain) (p : ℕ) : Type 0 where
  pub step : Loads v v' p
  pub before : (v.post p).rank ≡ 4
  pub rank : (v'.post p).rank ≡ 6
  pub read : 2 ≤ (v.node (v.post p).node).state

-- state 0 is loaded: the call combines from now on
pub record Starts (v v' : Chain) (p : ℕ) : Type 0 where
  pub step : Loads v v' p
  pub before : (v.post p).rank ≡ 4
  pub rank : (v'.post p).rank ≡ 5
  pub target : (v'.post p).target ≡ (v.post p).node
  pub served : (v'.post p).served ≡ 0
  pub stage : (v'.post p).stage ≡ 0
  pub read : (v.node (v.post p).node).state ≡ 0

-- the answer is read
pub record Ends (v v' : Chain) (p : ℕ) : Type 0 where
  pub step : Loads v v' p
  pub before : (v.post p).rank ≡ 6
  pub rank : (v'.post p).rank ≡ 0

module _ (n h : ℕ) (v v' : Chain) (g : Ghost) (p : ℕ) (inside : p < n) (i : Inv n h v g) where
  not_server : (v.post p).rank ≢ 5 → g.server ≢ p + 1
  not_server ne same = ne (i.server.server_rank p same)

  not_open : (v.post p).rank ≤ 2 → (k : ℕ) → g.marked ≤ k → k < g.calls → g.pass_of k ≢ p
  not_open low k a b same = grind (arith, i.calls.open_low k)

  -- a store into the own node leaves those of the others
  cell : Stores v v' p (v.post p).node → (q : ℕ) → q < n → q ≢ p → v'.node (v.post q).node ≡ v.node (v.post q).node
  cell t q qn ne = grind (arith, t.nodes (v.post q).node, i.nodes.apart q p)

  pub resets : Resets v v' p → Inv n h v' g
  resets t = grind (arith, post_at v v' p t.step.others, cell t.step, not_open (omega arith), not_server (omega arith), open_cell)
    where
      open_cell : (k : ℕ) → g.marked ≤ k → k ≤ g.calls → v'.node (g.chain k) ≡ v.node (g.chain k)
      open_cell k a b = t.step.nodes (g.chain k) (node_apart n h v g i p k inside a b (not_open (omega arith) k a))

  module _ (t : Enters v v' p) where
    own : (v.post p).node ≡ g.chain (g.at p)
    own = node_chain n h v g i p inside (omega arith) (i.passes.early p inside t.before)

    chain_state : (k : ℕ) → (v'.node (g.chain k)).state ≡ (v.node (g.chain k)).state
    chain_state k = grind (arith, cases_eq (g.chain k) (v.post p).node, t.stores.nodes (g.chain k))

    -- and of the chain's nodes all but its own
    chain_at : (k : ℕ) → g.marked ≤ k → k ≤ g.calls → (v'.node (g.chain k) ≡ v.node (g.chain k)) ⊎ (k ≡ g.at p)
    chain_at k a b = grind (arith, t.stores.nodes (g.chain k))

  pub writes : Writes (g.asks_long (g.at p)) v v' p → Inv n h v' g
  writes t = grind (arith, post_at v v' p t.step.stores.others, cell t.step.stores, not_server (omega arith), own t.step, chain_state t.step, chain_at t.step, words)
    where
      words : Words n h v' g
      words = grind (arith, cases_eq, cell t.step.stores, not_server (omega arith), own t.step, chain_state t.step, chain_at t.step)

  pub links : Links (g.asks_long (g.at p)) v v' p → Inv n h v' g
  links t = grind (arith, post_at v v' p t.step.stores.others, cell t.step.stores, not_server (omega arith), own t.step, chain_state t.step, chain_at t.step)

  pub collects : Collects v v' p → Inv n h v' g
  collects t = grind (arith, post_at v v' p t.step.others, t.step.nodes, not_server (omega arith), reads_two n h v g i p inside t.before t.read)

  pub ends : Ends v v' p → Inv n h v' g
  ends t = grind (arith, post_at v v' p t.step.others, t.step.nodes, not_server (omega arith), i.passes.late p inside t.before)

  pub starts : 0 < h → Starts v v' p → Inv n h v' (record g { server = p + 1 })
  starts some t = grind (arith, post_at v v' p t.step.others, t.step.nodes, read, own_is, nobody)
    where
      read : (g.at p ≡ g.marked) × (g.server ≡ 0)
      read = reads_zero n h v g i p inside t.before t.read

      own_is : (v.post p).node ≡ g.chain g.marked
      own_is = grind (arith, node_chain n h v g i p inside, read.0)

      nobody : (q : ℕ) → q < n → (v.post q).rank ≢ 5
      nobody q qn same = grind (arith, i.server.server_is q qn same, read.1)

  pub exchanges : (g' : Ghost) → Exchanges v v' p → Extends g g' p (v.post p).node (v'.post p).asks → Inv n h v' g'
  exchanges g' e x = record {
    nodes = grind (arith, cases_eq, last, old_last, not_open (omega arith), not_server (omega arith), server_post, server_ghost, head);
    calls = grind (arith, cases_eq, last, old_last, not_open (omega arith), not_server (omega arith), server_post, server_ghost, head);
    passes = grind (arith, cases_eq, last, old_last, not_open (omega arith), not_server (omega arith), server_post, server_ghost, head);
    links = grind (arith, cases_eq, last, old_last, not_open (omega arith), not_server (omega arith), server_post, server_ghost, head);
    words = grind (arith, cases_eq, last, old_last, not_open (omega arith), not_server (omega arith), server_post, server_ghost, head);
    states = grind (arith, cases_eq, last, old_last, not_open (omega arith), not_server (omega arith), server_post, server_ghost, head);
    server = record {
      server_is = λ q qn a. grind (arith, cases_eq q p, i.server.server_is q, e.others q);
      server_in = λ q a. grind (arith, i.server.server_in q);
      server_rank = λ q a. grind (arith, server_post q, i.server.server_rank q);
      server_low = λ q a. grind (arith, server_post q, server_ghost q, i.server.server_low q);
      server_most = λ q a. grind (arith, server_post q, server_ghost q, i.server.server_most q);
      server_at = λ q a b. grind (arith, server_post q, server_ghost q, i.server.server_at q);
      server_target = λ q a. grind (arith, server_post q, i.server.server_target q, x.chain_before g.marked);
      server_bound = λ q a b. grind (arith, server_post q, i.server.server_bound q);
      server_past = λ q a b. grind (arith, server_post q, server_ghost q, i.server.server_past q);
    };
    serving = grind (arith, cases_eq, last, old_last, not_open (omega arith), not_server (omega arith), server_post, server_ghost, head);
  }
    where
      last : g'.chain g'.calls ≡ (v.post p).node
      last = cc

      old_last : (v'.post p).node ≡ g.chain g.calls
      old_last = grind arith

      server_post : (q : ℕ) → g'.server ≡ q + 1 → v'.post q ≡ v.post q
      server_post q a = grind (arith, cases_eq q p, not_server (omega arith), e.others q)

      server_ghost : (q : ℕ) → g'.server ≡ q + 1 → g'.at q ≡ g.at q
      server_ghost q a = grind (arith, cases_eq q p, not_server (omega arith), x.at_before q)

      head : v'.node (g'.chain g'.marked) ≡ v.node (g.chain g.marked)
      head = grind (arith, x.chain_before g.marked, e.nodes (g.chain g.marked))
