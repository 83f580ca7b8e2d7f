-- Which nodes differ.
use Rattle.std.proofs.Common.{◌≡◌, ℕ, ◌-◌, ◌<◌, ◌≤◌, ◌≢◌, arith}
use Rattle.std.proofs.lemmas.Bool.{cases_eq, cases_lt}
use Rattle.cc_runs.proofs.Combining.Chain.{Chain, Ghost}
use Rattle.cc_runs.proofs.Combining.Invariant.{Inv}

module _ (n h : ℕ) (v : Chain) (g : Ghost) (i : Inv n h v g) where
  -- the node of a call that isn't marked
  pub node_chain : (p : ℕ) → p < n → 3 ≤ (v.post p).rank → g.marked ≤ g.at p → (v.post p).node ≡ g.chain (g.at p)
  node_chain p pn a b = grind (arith, i.calls.open_node (g.at p), i.passes.at_is p, i.passes.at_in p)

  -- the nodes of the open part of the chain
  pub chain_apart : (j k : ℕ) → g.marked ≤ j → g.marked ≤ k → j ≤ g.calls → k ≤ g.calls → g.chain j ≡ g.chain k → j ≡ k
  chain_apart j k a b c d same =
      grind (arith, cases_eq j g.calls, cases_eq k g.calls, i.calls.open_node j, i.calls.open_node k, i.calls.open_pass j, i.calls.open_pass k, i.calls.open_at j, i.calls.open_at k, i.nodes.apart (g.pass_of j) (g.pass_of k), i.nodes.last_apart (g.pass_of j), i.nodes.last_apart (g.pass_of k))

  -- a node that no call of the open part has
  pub node_apart : (p k : ℕ) → p < n → g.marked ≤ k → k ≤ g.calls → (k < g.calls → g.pass_of k ≢ p) → g.chain k ≢ (v.post p).node
  node_apart p k pn a b c same = grind (arith, cases_eq k g.calls, i.calls.open_node k, i.calls.open_pass k, i.nodes.apart (g.pass_of k) p, i.nodes.last_apart p)

  -- whoever combines serves another call than one that waits
  pub server_other : (p : ℕ) → p < n → (v.post p).rank ≡ 4 → g.at p ≡ g.marked → g.server ≢ 0 → g.at (g.server - 1) < g.marked
  server_other p pn a b some = grind (arith, i.server.server_low (g.server - 1), i.server.server_rank (g.server - 1), i.server.server_in (g.server - 1), i.passes.at_is (g.server - 1), i.passes.at_is p, cases_eq (g.at (g.server - 1)) g.marked)

  -- what a waiting call reads
  pub reads_two : (p : ℕ) → p < n → (v.post p).rank ≡ 4 → 2 ≤ (v.node (v.post p).node).state → g.at p < g.marked
  reads_two p pn a b = grind (arith, cases_lt (g.at p) g.marked, cases_eq (g.at p) g.marked, node_chain p, i.states.waiting (g.at p), i.passes.at_in p, cases_eq g.server 0, i.states.free_state, i.states.busy_state (g.server - 1), server_other p)

  pub reads_zero : (p : ℕ) → p < n → (v.post p).rank ≡ 4 → (v.node (v.post p).node).state ≡ 0 → (g.at p ≡ g.marked) × (g.server ≡ 0)
  reads_zero p pn a b = grind (arith, cases_lt (g.at p) g.marked, cases_eq (g.at p) g.marked, node_chain p, i.states.done_state p, i.states.waiting (g.at p), i.passes.at_in p, cases_eq g.server 0, i.states.busy_state (g.server - 1), server_other p)
