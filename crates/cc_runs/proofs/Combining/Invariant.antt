-- The invariant of every run of a chain of n passes with bound h.
use Rattle.std.proofs.Common.{◌≡◌, ℕ, ◌+◌, ◌<◌, ◌≤◌, ◌≢◌}
use Rattle.cc_runs.proofs.Combining.Chain.{Chain, Ghost}

-- the nodes: one for each pass, and the one that Tail names
pub record Nodes (n h : ℕ) (v : Chain) (g : Ghost) : Type 0 where
  pub node_in : (p : ℕ) → p < n → (v.post p).node ≤ n
  pub last_in : g.chain g.calls ≤ n
  pub apart : (p q : ℕ) → p < n → q < n → (v.post p).node ≡ (v.post q).node → p ≡ q
  pub last_apart : (p : ℕ) → p < n → (v.post p).node ≢ g.chain g.calls
  pub tail_is : v.tail ≡ g.chain g.calls + 1

-- the calls in the open part of the chain
pub record Calls (n h : ℕ) (v : Chain) (g : Ghost) : Type 0 where
  pub in_order : g.marked ≤ g.answers
  pub in_order2 : g.answers ≤ g.calls
  pub open_pass : (k : ℕ) → g.marked ≤ k → k < g.calls → g.pass_of k < n
  pub open_at : (k : ℕ) → g.marked ≤ k → k < g.calls → g.at (g.pass_of k) ≡ k
  pub open_low : (k : ℕ) → g.marked ≤ k → k < g.calls → 3 ≤ (v.post (g.pass_of k)).rank
  pub open_high : (k : ℕ) → g.marked ≤ k → k < g.calls → (v.post (g.pass_of k)).rank ≤ 5
  pub open_node : (k : ℕ) → g.marked ≤ k → k < g.calls → (v.post (g.pass_of k)).node ≡ g.chain k

-- a pass in its call
pub record Passes (n h : ℕ) (v : Chain) (g : Ghost) : Type 0 where
  pub at_in : (p : ℕ) → p < n → 3 ≤ (v.post p).rank → g.at p < g.calls
  pub at_is : (p : ℕ) → p < n → 3 ≤ (v.post p).rank → g.pass_of (g.at p) ≡ p
  pub at_last : (p k : ℕ) → g.at p < k → k < g.calls → g.pass_of k ≢ p
  pub early : (p : ℕ) → p < n → (v.post p).rank ≡ 3 → g.marked ≤ g.at p
  pub late : (p : ℕ) → p < n → (v.post p).rank ≡ 6 → g.at p < g.marked

-- the next links
pub record Links (n h : ℕ) (v : Chain) (g : Ghost) : Type 0 where
  pub ready_next : (p : ℕ) → p < n → 1 ≤ (v.post p).rank → (v.post p).rank ≤ 3 → (v.node (v.post p).node).next ≡ 0
  pub put_is : (p : ℕ) → p < n → (v.post p).rank ≡ 3 → (v.post p).put ≡ g.chain (g.at p + 1)
  pub asks_is : (p j : ℕ) → p < n → (v.post p).rank ≡ 3 → (v.post p).wrote ≤ j → (v.post p).asks j ≡ g.asked (g.at p) j
  pub linked : (p : ℕ) → p < n → 4 ≤ (v.post p).rank → g.marked ≤ g.at p → (v.node (v.post p).node).next ≡ g.chain (g.at p + 1) + 1
  pub last_next : (v.node (g.chain g.calls)).next ≡ 0

-- the request words and the answer words
pub record Words (n h : ℕ) (v : Chain) (g : Ghost) : Type 0 where
  pub written : (p j : ℕ) → p < n → (v.post p).rank ≡ 3 → j < (v.post p).wrote → j < g.asks_long (g.at p) → (v.node (v.post p).node).request j ≡ g.asked (g.at p) j
  pub linked_written : (p j : ℕ) → p < n → 4 ≤ (v.post p).rank → g.marked ≤ g.at p → j < g.asks_long (g.at p) → (v.node (v.post p).node).request j ≡ g.asked (g.at p) j
  pub serving_told : (p j : ℕ) → g.server ≡ p + 1 → (v.post p).stage ≡ 2 → j < (v.post p).told → j < g.told_long g.marked → (v.node (g.chain g.marked)).answer j ≡ g.told g.marked j
  pub done_told : (p j : ℕ) → p < n → 4 ≤ (v.post p).rank → g.at p < g.marked → j < g.told_long (g.at p) → (v.node (v.post p).node).answer j ≡ g.told (g.at p) j

-- the state words
pub record States (n h : ℕ) (v : Chain) (g : Ghost) : Type 0 where
  pub ready_state : (p : ℕ) → p < n → (v.post p).rank ≡ 2 → (v.node (v.post p).node).state ≡ 1
  pub waiting : (k : ℕ) → g.marked < k → k ≤ g.calls → (v.node (g.chain k)).state ≡ 1
  pub free_state : g.server ≡ 0 → (v.node (g.chain g.marked)).state ≡ 0
  pub busy_state : (p : ℕ) → g.server ≡ p + 1 → g.at p < g.marked → (v.node (g.chain g.marked)).state ≡ 1
  pub done_state : (p : ℕ) → p < n → (v.post p).rank ≡ 4 → g.at p < g.marked → (v.node (v.post p).node).state ≡ 2

-- who combines
pub record Server (n h : ℕ) (v : Chain) (g : Ghost) : Type 0 where
  pub server_is : (p : ℕ) → p < n → (v.post p).rank ≡ 5 → g.server ≡ p + 1
  pub server_in : (p : ℕ) → g.server ≡ p + 1 → p < n
  pub server_rank : (p : ℕ) → g.server ≡ p + 1 → (v.post p).rank ≡ 5
  pub server_low : (p : ℕ) → g.server ≡ p + 1 → g.at p ≤ g.marked
  pub server_most : (p : ℕ) → g.server ≡ p + 1 → g.marked ≤ g.at p + h
  pub server_at : (p : ℕ) → g.server ≡ p + 1 → (v.post p).stage ≤ 2 → (v.post p).served + g.at p ≡ g.marked
  pub server_target : (p : ℕ) → g.server ≡ p + 1 → (v.post p).target ≡ g.chain g.marked
  pub server_bound : (p : ℕ) → g.server ≡ p + 1 → (v.post p).stage ≤ 2 → (v.post p).served < h
  pub server_past : (p : ℕ) → g.server ≡ p + 1 → (v.post p).stage ≡ 3 → g.at p < g.marked

-- the request that is served
pub record Serving (n h : ℕ) (v : Chain) (g : Ghost) : Type 0 where
  pub serving : (p : ℕ) → g.server ≡ p + 1 → 1 ≤ (v.post p).stage → (v.post p).stage ≤ 2 → g.marked < g.calls
  pub serving_next : (p : ℕ) → g.server ≡ p + 1 → 1 ≤ (v.post p).stage → (v.post p).stage ≤ 2 → (v.post p).next ≡ g.chain (g.marked + 1) + 1
  pub serving_linked : (p : ℕ) → g.server ≡ p + 1 → 1 ≤ (v.post p).stage → (v.post p).stage ≤ 2 → 4 ≤ (v.post (g.pass_of g.marked)).rank
  pub undecided : (p : ℕ) → g.server ≡ p + 1 → (v.post p).stage ≢ 2 → g.answers ≡ g.marked
  pub decided : (p : ℕ) → g.server ≡ p + 1 → (v.post p).stage ≡ 2 → g.answers ≡ g.marked + 1
  pub free_answers : g.server ≡ 0 → g.answers ≡ g.marked

pub record Inv (n h : ℕ) (v : Chain) (g : Ghost) : Type 0 where
  pub nodes : Nodes n h v g
  pub calls : Calls n h v g
  pub passes : Passes n h v g
  pub links : Links n h v g
  pub words : Words n h v g
  pub states : States n h v g
  pub server : Server n h v g
  pub serving : Serving n h v g
