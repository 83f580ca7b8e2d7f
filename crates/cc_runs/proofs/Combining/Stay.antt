-- A step that the chain doesn't see.
use Rattle.std.proofs.Common.{◌≡◌, ℕ, ◌+◌, ◌<◌, ◌≤◌, arith}
use Rattle.cc_runs.proofs.Combining.Chain.{Chain, Ghost}
use Rattle.cc_runs.proofs.Combining.Invariant.{Inv}

pub record Stays (n : ℕ) (v v' : Chain) : Type 0 where
  pub tail : v'.tail ≡ v.tail
  pub nodes : (i : ℕ) → v'.node i ≡ v.node i
  pub posts : (q : ℕ) → q < n → v'.post q ≡ v.post q

module _ (n h : ℕ) (v v' : Chain) (g : Ghost) (i : Inv n h v g) (t : Stays n v v') where
  open_post : (k : ℕ) → g.marked ≤ k → k < g.calls → v'.post (g.pass_of k) ≡ v.post (g.pass_of k)
  open_post k a b = t.posts (g.pass_of k) (i.calls.open_pass k a b)

  server_post : (q : ℕ) → g.server ≡ q + 1 → v'.post q ≡ v.post q
  server_post q a = t.posts q (i.server.server_in q a)

  pub keeps : Inv n h v' g
  keeps = grind (arith, t.nodes, open_post, server_post)
