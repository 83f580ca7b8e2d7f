-- The node that a scan looks at: if it is busy, it has a place from known on.
use Rattle.std.proofs.Common.{◌≡◌, ℕ, ◌+◌, ◌<◌, ◌≤◌, ◌≢◌, arith}
use Rattle.std.proofs.lemmas.Bool.{cases_eq, cases_lt}
use Rattle.cc_runs.proofs.LinkedList.Queue.{Queue, Ghosts}
use Rattle.cc_runs.proofs.LinkedList.Invariant.{LInv}

-- the node that is looked at: cursor + tried, round the end
abbrev pub looked : ℕ → Queue → ℕ → Type 0
looked c v x = (x ≤ c) × (v.enq.cursor + v.enq.tried ≤ c → x ≡ v.enq.cursor + v.enq.tried) × (c < v.enq.cursor + v.enq.tried → x + c + 1 ≡ v.enq.cursor + v.enq.tried)

module _ (c life n x : ℕ) (v : Queue) (g : Ghosts) (i : LInv c life n v g) (from : v.enq.stage ≡ 5) (at : looked c v x) where
  pub looked_role : v.passed x ≢ n → g.role x ≡ 2
  looked_role busy = grind (arith, at, i.nodes.fresh x, i.nodes.prep_low x, i.nodes.role_most x, cases_eq (g.role x) 0, cases_eq (g.role x) 1)

  pub looked_known : v.passed x ≢ n → v.enq.known ≤ g.pos x
  looked_known busy = grind (arith, at, looked_role busy, i.nodes.passed_is x, i.hands.by_all (g.pos x), cases_lt (g.pos x) g.least)
