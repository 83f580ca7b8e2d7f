-- The list at the opening: node 0 is the first dummy, all others are free.
use Rattle.std.proofs.Common.{◌≡◌, ℕ, ◌+◌, ◌<◌, ◌≤◌, ◌≢◌, arith}
use Rattle.std.proofs.lemmas.Bool.{cases_eq}
use Rattle.cc_runs.proofs.LinkedList.Queue.{Queue, Ghosts}
use Rattle.cc_runs.proofs.LinkedList.Invariant.{LInv}

pub record Opens (c n : ℕ) (v : Queue) : Type 0 where
  pub some : 0 < n
  pub last : v.last ≡ 1
  pub shut : v.shut ≡ 0
  pub count : v.count ≡ 0
  pub cursor : v.cursor ≤ c
  pub dummy_next : v.next 0 ≡ 0
  pub dummy_passed : v.passed 0 ≡ 0
  pub free : (x : ℕ) → x ≢ 0 → x ≤ c → v.passed x ≡ n
  pub mark_tag : v.word (c + 1) 0 ≡ 0
  pub rest : v.enq.stage ≡ 0
  pub side_rest : (s : ℕ) → (v.side s).stage ≡ 0
  pub head : (s : ℕ) → s < n → (v.side s).head ≡ 1
  pub taken : (s : ℕ) → (v.side s).taken ≡ 0

-- nothing is accepted, and node 0 alone is linked
pub record Zero (g : Ghosts) : Type 0 where
  pub accepted : g.accepted ≡ 0
  pub handed : (s : ℕ) → g.handed s ≡ 0
  pub shut : g.shut ≡ 0
  pub node : (k : ℕ) → g.node k ≡ 0
  pub pos : (k : ℕ) → g.pos k ≡ 0
  pub least : g.least ≡ 0
  pub by : (k : ℕ) → g.by k ≡ 0
  pub role_first : (x : ℕ) → x ≡ 0 → g.role x ≡ 2
  pub role_others : (x : ℕ) → x ≢ 0 → g.role x ≡ 0

pub opens : (c life n : ℕ) (v : Queue) (g : Ghosts) → Opens c n v → Zero g → LInv c life n v g
opens c life n v g o z = grind (arith, cases_eq, z, o)
