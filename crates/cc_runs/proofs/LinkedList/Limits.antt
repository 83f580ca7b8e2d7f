-- Numbers stay in range, links name nodes, and a node is reset only when all sides have passed it.
use Rattle.std.proofs.Common.{◌≡◌, ℕ, ◌+◌, ◌<◌, ◌≤◌, arith}
use Rattle.std.proofs.lemmas.Bool.{cases_eq, cases_lt}
use Rattle.cc_runs.proofs.LinkedList.Queue.{Queue, Ghosts}
use Rattle.cc_runs.proofs.LinkedList.Invariant.{LInv}

module _ (c life n : ℕ) (v : Queue) (g : Ghosts) (i : LInv c life n v g) where
  pub count_fits : v.enq.stage ≡ 12 → v.enq.seen + 1 ≤ life
  count_fits from = grind arith

  pub last_link : v.enq.stage ≡ 9 → (0 < v.last) × (v.last ≤ c + 1)
  last_link from = (grind (arith, i.live.live_in g.accepted), grind (arith, i.live.live_in g.accepted))

  pub lastc_link : v.enq.stage ≡ 14 → (0 < v.last) × (v.last ≤ c + 1)
  lastc_link from = (grind (arith, i.live.live_in g.accepted), grind (arith, i.live.live_in g.accepted))

  module _ (s : ℕ) (inside : s < n) where
    pub head_link : (v.side s).stage ≡ 1 → (0 < (v.side s).head) × ((v.side s).head ≤ c + 1)
    head_link from = (grind (arith, i.heads.head_is s), grind (arith, i.hands.least_is s, i.hands.order s, i.heads.head_is s, i.live.live_in (g.handed s)))

    pub taken_fits : (v.side s).stage ≡ 6 → (v.side s).seen + 1 ≤ life
    taken_fits from = grind (arith, i.heads.seen_is s, i.takes.some_left s)

    pub next_link : (v.side s).stage ≡ 3 → v.next (v.side s).dummy ≤ c + 2
    next_link from = grind (arith, i.hands.least_is s, i.hands.order s, i.heads.dummy_is s, cases_lt (g.handed s) g.accepted, cases_eq g.shut 0, cases_eq g.shut 1, i.links.links (g.handed s), i.links.end_open, i.links.end_shut, i.branch.shut_most, i.live.live_in (g.handed s + 1))

    pub passed_fits : (v.side s).stage ≡ 7 → v.passed (v.side s).dummy + 1 ≤ n
    passed_fits from = grind (arith, i.hands.least_is s, i.hands.order s, i.heads.dummy_is s, i.live.live_in (g.handed s), i.live.live_role (g.handed s), i.live.live_pos (g.handed s), i.nodes.passed_is (g.node (g.handed s)), i.hands.by_some (g.handed s))

    -- no node that a side holds for a read to come is in preparation
    pub dummy_kept : 2 ≤ (v.side s).stage → g.role (v.side s).dummy ≡ 2
    dummy_kept from = grind (arith, i.hands.least_is s, i.hands.order s, i.heads.dummy_is s, i.live.live_role (g.handed s))
