-- The possible answers of each deciding step.
use Rattle.std.proofs.Common.{◌≡◌, ℕ, ◌+◌, ◌-◌, ◌<◌, ◌≤◌, ◌≢◌, arith}
use Rattle.std.proofs.lemmas.Bool.{cases_eq, cases_lt}
use Rattle.cc_runs.proofs.LinkedList.Queue.{Queue, Ghosts}
use Rattle.cc_runs.proofs.LinkedList.Invariant.{LInv}
use Rattle.cc_runs.proofs.LinkedList.Scan.{looked, looked_role, looked_known}
use Rattle.cc_runs.proofs.LinkedList.Count.{covered}

module _ (c life n : ℕ) (v : Queue) (g : Ghosts) (i : LInv c life n v g) where
  -- the load of shut: 1 means that the list is shut, 0 that it isn't
  pub read_shut : v.enq.stage ≡ 1 → v.shut ≢ 0 → g.shut ≡ 1
  read_shut from ne = grind arith

  -- Already (the load of count)
  pub already : v.enq.stage ≡ 2 → (v.count ≡ g.accepted) × (g.shut ≡ 1) × (v.enq.asks 0 ≡ 0)
  already from = (grind arith, grind arith, grind arith)

  -- Spent (the load of count that finds life)
  pub spent : v.enq.stage ≡ 3 → v.count ≡ life → (g.accepted ≡ life) × (g.shut ≡ 0)
  spent from e = (grind arith, grind arith)

  -- Accepted (the linking store)
  pub accepted : v.enq.stage ≡ 10 → (v.enq.seen ≡ g.accepted) × (g.accepted < life) × (g.shut ≡ 0) × (v.enq.asks 0 ≢ 0)
  accepted from = (grind arith, grind arith, grind arith, grind arith)

  -- Shut (the linking store of the mark)
  pub shuts : v.enq.stage ≡ 15 → (v.enq.seen ≡ g.accepted) × (g.shut ≡ 0) × (v.enq.asks 0 ≡ 0)
  shuts from = (grind arith, grind arith, grind arith)

  -- Empty (next of the dummy is null)
  module _ (s : ℕ) (inside : s < n) (from : (v.side s).stage ≡ 3) (null : v.next (v.side s).dummy ≡ 0) where
    dummy : (v.side s).dummy ≡ g.node (g.handed s)
    dummy = grind (arith, i.heads.dummy_is s)

    pub no_more : g.handed s ≡ g.accepted
    no_more = grind (arith, cases_lt (g.handed s) g.accepted, dummy, i.hands.least_is s, i.hands.order s, i.links.links (g.handed s))

    pub unshut : g.shut ≡ 0
    unshut = grind (arith, cases_eq g.shut 0, cases_eq g.shut 1, dummy, no_more, i.links.end_shut, i.branch.shut_most)

    pub empty : (v.side s).known ≤ g.handed s
    empty = grind (arith, no_more, unshut, i.takes.known_most s)

  -- Ended (the first word of the node after is 0)
  module _ (s : ℕ) (inside : s < n) (from : (v.side s).stage ≡ 4) (zero_is : (x : ℕ) → x + 1 ≡ (v.side s).after → v.word x 0 ≡ 0) where
    not_item : g.handed s < g.accepted → ⊥
    not_item more = grind (arith, more, i.hands.least_is s, i.takes.after_is s, zero_is (g.node (g.handed s + 1)), i.links.items (g.handed s) 0, i.links.longs (g.handed s), i.links.tags (g.handed s))

    pub ended_all : g.handed s ≡ g.accepted
    ended_all = grind (arith, cases_lt (g.handed s) g.accepted, i.hands.order s, not_item)

    pub ended : ((v.side s).seen ≡ g.accepted) × (g.handed s ≡ g.accepted) × (g.shut ≡ 1)
    ended = (grind (arith, ended_all, i.heads.seen_is s), ended_all, grind (arith, ended_all, i.takes.after_shut s))

  -- Got (the add to passed): the words read are those of the item at place handed
  module _ (s : ℕ) (inside : s < n) (from : (v.side s).stage ≡ 7) where
    pub got_more : g.handed s < g.accepted
    got_more = grind (arith, i.takes.some_left s)

    pub got_place : (v.side s).seen ≡ g.handed s
    got_place = grind (arith, i.heads.seen_is s)

    pub got_long : (v.side s).got ≡ g.long (g.handed s)
    got_long = grind (arith, i.takes.read_whole s)

    pub got_word : (j : ℕ) → j < g.long (g.handed s) → (v.side s).word j ≡ g.items (g.handed s) j
    got_word j a = grind (arith, got_more, got_long, i.takes.read s j)

  -- Full (the last load of the scan finds a busy node)
  module _ (x : ℕ) (at : looked c v x) (from : v.enq.stage ≡ 5) (all : v.enq.tried ≡ c) (busy : v.passed x ≢ n) where
    here_role : g.role x ≡ 2
    here_role = looked_role c life n x v g i from at busy

    here_known : v.enq.known ≤ g.pos x
    here_known = looked_known c life n x v g i from at busy

    all_role : (y : ℕ) → y ≤ c → g.role y ≡ 2
    all_role y a = grind (arith, at, cases_eq x y, here_role, cases_lt y v.enq.cursor, i.scan.past_role y, i.scan.wrap_role y, i.scan.from_in)

    all_known : (y : ℕ) → y ≤ c → v.enq.known ≤ g.pos y
    all_known y a = grind (arith, at, cases_eq x y, here_known, cases_lt y v.enq.cursor, i.scan.past_known y, i.scan.wrap_known y, i.scan.from_in)

    place_low : (y : ℕ) → y < c + 1 → g.pos y - v.enq.known < g.accepted + 1 - v.enq.known
    place_low y a = omega (arith, all_known y (omega arith), i.nodes.pos_high y (omega arith) (all_role y (omega arith)))

    place_is : (y : ℕ) → y < c + 1 → g.node (v.enq.known + (g.pos y - v.enq.known)) ≡ y
    place_is y a = let same : v.enq.known + (g.pos y - v.enq.known) ≡ g.pos y = omega (arith, all_known y (omega arith)) in grind (arith, same, all_role y, i.nodes.pos_is y)

    pub full : (v.enq.known + c ≤ g.accepted) × (g.shut ≡ 0) × (g.accepted < life)
    full = (omega (arith, covered (g.accepted + 1 - v.enq.known) (c + 1) (λ (k : ℕ). g.node (v.enq.known + k)) (λ (y : ℕ). g.pos y - v.enq.known) place_low place_is, all_known x at.0, i.nodes.pos_high x at.0 here_role), grind arith, grind arith)
