-- The invariant of every run of a list of c + 1 nodes and the mark (node c + 1), for items up to `life`, with n take
-- sides.
use Rattle.std.proofs.Common.{◌≡◌, ℕ, ◌+◌, ◌<◌, ◌≤◌, ◌≢◌}
use Rattle.cc_runs.proofs.LinkedList.Queue.{Queue, Ghosts}

-- the sides and how far they are
pub record Hands (c life n : ℕ) (v : Queue) (g : Ghosts) : Type 0 where
  pub some : 0 < n
  pub order : (s : ℕ) → s < n → g.handed s ≤ g.accepted
  pub least_is : (s : ℕ) → s < n → g.least ≤ g.handed s
  pub least_in : g.least ≤ g.accepted
  pub by_all : (k : ℕ) → k < g.least → g.by k ≡ n
  pub by_some : (k : ℕ) → g.least ≤ k → g.by k < n
  pub by_none : (k : ℕ) → g.accepted ≤ k → g.by k ≡ 0

-- the places from the least handed to the last
pub record Live (c life n : ℕ) (v : Queue) (g : Ghosts) : Type 0 where
  pub live_in : (k : ℕ) → g.least ≤ k → k ≤ g.accepted → g.node k ≤ c
  pub live_role : (k : ℕ) → g.least ≤ k → k ≤ g.accepted → g.role (g.node k) ≡ 2
  pub live_pos : (k : ℕ) → g.least ≤ k → k ≤ g.accepted → g.pos (g.node k) ≡ k

-- the nodes
pub record Nodes (c life n : ℕ) (v : Queue) (g : Ghosts) : Type 0 where
  pub fresh : (x : ℕ) → x ≤ c → g.role x ≡ 0 → v.passed x ≡ n
  pub prep_is : (x : ℕ) → x ≤ c → g.role x ≡ 1 → v.enq.found ≡ x
  pub prep_low : (x : ℕ) → x ≤ c → g.role x ≡ 1 → 7 ≤ v.enq.stage
  pub prep_high : (x : ℕ) → x ≤ c → g.role x ≡ 1 → v.enq.stage ≤ 10
  pub role_most : (x : ℕ) → x ≤ c → g.role x ≤ 2
  pub pos_high : (x : ℕ) → x ≤ c → g.role x ≡ 2 → g.pos x ≤ g.accepted
  pub pos_is : (x : ℕ) → x ≤ c → g.role x ≡ 2 → g.node (g.pos x) ≡ x
  pub passed_is : (x : ℕ) → x ≤ c → g.role x ≡ 2 → v.passed x ≡ g.by (g.pos x)

-- next links and item words of the live places
pub record Links (c life n : ℕ) (v : Queue) (g : Ghosts) : Type 0 where
  pub links : (k : ℕ) → g.least ≤ k → k < g.accepted → v.next (g.node k) ≡ g.node (k + 1) + 1
  pub end_open : g.shut ≡ 0 → v.next (g.node g.accepted) ≡ 0
  pub end_shut : g.shut ≡ 1 → v.next (g.node g.accepted) ≡ c + 2
  pub items : (k j : ℕ) → g.least ≤ k → k < g.accepted → j < g.long k → v.word (g.node (k + 1)) j ≡ g.items k j
  pub mark_tag : v.word (c + 1) 0 ≡ 0
  pub tags : (k : ℕ) → k < g.accepted → g.items k 0 ≢ 0
  pub longs : (k : ℕ) → k < g.accepted → 0 < g.long k
  pub long_is : (k : ℕ) → k < g.accepted → g.long k ≡ g.tells (g.items k 0)

-- last, shut, count, cursor
pub record Words (c life n : ℕ) (v : Queue) (g : Ghosts) : Type 0 where
  pub shut_is : v.enq.stage ≤ 15 → v.shut ≡ g.shut
  pub shut_late : 16 ≤ v.enq.stage → v.shut ≡ 0
  pub count_is : v.enq.stage ≤ 10 → v.count ≡ g.accepted
  pub count_late : 11 ≤ v.enq.stage → v.enq.stage ≤ 12 → v.count + 1 ≡ g.accepted
  pub count_now : 13 ≤ v.enq.stage → v.count ≡ g.accepted
  pub last_is : g.shut ≡ 0 → v.enq.stage ≢ 11 → v.last ≡ g.node g.accepted + 1
  pub cursor_in : v.cursor ≤ c

-- what the branches of the send side's service have found
pub record Branch (c life n : ℕ) (v : Queue) (g : Ghosts) : Type 0 where
  pub shut_most : g.shut ≤ 1
  pub life_in : g.accepted ≤ life
  pub stage_most : v.enq.stage ≤ 17
  pub unshut : 3 ≤ v.enq.stage → v.enq.stage ≤ 15 → g.shut ≡ 0
  pub closed : v.enq.stage ≡ 2 → g.shut ≡ 1
  pub closed_late : 16 ≤ v.enq.stage → g.shut ≡ 1
  pub room : 4 ≤ v.enq.stage → v.enq.stage ≤ 10 → g.accepted < life

pub record Request (c life n : ℕ) (v : Queue) (g : Ghosts) : Type 0 where
  pub long : 1 ≤ v.enq.stage → 0 < v.enq.asks_long
  pub long_told : 1 ≤ v.enq.stage → v.enq.asks_long ≡ g.tells (v.enq.asks 0)
  pub sends : 4 ≤ v.enq.stage → v.enq.stage ≤ 13 → v.enq.asks 0 ≢ 0
  pub closes : 14 ≤ v.enq.stage → v.enq.asks 0 ≡ 0
  pub closes_late : v.enq.stage ≡ 2 → v.enq.asks 0 ≡ 0
  pub seen_is : 4 ≤ v.enq.stage → v.enq.stage ≤ 10 → v.enq.seen ≡ g.accepted
  pub seen_late : 11 ≤ v.enq.stage → v.enq.stage ≤ 13 → v.enq.seen + 1 ≡ g.accepted
  pub seen_close : 14 ≤ v.enq.stage → v.enq.seen ≡ g.accepted

-- the node that is found and prepared
pub record Found (c life n : ℕ) (v : Queue) (g : Ghosts) : Type 0 where
  pub found_in : 6 ≤ v.enq.stage → v.enq.stage ≤ 13 → v.enq.found ≤ c
  pub found_free : v.enq.stage ≡ 6 → v.passed v.enq.found ≡ n
  pub found_role : 7 ≤ v.enq.stage → v.enq.stage ≤ 10 → g.role v.enq.found ≡ 1
  pub found_busy : 7 ≤ v.enq.stage → v.enq.stage ≤ 10 → v.passed v.enq.found ≡ 0
  pub found_next : 8 ≤ v.enq.stage → v.enq.stage ≤ 10 → v.next v.enq.found ≡ 0
  pub found_last : v.enq.stage ≡ 11 → v.enq.found ≡ g.node g.accepted

pub record Prepared (c life n : ℕ) (v : Queue) (g : Ghosts) : Type 0 where
  pub written : (j : ℕ) → 8 ≤ v.enq.stage → v.enq.stage ≤ 10 → j < v.enq.wrote → v.word v.enq.found j ≡ v.enq.asks j
  pub whole : 9 ≤ v.enq.stage → v.enq.stage ≤ 10 → v.enq.wrote ≡ v.enq.asks_long
  pub last_item : v.enq.stage ≡ 10 → v.enq.last ≡ g.node g.accepted + 1
  pub last_mark : v.enq.stage ≡ 15 → v.enq.last ≡ g.node g.accepted + 1

-- the scan: each node that was read busy has a place from `known` on
pub record Scan (c life n : ℕ) (v : Queue) (g : Ghosts) : Type 0 where
  pub known_in : 1 ≤ v.enq.stage → v.enq.known ≤ g.least
  pub from_in : v.enq.stage ≡ 5 → v.enq.cursor ≤ c
  pub tried_in : v.enq.stage ≡ 5 → v.enq.tried ≤ c
  pub past_role : (x : ℕ) → v.enq.stage ≡ 5 → x ≤ c → v.enq.cursor ≤ x → x < v.enq.cursor + v.enq.tried → g.role x ≡ 2
  pub past_known : (x : ℕ) → v.enq.stage ≡ 5 → x ≤ c → v.enq.cursor ≤ x → x < v.enq.cursor + v.enq.tried → v.enq.known ≤ g.pos x
  pub wrap_role : (x : ℕ) → v.enq.stage ≡ 5 → x ≤ c → x + c + 1 < v.enq.cursor + v.enq.tried → g.role x ≡ 2
  pub wrap_known : (x : ℕ) → v.enq.stage ≡ 5 → x ≤ c → x + c + 1 < v.enq.cursor + v.enq.tried → v.enq.known ≤ g.pos x

-- each take side: its words, and its registers
pub record Heads (c life n : ℕ) (v : Queue) (g : Ghosts) : Type 0 where
  pub head_is : (s : ℕ) → s < n → (v.side s).stage ≤ 5 → (v.side s).head ≡ g.node (g.handed s) + 1
  pub head_late : (s : ℕ) → s < n → 6 ≤ (v.side s).stage → (v.side s).head ≡ g.node (g.handed s + 1) + 1
  pub taken_is : (s : ℕ) → s < n → (v.side s).stage ≤ 6 → (v.side s).taken ≡ g.handed s
  pub taken_late : (s : ℕ) → s < n → 7 ≤ (v.side s).stage → (v.side s).taken ≡ g.handed s + 1
  pub dummy_is : (s : ℕ) → s < n → 2 ≤ (v.side s).stage → (v.side s).dummy ≡ g.node (g.handed s)
  pub seen_is : (s : ℕ) → s < n → 3 ≤ (v.side s).stage → (v.side s).seen ≡ g.handed s
  pub side_most : (s : ℕ) → s < n → (v.side s).stage ≤ 7

pub record Takes (c life n : ℕ) (v : Queue) (g : Ghosts) : Type 0 where
  pub some_left : (s : ℕ) → s < n → 5 ≤ (v.side s).stage → g.handed s < g.accepted
  pub after_is : (s : ℕ) → s < n → 4 ≤ (v.side s).stage → (v.side s).stage ≤ 5 → g.handed s < g.accepted → (v.side s).after ≡ g.node (g.handed s + 1) + 1
  pub after_mark : (s : ℕ) → s < n → 4 ≤ (v.side s).stage → g.handed s ≡ g.accepted → (v.side s).after ≡ c + 2
  pub after_shut : (s : ℕ) → s < n → 4 ≤ (v.side s).stage → g.handed s ≡ g.accepted → g.shut ≡ 1
  pub read : (s j : ℕ) → s < n → 4 ≤ (v.side s).stage → g.handed s < g.accepted → j < (v.side s).got → (v.side s).word j ≡ g.items (g.handed s) j
  pub read_whole : (s : ℕ) → s < n → 5 ≤ (v.side s).stage → (v.side s).got ≡ g.long (g.handed s)
  pub read_more : (s : ℕ) → s < n → (v.side s).stage ≡ 4 → g.handed s < g.accepted → (v.side s).got < g.long (g.handed s)
  pub read_none : (s : ℕ) → s < n → (v.side s).stage ≡ 4 → g.handed s ≡ g.accepted → (v.side s).got ≡ 0
  pub known_most : (s : ℕ) → s < n → 1 ≤ (v.side s).stage → (v.side s).known ≤ g.accepted + g.shut

pub record LInv (c life n : ℕ) (v : Queue) (g : Ghosts) : Type 0 where
  pub hands : Hands c life n v g
  pub live : Live c life n v g
  pub nodes : Nodes c life n v g
  pub links : Links c life n v g
  pub words : Words c life n v g
  pub branch : Branch c life n v g
  pub request : Request c life n v g
  pub found : Found c life n v g
  pub prepared : Prepared c life n v g
  pub scan : Scan c life n v g
  pub heads : Heads c life n v g
  pub takes : Takes c life n v g
