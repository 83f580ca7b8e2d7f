-- The list between the chains in the abstract: its words, its nodes, and the registers of the two services.
use Rattle.std.proofs.Common.{◌≡◌, ℕ}

-- The service of the send side. stage: 0 none, 1 rdShut, 2 rdCountA, 3 rdCount, 4 rdCursor, 5 rdPassed, 6 rsPassed, 7 rsNext, 8 wrItem, 9 rdLast, 10 linkItem,
-- 11 wrLastI, 12 wrCount, 13 wrCursor, 14 rdLastC, 15 linkMark, 16 wrLastC, 17 wrShut
pub record Enq : Type 0 where
  pub stage : ℕ
  pub asks : ℕ → ℕ  -- the words of the request that is served, the tag first
  pub asks_long : ℕ
  pub known : ℕ
  pub seen : ℕ  -- count, as it was read
  pub cursor : ℕ
  pub tried : ℕ
  pub found : ℕ
  pub wrote : ℕ
  pub last : ℕ

-- One take side: its two words, and its service. stage: 0 none, 1 rdHead, 2 rdTaken, 3 rdNext, 4 rdItem, 5 wrHead, 6 wrTaken, 7 addPassed
pub record Side : Type 0 where
  pub head : ℕ
  pub taken : ℕ
  pub stage : ℕ
  pub known : ℕ
  pub dummy : ℕ
  pub seen : ℕ  -- taken, as it was read
  pub after : ℕ  -- next of the dummy
  pub got : ℕ  -- how many words of the item are read
  pub word : ℕ → ℕ

pub record Queue : Type 0 where
  pub last : ℕ
  pub shut : ℕ
  pub count : ℕ
  pub cursor : ℕ
  pub next : ℕ → ℕ
  pub passed : ℕ → ℕ
  pub word : ℕ → ℕ → ℕ
  pub enq : Enq
  pub side : ℕ → Side

-- The facts that no word holds. accepted, handed, shut: the numbers of Accepted, of Got on each side, of Shut among the
-- answers. items, long: the words of the k-th accepted item, and how many. tells: how many words an item with this tag has, the
-- tag among them (never changes). node: the list node at place k (place 0 the first dummy, k + 1 the k-th item). role: 0 never
-- linked, 1 in preparation, 2 linked, at place `pos`. least: the smallest of handed. by k: how many sides have handed more than
-- k
pub record Ghosts : Type 0 where
  pub accepted : ℕ
  pub handed : ℕ → ℕ
  pub shut : ℕ
  pub items : ℕ → ℕ → ℕ
  pub long : ℕ → ℕ
  pub tells : ℕ → ℕ
  pub node : ℕ → ℕ
  pub role : ℕ → ℕ
  pub pos : ℕ → ℕ
  pub least : ℕ
  pub by : ℕ → ℕ

-- Parts that a step leaves alone
pub record SameWords (v v' : Queue) : Type 0 where
  pub last : v'.last ≡ v.last
  pub shut : v'.shut ≡ v.shut
  pub count : v'.count ≡ v.count
  pub cursor : v'.cursor ≡ v.cursor

pub record SameCells (v v' : Queue) : Type 0 where
  pub next : (x : ℕ) → v'.next x ≡ v.next x
  pub passed : (x : ℕ) → v'.passed x ≡ v.passed x
  pub word : (x j : ℕ) → v'.word x j ≡ v.word x j

pub record SameLog (g g' : Ghosts) : Type 0 where
  pub accepted : g'.accepted ≡ g.accepted
  pub shut : g'.shut ≡ g.shut
  pub items : (k j : ℕ) → g'.items k j ≡ g.items k j
  pub long : (k : ℕ) → g'.long k ≡ g.long k
  pub tells : (a : ℕ) → g'.tells a ≡ g.tells a
  pub node : (k : ℕ) → g'.node k ≡ g.node k

pub record SameHands (g g' : Ghosts) : Type 0 where
  pub handed : (s : ℕ) → g'.handed s ≡ g.handed s
  pub least : g'.least ≡ g.least
  pub by : (k : ℕ) → g'.by k ≡ g.by k

pub record SameRoles (g g' : Ghosts) : Type 0 where
  pub role : (x : ℕ) → g'.role x ≡ g.role x
  pub pos : (x : ℕ) → g'.pos x ≡ g.pos x
