-- Each line of the service of a send or a close keeps the list's invariant.
use Rattle.std.proofs.Common.{◌≡◌, ◌≢◌, ℕ, zero, suc, ◌+◌, ◌<◌, ◌≤◌, arith, refl, sym, ap, ◌∙◌}
use Rattle.std.proofs.lemmas.Bool.{cases_eq}
use Rattle.cc_runs.specs.Names.{Config, ItemField, Object, Word, Parcel, Request, Sending}
use Rattle.cc_runs.specs.State.{word_of, stored}
use Rattle.cc_runs.specs.Words.{put}
use Rattle.cc_runs.specs.Codes.{request_in, further_words, word, no_words, parcel as parcel_of}
use Rattle.cc_runs.proofs.Chains.Registers.{HasRequest}
use Rattle.cc_runs.specs.ServiceLine.{Next, On, Decides, DecidesAndOn, Tells}
use Rattle.cc_runs.specs.SendLines.{line, by_shut, operation}
use Rattle.cc_runs.proofs.ReadWords.{behind_word}
use Rattle.cc_runs.proofs.Changed.{changed_here, changed_away, changed}
use Rattle.cc_runs.proofs.LinkedList.Queue.{Enq, Queue, Ghosts}
use Rattle.cc_runs.proofs.LinkedList.Invariant.{LInv}
use Rattle.cc_runs.proofs.LinkedList.Scan.{looked, looked_role, looked_known}
use Rattle.cc_runs.proofs.LinkedList.Grow.{Accepts}
use Rattle.cc_runs.proofs.ListRuns.View.{Duty, Regs, long_of, asks_of, enq_in, resting, item_word, part_here, part_other, queue_from}

module _ (mem : Word → ℕ) (d : Duty) (r : ℕ → Regs) (c : Config) (n : ℕ) (g : Ghosts) where
  -- the invariant at a step of the service, and if nobody serves
  abbrev Keeps : (Word → ℕ) → Sending → Type 0
  Keeps m service = LInv c.capacity c.life n (queue_from m d (enq_in d.e_call d.from service) r) g

  abbrev Rests : (Word → ℕ) → Type 0
  Rests m = LInv c.capacity c.life n (queue_from m d (resting d.e_call d.from) r) g

  abbrev After : (Word → ℕ) → Next Sending → Type 0
  After m (On service) = Keeps m service
  After m (Decides told) = Rests m
  After m (DecidesAndOn told service) = Keeps m service
  After m (Tells told) = Rests m

  -- the line of this step keeps it
  abbrev LineKeeps : Sending → Type 0
  LineKeeps service = Keeps mem service → After (stored mem (operation c 0 service)) (line c 0 service (mem (word_of (operation c 0 service)))).next

  pub write_last : (place at : ℕ) → LineKeeps (Sending.WriteLast place at)
  write_last place at i = grind arith

  pub write_count : (place at : ℕ) → LineKeeps (Sending.WriteCount place at)
  write_count place at i = grind arith

  pub write_cursor : (place at : ℕ) → LineKeeps (Sending.WriteCursor place at)
  write_cursor place at i = grind arith

  pub write_last_mark : (total : ℕ) → LineKeeps (Sending.WriteLastMark total)
  write_last_mark total i = grind arith

  pub write_shut : (total : ℕ) → LineKeeps (Sending.WriteShut total)
  write_shut total i = grind arith

  pub read_total : LineKeeps Sending.ReadTotal
  read_total i = grind arith

  pub read_last : (place at : ℕ) → 0 < mem (Word.Object Object.Last) → LineKeeps (Sending.ReadLast place at)
  read_last place at some i = grind arith

  pub read_last_to_close : (total : ℕ) → 0 < mem (Word.Object Object.Last) → LineKeeps (Sending.ReadLastToClose total)
  read_last_to_close total some i = grind arith

  -- the node that is prepared is at no place
  apart : (v : Queue) → LInv c.capacity c.life n v g → 7 ≤ v.enq.stage → v.enq.stage ≤ 10 → (k : ℕ) → g.least ≤ k → k ≤ g.accepted → g.node k ≢ v.enq.found
  apart v i low high k a b = grind (arith, i.live.live_role k, i.found.found_role)

  pub reset_next : (parcel : Parcel) (at : ℕ) → LineKeeps (Sending.ResetItemNext parcel at)
  reset_next parcel at i = grind (arith, cases_eq, apart _ i (omega arith) (omega arith))

  pub write_tag : (parcel : Parcel) (at : ℕ) → parcel.tag ≡ (request_in d.e_call).tag → LineKeeps (Sending.WriteItemTag parcel at)
  write_tag parcel at same i = grind (arith, cases_eq, apart _ i (omega arith) (omega arith))

  -- a word of a body, and what the next step is then
  module _ (parcel : Parcel) (at i : ℕ) (asked : HasRequest d.e_call parcel.tag parcel.body) (low : i ≤ further_words parcel.tag) (v : Keeps mem (Sending.WriteItemBody parcel at i)) where
    abbrev now : Word → ℕ
    now = put mem (Word.Item at (ItemField.Body i)) (word parcel.body i)

    is : word parcel.body i ≡ asks_of d.e_call (suc i)
    is = asked.1 i (omega arith)

    here : item_word now at (suc i) ≡ word parcel.body i
    here = part_here mem at i (word parcel.body i)

    others : (x j : ℕ) → (at ≡ x → j ≢ suc i) → item_word now x j ≡ item_word mem x j
    others x j ne = part_other mem at i (word parcel.body i) x j ne

    word_on : i < further_words parcel.tag → Keeps now (Sending.WriteItemBody parcel at (i + 1))
    word_on more = grind (arith, cases_eq, apart _ v (omega arith) (omega arith), here, others, is)

    word_last : further_words parcel.tag ≤ i → Keeps now (Sending.ReadLast parcel.place at)
    word_last far = grind (arith, cases_eq, apart _ v (omega arith) (omega arith), here, others, is, last)
      where
        last : long_of (request_in d.e_call).tag ≡ i + 2
        last = omega (arith, ap further_words asked.0, far, low)

  pub write_body : (parcel : Parcel) (at i : ℕ) → HasRequest d.e_call parcel.tag parcel.body → i ≤ further_words parcel.tag → LineKeeps (Sending.WriteItemBody parcel at i)
  write_body parcel at i asked low v = behind_word (Keeps (put mem (Word.Item at (ItemField.Body i)) (word parcel.body i))) (further_words parcel.tag) i _ _ (word_on parcel at i asked low v) (word_last parcel at i asked low v)

  -- ---- the loads that branch

  pub read_shut_open : (q : Request) → mem (Word.Object Object.Shut) ≡ 0 → Keeps mem (Sending.ReadShut q) → After mem (by_shut q zero)
  read_shut_open q e i = grind arith

  pub read_shut_close : (q : Request) → mem (Word.Object Object.Shut) ≢ 0 → asks_of d.e_call 0 ≡ 0 → Keeps mem (Sending.ReadShut q) → Keeps mem Sending.ReadTotal
  read_shut_close q ne z i = grind arith

  pub read_shut_send : (q : Request) → mem (Word.Object Object.Shut) ≢ 0 → asks_of d.e_call 0 ≢ 0 → Keeps mem (Sending.ReadShut q) → Rests mem
  read_shut_send q ne nz i = grind arith

  pub read_count_close : (q : Request) → asks_of d.e_call 0 ≡ 0 → Keeps mem (Sending.ReadCount q) → Keeps mem (Sending.ReadLastToClose (mem (Word.Object Object.Count)))
  read_count_close q z i = grind arith

  pub read_count_spent : (q : Request) → Keeps mem (Sending.ReadCount q) → Rests mem
  read_count_spent q i = grind arith

  pub read_count_on : (q : Request) (parcel : Parcel) → parcel.place ≡ mem (Word.Object Object.Count) → asks_of d.e_call 0 ≢ 0 → mem (Word.Object Object.Count) ≢ c.life → Keeps mem (Sending.ReadCount q) → Keeps mem (Sending.ReadCursor parcel)
  read_count_on q parcel same nz more i = grind arith

  -- ---- the stores that move a ghost

  pub reset_passed : (parcel : Parcel) (at : ℕ) → Keeps mem (Sending.ResetPassed parcel at) → LInv c.capacity c.life n (queue_from (stored mem (operation c 0 (Sending.ResetPassed parcel at))) d (enq_in d.e_call d.from (Sending.ResetItemNext parcel at)) r) (record g { role = changed g.role at 1 })
  reset_passed parcel at i = grind (arith, cases_eq, changed_here g.role at 1, changed_away g.role at 1, free, found_in, apart_free)
    where
      free : mem (Word.Item at ItemField.Passed) ≡ n
      free = grind arith

      found_in : at ≤ c.capacity
      found_in = grind arith

      apart_free : (k : ℕ) → g.least ≤ k → k ≤ g.accepted → g.node k ≢ at
      apart_free k a b = grind (arith, free, i.live.live_role k, i.live.live_in k, i.live.live_pos k, i.nodes.passed_is (g.node k), i.hands.by_some k)

  pub link_mark : (total last : ℕ) → Keeps mem (Sending.LinkMark total last) → LInv c.capacity c.life n (queue_from (stored mem (operation c 0 (Sending.LinkMark total last))) d (enq_in d.e_call d.from (Sending.WriteLastMark total)) r) (record g { shut = 1 })
  link_mark total last i = grind (arith, cases_eq, is_last, unshut, next_same)
    where
      is_last : last ≡ g.node g.accepted
      is_last = let e = i.prepared.last_mark refl in omega (arith, e)

      unshut : g.shut ≡ 0
      unshut = grind arith

      next_same : (k : ℕ) → g.least ≤ k → k < g.accepted → g.node k ≢ last
      next_same k a b = grind (arith, is_last, i.live.live_pos k, i.live.live_pos g.accepted)

  -- ---- the scan

  -- the node that is looked at: the scan's first and those that were tried, round the end
  abbrev Looked : ℕ → ℕ → Type 0
  Looked at reads = looked c.capacity (queue_from mem d (enq_in d.e_call d.from (Sending.ReadPassed (parcel_of 0 0 no_words) at reads)) r) at

  pub read_passed_free : (parcel : Parcel) (at reads : ℕ) → Looked at reads → mem (Word.Item at ItemField.Passed) ≡ n → Keeps mem (Sending.ReadPassed parcel at reads) → Keeps mem (Sending.ResetPassed parcel at)
  read_passed_free parcel at reads here free i = grind (arith, here)

  pub read_passed_full : (parcel : Parcel) (at reads : ℕ) → Keeps mem (Sending.ReadPassed parcel at reads) → Rests mem
  read_passed_full parcel at reads i = grind arith

  pub read_passed_busy : (parcel : Parcel) (at to reads : ℕ) → Looked at reads → mem (Word.Item at ItemField.Passed) ≢ n → 1 ≤ reads → reads ≤ c.capacity → Keeps mem (Sending.ReadPassed parcel at reads) → Keeps mem (Sending.ReadPassed parcel to (reads + 1))
  read_passed_busy parcel at to reads here busy low high i =
      let role = looked_role c.capacity c.life n at _ g i refl here busy in
      let known = looked_known c.capacity c.life n at _ g i refl here busy in
      grind (arith, cases_eq at, role, known, here)

-- the cursor is at the begin of the scan
pub read_cursor : (mem : Word → ℕ) (d : Duty) (r : ℕ → Regs) (c : Config) (n : ℕ) (g : Ghosts) (parcel : Parcel) (from : ℕ) → mem (Word.Object Object.Cursor) ≡ from
    → LInv c.capacity c.life n (queue_from mem d (enq_in d.e_call d.from (Sending.ReadCursor parcel)) r) g
    → LInv c.capacity c.life n (queue_from mem d (enq_in d.e_call from (Sending.ReadPassed parcel from 1)) r) g
read_cursor mem d r c n g parcel from e i = grind arith

-- ---- the stores that move the ghosts

module _ (mem : Word → ℕ) (d : Duty) (r : ℕ → Regs) (c : Config) (n : ℕ) (g g' : Ghosts) where
  -- the line of this step keeps it, with these ghosts then
  abbrev Moves : Sending → Type 0
  Moves service = Keeps mem d r c n g mem service → After mem d r c n g' (stored mem (operation c 0 service)) (line c 0 service (mem (word_of (operation c 0 service)))).next

  abbrev Step : Sending → Queue
  Step service = queue_from mem d (enq_in d.e_call d.from service) r

  pub link_item : (place at last : ℕ) → Accepts (Step (Sending.LinkItem place at last)) g g' → Moves (Sending.LinkItem place at last)
  link_item place at last u i = grind (arith, cases_eq, apart_item, is_last, unshut, node_same, next_same, item_now, tag_now, long_now)
    where
      item_now : (j : ℕ) → j < g'.long g.accepted → item_word mem at j ≡ g'.items g.accepted j
      item_now j l = i.prepared.written j (omega arith) (omega arith) (omega (arith, l, u.long_now)) ∙ sym (u.items_now j)

      tag_now : g'.items g.accepted 0 ≡ (request_in d.e_call).tag
      tag_now = u.items_now 0

      long_now : (g'.long g.accepted ≡ long_of (request_in d.e_call).tag) × (g'.long g.accepted ≡ g'.tells (g'.items g.accepted 0))
      long_now = (u.long_now, grind (arith, tag_now, u.long_now, i.request.long_told))

      is_last : last ≡ g.node g.accepted
      is_last = let e = i.prepared.last_item refl in omega (arith, e)

      apart_item : (k : ℕ) → g.least ≤ k → k ≤ g.accepted → g.node k ≢ at
      apart_item = apart mem d r c n g _ i (omega arith) (omega arith)

      unshut : g.shut ≡ 0
      unshut = grind arith

      next_same : (k : ℕ) → g.least ≤ k → k < g.accepted → g.node k ≢ last
      next_same k a b = grind (arith, is_last, i.live.live_pos k, i.live.live_pos g.accepted)

      node_same : (k : ℕ) → k ≤ g.accepted → g'.node k ≡ g.node k
      node_same k a = u.node k (λ e. omega arith)

-- a call enters the service
pub enters : (mem : Word → ℕ) (d d' : Duty) (old : Enq) (r : ℕ → Regs) (c : Config) (n : ℕ) (g : Ghosts) (q : Request) → old.stage ≡ 0 → g.tells ≡ long_of → d'.e_call.known ≤ g.least → d'.d_call ≡ d.d_call
    → LInv c.capacity c.life n (queue_from mem d old r) g → LInv c.capacity c.life n (queue_from mem d' (enq_in d'.e_call d'.from (Sending.ReadShut q)) r) g
enters mem d d' old r c n g q from tells known same i = let long = ap (λ (f : ℕ → ℕ). f (request_in d'.e_call).tag) tells in grind (arith, from, long, known, same)
