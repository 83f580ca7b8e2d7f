-- Each line of the service of a take of a group keeps the list's invariant. The registers of that group's service follow from
-- the place of its pass, those of the others stay.
use Rattle.std.proofs.Common.{◌≡◌, ◌≢◌, ℕ, zero, suc, ◌+◌, ◌<◌, ◌≤◌, arith, refl, sym, ap, ◌∙◌}
use Rattle.std.proofs.lemmas.Bool.{cases_eq}
use Rattle.cc_runs.specs.Names.{Config, ItemField, Object as Obj, Word, Parcel, Taking}
use Rattle.cc_runs.specs.Words.{put, object_number}
use Rattle.cc_runs.specs.Codes.{further_words, word, with_read}
use Rattle.cc_runs.specs.State.{word_of, stored}
use Rattle.cc_runs.proofs.Bodies.{few_further}
use Rattle.cc_runs.proofs.ReadWords.{next_word, behind_word}
use Rattle.cc_runs.proofs.Chains.View.{words_of}
use Rattle.cc_runs.specs.ServiceLine.{Next, On, Decides, DecidesAndOn, Tells}
use Rattle.cc_runs.specs.TakeLines.{line, by_next, by_tag, operation}
use Rattle.cc_runs.proofs.LinkedList.Queue.{Enq, Queue, Ghosts, SameWords, SameCells}
use Rattle.cc_runs.proofs.LinkedList.Invariant.{LInv, Heads, Takes}
use Rattle.cc_runs.proofs.LinkedList.Grow.{Gives}
use Rattle.cc_runs.proofs.ListRuns.View.{Duty, Regs, long_of, none, regs_in, queue_from, object_here, object_other}

-- a fact that names no side of the takes stays if they alone change
sides_keep : (c life n : ℕ) (v v' : Queue) (g : Ghosts) → SameWords v v' → SameCells v v' → v'.enq ≡ v.enq → LInv c life n v g → Heads c life n v' g → Takes c life n v' g → LInv c life n v' g
sides_keep c life n v v' g words cells enq i heads takes = grind (arith, heads, takes)

module _ (mem : Word → ℕ) (d : Duty) (e : Enq) (c : Config) (n : ℕ) (g : Ghosts) (y : ℕ) (inside : y < n) (r r' : ℕ → Regs) (same : (q : ℕ) → q ≢ y → r' q ≡ r q) where
  -- the invariant before the step and after it
  abbrev Before : Type 0
  Before = LInv c.capacity c.life n (queue_from mem d e r) g

  abbrev Keeps : (Word → ℕ) → Taking → Type 0
  Keeps m service = r' y ≡ regs_in service → LInv c.capacity c.life n (queue_from m d e r') g

  abbrev Rests : (Word → ℕ) → Type 0
  Rests m = r' y ≡ none → LInv c.capacity c.life n (queue_from m d e r') g

  abbrev After : (Word → ℕ) → Next Taking → Type 0
  After m (On service) = Keeps m service
  After m (Decides told) = Rests m
  After m (DecidesAndOn told service) = Keeps m service
  After m (Tells told) = Rests m

  -- the line of this step keeps it
  abbrev LineKeeps : Taking → Type 0
  LineKeeps service = r y ≡ regs_in service → Before → After (stored mem (operation y service)) (line y service (mem (word_of (operation y service)))).next

  -- a load leaves all words
  loaded : Before → Heads c.capacity c.life n (queue_from mem d e r') g → Takes c.capacity c.life n (queue_from mem d e r') g → LInv c.capacity c.life n (queue_from mem d e r') g
  loaded i heads takes = sides_keep c.capacity c.life n _ _ g (record { last = refl; shut = refl; count = refl; cursor = refl }) (record { next = λ x. refl; passed = λ x. refl; word = λ x j. refl }) refl i heads takes

  -- a store to a word of a group leaves those that all share
  stored_keeps : (o : Obj) (value : ℕ) → 4 ≤ object_number o → Before → Heads c.capacity c.life n (queue_from (put mem (Word.Object o) value) d e r') g → Takes c.capacity c.life n (queue_from (put mem (Word.Object o) value) d e r') g
      → LInv c.capacity c.life n (queue_from (put mem (Word.Object o) value) d e r') g
  stored_keeps o value high i heads takes = sides_keep c.capacity c.life n _ _ g
      (record { last = other Obj.Last (λ z. omega (arith, high, z)); shut = other Obj.Shut (λ z. omega (arith, high, z)); count = other Obj.Count (λ z. omega (arith, high, z)); cursor = other Obj.Cursor (λ z. omega (arith, high, z)) })
      (record { next = λ x. refl; passed = λ x. refl; word = λ x j. refl }) refl i heads takes
    where
      other : (q : Obj) → object_number o ≢ object_number q → put mem (Word.Object o) value (Word.Object q) ≡ mem (Word.Object q)
      other q ne = object_other mem o q value ne

  pub read_head : 0 < mem (Word.Object (Obj.Head y)) → LineKeeps Taking.ReadHead
  read_head some a i b = loaded i (grind (arith, cases_eq, a, b, same)) (grind (arith, cases_eq, a, b, same))

  pub read_taken : (dummy : ℕ) → LineKeeps (Taking.ReadTaken dummy)
  read_taken dummy a i b = loaded i (grind (arith, cases_eq, a, b, same)) (grind (arith, cases_eq, a, b, same))

  pub read_null : (dummy taken : ℕ) → r y ≡ regs_in (Taking.ReadDummyNext dummy taken) → Before → After mem (by_next dummy taken zero)
  read_null dummy taken a i b = loaded i (grind (arith, cases_eq, a, b, same)) (grind (arith, cases_eq, a, b, same))

  pub read_mark : (dummy taken at : ℕ) → r y ≡ regs_in (Taking.ReadItemTag dummy taken at) → Before → After mem (by_tag dummy taken at zero)
  read_mark dummy taken at a i b = loaded i (grind (arith, cases_eq, a, b, same)) (grind (arith, cases_eq, a, b, same))

  live : Before → g.least ≤ g.handed y
  live i = i.hands.least_is y inside

  in_order : Before → g.handed y ≤ g.accepted
  in_order i = i.hands.order y inside

  pub read_link : (dummy taken at : ℕ) → mem (Word.Item dummy ItemField.Next) ≡ suc at → r y ≡ regs_in (Taking.ReadDummyNext dummy taken) → Before → After mem (by_next dummy taken (suc at))
  read_link dummy taken at is a i b = loaded i (grind (arith, cases_eq, a, b, same, live i, in_order i)) (grind (arith, cases_eq, a, b, same, more, ended_shut, ended))
    where
      dummy_is : dummy ≡ g.node (g.handed y)
      dummy_is = grind (arith, a, i.heads.dummy_is y)

      more : g.handed y < g.accepted → at ≡ g.node (g.handed y + 1)
      more l = grind (arith, dummy_is, live i, is, i.links.links (g.handed y))

      ended_shut : g.handed y ≡ g.accepted → g.shut ≡ 1
      ended_shut z = grind (arith, dummy_is, is, cases_eq g.shut 0, i.links.end_open, i.branch.shut_most)

      ended : g.handed y ≡ g.accepted → at ≡ c.capacity + 1
      ended z = grind (arith, dummy_is, is, ended_shut z, i.links.end_shut)

  pub read_tag : (dummy taken at tag : ℕ) → g.tells ≡ long_of → mem (Word.Item at ItemField.Tag) ≡ suc tag → r y ≡ regs_in (Taking.ReadItemTag dummy taken at) → Before → After mem (by_tag dummy taken at (suc tag))
  read_tag dummy taken at tag tells is a i b = loaded i (grind (arith, cases_eq, a, b, same, more)) (grind (arith, cases_eq, a, b, same, more, after_is, tag_is, long_is))
    where
      not_mark : g.handed y ≢ g.accepted
      not_mark z = grind (arith, a, is, i.takes.after_mark y, i.links.mark_tag)

      more : g.handed y < g.accepted
      more = omega (arith, in_order i, not_mark)

      after_is : at ≡ g.node (g.handed y + 1)
      after_is = grind (arith, a, i.takes.after_is y, more)

      long_is : g.long (g.handed y) ≡ long_of (g.items (g.handed y) 0)
      long_is = i.links.long_is (g.handed y) more ∙ ap (λ (f : ℕ → ℕ). f (g.items (g.handed y) 0)) tells

      tag_is : suc tag ≡ g.items (g.handed y) 0
      tag_is = grind (arith, is, after_is, more, live i, long_is, i.links.items (g.handed y) 0)

  -- a word of a body, and what the next step is then
  module _ (dummy at : ℕ) (p : Parcel) (j : ℕ) (tells : g.tells ≡ long_of) (a : r y ≡ regs_in (Taking.ReadItemBody dummy at p j)) (i : Before) where
    abbrev now : Parcel
    now = with_read p j (mem (Word.Item at (ItemField.Body j)))

    not_mark : g.handed y ≢ g.accepted
    not_mark z = grind (arith, a, i.takes.read_none y)

    more : g.handed y < g.accepted
    more = omega (arith, in_order i, not_mark)

    after_is : at ≡ g.node (g.handed y + 1)
    after_is = grind (arith, a, i.takes.after_is y, more)

    long_is : g.long (g.handed y) ≡ long_of (g.items (g.handed y) 0)
    long_is = i.links.long_is (g.handed y) more ∙ ap (λ (f : ℕ → ℕ). f (g.items (g.handed y) 0)) tells

    read_so : (k : ℕ) → k < suc j → words_of p.tag (word p.body) k ≡ g.items (g.handed y) k
    read_so k l = sym (ap (λ (z : Regs). z.word k) a) ∙ i.takes.read y k inside (omega (arith, ap (λ (z : Regs). z.stage) a)) more (omega (arith, l, ap (λ (z : Regs). z.got) a))

    tag_is : p.tag ≡ g.items (g.handed y) 0
    tag_is = read_so 0 (omega arith)

    low : j ≤ further_words p.tag
    low = omega (arith, ap (λ (z : Regs). z.got) a, i.takes.read_more y inside (ap (λ (z : Regs). z.stage) a) more, long_is, ap long_of tag_is)

    found_is : mem (Word.Item at (ItemField.Body j)) ≡ g.items (g.handed y) (suc j)
    found_is = ap (λ (z : ℕ). mem (Word.Item z (ItemField.Body j))) after_is ∙ i.links.items (g.handed y) (suc j) (live i) more (omega (arith, low, long_is, ap long_of tag_is))

    word_is : (k : ℕ) → k < suc (suc j) → words_of now.tag (word now.body) k ≡ g.items (g.handed y) k
    word_is zero l = tag_is
    word_is (suc k) l = next_word p.body (λ (n : ℕ). g.items (g.handed y) (suc n)) j (mem (Word.Item at (ItemField.Body j))) (omega (arith, low, few_further p.tag)) found_is (λ n less. read_so (suc n) (omega arith)) k (omega arith)

    read_on : j < further_words p.tag → r' y ≡ regs_in (Taking.ReadItemBody dummy at now (j + 1)) → LInv c.capacity c.life n (queue_from mem d e r') g
    read_on less b = loaded i (grind (arith, cases_eq, a, b, same, more)) (grind (arith, cases_eq, a, b, same, more, after_is, word_is, long_is, small))
      where
        small : j + 2 < g.long (g.handed y)
        small = omega (arith, less, long_is, ap long_of tag_is)

    read_last : further_words p.tag ≤ j → r' y ≡ regs_in (Taking.WriteHead dummy at now) → LInv c.capacity c.life n (queue_from mem d e r') g
    read_last far b = loaded i (grind (arith, cases_eq, a, b, same, more)) (grind (arith, cases_eq, a, b, same, more, after_is, word_is, whole))
      where
        whole : (long_of p.tag ≡ g.long (g.handed y)) × (long_of p.tag ≡ suc (suc j))
        whole = omega (arith, far, low, long_is, ap long_of tag_is)

  pub read_body : (dummy at : ℕ) (p : Parcel) (j : ℕ) → g.tells ≡ long_of → LineKeeps (Taking.ReadItemBody dummy at p j)
  read_body dummy at p j tells a i = behind_word (λ (z : Taking). Keeps mem z) (further_words p.tag) j _ _ (read_on dummy at p j tells a i) (read_last dummy at p j tells a i)

  pub write_head : (dummy at : ℕ) (parcel : Parcel) → LineKeeps (Taking.WriteHead dummy at parcel)
  write_head dummy at parcel a i b = stored_keeps (Obj.Head y) (at + 1) (omega arith) i (grind (arith, cases_eq, a, b, same, more, head_now, head_else, taken_same)) (grind (arith, cases_eq, a, b, same, more))
    where
      more : g.handed y < g.accepted
      more = grind (arith, a, i.takes.some_left y)

      head_now : put mem (Word.Object (Obj.Head y)) (at + 1) (Word.Object (Obj.Head y)) ≡ g.node (g.handed y + 1) + 1
      head_now = object_here mem (Obj.Head y) (at + 1) ∙ grind (arith, a, more, i.takes.after_is y)

      head_else : (q : ℕ) → q ≢ y → put mem (Word.Object (Obj.Head y)) (at + 1) (Word.Object (Obj.Head q)) ≡ mem (Word.Object (Obj.Head q))
      head_else q ne = object_other mem (Obj.Head y) (Obj.Head q) (at + 1) (λ z. ne (omega (arith, z)))

      taken_same : (q : ℕ) → put mem (Word.Object (Obj.Head y)) (at + 1) (Word.Object (Obj.Taken q)) ≡ mem (Word.Object (Obj.Taken q))
      taken_same q = object_other mem (Obj.Head y) (Obj.Taken q) (at + 1) (λ z. omega (arith, z))

  pub write_taken : (dummy : ℕ) (parcel : Parcel) → LineKeeps (Taking.WriteTaken dummy parcel)
  write_taken dummy parcel a i b = stored_keeps (Obj.Taken y) (parcel.place + 1) (omega arith) i (grind (arith, cases_eq, a, b, same, taken_now, taken_else, head_same)) (grind (arith, cases_eq, a, b, same, more))
    where
      more : g.handed y < g.accepted
      more = grind (arith, a, i.takes.some_left y)

      taken_now : put mem (Word.Object (Obj.Taken y)) (parcel.place + 1) (Word.Object (Obj.Taken y)) ≡ g.handed y + 1
      taken_now = object_here mem (Obj.Taken y) (parcel.place + 1) ∙ grind (arith, a, i.heads.seen_is y)

      taken_else : (q : ℕ) → q ≢ y → put mem (Word.Object (Obj.Taken y)) (parcel.place + 1) (Word.Object (Obj.Taken q)) ≡ mem (Word.Object (Obj.Taken q))
      taken_else q ne = object_other mem (Obj.Taken y) (Obj.Taken q) (parcel.place + 1) (λ z. ne (omega (arith, z)))

      head_same : (q : ℕ) → put mem (Word.Object (Obj.Taken y)) (parcel.place + 1) (Word.Object (Obj.Head q)) ≡ mem (Word.Object (Obj.Head q))
      head_same q = object_other mem (Obj.Taken y) (Obj.Head q) (parcel.place + 1) (λ z. omega (arith, z))

  -- the add to passed of the old dummy: one item more is handed out on this side
  pub add_passed : (g' : Ghosts) (dummy : ℕ) (parcel : Parcel) → Gives n g g' y → r y ≡ regs_in (Taking.AddPassed dummy parcel) → Before → r' y ≡ none
      → LInv c.capacity c.life n (queue_from (stored mem (operation y (Taking.AddPassed dummy parcel))) d e r') g'
  add_passed g' dummy parcel u a i b = record {
    hands = grind (arith, cases_eq, more, live i, least_in);
    live = grind (arith, more, live i, least_in);
    nodes = grind (arith, cases_eq, dummy_is, more, live i, dummy_in, dummy_role, dummy_pos, dummy_passed);
    links = grind (arith, more, live i, least_in);
    words = grind (arith, more, live i);
    branch = grind (arith, more, live i);
    request = grind (arith, more, live i);
    found = grind (arith, cases_eq, dummy_is, dummy_in, dummy_role, dummy_passed);
    prepared = grind (arith, more, live i);
    scan = grind (arith, more, live i);
    heads = grind (arith, cases_eq, a, b, same, more, live i);
    takes = grind (arith, cases_eq, a, b, same, more, live i);
  }
    where
      dummy_is : dummy ≡ g.node (g.handed y)
      dummy_is = grind (arith, a, i.heads.dummy_is y)

      more : g.handed y < g.accepted
      more = grind (arith, a, i.takes.some_left y)

      dummy_in : dummy ≤ c.capacity
      dummy_in = grind (arith, dummy_is, in_order i, live i, i.live.live_in (g.handed y))

      dummy_role : g.role dummy ≡ 2
      dummy_role = grind (arith, dummy_is, in_order i, live i, i.live.live_role (g.handed y))

      dummy_pos : g.pos dummy ≡ g.handed y
      dummy_pos = grind (arith, dummy_is, in_order i, live i, i.live.live_pos (g.handed y))

      dummy_passed : mem (Word.Item dummy ItemField.Passed) < n
      dummy_passed = grind (arith, dummy_in, dummy_role, dummy_pos, live i, i.nodes.passed_is dummy, i.hands.by_some (g.handed y))

      least_in : g'.least ≤ g'.accepted
      least_in = grind (arith, u.least_most y)

-- a call of this group enters its service
pub enters : (mem : Word → ℕ) (d d' : Duty) (e : Enq) (r r' : ℕ → Regs) (c : Config) (n : ℕ) (g : Ghosts) (y : ℕ) → ((q : ℕ) → q ≢ y → (r' q ≡ r q) × (d'.d_call q ≡ d.d_call q))
    → (r y).stage ≡ 0 → r' y ≡ regs_in Taking.ReadHead → (d'.d_call y).known ≤ g.accepted + g.shut → LInv c.capacity c.life n (queue_from mem d e r) g → LInv c.capacity c.life n (queue_from mem d' e r') g
enters mem d d' e r r' c n g y others from b known i = sides_keep c.capacity c.life n _ _ g (record { last = refl; shut = refl; count = refl; cursor = refl }) (record { next = λ x. refl; passed = λ x. refl; word = λ x j. refl }) refl i
    (grind (arith, cases_eq, b, others, from)) (grind (arith, cases_eq, b, others, from, known))
