-- A state of the machine as the list between the chains.
use Rattle.std.proofs.Common.{◌≡◌, ◌≢◌, ℕ, zero, suc, ◌+◌, ◌-◌, ◌==◌, ◌&&◌, Bool, true, false, cond, refl, sym, ap, ◌∙◌, subst}
use Rattle.std.proofs.Math.Bool.{and-false}
use Rattle.std.proofs.lemmas.Bool.{eq-eqb, ne_eqb, eqb-true, eqb-false}
use Rattle.cc_runs.specs.Names.{Entry, ItemField, Object as Obj, Word, Phase, Sending, Taking, Stand}
use Rattle.cc_runs.specs.Words.{put, object_number}
use Rattle.cc_runs.specs.State.{State, hold}
use Rattle.cc_runs.specs.Codes.{request_in, further_words, word}
use Rattle.cc_runs.proofs.Chains.View.{words_of, no_word}
use Rattle.cc_runs.proofs.LinkedList.Queue.{Enq, Side, Queue}

-- The facts that no word and no place holds of the two services: which pass served last on each side, the call that it
-- serves or served last, and the begin of the scan for a free node; the takes' by the group
pub record Duty : Type 0 where
  pub e_pass : ℕ
  pub e_call : Entry
  pub from : ℕ
  pub d_pass : ℕ → ℕ
  pub d_call : ℕ → Entry

-- how many words an item or a request has whose tag this is, the tag among them
abbrev pub long_of : ℕ → ℕ
long_of tag = further_words tag + 2

-- the words of the request that is served
abbrev pub asks_of : Entry → ℕ → ℕ
asks_of e = words_of (request_in e).tag (word (request_in e).body)

-- the service of the send side if nobody serves
abbrev pub resting : Entry → ℕ → Enq
resting e from = record { stage = 0; asks = asks_of e; asks_long = long_of (request_in e).tag; known = e.known; seen = 0; cursor = from; tried = 0; found = 0; wrote = 0; last = 0 }

-- and at a step of the service of this call, whose scan began so
abbrev pub enq_in : Entry → ℕ → Sending → Enq
enq_in e from Sending.ReadTag = resting e from
enq_in e from (Sending.ReadBody request i) = resting e from
enq_in e from (Sending.ReadShut request) = record (resting e from) { stage = 1 }
enq_in e from Sending.ReadTotal = record (resting e from) { stage = 2 }
enq_in e from (Sending.ReadCount request) = record (resting e from) { stage = 3 }
enq_in e from (Sending.ReadCursor parcel) = record (resting e from) { stage = 4; seen = parcel.place }
enq_in e from (Sending.ReadPassed parcel at reads) = record (resting e from) { stage = 5; seen = parcel.place; tried = reads - 1 }
enq_in e from (Sending.ResetPassed parcel at) = record (resting e from) { stage = 6; seen = parcel.place; found = at }
enq_in e from (Sending.ResetItemNext parcel at) = record (resting e from) { stage = 7; seen = parcel.place; found = at }
enq_in e from (Sending.WriteItemTag parcel at) = record (resting e from) { stage = 8; seen = parcel.place; found = at }
enq_in e from (Sending.WriteItemBody parcel at i) = record (resting e from) { stage = 8; seen = parcel.place; found = at; wrote = suc i }
enq_in e from (Sending.ReadLast count at) = record (resting e from) { stage = 9; seen = count; found = at; wrote = long_of (request_in e).tag }
enq_in e from (Sending.LinkItem count at last) = record (resting e from) { stage = 10; seen = count; found = at; wrote = long_of (request_in e).tag; last = last + 1 }
enq_in e from (Sending.WriteLast count at) = record (resting e from) { stage = 11; seen = count; found = at }
enq_in e from (Sending.WriteCount count at) = record (resting e from) { stage = 12; seen = count; found = at }
enq_in e from (Sending.WriteCursor count at) = record (resting e from) { stage = 13; seen = count; found = at }
enq_in e from (Sending.ReadLastToClose total) = record (resting e from) { stage = 14; seen = total }
enq_in e from (Sending.LinkMark total last) = record (resting e from) { stage = 15; seen = total; last = last + 1 }
enq_in e from (Sending.WriteLastMark total) = record (resting e from) { stage = 16; seen = total }
enq_in e from (Sending.WriteShut total) = record (resting e from) { stage = 17; seen = total }

abbrev pub enq_at : Entry → ℕ → Phase → Enq
enq_at e from (Phase.Sending job service) = enq_in e from service
enq_at e from _ = resting e from

-- the registers of the service of a take
pub record Regs : Type 0 where
  pub stage : ℕ
  pub dummy : ℕ
  pub seen : ℕ
  pub after : ℕ
  pub got : ℕ
  pub word : ℕ → ℕ

abbrev pub none : Regs
none = record { stage = 0; dummy = 0; seen = 0; after = 0; got = 0; word = no_word }

abbrev pub regs_in : Taking → Regs
regs_in Taking.ReadHead = record none { stage = 1 }
regs_in (Taking.ReadTaken dummy) = record none { stage = 2; dummy = dummy }
regs_in (Taking.ReadDummyNext dummy taken) = record none { stage = 3; dummy = dummy; seen = taken }
regs_in (Taking.ReadItemTag dummy taken at) = record none { stage = 4; dummy = dummy; seen = taken; after = at + 1 }
regs_in (Taking.ReadItemBody dummy at p i) = record { stage = 4; dummy = dummy; seen = p.place; after = at + 1; got = suc i; word = words_of p.tag (word p.body) }
regs_in (Taking.WriteHead dummy at parcel) = record { stage = 5; dummy = dummy; seen = parcel.place; after = at + 1; got = long_of parcel.tag; word = words_of parcel.tag (word parcel.body) }
regs_in (Taking.WriteTaken dummy parcel) = record { stage = 6; dummy = dummy; seen = parcel.place; after = 0; got = long_of parcel.tag; word = words_of parcel.tag (word parcel.body) }
regs_in (Taking.AddPassed dummy parcel) = record { stage = 7; dummy = dummy; seen = parcel.place; after = 0; got = long_of parcel.tag; word = words_of parcel.tag (word parcel.body) }

abbrev pub regs_at : Phase → Regs
regs_at (Phase.Taking job service) = regs_in service
regs_at _ = none

abbrev pub side_from : (head taken : ℕ) → Entry → Regs → Side
side_from head taken call r = record {
  head = head;
  taken = taken;
  stage = r.stage;
  known = call.known;
  dummy = r.dummy;
  seen = r.seen;
  after = r.after;
  got = r.got;
  word = r.word;
}

abbrev pub item_word : (Word → ℕ) → ℕ → ℕ → ℕ
item_word mem x = words_of (mem (Word.Item x ItemField.Tag)) (λ i. mem (Word.Item x (ItemField.Body i)))

-- of the words, the calls that the groups serve, and the registers of all services
abbrev pub queue_from : (Word → ℕ) → Duty → Enq → (ℕ → Regs) → Queue
queue_from mem d e r = record {
  last = mem (Word.Object Obj.Last);
  shut = mem (Word.Object Obj.Shut);
  count = mem (Word.Object Obj.Count);
  cursor = mem (Word.Object Obj.Cursor);
  next = λ x. mem (Word.Item x ItemField.Next);
  passed = λ x. mem (Word.Item x ItemField.Passed);
  word = λ x. item_word mem x;
  enq = e;
  side = λ y. side_from (mem (Word.Object (Obj.Head y))) (mem (Word.Object (Obj.Taken y))) (d.d_call y) (r y);
}

-- the registers of the groups' services if the passes are so
abbrev pub regs_of : (ℕ → Stand) → Duty → ℕ → Regs
regs_of stands d y = regs_at (stands (d.d_pass y)).phase

abbrev pub queue_of : State → Duty → Queue
queue_of s d = queue_from s.mem d (enq_at d.e_call d.from (s.stand d.e_pass).phase) (regs_of s.stand d)

-- ---- a store to a word of the object

pub object_here : (mem : Word → ℕ) (o : Obj) (value : ℕ) → put mem (Word.Object o) value (Word.Object o) ≡ value
object_here mem o value = ap (λ (b : Bool). cond b value (mem (Word.Object o))) (eq-eqb _ _ refl)

pub object_other : (mem : Word → ℕ) (o q : Obj) (value : ℕ) → object_number o ≢ object_number q → put mem (Word.Object o) value (Word.Object q) ≡ mem (Word.Object q)
object_other mem o q value ne = ap (λ (b : Bool). cond b value (mem (Word.Object q))) (ne_eqb _ _ ne)

-- ---- a store to a word of an item's body

pub part_here : (mem : Word → ℕ) (x i value : ℕ) → item_word (put mem (Word.Item x (ItemField.Body i)) value) x (suc i) ≡ value
part_here mem x i value = (λ k. cond (eq-eqb i i refl k && (x == x)) value (mem (Word.Item x (ItemField.Body i)))) ∙ ap (λ (b : Bool). cond b value (mem (Word.Item x (ItemField.Body i)))) (eq-eqb x x refl)

pub part_other : (mem : Word → ℕ) (x i value y j : ℕ) → (x ≡ y → j ≢ suc i) → item_word (put mem (Word.Item x (ItemField.Body i)) value) y j ≡ item_word mem y j
part_other mem x i value y zero ne = refl
part_other mem x i value y (suc j) ne = by_node (x == y) refl
  where
    by_node : (b : Bool) → (x == y) ≡ b → put mem (Word.Item x (ItemField.Body i)) value (Word.Item y (ItemField.Body j)) ≡ mem (Word.Item y (ItemField.Body j))
    by_node true same = ap (λ (b : Bool). cond (b && (x == y)) value (mem (Word.Item y (ItemField.Body j)))) (ne_eqb i j (λ e. ne (eqb-true x y same) (ap suc (sym e))))
    by_node false other = ap (λ (b : Bool). cond ((i == j) && b) value (mem (Word.Item y (ItemField.Body j)))) other ∙ ap (λ (b : Bool). cond b value (mem (Word.Item y (ItemField.Body j)))) (and-false (i == j))

-- ---- a pass that goes on

pub hold_other : (stands : ℕ → Stand) (p q : ℕ) (now : Stand) → p ≢ q → hold stands p now q ≡ stands q
hold_other stands p q now ne = ap (λ (b : Bool). cond b now (stands q)) (ne_eqb p q ne)

-- what a pass doesn't change of itself it changes of nobody
pub hold_same : {X : Type 0} (look : Stand → X) (stands : ℕ → Stand) (p : ℕ) (now : Stand) → look now ≡ look (stands p) → (q : ℕ) → look (hold stands p now q) ≡ look (stands q)
hold_same {X} look stands p now e q = by_case (p == q) refl
  where
    by_case : (b : Bool) → (p == q) ≡ b → look (cond b now (stands q)) ≡ look (stands q)
    by_case true same = e ∙ ap (λ (k : ℕ). look (stands k)) (eqb-true p q same)
    by_case false same = refl

-- a fact of the pass as it is now, and of each other one, holds of all
pub hold_all : (P : ℕ → Stand → Type 0) (stands : ℕ → Stand) (p : ℕ) (now : Stand) → P p now → ((q : ℕ) → p ≢ q → P q (stands q)) → (q : ℕ) → P q (hold stands p now q)
hold_all P stands p now here others q = by_case (p == q) refl
  where
    by_case : (b : Bool) → (p == q) ≡ b → P q (cond b now (stands q))
    by_case true same = subst (λ (k : ℕ). P k now) (eqb-true p q same) here
    by_case false same = others q (eqb-false p q same)
