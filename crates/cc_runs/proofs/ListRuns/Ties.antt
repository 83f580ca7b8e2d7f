-- How the list's ghosts, and what the services have read, are tied to the history.
use Rattle.std.proofs.Common.{◌++◌, refl, sym, append-nil, ◌≡◌, ℕ, suc, ◌+◌, ◌-◌, ◌<◌, ◌≤◌, List, [], ◌∷◌, length, Bool, true, false, if◌then◌else◌, Some, ap, ◌∙◌, arith}
use Rattle.std.specs.List.{slice_get}
use Rattle.cc_model.specs.Record.{Record, of_group}
use Rattle.cc_model.specs.Items.{accepted, is_shut, handed}
use Rattle.cc_runs.specs.Names.{Config, Entry, Phase, Sending, BodyWords}
use Rattle.cc_runs.specs.Words.{groups}
use Rattle.cc_runs.specs.Codes.{item_of, further_words, word}
use Rattle.cc_runs.proofs.Chains.Registers.{HasRequest}
use Rattle.cc_runs.proofs.ListRuns.View.{long_of}
use Rattle.cc_runs.proofs.LinkedList.Queue.{Queue, Ghosts}
use Rattle.cc_runs.proofs.LinkedList.Invariant.{LInv}
use Rattle.cc_runs.proofs.LinkedList.Grow.{Kept, ghosts_from}
use Rattle.cc_runs.proofs.ListRuns.Decided.{LegalSoFar}

-- 1 if the list is shut
abbrev pub shut_number : Bool → ℕ
shut_number b = if b then 1 else 0

-- the sides of the list after the first: one for each group
abbrev pub further : Config → ℕ
further c = groups c - 1

-- the words of a body after a tag
abbrev pub body_at : (ℕ → ℕ) → BodyWords
body_at words = record { first = words 1; second = words 2; third = words 3; fourth = words 4 }

-- which are those words
pub word_at : (words : ℕ → ℕ) (i : ℕ) → i ≤ 3 → word (body_at words) i ≡ words (suc i)
word_at words i most = grind arith

pub item_same : (k : ℕ) (f g : ℕ → ℕ) → ((j : ℕ) → f j ≡ g j) → item_of k (f 0) (body_at f) ≡ item_of k (g 0) (body_at g)
item_same k f g same = λ i. item_of k (same 0 i) (body_at (λ j. same j i))

-- the ghosts of a history and of the nodes linked so far
abbrev pub ghosts : Config → Record → List ℕ → Kept → Ghosts
ghosts c h nodes k = ghosts_from (further c) long_of (length (accepted h)) (shut_number (is_shut h)) (λ y. length (handed h y)) nodes k

-- the list's invariant
abbrev pub Holds : Config → Record → List ℕ → Kept → Queue → Type 0
Holds c h nodes k v = LInv c.capacity c.life (further c + 1) v (ghosts c h nodes k)

-- the history has a side for each group, and its answers are legal; a node was linked for each item, after the first dummy; each
-- item has as many words as its tag says
pub record Ties (c : Config) (h : Record) (nodes : List ℕ) (k : Kept) : Type 0 where
  pub some : 0 < groups c
  pub many : length h.takes ≡ groups c
  pub linked : length nodes ≡ length (accepted h) + 1
  pub items_are : (n : ℕ) → n < length (accepted h) → slice_get (accepted h) n ≡ Some (item_of n (k.items n 0) (body_at (k.items n)))
  pub legal : LegalSoFar c h

-- the reads-th node of the scan, round the end, is at
pub record Scanned (c : Config) (from at reads : ℕ) : Type 0 where
  pub some : 1 ≤ reads
  pub most : reads ≤ c.capacity + 1
  pub within : at ≤ c.capacity
  pub past : from + (reads - 1) ≤ c.capacity → at ≡ from + (reads - 1)
  pub round : c.capacity < from + (reads - 1) → at + c.capacity + 1 ≡ from + (reads - 1)

-- what the service of the send side holds
abbrev pub Reads : Config → Entry → ℕ → Sending → Type 0
Reads c e from (Sending.ReadShut q) = HasRequest e q.tag q.body
Reads c e from (Sending.ReadCount q) = HasRequest e q.tag q.body
Reads c e from (Sending.ReadCursor parcel) = HasRequest e parcel.tag parcel.body
Reads c e from (Sending.ReadPassed parcel at reads) = HasRequest e parcel.tag parcel.body × Scanned c from at reads
Reads c e from (Sending.ResetPassed parcel at) = HasRequest e parcel.tag parcel.body
Reads c e from (Sending.ResetItemNext parcel at) = HasRequest e parcel.tag parcel.body
Reads c e from (Sending.WriteItemTag parcel at) = HasRequest e parcel.tag parcel.body
Reads c e from (Sending.WriteItemBody parcel at i) = HasRequest e parcel.tag parcel.body × (i ≤ further_words parcel.tag)
Reads c e from _ = Unit {0}

abbrev pub ReadsAt : Config → Entry → ℕ → Phase → Type 0
ReadsAt c e from (Phase.Sending job service) = Reads c e from service
ReadsAt c e from _ = Unit {0}

-- the service has read its request, and its answer isn't decided
abbrev pub IsUndecided : Sending → Type 0
IsUndecided Sending.ReadTag = ⊥
IsUndecided (Sending.ReadBody request i) = ⊥
IsUndecided (Sending.WriteLast count at) = ⊥
IsUndecided (Sending.WriteCount count at) = ⊥
IsUndecided (Sending.WriteCursor count at) = ⊥
IsUndecided (Sending.WriteLastMark total) = ⊥
IsUndecided (Sending.WriteShut total) = ⊥
IsUndecided _ = Unit {0}

-- the service has read its request
abbrev pub IsBegun : Sending → Type 0
IsBegun Sending.ReadTag = ⊥
IsBegun (Sending.ReadBody request i) = ⊥
IsBegun _ = Unit {0}

abbrev pub IsServing : Phase → Type 0
IsServing (Phase.Sending job service) = IsBegun service
IsServing _ = ⊥

abbrev pub IsUndecidedAt : Phase → Type 0
IsUndecidedAt (Phase.Sending job service) = IsUndecided service
IsUndecidedAt _ = ⊥

-- a take is in service
abbrev pub IsTaking : Phase → Type 0
IsTaking (Phase.Taking job service) = Unit {0}
IsTaking _ = ⊥

-- the call that is served is the first one without an answer
abbrev pub IsNextSend : Record → Entry → Type 0
IsNextSend h e = slice_get h.sends.calls (length h.sends.answers) ≡ Some e

abbrev pub IsNextTake : Record → (group : ℕ) → Entry → Type 0
IsNextTake h y e = slice_get (of_group h y).calls (length (of_group h y).answers) ≡ Some e

-- the nodes so far, and these after them
abbrev pub then_linked : List ℕ → List ℕ → List ℕ
then_linked nodes [] = nodes
then_linked nodes (x ∷ new) = nodes ++ x ∷ new

pub then_is : (nodes new : List ℕ) → then_linked nodes new ≡ nodes ++ new
then_is nodes [] = sym (append-nil nodes)
then_is nodes (x ∷ new) = refl

-- ---- a history that accepted and handed out the same

pub ghosts_same : (c : Config) (h later : Record) (nodes : List ℕ) (k : Kept) → accepted later ≡ accepted h → is_shut later ≡ is_shut h → ((y : ℕ) → length (handed later y) ≡ length (handed h y)) → ghosts c later nodes k ≡ ghosts c h nodes k
ghosts_same c h later nodes k a s d = λ i. ghosts_from (further c) long_of (length (a i)) (shut_number (s i)) (λ y. d y i) nodes k

pub ties_same : (c : Config) (h later : Record) (nodes : List ℕ) (k : Kept) → Ties c h nodes k → length later.takes ≡ length h.takes → accepted later ≡ accepted h → LegalSoFar c later → Ties c later nodes k
ties_same c h later nodes k t n a legal = record { some = t.some; many = n ∙ t.many; linked = omega (arith, t.linked, ap length a); items_are = λ j l. rw a (t.items_are j (omega (arith, l, ap length a))); legal = legal }

pub shut_true : (b : Bool) → shut_number b ≡ 1 → b ≡ true
shut_true b e = grind arith

pub shut_false : (b : Bool) → shut_number b ≡ 0 → b ≡ false
shut_false b e = grind arith
