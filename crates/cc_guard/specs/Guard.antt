-- The rule of a try-lock: one thread at a time has the value, and the log goes on from what each thread has seen.
use Rattle.std.specs.Prelude.{◌≡◌, ℕ, Bool, true, false, List, [], ◌∷◌, length, slice_index, Option, Some, None}
use mathlib.Core.Option.{some}
use lib.ListN.{get_elem?}
use Rattle.atomic_table.specs.Table.{State, Me, Step}
use Rattle.atomic_table.specs.Seated.{TableId}
use Rattle.atomic_table.specs.declared.shared.Seat.{Seat}
use Rattle.cc_guard.specs.declared.plays.Sight.{Sight}

-- what contracts see of a lock: its table, and its key
pub record LockId (K : Type 0) : Type 0 where
  pub table_id : TableId
  pub key : K

-- what contracts see of a look and of a hold: the lock, and the log that the thread has seen
pub record Looked (E K : Type 0) : Type 0 where
  pub table_id : TableId
  pub key : K
  pub seen : E

-- the table has one word, and one slot
pub record IsOne (t : TableId) : Type 0 where
  pub words : t.words ≡ 1
  pub slots : t.slots ≡ 1

module _ {E K : Type 0} where
  abbrev pub sight : K → E → Bool → Sight E K
  sight key seen has = record { key = key; seen = seen; has = has }

  -- The log goes on from what a thread has seen. A thread that has the value has seen the whole log.
  pub record Sees (grows : E → E → Type 0) (key : K) (log : E) (v : Sight E K) : Type 0 where
    pub key_is : v.key ≡ key
    pub begins : grows v.seen log
    pub whole : v.has ≡ true → v.seen ≡ log

  abbrev pub Each : (ℕ → Sight E K → Type 0) → List (Sight E K) → Type 0
  Each P views = (i : ℕ) (v : Sight E K) → get_elem? views i ≡ some v → P i v

  module _ {T : Type 0} where
    abbrev pub looked_of : Seat (Option T) (Sight E K) → Looked E K
    looked_of s = record { table_id = s.table_id; key = s.me.0.key; seen = s.me.0.seen }

    -- the thread doesn't have the value
    pub record IsAtRest (m : Me (Option T) (Sight E K)) : Type 0 where
      pub bare : m.1 ≡ []
      pub not : m.0.has ≡ false

    -- the thread has the value, which is not in its slot
    pub record IsOut (m : Me (Option T) (Sight E K)) : Type 0 where
      pub slot : m.1 ≡ (0, None) ∷ []
      pub has : m.0.has ≡ true

    module _ (grows : E → E → Type 0) (log_of : T → E) (Holds : K → T → Type 0) where
      -- no thread has the value: it is in its slot, with the whole log
      pub record Rests (key : K) (log : E) (s : State (Option T) (Sight E K)) : Type 0 where
        pub value : T
        pub home : get_elem? s.homes 0 ≡ some (some (Some value))
        pub log_is : log_of value ≡ log
        pub holds : Holds key value
        pub none : Each (λ i v. v.has ≡ false) s.views

      -- the rule of the table
      pub record Guarded (key : K) (s : State (Option T) (Sight E K)) : Type 0 where
        pub log : E
        pub one : length s.words ≡ 1
        pub see : Each (λ i v. Sees grows key log v) s.views
        pub alone : Each (λ i v. v.has ≡ true → Each (λ j w. w.has ≡ true → i ≡ j) s.views) s.views
        pub rests : slice_index s.words 0 ≡ 0 → Rests key log s

      -- the compare-exchange found 0, so the thread has the value
      pub record Takes (m n : Me (Option T) (Sight E K)) : Type 0 where
        pub value : T
        pub slot : n.1 ≡ (0, Some value) ∷ []
        pub has : n.0.has ≡ true
        pub key : n.0.key ≡ m.0.key
        pub log : n.0.seen ≡ log_of value
        pub goes_on : grows m.0.seen (log_of value)
        pub holds : Holds m.0.key value

      -- after the compare-exchange
      pub record grabbed (st : Step (Option T)) (m : Me (Option T) (Sight E K)) (r : ℕ)
          (n : Me (Option T) (Sight E K)) : Type 0 where
        pub hit : r ≡ 0 → Takes m n
        pub miss : (r ≡ 0 → ⊥) → n ≡ m

      -- what a thread knows that took the value
      pub record HasTaken (c : LockId K) (l h : Looked E K) (value : T) : Type 0 where
        pub table_id : h.table_id ≡ c.table_id
        pub key : h.key ≡ c.key
        pub seen : h.seen ≡ log_of value
        pub goes_on : grows l.seen (log_of value)
        pub holds : Holds c.key value

    -- after the store, the thread has seen the log of the value that it gave back
    pub record released (log_of : T → E) (st : Step (Option T)) (m : Me (Option T) (Sight E K)) (r : ℕ)
        (n : Me (Option T) (Sight E K)) : Type 0 where
      pub bare : n.1 ≡ []
      pub not : n.0.has ≡ false
      pub key : n.0.key ≡ m.0.key
      pub seen : (value : T) → m.1 ≡ (0, Some value) ∷ [] → n.0.seen ≡ log_of value

    -- a new seat
    pub record looked (st : Step (Option T)) (m : Me (Option T) (Sight E K)) (r : ℕ)
        (n : Me (Option T) (Sight E K)) : Type 0 where
      pub not : n.0.has ≡ false
      pub key : n.0.key ≡ m.0.key

  -- the thread has a look at this lock
  pub record IsLookAt (c : LockId K) (l : Looked E K) : Type 0 where
    pub table_id : l.table_id ≡ c.table_id
    pub key : l.key ≡ c.key

  -- the thread has the value of this lock
  abbrev pub IsHoldOf : LockId K → Looked E K → Type 0
  IsHoldOf c l = IsLookAt c l
