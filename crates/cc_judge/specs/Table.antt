-- The places at which each item of a log was sent and taken.
use Rattle.std.specs.Prelude.{◌≡◌, ◌≢◌, ℕ, ◌<◌, ◌≤◌, List, Option, Some, None, slice_get, slice_set}
use Rattle.cc_judge.specs.Names.{Act, Call, Kind, Found, Entry, Index}
use Rattle.cc_judge.specs.Faults.{Did}

-- what a call of this kind with this item did
abbrev pub act_of : Kind → ℕ → Act
act_of Kind.Send item = Act.Send item
act_of Kind.Take item = Act.Took item

-- the item had no entry, and has this one; the others are as they were
abbrev pub Enters : (before : List (Option ℕ)) → (item place : ℕ) → (after : List (Option ℕ)) → Entry → Type 0
Enters before item place after Entry.New = (slice_get before item ≡ Some None) × (after ≡ slice_set before item (Some place))
Enters before item place after (Entry.Had had) = (slice_get before item ≡ Some (Some had)) × (after ≡ before)
Enters before item place after Entry.Stray = slice_get before item ≡ None

-- the table has exactly the calls of this kind, by their items
pub record IsTable (calls : List Call) (kind : Kind) (table : List (Option ℕ)) : Type 0 where
  pub all : (place item : ℕ) → Did calls place (act_of kind item) → slice_get table item ≡ Some (Some place)
  pub each : (place item : ℕ) → slice_get table item ≡ Some (Some place) → Did calls place (act_of kind item)

-- two calls of this kind have one item
pub record Twice (calls : List Call) (kind : Kind) (first second : ℕ) : Type 0 where
  pub item : ℕ
  pub apart : first ≢ second
  pub one : Did calls first (act_of kind item)
  pub other : Did calls second (act_of kind item)

-- what was found of the calls of this kind
abbrev pub IsFound : List Call → Kind → Found → Type 0
IsFound calls kind (Found.Each table) = IsTable calls kind table.items
IsFound calls kind (Found.Twice first second) = Twice calls kind first second
IsFound calls kind (Found.Stray place) = (item : ℕ) × Did calls place (act_of kind item)

-- the items of all calls of this kind are below the number of items; or that of this one isn't
abbrev pub IsPast : (items : ℕ) → List Call → Kind → Found → Type 0
IsPast items calls kind (Found.Each table) = (place item : ℕ) → Did calls place (act_of kind item) → item < items
IsPast items calls kind (Found.Twice first second) = Unit {0}
IsPast items calls kind (Found.Stray place) = (item : ℕ) → Did calls place (act_of kind item) → items ≤ item

-- the index has each send and each take
pub record IsIndex (calls : List Call) (index : Index) : Type 0 where
  pub sends : IsTable calls Kind.Send index.sends.items
  pub takes : IsTable calls Kind.Take index.takes.items
