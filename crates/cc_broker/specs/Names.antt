-- Names in the order of their topics.
use Rattle.std.specs.Prelude.{◌≡◌, ℕ, ◌≤◌, ◌<◌, List, length, slice_get}

-- the name at this place occurs before it too
pub record IsDouble (names : List (List ℕ)) (place : ℕ) : Type 0 where
  pub before : ℕ
  pub earlier : before < place
  pub within : place < length names
  pub same : slice_get names before ≡ slice_get names place

-- the least such place
pub record IsFirstDouble (names : List (List ℕ)) (place : ℕ) : Type 0 where
  pub double : IsDouble names place
  pub least : (other : ℕ) → IsDouble names other → place ≤ other

-- no name is at two places
abbrev pub AreDistinct : List (List ℕ) → Type 0
AreDistinct names = (place : ℕ) → IsDouble names place → ⊥
