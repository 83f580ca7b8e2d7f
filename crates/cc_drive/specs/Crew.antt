-- The results of workers, one after another.
use Rattle.std.specs.Prelude.{ℕ, ◌≡◌, ◌+◌, ◌<◌, ◌≤◌, true, vec_capacity, List, [], ◌∷◌, ◌++◌, length, map, Option, Some, None}
use Rattle.std.specs.List.{AllByRecursion}
use Rattle.cc_drive.specs.Names.{Crew, Room, Worked}
use Rattle.cc_drive.specs.Row.{InRow}

-- those that are there
abbrev pub present : {A : Type 0} → List (Option A) → List A
present [] = []
present (Some x ∷ xs) = x ∷ present xs
present (None ∷ xs) = present xs

-- the least number of one that isn't there, if they are numbered from this one on
abbrev pub least_missing : {A : Type 0} → ℕ → List (Option A) → Option ℕ
least_missing n [] = None
least_missing n (Some x ∷ xs) = least_missing (n + 1) xs
least_missing n (None ∷ xs) = Some n

-- the first of two that is there
abbrev pub sooner : {A : Type 0} → Option A → Option A → Option A
sooner (Some x) y = Some x
sooner None y = y

-- lists one after another
abbrev pub in_turn : {A : Type 0} → List (List A) → List A
in_turn [] = []
in_turn (xs ∷ rest) = xs ++ in_turn rest

-- The results of these workers are gathered here, in the order of their numbers from this one on: their passes, the least
-- number of one that is missing, and their receipts, if each of them was kept.
pub record AreGathered {P X : Type 0} (number : ℕ) (workers : List (Worked P X)) (passes : List P) (crew : Crew P X) : Type 0 where
  pub back : passes ≡ present (map (λ d. d.pass) workers)
  pub missing : crew.limited ≡ least_missing number (map (λ d. d.pass) workers)
  pub whole : crew.is_whole ≡ true → AllByRecursion (λ d. d.kept.is_whole ≡ true) workers
  pub kept : crew.is_whole ≡ true → crew.receipts.items ≡ in_turn (map (λ d. d.kept.receipts.items) workers)

-- This number of workers are back: in the row of all passes they come from this place on, and their numbers from this one on.
-- Their results are gathered here: their passes, the least number of one that is missing, and their receipts, if each of them
-- was kept.
pub record IsCrew {P X : Type 0} (Gave : ℕ → Worked P X → Type 0) (place number count : ℕ) (passes : List P) (crew : Crew P X) : Type 0 where
  pub workers : List (Worked P X)
  pub gave : InRow Gave place workers
  pub many : length workers ≡ count
  pub back : passes ≡ present (map (λ d. d.pass) workers)
  pub missing : crew.limited ≡ least_missing number (map (λ d. d.pass) workers)
  pub whole : crew.is_whole ≡ true → AllByRecursion (λ d. d.kept.is_whole ≡ true) workers
  pub kept : crew.is_whole ≡ true → crew.receipts.items ≡ in_turn (map (λ d. d.kept.receipts.items) workers)

-- there is room for the results of this number of workers, and for one pass more, and nothing is in it
pub record IsRoomFor {P X : Type 0} (count : ℕ) (room : Room P X) : Type 0 where
  pub none_done : room.done.items ≡ []
  pub no_passes : room.passes.items ≡ []
  pub done : count ≤ vec_capacity room.done
  pub passes : count < vec_capacity room.passes
