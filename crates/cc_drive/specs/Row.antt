-- Lists whose elements are in the row of all passes.
use Rattle.std.specs.Prelude.{ℕ, ◌+◌, List, [], ◌∷◌, ⊤}

-- each element is such a one of its place, from this place on
abbrev pub InRow : {A : Type 0} → (ℕ → A → Type 0) → ℕ → List A → Type 0
InRow Is n [] = ⊤
InRow Is n (x ∷ xs) = Is n x × InRow Is (n + 1) xs

-- each element is such a one of its place, with the element at its place in another list, which may be longer
abbrev pub InRowWith : {A B : Type 0} → (ℕ → A → B → Type 0) → ℕ → List A → List B → Type 0
InRowWith Is n [] ys = ⊤
InRowWith Is n (x ∷ xs) (y ∷ ys) = Is n x y × InRowWith Is (n + 1) xs ys
InRowWith Is n (x ∷ xs) [] = ⊥

-- two lists are of one length, and each two elements of one place are such a pair
abbrev pub Pairs : {A : Type 0} → (A → A → Type 0) → List A → List A → Type 0
Pairs Are [] [] = ⊤
Pairs Are (x ∷ xs) (y ∷ ys) = Are x y × Pairs Are xs ys
Pairs Are _ _ = ⊥
