-- The texts of the elements of a list, which were made of others, or are known by names of their own.
use Rattle.std.proofs.Common.{◌≡◌, ◌<◌, ℕ, ◌+◌, length, get_or, subst, List, [], ◌∷◌, ◌++◌, map, refl, ap}
use Rattle.cc_io.specs.Written.{Desk, Pens}
use Rattle.cc_report.specs.Report.{texts}
use Rattle.cc_report.proofs.Lines.{UpTo, one_more}

pub over_map : {A B : Type 0} (f : A → B) (text : ℕ → B → List ℕ) (n : ℕ) (xs : List A) → texts text n (map f xs) ≡ texts (λ i x. text i (f x)) n xs
over_map f text n [] = refl
over_map f text n (x ∷ xs) = ap (λ (rest : List ℕ). text n (f x) ++ rest) (over_map f text (n + 1) xs)

-- one element more, which is known by a name of its own
pub named_more : {A : Type 0} (text : ℕ → A → List ℕ) (xs : List A) (old mid new : Desk) (i : ℕ) (x : A) → i < length xs → x ≡ get_or xs i x → UpTo old mid text xs i → Pens mid new (text i x) → UpTo old new text xs (i + 1)
named_more {A} text xs old mid new i x within is before pens = one_more text xs old mid new i x within before (subst (λ (y : A). Pens mid new (text i y)) is pens)
