-- Lists that are other lists without some of their elements.
use Rattle.std.proofs.Common.{List, [], ◌∷◌, ◌++◌, inl, inr, refl, ◌∙◌, arith}
use Rattle.cc_runs.specs.Linearizable.{IsPart}

pub part_self : {X : Type 0} (xs : List X) → IsPart xs xs
part_self [] = tt
part_self (x ∷ xs) = inl (refl, part_self xs)

pub part_more : {X : Type 0} (xs ys : List X) (y : X) → IsPart xs ys → IsPart xs (y ∷ ys)
part_more [] ys y p = tt
part_more (x ∷ xs) ys y p = inr p

pub part_behind : {X : Type 0} (front xs ys : List X) → IsPart xs ys → IsPart (front ++ xs) (front ++ ys)
part_behind [] xs ys p = p
part_behind (x ∷ front) xs ys p = inl (refl, part_behind front xs ys p)

pub part_of_part : {X : Type 0} (xs ys zs : List X) → IsPart xs ys → IsPart ys zs → IsPart xs zs
part_of_part {X} (x ∷ xs) (y ∷ ys) (z ∷ zs) p q = elim q [
  | inl here ↦ elim p [
    | inl there ↦ inl (there.0 ∙ here.0, part_of_part xs ys zs there.1 here.1)
    | inr later ↦ inr (part_of_part (x ∷ xs) ys zs later here.1)
  ]
  | inr past ↦ inr (part_of_part (x ∷ xs) (y ∷ ys) zs p past)
]
part_of_part {X} ys zs p q q2 = grind arith
