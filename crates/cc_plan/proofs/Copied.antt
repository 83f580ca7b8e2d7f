-- Lists that are copied element by element.
use Rattle.std.proofs.Common.{◌≡◌, ◌<◌, List, [], ◌∷◌, ◌++◌, length, get_or, refl, sym, ap, ◌∙◌, subst, arith, append-nil, append_assoc, length-append}
use Rattle.std.specs.List.{AllByRecursion}

-- one goes over to the end of the copy
pub over : {A : Type 0} (done new left rest all : List A) (x : A) → left ≡ x ∷ rest → new ≡ done ++ x ∷ [] → done ++ left ≡ all → new ++ rest ≡ all
over done new left rest all x front end was = ap (λ l. l ++ rest) end ∙ append_assoc done (x ∷ []) rest ∙ ap (λ l. done ++ l) (sym front) ∙ was

-- none is left
pub all_over : {A : Type 0} (done left all : List A) → left ≡ [] → done ++ left ≡ all → done ≡ all
all_over done left all none was = sym (append-nil done) ∙ ap (λ l. done ++ l) (sym none) ∙ was

-- the elements so far are the first ones
pub record AreFirst {A : Type 0} (done all : List A) : Type 0 where
  pub left : List A
  pub whole : done ++ left ≡ all

at : {A : Type 0} (done rest : List A) (y d : A) → get_or (done ++ y ∷ rest) (length done) d ≡ y
at [] rest y d = refl
at (z ∷ done) rest y d = at done rest y d

pub first_more : {A : Type 0} (done new all : List A) (x : A) → AreFirst done all → length done < length all → x ≡ get_or all (length done) x → new ≡ done ++ x ∷ [] → AreFirst new all
first_more {A} done new all x first less is end = go first.left first.whole
  where
    go : (left : List A) → done ++ left ≡ all → AreFirst new all
    go [] whole = absurd (omega (arith, less, ap length whole, length-append done []))
    go (y ∷ rest) whole = record {
      left = rest;
      whole = over done new (y ∷ rest) rest all x (ap (λ z. z ∷ rest) (sym (is ∙ ap (λ l. get_or l (length done) x) (sym whole) ∙ at done rest y x))) end whole;
    }

pub first_all : {A : Type 0} (done all : List A) → AreFirst done all → (length done < length all → ⊥) → done ≡ all
first_all {A} done all first not = go first.left first.whole
  where
    go : (left : List A) → done ++ left ≡ all → done ≡ all
    go [] whole = sym (append-nil done) ∙ whole
    go (y ∷ rest) whole = absurd (not (omega (arith, ap length whole, length-append done (y ∷ rest))))

pub rest_all : {A : Type 0} (P : A → Type 0) (left rest : List A) (x : A) → left ≡ x ∷ rest → AllByRecursion P left → P x × AllByRecursion P rest
rest_all P left rest x front all = subst (AllByRecursion P) front all
