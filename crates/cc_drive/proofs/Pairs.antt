-- Two lists of passes, before and after they met.
use Rattle.std.proofs.Common.{◌≡◌, ℕ, zero, suc, ◌<◌, List, [], ◌∷◌, ◌++◌, length, take, get_or, refl, sym, ap, ◌∙◌, subst, arith}
use Rattle.std.specs.List.{All}
use Rattle.std.proofs.Math.Seq.{take-append_seam}
use Rattle.cc_steps.specs.Walk.{Walk}
use Rattle.cc_queue.specs.Met.{HaveSeenOne}
use Rattle.cc_drive.specs.Row.{Pairs}

abbrev Each : {A : Type 0} → (A → A → Type 0) → List A → List A → Type 0
Each {A} Are xs ys = (k : ℕ) (d : A) → k < length xs → Are (get_or xs k d) (get_or ys k d)

pub pairs_of : {A : Type 0} (Are : A → A → Type 0) (xs ys : List A) → length ys ≡ length xs → Each Are xs ys → Pairs Are xs ys
pairs_of Are [] [] e each = tt
pairs_of Are [] (y ∷ ys) e each = absurd (omega (arith, e))
pairs_of Are (x ∷ xs) [] e each = absurd (omega (arith, e))
pairs_of Are (x ∷ xs) (y ∷ ys) e each = (each 0 x (omega arith), pairs_of Are xs ys (omega (arith, e)) (λ k d less. each (suc k) d (omega (arith, less))))

split : {A : Type 0} (Are : A → A → Type 0) (xs ys : List A) (x y : A) → Pairs Are (xs ++ x ∷ []) (ys ++ y ∷ []) → Pairs Are xs ys × Are x y
split Are [] [] x y p = (tt, p.0)
split Are [] (z ∷ []) x y p = absurd p.1
split Are [] (z ∷ w ∷ ys) x y p = absurd p.1
split Are (z ∷ []) [] x y p = absurd p.1
split Are (z ∷ w ∷ xs) [] x y p = absurd p.1
split Are (v ∷ xs) (w ∷ ys) x y p = let rest = split Are xs ys x y p.1 in ((p.0, rest.0), rest.1)

-- the last two, and the others
pub pairs_split : {A : Type 0} (Are : A → A → Type 0) (xs ys all after : List A) (x y : A) → all ≡ xs ++ x ∷ [] → after ≡ ys ++ y ∷ [] → Pairs Are all after → Pairs Are xs ys × Are x y
pairs_split Are xs ys all after x y a b p = split Are xs ys x y (subst (λ (z : List _ × List _). Pairs Are z.0 z.1) (λ i. (a i, b i)) p)

-- what holds of each element
front_all : {A : Type 0} (P : A → Type 0) (xs : List A) (x : A) → All P (xs ++ x ∷ []) → All P xs
front_all P [] x all k d less = absurd (omega (arith, less))
front_all P (y ∷ xs) x all zero d less = all 0 d (omega arith)
front_all P (y ∷ xs) x all (suc k) d less = front_all P xs x (λ j e l. all (suc j) e (omega (arith, l))) k d (omega (arith, less))

end_is : {A : Type 0} (P : A → Type 0) (xs : List A) (x : A) → All P (xs ++ x ∷ []) → P x
end_is P [] x all = all 0 x (omega arith)
end_is P (y ∷ xs) x all = end_is P xs x (λ j e l. all (suc j) e (omega (arith, l)))

pub all_split : {A : Type 0} (P : A → Type 0) (xs all : List A) (x : A) → all ≡ xs ++ x ∷ [] → All P all → All P xs × P x
all_split P xs all x is each = let e = subst (All P) is each in (front_all P xs x e, end_is P xs x e)

-- the bytes written back over the prefix of a longer list
pub written_back : {A : Type 0} (n : ℕ) (xs ys : List A) → length xs ≡ n → take n (xs ++ ys) ≡ xs
written_back n xs ys is = ap (λ (m : ℕ). take m (xs ++ ys)) (sym is) ∙ take-append_seam xs ys

-- the one that is with the last one
pub pairs_last : {A : Type 0} (Are : A → A → Type 0) (xs ys : List A) (x : A) → Pairs Are (xs ++ x ∷ []) ys → (front : List A) × (y : A) × (ys ≡ front ++ y ∷ []) × Pairs Are xs front × Are x y
pairs_last Are [] [] x p = absurd p
pairs_last Are [] (y ∷ []) x p = ([], y, refl, tt, p.0)
pairs_last Are [] (y ∷ z ∷ ys) x p = absurd p.1
pairs_last Are (v ∷ xs) [] x p = absurd p
pairs_last Are (v ∷ xs) (w ∷ ys) x p =
    let rest = pairs_last Are xs ys x p.1 in
    (w ∷ rest.0, rest.1, ap (λ l. w ∷ l) rest.2, (p.0, rest.3), rest.4)

-- elements that were lent and written back
pub met_back : {A : Type 0} (Are : A → A → Type 0) (n : ℕ) (old lent new slots : List A) → lent ≡ old → length new ≡ length lent → length lent ≡ n → Each Are lent new → Pairs Are old (take n (new ++ slots))
met_back Are n old lent new slots is long len each =
    subst (λ (ys : List _). Pairs Are old ys) (sym (written_back n new slots (long ∙ len))) (subst (λ (xs : List _). Pairs Are xs new) is (pairs_of Are lent new long each))

pub one_back : (n m : ℕ) (xs ys gone slots others : List Walk) → length xs ≡ n → length ys ≡ m → HaveSeenOne xs ys gone → HaveSeenOne (take n (xs ++ slots)) (take m (ys ++ others)) []
one_back n m xs ys gone slots others len len' one = subst (λ (z : List Walk × List Walk). HaveSeenOne z.0 z.1 []) (λ i. (sym (written_back n xs slots len) i, sym (written_back m ys others len') i)) (record {
  seen = one.seen;
  senders_have = one.senders_have;
  receivers_have = one.receivers_have;
  given_up_have = λ k d less. absurd (omega (arith, less));
})
