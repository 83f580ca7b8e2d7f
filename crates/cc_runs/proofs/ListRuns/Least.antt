-- The least number handed out is that of the history: the least over the groups.
use Rattle.std.proofs.lemmas.Bool.{cases_lt}
use Rattle.std.proofs.Common.{◌≡◌, ℕ, zero, suc, ◌+◌, ◌≤◌, List, [], ◌∷◌, length, map, get_or, refl, sym, ap, ◌∙◌, arith, inl, inr}
use Rattle.std.proofs.lemmas.List.{length-map}
use Rattle.cc_model.specs.Record.{Side, Record, silent}
use Rattle.cc_model.specs.Items.{handed, handed_by, handed_to_all, least}
use Rattle.cc_runs.proofs.LinkedList.Sides.{smallest, smallest_least, smallest_is}

-- the least of a list is one of its numbers, and at most each
least_low : (x : ℕ) (xs : List ℕ) (k : ℕ) → k ≤ length xs → least (x ∷ xs) ≤ get_or (x ∷ xs) k 0
least_low x [] k l = let z : k ≡ 0 = omega (arith, l) in omega (arith, ap (λ (j : ℕ). get_or (x ∷ []) j 0) z)
least_low x (y ∷ ys) zero l = omega arith
least_low x (y ∷ ys) (suc k) l = omega (arith, least_low y ys k (omega (arith, l)))

least_one : (x : ℕ) (xs : List ℕ) → (k : ℕ) × (k ≤ length xs) × (get_or (x ∷ xs) k 0 ≡ least (x ∷ xs))
least_one x [] = (0, omega arith, refl)
least_one x (y ∷ ys) =
    let r : (k : ℕ) × (k ≤ length ys) × (get_or (y ∷ ys) k 0 ≡ least (y ∷ ys)) = least_one y ys in
    elim (cases_lt (least (y ∷ ys)) x) [
      | inl l ↦ (suc r.0, omega (arith, r.1), omega (arith, r.2, l))
      | inr l ↦ (0, omega arith, omega (arith, l))
    ]

-- so it is the smallest of its numbers
least_smallest : (x : ℕ) (xs : List ℕ) (h : ℕ → ℕ) → ((k : ℕ) → k ≤ length xs → h k ≡ get_or (x ∷ xs) k 0) → smallest (length xs) h ≡ least (x ∷ xs)
least_smallest x xs h same =
    let a : (k : ℕ) × (k ≤ length xs) × (get_or (x ∷ xs) k 0 ≡ least (x ∷ xs)) = least_one x xs in
    let b : (k : ℕ) × (k ≤ length xs) × (h k ≡ smallest (length xs) h) = smallest_is (length xs) h in
    omega (arith, a.2, same a.0 a.1, smallest_least (length xs) h a.0 a.1, b.2, same b.0 b.1, least_low x xs b.0 b.1)

pub counts_get : (sides : List Side) (k : ℕ) → get_or (map (λ side. length (handed_by side.answers)) sides) k 0 ≡ length (handed_by (get_or sides k silent).answers)
counts_get (s ∷ sides) (suc k) = counts_get sides k
counts_get _ _ = refl

-- of a history with this number of groups, the items handed to all are as many as the smallest number handed to one
pub least_of_groups : (h : Record) (m : ℕ) (each : ℕ → ℕ) → length h.takes ≡ m + 1 → ((y : ℕ) → each y ≡ length (handed h y)) → smallest m each ≡ handed_to_all h
least_of_groups h m each many same = by_list h.takes refl
  where
    count : Side → ℕ
    count = λ side. length (handed_by side.answers)

    by_list : (sides : List Side) → h.takes ≡ sides → smallest m each ≡ handed_to_all h
    by_list [] e = absurd (omega (arith, many, ap length e))
    by_list (s ∷ sides) e =
        let long : length (map count sides) ≡ m = omega (arith, length-map sides count, many, ap length e) in
        let at : (k : ℕ) → each k ≡ get_or (map count (s ∷ sides)) k 0 = λ k. same k ∙ sym (counts_get h.takes k) ∙ ap (λ (l : List Side). get_or (map count l) k 0) e in
        ap (λ (n : ℕ). smallest n each) (sym long) ∙ least_smallest (count s) (map count sides) each (λ k l. at k) ∙ ap (λ (l : List Side). least (map count l)) (sym e)
