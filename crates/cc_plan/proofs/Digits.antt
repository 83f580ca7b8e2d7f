-- Reading digits into a number that is cut to a limit.
use Rattle.std.proofs.Common.{ℕ, ◌≡◌, ◌<◌, ◌+◌, ◌-◌, ◌*◌, List, ◌∷◌, length, get_or, drop, drop-cons, add-one, fold, min, refl, ap, sym, ◌∙◌, arith}
use Rattle.cc_plan.specs.PlanShape.{digits_more}

-- one digit more
pub fold_turn : (m : ℕ) (ds : List ℕ) (i : ℕ) (all : ℕ) → i < length ds → fold digits_more m (drop i ds) ≡ all → fold digits_more (m * 10 + (get_or ds i 0 - 48)) (drop (i + 1) ds) ≡ all
fold_turn m ds i all h so_far =
    let e : drop i ds ≡ get_or ds i 0 ∷ drop (i + 1) ds = rw (add-one, drop-cons ds i 0 h) refl in
    sym (ap (λ (l : List ℕ). fold digits_more m l) e) ∙ so_far

-- cutting at each step and cutting at the end give the same
pub cut_more : (m n product digit now limit : ℕ) → n ≡ min m limit → product ≡ min (n * 10) limit → now ≡ min (product + digit) limit → now ≡ min (m * 10 + digit) limit
cut_more m n product digit now limit a b c = omega arith
