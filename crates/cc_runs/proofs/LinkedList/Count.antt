-- Sums over the first numbers; a covering needs as many; how many nodes are busy.
use Rattle.std.proofs.Common.{◌≡◌, ℕ, zero, suc, ◌+◌, ◌<◌, ◌≤◌, ◌≢◌, arith, refl, inl, inr, sym, cond, ltb}
use Rattle.std.proofs.lemmas.Bool.{cases_eq, cases_lt, cond-true, cond-false, lt-ltb, le-ltb}

pub total : ℕ → (ℕ → ℕ) → ℕ
total zero f = 0
total (suc n) f = f n + total n f

pub total_zero : (f : ℕ → ℕ) → total 0 f ≡ 0
unfolding total
total_zero f = refl

pub total_suc : (n : ℕ) (f : ℕ → ℕ) → total (suc n) f ≡ f n + total n f
unfolding total
total_suc n f = refl

pub total_most : (n : ℕ) (f : ℕ → ℕ) → ((j : ℕ) → j < n → f j ≤ 1) → total n f ≤ n
unfolding total
total_most zero f small = omega arith
total_most (suc n) f small = omega (arith, small n (omega arith), total_most n f (λ j l. small j (omega arith)))

pub total_same : (n : ℕ) (f g : ℕ → ℕ) → ((j : ℕ) → j < n → g j ≡ f j) → total n g ≡ total n f
unfolding total
total_same zero f g same = refl
total_same (suc n) f g same = omega (arith, same n (omega arith), total_same n f g (λ j l. same j (omega arith)))

pub total_bump : (n : ℕ) (f g : ℕ → ℕ) (k : ℕ) → k < n → g k ≡ f k + 1 → ((j : ℕ) → j ≢ k → g j ≡ f j) → total n g ≡ total n f + 1
unfolding total
total_bump zero f g k l here others = absurd (omega arith)
total_bump (suc n) f g k l here others =
    grind (arith, total_same n f g, others n, total_bump n f g k)

pub total_less : (n : ℕ) (f g : ℕ → ℕ) → ((j : ℕ) → j < n → f j ≤ g j) → total n f ≤ total n g
unfolding total
total_less zero f g less = omega arith
total_less (suc n) f g less = omega (arith, less n (omega arith), total_less n f g (λ j l. less j (omega arith)))

pub total_more : (n : ℕ) (f g : ℕ → ℕ) (k : ℕ) → k < n → f k < g k → ((j : ℕ) → j < n → f j ≤ g j) → total n f < total n g
unfolding total
total_more zero f g k l here less = absurd (omega arith)
total_more (suc n) f g k l here less =
    grind (arith, total_less n f g, less n, total_more n f g k)

pub total_ones : (n : ℕ) → total n (λ (s : ℕ). 1) ≡ n
unfolding total
total_ones zero = refl
total_ones (suc n) = omega (arith, total_ones n)

-- 1 if a is below b
pub below : ℕ → ℕ → ℕ
below a b = cond (ltb a b) 1 0

pub below_yes : (a b : ℕ) → a < b → below a b ≡ 1
unfolding below
below_yes a b l = cond-true _ _ _ (lt-ltb a b l)

pub below_no : (a b : ℕ) → b ≤ a → below a b ≡ 0
unfolding below
below_no a b l = cond-false _ _ _ (le-ltb a b l)

pub below_most : (a b : ℕ) → below a b ≤ 1
below_most a b = grind (arith, cases_lt a b, below_yes a b, below_no a b)

-- m places that name the numbers 0 to n - 1 are n at least
pub covering : (m n : ℕ) (node at : ℕ → ℕ) → ((x : ℕ) → x < n → at x < m) → ((x : ℕ) → x < n → node (at x) ≡ x) → n ≤ total m (λ (k : ℕ). below (node k) n)
covering m zero node at low is = omega arith
covering m (suc n) node at low is =
    let fewer : n ≤ total m (λ (k : ℕ). below (node k) n) = covering m n node at (λ x l. low x (omega arith)) (λ x l. is x (omega arith)) in
    let here : below (node (at n)) n < below (node (at n)) (suc n) = omega (arith, below_no (node (at n)) n (omega (arith, is n (omega arith))), below_yes (node (at n)) (suc n) (omega (arith, is n (omega arith)))) in
    let less : (j : ℕ) → j < m → below (node j) n ≤ below (node j) (suc n) = (λ j l. grind (arith, cases_lt (node j) n, below_yes (node j) n, below_no (node j) n, below_yes (node j) (suc n))) in
    omega (arith, fewer, total_more m (λ (k : ℕ). below (node k) n) (λ (k : ℕ). below (node k) (suc n)) (at n) (low n (omega arith)) here less)

pub covered : (m n : ℕ) (node at : ℕ → ℕ) → ((x : ℕ) → x < n → at x < m) → ((x : ℕ) → x < n → node (at x) ≡ x) → n ≤ m
covered m n node at low is = omega (arith, covering m n node at low is, total_most m (λ (k : ℕ). below (node k) n) (λ j l. below_most (node j) n))

-- a sum of 0 and 1 is m if m places name its ones, each once
pub total_none : (n : ℕ) (f : ℕ → ℕ) → ((x : ℕ) → x < n → f x ≡ 0) → total n f ≡ 0
unfolding total
total_none zero f none = refl
total_none (suc n) f none = omega (arith, none n (omega arith), total_none n f (λ x l. none x (omega arith)))

pub without : (ℕ → ℕ) → ℕ → ℕ → ℕ
without f k x = elim (cases_eq x k) [ inl _ ↦ 0 | inr _ ↦ f x ]

pub without_here : (f : ℕ → ℕ) (k x : ℕ) → x ≡ k → without f k x ≡ 0
unfolding without
without_here f k x same = elim (cases_eq x k) as (λ d. elim d as (λ _. ℕ) [ inl _ ↦ 0 | inr _ ↦ f x ] ≡ 0) [ inl _ ↦ refl | inr ne ↦ absurd (ne same) ]

pub without_others : (f : ℕ → ℕ) (k x : ℕ) → x ≢ k → without f k x ≡ f x
unfolding without
without_others f k x ne = elim (cases_eq x k) as (λ d. elim d as (λ _. ℕ) [ inl _ ↦ 0 | inr _ ↦ f x ] ≡ f x) [ inl same ↦ absurd (ne same) | inr _ ↦ refl ]

pub record Ones (n m : ℕ) (f node at : ℕ → ℕ) : Type 0 where
  pub small : (x : ℕ) → x < n → f x ≤ 1
  pub place : (x : ℕ) → x < n → f x ≡ 1 → at x < m
  pub place_is : (x : ℕ) → x < n → f x ≡ 1 → node (at x) ≡ x
  pub one_in : (k : ℕ) → k < m → node k < n
  pub one : (k : ℕ) → k < m → f (node k) ≡ 1
  pub at_is : (k : ℕ) → k < m → at (node k) ≡ k

pub ones : (n m : ℕ) (f node at : ℕ → ℕ) → Ones n m f node at → total n f ≡ m
ones n zero f node at o = total_none n f (λ x l. grind (arith, cases_eq (f x) 0, o.small x, o.place x))
ones n (suc m) f node at o =
    let last : node m < n = o.one_in m (omega arith) in
    let rest : Ones n m (without f (node m)) node at = record {
      small = λ x l. grind (arith, cases_eq x (node m), without_here f (node m) x, without_others f (node m) x, o.small x);
      place = λ x l e. grind (arith, cases_eq x (node m), without_here f (node m) x, without_others f (node m) x, o.place x, o.place_is x, cases_eq (at x) m);
      place_is = λ x l e. grind (arith, cases_eq x (node m), without_here f (node m) x, without_others f (node m) x, o.place_is x);
      one_in = λ k l. o.one_in k (omega arith);
      one = λ k l. grind (arith, cases_eq (node k) (node m), without_others f (node m) (node k), o.one k, o.at_is k, o.at_is m);
      at_is = λ k l. o.at_is k (omega arith);
    } in
    omega (arith, ones n m (without f (node m)) node at rest, total_bump n (without f (node m)) f (node m) last (omega (arith, o.one m (omega arith), without_here f (node m) (node m) refl)) (λ j ne. sym (without_others f (node m) j ne)))
