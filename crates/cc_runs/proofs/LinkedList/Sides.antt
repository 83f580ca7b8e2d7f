-- The least of the sides' numbers, and how many are above a number: why Gives holds of any number of sides.
use Rattle.std.proofs.Common.{◌≡◌, ℕ, zero, suc, ◌+◌, ◌<◌, ◌≤◌, ◌≢◌, arith, refl, cond, ltb, min, inl, inr, sym}
use Rattle.std.proofs.lemmas.Bool.{cases_eq, cases_lt, cond-true, cond-false, lt-ltb, le-ltb}
use Rattle.cc_runs.proofs.LinkedList.Count.{total, total_most, total_same, total_bump, total_more, total_none, total_ones, below, below_yes, below_no, below_most}

-- of h 0 to h m
pub smallest : ℕ → (ℕ → ℕ) → ℕ
smallest zero h = h 0
smallest (suc m) h = cond (ltb (h (suc m)) (smallest m h)) (h (suc m)) (smallest m h)

smallest_step : (m : ℕ) (h : ℕ → ℕ) → (smallest (suc m) h ≤ h (suc m)) × (smallest (suc m) h ≤ smallest m h)
unfolding smallest
smallest_step m h = grind arith

pub smallest_one : (h : ℕ → ℕ) → smallest 0 h ≡ h 0
unfolding smallest
smallest_one h = refl

pub smallest_min : (m : ℕ) (h : ℕ → ℕ) → smallest (suc m) h ≡ min (smallest m h) (h (suc m))
unfolding smallest
smallest_min m h = grind arith

pub smallest_least : (m : ℕ) (h : ℕ → ℕ) (s : ℕ) → s ≤ m → smallest m h ≤ h s
unfolding smallest
smallest_least zero h s l = let e : s ≡ 0 = omega arith in grind (arith, e)
smallest_least (suc m) h s l = grind (arith, cases_eq s (suc m), smallest_step m h, smallest_least m h s)

pub smallest_is : (m : ℕ) (h : ℕ → ℕ) → (s : ℕ) × (s ≤ m) × (h s ≡ smallest m h)
unfolding smallest
smallest_is zero h = (0, omega arith, refl)
smallest_is (suc m) h = elim (cases_lt (h (suc m)) (smallest m h)) [
  | inl l ↦ (suc m, omega arith, sym (cond-true _ _ _ (lt-ltb _ _ l)))
  | inr l ↦ let r : (s : ℕ) × (s ≤ m) × (h s ≡ smallest m h) = smallest_is m h in let e : cond (ltb (h (suc m)) (smallest m h)) (h (suc m)) (smallest m h) ≡ smallest m h = cond-false _ _ _ (le-ltb _ _ l) in (r.0, omega (arith, r.1), omega (arith, r.2, e))
]

pub above : ℕ → (ℕ → ℕ) → ℕ → ℕ
above n h k = total n (λ (s : ℕ). below k (h s))

pub above_all : (m n : ℕ) (h : ℕ → ℕ) (k : ℕ) → n ≡ m + 1 → k < smallest m h → above n h k ≡ n
unfolding above
above_all m n h k e l = omega (arith, total_same n (λ (s : ℕ). 1) (λ (s : ℕ). below k (h s)) (λ s a. below_yes k (h s) (omega (arith, smallest_least m h s (omega arith)))), total_ones n)

pub above_some : (m n : ℕ) (h : ℕ → ℕ) (k : ℕ) → n ≡ m + 1 → smallest m h ≤ k → above n h k < n
unfolding above
above_some m n h k e l =
    let r : (s : ℕ) × (s ≤ m) × (h s ≡ smallest m h) = smallest_is m h in
    let zero_here : below k (h r.0) ≡ 0 = below_no k (h r.0) (omega (arith, r.2)) in
    omega (arith, total_more n (λ (s : ℕ). below k (h s)) (λ (s : ℕ). 1) r.0 (omega (arith, r.1)) (omega (arith, zero_here)) (λ j a. below_most k (h j)), total_most n (λ (s : ℕ). 1) (λ j a. omega arith))

pub above_none : (n : ℕ) (h : ℕ → ℕ) (k : ℕ) → ((s : ℕ) → s < n → h s ≤ k) → above n h k ≡ 0
unfolding above
above_none n h k low = total_none n (λ (s : ℕ). below k (h s)) (λ s l. below_no k (h s) (low s l))

-- side s goes on by one
module _ (n : ℕ) (h h' : ℕ → ℕ) (s : ℕ) (inside : s < n) (now : h' s ≡ h s + 1) (others : (q : ℕ) → q ≢ s → h' q ≡ h q) where
  pub above_now : above n h' (h s) ≡ above n h (h s) + 1
  unfolding above
  above_now = total_bump n (λ (q : ℕ). below (h s) (h q)) (λ (q : ℕ). below (h s) (h' q)) s inside (omega (arith, below_yes (h s) (h' s) (omega (arith, now)), below_no (h s) (h s) (omega arith))) (λ q ne. grind (arith, others q))

  pub above_others : (k : ℕ) → k ≢ h s → above n h' k ≡ above n h k
  unfolding above
  above_others k ne = total_same n (λ (q : ℕ). below k (h q)) (λ (q : ℕ). below k (h' q)) (λ q l. grind (arith, cases_eq q s, others q, cases_lt k (h s), now, below_yes k (h s), below_yes k (h' s), below_no k (h s), below_no k (h' s)))
