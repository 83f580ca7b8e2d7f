-- The work of the first calls of a chain, as the sum of its passes' shares.
use Rattle.std.proofs.Common.{◌≡◌, ℕ, zero, suc, ◌+◌, ◌*◌, ◌<◌, ◌≤◌, Bool, true, false, not, ◌&&◌, cond, IsTrue, arith}
use Rattle.cc_runs.specs.Names.{Setting, Chain, Phase}
use Rattle.cc_runs.specs.State.{State}
use Rattle.cc_runs.specs.Ahead.{share, shares}

-- a share by its parts: in its call, with a later one, and the steps that are left
abbrev pub part : Bool → Bool → ℕ → ℕ
part inside later left = cond (inside && not later) left 0

pub part_le : (inside : Bool) (inside' later : Bool) (left left' : ℕ) → inside ≡ true → left' ≤ left → part inside' later left' ≤ part inside later left
part_le inside inside' later left left' is low = grind arith

pub part_lt : (inside : Bool) (inside' later : Bool) (left left' : ℕ) → IsTrue (inside && not later) → left' < left → part inside' later left' < part inside later left
part_lt inside inside' later left left' is low = grind arith

pub part_out : (inside later : Bool) (left : ℕ) → inside ≡ false → part inside later left ≡ 0
part_out inside later left is = grind arith

pub part_later : (inside later : Bool) (left : ℕ) → later ≡ true → part inside later left ≡ 0
part_later inside later left is = grind arith

pub part_most : (inside later : Bool) (left most : ℕ) → (inside ≡ true → left ≤ most) → part inside later left ≤ most
part_most inside later left most low = grind arith

pub part_some : (inside later : Bool) (left : ℕ) → IsTrue (inside && not later) → (inside ≡ true → 0 < left) → 0 < part inside later left
part_some inside later left is some = grind arith

-- what holds where both tests do
pub both_true : (a b : Bool) → IsTrue (a && b) → (a ≡ true) × (b ≡ true)
both_true a b is = grind arith

pub true_both : (a b : Bool) → a ≡ true → b ≡ true → IsTrue (a && b)
true_both a b x y = grind arith

more_once : (n most : ℕ) → n * most + most ≡ suc n * most
more_once n most = omega arith

module _ (left : Phase → ℕ) (c : Setting) (x : Chain) (k : ℕ) (s : State) where
  pub shares_most : (most n : ℕ) → ((q : ℕ) → q < n → share left c x k s q ≤ most) → shares left c x k s n ≤ n * most
  shares_most most zero each = omega arith
  shares_most most (suc n) each = omega (arith, each n (omega arith), shares_most most n (λ q less. each q (omega (arith, less))), more_once n most)

  module _ (t : State) where
    pub shares_le : (n : ℕ) → ((q : ℕ) → q < n → share left c x k t q ≤ share left c x k s q) → shares left c x k t n ≤ shares left c x k s n
    shares_le zero each = omega arith
    shares_le (suc n) each = omega (arith, each n (omega arith), shares_le n (λ q less. each q (omega (arith, less))))

    pub shares_lt : (n p : ℕ) → p < n → ((q : ℕ) → q < n → share left c x k t q ≤ share left c x k s q) → share left c x k t p < share left c x k s p → shares left c x k t n < shares left c x k s n
    shares_lt zero p less each at = absurd (omega arith)
    shares_lt (suc n) p less each at = grind (arith, shares_le n, each n, shares_lt n p)
