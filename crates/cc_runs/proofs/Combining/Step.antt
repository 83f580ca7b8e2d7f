-- The chain after a step of one of its passes.
use Rattle.std.proofs.Common.{◌≡◌, ◌≢◌, ◌⊎◌, ℕ, inl, inr}
use Rattle.std.proofs.lemmas.Bool.{cases_eq}
use Rattle.cc_runs.proofs.Combining.Chain.{Chain}

-- a load: all nodes stay
pub record Loads (v v' : Chain) (p : ℕ) : Type 0 where
  pub node : (v'.post p).node ≡ (v.post p).node
  pub tail : v'.tail ≡ v.tail
  pub others : (q : ℕ) → q ≢ p → v'.post q ≡ v.post q
  pub nodes : (i : ℕ) → v'.node i ≡ v.node i

-- a store into node x: all other nodes stay
pub record Stores (v v' : Chain) (p x : ℕ) : Type 0 where
  pub node : (v'.post p).node ≡ (v.post p).node
  pub tail : v'.tail ≡ v.tail
  pub others : (q : ℕ) → q ≢ p → v'.post q ≡ v.post q
  pub nodes : (i : ℕ) → i ≢ x → v'.node i ≡ v.node i

-- if no pass but p has moved, each pass has not moved or is p
pub post_at : (v v' : Chain) (p : ℕ) → ((q : ℕ) → q ≢ p → v'.post q ≡ v.post q) → (q : ℕ) → (v'.post q ≡ v.post q) ⊎ (q ≡ p)
post_at v v' p others q = elim (cases_eq q p) [ inl same ↦ inr same | inr ne ↦ inl (others q ne) ]
