-- Which passes are in one of the first calls of their chain, as the abstract chain sees it.
use Rattle.std.proofs.Common.{◌≡◌, ◌≢◌, ℕ, zero, suc, ◌-◌, ◌<◌, ◌≤◌, Bool, true, false, not, ◌||◌, IsTrue, List, [], ◌∷◌, length, drop, refl, ap, ◌∙◌, arith}
use Rattle.std.specs.List.{list_any}
use Rattle.std.proofs.lemmas.Bool.{not-true, not_from_false}
use Rattle.std.proofs.lemmas.List.{get_or-drop, length-drop}
use Rattle.std.proofs.lemmas.List.Folds.{list_any_at}
use Rattle.cc_model.specs.Items.{is_pass}
use Rattle.cc_runs.specs.Names.{Setting, Pass, Entry, Chain, Phase}
use Rattle.cc_runs.specs.State.{State, pass_at}
use Rattle.cc_runs.specs.Turns.{is_in, has_later, is_among}
use Rattle.cc_runs.proofs.Chains.View.{members, pass_on, post_of, post_at}
use Rattle.cc_runs.proofs.Chains.Registers.{calls_on, call_at, no_call}
use Rattle.cc_runs.proofs.Chains.Ties.{ghost_of, Holds}
use Rattle.cc_runs.proofs.Chains.ReadAnswers.{named, name_is, other_name}
use Rattle.cc_runs.proofs.Progress.Shares.{both_true, true_both}
use Rattle.cc_runs.proofs.CallsMade.{pass_self}

-- no element from the k-th on passes the test
none_from : (f : Entry → Bool) (calls : List Entry) (k : ℕ) → ((j : ℕ) → k ≤ j → j < length calls → f (call_at calls j) ≡ false) → list_any f (drop k calls) ≡ false
none_from f [] zero none = refl
none_from f [] (suc k) none = refl
none_from f (e ∷ calls) zero none = ap (λ (b : Bool). b || list_any f calls) (none 0 (omega arith) (omega arith)) ∙ none_from f calls 0 (λ j low less. none (suc j) (omega arith) (omega (arith, less)))
none_from f (e ∷ calls) (suc k) none = none_from f calls k (λ j low less. none (suc j) (omega (arith, low)) (omega (arith, less)))

-- if none does, the j-th is before
before : (f : Entry → Bool) (calls : List Entry) (k j : ℕ) → list_any f (drop k calls) ≡ false → j < length calls → f (call_at calls j) ≡ true → j < k
before f calls k j none less is = grind (
  arith,
  get_or-drop k calls (j - k) no_call,
  length-drop k calls,
  list_any_at f (drop k calls) (j - k) no_call,
)

pub in_rank : (x : Chain) (own : ℕ) (at : Phase) → is_in at ≡ true → 3 ≤ (post_of x own at).rank
in_rank x own at is = grind arith

pub rank_in : (x : Chain) (own : ℕ) (at : Phase) → 3 ≤ (post_of x own at).rank → is_in at ≡ true
rank_in x own at high = grind arith

module _ (c : Setting) (x : Chain) (s : State) (w : Holds c x s) (k : ℕ) where
  abbrev its : ℕ → Entry → Bool
  its n e = is_pass (pass_at c.config (pass_on c x n)) e.pass

  -- the j-th call is of this pass
  is_its : (n j : ℕ) → n < members c x → j < length (calls_on x s.history) → (ghost_of w).pass_of j ≡ n → its n (call_at (calls_on x s.history) j) ≡ true
  is_its n j inside less same =
      let below : j < (ghost_of w).calls = omega (arith, less) in
      ap (λ (z : Pass). is_pass (pass_at c.config (pass_on c x n)) z) ((w.ties.entered j below).pass_is ∙ ap (λ (z : ℕ). pass_at c.config (pass_on c x z)) same) ∙ pass_self (pass_at c.config (pass_on c x n))

  not_its : (n j : ℕ) → n < members c x → j < length (calls_on x s.history) → (ghost_of w).pass_of j ≢ n → its n (call_at (calls_on x s.history) j) ≡ false
  not_its n j inside less ne =
      let below : j < (ghost_of w).calls = omega (arith, less) in
      let theirs : (call_at (calls_on x s.history) j).pass ≡ named c x ((ghost_of w).pass_of j) = (w.ties.entered j below).pass_is ∙ name_is c x ((ghost_of w).pass_of j) (w.ties.pass_in j below) in
      (λ i. is_pass (name_is c x n inside i) (theirs i)) ∙ other_name c x n ((ghost_of w).pass_of j) ne

  -- it is in one of the first k calls exactly if its last call is one of them
  pub among_at : (n : ℕ) → n < members c x → IsTrue (is_among c x k s n) → (3 ≤ (post_at x (s.stand (pass_on c x n))).rank) × ((ghost_of w).at n < k)
  among_at n inside among =
      let two = both_true (is_in (s.stand (pass_on c x n)).phase) (not (has_later (pass_at c.config (pass_on c x n)) k (calls_on x s.history))) among in
      let rank : 3 ≤ (post_at x (s.stand (pass_on c x n))).rank = in_rank x (s.stand (pass_on c x n)).node (s.stand (pass_on c x n)).phase two.0 in
      let less : (ghost_of w).at n < length (calls_on x s.history) = omega (arith, w.inv.passes.at_in n inside rank) in
      (rank, before (its n) (calls_on x s.history) k ((ghost_of w).at n) (not-true (has_later (pass_at c.config (pass_on c x n)) k (calls_on x s.history)) two.1) less (is_its n ((ghost_of w).at n) inside less (w.inv.passes.at_is n inside rank)))

  pub at_among : (n : ℕ) → n < members c x → 3 ≤ (post_at x (s.stand (pass_on c x n))).rank → (ghost_of w).at n < k → IsTrue (is_among c x k s n)
  at_among n inside rank less =
      true_both (is_in (s.stand (pass_on c x n)).phase) (not (has_later (pass_at c.config (pass_on c x n)) k (calls_on x s.history))) (rank_in x (s.stand (pass_on c x n)).node (s.stand (pass_on c x n)).phase rank)
      (not_from_false (has_later (pass_at c.config (pass_on c x n)) k (calls_on x s.history)) (none_from (its n) (calls_on x s.history) k
      (λ j low below. not_its n j inside below (w.inv.passes.at_last n j (omega (arith, less, low)) (omega (arith, below))))))

  -- a call without an answer has its pass in it
  pub open_among : (j : ℕ) → (ghost_of w).marked ≤ j → j < (ghost_of w).calls → j < k → IsTrue (is_among c x k s ((ghost_of w).pass_of j))
  open_among j low high less =
      at_among ((ghost_of w).pass_of j) (w.inv.calls.open_pass j low high) (w.inv.calls.open_low j low high) (omega (arith, less, w.inv.calls.open_at j low high))
