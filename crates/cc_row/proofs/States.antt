-- What one call changes of each queue's state.
use Rattle.std.proofs.Common.{◌≡◌, ℕ, ◌+◌, false, ◌||◌, List, [], ◌∷◌, ◌++◌, length, arith, append-nil}
use Rattle.cc_model.specs.Items.{shuts, handed_item}
use Rattle.cc_row.specs.Row.{At, new_of, ends, items_at, shut_at, taken_at, ended_at}

module _ (e : At) (o : List At) where
  pub items_here : (q : ℕ) → e.queue ≡ q → items_at q (e ∷ o) ≡ items_at q o ++ new_of e
  items_here q is = grind arith

  pub items_else : (q : ℕ) → (e.queue ≡ q → ⊥) → items_at q (e ∷ o) ≡ items_at q o
  items_else q differ = grind arith

  pub items_none : (q : ℕ) → new_of e ≡ [] → items_at q (e ∷ o) ≡ items_at q o
  items_none q none = grind (arith, append-nil)

  pub shut_here : (q : ℕ) → e.queue ≡ q → shut_at q (e ∷ o) ≡ (shut_at q o || shuts e.answer)
  shut_here q is = grind arith

  pub shut_else : (q : ℕ) → (e.queue ≡ q → ⊥) → shut_at q (e ∷ o) ≡ shut_at q o
  shut_else q differ = grind arith

  pub shut_none : (q : ℕ) → shuts e.answer ≡ false → shut_at q (e ∷ o) ≡ shut_at q o
  shut_none q none = grind arith

  pub taken_here : (q g : ℕ) → e.queue ≡ q → e.group ≡ g → taken_at q g (e ∷ o) ≡ taken_at q g o + length (handed_item e.answer)
  taken_here q g is same = grind arith

  pub taken_else : (q g : ℕ) → (e.queue ≡ q → ⊥) → taken_at q g (e ∷ o) ≡ taken_at q g o
  taken_else q g differ = grind arith

  pub taken_other : (q g : ℕ) → (e.group ≡ g → ⊥) → taken_at q g (e ∷ o) ≡ taken_at q g o
  taken_other q g differ = grind arith

  pub taken_none : (q g : ℕ) → handed_item e.answer ≡ [] → taken_at q g (e ∷ o) ≡ taken_at q g o
  taken_none q g none = grind arith

  pub ended_here : (q g : ℕ) → e.queue ≡ q → e.group ≡ g → ended_at q g (e ∷ o) ≡ (ended_at q g o || ends e.answer)
  ended_here q g is same = grind arith

  pub ended_else : (q g : ℕ) → (e.queue ≡ q → ⊥) → ended_at q g (e ∷ o) ≡ ended_at q g o
  ended_else q g differ = grind arith

  pub ended_other : (q g : ℕ) → (e.group ≡ g → ⊥) → ended_at q g (e ∷ o) ≡ ended_at q g o
  ended_other q g differ = grind arith

  pub ended_none : (q g : ℕ) → ends e.answer ≡ false → ended_at q g (e ∷ o) ≡ ended_at q g o
  ended_none q g none = grind arith
