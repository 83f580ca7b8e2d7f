-- Refused claims: for each kind of mistake a small case, and a claim about it that the clause doesn't admit.
use Rattle.std.specs.Prelude.{ℕ, Bool, false, [], ◌∷◌, Some}
use Rattle.cc_io.specs.Written.{Writes, GoesOn}

-- a claim that doesn't hold
abbrev pub Refused : Type 0 → Type 0
Refused claim = claim → ⊥

pub record RefusedClaims : Type 0 where
  -- of the text 1, 2 a write took the 1 and failed, and the whole text was written again, whatever is said of it
  pub text_restarts : (failed : Bool) (before after : ℕ) → Refused (Writes failed (Some []) (Some (1 ∷ 1 ∷ 2 ∷ [])) before after (1 ∷ 2 ∷ []))
  -- the same of a text that a pen had held back
  pub held_text_restarts : (failed : Bool) (before after : ℕ) → Refused (GoesOn false failed (1 ∷ 2 ∷ []) [] (Some []) (Some (1 ∷ 1 ∷ 2 ∷ [])) before after [])
