-- The clauses refuse these claims.
use Rattle.std.proofs.Common.{◌≡◌, ℕ, Bool, true, false, List, [], ◌∷◌, ◌++◌, Some, length, ap, sym, ◌∙◌, arith}
use Rattle.cc_io.specs.Written.{Writes, GoesOn}
use Rattle.cc_io.specs.Refused.{RefusedClaims}

-- nothing behind a prefix makes it longer than the whole
too_long : (front rest : List ℕ) → 1 ∷ 1 ∷ 2 ∷ [] ≡ front → 1 ∷ 2 ∷ [] ≡ front ++ rest → ⊥
too_long front rest all whole = absurd (grind (arith, all, whole))

restarts : (failed : Bool) (before after : ℕ) → Writes failed (Some []) (Some (1 ∷ 1 ∷ 2 ∷ [])) before after (1 ∷ 2 ∷ []) → ⊥
restarts false before after writes = absurd (grind (arith, writes.0))
restarts true before after writes = too_long writes.0 writes.1.0 writes.2 writes.1.1

held_restarts : (failed : Bool) (before after : ℕ) → GoesOn false failed (1 ∷ 2 ∷ []) [] (Some []) (Some (1 ∷ 1 ∷ 2 ∷ [])) before after [] → ⊥
held_restarts false before after goes = too_long goes.0 [] goes.2 goes.1
held_restarts true before after goes = too_long goes.0 goes.1.0 goes.2 goes.1.1

pub claims_refused : RefusedClaims
claims_refused = record {
  text_restarts = restarts;
  held_text_restarts = held_restarts;
}
