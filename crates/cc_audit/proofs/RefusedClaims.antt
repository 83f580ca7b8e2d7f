-- The clauses refuse these claims.
use Rattle.std.proofs.Common.{[], ◌∷◌, Some, None, refl, arith}
use Rattle.cc_audit.specs.Names.{Verdict}
use Rattle.cc_audit.specs.Receipts.{send_receipt}
use Rattle.cc_audit.specs.Verdict.{Holds, IsVerdict}
use Rattle.cc_audit.specs.Refused.{RefusedClaims, sent, other_word, taken}

skipped : IsVerdict (send_receipt sent ∷ []) (taken other_word ∷ []) None Verdict.Clean → ⊥
skipped clean = clean 4 0 (Holds.altered refl (grind arith))

twice : IsVerdict (send_receipt sent ∷ []) (taken sent ∷ taken sent ∷ []) None Verdict.Clean → ⊥
twice clean = clean 2 0 (Holds.double_take refl (grind arith))

beyond : IsVerdict (send_receipt sent ∷ []) [] (Some 0) Verdict.Clean → ⊥
beyond clean = clean 7 0 (Holds.overrun refl (grind arith))

pub claims_refused : RefusedClaims
claims_refused = record {
  bodies_are_skipped = skipped;
  second_take_is_unseen = twice;
  total_is_unseen = beyond;
}
