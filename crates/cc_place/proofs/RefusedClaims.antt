-- The clauses refuse these claims.
use Rattle.std.proofs.Common.{◌≡◌, [], ◌∷◌, codes, arith}
use Rattle.serde_json.specs.Data.{Data, Members}
use Rattle.cc_place.specs.Names.{Kind}
use Rattle.cc_place.specs.Position.{column_after}
use Rattle.cc_place.specs.Why.{kind_in}
use Rattle.cc_place.specs.Refused.{RefusedClaims}

of_bytes : column_after (195 ∷ 188 ∷ []) ≡ 3 → ⊥
of_bytes is = absurd (omega (arith, is))

of_both : (rows : Data) → kind_in (Data.object (Members.member (codes "accepted") rows Members.no_members)) ≡ Kind.Plan → ⊥
of_both rows is = absurd (cc is)

pub claims_refused : RefusedClaims
claims_refused = record {
  columns_of_bytes = of_bytes;
  receipts_of_both_lists = of_both;
}
