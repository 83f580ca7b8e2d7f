-- Refused claims: for each kind of mistake a small case, and a claim about it that the clause doesn't admit.
use Rattle.std.specs.Prelude.{◌≡◌, [], ◌∷◌, codes}
use Rattle.serde_json.specs.Data.{Data, Members}
use Rattle.cc_place.specs.Names.{Kind}
use Rattle.cc_place.specs.Position.{column_after}
use Rattle.cc_place.specs.Why.{kind_in}

-- a claim that doesn't hold
abbrev pub Refused : Type 0 → Type 0
Refused claim = claim → ⊥

pub record RefusedClaims : Type 0 where
  -- behind a character of two bytes, alone in its line, comes column 3
  pub columns_of_bytes : Refused (column_after (195 ∷ 188 ∷ []) ≡ 3)
  -- an object with one of the two rows of receipts is read as a plan
  pub receipts_of_both_lists : (rows : Data) → Refused (kind_in (Data.object (Members.member (codes "accepted") rows Members.no_members)) ≡ Kind.Plan)
