-- The same receipts have one verdict.
use Rattle.std.proofs.Common.{◌≡◌, ℕ, inl, inr, List, Option, sym, refl, ap, ◌∙◌}
use Rattle.std.proofs.lemmas.Bool.{cases_order}
use Rattle.cc_audit.specs.Names.{SendReceipt, TakeReceipt, Verdict}
use Rattle.cc_audit.specs.Verdict.{IsVerdict, IsFirstFault}

-- the least place is the lesser fault's
same_place : {sends : List SendReceipt} {takes : List TakeReceipt} {total : Option ℕ} {k p j q : ℕ} → IsFirstFault sends takes total k p → IsFirstFault sends takes total j q → p ≡ q
same_place {sends} {takes} {total} {k} {p} {j} {q} f g = elim (cases_order p q) [
  | inl same ↦ same
  | inr way ↦ elim way [ inl below ↦ absurd (g.least_place k p below f.holds) | inr above ↦ absurd (f.least_place j q above g.holds) ]
]

same_kind : {sends : List SendReceipt} {takes : List TakeReceipt} {total : Option ℕ} {k p j q : ℕ} → p ≡ q → IsFirstFault sends takes total k p → IsFirstFault sends takes total j q → k ≡ j
same_kind {sends} {takes} {total} {k} {p} {j} {q} same f g = elim (cases_order k j) [
  | inl here ↦ here
  | inr way ↦ elim way [ inl below ↦ absurd (g.least_kind k below (rw same at f.holds)) | inr above ↦ absurd (f.least_kind j above (rw (sym same) at g.holds)) ]
]

pub same : (sends : List SendReceipt) (takes : List TakeReceipt) (total : Option ℕ) (v w : Verdict) → IsVerdict sends takes total v → IsVerdict sends takes total w → v ≡ w
same sends takes total Verdict.Clean Verdict.Clean f g = refl
same sends takes total Verdict.Clean (Verdict.Fault j q) f g = absurd (f j q g.holds)
same sends takes total (Verdict.Fault k p) Verdict.Clean f g = absurd (g k p f.holds)
same sends takes total (Verdict.Fault k p) (Verdict.Fault j q) f g =
    let place : p ≡ q = same_place f g in
    ap (λ (n : ℕ). Verdict.Fault n p) (same_kind place f g) ∙ ap (λ (n : ℕ). Verdict.Fault j n) place
