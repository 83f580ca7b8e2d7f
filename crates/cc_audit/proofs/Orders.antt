-- The verdict on the same receipts in another order.
use Rattle.std.proofs.Common.{ℕ, List, Option, IsPermutation, ◌≡◌, ◌<◌, ◌≤◌, ◌==◌, inl, inr, sym, subst}
use Rattle.std.proofs.lemmas.List.Sorted.{IsPermutation-sym}
use Rattle.cc_audit.specs.Names.{SendReceipt, TakeReceipt, Verdict}
use Rattle.cc_audit.specs.Verdict.{Holds, IsVerdict, double_accept, double_take, stranger, altered, gap, disorder, overrun, SendNames, TakeNames, Differs}
use Rattle.cc_audit.proofs.Copies.{any_permuted, any_back, any_weaker, count_permuted}

holds_again : {sends sends' : List SendReceipt} {takes takes' : List TakeReceipt} {total : Option ℕ} {kind p : ℕ} → IsPermutation sends sends' → IsPermutation takes takes' → Holds sends takes total kind p → Holds sends' takes' total kind p
holds_again {sends} {sends'} {takes} {takes'} {total} {kind} {p} same also (double_accept is h) =
    double_accept is (subst (λ (n : ℕ). 2 ≤ n) (sym (count_permuted (λ s. s.place == p) sends sends' same)) h)
holds_again {sends} {sends'} {takes} {takes'} {total} {kind} {p} same also (double_take is h) =
    double_take is (subst (λ (n : ℕ). 2 ≤ n) (sym (count_permuted (λ t. t.item.place == p) takes takes' also)) h)
holds_again {sends} {sends'} {takes} {takes'} {total} {kind} {p} same also (stranger is h) =
    stranger is (any_permuted (TakeNames p) takes takes' also h.0, λ names. h.1 (any_back (SendNames p) sends sends' same names))
holds_again {sends} {sends'} {takes} {takes'} {total} {kind} {p} same also (altered is h) =
    altered is (any_weaker _ _ takes' (λ t named. (named.0, any_permuted (λ s. SendNames p s × Differs s t.item) sends sends' same named.1)) (any_permuted _ takes takes' also h))
holds_again {sends} {sends'} {takes} {takes'} {total} {kind} {p} same also (gap is h) =
    gap is (λ names. h.0 (any_back (TakeNames p) takes takes' also names), any_permuted (λ t. p < t.item.place) takes takes' also h.1)
holds_again {sends} {sends'} {takes} {takes'} {total} {kind} {p} same also (disorder is h) =
    disorder is (any_weaker _ _ sends' (λ s named. (named.0, any_permuted (λ e. (e.sender ≡ s.sender) × (e.place < p) × (s.number ≤ e.number)) sends sends' same named.1)) (any_permuted _ sends sends' same h))
holds_again {sends} {sends'} {takes} {takes'} {total} {kind} {p} same also (overrun is h) =
    overrun is (h.0, elim h.1 [ inl names ↦ inl (any_permuted (SendNames p) sends sends' same names) | inr names ↦ inr (any_permuted (TakeNames p) takes takes' also names) ])

pub same_verdict : (sends sends' : List SendReceipt) (takes takes' : List TakeReceipt) (total : Option ℕ) (v : Verdict) → IsPermutation sends sends' → IsPermutation takes takes' → IsVerdict sends takes total v → IsVerdict sends' takes' total v
same_verdict sends sends' takes takes' total Verdict.Clean same also clean =
    λ kind p h. clean kind p (holds_again (IsPermutation-sym sends sends' same) (IsPermutation-sym takes takes' also) h)
same_verdict sends sends' takes takes' total (Verdict.Fault kind p) same also fault =
    let back : IsPermutation sends' sends = IsPermutation-sym sends sends' same in
    let back_also : IsPermutation takes' takes = IsPermutation-sym takes takes' also in
    record {
      holds = holds_again same also fault.holds;
      least_place = λ k q below h. fault.least_place k q below (holds_again back back_also h);
      least_kind = λ k below h. fault.least_kind k below (holds_again back back_also h);
    }
