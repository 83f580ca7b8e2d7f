-- The result of each search over copies of the receipts.
use Rattle.std.proofs.Common.{◌≡◌, ℕ, ◌<◌, ◌≤◌, ◌==◌, ◌⊎◌, inl, inr, List, map, Option, Some, None, Contains, Any, IsSomeAnd, IsPermutation, refl, sym, subst, arith}
use Rattle.cc_audit.specs.Names.{SendReceipt, TakeReceipt}
use Rattle.cc_audit.specs.Least.{IsLeast, IsLeastUnless}
use Rattle.cc_audit.specs.Verdict.{Holds, double_accept, double_take, stranger, altered, gap, disorder, overrun, SendNames, TakeNames, Differs, DoubleAccept, Altered, Disorder}
use Rattle.cc_audit.proofs.InOrder.{TwiceIn, Unsent, LeftOut}
use Rattle.cc_audit.proofs.Copies.{any_permuted, any_back, any_weaker, count_permuted, listed, unlisted, any_listed, any_unlisted, count_listed}
use Rattle.cc_audit.proofs.Faults.{Finds, Lesser, meaning_of}

-- the same facts in other words
reworded : (P Q M N : ℕ → Type 0) (r : Option ℕ) → ((p : ℕ) → P p → Q p) → ((p : ℕ) → Q p → P p) → ((p : ℕ) → M p → N p) → IsLeastUnless P M r → IsLeastUnless Q N r
reworded P Q M N None there back masked least = λ q h. masked q (least q (back q h))
reworded P Q M N (Some p) there back masked least = (elim least.0 [ inl h ↦ inl (there p h) | inr h ↦ inr (masked p h) ], λ q below h. masked q (least.1 q below (back q h)))

exact : (P Q N : ℕ → Type 0) (r : Option ℕ) → ((p : ℕ) → P p → Q p) → ((p : ℕ) → Q p → P p) → IsLeast P r → IsLeastUnless Q N r
exact P Q N r there back least = grind arith

module _ (sends : List SendReceipt) (takes : List TakeReceipt) (total : Option ℕ) (sent taken : List ℕ) (sent_same : IsPermutation (map (λ s. s.place) sends) sent) (taken_same : IsPermutation (map (λ t. t.item.place) takes) taken) where
  place : SendReceipt → ℕ
  place s = s.place

  pub finds_double_accept : (r : Option ℕ) → IsLeast (TwiceIn sent) r → Finds sends takes total 1 r
  finds_double_accept r least = exact (TwiceIn sent) (Holds sends takes total 1) (Lesser sends takes total 1) r
      (λ p h. double_accept refl (subst (λ (n : ℕ). 2 ≤ n) (count_listed (λ (s : SendReceipt). s.place) sends sent sent_same p) h))
      (λ p h. subst (λ (n : ℕ). 2 ≤ n) (sym (count_listed (λ (s : SendReceipt). s.place) sends sent sent_same p)) (meaning_of h))
      least

  pub finds_double_take : (r : Option ℕ) → IsLeast (TwiceIn taken) r → Finds sends takes total 2 r
  finds_double_take r least = exact (TwiceIn taken) (Holds sends takes total 2) (Lesser sends takes total 2) r
      (λ p h. double_take refl (subst (λ (n : ℕ). 2 ≤ n) (count_listed (λ (t : TakeReceipt). t.item.place) takes taken taken_same p) h))
      (λ p h. subst (λ (n : ℕ). 2 ≤ n) (sym (count_listed (λ (t : TakeReceipt). t.item.place) takes taken taken_same p)) (meaning_of h))
      least

  sent_at : (p : ℕ) → Any (SendNames p) sends → Contains sent p
  sent_at p = listed (λ (s : SendReceipt). s.place) sends sent sent_same p

  at_sent : (p : ℕ) → Contains sent p → Any (SendNames p) sends
  at_sent p = unlisted (λ (s : SendReceipt). s.place) sends sent sent_same p

  taken_at : (p : ℕ) → Any (TakeNames p) takes → Contains taken p
  taken_at p = listed (λ (t : TakeReceipt). t.item.place) takes taken taken_same p

  at_taken : (p : ℕ) → Contains taken p → Any (TakeNames p) takes
  at_taken p = unlisted (λ (t : TakeReceipt). t.item.place) takes taken taken_same p

  pub finds_stranger : (r : Option ℕ) → IsLeast (Unsent sent taken) r → Finds sends takes total 3 r
  finds_stranger r least = exact (Unsent sent taken) (Holds sends takes total 3) (Lesser sends takes total 3) r
      (λ p h. stranger refl (at_taken p h.0, λ names. h.1 (sent_at p names)))
      (λ p h. let m = meaning_of h in (taken_at p m.0, λ names. m.1 (at_sent p names)))
      least

  pub finds_gap : (r : Option ℕ) → IsLeast (LeftOut taken) r → Finds sends takes total 5 r
  finds_gap r least = exact (LeftOut taken) (Holds sends takes total 5) (Lesser sends takes total 5) r
      (λ p h. gap refl (λ names. h.0 (taken_at p names), any_unlisted (λ (t : TakeReceipt). t.item.place) takes taken taken_same (λ x. p < x) h.1.1 (h.1.0, h.1.2, h.1.3) h.1.4))
      (λ p h. let m = meaning_of h in (λ names. m.0 (at_taken p names), any_listed (λ (t : TakeReceipt). t.item.place) takes taken taken_same (λ x. p < x) m.1))
      least

  pub finds_overrun : (r : Option ℕ) → IsLeast (λ p. IsSomeAnd total (λ n. n ≤ p) × (Contains sent p ⊎ Contains taken p)) r → Finds sends takes total 7 r
  finds_overrun r least = exact (λ p. IsSomeAnd total (λ n. n ≤ p) × (Contains sent p ⊎ Contains taken p)) (Holds sends takes total 7) (Lesser sends takes total 7) r
      (λ p h. overrun refl (h.0, elim h.1 [ inl names ↦ inl (at_sent p names) | inr names ↦ inr (at_taken p names) ]))
      (λ p h. let m = meaning_of h in (m.0, elim m.1 [ inl names ↦ inl (sent_at p names) | inr names ↦ inr (taken_at p names) ]))
      least

module _ (sends : List SendReceipt) (takes : List TakeReceipt) (total : Option ℕ) (copy : List SendReceipt) (same : IsPermutation sends copy) where
  doubled : (kind p : ℕ) → 1 < kind → DoubleAccept copy p → Lesser sends takes total kind p
  doubled kind p l h = (1, l, double_accept refl (subst (λ (n : ℕ). 2 ≤ n) (count_permuted (λ s. s.place == p) sends copy same) h))

  pub finds_altered : (r : Option ℕ) → IsLeastUnless (Altered copy takes) (DoubleAccept copy) r → Finds sends takes total 4 r
  finds_altered r least = reworded (Altered copy takes) (Holds sends takes total 4) (DoubleAccept copy) (Lesser sends takes total 4) r
      (λ p h. altered refl (any_weaker _ _ takes (λ t named. (named.0, any_back (λ s. SendNames p s × Differs s t.item) sends copy same named.1)) h))
      (λ p h. any_weaker _ _ takes (λ t named. (named.0, any_permuted (λ s. SendNames p s × Differs s t.item) sends copy same named.1)) (meaning_of h))
      (λ p. doubled 4 p (omega arith))
      least

  pub finds_disorder : (r : Option ℕ) → IsLeastUnless (Disorder copy) (DoubleAccept copy) r → Finds sends takes total 6 r
  finds_disorder r least = reworded (Disorder copy) (Holds sends takes total 6) (DoubleAccept copy) (Lesser sends takes total 6) r
      (λ p h. disorder refl (any_weaker _ _ sends (λ s named. (named.0, any_back (λ e. (e.sender ≡ s.sender) × (e.place < p) × (s.number ≤ e.number)) sends copy same named.1)) (any_back _ sends copy same h)))
      (λ p h. any_weaker _ _ copy (λ s named. (named.0, any_permuted (λ e. (e.sender ≡ s.sender) × (e.place < p) × (s.number ≤ e.number)) sends copy same named.1)) (any_permuted _ sends copy same (meaning_of h)))
      (λ p. doubled 6 p (omega arith))
      least
