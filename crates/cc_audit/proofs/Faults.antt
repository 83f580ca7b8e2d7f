-- The verdict, kind by kind.
use Rattle.std.proofs.Common.{◌≡◌, ℕ, zero, suc, ◌+◌, ◌<◌, ◌≤◌, inl, inr, List, Bool, true, false, cond, Option, Some, None, nat_lt, refl, sym, subst, arith}
use Rattle.cc_audit.specs.Names.{SendReceipt, TakeReceipt, Verdict}
use Rattle.std.proofs.lemmas.Bool.{ltb-true, ltb-false, cases_lt}
use Rattle.cc_audit.specs.Least.{IsLeastUnless, or_fault_of}
use Rattle.cc_audit.specs.Verdict.{Holds, DoubleAccept, DoubleTake, Stranger, Altered, Gap, Disorder, Overrun, IsVerdict}

-- what it is that a kind holds
abbrev pub Meaning : List SendReceipt → List TakeReceipt → Option ℕ → (p kind : ℕ) → Type 0
Meaning sends takes total p (suc zero) = DoubleAccept sends p
Meaning sends takes total p (suc (suc zero)) = DoubleTake takes p
Meaning sends takes total p (suc (suc (suc zero))) = Stranger sends takes p
Meaning sends takes total p (suc (suc (suc (suc zero)))) = Altered sends takes p
Meaning sends takes total p (suc (suc (suc (suc (suc zero))))) = Gap takes p
Meaning sends takes total p (suc (suc (suc (suc (suc (suc zero)))))) = Disorder sends p
Meaning sends takes total p (suc (suc (suc (suc (suc (suc (suc zero))))))) = Overrun sends takes total p
Meaning sends takes total p _ = ⊥

pub meaning_of : {sends : List SendReceipt} {takes : List TakeReceipt} {total : Option ℕ} {kind p : ℕ} → Holds sends takes total kind p → Meaning sends takes total p kind
meaning_of {sends} {takes} {total} {kind} {p} h = grind arith

-- the kinds are numbered 1 to 7
pub kind_bounds : {sends : List SendReceipt} {takes : List TakeReceipt} {total : Option ℕ} {kind p : ℕ} → Holds sends takes total kind p → (1 ≤ kind) × (kind ≤ 7)
kind_bounds h = grind arith

-- ---- the verdict on the first kinds alone

module _ (sends : List SendReceipt) (takes : List TakeReceipt) (total : Option ℕ) where
  -- a lesser kind holds at the place
  abbrev pub Lesser : (kind p : ℕ) → Type 0
  Lesser kind p = (k : ℕ) × (k < kind) × Holds sends takes total k p

  -- the least place of a kind, if nothing is asked of places at which a lesser one holds
  abbrev pub Finds : ℕ → Option ℕ → Type 0
  Finds kind r = IsLeastUnless (Holds sends takes total kind) (Lesser kind) r

  -- the verdict, if kinds above n are left out
  pub record First (n kind p : ℕ) : Type 0 where
    pub within : kind ≤ n
    pub holds : Holds sends takes total kind p
    pub places : (k q : ℕ) → k ≤ n → q < p → Holds sends takes total k q → ⊥
    pub kinds : (k : ℕ) → k < kind → Holds sends takes total k p → ⊥

  abbrev pub UpTo : ℕ → Verdict → Type 0
  UpTo n Verdict.Clean = (k q : ℕ) → k ≤ n → Holds sends takes total k q → ⊥
  UpTo n (Verdict.Fault kind p) = First n kind p

  pub none_yet : UpTo 0 Verdict.Clean
  none_yet k q l h = absurd (omega (arith, (kind_bounds h).0))

  -- no lesser kind holds if none of the first n does
  lesser_none : (n q : ℕ) → ((k : ℕ) → k ≤ n → Holds sends takes total k q → ⊥) → Lesser (n + 1) q → ⊥
  lesser_none n q none less = none less.0 (omega (arith, less.1)) less.2

  -- nor does one more
  one_more : (n q : ℕ) → ((k : ℕ) → k ≤ n → Holds sends takes total k q → ⊥) → (Holds sends takes total (n + 1) q → Lesser (n + 1) q) → (k : ℕ) → k ≤ n + 1 → Holds sends takes total k q → ⊥
  one_more n q none masked k l h = elim (cases_lt k (n + 1)) [
    | inl below ↦ none k (omega arith) h
    | inr last ↦ lesser_none n q none (masked (let same : k ≡ n + 1 = omega arith in subst (λ (j : ℕ). Holds sends takes total j q) same h))
  ]

  -- a further kind is found at a place that none of the first n holds up to
  new_fault : (n p : ℕ) → ((k q : ℕ) → k ≤ n → q ≤ p → Holds sends takes total k q → ⊥) → Finds (n + 1) (Some p) → First (n + 1) (n + 1) p
  new_fault n p none find = record {
    within = omega arith;
    holds = elim find.0 [ inl h ↦ h | inr less ↦ absurd (lesser_none n p (λ k l. none k p l (omega arith)) less) ];
    places = λ k q l below. one_more n q (λ j m. none j q m (omega arith)) (find.1 q below) k l;
    kinds = λ k l. none k p (omega arith) (omega arith);
  }

  -- a further kind is found at no lower place
  old_fault : (n kind p : ℕ) → First n kind p → ((q : ℕ) → q < p → Holds sends takes total (n + 1) q → Lesser (n + 1) q) → First (n + 1) kind p
  old_fault n kind p first masked = record {
    within = omega (arith, first.within);
    holds = first.holds;
    places = λ k q l below. one_more n q (λ j m. first.places j q m below) (masked q below) k l;
    kinds = first.kinds;
  }

  next_kind : (n : ℕ) (v : Verdict) (r : Option ℕ) → UpTo n v → Finds (n + 1) r → UpTo (n + 1) (or_fault_of v (n + 1) r)
  next_kind n Verdict.Clean None upto find = λ k q. one_more n q (λ j l. upto j q l) (find q) k
  next_kind n (Verdict.Fault kind p) None upto find = old_fault n kind p upto (λ q below. find q)
  next_kind n Verdict.Clean (Some m) upto find = new_fault n m (λ k q l le. upto k q l) find
  next_kind n (Verdict.Fault kind p) (Some m) upto find = by_test (nat_lt m p) (λ t. ltb-true m p t) (λ t. ltb-false m p t)
    where
      by_test : (b : Bool) → (b ≡ true → m < p) → (b ≡ false → p ≤ m) → UpTo (n + 1) (cond b (Verdict.Fault (n + 1) m) (Verdict.Fault kind p))
      by_test true under over = new_fault n m (λ k q l le. upto.places k q l (omega (arith, under refl))) find
      by_test false under over = old_fault n kind p upto (λ q below. find.1 q (omega (arith, over refl)))

  -- what a search for one kind more adds to the verdict
  pub joined : (n : ℕ) (v w : Verdict) (r : Option ℕ) → w ≡ or_fault_of v (n + 1) r → UpTo n v → Finds (n + 1) r → UpTo (n + 1) w
  joined n v w r is upto find = subst (UpTo (n + 1)) (sym is) (next_kind n v r upto find)

  pub all_kinds : (v : Verdict) → UpTo 7 v → IsVerdict sends takes total v
  all_kinds Verdict.Clean upto = λ k p h. upto k p (kind_bounds h).1 h
  all_kinds (Verdict.Fault kind p) upto = record {
    holds = upto.holds;
    least_place = λ k q below h. upto.places k q (kind_bounds h).1 below h;
    least_kind = upto.kinds;
  }
