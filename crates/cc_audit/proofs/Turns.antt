-- A sender's receipts out of turn, found at neighbours.
use Rattle.std.proofs.lemmas.Bool.{cases_lt}
use Rattle.std.proofs.Common.{◌≡◌, ℕ, zero, suc, ◌+◌, ◌-◌, ◌<◌, ◌≤◌, ◌⊎◌, inr, List, length, Option, Some, get_or, IfSome, refl, sym, ap, ◌∙◌, subst, arith, eq-eqb, ◌==◌, inl}
use Rattle.std.specs.List.Sorted.{IsNonDecreasingBy}
use Rattle.std.proofs.lemmas.List.{get_or_default}
use Rattle.cc_audit.specs.Names.{SendReceipt}
use Rattle.cc_audit.specs.Least.{IsLeastUnless, RisesInSenders, sooner_of}
use Rattle.cc_audit.specs.Verdict.{Disorder, DoubleAccept}
use Rattle.cc_audit.proofs.Counts.{count_of_two}
use Rattle.cc_audit.proofs.Soonest.{AtMost, at_most_left, at_most_right, found_sooner, unless_of}

-- receipts by index, those of a sender together and in the order of their places
pub record Grouped (n : ℕ) (sender place : ℕ → ℕ) : Type 0 where
  pub senders : (i j : ℕ) → i ≤ j → j < n → sender i ≤ sender j
  pub places : (i j : ℕ) → j ≡ i + 1 → j < n → sender i ≡ sender j → place i ≤ place j

pub rise_along : {n : ℕ} {sender place : ℕ → ℕ} → Grouped n sender place → (k a b : ℕ) → b ≡ a + k → b < n → sender a ≡ sender b → place a ≤ place b
rise_along {n} {sender} {place} g zero a b is l same = let e : a ≡ b = omega arith in omega (arith, ap place e)
rise_along {n} {sender} {place} g (suc k) a b is l same =
    let c = b - 1 in
    let mid : sender a ≡ sender c = omega (arith, g.senders a c (omega arith) (omega arith), g.senders c b (omega arith) l) in
    omega (arith, rise_along g k a c (omega arith) (omega arith) mid, g.places c b (omega arith) l (omega arith))

-- if a number doesn't rise from a to b, it doesn't between two neighbours on the way
pub descent : {n : ℕ} {sender place : ℕ → ℕ} (number : ℕ → ℕ) (first : Option ℕ) → Grouped n sender place
    → ((i j : ℕ) → j ≡ i + 1 → j < n → sender i ≡ sender j → number j ≤ number i → AtMost first (place j))
    → (k a b : ℕ) → b ≡ a + 1 + k → b < n → sender a ≡ sender b → number b ≤ number a → AtMost first (place b)
descent {n} {sender} {place} number first g low zero a b is l same falls = low a b (omega arith) l same falls
descent {n} {sender} {place} number first g low (suc k) a b is l same falls =
    let c = b - 1 in
    let left : sender a ≡ sender c = omega (arith, g.senders a c (omega arith) (omega arith), g.senders c b (omega arith) l) in
    let right : sender c ≡ sender b = omega arith in
    grind (
      arith,
      descent number first g low k a c,
      at_most_up first (place c) (place b) (g.places c b (omega arith) l right),
      low c b,
    )
  where
    at_most_up : (r : Option ℕ) (p q : ℕ) → p ≤ q → AtMost r p → AtMost r q
    at_most_up r p q le h = grind arith

-- what the neighbours below n show
pub record Walked (sends : List SendReceipt) (n : ℕ) (first : Option ℕ) : Type 0 where
  pub found : IfSome first (λ p. Disorder sends p ⊎ DoubleAccept sends p)
  pub each : (i j : ℕ) (d : SendReceipt) → j ≡ i + 1 → j < n → (get_or sends i d).sender ≡ (get_or sends j d).sender → (get_or sends j d).number ≤ (get_or sends i d).number → AtMost first (get_or sends j d).place

-- the second of two neighbours isn't above the first
abbrev pub OutOfTurn : SendReceipt → SendReceipt → Type 0
OutOfTurn before here = (before.sender ≡ here.sender) × (here.number ≤ before.number)

-- reads of the same place
same_read : (sends : List SendReceipt) (i j : ℕ) (d e : SendReceipt) → i < length sends → i ≡ j → get_or sends i d ≡ get_or sends j e
same_read sends i j d e l same = get_or_default sends i d e l ∙ ap (λ (k : ℕ). get_or sends k e) same

pub walked_on : (sends : List SendReceipt) (i : ℕ) (first : Option ℕ) (d e : SendReceipt) → 0 < i → i < length sends → Walked sends i first → (OutOfTurn (get_or sends (i - 1) d) (get_or sends i e) → ⊥) → Walked sends (i + 1) first
walked_on sends i first d e pos l walked fine = record {
  found = walked.found;
  each = λ a b f next lt same falls. grind (arith, walked.each a b f next, same_read);
}

neighbours_rise : (sends : List SendReceipt) → RisesInSenders sends → (i j : ℕ) (d : SendReceipt) → j ≡ i + 1 → j < length sends → (get_or sends i d).sender ≡ (get_or sends j d).sender → (get_or sends i d).place ≤ (get_or sends j d).place
neighbours_rise sends up i j d next l =
    let P : ℕ → Type 0 = λ k. (get_or sends i d).sender ≡ (get_or sends k d).sender → (get_or sends i d).place ≤ (get_or sends k d).place in
    subst P (sym next) (up i d (omega arith))

-- the neighbour before is at a lower place, or at the same one
shown : (sends : List SendReceipt) (i : ℕ) (d : SendReceipt) → 0 < i → i < length sends → RisesInSenders sends → OutOfTurn (get_or sends (i - 1) d) (get_or sends i d) → Disorder sends (get_or sends i d).place ⊎ DoubleAccept sends (get_or sends i d).place
shown sends i d pos l up out =
    let before = get_or sends (i - 1) d in
    let here = get_or sends i d in
    let rises : before.place ≤ here.place = neighbours_rise sends up (i - 1) i d (omega arith) l out.0 in
    elim (cases_lt before.place here.place) [
      | inl lower ↦ inl (i, here, l, get_or_default sends i here d l, (refl, (i - 1, before, omega arith, get_or_default sends (i - 1) before d (omega arith), (out.0, lower, out.1))))
      | inr level ↦ inr (count_of_two (λ s. s.place == here.place) sends (i - 1) i d (omega arith) l (eq-eqb _ _ (omega arith)) (eq-eqb _ _ refl))
    ]

pub walked_into : (sends : List SendReceipt) (i : ℕ) (first : Option ℕ) (d e g : SendReceipt) → 0 < i → i < length sends → RisesInSenders sends → Walked sends i first → OutOfTurn (get_or sends (i - 1) d) (get_or sends i e) → Walked sends (i + 1) (sooner_of first (Some (get_or sends i g).place))
walked_into sends i first d e g pos l up walked out =
    let here = get_or sends i g in
    let out_here : OutOfTurn (get_or sends (i - 1) g) here = subst (λ (r : SendReceipt). OutOfTurn r here) (same_read sends (i - 1) (i - 1) d g (omega arith) refl) (subst (OutOfTurn (get_or sends (i - 1) d)) (same_read sends i i e g l refl) out) in
    record {
      found = found_sooner (λ p. Disorder sends p ⊎ DoubleAccept sends p) first (Some here.place) walked.found (shown sends i g pos l up out_here);
      each = λ a b f next lt same falls. grind (arith, at_most_left, walked.each a b f next, at_most_right, same_read);
    }

-- a place out of turn: one of its sender's lower places has a number that isn't less
covered : (sends : List SendReceipt) (n : ℕ) (first : Option ℕ) → IsNonDecreasingBy (λ s. s.sender) sends → RisesInSenders sends → length sends ≤ n → Walked sends n first → (q : ℕ) → Disorder sends q → AtMost first q
covered sends n first senders places all walked q h =
    let b = h.0 in
    let d = h.1 in
    let lower = h.4.1 in
    let a = lower.0 in
    let at_a : get_or sends a d ≡ lower.1 = get_or_default sends a d lower.1 lower.2 ∙ lower.3 in
    let g : Grouped (length sends) (λ i. (get_or sends i d).sender) (λ i. (get_or sends i d).place) = record { senders = λ i j le l. senders i j d le l; places = λ i j. neighbours_rise sends places i j d } in
    let same : (get_or sends a d).sender ≡ (get_or sends b d).sender = omega (arith, ap (λ (r : SendReceipt). r.sender) at_a, ap (λ (r : SendReceipt). r.sender) h.3, lower.4.0) in
    elim (cases_lt a b) [
      | inl before ↦
          subst (AtMost first) (ap (λ (r : SendReceipt). r.place) h.3 ∙ h.4.0)
          (descent (λ i. (get_or sends i d).number) first g (λ i j next l. walked.each i j d next (omega arith)) (b - a - 1) a b (omega arith) h.2 same
          (omega (arith, ap (λ (r : SendReceipt). r.number) at_a, ap (λ (r : SendReceipt). r.number) h.3, lower.4.2)))
      | inr after ↦
          absurd (omega (arith, rise_along g (a - b) b a (omega arith) lower.2 (sym same), ap (λ (r : SendReceipt). r.place) at_a, ap (λ (r : SendReceipt). r.place) h.3, h.4.0, lower.4.1))
    ]

pub all_walked : (sends : List SendReceipt) (n : ℕ) (first : Option ℕ) → IsNonDecreasingBy (λ s. s.sender) sends → RisesInSenders sends → length sends ≤ n → Walked sends n first → IsLeastUnless (Disorder sends) (DoubleAccept sends) first
all_walked sends n first senders places all walked = unless_of (Disorder sends) (DoubleAccept sends) first walked.found (λ q h. inr (covered sends n first senders places all walked q h))
