-- Sends and takes in lists are counted: as many, or more.
use Rattle.std.proofs.Common.{◌≡◌, ℕ, zero, suc, ◌+◌, ◌<◌, ◌≤◌, inl, inr, List, [], ◌∷◌, ◌++◌, length, Some, refl, sym, ap, subst, arith}
use Rattle.std.specs.List.{slice_get}
use Rattle.cc_judge.specs.Names.{Call, Rules}
use Rattle.cc_judge.specs.Faults.{In, Once}
use Rattle.cc_judge.specs.Counts.{AreEnough, AreFirst, CountsAreRight, HasTimes, IsLeftBy, MoreLeft, Upto, WaitsBy}
use Rattle.cc_judge.specs.Room.{AreAll}
use Rattle.cc_judge.proofs.Fewer.{are_in}
use Rattle.cc_judge.proofs.Listing.{Apart}
use Rattle.cc_judge.proofs.Places.{in_last, in_more, in_snoc}
use Rattle.cc_judge.proofs.Turns.{nat_cases}

-- the places of the first elements
pub heads : List (ℕ × ℕ) → ℕ → List ℕ
heads [] n = []
heads (x ∷ xs) zero = []
heads (x ∷ xs) (suc n) = x.1 ∷ heads xs n

pub heads_length : (xs : List (ℕ × ℕ)) (n : ℕ) → n ≤ length xs → length (heads xs n) ≡ n
unfolding heads
heads_length [] n within = omega (arith, within)
heads_length (x ∷ xs) zero within = refl
heads_length (x ∷ xs) (suc n) within = let h = heads_length xs n (omega (arith, within)) in omega (arith, h)

pub heads_at : (xs : List (ℕ × ℕ)) (n q : ℕ) → In q (heads xs n) → (k t : ℕ) × (k < n) × (slice_get xs k ≡ Some (t, q))
unfolding heads
heads_at [] n q within = absurd within
heads_at (x ∷ xs) zero q within = absurd within
heads_at (x ∷ xs) (suc n) q (inl here) = (0, x.0, omega arith, ap (λ (p : ℕ). Some (x.0, p)) here)
heads_at (x ∷ xs) (suc n) q (inr later) = let r = heads_at xs n q later in let less = r.2 in (suc r.0, r.1, omega (arith, less), r.3)

pub at_heads : (xs : List (ℕ × ℕ)) (n k t q : ℕ) → k < n → slice_get xs k ≡ Some (t, q) → In q (heads xs n)
unfolding heads
at_heads [] n k t q less is = cc
at_heads (x ∷ xs) zero k t q less is = absurd (omega (arith, less))
at_heads (x ∷ xs) (suc n) zero t q less is = let e : x ≡ (t, q) = cc in inl (ap (λ (p : ℕ × ℕ). p.1) e)
at_heads (x ∷ xs) (suc n) (suc k) t q less is = inr (at_heads xs n k t q (omega (arith, less)) is)

pub heads_once : (xs : List (ℕ × ℕ)) (n : ℕ) → Apart xs → Once (heads xs n)
unfolding heads
heads_once [] n apart = tt
heads_once (x ∷ xs) zero apart = tt
heads_once (x ∷ xs) (suc n) apart = (
  (λ within. let r = heads_at xs n x.1 within in let clash = apart 0 (suc r.0) x.0 r.1 x.1 refl r.3 in omega (arith, clash)),
  heads_once xs n (λ j k t u q j_is k_is. let e = apart (suc j) (suc k) t u q j_is k_is in omega (arith, e)),
)

-- it holds of so many places
pub record Counted (P : ℕ → Type 0) (number : ℕ) : Type 0 where
  pub places : List ℕ
  pub long : length places ≡ number
  pub are : AreAll P places

pub counted : (P : (time place : ℕ) → Type 0) (list : List (ℕ × ℕ)) (number time : ℕ) → HasTimes P list → AreFirst list number time → Counted (P time) number
counted P list number time l first = record {
  places = heads list number;
  long = heads_length list number first.within;
  are = record {
    once = heads_once list number l.apart;
    each = λ p within. let h = heads_at list number p within in (l.each h.0 h.1 p h.3).0 time (first.first h.0 h.1 p h.2 h.3);
    all = λ p holds. let a = l.all p time holds in at_heads list number a.0 a.1 p (first.rest a.0 a.1 p a.2 a.3) a.2;
  };
}

module _ (rules : Rules) (calls : List Call) (lefts waits : List (ℕ × ℕ)) (left wait sent began : ℕ) (l : HasTimes (IsLeftBy rules calls) lefts) (w : HasTimes (Upto (WaitsBy calls)) waits) (first_left : AreFirst lefts left sent) (first_wait : AreFirst waits wait (suc began)) where
  enough_counted : left ≤ wait → AreEnough rules calls sent began
  enough_counted by sends once each =
      let c = counted (IsLeftBy rules calls) lefts left sent l first_left in
      let few = are_in sends c.places once (λ s within. c.are.all s (each s within)) in
      let fits = first_wait.within in (
        heads waits (length sends),
        heads_length waits (length sends) (omega (arith, few, c.long, by, fits)),
        heads_once waits (length sends) w.apart,
        λ take within.
            let r = heads_at waits (length sends) take within in
            let less = r.2 in
            let early = first_wait.first r.0 r.1 take (omega (arith, less, few, c.long, by)) r.3 in
            (w.each r.0 r.1 take r.3).0 (suc began) early,
      )

  more_counted : wait < left → MoreLeft rules calls sent began
  more_counted by =
      let c = counted (IsLeftBy rules calls) lefts left sent l first_left in
      let d = counted (Upto (WaitsBy calls)) waits wait (suc began) w first_wait in
      record {
        sends = c.places;
        apart = c.are.once;
        each = c.are.each;
        takes = d.places;
        all = d.are.all;
        more = omega (arith, c.long, d.long, by);
      }

-- enough takes for all leave none over
not_both : (rules : Rules) (calls : List Call) (sent began : ℕ) → AreEnough rules calls sent began → MoreLeft rules calls sent began → ⊥
not_both rules calls sent began enough m =
    let r = enough m.sends m.apart m.each in
    let few = are_in r.0 m.takes r.2 (λ p within. m.all p (r.3 p within)) in
    omega (arith, few, r.1, m.more)

pub counts_are_right : CountsAreRight
counts_are_right = record {
  enough = λ rules calls lefts waits left wait sent began l w first_left first_wait by. enough_counted rules calls lefts waits left wait sent began l w first_left first_wait by;
  more = λ rules calls lefts waits left wait sent began l w first_left first_wait by. more_counted rules calls lefts waits left wait sent began l w first_left first_wait by;
  not_both = not_both;
}

-- ---- the places of which it holds, one after another

pub record AllTo (P : ℕ → Type 0) (places : List ℕ) (upto : ℕ) : Type 0 where
  pub once : Once places
  pub past : (p : ℕ) → In p places → p < upto
  pub each : (p : ℕ) → In p places → P p
  pub all : (p : ℕ) → p < upto → P p → In p places

module _ (P : ℕ → Type 0) (places : List ℕ) (i : ℕ) (so_far : AllTo P places i) where
  pub all_skip : (P i → ⊥) → AllTo P places (i + 1)
  all_skip none = record {
    once = so_far.once;
    past = λ p within. let less = so_far.past p within in omega (arith, less);
    each = so_far.each;
    all = λ p below holds. elim (nat_cases p i) [ inl here ↦ absurd (none (subst P here holds)) | inr other ↦ so_far.all p (omega (arith, below, other)) holds ];
  }

  pub all_more : P i → AllTo P (places ++ i ∷ []) (i + 1)
  all_more holds = record {
    once = snoc_once places i so_far.once (λ within. let less = so_far.past i within in omega (arith, less));
    past = λ p within. elim (in_snoc p i places within) [ inl had ↦ let less = so_far.past p had in omega (arith, less) | inr last ↦ omega (arith, last) ];
    each = λ p within. elim (in_snoc p i places within) [ inl had ↦ so_far.each p had | inr last ↦ subst P last holds ];
    all = λ p below it. elim (nat_cases p i) [
      | inl here ↦ subst (λ (q : ℕ). In q (places ++ i ∷ [])) (sym here) (in_last i places)
      | inr other ↦ in_more p i places (so_far.all p (omega (arith, below, other)) it)
    ];
  }
    where
      snoc_once : (xs : List ℕ) (y : ℕ) → Once xs → (In y xs → ⊥) → Once (xs ++ y ∷ [])
      snoc_once [] y once apart = ((λ none. none), tt)
      snoc_once (x ∷ xs) y once apart = ((λ within. elim (in_snoc x y xs within) [ inl had ↦ once.0 had | inr last ↦ apart (inl (sym last)) ]), snoc_once xs y once.1 (λ within. apart (inr within)))

  pub all_of : (number : ℕ) → number ≤ i → ((p : ℕ) → P p → p < number) → AreAll P places
  all_of number end within = record { once = so_far.once; each = so_far.each; all = λ p holds. let less = within p holds in so_far.all p (omega (arith, less, end)) holds }
