-- Of sends that are more than some takes, and whose items were each taken by a call of their own, the item of one was taken
-- by another call. Lists of places are split and compared.
use Rattle.std.proofs.Common.{◌≡◌, ℕ, ◌+◌, ◌<◌, ◌≤◌, ◌⊎◌, inl, inr, List, [], ◌∷◌, length, refl, sym, ◌∙◌, subst, arith}
use Rattle.std.proofs.lemmas.Bool.{cases_lt}
use Rattle.cc_judge.proofs.Places.{In, without, without_length, from_without, to_without}
use Rattle.cc_judge.proofs.Turns.{nat_cases}
pub use Rattle.cc_judge.specs.Faults.{Once}

-- a send of the list whose item was taken by a call of which more is known
pub record Another (R : ℕ → ℕ → Type 0) (More : ℕ → Type 0) : Type 0 where
  pub send : ℕ
  pub take : ℕ
  pub took : R send take
  pub more : More take

pub once_another : (R : ℕ → ℕ → Type 0) (More : ℕ → Type 0) (sends may : List ℕ) → Once sends → length may < length sends → ((s : ℕ) → In s sends → (p : ℕ) × R s p) → ((s t p : ℕ) → R s p → R t p → s ≡ t) → ((s p : ℕ) → In s sends → R s p → In p may ⊎ More p) → Another R More
once_another R More [] may once fewer each own others = absurd (omega (arith, fewer))
once_another R More (s ∷ sends) may once fewer each own others =
    let r = each s (inl refl) in
    elim (others s r.0 (inl refl) r.1) [
      | inr more ↦ record { send = s; take = r.0; took = r.1; more = more }
      | inl has ↦
          let shorter = without_length r.0 may has in
          once_another R More sends (without r.0 may has) once.1 (omega (arith, fewer, shorter)) (λ t within. each t (inr within)) own (λ t q within took. elim (others t q (inr within) took) [
            | inr more ↦ inr more
            | inl had ↦ elim (to_without r.0 q may has had) [ inl same ↦ absurd (once.0 (own_is t s q r.0 (sym same) within took r.1)) | inr still ↦ inl still ]
          ])
    ]
  where
    own_is : (t u q p : ℕ) → q ≡ p → In t sends → R t q → R u p → In u sends
    own_is t u q p same within took taken = subst (λ (x : ℕ). In x sends) (own t u p (subst (R t) same took) taken) within

-- elements of a list without doubles, each of which has an own one in another list, are no more than those
pub fits : (R : ℕ → ℕ → Type 0) (xs ys : List ℕ) → Once xs → ((x : ℕ) → In x xs → (y : ℕ) × (R x y × In y ys)) → ((x z y : ℕ) → R x y → R z y → x ≡ z) → length xs ≤ length ys
fits R xs ys once each own = elim (cases_lt (length ys) (length xs)) [
  | inr no_more ↦ no_more
  | inl less ↦ absurd (once_another (λ x y. R x y × In y ys) (λ y. ⊥) xs ys once less (λ x within. each x within) (λ x z y a b. own x z y a.0 b.0) (λ x y within r. inl r.1)).more
]

pub are_in : (xs ys : List ℕ) → Once xs → ((x : ℕ) → In x xs → In x ys) → length xs ≤ length ys
are_in xs ys once each = fits (λ x y. x ≡ y) xs ys once (λ x within. (x, (refl, each x within))) (λ x z y a b. a ∙ sym b)

-- ---- a list without the elements of another

pub in_or_not : (p : ℕ) (xs : List ℕ) → In p xs ⊎ (In p xs → ⊥)
in_or_not p [] = inr (λ none. none)
in_or_not p (x ∷ xs) = elim (nat_cases x p) [
  | inl here ↦ inl (inl here)
  | inr apart ↦ elim (in_or_not p xs) [
    | inl later ↦ inl (inr later)
    | inr none ↦ inr (λ within. elim within [ inl here ↦ apart here | inr later ↦ none later ])
  ]
]

pub without_once : (p : ℕ) (xs : List ℕ) (h : In p xs) → Once xs → Once (without p xs h) × (In p (without p xs h) → ⊥)
without_once p [] h once = absurd h
without_once p (x ∷ xs) (inl here) once = (once.1, λ within. once.0 (subst (λ (q : ℕ). In q xs) (sym here) within))
without_once p (x ∷ xs) (inr later) once =
    let rest = without_once p xs later once.1 in
    (((λ within. once.0 (from_without p x xs later within)), rest.0), λ within. elim within [ inl here ↦ once.0 (subst (λ (q : ℕ). In q xs) (sym here) later) | inr more ↦ rest.1 more ])

pub record Rest (xs ys : List ℕ) : Type 0 where
  pub rest : List ℕ
  pub long : length rest + length ys ≡ length xs
  pub all : (p : ℕ) → In p xs → In p ys ⊎ In p rest
  pub each : (p : ℕ) → In p rest → In p xs
  pub once : Once xs → Once rest × ((p : ℕ) → In p rest → In p ys → ⊥)

pub rest_of : (xs ys : List ℕ) → Once ys → ((p : ℕ) → In p ys → In p xs) → Rest xs ys
rest_of xs [] once within = record { rest = xs; long = omega arith; all = λ p here. inr here; each = λ p here. here; once = λ apart. (apart, λ p here none. none) }
rest_of xs (y ∷ ys) once within =
    let r = rest_of xs ys once.1 (λ p here. within p (inr here)) in
    elim (r.all y (within y (inl refl))) [
      | inl twice ↦ absurd (once.0 twice)
      | inr has ↦ record {
        rest = without y r.rest has;
        long = let shorter = without_length y r.rest has in omega (arith, shorter, r.long);
        all = λ p here. elim (r.all p here) [
          | inl gone ↦ inl (inr gone)
          | inr had ↦ elim (to_without y p r.rest has had) [ inl same ↦ inl (inl same) | inr still ↦ inr still ]
        ];
        each = λ p here. r.each p (from_without y p r.rest has here);
        once = λ apart. let o = r.once apart in let w = without_once y r.rest has o.0 in (
          w.0,
          λ p here other. elim other [
            | inl same ↦ w.1 (subst (λ (q : ℕ). In q (without y r.rest has)) (sym same) here)
            | inr later ↦ o.1 p (from_without y p r.rest has here) later
          ],
        );
      }
    ]

-- a list in two parts
pub record Split (P Q : ℕ → Type 0) (xs : List ℕ) : Type 0 where
  pub ones : List ℕ
  pub others : List ℕ
  pub long : length ones + length others ≡ length xs
  pub once : Once ones × Once others
  pub each_one : (p : ℕ) → In p ones → In p xs × P p
  pub each_other : (p : ℕ) → In p others → In p xs × Q p

pub split : (P Q : ℕ → Type 0) (xs : List ℕ) → Once xs → ((p : ℕ) → In p xs → P p ⊎ Q p) → Split P Q xs
split P Q [] once either = record { ones = []; others = []; long = refl; once = (tt, tt); each_one = λ p none. absurd none; each_other = λ p none. absurd none }
split P Q (x ∷ xs) once either =
    let s = split P Q xs once.1 (λ p within. either p (inr within)) in
    elim (either x (inl refl)) [
      | inl one ↦ record {
        ones = x ∷ s.ones;
        others = s.others;
        long = omega (arith, s.long);
        once = (((λ within. once.0 (s.each_one x within).0), s.once.0), s.once.1);
        each_one = λ p within. elim within [ inl here ↦ (inl here, subst P here one) | inr later ↦ (inr (s.each_one p later).0, (s.each_one p later).1) ];
        each_other = λ p within. (inr (s.each_other p within).0, (s.each_other p within).1);
      }
      | inr other ↦ record {
        ones = s.ones;
        others = x ∷ s.others;
        long = omega (arith, s.long);
        once = (s.once.0, ((λ within. once.0 (s.each_other x within).0), s.once.1));
        each_one = λ p within. (inr (s.each_one p within).0, (s.each_one p within).1);
        each_other = λ p within. elim within [ inl here ↦ (inl here, subst Q here other) | inr later ↦ (inr (s.each_other p later).0, (s.each_other p later).1) ];
      }
    ]

-- one of a list, or none
pub some_or_none : (P Q : ℕ → Type 0) (xs : List ℕ) → ((p : ℕ) → In p xs → P p ⊎ Q p) → ((p : ℕ) × In p xs × P p) ⊎ ((p : ℕ) → In p xs → Q p)
some_or_none P Q [] either = inr (λ p none. absurd none)
some_or_none P Q (x ∷ xs) either = elim (either x (inl refl)) [
  | inl one ↦ inl (x, inl refl, one)
  | inr other ↦ elim (some_or_none P Q xs (λ p within. either p (inr within))) [
    | inl later ↦ inl (later.0, inr later.1, later.2)
    | inr none ↦ inr (λ p within. elim within [ inl here ↦ subst Q here other | inr more ↦ none p more ])
  ]
]
