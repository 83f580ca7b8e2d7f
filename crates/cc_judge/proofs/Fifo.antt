-- Items of which none was overtaken have an order in which each may be in front of those behind it.
use Rattle.std.proofs.Common.{◌≡◌, ℕ, zero, suc, ◌+◌, ◌<◌, ◌≤◌, inl, inr, List, [], ◌∷◌, length, refl, sym, ap, subst, arith}
use Rattle.std.proofs.lemmas.Bool.{cases_lt}
use Rattle.cc_judge.specs.Names.{Step}
use Rattle.cc_judge.proofs.Places.{In, Before, without, without_length, from_without, to_without}
use Rattle.cc_judge.proofs.Weave.{Item, Ahead, IsOf, Fits, Woven, weave}

-- the first was sent before the second, which left before it
pub record Overtakes (x y : Item) : Type 0 where
  pub sent : x.b < y.a
  pub left : y.d < x.c

-- they have no call in common
abbrev pub Apart : Item → Item → Type 0
Apart x y = (place : ℕ) → IsOf x.fate place → IsOf y.fate place → ⊥

-- an element of the list at which the number is least
pub record Least (f : Item → ℕ) (xs : List Item) : Type 0 where
  pub x : Item
  pub within : In x xs
  pub least : (y : Item) → In y xs → f x ≤ f y

least_of : (f : Item → ℕ) (x : Item) (xs : List Item) → Least f (x ∷ xs)
least_of f x [] = record { x = x; within = inl refl; least = λ y within. elim within [ inl same ↦ let e : f x ≡ f y = ap f same in omega (arith, e) | inr none ↦ absurd none ] }
least_of f x (y ∷ ys) =
    let l = least_of f y ys in
    elim (cases_lt (f x) (f l.x)) [
      | inl less ↦ record { x = x; within = inl refl; least = λ z within. elim within [ inl same ↦ let e : f x ≡ f z = ap f same in omega (arith, e) | inr more ↦ let t = l.least z more in omega (arith, t, less) ] }
      | inr not_less ↦ record { x = l.x; within = inr l.within; least = λ z within. elim within [ inl same ↦ let e : f x ≡ f z = ap f same in omega (arith, e, not_less) | inr more ↦ l.least z more ] }
    ]

-- an item that may be in front of all
pub record Source (xs : List Item) : Type 0 where
  pub x : Item
  pub within : In x xs
  pub sent : (y : Item) → In y xs → x.a ≤ y.b
  pub gone : (y : Item) → In y xs → x.c ≤ y.d

-- If no item was overtaken, there is one: the item that must be sent first, or the one that must leave first.
pub source : (x : Item) (xs : List Item) → ((y : Item) → In y (x ∷ xs) → (y.a ≤ y.b) × (y.c ≤ y.d)) → ((y z : Item) → In y (x ∷ xs) → In z (x ∷ xs) → Overtakes y z → ⊥) → Source (x ∷ xs)
source x xs spans none =
    let s = least_of (λ (y : Item). y.b) x xs in
    let l = least_of (λ (y : Item). y.d) x xs in
    let of_s = spans s.x s.within in
    let of_l = spans l.x l.within in
    elim (cases_lt l.x.d s.x.c) [
      | inr may ↦ record { x = s.x; within = s.within; sent = λ y within. let t = s.least y within in omega (arith, t, of_s.0); gone = λ y within. let t = l.least y within in omega (arith, t, may) }
      | inl late ↦ elim (cases_lt s.x.b l.x.a) [
        | inl early ↦ absurd (none s.x l.x s.within l.within (record { sent = early; left = late }))
        | inr may ↦ record { x = l.x; within = l.within; sent = λ y within. let t = s.least y within in omega (arith, t, may); gone = λ y within. let t = l.least y within in omega (arith, t, of_l.1) }
      ]
    ]

-- ---- the list without an element

before_without : (x u v : Item) (xs : List Item) (h : In x xs) → Before u v (without x xs h) → Before u v xs
before_without x u v [] h before = absurd h
before_without x u v (y ∷ xs) (inl here) before = inr before
before_without x u v (y ∷ xs) (inr later) (inl first) = inl (first.0, from_without x v xs later first.1)
before_without x u v (y ∷ xs) (inr later) (inr more) = inr (before_without x u v xs later more)

apart_from : (x z : Item) (xs : List Item) (h : In x xs) → ((u v : Item) → Before u v xs → Apart u v) → In z (without x xs h) → Apart x z
apart_from x z [] h apart within = absurd h
apart_from x z (y ∷ xs) (inl here) apart within = subst (λ (w : Item). Apart w z) here (apart y z (inl (refl, within)))
apart_from x z (y ∷ xs) (inr later) apart (inl same) = λ place of_x of_z. apart y x (inl (refl, later)) place (subst (λ (w : Item). IsOf w.fate place) (sym same) of_z) of_x
apart_from x z (y ∷ xs) (inr later) apart (inr more) = apart_from x z xs later (λ u v before. apart u v (inr before)) more

-- ---- the order

-- the same items, each of which may be in front of those behind it
pub record Ordered (xs : List Item) : Type 0 where
  pub order : List Item
  pub all : (x : Item) → In x xs → In x order
  pub only : (x : Item) → In x order → In x xs
  pub ahead : (x y : Item) → Before x y order → Ahead x y

pub ordered : (n : ℕ) (xs : List Item) → length xs < n → ((y : Item) → In y xs → (y.a ≤ y.b) × (y.c ≤ y.d)) → ((y z : Item) → In y xs → In z xs → Overtakes y z → ⊥) → ((u v : Item) → Before u v xs → Apart u v) → Ordered xs
ordered zero xs size spans none apart = absurd (omega (arith, size))
ordered (suc n) [] size spans none apart = record { order = []; all = λ x within. within; only = λ x within. within; ahead = λ x y before. absurd before }
ordered (suc n) (x ∷ xs) size spans none apart =
    let s = source x xs spans none in
    let rest = without s.x (x ∷ xs) s.within in
    let len : length rest + 1 ≡ suc (length xs) = without_length s.x (x ∷ xs) s.within in
    let from : (y : Item) → In y rest → In y (x ∷ xs) = λ y within. from_without s.x y (x ∷ xs) s.within within in
    let o = ordered n rest (omega (arith, size, len)) (λ y within. spans y (from y within)) (λ y z first second. none y z (from y first) (from z second)) (λ u v before. apart u v (before_without s.x u v (x ∷ xs) s.within before)) in
    record {
      order = s.x ∷ o.order;
      all = λ y within. elim (to_without s.x y (x ∷ xs) s.within within) [ inl same ↦ inl same | inr more ↦ inr (o.all y more) ];
      only = λ y within. elim within [ inl same ↦ subst (λ (w : Item). In w (x ∷ xs)) same s.within | inr more ↦ from y (o.only y more) ];
      ahead = λ u v before. elim before [
        | inl first ↦ subst (λ (w : Item). Ahead w v) first.0 (record {
          sent = s.sent v (from v (o.only v first.1));
          gone = s.gone v (from v (o.only v first.1));
          apart = apart_from s.x v (x ∷ xs) s.within apart (o.only v first.1);
        })
        | inr more ↦ o.ahead u v more
      ];
    }

-- ---- and the calls

-- Items of which none was overtaken, whose calls may be at their moments, have steps that one queue answers. A take that found
-- none counts as an item that comes and leaves at one moment: it is overtaken if an item is surely in the queue then.
pub woven : (P : Step → ℕ → Type 0) (never : ℕ) (xs : List Item) → ((x : Item) → In x xs → Fits P never x) → ((y z : Item) → In y xs → In z xs → Overtakes y z → ⊥) → ((u v : Item) → Before u v xs → Apart u v) → (order : List Item) × ((x : Item) → In x xs → In x order) × Woven P 0 [] order × ((x : Item) → In x order → In x xs)
woven P never xs fits none apart =
    let o = ordered (suc (length xs)) xs (omega arith) (λ y within. ((fits y within).sent, (fits y within).gone)) none apart in (
      o.order,
      o.all,
      weave P never (suc (length o.order + length o.order)) 0 [] o.order (omega arith) (record {
        held = λ x within. absurd within;
        to_come = λ y within. (fits y (o.only y within), omega arith);
        in_inside = λ x y before. absurd before;
        in_rest = o.ahead;
        across = λ x y within to_come. absurd within;
      }),
      o.only,
    )
