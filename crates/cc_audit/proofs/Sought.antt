-- The result of a search for a place among send receipts in the order of their places.
use Rattle.std.proofs.Common.{◌≡◌, ℕ, ◌+◌, ◌<◌, ◌≤◌, ◌==◌, ◌⊎◌, inl, inr, List, length, Option, Some, Ok, get_or, Any, IfSome, refl, sym, ap, ◌∙◌, subst, arith, eq-eqb}
use Rattle.std.specs.Ordering.{nat_cmp}
use Rattle.std.specs.declared.cmp.Ordering.{Ordering}
use Rattle.std.specs.List.Sorted.{IsBinarySearchResult}
use Rattle.std.proofs.lemmas.Bool.{cases_order, cases_lt}
use Rattle.std.proofs.lemmas.Cmp.{ranked}
use Rattle.std.proofs.lemmas.List.{get_or_default}
use Rattle.cc_audit.specs.Names.{Item, SendReceipt, TakeReceipt}
use Rattle.cc_audit.specs.Least.{IsLeastUnless, sooner_of}
use Rattle.cc_audit.specs.Verdict.{SendNames, Differs, Altered, DoubleAccept}
use Rattle.cc_audit.proofs.Counts.{count_of_two}
use Rattle.cc_audit.proofs.Soonest.{AtMost, at_most_left, at_most_right, found_sooner, unless_of}

-- a send receipt names the item's place and isn't of this item
abbrev pub AlteredBy : List SendReceipt → Item → Type 0
AlteredBy sends x = Any (λ s. SendNames x.place s × Differs s x) sends

-- two receipts at different indices
doubled : (sends : List SendReceipt) (p a b : ℕ) (d : SendReceipt) → (a ≡ b → ⊥) → a < length sends → b < length sends → (get_or sends a d).place ≡ p → (get_or sends b d).place ≡ p → DoubleAccept sends p
doubled sends p a b d apart l m at_a at_b = elim (cases_order a b) [
  | inl same ↦ absurd (apart same)
  | inr way ↦ elim way [
    | inl before ↦ count_of_two (λ s. s.place == p) sends a b d before m (eq-eqb _ p at_a) (eq-eqb _ p at_b)
    | inr after ↦ count_of_two (λ s. s.place == p) sends b a d after l (eq-eqb _ p at_b) (eq-eqb _ p at_a)
  ]
]

pub hit_place : (sends : List SendReceipt) (p i : ℕ) (d : SendReceipt) → IsBinarySearchResult (λ s. nat_cmp s.place p) sends (Ok i) → (get_or sends i d).place ≡ p
hit_place sends p i d found = ranked (get_or sends i d).place p Ordering.Equal (sym (found d))

pub hit_altered : (sends : List SendReceipt) (x : Item) (i : ℕ) (d : SendReceipt) → i < length sends → IsBinarySearchResult (λ s. nat_cmp s.place x.place) sends (Ok i) → Differs (get_or sends i d) x → AlteredBy sends x
hit_altered sends x i d l found differ = (i, get_or sends i d, l, get_or_default sends i _ d l, (hit_place sends x.place i d found, differ))

-- a hit that is of this item: another that isn't names the place twice
pub hit_same : (sends : List SendReceipt) (x : Item) (i : ℕ) (d : SendReceipt) → i < length sends → IsBinarySearchResult (λ s. nat_cmp s.place x.place) sends (Ok i) → (Differs (get_or sends i d) x → ⊥) → AlteredBy sends x → DoubleAccept sends x.place
hit_same sends x i d l found same other =
    let s = other.1 in
    let here : get_or sends other.0 d ≡ s = get_or_default sends other.0 d s other.2 ∙ other.3 in
    doubled sends x.place i other.0 d
    (λ e. same (subst (λ (r : SendReceipt). Differs r x) (sym (ap (λ (k : ℕ). get_or sends k d) e ∙ here)) other.4.1))
    l other.2 (hit_place sends x.place i d found) (ap (λ (r : SendReceipt). r.place) here ∙ other.4.0)

-- ---- over the take receipts

pub record Seen (sends : List SendReceipt) (takes : List TakeReceipt) (n : ℕ) (first : Option ℕ) : Type 0 where
  pub found : IfSome first (λ p. Altered sends takes p ⊎ DoubleAccept sends p)
  pub each : (k : ℕ) (d : TakeReceipt) → k < n → AlteredBy sends (get_or takes k d).item → DoubleAccept sends (get_or takes k d).item.place ⊎ AtMost first (get_or takes k d).item.place

pub seen_more : (sends : List SendReceipt) (takes : List TakeReceipt) (n : ℕ) (first : Option ℕ) (d : TakeReceipt) → n < length takes → Seen sends takes n first → AlteredBy sends (get_or takes n d).item → Seen sends takes (n + 1) (sooner_of first (Some (get_or takes n d).item.place))
seen_more sends takes n first d l seen altered =
    let t = get_or takes n d in
    record {
      found = found_sooner (λ p. Altered sends takes p ⊎ DoubleAccept sends p) first (Some t.item.place) seen.found (inl (n, t, l, get_or_default takes n t d l, (refl, altered)));
      each = λ k e lt other. grind (arith, seen.each k e, at_most_left, get_or_default, at_most_right);
    }

pub seen_same : (sends : List SendReceipt) (takes : List TakeReceipt) (n : ℕ) (first : Option ℕ) (d : TakeReceipt) → n < length takes → Seen sends takes n first → (AlteredBy sends (get_or takes n d).item → DoubleAccept sends (get_or takes n d).item.place) → Seen sends takes (n + 1) first
seen_same sends takes n first d l seen double = record {
  found = seen.found;
  each = λ k e lt. elim (cases_lt k n) [
    | inl below ↦ seen.each k e below
    | inr past ↦ (
        let same : n ≡ k = omega arith in
        let here : get_or takes n d ≡ get_or takes k e = get_or_default takes n d e l ∙ ap (λ (j : ℕ). get_or takes j e) same in
        λ other. inl (subst (λ (r : TakeReceipt). AlteredBy sends r.item → DoubleAccept sends r.item.place) here double other))
  ];
}

pub all_seen : (sends : List SendReceipt) (takes : List TakeReceipt) (n : ℕ) (first : Option ℕ) → length takes ≤ n → Seen sends takes n first → IsLeastUnless (Altered sends takes) (DoubleAccept sends) first
all_seen sends takes n first all seen = unless_of (Altered sends takes) (DoubleAccept sends) first seen.found (λ q h. at_place q h)
  where
    at_place : (q : ℕ) → Altered sends takes q → DoubleAccept sends q ⊎ AtMost first q
    at_place q h =
        let t = h.1 in
        let here : get_or takes h.0 t ≡ t = h.3 in
        let names : t.item.place ≡ q = h.4.0 in
        let other : AlteredBy sends t.item = subst (λ (p : ℕ). Any (λ s. SendNames p s × Differs s t.item) sends) (sym names) h.4.1 in
        let P : TakeReceipt → Type 0 = λ r. AlteredBy sends r.item → DoubleAccept sends r.item.place ⊎ AtMost first r.item.place in
        subst (λ (p : ℕ). DoubleAccept sends p ⊎ AtMost first p) names (subst P here (seen.each h.0 t (omega (arith, h.2))) other)
