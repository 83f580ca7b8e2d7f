-- Names in a list of topics, and the places at which a map finds them.
use Rattle.std.proofs.Common.{◌≡◌, ℕ, zero, suc, ◌+◌, ◌<◌, Bool, true, false, cond, not, nat_lt, List, [], ◌∷◌, map, length, slice_get, slice_index_or, position, bytes_eq, Some, None, option_map, unwrap_or, refl, sym, ap, ◌∙◌, true≢false, lt-ltb, arith}
use Rattle.std.specs.List.{IsDistinct, AllByRecursion, position_or_len}
use Rattle.std.specs.Map.{keys_of, lookup}
use Rattle.std.proofs.lemmas.Option.{none-some, slice_get-map, slice_get-get_or}
use Rattle.std.proofs.lemmas.List.Quantifiers.{position-Some}
use Rattle.std.proofs.lemmas.Slice.Eq.{bytes_eq-Decides}

same_some : {A : Type 0} {x y : A} → Some x ≡ Some y → x ≡ y
same_some {A} {x} e = ap (λ r. unwrap_or r x) e

module _ {K : Type 0} (bytes : K → List ℕ) where
  -- whether a key has this name
  abbrev pub named : List ℕ → K → Bool
  named name key = bytes_eq name (bytes key)

  abbrev pub same : K → K → Bool
  same x y = bytes_eq (bytes x) (bytes y)

  -- a key that is found has the name
  pub name_from_position : (name : List ℕ) (ks : List K) (i : ℕ) → position (named name) ks ≡ Some i → slice_get (map bytes ks) i ≡ Some name
  name_from_position name [] i e = absurd (none-some _ e)
  name_from_position name (k ∷ ks) i e =
      let h = position-Some (named name) (k ∷ ks) i k e in
      slice_get-map bytes (k ∷ ks) i
      ∙ ap (option_map bytes) (slice_get-get_or (k ∷ ks) i k h.0)
      ∙ ap Some (sym ((bytes_eq-Decides name (bytes (slice_index_or (k ∷ ks) i k))).0 h.1))

  -- if all keys differ from this one, none has its name
  other_names : (x : K) (ks : List K) (i : ℕ) → AllByRecursion (λ y. same x y ≡ false) ks → slice_get (map bytes ks) i ≡ Some (bytes x) → ⊥
  other_names x [] i apart e = none-some _ e
  other_names x (k ∷ ks) zero apart e = true≢false (sym ((bytes_eq-Decides (bytes x) (bytes k)).1 (sym (same_some e))) ∙ apart.0)
  other_names x (k ∷ ks) (suc i) apart e = other_names x ks i apart.1 e

  -- if keys differ, the name at a place is at no earlier one
  first_place : (name : List ℕ) (ks : List K) (i : ℕ) → IsDistinct same ks → slice_get (map bytes ks) i ≡ Some name → (position_or_len (named name) ks ≡ i) × (i < length ks)
  unfolding IsDistinct
  first_place name [] i distinct e = absurd (none-some _ e)
  first_place name (k ∷ ks) zero distinct e = (
    ap (λ b. cond (not b) (1 + position_or_len (named name) ks) 0) ((bytes_eq-Decides name (bytes k)).1 (sym (same_some e))),
    omega arith,
  )
  first_place name (k ∷ ks) (suc i) distinct e =
      let rest = first_place name ks i distinct.1 e in (
        ap (λ b. cond (not b) (1 + position_or_len (named name) ks) 0) (by (named name k) refl) ∙ ap (λ n. 1 + n) rest.0 ∙ omega arith,
        omega (arith, rest.1),
      )
    where
      by : (b : Bool) → named name k ≡ b → named name k ≡ false
      by false h = h
      by true h = absurd (other_names k ks i distinct.0 (e ∙ ap Some ((bytes_eq-Decides name (bytes k)).0 h)))

  pub position_from_name : (name : List ℕ) (ks : List K) (i : ℕ) → IsDistinct same ks → slice_get (map bytes ks) i ≡ Some name → position (named name) ks ≡ Some i
  position_from_name name ks i distinct e =
      let h = first_place name ks i distinct e in
      ap (λ j. cond (nat_lt j (length ks)) (Some j) None) h.0 ∙ ap (λ b. cond b (Some i) None) (lt-ltb i _ h.1)

  module _ {V : Type 0} where
    -- what is seen of an entry
    abbrev pub seen : K × V → List ℕ × V
    seen e = (bytes e.0, e.1)

    pub names_seen : (es : List (K × V)) → map (λ t. t.0) (map seen es) ≡ map bytes (keys_of es)
    names_seen [] = refl
    names_seen (e ∷ es) = ap (λ l. bytes e.0 ∷ l) (names_seen es)

    pub values_seen : (es : List (K × V)) (i : ℕ) → slice_get (map (λ t. t.1) (map seen es)) i ≡ option_map (λ e. e.1) (slice_get es i)
    values_seen [] i = refl
    values_seen (e ∷ es) zero = refl
    values_seen (e ∷ es) (suc i) = values_seen es i

    -- a name that no entry has isn't found
    pub absent : (key : K) (es : List (K × V)) → ((i : ℕ) → slice_get (map (λ t. t.0) (map seen es)) i ≡ Some (bytes key) → ⊥) → lookup (same key) es ≡ None
    absent key [] none = refl
    absent key (e ∷ es) none = ap (λ b. cond b (Some e.1) (lookup (same key) es)) (by (same key e.0) refl) ∙ absent key es (λ i. none (suc i))
      where
        by : (b : Bool) → same key e.0 ≡ b → same key e.0 ≡ false
        by false h = h
        by true h = absurd (none 0 (ap Some (sym ((bytes_eq-Decides (bytes key) (bytes e.0)).0 h))))
