-- The table of the items.
use Rattle.std.proofs.Common.{◌≡◌, ◌||◌, ◌&&◌, ◌++◌, ℕ, Bool, true, false, cond, List, [], ◌∷◌, Option, Some, None, option_and_then, is_some, nat_eq, Result, Ok, Err, IfOk, refl, sym, ap, subst, ◌∙◌, if◌then◌else◌, arith}
use Rattle.std.proofs.lemmas.Bool.{and_parts, eqb-true}
use Rattle.std.specs.Map.{keys_of, lookup}
use Rattle.std.specs.List.{list_any}
use Rattle.indexmap.specs.IndexMap.{insert_entry}
use Rattle.indexmap.specs.IndexSet.{insert_key}
use Rattle.cc_log.specs.Line.{Body}
use Rattle.cc_log.specs.Log.{same_body}

-- the keys after an entry is inserted
module _ {K V : Type 0} (eq : K → K → Bool) (k : K) (v : V) where
  one_more : (b : Bool) (x : K) (ks : List K) → x ∷ (if b then ks else ks ++ k ∷ []) ≡ (if b then x ∷ ks else (x ∷ ks) ++ k ∷ [])
  one_more true x ks = refl
  one_more false x ks = refl

  first : (b : Bool) (e : K × V) (es : List (K × V)) → keys_of (insert_entry eq es k v) ≡ insert_key eq (keys_of es) k
      → keys_of (if b then (e.0, v) ∷ es else e ∷ insert_entry eq es k v) ≡ (if b || list_any (eq k) (keys_of es) then e.0 ∷ keys_of es else (e.0 ∷ keys_of es) ++ k ∷ [])
  first true e es h = refl
  first false e es h = ap (λ ks. e.0 ∷ ks) h ∙ one_more (list_any (eq k) (keys_of es)) e.0 (keys_of es)

  pub keys_inserted : (es : List (K × V)) → keys_of (insert_entry eq es k v) ≡ insert_key eq (keys_of es) k
  keys_inserted [] = refl
  keys_inserted (e ∷ es) = first (eq k e.0) e es (keys_inserted es)

-- a key that is found is among the keys
module _ {K V : Type 0} (test : K → Bool) where
  found_first : (b : Bool) (e : K × V) (es : List (K × V)) → is_some (lookup test es) ≡ list_any test (keys_of es) → is_some (cond b (Some e.1) (lookup test es)) ≡ (b || list_any test (keys_of es))
  found_first true e es h = refl
  found_first false e es h = h

  found : (es : List (K × V)) → is_some (lookup test es) ≡ list_any test (keys_of es)
  found [] = refl
  found (e ∷ es) = found_first (test e.0) e es (found es)

-- so the keys stay if it is inserted again
pub keys_kept : {K V : Type 0} (eq : K → K → Bool) (k : K) (es : List (K × V)) → is_some (lookup (eq k) es) ≡ true → insert_key eq (keys_of es) k ≡ keys_of es
keys_kept eq k es is = ap (λ b. if b then keys_of es else keys_of es ++ k ∷ []) (sym (found (eq k) es) ∙ is)

-- a fact that doesn't speak of the value
pub of_any : {A E : Type 0} {P : Type 0} (r : Result A E) → P → IfOk r (λ x. P)
of_any (Ok x) p = p
of_any (Err e) p = tt

-- bodies with the same words are one body
pub one_body : (a b : Body) → same_body a b ≡ true → a ≡ b
one_body a b h =
    let p = and_parts (((nat_eq a.0 b.0 && nat_eq a.1 b.1) && nat_eq a.2 b.2) && nat_eq a.3 b.3) (nat_eq a.4 b.4) h in
    let q = and_parts ((nat_eq a.0 b.0 && nat_eq a.1 b.1) && nat_eq a.2 b.2) (nat_eq a.3 b.3) p.0 in
    let r = and_parts (nat_eq a.0 b.0 && nat_eq a.1 b.1) (nat_eq a.2 b.2) q.0 in
    let s = and_parts (nat_eq a.0 b.0) (nat_eq a.1 b.1) r.0 in
    λ i. (eqb-true a.0 b.0 s.0 i, eqb-true a.1 b.1 s.1 i, eqb-true a.2 b.2 r.1 i, eqb-true a.3 b.3 q.1 i, eqb-true a.4 b.4 p.1 i)

-- a body that comes in without a sender leaves the senders
pub still_unsent : (body q : Body) (es : List (Body × Option ℕ)) → lookup (same_body body) es ≡ None
    → option_and_then (λ o. o) (cond (same_body body q) (Some None) (lookup (same_body q) es)) ≡ option_and_then (λ o. o) (lookup (same_body q) es)
still_unsent body q es none = by (same_body body q) refl
  where
    by : (b : Bool) → same_body body q ≡ b → option_and_then (λ (o : Option ℕ). o) (cond b (Some None) (lookup (same_body q) es)) ≡ option_and_then (λ o. o) (lookup (same_body q) es)
    by true is = ap (λ o. option_and_then (λ (x : Option ℕ). x) o) (sym (subst (λ k. lookup (same_body k) es ≡ None) (one_body body q is) none))
    by false is = refl

pub is_none : {A : Type 0} (o : Option A) → is_some o ≡ false → o ≡ None
is_none None h = refl
is_none (Some x) h = cc
