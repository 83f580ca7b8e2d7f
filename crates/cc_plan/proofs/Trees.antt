-- The tree of an input.
use Rattle.std.proofs.Common.{String, Global, string_bytes, ◌≡◌, ◌<◌, ◌+◌, ◌&&◌, ℕ, List, [], ◌∷◌, map, length, get_or, drop, drop-cons, add-one, Bool, true, false, cond, Option, Some, None, option_map, unwrap_or, refl, ap, sym, ◌∙◌}
use Rattle.std.specs.List.{list_all}
use Rattle.std.specs.Str.{IsUtf8, is_utf8}
use Rattle.std.proofs.lemmas.Str.{IsUtf8-from_is_utf8, is_utf8-from_IsUtf8}
use Rattle.serde_json.specs.Data.{Data}
use Rattle.serde_json.specs.Read.{read}
use Rattle.serde_json.specs.View.{view, items_of, members_view}
use Rattle.serde_json.specs.declared.value.Value.{Value}
use Rattle.cc_plan.specs.Json.{json_of, listed, elements, is_list_of, keys}

pub json_of_text : (bytes : List ℕ) (d : Data) → IsUtf8 bytes × (read bytes ≡ Some d) → json_of bytes ≡ Some d
json_of_text bytes d h = rw (is_utf8-from_IsUtf8 bytes h.0) h.1

no_tree_when : (b : Bool) (bytes : List ℕ) → is_utf8 bytes ≡ b → (IsUtf8 bytes → read bytes ≡ None) → cond b (read bytes) None ≡ None
no_tree_when true bytes is h = h (IsUtf8-from_is_utf8 bytes is)
no_tree_when false bytes is h = refl

pub no_tree : (bytes : List ℕ) → (IsUtf8 bytes → read bytes ≡ None) → json_of bytes ≡ None
no_tree bytes h = no_tree_when (is_utf8 bytes) bytes refl h

-- the elements of an array are those of its list
pub listed_all : (ds : List Data) → listed (items_of ds) ≡ ds
listed_all [] = refl
listed_all (d ∷ ds) = ap (λ (l : List Data). d ∷ l) (listed_all ds)

-- ---- a list of values, element by element

-- the elements from a place on are the element there and the rest
pub from_place : (vs : List Value) (i : ℕ) (d : Value) → i < length vs → map view (drop i vs) ≡ view (get_or vs i d) ∷ map view (drop (i + 1) vs)
from_place vs i d h = rw (add-one, drop-cons vs i d h) refl

-- one turn of a loop that tests each element
pub all_from : (test : Data → Bool) (vs : List Value) (i : ℕ) (d : Value) → i < length vs
    → list_all test (map view (drop i vs)) ≡ (test (view (get_or vs i d)) && list_all test (map view (drop (i + 1) vs)))
all_from test vs i d h = ap (list_all test) (from_place vs i d h)

-- an element that fails decides
pub stops : (test : Data → Bool) (vs : List Value) (i : ℕ) (d : Value) → i < length vs → d ≡ get_or vs i d → false ≡ test (view d)
    → list_all test (map view (drop i vs)) ≡ list_all test (map view vs) → false ≡ list_all test (map view vs)
stops test vs i d h at fails before = ap (λ (b : Bool). b && list_all test (map view (drop (i + 1) vs))) (fails ∙ ap (λ (v : Value). test (view v)) at) ∙ sym (all_from test vs i d h) ∙ before

-- an element that passes leaves the rest to decide
pub goes_on : (test : Data → Bool) (vs : List Value) (i : ℕ) (d : Value) → i < length vs → d ≡ get_or vs i d → true ≡ test (view d)
    → list_all test (map view (drop i vs)) ≡ list_all test (map view vs) → list_all test (map view (drop (i + 1) vs)) ≡ list_all test (map view vs)
goes_on test vs i d h at passes before = ap (λ (b : Bool). b && list_all test (map view (drop (i + 1) vs))) (passes ∙ ap (λ (v : Value). test (view v)) at) ∙ sym (all_from test vs i d h) ∙ before

-- the elements decide
pub by_elements : (test : Data → Bool) (d : Data) (l : List Data) → Some l ≡ elements d → list_all test l ≡ is_list_of test d
by_elements test d l h = ap (λ (o : Option (List Data)). unwrap_or (option_map (list_all test) o) false) h

-- ---- the keys of an object, one after another

-- the keys of an object's map
pub keys_viewed : (es : List (String Global × Value)) → map string_bytes (map (λ e. e.0) es) ≡ keys (members_view es)
keys_viewed [] = refl
keys_viewed (e ∷ es) = ap (λ (l : List (List ℕ)). string_bytes e.0 ∷ l) (keys_viewed es)

pub key_decides : (known : List ℕ → Bool) (rest later : List (String Global)) (k : String Global) (b all : Bool) → rest ≡ k ∷ later → b ≡ known (string_bytes k)
    → list_all known (map string_bytes rest) ≡ all → (b && list_all known (map string_bytes later)) ≡ all
key_decides known rest later k b all is told so_far = ap (λ (x : Bool). x && list_all known (map string_bytes later)) told ∙ sym (ap (λ (l : List (String Global)). list_all known (map string_bytes l)) is) ∙ so_far
