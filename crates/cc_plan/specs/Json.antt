-- The JSON tree of an input, and plain questions about a tree.
use Rattle.std.specs.Prelude.{ℕ, ◌==◌, Bool, true, false, List, [], ◌∷◌, length, if◌then◌else◌, Option, Some, None, option_map, option_and_then, is_some, unwrap_or}
use Rattle.std.specs.List.{list_all}
use Rattle.std.specs.Str.{is_utf8, bytes_eq}
use Rattle.serde_json.specs.Data.{Data, Items, no_items, item, Members, no_members, member}
use Rattle.serde_json.specs.Read.{read}
use Rattle.serde_json.specs.Find.{get, as_number, as_u64, as_array, as_object, as_str}
use Rattle.cc_model.specs.Range.{within}
use Rattle.cc_model.specs.Body.{body_of}
use Rattle.cc_plan.specs.Names.{Body}

infixl 10 ◌>>=◌
abbrev pub ◌>>=◌ : {A B : Type 0} → Option A → (A → Option B) → Option B
o >>= f = option_and_then f o

-- the tree that the bytes spell, if they are UTF-8 and JSON that nests at most 127 deep
abbrev pub json_of : List ℕ → Option Data
json_of bytes = if is_utf8 bytes then read bytes else None

-- ---- arrays

-- items as a list
abbrev pub listed : Items → List Data
listed no_items = []
listed (item d ds) = d ∷ listed ds

-- the elements of an array
abbrev pub elements : Data → Option (List Data)
elements d = option_map listed (as_array d)

-- an array whose elements all pass
abbrev pub is_list_of : (Data → Bool) → Data → Bool
is_list_of test d = unwrap_or (option_map (list_all test) (elements d)) false

-- the two elements, if there are just two
abbrev pub pair_of : List Data → Option (Data × Data)
pair_of [] = None
pair_of (d ∷ []) = None
pair_of (d ∷ e ∷ []) = Some (d, e)
pair_of (d ∷ e ∷ f ∷ ds) = None

-- what each element gives, if each gives something
abbrev pub each : {A : Type 0} → (Data → Option A) → List Data → Option (List A)
each f [] = Some []
each f (d ∷ ds) = do
  x ← f d
  option_map (λ xs. x ∷ xs) (each f ds)

-- ---- numbers and texts

-- a number of any kind
abbrev pub is_number : Data → Bool
is_number d = is_some (as_number d)

-- the number, if it is whole and fits 64 bits
abbrev pub whole_number : Data → Option ℕ
whole_number d = option_and_then as_u64 (as_number d)

abbrev pub ranged : ℕ → ℕ → ℕ → Option ℕ
ranged low high n = if within low high n then Some n else None

-- the whole number, if it is in its range
abbrev pub number_in : ℕ → ℕ → Data → Option ℕ
number_in low high d = do
  n ← whole_number d
  ranged low high n

-- the body whose words the array lists: one to four whole numbers
abbrev pub body_in : Data → Option Body
body_in d = do
  ds ← elements d
  if within 1 4 (length ds) then option_map body_of (each whole_number ds) else None

-- a number, and in version 2 an array of numbers
abbrev pub is_body : (version : ℕ) → Data → Bool
is_body version d = if version == 2 then is_list_of is_number d else is_number d

-- a whole number as the one word, and in version 2 an array of the words
abbrev pub body_as : (version : ℕ) → Data → Option Body
body_as version d = if version == 2 then body_in d else option_map (λ word. body_of (word ∷ [])) (whole_number d)

-- this very text
abbrev pub is_word : List ℕ → Data → Bool
is_word word d = unwrap_or (option_map (λ s. bytes_eq s word) (as_str d)) false

-- ---- objects

abbrev pub keys : Members → List (List ℕ)
keys no_members = []
keys (member k d ms) = k ∷ keys ms

-- an object that has no other keys than these
abbrev pub has_only : (List ℕ → Bool) → Data → Bool
has_only known d = unwrap_or (option_map (λ ms. list_all known (keys ms)) (as_object d)) false

-- the key is there, and its value passes
abbrev pub has : (Data → Bool) → List ℕ → Data → Bool
has test key d = unwrap_or (option_map test (get key d)) false

-- the key is absent, or its value passes
abbrev pub may_have : (Data → Bool) → List ℕ → Data → Bool
may_have test key d = unwrap_or (option_map test (get key d)) true
