-- The keys of an object, and the words of an array.
use Rattle.std.proofs.Common.{◌≡◌, ◌≤◌, ℕ, suc, String, List, [], ◌∷◌, length, Option, Some, None, option_and_then, option_map, refl, ap, arith}
use Rattle.std.specs.Map.{keys_of}
use Rattle.std.specs.declared.alloc.Global.{Global}
use Rattle.serde_json.specs.View.{members_view, items_view, view}
use Rattle.serde_json.specs.declared.value.Value.{Value}
use Rattle.cc_plan.specs.Json.{each, keys, listed, whole_number}
use Rattle.cc_log.specs.Line.{body_of}

-- it has as many keys as its map
pub key_count : (ms : List (String Global × Value)) → length (keys (members_view ms)) ≡ length (keys_of ms)
key_count [] = refl
key_count (m ∷ ms) = ap suc (key_count ms)

-- one more word
more : Option ℕ → Option (List ℕ) → Option (List ℕ)
more o rest = option_and_then (λ x. option_map (λ xs. x ∷ xs) rest) o

five : (a b c d e : Option ℕ) (rest : Option (List ℕ)) → option_and_then body_of (more a (more b (more c (more d (more e rest))))) ≡ None
unfolding more
five None b c d e rest = refl
five (Some a) None c d e rest = refl
five (Some a) (Some b) None d e rest = refl
five (Some a) (Some b) (Some c) None e rest = refl
five (Some a) (Some b) (Some c) (Some d) None rest = refl
five (Some a) (Some b) (Some c) (Some d) (Some e) None = refl
five (Some a) (Some b) (Some c) (Some d) (Some e) (Some words) = refl

-- more than four words are no body
pub too_many : (vs : List Value) → 5 ≤ length vs → option_and_then body_of (each whole_number (listed (items_view vs))) ≡ None
unfolding more
too_many [] h = absurd (omega (arith, h))
too_many (a ∷ []) h = absurd (omega (arith, h))
too_many (a ∷ b ∷ []) h = absurd (omega (arith, h))
too_many (a ∷ b ∷ c ∷ []) h = absurd (omega (arith, h))
too_many (a ∷ b ∷ c ∷ d ∷ []) h = absurd (omega (arith, h))
too_many (a ∷ b ∷ c ∷ d ∷ e ∷ vs) h = five (whole_number (view a)) (whole_number (view b)) (whole_number (view c)) (whole_number (view d)) (whole_number (view e)) (each whole_number (listed (items_view vs)))
