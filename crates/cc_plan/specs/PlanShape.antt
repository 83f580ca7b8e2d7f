-- The shape of a plan's tree.
use Rattle.std.specs.Prelude.{ℕ, ◌==◌, ◌&&◌, ◌||◌, Bool, true, false, not, List, [], ◌∷◌, codes, length, slice_index, fold, min, ◌+◌, ◌-◌, ◌*◌, ◌^◌, if◌then◌else◌, Option, Some, None, option_map, option_and_then, unwrap_or, is_some}
use Rattle.std.specs.List.{list_all}
use Rattle.std.specs.Char.{is_ascii_digit}
use Rattle.std.specs.Str.{bytes_eq}
use Rattle.serde_json.specs.Data.{Data}
use Rattle.serde_json.specs.Find.{as_str}
use Rattle.cc_model.specs.Range.{within}
use Rattle.cc_plan.specs.Names.{Pass}
use Rattle.cc_plan.specs.Json.{elements, is_list_of, pair_of, is_number, is_body, is_word, has_only, has, may_have}
use Rattle.cc_plan.specs.Version.{table_of}

-- a body, or the text close
abbrev pub is_call : (version : ℕ) → Data → Bool
is_call version d = is_body version d || is_word (codes "close") d

-- ---- pass names

-- one to ten digits, the first of them not 0
abbrev pub is_pass_number : List ℕ → Bool
is_pass_number digits = within 1 10 (length digits) && not (slice_index digits 0 == 48) && list_all is_ascii_digit digits

abbrev pub digits_more : ℕ → ℕ → ℕ
digits_more n digit = n * 10 + (digit - 48)

-- the number that the digits write. One that no 32 bits hold counts as the greatest that they hold: no plan has that pass.
abbrev pub pass_number : List ℕ → ℕ
pass_number digits = min (fold digits_more 0 digits) (2 ^ 32 - 1)

abbrev pub numbered : List ℕ → Option ℕ
numbered digits = if is_pass_number digits then Some (pass_number digits) else None

-- s and a number, or r and a number
abbrev pub pass_of : List ℕ → Option Pass
pass_of [] = None
pass_of (letter ∷ digits) = if letter == 115 then option_map Pass.Sender (numbered digits) else (if letter == 114 then option_map Pass.Receiver (numbered digits) else None)

-- the pass that the text names
abbrev pub named : Data → Option Pass
named d = option_and_then pass_of (as_str d)

-- the text of a pass
abbrev pub is_named : Data → Bool
is_named d = is_some (named d)

-- ---- the whole tree

-- a pass name and a number
abbrev pub is_entry : Data → Bool
is_entry d = unwrap_or (option_map (λ p. is_named p.0 && is_number p.1) (option_and_then pair_of (elements d))) false

-- a key of plans of this version
abbrev pub is_plan_key : (version : ℕ) → List ℕ → Bool
is_plan_key version key = bytes_eq key (codes "version") || bytes_eq key (codes "capacity") || bytes_eq key (codes "bound") || bytes_eq key (codes "life") || bytes_eq key (codes "senders") || bytes_eq key (codes "receivers") || bytes_eq key (codes "schedule") || (version == 2 && bytes_eq key (codes "groups"))

-- the number of groups, if the version has them
abbrev pub has_groups : (version : ℕ) → Data → Bool
has_groups version d = if version == 2 then has is_number (codes "groups") d else true

-- what is a number is one
unfoldable pub has_numbers : (version : ℕ) → Data → Bool
has_numbers version d = may_have is_number (codes "version") d
    && has_groups version d
    && has is_number (codes "capacity") d
    && has is_number (codes "bound") d
    && has is_number (codes "life") d

-- what is a list has the shape of its elements
unfoldable pub has_lists : (version : ℕ) → Data → Bool
has_lists version d = has (is_list_of (is_list_of (is_call version))) (codes "senders") d
    && has (is_list_of is_number) (codes "receivers") d
    && has (is_list_of is_entry) (codes "schedule") d

-- an object of the keys of its table, each but version there, with values of their shapes
unfoldable pub has_plan_shape : Data → Bool
has_plan_shape d = has_only (is_plan_key (table_of d)) d && has_numbers (table_of d) d && has_lists (table_of d) d
