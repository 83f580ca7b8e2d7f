-- The shape of the tree of receipts.
use Rattle.std.specs.Prelude.{ℕ, ◌==◌, ◌&&◌, ◌||◌, ◌+◌, Bool, false, List, codes, length, take, slice_get, option_map, unwrap_or, is_some}
use Rattle.std.specs.List.{list_all}
use Rattle.std.specs.Str.{bytes_eq}
use Rattle.serde_json.specs.Data.{Data}
use Rattle.serde_json.specs.Find.{as_null}
use Rattle.cc_plan.specs.Json.{elements, is_list_of, is_number, is_body, has_only, has, may_have}
use Rattle.cc_plan.specs.Version.{table_of}

-- exactly this number of numbers, and then a body
abbrev pub are_parts : (version numbers : ℕ) → List Data → Bool
are_parts version numbers ds = (length ds == numbers + 1)
    && list_all is_number (take numbers ds)
    && unwrap_or (option_map (is_body version) (slice_get ds numbers)) false

-- an array of these
abbrev pub is_row : (version numbers : ℕ) → Data → Bool
is_row version numbers d = unwrap_or (option_map (are_parts version numbers) (elements d)) false

-- a number or null
abbrev pub is_total : Data → Bool
is_total d = is_number d || is_some (as_null d)

abbrev pub is_receipts_key : List ℕ → Bool
is_receipts_key key = bytes_eq key (codes "version") || bytes_eq key (codes "total") || bytes_eq key (codes "accepted") || bytes_eq key (codes "taken")

-- an object of the known keys, accepted and taken there, with values of their shapes
unfoldable pub has_receipts_shape : Data → Bool
has_receipts_shape d = has_only is_receipts_key d
    && may_have is_number (codes "version") d
    && may_have is_total (codes "total") d
    && has (is_list_of (is_row (table_of d) 3)) (codes "accepted") d
    && has (is_list_of (is_row (table_of d) 4)) (codes "taken") d
