-- The version of its format that a tree names.
use Rattle.std.specs.Prelude.{ℕ, codes, Option, Some, None, unwrap_or}
use Rattle.serde_json.specs.Data.{Data}
use Rattle.serde_json.specs.Find.{get}
use Rattle.cc_plan.specs.Json.{number_in}

abbrev pub version_in : Option Data → Option ℕ
version_in None = Some 1
version_in (Some d) = number_in 1 2 d

-- 1 or 2, and 1 if none is named
abbrev pub version_of : Data → Option ℕ
version_of d = version_in (get (codes "version") d)

-- the version by whose table of keys the tree is read: if it names another, or no version, it is that of 1
abbrev pub table_of : Data → ℕ
table_of d = unwrap_or (version_of d) 1
