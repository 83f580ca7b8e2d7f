-- The line of a fault on standard error.
use Rattle.std.specs.Prelude.{ℕ, Bool, List, codes, Option}
use Rattle.cc_io.specs.Written.{Writes}

-- the line if there is no memory
abbrev pub no_memory_line : List ℕ
no_memory_line = codes "ccq: out of memory\n"

-- the text went to standard error, or a prefix of it did and a write failed
pub record Told (old new : Option (List ℕ)) (before after : ℕ) (text : List ℕ) : Type 0 where
  pub failed : Bool
  pub writes : Writes failed old new before after text
