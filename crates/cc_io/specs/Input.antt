-- Reading the whole of an input.
use Rattle.std.specs.Prelude.{ℕ, ◌+◌, ◌≤◌, List, length, Option}
use Rattle.std.specs.Io.KnownBytes.{Consumes, IsAtEnd}

-- the length in bytes beyond which an input is refused
abbrev pub input_limit : ℕ
input_limit = 16777216

-- The bytes were read: known bytes begin with them and lose them. It is the whole input, or one byte more than the limit of it.
pub record Reads (old new : Option (List ℕ)) (bytes : List ℕ) : Type 0 where
  pub consumed : Consumes old new bytes
  pub most : length bytes ≤ input_limit + 1
  pub whole : length bytes ≤ input_limit → IsAtEnd new
