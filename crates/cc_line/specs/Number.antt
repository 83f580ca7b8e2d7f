-- The number that clap reads for an option. This names clap alone, and nothing of `ccq`.
use Rattle.std.specs.Prelude.{ℕ, ◌^◌, ◌&&◌, Bool, List, if◌then◌else◌, Option, Some, None, nat_lt, length, option_and_then}
use Rattle.std.specs.List.{list_all}
use Rattle.std.specs.Char.{digit_value}
use Rattle.std.specs.Str.Parse.{digits_value, without_leading_plus}
use Rattle.clap.specs.Words.{Row, Text, one_of}

-- these are digits, and the number that they write has at most so many bits
abbrev pub is_number : (bits : ℕ) → (digits : Text) → Bool
is_number bits ds = nat_lt 0 (length ds) && list_all (λ d. nat_lt (digit_value d) 10) ds && nat_lt (digits_value 10 ds) (2 ^ bits)

abbrev pub number_in : (bits : ℕ) → (digits : Text) → Option ℕ
number_in bits ds = if is_number bits ds then Some (digits_value 10 ds) else None

-- the number of so many bits that was found for an option; a sign + may come before it
abbrev pub number_of : (bits : ℕ) → (option : Text) → List Row → Option ℕ
number_of bits option rows = option_and_then (λ text. number_in bits (without_leading_plus text)) (one_of option rows)
