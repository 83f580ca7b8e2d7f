-- The line and the column of a place in a text, both from 1.
use Rattle.std.specs.Prelude.{ℕ, ◌+◌, ◌==◌, ◌||◌, Bool, List, [], ◌∷◌, nat_lt, nat_le, if◌then◌else◌}
use Rattle.std.specs.List.{list_any}

abbrev pub is_line_feed : ℕ → Bool
is_line_feed byte = byte == 10

-- the first byte of a character in UTF-8
abbrev pub begins_character : ℕ → Bool
begins_character byte = nat_lt byte 128 || nat_le 192 byte

-- how many of the bytes pass
abbrev pub count : (ℕ → Bool) → List ℕ → ℕ
count test [] = 0
count test (byte ∷ bytes) = (if test byte then 1 else 0) + count test bytes

-- what follows the last line feed
abbrev pub last_line : List ℕ → List ℕ
last_line [] = []
last_line (byte ∷ bytes) = if list_any is_line_feed (byte ∷ bytes) then last_line bytes else byte ∷ bytes

-- the line after these bytes: one more than there are line feeds
abbrev pub line_after : List ℕ → ℕ
line_after front = count is_line_feed front + 1

-- the column: one more than there are characters in the line
abbrev pub column_after : List ℕ → ℕ
column_after front = count begins_character (last_line front) + 1
