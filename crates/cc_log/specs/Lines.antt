-- The lines of an input.
use Rattle.std.specs.Prelude.{ℕ, ◌≡◌, ◌≢◌, slice_index, ◌≤◌, ◌<◌, ◌==◌, ◌++◌, Bool, true, false, List, [], ◌∷◌, length, if◌then◌else◌, Option, Some, None, slice_range}
use Rattle.std.specs.List.{list_all}
use Rattle.std.specs.Char.{is_ascii_whitespace}
use Rattle.std.specs.Io.KnownBytes.{IsAtEnd}
use Rattle.cc_log.specs.declared.lines.Lines.{Lines}

-- the last line, unless it is empty: it lacks its newline
abbrev pub last_line : List ℕ → List (List ℕ)
last_line [] = []
last_line (b ∷ bytes) = (b ∷ bytes) ∷ []

-- the lines, after the bytes `begun` of the first one: a newline ends each
abbrev pub lines_after : (begun : List ℕ) → List ℕ → List (List ℕ)
lines_after begun [] = last_line begun
lines_after begun (x ∷ rest) = if x == 10 then begun ∷ lines_after [] rest else lines_after (begun ++ x ∷ []) rest

abbrev pub lines_of : List ℕ → List (List ℕ)
lines_of input = lines_after [] input

-- the length in bytes beyond which a line is refused
abbrev pub line_limit : ℕ
line_limit = 65536

-- it has no other bytes than white space
abbrev pub is_blank : List ℕ → Bool
is_blank line = list_all is_ascii_whitespace line

-- ---- reading an input piece by piece

-- it has no newline
abbrev pub HasNoNewline : List ℕ → Type 0
HasNoNewline bytes = (k : ℕ) → k < length bytes → slice_index bytes k ≢ 10

-- its first newline is at this place
pub record IsNewline (bytes : List ℕ) (place : ℕ) : Type 0 where
  pub within : place < length bytes
  pub newline : slice_index bytes place ≡ 10
  pub first : (k : ℕ) → k < place → slice_index bytes k ≢ 10

-- the source has these bytes before its end, if that is known
abbrev pub HasInput : Option (List ℕ) → List ℕ → Type 0
HasInput None input = Unit {0}
HasInput (Some bytes) input = input ≡ bytes

-- the bytes that are read and not given out yet
abbrev pub held : Lines → List ℕ
held l = slice_range l.chunk.items l.start l.end

-- they are in the chunk, and nothing is left of a source that has ended
pub record IsSound (l : Lines) (left : Option (List ℕ)) : Type 0 where
  pub begins : l.start ≤ l.end
  pub ends : l.end ≤ length l.chunk.items
  pub has_room : 0 < length l.chunk.items
  pub at_end : l.ended ≡ true → IsAtEnd left

-- this text is to come: the bytes that are held, and those that the source has
pub record IsAhead (l : Lines) (left : Option (List ℕ)) (text : List ℕ) : Type 0 where
  pub rest : List ℕ
  pub text_is : text ≡ held l ++ rest
  pub in_source : HasInput left rest
  pub at_end : l.ended ≡ true → rest ≡ []

-- a text is to come of which these lines are the ones after `begun`
pub record HasLines (l : Lines) (left : Option (List ℕ)) (begun : List ℕ) (lines : List (List ℕ)) : Type 0 where
  pub text : List ℕ
  pub ahead : IsAhead l left text
  pub lines_are : lines_after begun text ≡ lines

-- For each text that is to come afterwards, a text was to come before with these lines.
abbrev pub Passes : (old new : Lines) (left_old left_new : Option (List ℕ)) (begun_old begun_new : List ℕ) → Type 0
Passes old new left_old left_new begun_old begun_new = (after : List ℕ) → IsAhead new left_new after → HasLines old left_old begun_old (lines_after begun_new after)

abbrev pub GivesLine : (old new : Lines) (left_old left_new : Option (List ℕ)) (line : List ℕ) → Type 0
GivesLine old new left_old left_new line = (after : List ℕ) → IsAhead new left_new after → HasLines old left_old [] (line ∷ lines_of after)

-- the first line is longer than the limit
pub record IsTooLong (l : Lines) (left : Option (List ℕ)) : Type 0 where
  pub line : List ℕ
  pub rest : List (List ℕ)
  pub has_lines : HasLines l left [] (line ∷ rest)
  pub long : line_limit < length line

-- the lines after some bytes, if a newline ended the first one
abbrev pub lines_if : (found : Bool) → (begun after : List ℕ) → List (List ℕ)
lines_if true begun after = begun ∷ lines_of after
lines_if false begun after = lines_after begun after
