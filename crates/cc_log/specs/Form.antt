-- The form of a line, by its bytes.
use Rattle.std.specs.Prelude.{ℕ, ◌+◌, ◌-◌, ◌^◌, ◌==◌, ◌&&◌, ◌||◌, min, Bool, true, false, not, List, length, fold, if◌then◌else◌, Option, Some, None, slice_get}
use Rattle.serde_json.specs.Data.{Members}
use Rattle.cc_plan.specs.Json.{keys}
use Rattle.cc_log.specs.Names.{LineFault}
use Rattle.cc_log.specs.declared.form.Scan.{Scan}

-- ---- how it begins

abbrev pub is_byte : (byte : ℕ) → Option ℕ → Bool
is_byte byte None = false
is_byte byte (Some other) = other == byte

-- the line begins with these two bytes
abbrev pub begins : (first second : ℕ) → List ℕ → Bool
begins first second line = is_byte first (slice_get line 0) && is_byte second (slice_get line 1)

-- A line that begins so is no object of JSON in UTF-8: with the mark of UTF-8, with that of gzip, in UTF-16 with a mark or
-- without one, or with an array.
abbrev pub form_fault : List ℕ → Option LineFault
form_fault line = if begins 239 187 line then Some LineFault.Mark
    else (if begins 31 139 line then Some LineFault.Gzip
    else (if begins 255 254 line || begins 254 255 line || begins 123 0 line || begins 0 123 line then Some LineFault.Wide
    else (if is_byte 91 (slice_get line 0) then Some LineFault.Array else None)))

-- ---- how many members it has

-- one more, up to the largest word
abbrev pub one_more : ℕ → ℕ
one_more n = min (n + 1) (2 ^ 64 - 1)

-- inside of a text, which a quote ends that no backslash escapes
abbrev pub scan_quoted : Scan → (byte : ℕ) → Scan
scan_quoted s byte = record s { quoted = s.escaped || not (byte == 34); escaped = not s.escaped && (byte == 92) }

-- outside of one: a quote begins a text, brackets nest, and each colon of the outermost object is that of a member
abbrev pub scan_plain : Scan → (byte : ℕ) → Scan
scan_plain s byte = if byte == 34 then record s { quoted = true }
    else (if (byte == 123) || (byte == 91) then record s { depth = one_more s.depth }
    else (if (byte == 125) || (byte == 93) then record s { depth = s.depth - 1 }
    else (if (byte == 58) && (s.depth == 1) then record s { members = one_more s.members } else s)))

-- after one more byte
abbrev pub scan_on : Scan → (byte : ℕ) → Scan
scan_on s byte = if s.quoted then scan_quoted s byte else scan_plain s byte

abbrev pub at_first : Scan
at_first = record { quoted = false; escaped = false; depth = 0; members = 0 }

-- after all bytes of a JSON text
abbrev pub scan_in : List ℕ → Scan
scan_in line = fold scan_on at_first line

-- the members of the outermost object of a JSON text
abbrev pub members_in : List ℕ → ℕ
members_in line = (scan_in line).members

-- an object has each key once in its text
abbrev pub has_keys_once : List ℕ → Option Members → Bool
has_keys_once line None = true
has_keys_once line (Some ms) = members_in line == length (keys ms)
