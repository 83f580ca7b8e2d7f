-- A log that is followed: it is judged in parts, each of some of its lines.
use Rattle.std.specs.Prelude.{ℕ, ⊤, ◌≡◌, ◌<◌, ◌+◌, ◌++◌, ◌⊎◌, true, false, length, Bool, List, [], ◌∷◌, map, Option, Some, Result, Ok, Err, slice_get}
use Rattle.cc_judge.specs.Late.{judged_capacity}
use Rattle.cc_judge.specs.Verdict.{IsVerdict}
use Rattle.cc_judge.specs.declared.log.Rules.{Rules}
use Rattle.cc_log.specs.Answers.{Refuses}
use Rattle.cc_log.specs.Lines.{HasInput, IsAhead, lines_of}
use Rattle.cc_log.specs.declared.lines.Lines.{Lines}
use Rattle.cc_log.specs.Log.{Known, Refusal, Spelled, ◌>>=◌, at_first, if_some, with_line}
use Rattle.cc_log.specs.Names.{Followed, LogFault, Options, Part, Text, Verdict}
use Rattle.cc_log.specs.State.{Shows, log_view}

-- ---- parts

-- a line and its number, from 1
abbrev pub NumberedLine : Type 0
NumberedLine = ℕ × List ℕ

-- the line is the one of the log that has its number
pub record IsLineOf (lines : List (List ℕ)) (t : NumberedLine) : Type 0 where
  pub place : ℕ
  pub number : t.0 ≡ place + 1
  pub line_is : slice_get lines place ≡ Some t.1

-- these are some lines of a log, in their order
pub record ArePartOf (lines : List (List ℕ)) (part : List NumberedLine) : Type 0 where
  pub each : (k : ℕ) (t : NumberedLine) → slice_get part k ≡ Some t → IsLineOf lines t
  pub in_order : (j k : ℕ) (t u : NumberedLine) → j < k → slice_get part j ≡ Some t → slice_get part k ≡ Some u → t.0 < u.0

-- what is known of these lines
abbrev pub with_part : Known → List NumberedLine → Result Known Refusal
with_part known [] = Ok known
with_part known (t ∷ rest) = with_line known t.0 t.1 >>= (λ next. with_part next rest)

-- calls may be missing, as in a log that begins late
abbrev pub as_late : Known → Known
as_late known = record known { late = true }

-- the log that some lines spell as a part, or why they spell none
abbrev pub part_of : Options → List NumberedLine → Result Spelled Refusal
part_of options part = with_part (at_first options.window) part >>= (λ known. if_some options (as_late known))

-- the rules are those of the log, by these options
pub record HasRules (options : Options) (log : Spelled) (rules : Rules) : Type 0 where
  pub capacity : rules.capacity ≡ judged_capacity log.part options.capacity
  pub closes : rules.closes ≡ log.closes
  pub ties : rules.ties.items ≡ log.ties

-- the line at this place of a log is one of these
pub record HasLine (part : List NumberedLine) (place : ℕ) : Type 0 where
  pub at : ℕ
  pub line : NumberedLine
  pub line_is : slice_get part at ≡ Some line
  pub number : line.0 ≡ place + 1

-- the line at this place of a log is in a part of it that is clean
pub record IsInCleanPart (options : Options) (lines : List (List ℕ)) (place : ℕ) : Type 0 where
  pub part : List NumberedLine
  pub of_log : ArePartOf lines part
  pub has : HasLine part place
  pub log : Spelled
  pub log_is : part_of options part ≡ Ok log
  pub rules : Rules
  pub has_rules : HasRules options log rules
  pub clean : IsVerdict rules log.calls Verdict.Clean

-- so is each line of the log
abbrev pub AreInCleanParts : Options → List (List ℕ) → Type 0
AreInCleanParts options lines = (place : ℕ) (line : List ℕ) → slice_get lines place ≡ Some line → IsInCleanPart options lines place

-- ---- following

-- The log was followed: the log at hand is a part of it. If the verdict is clean, each line is in a part that is clean.
pub record IsFollowed (options : Options) (lines : List (List ℕ)) (f : Followed) : Type 0 where
  pub part : List NumberedLine
  pub of_log : ArePartOf lines part
  pub log_is : part_of options part ≡ Ok (log_view f.log)
  pub clean : f.verdict ≡ Verdict.Clean → AreInCleanParts options lines

-- a part of the log is refused
pub record HasRefusedPart (options : Options) (lines : List (List ℕ)) (fault : LogFault) : Type 0 where
  pub part : List NumberedLine
  pub of_log : ArePartOf lines part
  pub refuses : Refuses fault (part_of options part)

-- the same of an input that a source had; or a read failed
abbrev pub RefusesPart : Options → (left : Option (List ℕ)) → LogFault → Type 0
RefusesPart options left LogFault.Read = ⊤
RefusesPart options left fault = (input : List ℕ) × HasInput left input × HasRefusedPart options (lines_of input) fault

-- a log that was followed, of an input that a source had; or such a refusal
abbrev pub Follows : Options → (left : Option (List ℕ)) → Result Followed LogFault → Type 0
Follows options left (Ok f) = (input : List ℕ) × HasInput left input × IsFollowed options (lines_of input) f
Follows options left (Err fault) = RefusesPart options left fault

-- ---- the state of the follower

abbrev pub numbered : List Text → List NumberedLine
numbered lines = map (λ t. (t.number, t.bytes.items)) lines

-- the state of a part has what is known of its lines
pub record Spells (options : Options) (part : Part) : Type 0 where
  pub known : Known
  pub known_is : with_part (at_first options.window) (numbered part.lines.items) ≡ Ok known
  pub shows : Shows options part.state known

-- a line was added to a part, or is refused
abbrev pub Grows : Options → (old new : Part) → NumberedLine → Result (Unit {0}) LogFault → Type 0
Grows options old new t (Ok done) = Spells options new × (numbered new.lines.items ≡ numbered old.lines.items ++ t ∷ [])
Grows options old new t (Err fault) = Refuses fault (part_of options (numbered old.lines.items ++ t ∷ []))

-- some elements of a list, in their order
pub record AreSomeOf (all some : List NumberedLine) : Type 0 where
  pub each : (k : ℕ) (t : NumberedLine) → slice_get some k ≡ Some t → (i : ℕ) × (slice_get all i ≡ Some t)
  pub in_order : (j k : ℕ) (t u : NumberedLine) → j < k → slice_get some j ≡ Some t → slice_get some k ≡ Some u → (h i : ℕ) × (h < i) × (slice_get all h ≡ Some t) × (slice_get all i ≡ Some u)

-- a part of some of these lines, or some that are refused
abbrev pub Begins : Options → List NumberedLine → Result Part LogFault → Type 0
Begins options lines (Ok next) = Spells options next × AreSomeOf lines (numbered next.lines.items)
Begins options lines (Err fault) = (some : List NumberedLine) × AreSomeOf lines some × Refuses fault (part_of options some)

-- Of these lines, which were read, some are in a part, and each other one is in a part that is clean.
pub record Covers (options : Options) (part : Part) (read : List (List ℕ)) : Type 0 where
  pub spells : Spells options part
  pub of_log : ArePartOf read (numbered part.lines.items)
  pub others : (place : ℕ) (line : List ℕ) → slice_get read place ≡ Some line → HasLine (numbered part.lines.items) place ⊎ IsInCleanPart options read place

-- an input that a source had begins with these lines, and this text comes after them
pub record Leads (first : Option (List ℕ)) (read : List (List ℕ)) (after : List ℕ) : Type 0 where
  pub input : List ℕ
  pub has : HasInput first input
  pub lines_are : lines_of input ≡ read ++ lines_of after

-- the lines before the one with this number were read
pub record IsOnWay (options : Options) (first left : Option (List ℕ)) (l : Lines) (part : Part) (number : ℕ) : Type 0 where
  pub read : List (List ℕ)
  pub count : number ≡ length read + 1
  pub leads : (after : List ℕ) → IsAhead l left after → Leads first read after
  pub covers : Covers options part read

-- all lines were read
pub record IsAtEnd (options : Options) (first : Option (List ℕ)) (part : Part) : Type 0 where
  pub input : List ℕ
  pub has : HasInput first input
  pub covers : Covers options part (lines_of input)

-- the next line was read, or there is none, or a part is refused
abbrev pub Reads : Options → (first left : Option (List ℕ)) → Lines → Part → (number : ℕ) → Result Bool LogFault → Type 0
Reads options first left l part number (Ok true) = IsOnWay options first left l part number
Reads options first left l part number (Ok false) = IsAtEnd options first part
Reads options first left l part number (Err fault) = RefusesPart options first fault
