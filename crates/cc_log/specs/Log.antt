-- The log that the lines of an input spell, or the first line with a fault.
use Rattle.std.specs.Prelude.{ℕ, ◌+◌, ◌-◌, ◌^◌, ◌==◌, ◌&&◌, ◌||◌, min, is_some, Bool, true, false, not, List, [], ◌∷◌, ◌++◌, length, nat_le, nat_lt, if◌then◌else◌, Option, Some, None, option_map, Result, Ok, Err}
use Rattle.std.specs.List.{position_or_len}
use Rattle.serde_json.specs.Data.{Data}
use Rattle.indexmap.specs.IndexSet.{insert_key}
use Rattle.std.specs.Str.{bytes_eq}
use Rattle.cc_plan.specs.Json.{json_of}
use Rattle.cc_judge.specs.Late.{padded}
use Rattle.cc_log.specs.Names.{Act, Call, Ending, Last, Line, LineFault, Options, Said, Tie, Window}
use Rattle.serde_json.specs.Find.{as_object}
use Rattle.cc_log.specs.Form.{form_fault, has_keys_once}
use Rattle.cc_log.specs.Line.{Body, begins_late, ending_in, line_of, or_fault, thread_of, unless, unless_fault}
use Rattle.cc_log.specs.Lines.{is_blank, line_limit, lines_of}
use Rattle.cc_log.specs.Window.{cut}

-- why an input is no log
pub data Refusal : Type 0 where
  -- the line with this number, from 1, has this fault
  bad_line : (line : ℕ) → LineFault → Refusal
  -- the lines with these numbers sent one item
  sent_twice : (first second : ℕ) → Refusal
  -- no line has a call
  no_calls : Refusal

infixl 10 ◌>>=◌
abbrev pub ◌>>=◌ : {A B : Type 0} → Result A Refusal → (A → Result B Refusal) → Result B Refusal
(Ok x) >>= f = f x
(Err e) >>= f = Err e

-- a call as its line has it: the number of the line, the name of its thread, and the rest
pub record Entry : Type 0 where
  pub number : ℕ
  pub thread : List ℕ
  pub line : Line

-- The entries before a line are in a list from the last one to the first.

-- ---- threads

-- the last call of a thread
abbrev pub last_of : (thread : List ℕ) → (before : List Entry) → Option Last
last_of thread [] = None
last_of thread (e ∷ before) = if bytes_eq e.thread thread then Some (record { begin = e.line.begin; end = e.line.end; place = length before }) else last_of thread before

-- a call of a thread may begin then, if its last call has ended and the lines are sorted
abbrev pub after_end : (begin last_begin : ℕ) → (last_end : Option ℕ) → Result (Unit {0}) LineFault
after_end begin last_begin None = Err LineFault.AfterOpen
after_end begin last_begin (Some last_end) = if nat_lt begin last_begin then Err LineFault.Unsorted else (if nat_lt begin last_end then Err LineFault.Overlap else Ok tt)

abbrev pub after_last : (begin : ℕ) → Option Last → Result (Unit {0}) LineFault
after_last begin None = Ok tt
after_last begin (Some last) = after_end begin last.begin last.end

-- as the calls are judged, wider by the skew, the call began at the time at which the last one ended or earlier
abbrev pub touches : (skew begin : ℕ) → Option ℕ → Bool
touches skew begin None = false
touches skew begin (Some last_end) = nat_le (begin - skew) (min (last_end + skew) (2 ^ 64 - 1))

-- if it did, the lines order the two
abbrev pub tie_with : (skew place begin : ℕ) → Option Last → List Tie
tie_with skew place begin None = []
tie_with skew place begin (Some last) = if touches skew begin last.end then record { earlier = last.place; later = place } ∷ [] else []

abbrev pub ties_of : (skew : ℕ) → List Entry → List Tie
ties_of skew [] = []
ties_of skew (e ∷ before) = ties_of skew before ++ tie_with skew (length before) e.line.begin (last_of e.thread before)

-- ---- items

abbrev pub same_body : Body → Body → Bool
same_body a b = ((((a.0 == b.0) && (a.1 == b.1)) && (a.2 == b.2)) && (a.3 == b.3)) && (a.4 == b.4)

-- the body of the item that a call sent or took
abbrev pub item_in : Said → Option Body
item_in (Said.Send body) = Some body
item_in (Said.Took body) = Some body
item_in _ = None

abbrev pub with_item : List Body → Option Body → List Body
with_item bodies None = bodies
with_item bodies (Some body) = insert_key same_body bodies body

-- the bodies of the items, in the order in which they first appear: each is an item by its place
abbrev pub bodies_of : List Entry → List Body
bodies_of [] = []
bodies_of (e ∷ before) = with_item (bodies_of before) (item_in e.line.said)

-- the item of this body: its place, or the next one if it is new
abbrev pub item_of : List Body → Body → ℕ
item_of bodies body = position_or_len (same_body body) bodies

-- the line of the call that sent the body
abbrev pub sends : Body → Said → Bool
sends body (Said.Send sent) = same_body sent body
sends body _ = false

abbrev pub sender_of : Body → (before : List Entry) → Option ℕ
sender_of body [] = None
sender_of body (e ∷ before) = if sends body e.line.said then Some e.number else sender_of body before

-- no earlier line sent the same item
abbrev pub unsent : (number : ℕ) → Option ℕ → Result (Unit {0}) Refusal
unsent number None = Ok tt
unsent number (Some first) = Err (sent_twice first number)

abbrev pub differs : (number : ℕ) → Said → (sender : Body → Option ℕ) → Result (Unit {0}) Refusal
differs number (Said.Send body) sender = unsent number (sender body)
differs number _ sender = Ok tt

-- ---- calls

abbrev pub act_of : List Body → Said → Act
act_of bodies (Said.Send body) = Act.Send (item_of bodies body)
act_of bodies (Said.Took body) = Act.Took (item_of bodies body)
act_of bodies Said.FoundNone = Act.FoundNone
act_of bodies Said.Taking = Act.Taking
act_of bodies (Said.Full body) = Act.Full
act_of bodies (Said.Closed body) = Act.Closed
act_of bodies Said.Ended = Act.Ended
act_of bodies Said.Close = Act.Close

-- the call may have begun earlier and ended later than its line says, by the skew
abbrev pub call_of : (skew : ℕ) → List Body → Line → Call
call_of skew bodies line = record { begin = line.begin - skew; end = option_map (λ end. min (end + skew) (2 ^ 64 - 1)) line.end; act = act_of bodies line.said }

abbrev pub calls_of : (skew : ℕ) → List Entry → List Call
calls_of skew [] = []
calls_of skew (e ∷ before) = calls_of skew before ++ call_of skew (bodies_of before) e.line ∷ []

-- the numbers of the lines of these calls
abbrev pub numbers_of : List Entry → List ℕ
numbers_of [] = []
numbers_of (e ∷ before) = numbers_of before ++ e.number ∷ []

abbrev pub is_close : Said → Bool
is_close Said.Close = true
is_close _ = false

-- ---- the log

-- the calls of a log and the number of their items, the numbers of their lines, whether it is a part that may lack calls, how it says
-- that it ends, and the rest that is known of it
pub record Spelled : Type 0 where
  pub part : Bool
  pub ends : Option Ending
  pub calls : List Call
  pub items : ℕ
  pub lines : List ℕ
  pub closes : Bool
  pub ties : List Tie

-- the lines so far: the part of the log that is judged, whether they say that the log begins late and how it ends, whether one closes
-- the queue, in the part or not, and the calls of the part
pub record Known : Type 0 where
  pub window : Window
  pub late : Bool
  pub closes : Bool
  pub ends : Option Ending
  pub before : List Entry

abbrev pub at_first : Window → Known
at_first window = record { window = window; late = false; closes = false; ends = None; before = [] }

abbrev pub or_refusal : {A : Type 0} → (number : ℕ) → Result A LineFault → Result A Refusal
or_refusal number (Ok x) = Ok x
or_refusal number (Err fault) = Err (bad_line number fault)

-- the call that the tree of a line describes
abbrev pub entry_of : (number : ℕ) → Data → Result Entry Refusal
entry_of number d = do
  line ← or_refusal number (line_of d)
  thread ← or_refusal number (thread_of d)
  Ok (record { number = number; thread = thread; line = line })

-- a call may come next if its thread is free, and no line has sent its item
abbrev pub allowed : Entry → (last : Option Last) → (sender : Body → Option ℕ) → Result (Unit {0}) Refusal
allowed e last sender = do
  free ← or_refusal e.number (after_last e.line.begin last)
  differs e.number e.line.said sender

-- that call comes after those before
abbrev pub with_entry : Known → Entry → Result Known Refusal
with_entry known e = do
  fine ← allowed e (last_of e.thread known.before) (λ body. sender_of body known.before)
  Ok (record known { before = e ∷ known.before })

-- the call as it is judged, if it is
abbrev pub with_cut : Known → Entry → Option Line → Result Known Refusal
with_cut known e None = Ok known
with_cut known e (Some line) = with_entry known (record { number = e.number; thread = e.thread; line = line })

abbrev pub is_first : Known → Bool
is_first known = (length known.before == 0) && not known.late

-- a call of the log may be a close, whether it is judged or not
abbrev pub with_close : Known → Said → Known
with_close known said = record known { closes = if is_close said then true else known.closes }

-- the call that the tree of a line describes, as it is judged
abbrev pub with_call : Known → (number : ℕ) → Data → Result Known Refusal
with_call known number d = entry_of number d >>= (λ e. with_cut (with_close known e.line.said) e (cut known.window e.line))

-- the same, unless the line says how the log ends: such a line adds no call
abbrev pub with_end : Known → (number : ℕ) → Data → Option Ending → Result Known Refusal
with_end known number d None = with_call known number d
with_end known number d (Some ends) = Ok (record known { ends = Some ends })

-- no line comes after one that says how the log ends
abbrev pub not_ended : (number : ℕ) → Option Ending → Result (Unit {0}) Refusal
not_ended number ends = or_refusal number (unless LineFault.AfterEnd (not (is_some ends)))

-- the tree of a line: the first one may say that the log begins late, and the last one how it ends
abbrev pub with_tree : Known → (number : ℕ) → Data → Result Known Refusal
with_tree known number d = do
  goes_on ← not_ended number known.ends
  if is_first known && begins_late d then Ok (record known { late = true }) else with_end known number d (ending_in d)

-- the line doesn't begin as one that is no object of JSON in UTF-8
abbrev pub form_of : (number : ℕ) → List ℕ → Result (Unit {0}) Refusal
form_of number line = or_refusal number (unless_fault (form_fault line))

-- it is JSON
abbrev pub json_in : (number : ℕ) → List ℕ → Result Data Refusal
json_in number line = or_refusal number (or_fault LineFault.NoObject (json_of line))

-- its object has no key twice
abbrev pub once_of : (number : ℕ) → List ℕ → Data → Result (Unit {0}) Refusal
once_of number line d = or_refusal number (unless LineFault.Twice (has_keys_once line (as_object d)))

-- the tree of a line
abbrev pub tree_of : (number : ℕ) → List ℕ → Result Data Refusal
tree_of number line = do
  form ← form_of number line
  d ← json_in number line
  once ← once_of number line d
  Ok d

-- a line: it isn't too long, and it is blank or JSON
abbrev pub with_line : Known → (number : ℕ) → List ℕ → Result Known Refusal
with_line known number line = if nat_lt line_limit (length line) then Err (bad_line number LineFault.TooLong) else (if is_blank line then Ok known else tree_of number line >>= with_tree known number)

-- lines, of which the first has this number
abbrev pub with_lines : Known → (number : ℕ) → List (List ℕ) → Result Known Refusal
with_lines known number [] = Ok known
with_lines known number (line ∷ rest) = with_line known number line >>= (λ next. with_lines next (number + 1) rest)

-- it says that it ends early: the recording did, and calls may be missing
abbrev pub is_early : Option Ending → Bool
is_early None = false
is_early (Some Ending.Whole) = false
is_early (Some Ending.Early) = true

-- a log is a part, which may lack calls, if it says that it begins late or ends early, or is judged from a time on
abbrev pub is_part : Known → Bool
is_part known = (known.late || is_some known.window.from) || is_early known.ends

-- by times alone the lines of a thread order nothing
abbrev pub judged_ties : (times : Bool) → List Tie → List Tie
judged_ties true ties = []
judged_ties false ties = ties

abbrev pub spelled : Options → Known → Spelled
spelled options known = record {
  part = is_part known;
  ends = known.ends;
  calls = padded (is_part known) known.closes (calls_of options.skew known.before) (length (bodies_of known.before));
  items = length (bodies_of known.before);
  lines = numbers_of known.before;
  closes = known.closes;
  ties = judged_ties options.times (ties_of options.skew known.before);
}

abbrev pub if_some : Options → Known → Result Spelled Refusal
if_some options known = if length known.before == 0 then Err no_calls else Ok (spelled options known)

-- the log that the input spells, or why it spells none: the first line with a fault, and its first fault
abbrev pub log_of : Options → (input : List ℕ) → Result Spelled Refusal
log_of options input = with_lines (at_first options.window) 1 (lines_of input) >>= if_some options
