-- The call that a line of a log describes, or the first fault of the line.
use Rattle.std.specs.Prelude.{ℕ, ◌&&◌, ◌||◌, Bool, true, false, not, List, [], ◌∷◌, codes, decimal, nat_lt, if◌then◌else◌, Option, Some, None, option_and_then, is_some, Result, Ok, Err}
use Rattle.std.specs.List.{list_all}
use Rattle.std.specs.Str.{bytes_eq}
use Rattle.serde_json.specs.Data.{Data, Members}
use Rattle.serde_json.specs.Find.{get, as_null, as_bool, as_object, as_str}
use Rattle.cc_plan.specs.Json.{elements, each, has, has_only, is_word, keys, whole_number}
use Rattle.cc_log.specs.Names.{Ending, LineFault, Line, Said}

infixl 10 ◌>>=◌
abbrev pub ◌>>=◌ : {A B : Type 0} → Result A LineFault → (A → Result B LineFault) → Result B LineFault
(Ok x) >>= f = f x
(Err e) >>= f = Err e

-- the value, or this fault
abbrev pub or_fault : {A : Type 0} → LineFault → Option A → Result A LineFault
or_fault fault (Some x) = Ok x
or_fault fault None = Err fault

-- nothing, or this fault if the test fails
abbrev pub unless : LineFault → Bool → Result (Unit {0}) LineFault
unless fault true = Ok tt
unless fault false = Err fault

-- nothing, or the fault that there is
abbrev pub unless_fault : Option LineFault → Result (Unit {0}) LineFault
unless_fault None = Ok tt
unless_fault (Some fault) = Err fault

-- ---- bodies

-- how many words, and the words; those after the last are 0
abbrev pub Body : Type 0
Body = ℕ × ℕ × ℕ × ℕ × ℕ

-- one to four words
abbrev pub body_of : List ℕ → Option Body
body_of [] = None
body_of (a ∷ []) = Some (1, a, 0, 0, 0)
body_of (a ∷ b ∷ []) = Some (2, a, b, 0, 0)
body_of (a ∷ b ∷ c ∷ []) = Some (3, a, b, c, 0)
body_of (a ∷ b ∷ c ∷ d ∷ []) = Some (4, a, b, c, d)
body_of (a ∷ b ∷ c ∷ d ∷ e ∷ words) = None

abbrev pub one_or : Option ℕ → Option Body → Option Body
one_or (Some word) body = Some (1, word, 0, 0, 0)
one_or None body = body

-- an array of one to four whole numbers, or one number, which is the body of that word
abbrev pub body_in : Data → Result Body LineFault
body_in d = or_fault LineFault.Call (one_or (whole_number d) (option_and_then body_of (option_and_then (each whole_number) (elements d))))

-- ---- keys

-- a key of a call
abbrev pub is_call_key : List ℕ → Bool
is_call_key key = bytes_eq key (codes "thread") || bytes_eq key (codes "begin") || bytes_eq key (codes "end") || bytes_eq key (codes "send") || bytes_eq key (codes "take") || bytes_eq key (codes "close") || bytes_eq key (codes "answer")

-- an object with keys of a call alone
abbrev pub object_of_call : Option Members → Result (Unit {0}) LineFault
object_of_call None = Err LineFault.NoObject
object_of_call (Some ms) = unless LineFault.Key (list_all is_call_key (keys ms))

-- ---- times

-- the end of a call that began at a time: there is none, or it isn't earlier
abbrev pub end_from : (begin : ℕ) → Option ℕ → Result (Option ℕ) LineFault
end_from begin None = Err LineFault.End
end_from begin (Some end) = if nat_lt end begin then Err LineFault.End else Ok (Some end)

abbrev pub end_of : (begin : ℕ) → Option Data → Result (Option ℕ) LineFault
end_of begin None = Ok None
end_of begin (Some d) = end_from begin (whole_number d)

-- ---- acts

-- the text of the answer, if there is one: only a call that ended may have it
abbrev pub answer_of : (end : Option ℕ) → Option Data → Result (Option (List ℕ)) LineFault
answer_of end None = Ok None
answer_of None (Some d) = Err LineFault.Answer
answer_of (Some end) (Some d) = or_fault LineFault.Answer (option_and_then (λ text. Some (Some text)) (as_str d))

-- there is no answer
abbrev pub no_answer : Option Data → Result (Unit {0}) LineFault
no_answer answer = unless LineFault.Answer (not (is_some answer))

-- a send, by its answer: it was accepted or hasn't returned, or the queue was full or closed
abbrev pub sent : Body → Option (List ℕ) → Result Said LineFault
sent body None = Ok (Said.Send body)
sent body (Some text) = if bytes_eq text (codes "full") then Ok (Said.Full body) else (if bytes_eq text (codes "closed") then Ok (Said.Closed body) else Err LineFault.Answer)

abbrev pub send_of : (end : Option ℕ) → (value : Data) → (answer : Option Data) → Result Said LineFault
send_of end value answer = do
  body ← body_in value
  text ← answer_of end answer
  sent body text

-- a take of no item, by its answer: it found none or hasn't returned, or the queue was closed and empty
abbrev pub took_none : (end : Option ℕ) → Option (List ℕ) → Result Said LineFault
took_none None None = Ok Said.Taking
took_none (Some end) None = Ok Said.FoundNone
took_none end (Some text) = if bytes_eq text (codes "ended") || bytes_eq text (codes "closed") then Ok Said.Ended else Err LineFault.Answer

abbrev pub no_item : (end : Option ℕ) → (answer : Option Data) → Result Said LineFault
no_item end answer = do
  text ← answer_of end answer
  took_none end text

-- a take of an item has no answer, and an end
abbrev pub took_item : (end : Option ℕ) → (value : Data) → (answer : Option Data) → Result Said LineFault
took_item end value answer = do
  none ← no_answer answer
  body ← body_in value
  ended ← unless LineFault.Open (is_some end)
  Ok (Said.Took body)

abbrev pub take_of : (end : Option ℕ) → (value : Data) → (answer : Option Data) → Result Said LineFault
take_of end value answer = if is_some (as_null value) then no_item end answer else took_item end value answer

-- a close is true, and has no answer
abbrev pub is_true : Option Bool → Bool
is_true (Some b) = b
is_true None = false

abbrev pub close_of : (value : Data) → (answer : Option Data) → Result Said LineFault
close_of value answer = do
  close ← unless LineFault.Call (is_true (as_bool value))
  none ← no_answer answer
  Ok Said.Close

-- just one of `send`, `take` and `close`
abbrev pub said_of : (end : Option ℕ) → (send take close answer : Option Data) → Result Said LineFault
said_of end (Some value) None None answer = send_of end value answer
said_of end None (Some value) None answer = take_of end value answer
said_of end None None (Some value) answer = close_of value answer
said_of end send take close answer = Err LineFault.Call

-- the same by the values of the keys
abbrev pub said_in : (end : Option ℕ) → Data → Result Said LineFault
said_in end d = said_of end (get (codes "send") d) (get (codes "take") d) (get (codes "close") d) (get (codes "answer") d)

-- ---- lines

-- the call that the tree of a line describes: its times, and what the line says of it
abbrev pub line_of : Data → Result Line LineFault
line_of d = do
  object ← object_of_call (as_object d)
  begin ← or_fault LineFault.Begin (option_and_then whole_number (get (codes "begin") d))
  end ← end_of begin (get (codes "end") d)
  said ← said_in end d
  Ok (record { begin = begin; end = end; said = said })

-- the name of its thread: a text, or the digits of a whole number
abbrev pub name_of : (text : Option (List ℕ)) → (number : Option ℕ) → Option (List ℕ)
name_of (Some text) number = Some text
name_of None (Some n) = Some (decimal n)
name_of None None = None

abbrev pub thread_of : Data → Result (List ℕ) LineFault
thread_of d = or_fault LineFault.Thread (option_and_then (λ value. name_of (as_str value) (whole_number value)) (get (codes "thread") d))

-- the line that says that the log begins late: an object with the key `begins` alone, whose value is the text late
abbrev pub begins_late : Data → Bool
begins_late d = has_only (λ key. bytes_eq key (codes "begins")) d && has (is_word (codes "late")) (codes "begins") d

-- how a log ends, by a word
abbrev pub ending_of : List ℕ → Option Ending
ending_of text = if bytes_eq text (codes "whole") then Some Ending.Whole else (if bytes_eq text (codes "early") then Some Ending.Early else None)

-- the line that says how the log ends: an object with the key `ends` alone, whose value is the text whole or early
abbrev pub ending_in : Data → Option Ending
ending_in d = if has_only (λ key. bytes_eq key (codes "ends")) d then option_and_then (λ value. option_and_then ending_of (as_str value)) (get (codes "ends") d) else None
