-- The state of the reader of a log after the lines so far.
use Rattle.std.specs.Prelude.{ℕ, ◌≡◌, ◌<◌, ◌^◌, ◌++◌, List, [], ◌∷◌, if◌then◌else◌, length, Option, Some, option_and_then, string_bytes, Result, Ok, Err}
use Rattle.std.specs.Str.{bytes_eq}
use Rattle.std.specs.HashMap.{HashMap, get, get_by_text, keys}
use Rattle.cc_log.specs.Names.{Last, Log, LogFault, Options, Parsed, State}
use Rattle.cc_log.specs.Answers.{Refuses}
use Rattle.cc_log.specs.Line.{Body}
use Rattle.cc_log.specs.Log.{Entry, Known, Refusal, Spelled, allowed, bodies_of, call_of, calls_of, item_in, last_of, numbers_of, same_body, sender_of, sends, tie_with, ties_of, with_item}
use Rattle.cc_log.specs.Written.{AreFair}

-- the line that sent a body, as the table of the items has it
abbrev pub sender_in : {S : Type 0} → HashMap Body (Option ℕ) S → Body → Option ℕ
sender_in items body = option_and_then (λ line. line) (get same_body items body)

-- the last call of a thread, as the table of the threads has it
abbrev pub last_in : State → (thread : List ℕ) → Option Last
last_in s thread = get_by_text s.log.threads thread

-- a call as it was read
abbrev pub entry_in : (number : ℕ) → Parsed → Entry
entry_in number parsed = record { number = number; thread = string_bytes parsed.thread; line = parsed.line }

-- the state has what is known of the lines so far
pub record Shows (options : Options) (s : State) (known : Known) : Type 0 where
  pub options_is : s.log.options ≡ options
  pub window : known.window ≡ options.window
  pub capacity : s.log.rules.capacity ≡ options.capacity
  pub late : s.late ≡ known.late
  pub ends : s.log.ends ≡ known.ends
  pub bodies : keys s.items ≡ bodies_of known.before
  pub senders : (body : Body) → sender_in s.items body ≡ sender_of body known.before
  pub lasts : (thread : List ℕ) → last_in s thread ≡ last_of thread known.before
  pub calls : s.log.calls.items ≡ calls_of options.skew known.before
  pub lines : s.log.notes.lines.items ≡ numbers_of known.before
  pub ties : s.log.rules.ties.items ≡ ties_of options.skew known.before
  pub closes : s.log.rules.closes ≡ known.closes
  pub fair : AreFair known.before

-- the state after a line, by what is due of that
abbrev pub IsStep : Options → Result Known Refusal → Result (Unit {0}) LogFault → State → Type 0
IsStep options due (Ok done) s = (next : Known) × (due ≡ Ok next) × Shows options s next
IsStep options due (Err fault) s = Refuses fault due

-- a call was added
pub record Added (old new : State) (e : Entry) : Type 0 where
  pub low : e.line.begin < 2 ^ 64
  pub is_allowed : allowed e (last_in old e.thread) (sender_in old.items) ≡ Ok tt
  pub options : new.log.options ≡ old.log.options
  pub capacity : new.log.rules.capacity ≡ old.log.rules.capacity
  pub late : new.late ≡ old.late
  pub ends : new.log.ends ≡ old.log.ends
  pub bodies : keys new.items ≡ with_item (keys old.items) (item_in e.line.said)
  pub senders : (body : Body) → sender_in new.items body ≡ (if sends body e.line.said then Some e.number else sender_in old.items body)
  pub place : ℕ
  pub place_is : place ≡ length old.log.calls.items
  pub lasts : (thread : List ℕ) → last_in new thread ≡ (if bytes_eq e.thread thread then Some (record { begin = e.line.begin; end = e.line.end; place = place }) else last_in old thread)
  pub calls : new.log.calls.items ≡ old.log.calls.items ++ call_of old.log.options.skew (keys old.items) e.line ∷ []
  pub lines : new.log.notes.lines.items ≡ old.log.notes.lines.items ++ e.number ∷ []
  pub ties : new.log.rules.ties.items ≡ old.log.rules.ties.items ++ tie_with old.log.options.skew place e.line.begin (last_in old e.thread)
  pub closes : new.log.rules.closes ≡ old.log.rules.closes

abbrev pub Adds : (old new : State) → Entry → Result (Unit {0}) LogFault → Type 0
Adds old new e (Ok done) = Added old new e
Adds old new e (Err fault) = Refuses fault (allowed e (last_in old e.thread) (sender_in old.items))

-- the log that was read
abbrev pub log_view : Log → Spelled
log_view log = record { part = log.part; ends = log.ends; calls = log.calls.items; items = log.items; lines = log.notes.lines.items; closes = log.rules.closes; ties = log.rules.ties.items }
