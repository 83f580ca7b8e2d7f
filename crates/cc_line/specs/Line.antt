-- The task that clap's matches are: each number and file is the one that clap's definitions find in the words.
use Rattle.std.specs.Prelude.{ℕ, ⊤, ◌≡◌, ◌≤◌, ◌⊎◌, ◌^◌, Bool, false, List, [], codes, if◌then◌else◌, Option, Some, None, Result, Ok, Err, nat_lt, option_map, option_and_then, unwrap_or}
use Rattle.std.specs.Option.{option_map_or}
use Rattle.std.specs.Str.{bytes_eq}
use Rattle.clap.specs.Words.{HasKind, Row, Text, fault_of, first_of, kind_of, subcommand_of}
use Rattle.clap.specs.declared.error.Error.{Error}
use Rattle.clap.specs.declared.error.kind.ErrorKind.{ErrorKind}
use Rattle.cc_log.specs.declared.parse.Options.{Options}
use Rattle.cc_show.specs.declared.form.Form.{Form}
use Rattle.cc_drive.specs.declared.config.DriveConfig.{DriveConfig}
use Rattle.cc_cli.specs.declared.task.Task.{Task}
use Rattle.cc_line.specs.declared.asked.Line.{Line}
use Rattle.cc_line.specs.declared.asked.Refusal.{Refusal}
use Rattle.cc_line.specs.Number.{number_of}
use Rattle.cc_line.specs.Program.{program}

-- ---- the options of a task, by what was found for them

-- an option without a value was given
abbrev pub is_set : (option : Text) → List Row → Bool
is_set option rows = option_map_or (λ text. bytes_eq text (codes "true")) (first_of option rows) false

-- the file; none is standard input, and so is -
abbrev pub file_of : List Row → Option Text
file_of rows = option_and_then (λ name. if bytes_eq name (codes "-") then None else Some name) (first_of (codes "file") rows)

abbrev pub options_of : List Row → Options
options_of rows = record {
  capacity = number_of 32 (codes "capacity") rows;
  skew = unwrap_or (number_of 64 (codes "skew") rows) 0;
  times = is_set (codes "times") rows;
  page = is_set (codes "page") rows;
  follow = is_set (codes "follow") rows;
  window = record { from = number_of 64 (codes "from") rows; until = number_of 64 (codes "until") rows };
}

abbrev pub form_of : List Row → Form
form_of rows = if is_set (codes "trace") rows then Form.Trace else Form.Page

abbrev pub drive_of : List Row → DriveConfig
drive_of rows = record {
  senders = unwrap_or (number_of 32 (codes "senders") rows) 0;
  receivers = unwrap_or (number_of 32 (codes "receivers") rows) 0;
  items = unwrap_or (number_of 64 (codes "items") rows) 0;
  capacity = unwrap_or (number_of 32 (codes "capacity") rows) 0;
  bound = unwrap_or (number_of 32 (codes "bound") rows) 0;
  limit = 2 ^ 48;
}

-- ---- options that can't be given together

abbrev pub before_from : (until : ℕ) → (from : Option ℕ) → Option Refusal
before_from until None = None
before_from until (Some from) = if nat_lt until from then Some Refusal.UntilBeforeFrom else None

abbrev pub clash_at : (until : Option ℕ) → (skew : ℕ) → (from : Option ℕ) → Option Refusal
clash_at None skew from = None
clash_at (Some until) skew from = if nat_lt 0 skew then Some Refusal.UntilBesideSkew else before_from until from

abbrev pub clash : Options → Option Refusal
clash options = clash_at options.window.until options.skew options.window.from

abbrev pub unless : Option Refusal → Task → Result Task Refusal
unless None task = Ok task
unless (Some refusal) task = Err refusal

abbrev pub judge_of : List Row → Result Task Refusal
judge_of rows = unless (clash (options_of rows)) (Task.Judge (options_of rows))

-- ---- the task

abbrev pub task_of : (name : Text) → List Row → Result Task Refusal
task_of name rows = if bytes_eq name (codes "play") then Ok Task.Play
    else (if bytes_eq name (codes "audit") then Ok Task.Audit
    else (if bytes_eq name (codes "judge") then judge_of rows
    else (if bytes_eq name (codes "show") then Ok (Task.Show (form_of rows))
    else (if bytes_eq name (codes "drive") then Ok (Task.Drive (drive_of rows)) else Err Refusal.NoTask))))

-- a task with its file
abbrev pub with_file : Option Text → Result Task Refusal → Result (Task × Option Text) Refusal
with_file file (Ok task) = Ok (task, file)
with_file file (Err refusal) = Err refusal

-- what a subcommand and its matches ask for
abbrev pub line_of : Option (Text × List Row) → Result (Task × Option Text) Refusal
line_of None = Err Refusal.NoTask
line_of (Some found) = with_file (file_of found.1) (task_of found.0 found.1)

-- what a line is
abbrev pub line_parts : Line → Task × Option Text
line_parts line = (line.task, option_map (λ name. name.now) line.file)

abbrev pub line_view : Result Line Refusal → Result (Task × Option Text) Refusal
line_view (Ok line) = Ok (line_parts line)
line_view (Err refusal) = Err refusal

-- the kind of the error
abbrev pub refusal_kind : Refusal → ErrorKind
refusal_kind Refusal.NoTask = ErrorKind.MissingSubcommand
refusal_kind refusal = ErrorKind.ArgumentConflict

-- ---- the ranges

abbrev pub IsWithin : (low high n : ℕ) → Type 0
IsWithin low high n = (low ≤ n) × (n ≤ high)

pub record AreInRange (config : DriveConfig) : Type 0 where
  pub senders : IsWithin 1 63 config.senders
  pub receivers : IsWithin 1 64 config.receivers
  pub items : config.items ≤ 1000000
  pub capacity : IsWithin 1 4096 config.capacity
  pub bound : IsWithin 1 1024 config.bound

-- the numbers of a task lie in their ranges; the others have that of their type
abbrev pub IsInRange : Task → Type 0
IsInRange (Task.Judge options) = (n : ℕ) → options.capacity ≡ Some n → 1 ≤ n
IsInRange (Task.Drive config) = AreInRange config
IsInRange task = ⊤

-- ---- the words

-- A line is what clap finds in the words, in which nothing is wrong by its definitions. An error is one that clap gives at
-- the words, or that memory was refused; or nothing is wrong with them, and what clap finds is refused.
abbrev pub Asks : (words : List Text) → Result Line Error → Type 0
Asks words (Ok line) = (fault_of program words ≡ []) × (line_of (subcommand_of program words) ≡ Ok (line_parts line))
Asks words (Err e) = HasKind (fault_of program words) e
    ⊎ ((fault_of program words ≡ []) × ((refusal : Refusal) × (line_of (subcommand_of program words) ≡ Err refusal) × (kind_of e ≡ refusal_kind refusal)))
