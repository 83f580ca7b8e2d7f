-- The answer of a task, and its line on standard error.
use Rattle.std.specs.Prelude.{ℕ, ◌≡◌, ◌⊎◌, ◌+◌, ◌++◌, codes, List, Option, Result, Err}
use Rattle.std.specs.Io.KnownBytes.{Keeps}
use Rattle.cc_cli.specs.Names.{Verdict, PlayFault, ShowFault, Form, Task}
use Rattle.cc_io.specs.FaultLine.{Told, no_memory_line}
use Rattle.cc_play.specs.Outcome.{line_of, status_of}
use Rattle.cc_play.specs.Play.{Plays, Audits, failed_reads, failed_writes}
use Rattle.cc_show.specs.Show.{Shows, failed_reads_of, failed_writes_of, shown_line, shown_status}
use Rattle.cc_cli.specs.Drive.{Drives}
use Rattle.cc_cli.specs.Judged.{Judges}

-- the line if the input of this name can't be opened or read, with the system's reason
abbrev pub unread_line : (name reason : List ℕ) → List ℕ
unread_line name reason = codes "ccq: " ++ name ++ codes ": " ++ reason ++ codes "\n"

-- The lines on standard error about an input.
module _ (errors_old errors_new : Option (List ℕ)) (before after : ℕ) where
  -- reading the input of this name failed: its name and the system's reason, unless there is no memory for the reason
  abbrev pub TellsUnread : (name : List ℕ) → Type 0
  TellsUnread name = ((reason : List ℕ) × Told errors_old errors_new before after (unread_line name reason)) ⊎ Told errors_old errors_new before after (line_of (Err PlayFault.Read))

  -- the outcome of a play or an audit of this input
  abbrev pub Tells : (name : List ℕ) → Result Verdict PlayFault → Type 0
  Tells name (Err PlayFault.Read) = TellsUnread name
  Tells name outcome = Told errors_old errors_new before after (line_of outcome)

  -- the outcome of a show of this input
  abbrev pub TellsShown : (name : List ℕ) → Result Verdict ShowFault → Type 0
  TellsShown name (Err (ShowFault.Play PlayFault.Read)) = TellsUnread name
  TellsShown name outcome = Told errors_old errors_new before after (shown_line outcome)

-- a file can't be opened, or there was no memory to report that
module _ (errors_old errors_new : Option (List ℕ)) (before after status : ℕ) where
  abbrev pub RefusesFile : (name : List ℕ) → Type 0
  RefusesFile name = ((status ≡ 64) × ((reason : List ℕ) × Told errors_old errors_new before after (unread_line name reason))) ⊎ ((status ≡ 3) × Told errors_old errors_new before after no_memory_line)

-- The bytes that a task leaves, on its input too, with the number of failed reads. A play, an audit and a show are done as far as
-- they go and their outcome reported, by the name of their input if reading that failed. Of a judged log the status is that of a
-- right verdict, or says that memory was refused or a device failed. A drive reads nothing.
module _ (left_old left_new : Option (List ℕ)) (reads reads_after : ℕ) (old new : Option (List ℕ)) (fails fails_after : ℕ) (errors_old errors_new : Option (List ℕ)) (before after status : ℕ) where
  abbrev pub Does : (name : List ℕ) → (Option (List ℕ) → Option (List ℕ) → Result Verdict PlayFault → Option (List ℕ) → Option (List ℕ) → Type 0) → Type 0
  Does name Work = (outcome : Result Verdict PlayFault) × Work left_old left_new outcome old new × (reads_after ≡ reads + failed_reads outcome) × (fails_after ≡ fails + failed_writes outcome)
      × (status ≡ status_of outcome) × Tells errors_old errors_new before after name outcome

  abbrev pub DoesShow : (name : List ℕ) → Form → Type 0
  DoesShow name form = (outcome : Result Verdict ShowFault) × Shows form left_old left_new outcome old new × (reads_after ≡ reads + failed_reads_of outcome) × (fails_after ≡ fails + failed_writes_of outcome)
      × (status ≡ shown_status outcome) × TellsShown errors_old errors_new before after name outcome

  abbrev pub Runs : (name : List ℕ) → Task → Type 0
  Runs name Task.Play = Does name Plays
  Runs name Task.Audit = Does name Audits
  Runs name (Task.Judge options) = Judges options left_old reads reads_after fails fails_after status
  Runs name (Task.Show form) = DoesShow name form
  Runs name (Task.Drive config) = Keeps left_old left_new × (reads_after ≡ reads) × Drives config old new fails fails_after errors_old errors_new before after status
