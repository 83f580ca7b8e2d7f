-- The result of showing an input, and what it leaves on the two devices.
use Rattle.std.specs.Prelude.{ℕ, ◌≡◌, ◌<◌, ◌≤◌, List, codes, length, Option, Result, Ok, Err}
use Rattle.std.specs.Io.KnownBytes.{Keeps}
use Rattle.cc_plan.specs.Plan.{PlanValue}
use Rattle.cc_plan.specs.PlanOf.{plan_of}
use Rattle.cc_play.specs.Outcome.{line_of, status_of}
use Rattle.cc_io.specs.Input.{Reads}
use Rattle.cc_play.specs.Play.{IsReport, WorksOn, failed_reads, failed_writes}
use Rattle.cc_play.specs.Schedule.{run_of}
use Rattle.cc_show.specs.Names.{ShownEvent, Form, ShowFault, Verdict}
use Rattle.cc_show.specs.Events.{event_limit, happened}
use Rattle.cc_show.specs.Page.{page_text}
use Rattle.cc_show.specs.Trace.{trace_text}

-- the text of a plan's events in a form; a page has a report too
abbrev pub shown_text : Form → PlanValue → List ShownEvent → (report : List ℕ) → List ℕ
shown_text Form.Page p events report = page_text p events report
shown_text Form.Trace p events report = trace_text events

-- the page or the trace of a plan: that of the events of the run that its schedule describes, and of the report that a play
-- of it writes
pub record IsShown (form : Form) (p : PlanValue) (verdict : Verdict) (text : List ℕ) : Type 0 where
  pub report : List ℕ
  pub reported : IsReport p verdict report
  pub short : length (happened p (run_of p)) ≤ event_limit
  pub text_is : text ≡ shown_text form p (happened p (run_of p)) report

-- Showing a plan: its page or its trace is written as a play writes the report. If the run has too many events, nothing is.
abbrev pub Shows : Form → Option (List ℕ) → Option (List ℕ) → Result Verdict ShowFault → Option (List ℕ) → Option (List ℕ) → Type 0
Shows form left_old left_new (Ok verdict) old new = WorksOn plan_of (IsShown form) left_old left_new (Ok verdict) old new
Shows form left_old left_new (Err (ShowFault.Play f)) old new = WorksOn plan_of (IsShown form) left_old left_new (Err f) old new
Shows form left_old left_new (Err ShowFault.Long) old new = (input : List ℕ) × Reads left_old left_new input × ((p : PlanValue) × (plan_of input ≡ Ok p) × (event_limit < length (happened p (run_of p)))) × Keeps old new

-- how many reads failed, and how many writes
abbrev pub failed_reads_of : Result Verdict ShowFault → ℕ
failed_reads_of (Err (ShowFault.Play f)) = failed_reads (Err f)
failed_reads_of _ = 0

abbrev pub failed_writes_of : Result Verdict ShowFault → ℕ
failed_writes_of (Err (ShowFault.Play f)) = failed_writes (Err f)
failed_writes_of _ = 0

-- the exit status
abbrev pub shown_status : Result Verdict ShowFault → ℕ
shown_status (Ok verdict) = status_of (Ok verdict)
shown_status (Err (ShowFault.Play f)) = status_of (Err f)
shown_status (Err ShowFault.Long) = 5

-- the line on standard error: none if all went well
unfoldable pub shown_line : Result Verdict ShowFault → List ℕ
shown_line (Ok verdict) = line_of (Ok verdict)
shown_line (Err (ShowFault.Play f)) = line_of (Err f)
shown_line (Err ShowFault.Long) = codes "ccq: more than 20000 events\n"
