-- The page, or the trace, of a machine at the end of a plan's run, which was written, or a part of it.
use Rattle.std.proofs.Common.{◌≡◌, ◌≤◌, ℕ, List, length, Bool, true, false, Option, Result, Ok, Err, ap, subst}
use Rattle.cc_model.specs.Record.{Record}
use Rattle.cc_model.specs.Legal.{Legal}
use Rattle.cc_model.specs.Fifo.{Fifo}
use Rattle.cc_runs.specs.Run.{reached, IsRun}
use Rattle.cc_machine.specs.View.{View, state_in}
use Rattle.cc_io.specs.Written.{Writes}
use Rattle.cc_plan.specs.Plan.{PlanValue}
use Rattle.cc_plan.specs.PlanOf.{plan_of}
use Rattle.cc_report.specs.Report.{report_text}
use Rattle.cc_io.specs.Input.{Reads}
use Rattle.cc_play.specs.Play.{IsHistoryVerdict, Worked, WorksOn}
use Rattle.cc_play.specs.Schedule.{setting_of, run_of}
use Rattle.cc_play.proofs.Clean.{reported}
use Rattle.cc_play.proofs.Worked.{worked}
use Rattle.cc_show.specs.Names.{ShownEvent, Form, PlayFault, Verdict}
use Rattle.cc_show.specs.Events.{event_limit, happened}
use Rattle.cc_show.specs.Show.{shown_text, IsShown}

-- the result, by whether a write failed
abbrev pub written_by : Bool → Verdict → Result Verdict PlayFault
written_by false v = Ok v
written_by true v = Err PlayFault.Write

went_out : (f : Bool) (Right : Verdict → List ℕ → Type 0) (v : Verdict) (text : List ℕ) (old new : Option (List ℕ)) (x y : ℕ) → Right v text → Writes f old new x y text → Worked Right (written_by f v) old new
went_out false Right v text old new x y right out = (text, right, out.0)
went_out true Right v text old new x y right out = (v, text, out.0, right, out.1, out.2)

pub shown_so : (f : Bool) (form : Form) (p : PlanValue) (m : View) (written : Record) (v : Verdict) (events : List ShownEvent) (l n : Option (List ℕ)) (input : List ℕ) (old new : Option (List ℕ)) (x y : ℕ) → Reads l n input → plan_of input ≡ Ok p
    → IsRun (setting_of p) (run_of p) × (m.setting ≡ setting_of p) × (state_in m ≡ reached (setting_of p) (run_of p)) × (events ≡ happened p (run_of p)) × (length events ≤ event_limit)
    → written ≡ m.history → Legal m.setting.config m.history → Fifo m.history → IsHistoryVerdict written v → Writes f old new x y (shown_text form p events (report_text p.version written v)) → WorksOn plan_of (IsShown form) l n (written_by f v) old new
shown_so f form p m written v events l n input old new x y reads due h history legal fifo verdict out =
    let shown : IsShown form p v (shown_text form p events (report_text p.version written v)) = record {
      report = report_text p.version written v;
      reported = reported p m written v (h.1, h.2) h.0 history legal fifo verdict;
      short = subst (λ (es : List ShownEvent). length es ≤ event_limit) h.3 h.4;
      text_is = ap (λ (es : List ShownEvent). shown_text form p es (report_text p.version written v)) h.3;
    } in
    worked plan_of (IsShown form) l n input p (written_by f v) old new reads due (went_out f (IsShown form p) v _ old new x y shown out)
