use Rattle.std.proofs.Common.{◌≡◌, ℕ, List, subst, sym}
use Rattle.cc_model.specs.HistoryRoom.{lists}
use Rattle.cc_plan.specs.Plan.{plan_value}
use Rattle.cc_report.specs.Report.{report_text}
use Rattle.cc_play.specs.Names.{Verdict}
use Rattle.cc_play.specs.Play.{IsHistoryVerdict, IsReport}
use Rattle.cc_play.proofs.Clean.{reported}
use Rattle.cc_play.proofs.Worked.{still_worked}
use Rattle.cc_play.proofs.play.play_plan.Goals as goal

pub returns-clause-played : goal.returns-clause-played
returns-clause-played g c =
    still_worked (λ verdict text. IsHistoryVerdict (lists c.history.result.now) verdict × (text ≡ report_text c.args.plan.now.version (lists c.history.result.now) verdict)) (IsReport (plan_value c.args.plan.now)) c.report.result _ _
    (λ (verdict : Verdict) (text : List ℕ) h.
    subst (λ (t : List ℕ). IsReport (plan_value c.args.plan.now) verdict t) (sym h.1)
    (reported (plan_value c.args.plan.now) c.in_ok-machine.machine (lists c.history.result.now) verdict c.in_ok-machine.ensures.played c.in_ok-machine.ensures.run
    c.history.ensures.history c.history.ensures.legal c.history.ensures.fifo h.0))
    c.report.ensures.reports
