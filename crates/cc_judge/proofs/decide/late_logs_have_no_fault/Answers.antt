use Rattle.cc_judge.proofs.Weaker.{late_logs_have_no_fault}
use Rattle.cc_judge.proofs.decide.late_logs_have_no_fault.Goals as goal

pub returns : goal.returns
returns c = late_logs_have_no_fault
