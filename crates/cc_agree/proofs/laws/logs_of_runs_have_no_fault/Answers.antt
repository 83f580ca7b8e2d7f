use Rattle.cc_agree.proofs.LogOrder.{logs_of_runs_have_no_fault}
use Rattle.cc_agree.proofs.laws.logs_of_runs_have_no_fault.Goals as goal

pub returns : goal.returns
returns c = logs_of_runs_have_no_fault
