use Rattle.cc_runs.proofs.Passes.{others_leave}
use Rattle.cc_runs.proofs.run_laws.others_leave_a_pass.Goals as goal

pub returns : goal.returns
returns c = others_leave
