use Rattle.cc_runs.proofs.Progress.Laws.{no_deadlock}
use Rattle.cc_runs.proofs.progress_laws.no_call_is_stuck.Goals as goal

pub returns : goal.returns
returns c = no_deadlock
