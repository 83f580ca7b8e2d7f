use Rattle.cc_runs.proofs.Progress.Stopped.{those_behind_stop}
use Rattle.cc_runs.proofs.progress_laws.stopped_turns_stop_those_behind.Goals as goal

pub returns : goal.returns
returns c = those_behind_stop
