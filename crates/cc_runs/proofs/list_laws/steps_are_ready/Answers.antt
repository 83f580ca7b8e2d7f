use Rattle.cc_runs.proofs.ListRuns.Ready.{list_steps_ready}
use Rattle.cc_runs.proofs.list_laws.steps_are_ready.Goals as goal

pub returns : goal.returns
returns c = list_steps_ready
