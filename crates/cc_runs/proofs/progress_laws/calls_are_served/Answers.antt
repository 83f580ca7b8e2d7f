use Rattle.cc_runs.proofs.Progress.Rounds.{calls_are_served}
use Rattle.cc_runs.proofs.progress_laws.calls_are_served.Goals as goal

pub returns : goal.returns
returns c = calls_are_served
