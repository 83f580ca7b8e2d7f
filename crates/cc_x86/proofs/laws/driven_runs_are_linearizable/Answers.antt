use Rattle.cc_x86.proofs.Crews.{linearizable_driven}
use Rattle.cc_x86.proofs.laws.driven_runs_are_linearizable.Goals as goal

pub returns : goal.returns
returns c = linearizable_driven c.runs_with_early_stores_are_linearizable.ensures
