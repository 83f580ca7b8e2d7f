use Rattle.cc_x86.proofs.InTime.{runs_are_linearizable}
use Rattle.cc_x86.proofs.laws.runs_are_linearizable_on_x86.Goals as goal

pub returns : goal.returns
returns c = runs_are_linearizable c.runs_are_linearizable.ensures
