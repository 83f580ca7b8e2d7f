use Rattle.cc_x86.proofs.Threads.{runs_are_those_of_atomic_steps}
use Rattle.cc_x86.proofs.laws.runs_are_those_of_atomic_steps.Goals as goal

pub returns : goal.returns
returns c = runs_are_those_of_atomic_steps
