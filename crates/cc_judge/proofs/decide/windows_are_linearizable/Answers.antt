use Rattle.cc_judge.proofs.Weaker.{windows_are_linearizable}
use Rattle.cc_judge.proofs.decide.windows_are_linearizable.Goals as goal

pub returns : goal.returns
returns c = windows_are_linearizable
