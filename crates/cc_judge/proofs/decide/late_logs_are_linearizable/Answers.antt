use Rattle.cc_judge.proofs.Late.{late_logs_are_linearizable}
use Rattle.cc_judge.proofs.decide.late_logs_are_linearizable.Goals as goal

pub returns : goal.returns
returns c = late_logs_are_linearizable
