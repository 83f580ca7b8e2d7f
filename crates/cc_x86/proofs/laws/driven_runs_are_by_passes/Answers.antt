use Rattle.std.proofs.Common.{ℕ}
use Rattle.cc_x86.proofs.Driven.{driven_runs_are_by_passes}
use Rattle.cc_x86.proofs.laws.driven_runs_are_by_passes.Goals as goal

pub returns : goal.returns
returns c = driven_runs_are_by_passes ℕ ℕ
