use Rattle.std.proofs.Common.{ℕ, ◌<◌}
use Rattle.cc_judge.specs.Names.{Act}
use Rattle.cc_judge.specs.Faults.{Did}
use Rattle.cc_judge.specs.Sweeps.{WasSent}
use Rattle.cc_judge.proofs.overtaking.take_fault.Given as goal

-- the items of the takes so far were sent in time
abbrev pub invariant-loop-take : goal.invariant-loop-take
invariant-loop-take l = (k item : ℕ) → k < l.take → Did l.calls k (Act.Took item) → WasSent l.calls k item
