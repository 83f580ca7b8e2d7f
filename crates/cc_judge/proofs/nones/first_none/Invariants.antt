use Rattle.std.proofs.Common.{ℕ, ◌<◌}
use Rattle.cc_judge.specs.Names.{Rules}
use Rattle.cc_judge.specs.Sweeps.{AreLists, IsShutAt, MayBeEmpty}
use Rattle.cc_judge.proofs.nones.first_none.Given as goal

-- at a time of each call so far the queue may have been empty
abbrev pub invariant-loop-place : goal.invariant-loop-place
invariant-loop-place l = (rules : Rules) → AreLists rules l.calls l.lists → IsShutAt rules l.calls l.shut → (k : ℕ) → k < l.place → MayBeEmpty rules l.calls k
