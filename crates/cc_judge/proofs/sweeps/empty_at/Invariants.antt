use Rattle.std.proofs.Common.{◌+◌, ◌-◌, List, ℕ, ◌<◌, ◌≤◌}
use Rattle.cc_judge.specs.Names.{Call, Rules}
use Rattle.cc_judge.specs.Counts.{IsInside}
use Rattle.cc_judge.specs.Sweeps.{AreLists}
use Rattle.cc_judge.proofs.sweeps.empty_at.Given as goal

abbrev pub invariant-loop-time : goal.invariant-loop-time
invariant-loop-time l = (l.begin ≤ l.time) × ((rules : Rules) (calls : List Call) → AreLists rules calls l.lists → (t : ℕ) → l.begin ≤ t → t < l.time → IsInside rules calls t t)

abbrev pub decreases-loop-time : goal.decreases-loop-time
decreases-loop-time l = l.end + 1 - l.time
