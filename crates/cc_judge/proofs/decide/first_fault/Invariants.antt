use Rattle.std.proofs.Common.{◌-◌}
use Rattle.cc_judge.proofs.Until.{IsSought}
use Rattle.cc_judge.proofs.decide.first_fault.Given as goal

abbrev pub invariant-loop-low : goal.invariant-loop-low
invariant-loop-low l = IsSought l.rules l.calls l.low l.high l.first

abbrev pub decreases-loop-low : goal.decreases-loop-low
decreases-loop-low l = l.high - l.low
