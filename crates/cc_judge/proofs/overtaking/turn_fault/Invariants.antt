use Rattle.std.proofs.Common.{ℕ, ◌<◌}
use Rattle.cc_judge.specs.Names.{Rules}
use Rattle.cc_judge.specs.Sweeps.{AreLists, IsPair, KeepsTurn}
use Rattle.cc_judge.proofs.overtaking.turn_fault.Given as goal

-- the items of the takes so far overtook none
abbrev pub invariant-loop-take : goal.invariant-loop-take
invariant-loop-take l = (rules : Rules) → AreLists rules l.calls l.lists → (send take begin end : ℕ) → take < l.take → IsPair l.calls send take begin end → KeepsTurn rules l.calls begin end
