use Rattle.std.proofs.Common.{◌≡◌, ◌<◌, ℕ, Some}
use Rattle.cc_judge.specs.Faults.{NotFull}
use Rattle.cc_judge.specs.Names.{Rules}
use Rattle.cc_judge.proofs.room.first_not_full.Given as goal

-- no call so far
abbrev pub invariant-loop-place : goal.invariant-loop-place
invariant-loop-place l = (k : ℕ) → k < l.place → (rules : Rules) → rules.capacity ≡ Some l.rooms.number → NotFull rules l.calls k → ⊥
