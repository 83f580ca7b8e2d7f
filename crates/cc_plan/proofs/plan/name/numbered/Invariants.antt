use Rattle.std.proofs.Common.{◌≡◌, ◌-◌, ◌^◌, ℕ, drop, fold, min}
use Rattle.cc_plan.specs.PlanShape.{digits_more}
use Rattle.cc_plan.proofs.plan.name.numbered.Given as goal

-- the number so far, cut to 32 bits, goes on to that of all digits
abbrev pub invariant-loop-digit : goal.invariant-loop-digit
invariant-loop-digit l = (m : ℕ) × (l.n ≡ min m (2 ^ 32 - 1)) × (fold digits_more m (drop l.digit-index l.digits) ≡ fold digits_more 0 l.digits)
