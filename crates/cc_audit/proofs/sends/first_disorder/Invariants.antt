use Rattle.cc_audit.specs.Least.{referred}
use Rattle.cc_audit.proofs.Turns.{Walked}
use Rattle.cc_audit.proofs.sends.first_disorder.Given as goal

abbrev pub invariant-loop-i : goal.invariant-loop-i
invariant-loop-i l = Walked (referred l.sends) l.i l.first
