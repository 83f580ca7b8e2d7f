use Rattle.cc_audit.specs.Least.{referred}
use Rattle.cc_audit.proofs.Sought.{Seen}
use Rattle.cc_audit.proofs.sends.first_altered.Given as goal

abbrev pub invariant-loop-take : goal.invariant-loop-take
invariant-loop-take l = Seen (referred l.sends) l.takes l.take-index l.first
