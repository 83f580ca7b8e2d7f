use Rattle.cc_judge.proofs.decide.found_in.Goals as goal

pub returns-in-Fault-clause-some : goal.returns-in-Fault-clause-some
returns-in-Fault-clause-some c = (rw c.in-Fault.is at c.in_ok-index.ensures) c.args.rules.now
