use Rattle.cc_judge.proofs.Parts.{none_until_end}
use Rattle.cc_judge.proofs.decide.none_fault_of.Goals as goal

pub returns : goal.returns
returns c = none_until_end c.args.rules.now c.args.calls.now c.last_end-end.result c.requires.written c.requires.differ c.requires.fine c.last_end-end.ensures c.requires.none
