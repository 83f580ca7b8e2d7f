use Rattle.cc_waits.proofs.Line as line
use Rattle.cc_waits.proofs.laws.things_are_owed.Goals as goal

pub returns : goal.returns
returns c = line.things_are_owed
