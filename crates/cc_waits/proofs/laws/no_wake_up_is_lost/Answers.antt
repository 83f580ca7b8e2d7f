use Rattle.cc_waits.proofs.Line as line
use Rattle.cc_waits.proofs.laws.no_wake_up_is_lost.Goals as goal

pub returns : goal.returns
returns c = line.no_wake_up_is_lost
