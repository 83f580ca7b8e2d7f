use Rattle.cc_waits.proofs.Bell as bell
use Rattle.cc_waits.proofs.laws.no_bell_is_missed.Goals as goal

pub returns : goal.returns
returns c = bell.no_bell_is_missed
