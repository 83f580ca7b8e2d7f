use Rattle.cc_runs.proofs.ChainLaws.{counter_laws}
use Rattle.cc_runs.proofs.chain_laws.laws_of_counters.Goals as goal

pub returns : goal.returns
returns c = counter_laws
