use Rattle.cc_runs.proofs.Counts.Laws.{counts_grow}
use Rattle.cc_runs.proofs.count_laws.counts_grow.Goals as goal

pub returns : goal.returns
returns c = counts_grow
