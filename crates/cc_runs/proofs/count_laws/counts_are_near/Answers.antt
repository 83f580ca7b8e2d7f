use Rattle.cc_runs.proofs.Counts.Laws.{counts_are_near}
use Rattle.cc_runs.proofs.count_laws.counts_are_near.Goals as goal

pub returns : goal.returns
returns c = counts_are_near
