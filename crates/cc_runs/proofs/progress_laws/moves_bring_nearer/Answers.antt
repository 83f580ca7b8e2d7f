use Rattle.cc_runs.proofs.Progress.Laws.{moves_bring_nearer}
use Rattle.cc_runs.proofs.progress_laws.moves_bring_nearer.Goals as goal

pub returns : goal.returns
returns c = moves_bring_nearer
