use Rattle.cc_runs.proofs.ListRuns.Laws.{history_is_legal}
use Rattle.cc_runs.proofs.list_laws.histories_are_legal.Goals as goal

pub returns : goal.returns
returns c = history_is_legal
