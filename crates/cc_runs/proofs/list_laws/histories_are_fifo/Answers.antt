use Rattle.cc_runs.proofs.ListRuns.Laws.{history_is_fifo}
use Rattle.cc_runs.proofs.list_laws.histories_are_fifo.Goals as goal

pub returns : goal.returns
returns c = history_is_fifo
