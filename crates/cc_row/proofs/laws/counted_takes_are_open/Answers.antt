use Rattle.cc_row.proofs.BoundThreads as threads
use Rattle.cc_row.proofs.laws.counted_takes_are_open.Goals as goal

pub returns : goal.returns
returns c = threads.counted_takes_are_open
