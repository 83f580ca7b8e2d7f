use Rattle.cc_queue.proofs.Heeded.{turns_complete}
use Rattle.cc_queue.proofs.notes.turns_complete.Goals as goal

pub returns : goal.returns
returns c = turns_complete
