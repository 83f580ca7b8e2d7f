use Rattle.cc_queue.proofs.Heeded.{heeded_fresh, sends_fresh, takes_fresh}
use Rattle.cc_queue.proofs.notes.heeded_is_fresh.Goals as goal

pub returns-clause-calls : goal.returns-clause-calls
returns-clause-calls c = heeded_fresh

pub returns-clause-takes : goal.returns-clause-takes
returns-clause-takes c = takes_fresh

pub returns-clause-sends : goal.returns-clause-sends
returns-clause-sends c = sends_fresh
