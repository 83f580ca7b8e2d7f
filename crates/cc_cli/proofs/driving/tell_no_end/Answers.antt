use Rattle.cc_cli.specs.Drive.{line_of}
use Rattle.cc_cli.proofs.driving.tell_no_end.Goals as goal

pub returns-in-NoMemory-clause-status : goal.returns-in-NoMemory-clause-status
returns-in-NoMemory-clause-status g c = rw c.in-NoMemory.is c.out_of_memory.ensures.status

pub returns-in-NoMemory-clause-told : goal.returns-in-NoMemory-clause-told
unfolding line_of
returns-in-NoMemory-clause-told g c = rw c.in-NoMemory.is c.out_of_memory.ensures.told

pub returns-in-Thread-clause-status : goal.returns-in-Thread-clause-status
returns-in-Thread-clause-status g c = rw c.in-Thread.is c.told.ensures.status

pub returns-in-Thread-clause-told : goal.returns-in-Thread-clause-told
unfolding line_of
returns-in-Thread-clause-told g c = rw c.in-Thread.is c.told.ensures.told
