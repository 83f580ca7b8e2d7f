use Rattle.cc_play.specs.Outcome.{line_of}
use Rattle.cc_play.proofs.outcome.tell_fault.Goals as goal

pub returns-in-Plan-clause-status : goal.returns-in-Plan-clause-status
returns-in-Plan-clause-status g c = rw c.in-Plan.is c.refused.ensures.status

pub returns-in-Plan-clause-told : goal.returns-in-Plan-clause-told
unfolding line_of
returns-in-Plan-clause-told g c = rw c.in-Plan.is c.refused.ensures.told

pub returns-in-Read-clause-told : goal.returns-in-Read-clause-told
unfolding line_of
returns-in-Read-clause-told g c = rw c.in-Read.is c.told.ensures.told

pub returns-in-Write-clause-told : goal.returns-in-Write-clause-told
unfolding line_of
returns-in-Write-clause-told g c = rw c.in-Write.is c.told-in-Write.ensures.told

pub returns-in-NoMemory-clause-told : goal.returns-in-NoMemory-clause-told
unfolding line_of
returns-in-NoMemory-clause-told g c = rw c.in-NoMemory.is c.out_of_memory.ensures.told
