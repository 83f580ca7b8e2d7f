use Rattle.cc_log.proofs.Part.{parts_have_no_fault}
use Rattle.cc_log.proofs.clauses.parts_have_no_fault.Goals as goal

pub returns : goal.returns
returns c = parts_have_no_fault
