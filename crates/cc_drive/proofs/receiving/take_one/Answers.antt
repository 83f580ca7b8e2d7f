use Rattle.cc_drive.proofs.Counted.{take_completed}
use Rattle.cc_drive.proofs.receiving.take_one.Goals as goal

pub returns-clause-taken : goal.returns-clause-taken
returns-clause-taken g c = take_completed _ _ _ _ _ _ _ c.answer_within.result c.begin_take-pending.ensures c.answer_within.ensures.back
