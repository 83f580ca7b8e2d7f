use Rattle.cc_x86.proofs.Threads.{history_is_legal}
use Rattle.cc_x86.proofs.laws.histories_are_legal_on_x86.Goals as goal

pub returns : goal.returns
returns c = history_is_legal c.histories_are_legal.ensures c.answers_are_told.ensures
