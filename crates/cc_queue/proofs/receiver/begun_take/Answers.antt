use Rattle.std.proofs.Common.{refl}
use Rattle.cc_queue.proofs.Headline.{begun_so}
use Rattle.cc_queue.proofs.receiver.begun_take.Goals as goal

pub returns-clause-begun : goal.returns-clause-begun
returns-clause-begun c = begun_so _ _ _ _ _ refl c.requires.idle.list c.is_sound.ensures c.begin_take-at.ensures.entered c.begin_take-at.ensures.pending
