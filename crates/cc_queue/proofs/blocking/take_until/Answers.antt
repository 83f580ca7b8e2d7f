use Rattle.cc_queue.proofs.Headline.{settled_unless}
use Rattle.cc_queue.proofs.Trying.{trying_none, trying_more, taken_so}
use Rattle.cc_queue.proofs.blocking.take_until.Goals as goal

pub loop-init : goal.loop-init
loop-init g c = trying_none _ _ _ c.is_sound.ensures.met.stands

pub returns-in_default : goal.returns-in_default
returns-in_default g c = taken_so _ _ _ _ c.loop.invariant c.take-after.ensures (settled_unless _ c.in_default.not-Empty)

pub loop-preserved : goal.loop-preserved
loop-preserved g c = trying_more _ _ _ c.loop.receiver _ c.loop.invariant (rw c.in-Empty.is at c.take-after.ensures)
