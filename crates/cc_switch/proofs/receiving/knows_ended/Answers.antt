use Rattle.cc_switch.proofs.Ends.{knows_ended}
use Rattle.cc_switch.proofs.receiving.knows_ended.Goals as goal

pub returns : goal.returns
returns c = knows_ended c.args._group c.args._queue.now c.args.receiver.now c.args._total c.requires.here
    c.requires.ranked
    c.is_sound.ensures.rest.stands c.requires.ended
