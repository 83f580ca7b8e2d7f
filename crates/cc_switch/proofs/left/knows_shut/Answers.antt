use Rattle.cc_switch.proofs.Closed.{knows_shut}
use Rattle.cc_switch.proofs.left.knows_shut.Goals as goal

pub returns : goal.returns
returns c = knows_shut c.args._queue.now c.args.sender.now c.args._total c.requires.here c.is_sound.ensures.rest.stands
    c.requires.closed
