use Rattle.std.proofs.Common.{rules}
use Rattle.cc_switch.proofs.Standing.{takes_stand}
use Rattle.cc_switch.proofs.position.RowReceiver.is_sound.Goals as goal

pub returns : goal.returns
returns c = takes_stand c.args.self.now (search rules) (search rules) (search rules) (search rules) (search rules)
