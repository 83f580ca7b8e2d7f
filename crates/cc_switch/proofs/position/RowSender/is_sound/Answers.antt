use Rattle.std.proofs.Common.{rules}
use Rattle.cc_switch.proofs.Standing.{sends_stand}
use Rattle.cc_switch.proofs.position.RowSender.is_sound.Goals as goal

pub returns : goal.returns
returns c = sends_stand c.args.self.now (search rules) (search rules)
