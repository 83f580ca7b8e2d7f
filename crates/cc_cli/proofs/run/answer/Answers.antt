use Rattle.std.proofs.Common.{rules}
use Rattle.cc_cli.proofs.run.answer.Goals as goal

pub returns : goal.returns
returns g c = let told = c.tell_end.ensures in (c.drive_to-outcome.result, c.drive_to-outcome.ensures, search rules, search rules)
