use Rattle.std.proofs.Common.{rules}
use Rattle.cc_drive.proofs.calls.answer_within.Goals as goal

pub returns-else-pass-clause-stopped : goal.returns-else-pass-clause-stopped
returns-else-pass-clause-stopped g c = (g.P.Pending.told c.in-Ok.told, search rules)
