use Rattle.std.proofs.Common.{rules}
use Rattle.cc_drive.proofs.Crewed.{driven_legal}
use Rattle.cc_drive.proofs.driver.drive.Goals as goal

pub returns-clause-driven : goal.returns-clause-driven
returns-clause-driven g c = search (rules, driven_legal)
