use Rattle.std.proofs.Common.{ℕ}
use Rattle.cc_x86.proofs.Quiet.{fenced_stores_are_orderly}
use Rattle.cc_x86.proofs.laws.fenced_stores_are_orderly.Goals as goal

pub returns : goal.returns
returns c = fenced_stores_are_orderly ℕ ℕ
