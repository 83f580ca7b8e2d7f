use Rattle.std.proofs.Common.{ℕ}
use Rattle.cc_x86.proofs.Posted.{posted_stores_are_not_seen}
use Rattle.cc_x86.proofs.laws.posted_stores_are_not_seen.Goals as goal

pub returns : goal.returns
returns c = posted_stores_are_not_seen ℕ ℕ
