use Rattle.std.proofs.Common.{ℕ}
use Rattle.cc_x86.proofs.Buffers.{buffers_are_not_seen}
use Rattle.cc_x86.proofs.laws.buffers_are_not_seen.Goals as goal

pub returns : goal.returns
returns c = buffers_are_not_seen ℕ ℕ
