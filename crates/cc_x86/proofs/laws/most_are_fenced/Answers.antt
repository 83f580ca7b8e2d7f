use Rattle.std.proofs.Common.{ℕ}
use Rattle.cc_x86.proofs.Buffers.{most_are_fenced}
use Rattle.cc_x86.proofs.laws.most_are_fenced.Goals as goal

pub returns : goal.returns
returns c = most_are_fenced ℕ ℕ
