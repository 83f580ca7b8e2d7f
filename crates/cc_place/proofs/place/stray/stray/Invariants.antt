use Rattle.std.proofs.Common.{length}
use Rattle.cc_place.proofs.place.stray.stray.Given as goal

abbrev pub decreases-tokens : goal.decreases-tokens
decreases-tokens l = length l.reader
