use Rattle.std.proofs.Common.{length}
use Rattle.cc_place.proofs.place.walk.last_with.Given as goal

abbrev pub decreases-members : goal.decreases-members
decreases-members l = length l.reader
