use Rattle.cc_place.proofs.place.walk.trimmed.Given as goal

abbrev pub decreases-loop-end : goal.decreases-loop-end
decreases-loop-end l = l.end
