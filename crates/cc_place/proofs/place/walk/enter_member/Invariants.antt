use Rattle.cc_place.proofs.place.walk.enter_member.Given as goal

abbrev pub decreases-loop-left : goal.decreases-loop-left
decreases-loop-left l = l.left
