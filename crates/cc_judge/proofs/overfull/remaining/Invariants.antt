use Rattle.cc_judge.specs.Room.{Remains}
use Rattle.cc_judge.proofs.Counting.{AllTo}
use Rattle.cc_judge.proofs.overfull.remaining.Given as goal

abbrev pub invariant-loop-send : goal.invariant-loop-send
invariant-loop-send l = AllTo (Remains l.calls l.time l.left) l.sends.items l.send
