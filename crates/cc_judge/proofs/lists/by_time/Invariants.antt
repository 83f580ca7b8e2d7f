use Rattle.cc_judge.specs.Counts.{Since}
use Rattle.cc_judge.specs.Names.{Rules}
use Rattle.cc_judge.specs.Room.{IsKnown}
use Rattle.cc_judge.specs.Sweeps.{IsShutAt}
use Rattle.cc_judge.proofs.Listing.{ListTo}
use Rattle.cc_judge.proofs.lists.by_time.Given as goal

abbrev pub invariant-loop-place : goal.invariant-loop-place
invariant-loop-place l = (rules : Rules) → IsShutAt rules l.calls l.shut → ListTo (Since (IsKnown rules l.calls l.what)) l.list.items l.place
