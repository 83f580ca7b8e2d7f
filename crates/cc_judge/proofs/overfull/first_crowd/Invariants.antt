use Rattle.std.proofs.Common.{◌≡◌, ◌<◌, ℕ, List, Some}
use Rattle.std.specs.List.{slice_get}
use Rattle.cc_judge.specs.Faults.{MoreAt}
use Rattle.cc_judge.specs.Names.{Call, Rules}
use Rattle.cc_judge.specs.Room.{AreHeld}
use Rattle.cc_judge.proofs.overfull.first_crowd.Given as goal

-- at the end of no send so far
abbrev pub invariant-loop-at : goal.invariant-loop-at
invariant-loop-at l = (k time send : ℕ) → k < l.at → slice_get l.held.sent.items k ≡ Some (time, send) → (rules : Rules) (calls : List Call) → AreHeld rules calls l.held → (sends : List ℕ) → MoreAt calls sends l.number time → ⊥
