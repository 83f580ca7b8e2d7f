use Rattle.std.proofs.Common.{◌≤◌, ◌+◌, ◌*◌}
use Rattle.cc_steps.specs.Walk.{IsReadyToStep}
use Rattle.cc_queue.specs.Work.{Serves, scan_phase}
use Rattle.cc_queue.proofs.sends.look_by_four.Given as goal

abbrev pub invariant-loop-round : goal.invariant-loop-round
invariant-loop-round l =
    Serves l.fn.seat (scan_phase l.fn.seat.setting.config l.fn._job l.fn._parcel (l.fn.first + 4 * l.round) (l.fn._looked + 4 * l.round)) (4 * l.round) l.seat × IsReadyToStep l.seat × (4 * l.round ≤ l.fn.count)
