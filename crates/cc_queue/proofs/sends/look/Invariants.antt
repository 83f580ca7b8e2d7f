use Rattle.std.proofs.Common.{◌≤◌, ◌+◌}
use Rattle.cc_steps.specs.Walk.{IsReadyToStep}
use Rattle.cc_queue.specs.Work.{Serves, scan_phase}
use Rattle.cc_queue.proofs.sends.look.Given as goal

abbrev pub invariant-loop-passed : goal.invariant-loop-passed
invariant-loop-passed l =
    Serves l.fn.seat (scan_phase l.fn.seat.setting.config l.fn._job l.fn._parcel (l.fn.first + l.passed) (l.fn._looked + l.passed)) l.passed l.seat × IsReadyToStep l.seat × (l.passed ≤ l.fn.count)
