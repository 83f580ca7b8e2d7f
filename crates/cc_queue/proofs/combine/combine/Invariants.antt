use Rattle.std.proofs.Common.{◌≤◌}
use Rattle.cc_queue.specs.Work.{Works, combined, round_phase}
use Rattle.cc_queue.proofs.combine.combine.Given as goal

abbrev pub invariant-loop-served : goal.invariant-loop-served
invariant-loop-served l = Works l.fn.seat (round_phase l.fn.seat.setting.config.bound l.at l.served) (combined l.fn.seat.setting.config l.served 0) l.seat × (l.served ≤ l.fn.seat.setting.config.bound)
