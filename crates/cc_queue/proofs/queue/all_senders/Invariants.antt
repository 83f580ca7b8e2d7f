use Rattle.std.proofs.Common.{◌≡◌, ◌+◌, length}
use Rattle.std.specs.Arc.{arc_value}
use Rattle.cc_steps.specs.Walk.{fresh_from}
use Rattle.cc_queue.proofs.queue.all_senders.Given as goal

abbrev pub invariant-loop-row : goal.invariant-loop-row
invariant-loop-row l =
    (length l.seats.items + l.row ≡ l.fn.config.senders) × fresh_from (arc_value l.fn.words) l.row l.seats.items × (length l.senders.items ≡ l.row) × fresh_from (arc_value l.fn.words) 0 l.senders.items
