use Rattle.std.proofs.Common.{◌≡◌, ◌+◌, ◌*◌, length}
use Rattle.std.specs.Arc.{arc_value}
use Rattle.cc_steps.specs.Walk.{fresh_from}
use Rattle.cc_queue.proofs.queue.all_receivers.Given as goal

abbrev pub invariant-loop-place : goal.invariant-loop-place
invariant-loop-place l =
    (length l.seats.items + l.place ≡ l.fn.config.groups * l.fn.config.receivers) × fresh_from (arc_value l.fn.words) (l.fn.config.senders + l.place) l.seats.items × (length l.receivers.items ≡ l.place) × fresh_from (arc_value l.fn.words) l.fn.config.senders l.receivers.items
