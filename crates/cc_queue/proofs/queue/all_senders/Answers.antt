use Rattle.std.proofs.Common.{◌<◌, length, refl, ap, arith}
use Rattle.std.proofs.lemmas.List.{length_push}
use Rattle.std.proofs.lemmas.List.Edits.{length-remove}
use Rattle.cc_queue.proofs.Seated.{next_pass, other_seats}
use Rattle.cc_queue.proofs.queue.all_senders.Goals as goal

pub loop-row-preserved : goal.loop-row-preserved
loop-row-preserved c =
    let so = c.loop-row.invariant in
    let seat = c.remove-seat.ensures in
    let some : 0 < length c.loop-row.seats.items = omega (arith, so.0, c.loop-row-test.true) in
    let items = c.in_ok-push.ensures.items in (
      omega (arith, so.0, ap length seat.items, length-remove c.loop-row.seats.items 0 some),
      other_seats _ c.loop-row.row _ c.loop-row.seats.items _ refl some so.1 seat.items,
      omega (arith, so.2, ap length items, length_push c.loop-row.senders.items c.sender_on.result),
      next_pass _ 0 c.loop-row.row c.loop-row.seats.items _ _ c.remove-seat.result c.sender_on.result some so.1 seat.value c.sender_on.ensures (omega (arith, so.2)) so.3 items,
    )
