use Rattle.std.proofs.Common.{◌+◌, ◌<◌, length, ap, arith}
use Rattle.std.proofs.lemmas.List.{length_push}
use Rattle.std.proofs.lemmas.List.Edits.{length-remove}
use Rattle.cc_queue.proofs.Seated.{next_pass, other_seats}
use Rattle.cc_queue.proofs.queue.all_receivers.Goals as goal

pub loop-place-preserved : goal.loop-place-preserved
loop-place-preserved c =
    let so = c.loop-place.invariant in
    let seat = c.remove-seat.ensures in
    let place = c.args.config.now.senders + c.loop-place.place in
    let some : 0 < length c.loop-place.seats.items = omega (arith, so.0, c.loop-place-test.true) in
    let items = c.in_ok-push.ensures.items in (
      omega (arith, so.0, ap length seat.items, length-remove c.loop-place.seats.items 0 some),
      other_seats _ place (c.args.config.now.senders + (c.loop-place.place + 1)) c.loop-place.seats.items _ (omega arith) some so.1 seat.items,
      omega (arith, so.2, ap length items, length_push c.loop-place.receivers.items c.receiver_on.result),
      next_pass _ c.args.config.now.senders place c.loop-place.seats.items _ _ c.remove-seat.result c.receiver_on.result some so.1 seat.value c.receiver_on.ensures (omega (arith, so.2)) so.3 items,
    )
