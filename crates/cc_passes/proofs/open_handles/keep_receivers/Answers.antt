use Rattle.std.proofs.Common.{◌+◌, ◌<◌, length, ap, ◌∙◌, arith}
use Rattle.cc_queue.proofs.Seated.{other_seats}
use Rattle.cc_queue.specs.InPlace.{ReceiverHeld}
use Rattle.cc_passes.specs.Names.{AnyPass}
use Rattle.cc_passes.specs.Passes.{receiver_as, holding}
use Rattle.cc_passes.proofs.Filling.{next_held}
use Rattle.cc_passes.proofs.open_handles.keep_receivers.Goals as goal

pub loop-row-preserved : goal.loop-row-preserved
loop-row-preserved c =
    let z = c.args.queue.now in let row = c.loop-row in let before = row.invariant in
    let some : 0 < length row.receivers.items = omega (arith, c.loop-row-test.true, c.len-row-end.ensures, before.0.0) in (
      (omega (arith, c.remove.ensures.len, before.0.0), omega (arith, c.in_ok-push.ensures.len, before.0.1)),
      other_seats z (c.args._first + row._row) (c.args._first + (row._row + 1)) row.receivers.items c.remove.new.self.items (omega arith) some before.1 c.remove.ensures.items,
      next_held (λ b. b.value) AnyPass.Receiver c.args.words z c.args._first (c.args._first + row._row) row.receivers.items row.all.items c.push.new.self.items c.remove.result c.in_ok-held.field-0 some before.1 c.remove.ensures.value (c.in_ok-held.ensures ∙ ap (λ (h : ReceiverHeld). holding c.args.words (receiver_as h)) c.of.ensures)
          (omega (arith, before.0.1)) before.2 c.in_ok-push.ensures.items,
    )
