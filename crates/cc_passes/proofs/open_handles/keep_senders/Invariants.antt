use Rattle.std.proofs.Common.{◌≡◌, ◌+◌, length}
use Rattle.cc_steps.specs.Walk.{fresh_from}
use Rattle.cc_passes.specs.Names.{AnyPass}
use Rattle.cc_passes.specs.OpenHandles.{HoldFresh}
use Rattle.cc_passes.proofs.open_handles.keep_senders.Given as goal

abbrev pub invariant-loop-row : goal.invariant-loop-row
invariant-loop-row l =
    ((length l.senders.items + l._row ≡ length l.fn.senders.items) × (length l.all.items ≡ l._row)) × fresh_from l.fn.queue l._row l.senders.items × HoldFresh l.all.items (λ b. b.value) AnyPass.Sender l.fn.words l.fn.queue 0
