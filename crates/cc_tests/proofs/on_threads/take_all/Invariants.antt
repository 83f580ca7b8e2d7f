use Rattle.std.specs.Prelude.{true}
use Rattle.cc_queue.specs.Headline.{name}
use Rattle.cc_queue.specs.Receipts.{got}
use Rattle.cc_drive.proofs.Workers.{Working}
use Rattle.cc_tests.proofs.on_threads.take_all.Given as goal

abbrev pub invariant-loop : goal.invariant-loop
invariant-loop g l = Working got l.fn.queue l.fn.receiver.number (name l.fn.receiver) l.receiver true l.receipts.items
