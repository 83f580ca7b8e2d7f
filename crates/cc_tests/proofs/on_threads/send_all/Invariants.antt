use Rattle.std.specs.Prelude.{true}
use Rattle.cc_queue.specs.Headline.{name}
use Rattle.cc_queue.specs.Receipts.{sent}
use Rattle.cc_drive.proofs.Workers.{Working}
use Rattle.cc_tests.proofs.on_threads.send_all.Given as goal

abbrev pub invariant-loop-item : goal.invariant-loop-item
invariant-loop-item g l = Working sent l.fn.queue l.fn.sender.number (name l.fn.sender) l.sender true l.receipts.items
