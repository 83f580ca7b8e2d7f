use Rattle.std.specs.Prelude.{◌≡◌, ◌≤◌, ◌-◌}
use Rattle.cc_drive.specs.Names.{Pass, Point}
use Rattle.cc_drive.specs.Back.{MadeByGate}
use Rattle.cc_queue.specs.Receipts.{got}
use Rattle.cc_drive.proofs.Workers.{Working}
use Rattle.cc_drive.proofs.receiving.take_all.Given as goal

abbrev pub invariant-loop-turns : goal.invariant-loop-turns
invariant-loop-turns g l = ((l.turns.made ≤ l.turns.limit) × (l.turns.limit ≡ l.fn.brief.limit)) × Working got l.fn.queue l.fn.row (Pass.Receiver l.fn.job.number) l.receiver l.kept.is_whole l.kept.receipts.items
    × MadeByGate g.G.Gate.tells Point.TakeBegun Point.TakeAnswered l.turns.made l.receiver l.fn.job.gate l.gate

abbrev pub decreases-loop-turns : goal.decreases-loop-turns
decreases-loop-turns g l = l.turns.limit - l.turns.made
