use Rattle.std.specs.Prelude.{◌≡◌, ◌≤◌, ◌-◌}
use Rattle.cc_drive.specs.Names.{Point}
use Rattle.cc_drive.specs.Back.{MadeByGate}
use Rattle.cc_drive.proofs.Workers.{Sending}
use Rattle.cc_drive.proofs.sending.send_all.Given as goal

abbrev pub invariant-loop-accepted : goal.invariant-loop-accepted
invariant-loop-accepted g l =
    ((l.turns.made ≤ l.turns.limit) × (l.turns.limit ≡ l.fn.brief.limit) × (l.begun ≡ l.sender.stand.begun) × (l.begun ≤ l.turns.made) × (l.accepted ≤ l.fn.brief.items))
    × Sending l.fn.queue l.fn.row l.fn.job.number l.sender l.kept.is_whole l.kept.receipts.items l.accepted
    × MadeByGate g.G.Gate.tells Point.SendBegun Point.SendAnswered l.turns.made l.sender l.fn.job.gate l.gate

abbrev pub decreases-loop-accepted : goal.decreases-loop-accepted
decreases-loop-accepted g l = l.turns.limit - l.turns.made
