use Rattle.std.proofs.Common.{length}
use Rattle.cc_judge.specs.Room.{Remains}
use Rattle.cc_judge.proofs.Counting.{all_more, all_of, all_skip}
use Rattle.cc_judge.proofs.Crowding.{within}
use Rattle.cc_judge.proofs.overfull.remaining.Goals as goal
use Rattle.cc_judge.proofs.overfull.remaining.Goals.{then-remains+in_ok-push, else-remains}

pub loop-send-preserved : goal.loop-send-preserved
loop-send-preserved c =
    let remains = Remains c.args.calls.now c.args.time c.args.left in
    elim c.if-remains.branch [
      | then-remains+in_ok-push w ↦ rw w.sends-is (rw w.in_ok-push.ensures.items (all_more remains c.loop-send.sends.items c.loop-send.send c.loop-send.invariant (rw w.if-remains.true at c.remains.ensures)))
      | else-remains w ↦ rw w.sends-is (all_skip remains c.loop-send.sends.items c.loop-send.send c.loop-send.invariant (rw w.if-remains.false at c.remains.ensures))
    ]

pub returns : goal.returns
returns c = all_of (Remains c.args.calls.now c.args.time c.args.left) c.loop-send.sends.items c.loop-send.send c.loop-send.invariant (length c.args.calls.now) c.loop-send-test.false (within c.args.calls.now c.args.time c.args.left)
