use Rattle.std.proofs.Common.{refl, leb-true, ltb-true, ltb-false}
use Rattle.cc_judge.proofs.Crowding.{if_left, not_sent, not_yet, until_gone}
use Rattle.cc_judge.proofs.overfull.remains.Goals as goal

pub returns-in_default : goal.returns-in_default
returns-in_default c = not_sent c.args.calls.now c.args.time c.args.left c.args.send c.in_default.ensures

pub returns-then-end-time : goal.returns-then-end-time
returns-then-end-time c = until_gone c.args.calls.now c.args.time c.args.left c.args.send c.in-Some.end c.in-Some.ensures c.in-Some-gone_since.from _ c.in-Some-gone_since.ensures c.if-end-time.true (ltb-true _ _) (ltb-false _ _)

pub returns-else-end-time : goal.returns-else-end-time
returns-else-end-time c = not_yet c.args.calls.now c.args.time c.args.left c.args.send c.in-Some.end c.in-Some.ensures _ (leb-true _ _) c.if-end-time.false

pub returns-then-end-time-2 : goal.returns-then-end-time-2
returns-then-end-time-2 c = if_left c.args.calls.now c.args.time c.args.left c.args.send c.in-Some.end c.in-Some.ensures c.args.left refl c.in-None.ensures c.if-end-time-2.true

pub returns-else-end-time-2 : goal.returns-else-end-time-2
returns-else-end-time-2 c = not_yet c.args.calls.now c.args.time c.args.left c.args.send c.in-Some.end c.in-Some.ensures _ (leb-true _ _) c.if-end-time-2.false
