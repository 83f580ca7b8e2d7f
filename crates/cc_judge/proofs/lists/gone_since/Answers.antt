use Rattle.cc_judge.proofs.Knowing.{gone_at, never_gone}
use Rattle.cc_judge.proofs.Sweeping.{upto_none}
use Rattle.cc_judge.specs.Room.{MayBeGone}
use Rattle.cc_judge.proofs.lists.gone_since.Goals as goal

pub returns-in-Some : goal.returns-in-Some
returns-in-Some c = gone_at c.args.calls.now c.args.place c.in-Send-Some.item (record { call = c.in_ok-call.call; call_is = c.in_ok-call.ensures.some; act_is = c.in-Send-Some.is-0 }) c.in-Some.take c.in-Some.ensures c.in-Send-Some.end c.max.result c.in-Send-Some.is-1 c.max.ensures

pub returns-in-None : goal.returns-in-None
returns-in-None c = upto_none (MayBeGone c.args.calls.now) c.args.place (never_gone c.args.calls.now c.args.place c.in-Send-Some.item (record { call = c.in_ok-call.call; call_is = c.in_ok-call.ensures.some; act_is = c.in-Send-Some.is-0 }) c.in-None.ensures)
