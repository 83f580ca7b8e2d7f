use Rattle.std.proofs.Common.{refl}
use Rattle.cc_judge.proofs.Knowing.{taken_at, untaken}
use Rattle.cc_judge.proofs.lists.taken_since.Goals as goal

pub returns-in-Some : goal.returns-in-Some
returns-in-Some c = taken_at c.args.calls.now c.args.place c.in-Send.item (record { call = c.in_ok-call.call; call_is = c.in_ok-call.ensures.some; act_is = c.in-Send.is }) c.in-Some.take c.in-Some.ensures c.in-Some.take.end refl

pub returns-in-None : goal.returns-in-None
returns-in-None c = untaken c.args.calls.now c.args.place c.in-Send.item (record { call = c.in_ok-call.call; call_is = c.in_ok-call.ensures.some; act_is = c.in-Send.is }) c.in-None.ensures
