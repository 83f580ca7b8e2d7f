use Rattle.cc_judge.proofs.Knowing.{take_some}
use Rattle.cc_judge.proofs.Sweeping.{untaken_by}
use Rattle.cc_judge.proofs.lists.take_of.Goals as goal

pub returns-in-Some : goal.returns-in-Some
returns-in-Some c = take_some c.args.calls.now c.args.index.now c.args.item c.in-Some.place c.call_at.result c.requires c.in-Some.ensures.some c.call_at.ensures.some c.call_at.ensures.none

pub returns-in-None : goal.returns-in-None
returns-in-None c = untaken_by c.args.calls.now c.args.index.now c.args.item c.requires c.in-None.ensures.none
