use Rattle.cc_judge.proofs.Sweeping.{spell_found, spell_untaken}
use Rattle.cc_judge.proofs.lists.spell_at.Goals as goal

pub returns-in-Some : goal.returns-in-Some
returns-in-Some c = λ log written at. spell_found log c.args.calls.now c.args.index.now c.args.shut c.args.send c.in-Send.item c.in-Some.take c.in_ok-call.call c.done_by.result c.spell_of.result c.requires written at c.in_ok-call.ensures.some c.in-Send.is c.in-Some.ensures.some c.done_by.ensures c.spell_of.ensures

pub returns-in-None : goal.returns-in-None
returns-in-None c = λ log written at. spell_untaken log c.args.calls.now c.args.index.now c.args.send c.in-Send.item c.in_ok-call.call c.requires c.in_ok-call.ensures.some c.in-Send.is c.in-None.ensures.none
