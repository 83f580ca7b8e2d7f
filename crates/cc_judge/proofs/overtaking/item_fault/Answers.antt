use Rattle.std.proofs.Common.{refl}
use Rattle.cc_judge.proofs.Sweeping.{returned_take, passed_by}
use Rattle.cc_judge.proofs.overtaking.item_fault.Goals as goal

pub returns-in-None-clause-some : goal.returns-in-None-clause-some
returns-in-None-clause-some c = λ log. record {
  item = c.args.item;
  took = returned_take c.args.calls.now c.args.take c.args.item c.requires.written c.requires.took;
  none = λ i sent. c.in-None.ensures.none i (c.requires.index.sends.all i c.args.item sent);
}

pub returns-in-Some-clause-some : goal.returns-in-Some-clause-some
returns-in-Some-clause-some c = λ log. record {
  passed = passed_by c.args.calls.now c.in-Some.send c.args.take c.args.item c.requires.written (c.requires.index.sends.each c.in-Some.send c.args.item c.in-Some.ensures.some) c.requires.took;
  early = c.if-ends_before.ensures.before refl;
}
