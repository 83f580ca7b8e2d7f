use Rattle.cc_steps.proofs.StepLaws.{reused}
use Rattle.cc_steps.proofs.steps.reset_list_node.Goals as goal

pub returns-clause-reuse : goal.returns-clause-reuse
returns-clause-reuse c = λ list. reused c.args.seat.now c.store_release.new.seat c.store_release.ensures.walked c.store_release.ensures.step c.args.node c.args.field list c.requires.at
