use Rattle.std.proofs.Common.{rules, ◌++◌, ap}
use Rattle.cc_plan.specs.Calls.{calls_in}
use Rattle.cc_plan.proofs.Copied.{first_more}
use Rattle.cc_plan.proofs.plan.calls.Calls.to_vec.Goals as goal

pub loop-list-init : goal.loop-list-init
loop-list-init c = record { left = calls_in c.args.self.now; whole = ap (λ l. l ++ calls_in c.args.self.now) c.new-list.ensures.items }

pub loop-list-preserved : goal.loop-list-preserved
loop-list-preserved c = first_more c.loop-list.list.items _ (calls_in c.args.self.now) c.at.result c.loop-list.invariant (search rules) (let at = c.at.ensures in search rules) c.in_ok-push.ensures.items
