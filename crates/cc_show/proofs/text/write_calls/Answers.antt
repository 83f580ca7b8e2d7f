use Rattle.std.proofs.Common.{arith}
use Rattle.cc_plan.specs.Calls.{calls_in}
use Rattle.cc_report.proofs.Lines.{all}
use Rattle.cc_show.proofs.Texts.{named_more}
use Rattle.cc_show.proofs.text.write_calls.Goals as goal

pub loop-place-preserved : goal.loop-place-preserved
loop-place-preserved g c =
    named_more _ (calls_in c.args.calls.now) _ _ _ c.loop-place.place _ (grind arith) c.at.ensures c.loop-place.invariant c.write_call.ensures

pub returns : goal.returns
returns g c = all _ (calls_in c.args.calls.now) _ _ c.loop-place.place (grind arith) c.loop-place.invariant
