use Rattle.cc_queue.proofs.Headline.{waits_on, ended_so}
use Rattle.cc_queue.proofs.pending.wait_for_answer.Goals as goal

pub returns-in-Done : goal.returns-in-Done
returns-in-Done g c = ended_so _ (g.P.Pending.call c.loop.pending) (g.P.Pending.pass c.in-Done.pass) _ _ c.loop.invariant c.in-Done.ensures

pub loop-preserved : goal.loop-preserved
loop-preserved g c = waits_on _ (g.P.Pending.call c.loop.pending) (g.P.Pending.call c.in-Waiting.same) c.loop.invariant c.in-Waiting.ensures
