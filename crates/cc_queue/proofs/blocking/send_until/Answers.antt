use Rattle.std.proofs.Common.{arith}
use Rattle.cc_queue.proofs.Trying.{trying_more, sent_so, final_unless, might_before}
use Rattle.cc_queue.proofs.blocking.send_until.Goals as goal

pub returns-in_default-clause-sent : goal.returns-in_default-clause-sent
returns-in_default-clause-sent g c = sent_so _ _ _ _ _ c.loop.invariant.0 c.in_ok-after.ensures.completed (final_unless _ c.in_default.not-Full)

pub returns-in_default-clause-may : goal.returns-in_default-clause-may
returns-in_default-clause-may g c = might_before _ _ c.loop.invariant.1 c.in_ok-after.ensures.may

pub loop-preserved : goal.loop-preserved
loop-preserved g c =
    let e = c.in_ok-after.ensures in
    let may = might_before c.args.sender c.loop.sender c.loop.invariant.1 e.may in
    (trying_more _ _ _ _ _ c.loop.invariant.0 (rw c.in-Full.is at e.completed), λ worn. absurd (omega (arith, worn, may)))
