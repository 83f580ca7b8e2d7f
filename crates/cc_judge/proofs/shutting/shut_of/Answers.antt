use Rattle.std.proofs.Common.{refl}
use Rattle.cc_judge.proofs.Sweeping.{shut_skip, shut_more, shut_end}
use Rattle.cc_judge.proofs.shutting.shut_of.Goals as goal
use Rattle.cc_judge.proofs.shutting.shut_of.Goals.{in-Some, in_default}

pub loop-place-preserved : goal.loop-place-preserved
loop-place-preserved c =
    elim c.match-shown_at.branch [
      | in-Some w ↦ rw w.first-is (shut_more c.args.calls.now c.loop-place.first c.loop-place.place (record { call = c.loop-place.place; time = w.in-Some.time }) w.sooner.result refl w.in-Some.ensures.closed w.in-Some.ensures.ended w.sooner.ensures c.loop-place.invariant)
      | in_default w ↦ rw w.first-is (shut_skip c.args.calls.now c.loop-place.first c.loop-place.place w.in_default.ensures.others c.loop-place.invariant)
    ]

pub returns : goal.returns
returns c = shut_end c.args.rules.now c.args.calls.now c.loop-place.first c.loop-place.place c.if-not-rules.false c.loop-place-test.false c.loop-place.invariant
