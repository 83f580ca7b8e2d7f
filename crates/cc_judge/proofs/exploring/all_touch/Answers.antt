use Rattle.std.proofs.Common.{refl, arith}
use Rattle.std.proofs.lemmas.Option.{slice_get-get_or, slice_get_within}
use Rattle.cc_judge.proofs.Trials.{touch_more}
use Rattle.cc_judge.proofs.exploring.all_touch.Goals as goal

pub loop-tie-preserved : goal.loop-tie-preserved
loop-tie-preserved c = touch_more c.args.calls.now c.args.ties.now c.loop-tie.tie-index _ (slice_get-get_or c.args.ties.now c.loop-tie.tie-index _ c.loop-tie-test.true) (c.if-not-does_touch.ensures.touch refl) c.loop-tie.invariant

pub returns-clause-touch : goal.returns-clause-touch
returns-clause-touch c = λ so i tie is. let less = slice_get_within c.args.ties.now i tie is in let test = c.loop-tie-test.false in c.loop-tie.invariant i tie (omega (arith, less, test)) is
