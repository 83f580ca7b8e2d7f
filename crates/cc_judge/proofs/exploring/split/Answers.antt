use Rattle.std.proofs.Common.{arith}
use Rattle.std.proofs.lemmas.Option.{slice_get-get_or}
use Rattle.cc_judge.specs.Splits.{SplitCall}
use Rattle.cc_judge.proofs.Parts.{each_more, are_each}
use Rattle.cc_judge.proofs.exploring.split.Goals as goal

pub loop-place-preserved : goal.loop-place-preserved
loop-place-preserved c = rw c.in_ok-push.ensures.items (each_more (SplitCall c.args.tie c.args.time) c.args.calls.now c.loop-place.cut.items c.loop-place.place _ c.split_call.result (slice_get-get_or c.args.calls.now c.loop-place.place _ c.loop-place-test.true) c.split_call.ensures c.loop-place.invariant)

pub returns : goal.returns
returns c =
    let test = c.loop-place-test.false in
    let end = c.loop-place.auto.place-end in
    are_each (SplitCall c.args.tie c.args.time) c.args.calls.now c.loop-place.cut.items c.loop-place.place (omega (arith, test, end)) c.loop-place.invariant
