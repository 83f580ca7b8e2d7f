use Rattle.std.proofs.Common.{refl, arith}
use Rattle.std.proofs.lemmas.Option.{slice_get-get_or}
use Rattle.cc_judge.proofs.Trials.{parts_finer, parts_more}
use Rattle.cc_judge.proofs.exploring.are_in_parts.Goals as goal

pub loop-place-preserved : goal.loop-place-preserved
loop-place-preserved c =
    let place = c.loop-place.place in
    let test = c.loop-place-test.true in
    let long = c.if-calls-cut.false in
    parts_more c.args.first c.args.parts c.args.calls.now c.args.cut.now place _ _ (slice_get-get_or c.args.calls.now place _ test) (slice_get-get_or c.args.cut.now place _ (omega (arith, test, long))) (c.if-not-is_in_parts.ensures refl) c.loop-place.invariant

pub returns : goal.returns
returns c = λ so. let test = c.loop-place-test.false in parts_finer c.args.first c.args.parts c.requires c.args.calls.now c.args.cut.now c.if-calls-cut.false (λ k x d less. c.loop-place.invariant k x d (omega (arith, test, less)))
