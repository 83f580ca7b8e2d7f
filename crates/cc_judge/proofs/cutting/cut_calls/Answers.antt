use Rattle.std.proofs.Common.{Some, sym, ap, ◌∙◌, arith}
use Rattle.std.proofs.lemmas.Option.{slice_get-get_or}
use Rattle.cc_judge.specs.Cuts.{CutCall}
use Rattle.cc_judge.proofs.Parts.{cut_so, each_more, are_each}
use Rattle.cc_judge.proofs.cutting.cut_calls.Goals as goal

pub loop-place-preserved : goal.loop-place-preserved
loop-place-preserved c =
    let place = c.loop-place.place in
    let test = c.loop-place-test.true in
    let long = c.in_ok-earlier.ensures.long in
    let too = c.in_ok-later.ensures.long in
    let early = slice_get-get_or c.in_ok-earlier.earlier.items place c.index.result.now (omega (arith, test, long)) ∙ ap Some (sym c.index.ensures) in
    let late = slice_get-get_or c.in_ok-later.later.items place c.index-in-loop-place.result.now (omega (arith, test, too)) ∙ ap Some (sym c.index-in-loop-place.ensures) in
    rw c.in_ok-push.ensures.items (each_more (CutCall c.args.ties.now) c.args.calls.now c.loop-place.cut.items place _ c.cut_call.result (slice_get-get_or c.args.calls.now place _ c.loop-place-test.true) (cut_so c.args.ties.now place c.in_ok-earlier.earlier.items c.in_ok-later.later.items _ _ _ _ c.in_ok-earlier.ensures.marked c.in_ok-later.ensures.marked early late c.cut_call.ensures) c.loop-place.invariant)

pub returns : goal.returns
returns c =
    let test = c.loop-place-test.false in
    let end = c.loop-place.auto.place-end in
    are_each (CutCall c.args.ties.now) c.args.calls.now c.loop-place.cut.items c.loop-place.place (omega (arith, test, end)) c.loop-place.invariant
