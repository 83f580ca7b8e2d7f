use Rattle.std.proofs.Common.{◌-◌, ◌<◌, length, Some, sym, ap, ◌∙◌, arith}
use Rattle.std.proofs.lemmas.Option.{slice_get-get_or}
use Rattle.cc_judge.proofs.Parts.{apart_more, not_apart, apart_all}
use Rattle.cc_judge.proofs.cutting.are_apart.Goals as goal

pub returns-then-index-clause-others : goal.returns-then-index-clause-others
returns-then-index-clause-others c =
    let list = c.args.list.now.items in
    let place = c.loop-place.place in
    let least = c.loop-place.auto.place in
    let less : place < length list = let test = c.loop-place-test.true in let len = c.len-place-end.ensures in let is = c.args.list.now.ok.0 in omega (arith, test, len, is) in
    let before : place - 1 < length list = omega (arith, less) in
    λ is apart. not_apart list (place - 1) place (omega (arith, least)) c.index.result.now c.index-in-loop-place.result.now
    (slice_get-get_or list (place - 1) c.index.result.now before ∙ ap Some (sym c.index.ensures))
    (slice_get-get_or list place c.index-in-loop-place.result.now less ∙ ap Some (sym c.index-in-loop-place.ensures))
    c.if-index.true apart

pub loop-place-preserved : goal.loop-place-preserved
loop-place-preserved c =
    let list = c.args.list.now.items in
    let place = c.loop-place.place in
    let least = c.loop-place.auto.place in
    let less : place < length list = let test = c.loop-place-test.true in let len = c.len-place-end.ensures in let is = c.args.list.now.ok.0 in omega (arith, test, len, is) in
    let before : place - 1 < length list = omega (arith, less) in
    apart_more list (place - 1) place (omega (arith, least)) c.index.result.now c.index-in-loop-place.result.now
    (slice_get-get_or list (place - 1) c.index.result.now before ∙ ap Some (sym c.index.ensures))
    (slice_get-get_or list place c.index-in-loop-place.result.now less ∙ ap Some (sym c.index-in-loop-place.ensures))
    c.requires c.if-index.false c.loop-place.invariant

pub returns-clause-apart : goal.returns-clause-apart
returns-clause-apart c =
    let test = c.loop-place-test.false in
    let len = c.len-place-end.ensures in
    let is = c.args.list.now.ok.0 in
    λ yes. apart_all c.args.list.now.items c.loop-place.place (omega (arith, test, len, is)) c.loop-place.invariant
