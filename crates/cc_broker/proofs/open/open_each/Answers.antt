use Rattle.std.proofs.Common.{refl, arith}
use Rattle.std.proofs.lemmas.List.{take_all}
use Rattle.std.proofs.lemmas.Option.{slice_get-get_or}
use Rattle.std.proofs.lemmas.Result.{err_from_is_err_and}
use Rattle.cc_broker.proofs.Built.{next_name, next_opened, next_valid}
use Rattle.cc_broker.proofs.open.open_each.Goals as goal

pub add-requires : goal.add-requires
add-requires c = record { new = next_name _ _ _ _ _ c.requires.distinct c.loop-place-test.true c.loop-place.invariant.0 }

pub returns-in-Err : goal.returns-in-Err
returns-in-Err c =
    let here = slice_get-get_or c.args.topics.now c.loop-place.place _ c.loop-place-test.true in
    (c.requires.few, c.requires.distinct, record { topic = _; there = here; fault = c.in-Err.ensures; valid = c.loop-place.invariant.1 })

pub loop-place-preserved : goal.loop-place-preserved
loop-place-preserved c = (
  next_opened c.args.topics.now _ _ _ _ _ _ _ (c.in-Ok.topic.senders, c.in-Ok.topic.receivers) c.loop-place-test.true c.loop-place.invariant.0 refl c.in-Ok.ensures c.in_ok-add-in-Ok.ensures.topics c.in_ok-add-in-Ok.ensures.passes,
  next_valid _ _ _ c.loop-place-test.true c.loop-place.invariant.1 c.in-Ok.ensures.valid,
)

pub returns : goal.returns
returns c =
    let whole = take_all c.loop-place.place c.args.topics.now (omega (arith, c.loop-place-test.false)) in
    let so = rw whole at c.loop-place.invariant.0 in
    record { few = c.requires.few; distinct = c.requires.distinct; valid = rw whole at c.loop-place.invariant.1; names_are = so.names_are; settings_are = so.settings_are; passes = so.passes_are }

pub returns-in_err-add-in-Ok : goal.returns-in_err-add-in-Ok
returns-in_err-add-in-Ok c =
    let p = err_from_is_err_and c.from_residual.result c.from_residual.ensures.1 in
    let valid = next_valid _ _ _ c.loop-place-test.true c.loop-place.invariant.1 c.in-Ok.ensures.valid in
    rw (p.1, p.2) (c.requires.few, c.requires.distinct, c.loop-place.place, record { within = c.loop-place-test.true; valid = valid })
