use Rattle.std.proofs.Common.{◌<◌, ◌+◌, arith, refl}
use Rattle.cc_queue.specs.Names.{Kind}
use Rattle.cc_queue.proofs.Scan.{finds_free, looks_further, looks_here}
use Rattle.cc_queue.proofs.Service.{can_step, own_config, serves_most}
use Rattle.cc_queue.proofs.sends.look.Goals as goal

pub read_passed-requires-clause-at : goal.read_passed-requires-clause-at
read_passed-requires-clause-at c =
    let low : c.args.first + c.loop-passed.passed < c.args.seat.now.setting.config.capacity + 1 = omega (arith, c.requires.within, c.loop-passed-test.true) in
    let below : c.args._looked + c.loop-passed.passed < c.args.seat.now.setting.config.capacity + 1 = omega (arith, c.requires.few, c.loop-passed-test.true) in
    can_step c.args.seat.now c.loop-passed.seat _ Kind.ReadPassed _ (looks_here c.args.seat.now c.loop-passed.seat c.args._job c.args._parcel _ _ _ low below c.loop-passed.invariant.0).worked refl refl

pub returns-then-read_passed-groups-clause-free : goal.returns-then-read_passed-groups-clause-free
returns-then-read_passed-groups-clause-free c less =
    let look = c.read_passed.ensures in
    let own = own_config _ c.args.seat.now _ c.requires.here.here c.config.ensures.config in
    let low : c.args.first + c.loop-passed.passed < c.args.seat.now.setting.config.capacity + 1 = omega (arith, c.requires.within, less) in
    let below : c.args._looked + c.loop-passed.passed < c.args.seat.now.setting.config.capacity + 1 = omega (arith, c.requires.few, less) in
    serves_most _ _ _ _ _ (finds_free c.args.seat.now c.loop-passed.seat c.args._job c.args._parcel _ _ _ low below c.loop-passed.invariant.0 _ _ look.step look.later (rw own at c.if-read_passed-groups.true)) (omega (arith, less))

pub loop-passed-preserved : goal.loop-passed-preserved
loop-passed-preserved c =
    let look = c.read_passed.ensures in
    let own = own_config _ c.args.seat.now _ c.requires.here.here c.config.ensures.config in
    let low : c.args.first + c.loop-passed.passed < c.args.seat.now.setting.config.capacity + 1 = omega (arith, c.requires.within, c.loop-passed-test.true) in
    let below : c.args._looked + c.loop-passed.passed < c.args.seat.now.setting.config.capacity + 1 = omega (arith, c.requires.few, c.loop-passed-test.true) in
    (looks_further c.args.seat.now c.loop-passed.seat c.args._job c.args._parcel _ _ _ low below c.loop-passed.invariant.0 _ _ look.step look.later (c.args.first + (c.loop-passed.passed + 1)) (c.args._looked + (c.loop-passed.passed + 1)) (c.loop-passed.passed + 1) (omega arith) (omega arith) (omega arith) (rw own at c.if-read_passed-groups.false), look.found.walked.ready, omega (arith, c.loop-passed-test.true))
