use Rattle.std.proofs.Common.{◌≡◌, ◌<◌, ap, arith, refl}
use Rattle.cc_queue.specs.Names.{Config}
use Rattle.cc_queue.proofs.Rounds.{found_none, found_one, hands_over, looks, one_round, served_all, served_own}
use Rattle.cc_queue.proofs.Service.{can_step, of_still, own_config}
use Rattle.cc_queue.proofs.combine.combine.Goals as goal

pub loop-served-preserved : goal.loop-served-preserved
loop-served-preserved c =
    let below : c.loop-served.served < c.args.seat.now.setting.config.bound = omega (arith, c.loop-served-test.true, ap (λ (x : Config). x.bound) (own_config _ c.args.seat.now _ c.requires.here.here c.config.ensures.config)) in
    let look = c.read_next-next.ensures in
    (one_round _ _ _ _ _ _ _ _ below c.loop-served.invariant.0 look.step c.serve.ensures c.mark_done.ensures.step look.later c.mark_done.ensures.later, omega (arith, below))

pub read_next-next-requires : goal.read_next-next-requires
read_next-next-requires c =
    let here = c.requires.here in
    let below : c.loop-served.served < c.args.seat.now.setting.config.bound = omega (arith, c.loop-served-test.true, ap (λ (x : Config). x.bound) (own_config _ c.args.seat.now _ here.here c.config.ensures.config)) in
    let at = looks _ _ c.loop-served.seat _ _ here _ _ 0 below c.loop-served.invariant.0 in
    record { here = of_still _ c.args.seat.now _ _ here.here at; at = can_step c.args.seat.now _ _ _ _ at refl (rw here.chain) }

pub serve-requires : goal.serve-requires
serve-requires c =
    let here = c.requires.here in
    let below : c.loop-served.served < c.args.seat.now.setting.config.bound = omega (arith, c.loop-served-test.true, ap (λ (x : Config). x.bound) (own_config _ c.args.seat.now _ here.here c.config.ensures.config)) in
    let at = found_one _ _ _ _ _ here _ _ _ below c.loop-served.invariant.0 c.read_next-next.ensures.step c.if-next-eq0.false in
    record { here = rw at record { here = here.here; list = here.list; chain = here.chain }; chain = c.requires.chain; at = rw at }

pub hand_over-requires : goal.hand_over-requires
hand_over-requires c =
    let here = c.requires.here in
    let below : c.loop-served.served < c.args.seat.now.setting.config.bound = omega (arith, c.loop-served-test.true, ap (λ (x : Config). x.bound) (own_config _ c.args.seat.now _ here.here c.config.ensures.config)) in
    let at = (found_none _ _ _ _ _ here _ _ _ below c.loop-served.invariant.0 c.read_next-next.ensures.step c.if-next-eq0.true c.read_next-next.ensures.later).worked in
    record { here = of_still _ c.args.seat.now _ _ here.here at; at = can_step c.args.seat.now _ _ _ _ at refl (rw here.chain) }

pub returns-then-next-eq0 : goal.returns-then-next-eq0
returns-then-next-eq0 c =
    let i = c.loop-served.invariant in
    let look = c.read_next-next.ensures in
    let below : c.loop-served.served < c.args.seat.now.setting.config.bound = omega (arith, c.loop-served-test.true, ap (λ (x : Config). x.bound) (own_config _ c.args.seat.now _ c.requires.here.here c.config.ensures.config)) in
    let none = found_none _ _ _ _ _ c.requires.here _ _ _ below i.0 look.step c.if-next-eq0.true look.later in
    let there = looks _ _ c.loop-served.seat _ _ c.requires.here _ _ 0 below i.0 in
    record { worked = hands_over _ _ _ c.args.seat.now.setting.config _ _ none c.hand_over.ensures.step c.hand_over.ensures.later; some = served_own _ _ (rw there at look.own) c.if-next-eq0.true; few = i.1 }

pub returns-clause-worked : goal.returns-clause-worked
returns-clause-worked c =
    let own = own_config _ c.args.seat.now _ c.requires.here.here c.config.ensures.config in
    let all : c.loop-served.served ≡ c.args.seat.now.setting.config.bound = omega (arith, c.loop-served-test.false, ap (λ (x : Config). x.bound) own, c.loop-served.invariant.1) in
    rw own (hands_over _ _ _ c.args.seat.now.setting.config _ _ (served_all _ _ c.args.seat.now.setting.config _ _ all c.loop-served.invariant.0) c.hand_over-2.ensures.step c.hand_over-2.ensures.later)
