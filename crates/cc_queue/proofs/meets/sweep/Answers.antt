use Rattle.cc_queue.proofs.Meetings.{sweeps_none, sweeps_on, swept}
use Rattle.cc_queue.proofs.meets.sweep.Goals as goal

pub loop-other-init : goal.loop-other-init
loop-other-init g c = sweeps_none _ _ _ c.requires.may.still c.is_sound.ensures

pub loop-other-preserved : goal.loop-other-preserved
loop-other-preserved g c =
    let m = c.meet_seat.ensures in
    sweeps_on g.P.Meets.walk _ _ _ _ _ _ c.other-item.result _ c.requires.may.still c.loop-other.invariant c.loop-other-test.true c.loop-other.auto.others m.one m.met m.seen m.longest

pub returns : goal.returns
returns g c = swept _ _ _ _ _ _ c.loop-other.invariant c.loop-other-test.false c.loop-other.auto.others
