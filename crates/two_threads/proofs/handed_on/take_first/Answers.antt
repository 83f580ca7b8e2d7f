use Rattle.two_threads.proofs.First.{taken_alone, got_it}
use Rattle.two_threads.proofs.handed_on.take_first.Goals as goal

pub unreachable-requires : goal.unreachable-requires
unreachable-requires g c =
    let t = taken_alone c.args.note c.args.receiver c.take_after-answer.result.0 c.take_after-answer.result.1 c.args.queue.now c.take_after-answer.ensures c.requires.here c.requires.first c.requires.alone c.requires.sent in
    absurd (c.in_default.not-Got t.0 t.1)

pub returns : goal.returns
returns g c =
    got_it c.args.note c.take_after-answer.result.1 c.in-Got.item
    (taken_alone c.args.note c.args.receiver c.take_after-answer.result.0 c.take_after-answer.result.1 c.args.queue.now c.take_after-answer.ensures c.requires.here c.requires.first c.requires.alone c.requires.sent) c.in-Got.is
