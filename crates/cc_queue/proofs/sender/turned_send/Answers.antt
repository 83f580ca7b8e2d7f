use Rattle.std.proofs.Common.{refl}
use Rattle.cc_queue.proofs.Headline.{waited_so, answered_so, send_told}
use Rattle.cc_queue.proofs.sender.turned_send.Goals as goal

pub send_answer-requires : goal.send_answer-requires
send_answer-requires c = send_told c.args.at.now.seat _ _ c.requires.pending.0.list c.is_sound.ensures c.in-Some.ensures.done.works.worked c.in-Some.ensures.told c.requires.pending.1

pub returns-in-None-clause-turned : goal.returns-in-None-clause-turned
returns-in-None-clause-turned c = waited_so _ _ _ _ _ refl c.requires.pending.0.list c.requires.pending.0.stand c.is_sound.ensures c.in-None.ensures.waits

pub returns-in-Some-clause-turned : goal.returns-in-Some-clause-turned
returns-in-Some-clause-turned c =
    let e = c.in-Some.ensures in
    rw (← c.send_answer.ensures) (answered_so _ _ _ _ _ refl c.requires.pending.0.list c.is_sound.ensures e.done e.told)
