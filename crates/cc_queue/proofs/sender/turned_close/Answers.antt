use Rattle.std.proofs.Common.{refl}
use Rattle.cc_queue.proofs.Headline.{waited_so, answered_so, close_told}
use Rattle.cc_queue.proofs.sender.turned_close.Goals as goal

pub close_answer-requires : goal.close_answer-requires
close_answer-requires c = close_told c.args.at.now.seat _ _ c.requires.pending.0.list c.is_sound.ensures c.in-Some.ensures.done.works.worked c.in-Some.ensures.told c.requires.pending.1

pub returns-in-None-clause-turned : goal.returns-in-None-clause-turned
returns-in-None-clause-turned c = waited_so _ _ _ _ _ refl c.requires.pending.0.list c.requires.pending.0.stand c.is_sound.ensures c.in-None.ensures.waits

pub returns-in-Some-clause-turned : goal.returns-in-Some-clause-turned
returns-in-Some-clause-turned c =
    let e = c.in-Some.ensures in
    rw (← c.close_answer.ensures) (answered_so _ _ _ _ _ refl c.requires.pending.0.list c.is_sound.ensures e.done e.told)
