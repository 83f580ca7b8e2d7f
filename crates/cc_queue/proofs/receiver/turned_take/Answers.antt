use Rattle.std.proofs.Common.{refl}
use Rattle.cc_queue.proofs.Headline.{waited_so, answered_so}
use Rattle.cc_queue.proofs.receiver.turned_take.Goals as goal

pub returns-in-None-clause-turned : goal.returns-in-None-clause-turned
returns-in-None-clause-turned c = waited_so _ _ _ _ _ refl c.requires.pending.list c.requires.pending.stand c.is_sound.ensures c.in-None.ensures.waits

pub returns-in-Some-clause-turned : goal.returns-in-Some-clause-turned
returns-in-Some-clause-turned c =
    let e = c.in-Some.ensures in
    answered_so _ _ _ _ _ refl c.requires.pending.list c.is_sound.ensures e.done e.told
