use Rattle.std.proofs.Common.{ap, true, false}
use Rattle.std.specs.List.{list_all}
use Rattle.cc_plan.proofs.Trees.{key_decides, keys_viewed}
use Rattle.cc_plan.proofs.tree.has_known_keys.Goals as goal

pub loop-key-init : goal.loop-key-init
loop-key-init g c = λ known told. rw (c.into_iter-key-iterator.ensures.into_iter_gives, c.keys-key-items.ensures.rest) (ap (list_all known) (keys_viewed c.args.members.now.entries))

pub returns-then-not-is_known : goal.returns-then-not-is_known
returns-then-not-is_known g c = λ known told.
    key_decides known c.loop-key.key-iterator c.next.new.self c.in-Some.key.now false _ c.in-Some.ensures.steps
    (told _ false (record { shown = c.as_str.result; shows = c.as_str.ensures.value; says = record { met = c.if-not-is_known.ensures } }))
    (c.loop-key.invariant known told)

pub loop-key-preserved : goal.loop-key-preserved
loop-key-preserved g c = λ known told.
    key_decides known c.loop-key.key-iterator c.next.new.self c.in-Some.key.now true _ c.in-Some.ensures.steps
    (told _ true (record { shown = c.as_str.result; shows = c.as_str.ensures.value; says = record { met = c.if-not-is_known.ensures } }))
    (c.loop-key.invariant known told)
