use Rattle.std.proofs.Common.{rules, refl, None}
use Rattle.cc_steps.proofs.Walks.{exists_here, stores_here, walked_done}
use Rattle.cc_steps.proofs.operations.store_release.Goals as goal

pub slot-slot-requires-clause-word : goal.slot-slot-requires-clause-word
slot-slot-requires-clause-word c = exists_here _ _ _ _ c.seat.view_is c.seat.invariant c.requires.here None _ c.requires.at.0 c.requires.at.1

pub store-requires : goal.store-requires
store-requires c = (search rules, search rules, stores_here _ _ _ _ c.seat.view_is c.seat.invariant c.requires.here _ c.table.ensures.made _ _ c.requires.at.0 c.requires.at.1 _ _ _ c.slot-slot.ensures.place c.slot-slot.ensures.below _ (λ x. refl))

pub returns : goal.returns
returns c =
    let done = walked_done _ _ _ _ c.seat.invariant _ c.store.ensures.2.1 _ c.store.ensures.0 _ c.seat.view_is _ _ c.requires.at.1 in
    record { walked = done.0; step = done.1 }
