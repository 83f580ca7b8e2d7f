use Rattle.std.proofs.Common.{rules, ap, ◌∙◌}
use Rattle.cc_steps.proofs.Joined.{glues, weighs_so, some_words}
use Rattle.cc_steps.proofs.notes.is_of_one_run.Goals as goal

pub join_seat-requires : goal.join_seat-requires
join_seat-requires c = rw c.deref.ensures (search rules, search rules, c.note.invariant.bare, some_words _ _ _ c.words.invariant, glues _ _ _ _ _ c.to.invariant.pass c.note.invariant.part)

pub load-requires : goal.load-requires
load-requires c = rw c.deref.ensures (search rules, some_words _ _ _ c.words.invariant, weighs_so _ _ _ _ (ap (λ m. m.0.role) c.join_seat.ensures.2 ∙ c.to.invariant.pass))
