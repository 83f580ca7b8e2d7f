use Rattle.std.proofs.Common.{List, ap, sym, ◌∙◌}
use Rattle.std.specs.List.{slice_get}
use Rattle.std.proofs.lemmas.Option.{slice_get-get_or}
use Rattle.cc_judge.specs.Names.{Spell}
use Rattle.cc_judge.proofs.Sweeping.{latest_more}
use Rattle.cc_judge.proofs.lists.latest_of.Goals as goal

pub loop-spell-preserved : goal.loop-spell-preserved
loop-spell-preserved c =
    let xs = c.deref-spell-items.result.now in
    let at = c.loop-spell.spell-index in
    rw c.in_ok-push.ensures.items (latest_more c.args.spells.now.items c.loop-spell.latest.items c.loop-spell.best at _ c.later-spell.result (ap (λ (l : List Spell). slice_get l at) (sym c.deref-spell-items.ensures.value) ∙ slice_get-get_or xs at _ c.loop-spell-test.true) c.later-spell.ensures c.loop-spell.invariant)
