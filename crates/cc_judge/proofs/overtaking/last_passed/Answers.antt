use Rattle.std.proofs.Common.{List, ◌≤◌, ap, length, subst, sym, ◌∙◌}
use Rattle.std.specs.List.{slice_get}
use Rattle.std.proofs.lemmas.Option.{slice_get-get_or}
use Rattle.cc_judge.specs.Names.{Spell}
use Rattle.cc_judge.proofs.Judging.{passed_first, passed_more, passed_kept, passed_end}
use Rattle.cc_judge.proofs.overtaking.last_passed.Goals as goal

pub loop-spell-init : goal.loop-spell-init
loop-spell-init c = λ rules calls l spell before later. passed_first rules calls c.args.lists.now.spells.items c.args.begin c.args.end c.args.passed spell before later

pub loop-spell-preserved : goal.loop-spell-preserved
loop-spell-preserved c =
    let at = c.loop-spell.spell-index in
    λ rules calls l spell before later. passed_more rules calls c.args.lists.now c.args.begin c.args.end at c.loop-spell.last _ _ l (ap (λ (ys : List Spell). slice_get ys at) (sym c.deref-spell-items.ensures.value) ∙ slice_get-get_or c.deref-spell-items.result.now at _ c.loop-spell-test.true) c.sent_later-last.ensures.either c.sent_later-last.ensures.most c.sent_later-last.ensures.too (c.loop-spell.invariant rules calls l spell before later)

pub returns-then-last-passed : goal.returns-then-last-passed
returns-then-last-passed c = λ rules calls l spell before later. passed_kept rules calls c.args.lists.now c.args.begin c.args.end c.loop-spell.spell-index c.args.passed c.loop-spell.last spell before later c.if-last-passed.true (subst (λ (ys : List Spell). length ys ≤ c.loop-spell.spell-index) c.deref-spell-items.ensures.value c.loop-spell-test.false) (c.loop-spell.invariant rules calls l spell before later)

pub returns-else-last-passed : goal.returns-else-last-passed
returns-else-last-passed c = λ rules calls l spell before later. passed_end rules calls c.args.lists.now c.args.begin c.args.end c.loop-spell.spell-index c.loop-spell.last (subst (λ (ys : List Spell). length ys ≤ c.loop-spell.spell-index) c.deref-spell-items.ensures.value c.loop-spell-test.false) (c.loop-spell.invariant rules calls l spell before later)
