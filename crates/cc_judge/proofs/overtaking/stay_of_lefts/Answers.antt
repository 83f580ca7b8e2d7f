use Rattle.std.proofs.Common.{ℕ, List, Some, ap, sym, ◌∙◌, subst, ltb-true}
use Rattle.std.specs.List.{slice_get}
use Rattle.std.proofs.lemmas.Option.{slice_get-get_or}
use Rattle.cc_judge.specs.Verdict.{AreUntaken}
use Rattle.cc_judge.proofs.Judging.{untaken_more, untaken_sorted}
use Rattle.cc_judge.proofs.overtaking.stay_of_lefts.Goals as goal

pub loop-at-preserved : goal.loop-at-preserved
loop-at-preserved c = λ rules calls l.
    let at = c.loop-at.at in
    let item = c.in-Some.field-0.now in
    subst (AreUntaken calls) (sym c.in_ok-push.ensures.items) (untaken_more rules calls c.args.lists.now c.loop-at.sends.items at item l (ap (λ (ys : List (ℕ × ℕ)). slice_get ys at) (sym c.deref.ensures.value) ∙ slice_get-get_or c.deref.result.now at item (ltb-true _ _ (sym c.in-Some.ensures.lookup.0)) ∙ ap Some (sym c.in-Some.ensures.lookup.1)) (c.loop-at.invariant rules calls l))

pub returns-clause-stay : goal.returns-clause-stay
returns-clause-stay c = λ rules calls l. untaken_sorted calls c.loop-at.sends.items _ c.in_ok-sort.ensures.permutation (c.loop-at.invariant rules calls l)
