use Rattle.std.proofs.Common.{ℕ, List, Some, sym, ap, ◌∙◌, ◌-◌, ◌≤◌, length, subst, ltb-true, ltb-false, arith}
use Rattle.std.specs.List.{slice_get}
use Rattle.std.proofs.lemmas.Option.{slice_get-get_or}
use Rattle.cc_judge.proofs.Sweeping.{lefts_enough, left_until, left_forever, begun_first}
use Rattle.cc_judge.proofs.sweeps.lefts_reach.Goals as goal

pub returns-then-left-upto-clause-reaches : goal.returns-then-left-upto-clause-reaches
returns-then-left-upto-clause-reaches c = λ rules calls l. lefts_enough rules calls c.args.lists.now c.before-left.result c.upto.result c.args.time l c.before-left.ensures c.upto.ensures c.if-left-upto.true

pub returns-in-Some-clause-reaches : goal.returns-in-Some-clause-reaches
returns-in-Some-clause-reaches c = λ rules calls l.
    left_until rules calls c.args.lists.now c.before-left.result c.upto.result c.args.time c.in-Some.field-0.now.0 c.in-Some.field-0.now.1 l c.before-left.ensures (omega (arith, c.if-left-upto.false)) (ap (λ (ys : List (ℕ × ℕ)). slice_get ys (c.before-left.result - 1)) (sym c.deref.ensures.value) ∙ slice_get-get_or c.deref.result.now (c.before-left.result - 1) c.in-Some.field-0.now (ltb-true _ _ (sym c.in-Some.ensures.lookup.0)) ∙ ap Some (sym c.in-Some.ensures.lookup.1))

pub returns-in_default-clause-reaches : goal.returns-in_default-clause-reaches
returns-in_default-clause-reaches c = λ rules calls l.
    absurd (begun_first rules calls c.args.lists.now c.before-left.result c.upto.result c.args.time c.in-Some.field-0.now.0 c.in-Some.field-0.now.1 l c.upto.ensures (omega (arith, c.if-left-upto.false)) (ap (λ (ys : List (ℕ × ℕ)). slice_get ys (c.before-left.result - 1)) (sym c.deref.ensures.value) ∙ slice_get-get_or c.deref.result.now (c.before-left.result - 1) c.in-Some.field-0.now (ltb-true _ _ (sym c.in-Some.ensures.lookup.0)) ∙ ap Some (sym c.in-Some.ensures.lookup.1)) (omega (arith, c.if-time-begin.false)))

pub returns-in_default-2-clause-reaches : goal.returns-in_default-2-clause-reaches
returns-in_default-2-clause-reaches c = λ rules calls l.
    left_forever rules calls c.args.lists.now c.before-left.result c.upto.result c.args.time l c.before-left.ensures (omega (arith, c.if-left-upto.false)) (subst (λ (ys : List (ℕ × ℕ)). length ys ≤ c.before-left.result - 1) c.deref.ensures.value (let none = rw c.in_default.is at c.get.ensures.lookup.0 in let past = ltb-false _ _ (sym none) in omega (arith, past)))
