use Rattle.std.proofs.Common.{◌+◌, List, Vec, Global, sym, subst, refl, arith}
use Rattle.std.proofs.lemmas.Option.{slice_get-get_or}
use Rattle.cc_judge.specs.Names.{Tie}
use Rattle.cc_judge.proofs.Trials.{LeftTo, all_left, is_left, is_timed}
use Rattle.cc_judge.proofs.exploring.ties_left.Goals as goal
use Rattle.cc_judge.proofs.exploring.ties_left.Goals.{then-not-ends_before+in_ok-push, else-not-ends_before}

pub loop-tie-preserved : goal.loop-tie-preserved
loop-tie-preserved c = elim c.if-not-ends_before.branch [
  | then-not-ends_before+in_ok-push w ↦
      subst (λ (rest : Vec Tie Global). LeftTo c.args.ties.now c.args.cut.now rest.items (c.loop-tie.tie-index + 1)) (sym w.rest-is)
      (subst (λ (rest : List Tie). LeftTo c.args.ties.now c.args.cut.now rest (c.loop-tie.tie-index + 1)) (sym w.in_ok-push.ensures.items)
      (is_left c.args.ties.now c.args.cut.now c.loop-tie.rest.items c.loop-tie.tie-index _ (slice_get-get_or c.args.ties.now c.loop-tie.tie-index _ c.loop-tie-test.true) c.loop-tie.invariant (w.if-not-ends_before.ensures.others refl)))
  | else-not-ends_before w ↦
      subst (λ (rest : Vec Tie Global). LeftTo c.args.ties.now c.args.cut.now rest.items (c.loop-tie.tie-index + 1)) (sym w.rest-is)
      (is_timed c.args.ties.now c.args.cut.now c.loop-tie.rest.items c.loop-tie.tie-index _ (slice_get-get_or c.args.ties.now c.loop-tie.tie-index _ c.loop-tie-test.true) c.loop-tie.invariant (w.if-not-ends_before.ensures.before refl))
]

pub returns : goal.returns
returns c = let test = c.loop-tie-test.false in let end = c.loop-tie.auto.tie-index-end in all_left c.args.ties.now c.args.cut.now c.loop-tie.rest.items c.loop-tie.tie-index (omega (arith, test, end)) c.loop-tie.invariant
