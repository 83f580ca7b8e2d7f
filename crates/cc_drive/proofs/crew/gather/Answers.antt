use Rattle.std.proofs.Common.{rules, ◌≡◌, ◌∙◌, map, sym, ap, subst, true, if◌then◌else◌, Some, None, refl}
use Rattle.std.specs.List.{AllByRecursion}
use Rattle.std.proofs.lemmas.List.{nil_from_length}
use Rattle.cc_drive.specs.Crew.{sooner, present, in_turn}
use Rattle.cc_drive.proofs.Crews.{passes_more, receipts_more, missing_now, first_too, second_too, none_left, missing_end}
use Rattle.cc_drive.proofs.crew.gather.Goals as goal

pub loop-worker-preserved : goal.loop-worker-preserved
loop-worker-preserved g c =
    let was = c.loop-worker.invariant in let front = c.in-Some.ensures.steps.0 in (
      search rules,
      passes_more (λ d. d.pass) _ _ _ c.in-Some.worker _ _ front c.add_pass-is_back.ensures.items was.1,
      (λ whole all. was.2 (first_too _ _ whole) (subst (AllByRecursion (λ d. d.kept.is_whole ≡ true)) (sym front) (c.add_receipts-is_whole.ensures.whole (second_too _ _ whole), all))),
      (λ whole. receipts_more (λ d. d.kept.receipts.items) _ _ _ c.in-Some.worker _ _ front (c.add_receipts-is_whole.ensures.items (second_too _ _ whole)) (was.3 (first_too _ _ whole))),
      missing_now (λ d. d.pass) _ _ _ c.loop-worker.number c.in-Some.worker _ _ front (c.earlier-limited.ensures ∙ ap (λ b. sooner c.loop-worker.limited (if b then None else Some c.loop-worker.number)) c.add_pass-is_back.ensures.back) was.4,
    )

pub returns-clause-gathered : goal.returns-clause-gathered
returns-clause-gathered g c =
    let end = nil_from_length _ (sym c.loop-worker.worker-iterator.rest.ok.0 ∙ c.in-None.ensures.steps.0) in record {
      back = none_left (λ l. present (map (λ d. d.pass) l)) _ _ _ refl end c.loop-worker.invariant.1;
      missing = missing_end (λ d. d.pass) _ _ c.loop-worker.number _ end c.loop-worker.invariant.4;
      whole = λ whole. c.loop-worker.invariant.2 whole (subst (AllByRecursion (λ d. d.kept.is_whole ≡ true)) (sym end) tt);
      kept = λ whole. none_left (λ l. in_turn (map (λ d. d.kept.receipts.items) l)) _ _ _ refl end (c.loop-worker.invariant.3 whole);
    }
