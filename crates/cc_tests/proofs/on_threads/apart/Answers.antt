use Rattle.std.proofs.Common.{◌∙◌, map, ap}
use Rattle.std.proofs.lemmas.List.{map-append}
use Rattle.cc_tests.proofs.Rounds.{moved}
use Rattle.cc_tests.proofs.on_threads.apart.Goals as goal

pub loop-pass-preserved : goal.loop-pass-preserved
loop-pass-preserved g c =
    let was = c.loop-pass.invariant in
    let front = c.in-Some.ensures.steps.0 in (
      moved (λ e. e.0) _ _ _ (c.in-Some.pass, c.in-Some.receipts) _ _ front c.add.ensures was.0,
      moved (λ e. e.1.items) _ _ _ (c.in-Some.pass, c.in-Some.receipts) _ _ front (ap (map (λ k. k.items)) c.add-in-loop-pass.ensures ∙ map-append (λ k. k.items) _ _) was.1,
    )
