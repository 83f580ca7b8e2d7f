use Rattle.std.proofs.Common.{rules, ◌≡◌, refl}
use Rattle.cc_drive.proofs.Rows.{row_push, dealt_over, one_longer, taken_first}
use Rattle.cc_drive.proofs.jobs.deal.Goals as goal

pub loop-pass-preserved : goal.loop-pass-preserved
loop-pass-preserved g c =
    let was = c.loop-pass.invariant in let end = c.in_ok-push.ensures.items in let long = one_longer _ _ _ end in
    (search rules, dealt_over (λ j. j.pass) _ _ _ _ _ _ _ c.in-Some.ensures.steps.0 end refl was.1, row_push (λ n j. j.number ≡ n) 1 c.loop-pass.number _ _ _ end was.0.0 was.2 refl, dealt_over (λ j. j.gate) _ _ _ _ _ _ _ (taken_first _ _ _ c.remove-gate.ensures.value c.remove-gate.ensures.items (search rules)) end refl was.3)
