use Rattle.std.proofs.lemmas.Result.{IfOk-weaker}
use Rattle.cc_judge.proofs.Judging.{latest_spell}
use Rattle.cc_judge.proofs.nones.held_before.Goals as goal

pub returns : goal.returns
returns c = IfOk-weaker c.held_at.result _ _ (λ h stays log l. stays log l (latest_spell log c.args.calls.now _ c.latest_before-found.result (c.latest_before-found.ensures log c.args.calls.now l))) c.held_at.ensures
