use Rattle.std.proofs.Common.{List, subst}
use Rattle.cc_judge.specs.Verdict.{IsDecided, IsVerdict}
use Rattle.cc_cli.specs.Names.{Call}
use Rattle.cc_cli.proofs.judging.judge.verdict_on.Goals as goal

pub returns-clause-right : goal.returns-clause-right
returns-clause-right c = subst (λ (calls : List Call). IsVerdict c.args.log.now.rules calls c.in_ok-verdict.verdict) c.as_slice.ensures.value c.in_ok-verdict.ensures.right

pub returns-clause-decided : goal.returns-clause-decided
returns-clause-decided c = subst (λ (calls : List Call). IsDecided c.args.log.now.rules calls c.args.log.now.items c.in_ok-verdict.verdict) c.as_slice.ensures.value c.in_ok-verdict.ensures.decided
