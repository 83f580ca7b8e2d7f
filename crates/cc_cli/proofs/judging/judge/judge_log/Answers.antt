use Rattle.cc_cli.proofs.Judged.{judged}
use Rattle.cc_cli.proofs.judging.judge.judge_log.Goals as goal

pub returns-in-Ok-clause-judged : goal.returns-in-Ok-clause-judged
returns-in-Ok-clause-judged g c = judged c.args.log.now.rules c.args.log.now.calls.items c.args.log.now.items c.in-Ok.found.verdict c.tell_found.result c.in-Ok.ensures.right c.in-Ok.ensures.decided c.tell_found.ensures.told
