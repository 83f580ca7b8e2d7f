use Rattle.std.proofs.Common.{refl}
use Rattle.cc_cli.proofs.Judged.{followed_due, judged_failures, refused_failures, refused_part_due}
use Rattle.cc_cli.proofs.judging.follow.follow_input.Goals as goal

pub returns-in-Ok-clause-due : goal.returns-in-Ok-clause-due
returns-in-Ok-clause-due g c =
    let e = c.in-Ok.ensures in
    followed_due c.args.options (g.R.Source.bytes_left c.args.source.now) c.in-Ok.followed c.tell_followed.result e.due e.rules e.well e.right e.decided c.tell_followed.ensures.told

pub returns-in-Ok-clause-failures : goal.returns-in-Ok-clause-failures
returns-in-Ok-clause-failures g c =
    let reads = g.R.Source.read_failures in
    let fails = g.W.Sink.write_failures in
    judged_failures (reads c.args.source.now) (reads c.follow.new.source) (fails c.args.sink.now) (fails c.tell_followed.new.sink) c.tell_followed.result c.in-Ok.ensures.failures c.tell_followed.ensures.failures

pub returns-in-Err-clause-due : goal.returns-in-Err-clause-due
returns-in-Err-clause-due g c = refused_part_due c.args.options (g.R.Source.bytes_left c.args.source.now) c.in-Err.fault c.refused.result c.in-Err.ensures.due c.refused.ensures

pub returns-in-Err-clause-failures : goal.returns-in-Err-clause-failures
returns-in-Err-clause-failures g c =
    let reads = g.R.Source.read_failures in
    let fails = g.W.Sink.write_failures in
    refused_failures c.in-Err.fault (reads c.args.source.now) (reads c.follow.new.source) (fails c.args.sink.now) (fails c.args.sink.now) c.refused.result c.refused.ensures c.in-Err.ensures.failures refl
