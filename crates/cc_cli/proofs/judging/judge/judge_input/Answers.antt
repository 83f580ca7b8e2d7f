use Rattle.std.proofs.Common.{refl, subst, sym}
use Rattle.cc_cli.specs.Judged.{IsDueOrNone}
use Rattle.cc_cli.proofs.Judged.{judged_due, judged_failures, refused_due, refused_failures}
use Rattle.cc_cli.proofs.judging.judge.judge_input.Goals as goal

pub returns-then-options : goal.returns-then-options
returns-then-options g c =
    let left = g.R.Source.bytes_left c.args.source.now in
    record { due = subst (λ follow. IsDueOrNone follow c.args.options left c.follow_input.result) (sym c.if-options.true) c.follow_input.ensures.due; failures = c.follow_input.ensures.failures }

pub returns-in-Ok : goal.returns-in-Ok
returns-in-Ok g c =
    let reads = g.R.Source.read_failures in
    let fails = g.W.Sink.write_failures in
    let left = g.R.Source.bytes_left c.args.source.now in
    record {
      due = subst (λ follow. IsDueOrNone follow c.args.options left c.judge_log.result) (sym c.if-options.false)
          (judged_due c.args.options left c.in-Ok.log c.judge_log.result c.in-Ok.ensures.capacity c.in-Ok.ensures.well c.in-Ok.ensures.due c.judge_log.ensures.judged);
      failures = judged_failures (reads c.args.source.now) (reads c.read_log.new.source) (fails c.args.sink.now) (fails c.judge_log.new.sink) c.judge_log.result c.in-Ok.ensures.failures c.judge_log.ensures.failures;
    }

pub returns-in-Err : goal.returns-in-Err
returns-in-Err g c =
    let reads = g.R.Source.read_failures in
    let fails = g.W.Sink.write_failures in
    let left = g.R.Source.bytes_left c.args.source.now in
    record {
      due = subst (λ follow. IsDueOrNone follow c.args.options left c.refused.result) (sym c.if-options.false) (refused_due c.args.options left c.in-Err.fault c.refused.result c.in-Err.ensures.due c.refused.ensures);
      failures = refused_failures c.in-Err.fault (reads c.args.source.now) (reads c.read_log.new.source) (fails c.args.sink.now) (fails c.args.sink.now) c.refused.result c.refused.ensures c.in-Err.ensures.failures refl;
    }
