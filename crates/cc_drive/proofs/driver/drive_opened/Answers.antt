use Rattle.std.proofs.Common.{rules}
use Rattle.cc_runs.proofs.Ranges.{in_range}
use Rattle.cc_drive.specs.Config.{queue_of}
use Rattle.cc_drive.proofs.Rows.{one_longer}
use Rattle.cc_drive.proofs.Dealt.{fresh_split}
use Rattle.cc_drive.proofs.driver.drive_opened.Goals as goal

pub deal_and_run-requires-clause-passes : goal.deal_and_run-requires-clause-passes
deal_and_run-requires-clause-passes g c κs within =
    let opened = c.requires.opened in
    let r = in_range (queue_of c.args.config.now) opened.valid in
    let parts = fresh_split c.args.opened.queue 0 _ _ c.in-Some.closer c.in-Some.ensures.items opened.senders in
    let long = one_longer _ _ c.in-Some.closer c.in-Some.ensures.items in
    let total = opened.count_senders in
    search rules
