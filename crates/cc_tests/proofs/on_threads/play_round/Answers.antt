use Rattle.std.proofs.Common.{rules, ◌∙◌, ap, map, subst, sym}
use Rattle.cc_drive.specs.Names.{Setting}
use Rattle.cc_queue.specs.Opened.{HasOpened}
use Rattle.cc_queue.specs.Receipts.{got}
use Rattle.cc_steps.specs.Walk.{fresh_from}
use Rattle.cc_tests.specs.Rounds.{HaveKept}
use Rattle.cc_tests.proofs.Rounds.{all_fresh}
use Rattle.cc_tests.proofs.on_threads.play_round.Goals as goal

pub both_sides-receivers-requires-clause-senders : goal.both_sides-receivers-requires-clause-senders
both_sides-receivers-requires-clause-senders g c κs within =
    let opened : HasOpened c.args.config.now c.expect-queue.result = search rules in opened.senders

pub both_sides-receivers-requires-clause-receivers : goal.both_sides-receivers-requires-clause-receivers
both_sides-receivers-requires-clause-receivers g c κs within =
    let opened : HasOpened c.args.config.now c.expect-queue.result = search rules in
    subst (λ (s : Setting). fresh_from c.expect-queue.result.queue s.config.senders c.expect-queue.result.receivers.items) (sym opened.setting) opened.receivers

pub both_sides-receivers-requires-clause-own : goal.both_sides-receivers-requires-clause-own
both_sides-receivers-requires-clause-own g c κs within =
    let opened : HasOpened c.args.config.now c.expect-queue.result = search rules in all_fresh _ _ _ opened.receivers

pub returns : goal.returns
returns g c =
    let opened : HasOpened c.args.config.now c.expect-queue.result = search rules in
    let both = c.both_sides-receivers.ensures in
    let took_all = subst (λ (s : Setting). HaveKept got c.expect-queue.result.queue s.config.senders c.both_sides-receivers.result.0.0.items (map (λ k. k.items) c.both_sides-receivers.result.0.1.items)) opened.setting both.takes in
    record { valid = opened.valid; config = ap (λ (s : Setting). s.config) opened.setting; count_senders = both.count_senders ∙ opened.count_senders; count_receivers = both.count_receivers ∙ opened.count_receivers; sent_all = both.sends; took_all = took_all; closed = both.closed }
