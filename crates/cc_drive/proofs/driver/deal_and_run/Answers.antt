use Rattle.std.proofs.Common.{◌≡◌, ◌∙◌, [], ap, arith}
use Rattle.cc_drive.specs.Names.{Setting}
use Rattle.cc_drive.proofs.Asked.{as_dealt, asked_of, none_left}
use Rattle.cc_drive.proofs.Dealt.{dealt_count, sending_row, taking_row}
use Rattle.cc_drive.proofs.driver.deal_and_run.Goals as goal

pub run_and_settle-requires-clause-ready : goal.run_and_settle-requires-clause-ready
run_and_settle-requires-clause-ready g c κs within =
    let all = c.requires.passes in
    let config = ap (λ (s : Setting). s.config) all.queue.setting in
    record {
      queue = all.queue;
      closer = all.closer;
      senders = sending_row c.args.queue.now c.args.config.now c.in_ok-senders.senders.items c.args.passes.senders.items config all.count_senders c.in_ok-senders.ensures.passes all.senders c.in_ok-senders.ensures.numbers;
      count_senders = c.in_ok-senders.senders.ok.0 ∙ dealt_count _ c.in_ok-senders.senders.items _ c.in_ok-senders.ensures.passes all.count_senders;
      receivers = taking_row c.args.queue.now c.args.config.now c.in_ok-receivers.receivers.items c.args.passes.receivers.items config c.in_ok-receivers.ensures.passes all.receivers c.in_ok-receivers.ensures.numbers;
      count_receivers = c.in_ok-receivers.receivers.ok.0 ∙ dealt_count _ c.in_ok-receivers.receivers.items _ c.in_ok-receivers.ensures.passes all.count_receivers;
    }

pub returns-clause-asked : goal.returns-clause-asked
returns-clause-asked g c =
    let rest = c.deal-2.new.gates in
    let all = c.requires.passes in
    let none : rest.items ≡ [] = none_left rest.items (omega (arith, rest.ok.0, c.args.passes.senders.ok.0, c.args.passes.receivers.ok.0, all.count_senders, all.count_receivers, c.in_ok-senders.ensures.gates, c.in_ok-receivers.ensures.gates, c.requires.gates)) in
    asked_of g.G.Gate.tells c.args.config.now _ c.args.gates.items c.run_and_settle.result (as_dealt _ _ c.args.gates.items _ rest.items c.in_ok-senders.ensures.dealt c.in_ok-receivers.ensures.dealt none) c.run_and_settle.ensures.asked
