use Rattle.std.proofs.Common.{rules, ◌≡◌, length, arith}
use Rattle.cc_drive.specs.Back.{IsBack}
use Rattle.cc_steps.specs.Walk.{IsOf}
use Rattle.cc_drive.proofs.Ended.{row_all}
use Rattle.cc_tests.proofs.Rounds.{settled}
use Rattle.cc_tests.proofs.shared_fifo.meet_and_audit.Goals as goal

pub meet_all-requires : goal.meet_all-requires
meet_all-requires g c = record {
  senders_are = row_all (IsBack c.args.queue.now) (IsOf c.args.queue.now) (λ k w b. b.here) 0 c.args.senders.now c.requires.sent_all.back;
  receivers_are = row_all (IsBack c.args.queue.now) (IsOf c.args.queue.now) (λ k w b. b.here) c.args.config.now.senders c.args.receivers.now c.requires.took_all.back;
  given_up_are = λ k d less. absurd (omega (arith, less));
}

pub audit_group-audit-requires-clause-settled : goal.audit_group-audit-requires-clause-settled
audit_group-audit-requires-clause-settled g c =
    let long : length c.meet_all.new.senders ≡ length c.args.senders.now = search rules in
    let long' : length c.meet_all.new.receivers ≡ length c.args.receivers.now = search rules in
    settled c.args.config.now c.args.queue.now _ _ _ _ _ _ _ _ c.requires long long' c.meet_all.ensures.senders c.meet_all.ensures.receivers c.meet_all.ensures.one
