use Rattle.std.proofs.Common.{rules, ◌≡◌, ◌∙◌, length}
use Rattle.cc_queue.specs.Met.{HasMet}
use Rattle.cc_drive.proofs.Pairs.{met_back, one_back}
use Rattle.cc_drive.proofs.meeting.meet_everyone.Goals as goal

pub returns : goal.returns
returns c =
    let len : length c.meet_all.new.senders ≡ length c.deref_mut.result.now = search rules in
    let len' : length c.meet_all.new.receivers ≡ length c.deref_mut-2.result.now = search rules in record {
      senders = met_back HasMet _ _ _ c.meet_all.new.senders _ c.deref_mut.ensures.value len c.deref_mut.ensures.len c.meet_all.ensures.senders;
      receivers = met_back HasMet _ _ _ c.meet_all.new.receivers _ c.deref_mut-2.ensures.value len' c.deref_mut-2.ensures.len c.meet_all.ensures.receivers;
      one = one_back _ _ c.meet_all.new.senders c.meet_all.new.receivers c.meet_all.new.given_up _ _ (len ∙ c.deref_mut.ensures.len) (len' ∙ c.deref_mut-2.ensures.len) c.meet_all.ensures.one;
      room = search rules;
    }
