use Rattle.std.proofs.Common.{◌∙◌, ◌≤◌, ℕ, List, [], map, Some, IsPermutation, sym, ap, subst}
use Rattle.cc_audit.specs.Receipts.{total_of}
use Rattle.cc_drive.specs.Crew.{in_turn}
use Rattle.cc_drive.specs.Names.{Config}
use Rattle.cc_drive.proofs.Settled.{same_items}
use Rattle.cc_queue.specs.Receipts.{Live, in_group, receipts_told, receipts_left, seen_by, sent, got}
use Rattle.cc_queue.proofs.Lasts.{all_live, group_of_map, live_told, live_walks, none_left}
use Rattle.cc_runs.specs.Words.{groups}
use Rattle.cc_steps.specs.Walk.{Walk}
use Rattle.cc_tests.proofs.Rounds.{by_group, by_turn}
use Rattle.cc_tests.proofs.shared_fifo.audit_group.Goals as goal

-- the clauses one after another: all, one, low, high, sends, takes, total
pub audit_all-requires : goal.audit_all-requires
audit_all-requires c =
    let s = c.requires.settled in
    let k : Config = c.args.queue.now.setting.config in
    let g : ℕ = c.args.group in
    let ours : List Walk = c.args.senders.now in
    let theirs : List Walk = c.args.receivers.now in
    let high : g ≤ groups k = subst (λ (n : Config). g ≤ groups n) (sym s.config) c.requires.high in
    let sends : IsPermutation (receipts_told sent (map Live ours)) c.deref-3.result.now =
    same_items _ _ (live_told sent ours ∙ sym (by_turn sent ours) ∙ ap in_turn (sym s.sends_are) ∙ ap (λ l. in_turn (map (λ x. x.items) l)) (sym c.deref.ensures.value) ∙ sym c.in_ok-sends.ensures ∙ sym c.deref-3.ensures.value) in
    let takes : IsPermutation (receipts_told got (in_group k g (map Live theirs))) c.deref-4.result.now =
    same_items _ _ (ap (receipts_told got) (group_of_map Live k g theirs) ∙ live_told got (in_group k g theirs) ∙ sym (by_group got (λ x. x.items) k g c.args.kept.now.takes.items theirs s.takes_are)
    ∙ ap (λ (n : Config). in_turn (map (λ x. x.items) (in_group n g c.args.kept.now.takes.items))) s.config ∙ ap (λ l. in_turn (map (λ x. x.items) (in_group c.args.config.now g l))) (sym c.deref-2.ensures.value) ∙ sym c.in_ok-takes.ensures ∙ sym c.deref-4.ensures.value) in
    let total = ap (λ l. total_of (seen_by l)) (live_walks ours) ∙ s.total ∙ ap Some (sym c.total_of.ensures) in
    (all_live c.args.queue.now ours theirs [] s.senders_are s.receivers_are, (s.one, (c.requires.low, (high, (sends, (takes, total))))))

pub returns : goal.returns
returns c =
    let k : Config = c.args.queue.now.setting.config in
    c.in_ok-verdict.ensures.none_left (none_left sent c.args.senders.now) (ap (receipts_left got) (group_of_map Live k c.args.group c.args.receivers.now) ∙ none_left got (in_group k c.args.group c.args.receivers.now))
