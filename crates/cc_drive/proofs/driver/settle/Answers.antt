use Rattle.std.proofs.Common.{rules, arith, ◌∙◌, List, Some, sym, subst, ap}
use Rattle.std.specs.List.Sorted.{IsPermutation}
use Rattle.cc_drive.specs.Names.{Config}
use Rattle.cc_steps.specs.Walk.{Walk}
use Rattle.cc_queue.specs.Receipts.{in_group, receipts_left, sent, got, Live}
use Rattle.cc_queue.proofs.Lasts.{group_of_map, none_left}
use Rattle.cc_drive.proofs.Settled.{Settled, settled, together}
use Rattle.cc_drive.proofs.driver.settle.Goals as goal

pub meet_everyone-requires : goal.meet_everyone-requires
meet_everyone-requires c = together c.args.queue.now c.args.ran.config c.args.ran _ c.requires.run c.in-Ok.ensures.items

pub audit_all-requires : goal.audit_all-requires
audit_all-requires c =
    let s = subst (λ (y : List Walk × List Walk). Settled c.args.queue.now c.args.ran.config c.args.ran y.0 y.1) (λ i. (sym c.deref.ensures.value i, sym c.deref-2.ensures.value i))
    (settled _ _ _ _ _ _ c.requires.queue.setting c.requires.queue.some c.requires.run c.in-Ok.ensures.items c.meet_everyone.ensures.senders c.meet_everyone.ensures.receivers c.meet_everyone.ensures.one) in
    (s.all, (s.one, (omega arith, (s.group, (subst (IsPermutation _) (sym c.deref-3.ensures.value) s.sends, (subst (IsPermutation _) (sym c.deref-4.ensures.value) s.takes, s.total ∙ ap Some (sym c.total_of-total.ensures)))))))

pub returns : goal.returns
returns c =
    let s = settled _ _ _ _ _ _ c.requires.queue.setting c.requires.queue.some c.requires.run c.in-Ok.ensures.items c.meet_everyone.ensures.senders c.meet_everyone.ensures.receivers c.meet_everyone.ensures.one in
    let k : Config = c.args.queue.now.setting.config in
    let clean = c.audit_all.ensures.none_left (none_left sent c.deref.result.now) (ap (receipts_left got) (group_of_map Live k 1 c.deref-2.result.now) ∙ none_left got (in_group k 1 c.deref-2.result.now)) in
    let even = s.even in let count = s.count in search rules
