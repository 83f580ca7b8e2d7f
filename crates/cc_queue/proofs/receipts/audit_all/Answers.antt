use Rattle.std.proofs.Common.{append-nil}
use Rattle.std.proofs.lemmas.Result.{IfOk-weaker}
use Rattle.cc_audit.proofs.One.{same}
use Rattle.cc_queue.specs.Headline.{IsAtRest}
use Rattle.cc_queue.specs.Receipts.{HasEnded}
use Rattle.cc_queue.proofs.Held.{has_just, are_clean, so_at_each}
use Rattle.cc_queue.proofs.receipts.audit_all.Goals as goal

pub returns-clause-just : goal.returns-clause-just
returns-clause-just g c = has_just _ g.passes _ _ _ c.is_sound.ensures c.requires.0 c.requires.1.0 (so_at_each _ _ _ IsAtRest (λ y is. is.1) c.at_each.ensures) (so_at_each _ _ _ HasEnded (λ y is. is) c.at_each-3.ensures) (so_at_each _ _ _ IsAtRest (λ y is. is.1) c.at_each-2.ensures)

pub returns-clause-clean : goal.returns-clause-clean
returns-clause-clean g c =
    let low = c.requires.1.1 in
    let same = low.1.1 in
    are_clean _ g.passes _ _ _ c.args.receipts.now.group _ _ _ c.is_sound.ensures low.0 low.1.0 c.requires.0 c.requires.1.0 (so_at_each _ _ _ IsAtRest (λ y is. is.1) c.at_each.ensures) (so_at_each _ _ _ HasEnded (λ y is. is) c.at_each-3.ensures) same.0 same.1.0 same.1.1

pub returns-clause-none_left : goal.returns-clause-none_left
returns-clause-none_left g c none none' =
    let clean = simp (none, none', append-nil) at (returns-clause-clean g c) in
    IfOk-weaker c.audit.result _ _ (λ v is. same _ _ _ v _ is clean) c.audit.ensures
