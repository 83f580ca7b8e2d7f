use Rattle.std.proofs.Common.{sym, ap, ◌∙◌}
use Rattle.cc_judge.specs.Names.{Call}
use Rattle.cc_judge.proofs.Sweeping.{left_none, left_some, untaken_by, taken_left}
use Rattle.cc_judge.proofs.Turns.{one_at}
use Rattle.cc_judge.proofs.lists.left_since.Goals as goal

pub returns-in_default : goal.returns-in_default
returns-in_default c = λ log at. left_none log c.args.calls.now c.args.place (λ item end call is act ends untaken.
    let same = one_at c.args.calls.now c.args.place call c.in_ok-call.call is c.in_ok-call.ensures.some in
    cc (sym ends ∙ ap (λ (x : Call). x.end) same ∙ c.in_default.is-1))

pub returns-in_default-2 : goal.returns-in_default-2
returns-in_default-2 c = λ log at. left_none log c.args.calls.now c.args.place (λ item end call is act ends untaken.
    let same = one_at c.args.calls.now c.args.place call c.in_ok-call.call is c.in_ok-call.ensures.some in
    c.in_default.not-Send-0 item (sym (ap (λ (x : Call). x.act) same) ∙ act))

pub returns-in-Some : goal.returns-in-Some
returns-in-Some c = λ log at. left_none log c.args.calls.now c.args.place (λ item end call is act ends untaken.
    let same = one_at c.args.calls.now c.args.place call c.in_ok-call.call is c.in_ok-call.ensures.some in
    taken_left c.args.calls.now c.args.index.now c.args.place c.in-Some.field-0 item c.in-Send-Some.item c.requires (sym act ∙ ap (λ (x : Call). x.act) same ∙ c.in-Send-Some.is-0) c.in-Some.ensures.some untaken)

pub returns-in-None : goal.returns-in-None
returns-in-None c = λ log at.
    left_some log c.args.calls.now c.args.shut c.args.place c.in-Send-Some.item c.in-Send-Some.end c.done.result c.in_ok-call.call at c.in_ok-call.ensures.some c.in-Send-Some.is-0 c.in-Send-Some.is-1 (untaken_by c.args.calls.now c.args.index.now c.in-Send-Some.item c.requires c.in-None.ensures.none) c.done.ensures
