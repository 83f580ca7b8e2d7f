use Rattle.std.proofs.Common.{◌≡◌, Some, None, sym, ap, ◌∙◌}
use Rattle.cc_judge.specs.Names.{Call}
use Rattle.cc_judge.proofs.Calls.{some_end}
use Rattle.cc_judge.proofs.Judging.{unsent}
use Rattle.cc_judge.proofs.Turns.{one_at}
use Rattle.cc_judge.proofs.overtaking.pair_of.Goals as goal

pub returns-in_err-item-clause-none : goal.returns-in_err-item-clause-none
returns-in_err-item-clause-none c = rw c.from_residual.ensures (λ send item s t. c.in_err-item.ensures.none item t)

pub returns-in_err-send-clause-none : goal.returns-in_err-send-clause-none
returns-in_err-send-clause-none c = rw c.from_residual-in_err-send.ensures (λ send item s t. unsent c.args.calls.now c.args.index.now send c.args.take c.in_ok-item.item item c.requires.index c.in_ok-item.ensures.some c.in_err-send.ensures.none s t)

pub returns-in_err-begin-clause-none : goal.returns-in_err-begin-clause-none
returns-in_err-begin-clause-none c = rw c.from_residual-in_err-begin.ensures (λ send item s t.
    let d = c.requires.index.sends.each c.in_ok-send.send c.in_ok-item.item c.in_ok-send.ensures.some in
    let both : Some d.call ≡ None = sym d.call_is ∙ c.in_err-begin.ensures.none in
    cc)

pub returns-in_err-end-clause-none : goal.returns-in_err-end-clause-none
returns-in_err-end-clause-none c = rw c.from_residual-in_err-end.ensures (λ send item s t.
    let e = some_end t.call.end (c.requires.written.took c.args.take item t) in
    let both : Some e.0 ≡ None = sym e.1 ∙ ap (λ (x : Call). x.end) (one_at c.args.calls.now c.args.take t.call c.in_ok-call_at.field-0 t.call_is c.in_ok-call_at.ensures.some) ∙ c.in_err-end.was in
    cc)

pub returns-clause-some : goal.returns-clause-some
returns-clause-some c =
    let sent = c.requires.index.sends.each c.in_ok-send.send c.in_ok-item.item c.in_ok-send.ensures.some in
    let took = c.in_ok-item.ensures.some in
    record {
      item = c.in_ok-item.item;
      sent = sent;
      took = took;
      begins = ap (λ (x : Call). x.begin) (one_at c.args.calls.now c.in_ok-send.send sent.call c.in_ok-begin.field-0 sent.call_is c.in_ok-begin.ensures.some);
      ends = ap (λ (x : Call). x.end) (one_at c.args.calls.now c.args.take took.call c.in_ok-call_at.field-0 took.call_is c.in_ok-call_at.ensures.some) ∙ c.in_ok-end.was;
    }
