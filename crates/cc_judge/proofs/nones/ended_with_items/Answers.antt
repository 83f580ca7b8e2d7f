use Rattle.std.proofs.Common.{refl}
use Rattle.cc_judge.proofs.Judging.{ended_items_so, ended_shows, is_none_of, is_judged, unshut, inside_if, has_end}
use Rattle.cc_judge.proofs.nones.ended_with_items.Goals as goal
use Rattle.cc_judge.proofs.nones.ended_with_items.Goals.{then-is_none-via-then-is_none, then-is_none-via-else-is_none+then-not-found_ended}

pub returns-then-is_none-clause-others : goal.returns-then-is_none-clause-others
returns-then-is_none-clause-others c = λ so log l shut judged end d ends.
    elim c.then-is_none.branch [
      | then-is_none-via-then-is_none w ↦ absurd (unshut log c.args.calls.now c.args.shut w.if-is_none.ensures shut judged c.args.place (ended_shows c.args.calls.now c.args.place end d ends))
      | then-is_none-via-else-is_none+then-not-found_ended w ↦ absurd (w.if-not-found_ended.ensures.others refl d)
    ]

pub returns-in-Some-clause-items : goal.returns-in-Some-clause-items
returns-in-Some-clause-items c = λ so log l shut. ended_items_so log c.args.calls.now c.args.place c.in-Some.span.begin c.in-Some.span.end (is_judged log c.args.calls.now c.args.shut c.if-is_none.ensures shut) (c.if-not-found_ended.ensures.ended refl) c.in-Some.ensures.some (inside_if log c.args.calls.now c.in-Some.span.end c.has_ended.result so (c.has_ended.ensures log c.args.calls.now l))

pub returns-in-Some-clause-others : goal.returns-in-Some-clause-others
returns-in-Some-clause-others c = λ so log l shut. has_end log c.args.calls.now c.args.place c.in-Some.span.begin c.in-Some.span.end c.has_ended.result so c.in-Some.ensures.some (c.has_ended.ensures log c.args.calls.now l)

pub returns-in-None-clause-others : goal.returns-in-None-clause-others
returns-in-None-clause-others c = λ so log l shut judged end d ends. absurd (c.in-None.ensures.none d.call.begin end (is_none_of c.args.calls.now c.args.place end d ends))
