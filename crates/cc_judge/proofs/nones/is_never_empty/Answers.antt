use Rattle.cc_judge.proofs.Judging.{never_empty_so, never_at, has_moment}
use Rattle.cc_judge.proofs.nones.is_never_empty.Goals as goal

pub returns-in-Some-clause-never : goal.returns-in-Some-clause-never
returns-in-Some-clause-never c = λ so log l. never_empty_so log c.args.calls.now c.args.place c.in-Some.span.begin c.in-Some.span.end l.written c.in-Some.ensures.some (never_at log c.args.calls.now c.in-Some.span.begin c.in-Some.span.end c.empty_at.result c.is_none.result c.is_none.ensures so (c.empty_at.ensures log c.args.calls.now l))

pub returns-in-Some-clause-others : goal.returns-in-Some-clause-others
returns-in-Some-clause-others c = λ so log l. has_moment log c.args.calls.now c.args.place c.in-Some.span.begin c.in-Some.span.end c.empty_at.result c.is_none.result c.is_none.ensures so c.in-Some.ensures.some (c.empty_at.ensures log c.args.calls.now l)

pub returns-in-None-clause-others : goal.returns-in-None-clause-others
returns-in-None-clause-others c = λ so log l begin end none. absurd (c.in-None.ensures.none begin end none)
