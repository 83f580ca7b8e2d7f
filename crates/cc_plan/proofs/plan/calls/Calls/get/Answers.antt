use Rattle.std.proofs.Common.{sym, arith}
use Rattle.std.proofs.lemmas.Option.{slice_get_read, slice_get_past}
use Rattle.cc_plan.specs.Calls.{calls_in}
use Rattle.cc_plan.proofs.plan.calls.Calls.get.Goals as goal

pub returns-then-place-len-clause-call : goal.returns-then-place-len-clause-call
returns-then-place-len-clause-call c = sym (slice_get_read (calls_in c.args.self.now) _ c.args.place _ c.len.ensures c.if-place-len.true c.at.ensures)

pub returns-else-place-len-clause-call : goal.returns-else-place-len-clause-call
returns-else-place-len-clause-call c = sym (slice_get_past (calls_in c.args.self.now) c.args.place (grind arith))
