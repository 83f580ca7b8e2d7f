use Rattle.cc_broker.specs.Topics.{asked_names}
use Rattle.cc_broker.proofs.Doubles.{first_at}
use Rattle.cc_broker.proofs.names.first_double.Goals as goal

pub returns-then-is_double : goal.returns-then-is_double
returns-then-is_double c = first_at (asked_names c.args.topics.now) c.loop-place.place c.loop-place.invariant c.if-is_double.ensures
