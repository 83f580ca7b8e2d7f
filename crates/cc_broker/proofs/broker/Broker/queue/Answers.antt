use Rattle.std.proofs.Common.{option_map, string_bytes, sym, ap, ◌∙◌}
use Rattle.cc_broker.proofs.Lookup.{values_seen}
use Rattle.cc_broker.proofs.broker.Broker.queue.Goals as goal

pub returns-in-Some : goal.returns-in-Some
returns-in-Some c = rw (← c.self.view_is) (ap (option_map (λ e. e.1)) c.in-Some.ensures.entry ∙ sym (values_seen string_bytes c.self.inside.topics.entries c.args.number))

pub returns-in-None : goal.returns-in-None
returns-in-None c = rw (← c.self.view_is) (ap (option_map (λ e. e.1)) c.in-None.ensures.entry ∙ sym (values_seen string_bytes c.self.inside.topics.entries c.args.number))
