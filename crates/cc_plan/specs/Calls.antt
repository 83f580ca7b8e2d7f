-- The calls of a sender.
use Rattle.std.specs.Prelude.{List, map}
use Rattle.cc_plan.specs.Names.{Call}
use Rattle.cc_plan.specs.CompactCall.{call_in}
use Rattle.cc_plan.specs.declared.plan.calls.Calls.{Calls}

abbrev pub calls_in : Calls → List Call
calls_in c = map (call_in c.bodies.items) c.calls.items
