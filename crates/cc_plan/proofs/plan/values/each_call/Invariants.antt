use Rattle.std.proofs.Common.{◌≡◌, ◌++◌, map, drop, option_map}
use Rattle.serde_json.specs.View.{view}
use Rattle.cc_plan.specs.Calls.{calls_in}
use Rattle.cc_plan.specs.Json.{each}
use Rattle.cc_plan.specs.PlanValues.{call_of}
use Rattle.cc_plan.proofs.plan.values.each_call.Given as goal

-- what was gathered before what the rest gives is what all give
abbrev pub invariant-loop-element : goal.invariant-loop-element
invariant-loop-element l = option_map (λ xs. calls_in l.all ++ xs) (each (call_of l.fn.version) (map view (drop l.element-index l.list))) ≡ each (call_of l.fn.version) (map view l.list)
