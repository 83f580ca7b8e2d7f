use Rattle.std.proofs.Common.{◌≡◌, ◌++◌, length, map, drop, option_map}
use Rattle.serde_json.specs.View.{view}
use Rattle.cc_plan.specs.Json.{each}
use Rattle.cc_plan.specs.Calls.{calls_in}
use Rattle.cc_plan.specs.PlanValues.{calls_of}
use Rattle.cc_plan.proofs.plan.values.each_sender.Given as goal

-- what was gathered before what the rest gives is what all give
abbrev pub invariant-loop-element : goal.invariant-loop-element
invariant-loop-element l = record {
  gives : option_map (λ xs. map calls_in l.all.items ++ xs) (each (calls_of l.fn.version) (map view (drop l.element-index l.list))) ≡ each (calls_of l.fn.version) (map view l.list);
  count : length l.all.items ≡ l.element-index;
}
