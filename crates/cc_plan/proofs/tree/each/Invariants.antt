use Rattle.std.proofs.Common.{◌≡◌, ◌++◌, length, map, drop, Option, option_map}
use Rattle.serde_json.specs.Data.{Data}
use Rattle.serde_json.specs.View.{view}
use Rattle.cc_plan.specs.Json.{each}
use Rattle.cc_plan.specs.Closures.{Computes}
use Rattle.cc_plan.proofs.tree.each.Given as goal

-- what was gathered before what the rest gives is what all give
abbrev pub invariant-loop-element : goal.invariant-loop-element
invariant-loop-element g l = record {
  gives : (f : Data → Option _) → Computes g.F.Fn l.fn.read f
      → option_map (λ xs. l.all.items ++ xs) (each f (map view (drop l.element-index l.list))) ≡ each f (map view l.list);
  count : length l.all.items ≡ l.element-index;
}
