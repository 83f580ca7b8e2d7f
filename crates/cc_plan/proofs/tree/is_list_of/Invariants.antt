use Rattle.std.proofs.Common.{◌≡◌, Bool, map, drop}
use Rattle.std.specs.List.{list_all}
use Rattle.serde_json.specs.Data.{Data}
use Rattle.serde_json.specs.View.{view}
use Rattle.cc_plan.specs.Closures.{Computes}
use Rattle.cc_plan.proofs.tree.is_list_of.Given as goal

-- whether the rest passes decides
abbrev pub invariant-loop-element : goal.invariant-loop-element
invariant-loop-element g l =
    (test : Data → Bool) → Computes g.F.Fn l.fn.passes test → list_all test (map view (drop l.element-index l.list)) ≡ list_all test (map view l.list)
