use Rattle.std.proofs.Common.{◌≡◌, Bool, ℕ, map, List, string_bytes}
use Rattle.std.specs.List.{list_all}
use Rattle.serde_json.specs.View.{members_view}
use Rattle.cc_plan.specs.Json.{keys}
use Rattle.cc_plan.specs.Closures.{TestsText}
use Rattle.cc_plan.proofs.tree.has_known_keys.Given as goal

-- whether the keys that are left are known decides
abbrev pub invariant-loop-key : goal.invariant-loop-key
invariant-loop-key g l =
    (known : List ℕ → Bool) → TestsText g.F.Fn l.fn.is_known known → list_all known (map string_bytes l.key-iterator) ≡ list_all known (keys (members_view l.members.entries))
