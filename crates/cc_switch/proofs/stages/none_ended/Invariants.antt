use Rattle.std.proofs.Common.{◌≡◌, ℕ, []}
use Rattle.cc_switch.specs.Links.{done_by}
use Rattle.cc_switch.proofs.stages.none_ended.Given as goal

abbrev pub invariant-loop-group : goal.invariant-loop-group
invariant-loop-group l = (g : ℕ) → done_by l.ended.items g ≡ []
