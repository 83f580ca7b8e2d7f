use Rattle.std.proofs.Common.{ℕ, ◌<◌, length}
use Rattle.cc_switch.specs.Links.{done_by}
use Rattle.cc_switch.proofs.stages.Stages.is_left.Given as goal

abbrev pub invariant-loop-group : goal.invariant-loop-group
invariant-loop-group l = (g : ℕ) → g < l.group → l.fn.number < length (done_by l.fn.self.ended.items g)
