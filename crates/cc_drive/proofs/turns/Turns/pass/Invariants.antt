use Rattle.std.specs.Prelude.{◌≡◌, ◌≤◌, ◌-◌}
use Rattle.cc_drive.specs.Work.{IsHeldUp}
use Rattle.cc_drive.proofs.turns.Turns.pass.Given as goal

abbrev pub invariant-loop-self : goal.invariant-loop-self
invariant-loop-self g l = (l.self.limit ≡ l.fn.self.limit) × (l.fn.self.made ≤ l.self.made) × (l.self.made ≤ l.self.limit) × IsHeldUp g.G.Gate.tells l.fn.point (l.self.made - l.fn.self.made) l.fn.gate l.gate

abbrev pub decreases-loop-self : goal.decreases-loop-self
decreases-loop-self g l = l.self.limit - l.self.made
