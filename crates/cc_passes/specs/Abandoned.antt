-- The memory that an abandoned pass leaves.
use Rattle.std.specs.Prelude.{List, Option, Some, None}
use base.Fml.{Fml, ftrue, fex}
use mir.Val.{Val}
use denote.RattleType.{RattleType}

-- what is left of a pass that was given up: nothing, or all that this value owns, but its bytes
abbrev pub abandoned_owns : (R : RattleType) → Option R.Denot → Fml
abandoned_owns R None = ftrue
abandoned_owns R (Some x) = fex (List Val) (λ vs. R.own_val x vs)
