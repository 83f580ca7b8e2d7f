-- The passes of a queue that was opened are of it.
use Rattle.std.proofs.Common.{ℕ, zero, suc, ◌+◌, List, [], ◌∷◌, arith, ap}
use Rattle.std.specs.List.{All}
use Rattle.cc_steps.specs.Topic.{Topic}
use Rattle.cc_steps.specs.Walk.{Walk, IsOf, fresh_from}

pub are_of : (z : Topic) (p : ℕ) (ws : List Walk) → fresh_from z p ws → All (IsOf z) ws
are_of z p [] is k d few = absurd (omega (arith, few))
are_of z p (w ∷ ws) is zero d few = (ap (λ (x : Walk). x.table_id) is.0, ap (λ (x : Walk). x.setting) is.0)
are_of z p (w ∷ ws) is (suc k) d few = are_of z (p + 1) ws is.1 k d (omega (arith, few))
