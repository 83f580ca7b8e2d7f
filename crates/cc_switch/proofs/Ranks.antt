-- A receiver is of the same group before and after a call.
use Rattle.std.proofs.Common.{ℕ, ◌+◌, subst, sym}
use Rattle.cc_queue.specs.Group.{Ranked, IsGroupOf}
use Rattle.cc_runs.specs.State.{pass_at}
use Rattle.cc_steps.specs.Names.{Setting}
use Rattle.cc_steps.specs.Walk.{Walk, IsOf, IsSameSeat}
use Rattle.cc_switch.specs.Position.{Spot, IsTaker}

pub still_ranked : (v w : Walk) (g : ℕ) → IsSameSeat v w → Ranked v g → Ranked w g
still_ranked v w g same is = subst (λ (n : ℕ). IsGroupOf w.setting.config (pass_at w.setting.config n) g)
    (sym same.2) (subst (λ (c : Setting). IsGroupOf c.config (pass_at c.config v.number) g) (sym same.1) is)

pub still_taker : (s : Spot) (v w : Walk) (g : ℕ) → IsSameSeat v w → IsOf s.queue w → IsTaker s v g → IsTaker s w g
still_taker s v w g same of is = record {
  of = of;
  ranked = still_ranked v w (g + 1) same is.ranked;
  low = is.low;
  has = is.has;
}
