-- The laws of every plan that an input describes.
use Rattle.std.specs.Prelude.{true, ◌≡◌, ◌≤◌, ◌⊎◌, ◌^◌, ◌-◌, ◌*◌, length, All, Ok, ⊤}
use Rattle.cc_model.specs.Config.{config_fault}
use Rattle.cc_plan.specs.Names.{Call}
use Rattle.cc_plan.specs.Plan.{PlanValue}
use Rattle.cc_plan.specs.PlanOf.{has_pass}

-- a call that a sender makes
abbrev pub IsOfSender : Call → Type 0
IsOfSender (Call.Send body) = ⊤
IsOfSender Call.Close = ⊤
IsOfSender Call.Take = ⊥

-- the version is 1, and then there is one group, or 2; the configuration is legal, lets each sender send 2^32 - 1 times, and
-- has as many senders, and in all groups as many receivers, as are listed; the lists are no longer than the limits, and each
-- sender's calls are those of senders; each entry names a pass of the configuration and a number of steps in its range
pub record Valid (p : PlanValue) : Type 0 where
  pub version : (p.version ≡ 1) ⊎ (p.version ≡ 2)
  pub config : config_fault p.config ≡ Ok tt
  pub limit : p.config.per_sender ≡ 2 ^ 32 - 1
  pub groups : p.version ≡ 1 → p.config.groups ≡ 1
  pub senders : length p.senders ≡ p.config.senders
  pub receivers : length p.receivers ≡ p.config.groups * p.config.receivers
  pub calls : All (All IsOfSender) p.senders
  pub sends : All (λ calls. length calls ≤ 65536) p.senders
  pub takes : All (λ n. n ≤ 65536) p.receivers
  pub entries : length p.schedule ≤ 65536
  pub passes : All (λ e. has_pass p.config e.0 ≡ true) p.schedule
  pub steps : All (λ e. (1 ≤ e.1) × (e.1 ≤ 100000)) p.schedule
