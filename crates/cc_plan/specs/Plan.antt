-- The content of a plan.
use Rattle.std.specs.Prelude.{ℕ, List, map}
use Rattle.cc_plan.specs.Calls.{calls_in}
use Rattle.cc_plan.specs.Names.{Config, Call, Pass, Plan}

-- the version of its format, the configuration, each sender's calls, how often each receiver takes, and which pass goes on
-- next, by up to how many steps
pub record PlanValue : Type 0 where
  pub version : ℕ
  pub config : Config
  pub senders : List (List Call)
  pub receivers : List ℕ
  pub schedule : List (Pass × ℕ)

abbrev pub plan_value : Plan → PlanValue
plan_value p = record { version = p.version; config = p.config; senders = map calls_in p.senders.items; receivers = p.receivers.items; schedule = p.schedule.items }
