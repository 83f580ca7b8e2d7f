-- Each step of every run is ready, whatever is served.
use Rattle.std.proofs.Common.{◌≡◌, ℕ, ◌<◌, List, Ok, refl}
use Rattle.cc_model.specs.Config.{config_fault}
use Rattle.cc_runs.specs.Names.{Setting, Served, Move}
use Rattle.cc_runs.specs.Ready.{IsReady}
use Rattle.cc_runs.specs.Run.{IsRun, reached, passes}
use Rattle.cc_runs.proofs.CounterRuns.{counter_ready}
use Rattle.cc_runs.proofs.ListRuns.Ready.{list_ready}

pub each_ready : (c : Setting) → config_fault c.config ≡ Ok tt → (moves : List Move) → IsRun c moves → (p : ℕ) → p < passes c → IsReady c (reached c moves) p
each_ready c checked moves run p less = by_served c.served refl
  where
    by_served : (what : Served) → c.served ≡ what → IsReady c (reached c moves) p
    by_served Served.Counter is = counter_ready c is checked moves run p less
    by_served Served.List is = list_ready c is checked moves run p less
