use Rattle.std.proofs.Common.{◌≡◌, take, All, Ok}
use Rattle.cc_model.specs.Config.{config_fault}
use Rattle.cc_broker.proofs.Built.{Opened}
use Rattle.cc_broker.proofs.open.open_each.Given as goal

abbrev pub invariant-loop-place : goal.invariant-loop-place
invariant-loop-place l =
    Opened (take l.place l.fn.topics) l.opened.broker l.opened.passes.items × All (λ a. config_fault a.1 ≡ Ok tt) (take l.place l.fn.topics)
