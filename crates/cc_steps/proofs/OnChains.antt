-- The words as the passes of one chain step on them.
use Rattle.std.proofs.Common.{◌≡◌, ◌<◌, IsTrue, Ok, subst, arith}
use Rattle.cc_model.specs.Config.{config_fault}
use Rattle.cc_steps.specs.Names.{Chain, Config, Setting, Word}
use Rattle.cc_runs.specs.State.{chain_of}
use Rattle.cc_runs.specs.Words.{layout_of, exists}
use Rattle.cc_runs.proofs.Chains.Safe.{tail_exists}
use Rattle.cc_runs.proofs.Chains.Serving.{chain_is}
use Rattle.cc_runs.proofs.Ranges.{in_range}
use Rattle.cc_steps.specs.Topic.{Topic}
use Rattle.cc_steps.specs.Walk.{Walk, IsOf, IsSound}

-- the chain of a pass has a tail
pub tail_here : (z : Topic) (w : Walk) (x : Chain) → IsSound w → IsOf z w → chain_of w.setting.config w.number ≡ x → IsTrue (exists (layout_of z.setting.config) (Word.Tail x))
tail_here z w x sound here on =
    subst (λ (y : Setting × Chain). IsTrue (exists (layout_of y.0.config) (Word.Tail y.1))) (λ i. (here.1 i, on i))
    (tail_exists w.setting (chain_of w.setting.config w.number) (chain_is w.setting w.number sound.below))

-- a checked configuration has a bound
pub some_bound : (c : Config) → config_fault c ≡ Ok tt → 0 < c.bound
some_bound c checked = let r = in_range c checked in omega (arith, r.bound)
