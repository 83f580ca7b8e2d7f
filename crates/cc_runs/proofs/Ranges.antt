-- The ranges of a checked configuration.
use Rattle.std.proofs.Common.{◌≡◌, ℕ, ◌-◌, ◌^◌, ◌≤◌, Bool, true, not, cond, Result, Ok, Err, arith}
use Rattle.cc_model.specs.Range.{within}
use Rattle.cc_model.specs.Config.{config_fault}
use Rattle.cc_runs.specs.Names.{Config, ConfigFault}

pub record InRange (c : Config) : Type 0 where
  pub senders : (1 ≤ c.senders) × (c.senders ≤ 64)
  pub receivers : (1 ≤ c.receivers) × (c.receivers ≤ 64)
  pub capacity : (1 ≤ c.capacity) × (c.capacity ≤ 4096)
  pub bound : (1 ≤ c.bound) × (c.bound ≤ 1024)
  pub life : (1 ≤ c.life) × (c.life ≤ 2 ^ 48)
  pub per_sender : (1 ≤ c.per_sender) × (c.per_sender ≤ 2 ^ 32 - 1)
  pub groups : (1 ≤ c.groups) × (c.groups ≤ 8)

-- a test that finds no fault, and the tests after it
no_fault : (b : Bool) (f : ConfigFault) (rest : Result (Unit {0}) ConfigFault) → cond (not b) (Err f) rest ≡ Ok tt → (b ≡ true) × (rest ≡ Ok tt)
no_fault b f rest e = grind arith

both : (low high n : ℕ) → within low high n ≡ true → (low ≤ n) × (n ≤ high)
both low high n e = (grind (arith, e), grind (arith, e))

pub in_range : (c : Config) → config_fault c ≡ Ok tt → InRange c
in_range c e =
    let a = no_fault (within 1 64 c.senders) _ _ e in
    let b = no_fault (within 1 64 c.receivers) _ _ a.1 in
    let d = no_fault (within 1 4096 c.capacity) _ _ b.1 in
    let f = no_fault (within 1 1024 c.bound) _ _ d.1 in
    let g = no_fault (within 1 (2 ^ 48) c.life) _ _ f.1 in
    let h = no_fault (within 1 (2 ^ 32 - 1) c.per_sender) _ _ g.1 in
    let j = no_fault (within 1 8 c.groups) _ _ h.1 in
    record {
      senders = both 1 64 c.senders a.0;
      receivers = both 1 64 c.receivers b.0;
      capacity = both 1 4096 c.capacity d.0;
      bound = both 1 1024 c.bound f.0;
      life = both 1 (2 ^ 48) c.life g.0;
      per_sender = both 1 (2 ^ 32 - 1) c.per_sender h.0;
      groups = both 1 8 c.groups j.0;
    }
