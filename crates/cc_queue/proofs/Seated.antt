-- The seats of a row of passes, one after another.
use Rattle.std.proofs.Common.{◌≡◌, ℕ, ◌+◌, ◌-◌, ◌*◌, ◌/◌, ◌%◌, ◌<◌, ◌≤◌, Ok, Bool, false, cond, nat_lt, List, [], ◌∷◌, ◌++◌, length, slice_index_or, sym, ap, ◌∙◌, subst, arith}
use Rattle.std.proofs.Math.Nat.{mul-le-mul_right}
use Rattle.std.proofs.lemmas.Bool.{le-ltb}
use Rattle.std.proofs.lemmas.Nat.{div_below}
use Rattle.std.specs.List.{remove}
use Rattle.cc_model.specs.Config.{config_fault}
use Rattle.cc_queue.specs.Names.{Chain, Config, Pass, Phase, Served, Setting}
use Rattle.cc_runs.specs.State.{chain_of, first_node, pass_at}
use Rattle.cc_runs.specs.Words.{groups}
use Rattle.cc_runs.proofs.Ranges.{InRange, in_range}
use Rattle.cc_steps.specs.Topic.{Topic}
use Rattle.cc_steps.specs.Walk.{Walk, fresh, fresh_from}
use Rattle.cc_steps.proofs.Dealt.{fresh_push}

-- the first seat of such a row, and the others
pub first_seat : (z : Topic) (p : ℕ) (ws : List Walk) (w : Walk) → 0 < length ws → fresh_from z p ws → w ≡ slice_index_or ws 0 w → w ≡ fresh z p
first_seat z p [] w some f is = absurd (omega (arith, some))
first_seat z p (x ∷ ws) w some f is = is ∙ f.0

pub other_seats : (z : Topic) (p next : ℕ) (ws rest : List Walk) → next ≡ p + 1 → 0 < length ws → fresh_from z p ws → rest ≡ remove ws 0 → fresh_from z next rest
other_seats z p next [] rest after some f is = absurd (omega (arith, some))
other_seats z p next (x ∷ ws) rest after some f is = subst (λ (y : ℕ × List Walk). fresh_from z y.0 y.1) (λ i. (sym after i, sym is i)) f.1

-- a pass on that seat is the next one of its row
pub next_pass : (z : Topic) (first p : ℕ) (ws done done' : List Walk) (seat w : Walk) → 0 < length ws → fresh_from z p ws → seat ≡ slice_index_or ws 0 seat → w ≡ seat → p ≡ first + length done → fresh_from z first done → done' ≡ done ++ w ∷ [] → fresh_from z first done'
next_pass z first p ws done done' seat w some f is same at before is' =
    subst (fresh_from z first) (sym is') (fresh_push z first p done w at before (same ∙ first_seat z p ws seat some f is))

-- a seat after those of all senders is a receiver's
module _ (z : Topic) (c : Config) (w : Walk) (p : ℕ) (topic : z.setting ≡ record { served = Served.List; config = c }) (is : w ≡ fresh z (c.senders + p)) where
  pub setting_is : w.setting ≡ record { served = Served.List; config = c }
  setting_is = ap (λ (x : Walk). x.setting) is ∙ topic

  behind_senders : nat_lt (c.senders + p) c.senders ≡ false
  behind_senders = le-ltb (c.senders + p) c.senders (omega arith)

  place_is : c.senders + p - c.senders ≡ p
  place_is = omega arith

  pub receivers_chain : chain_of w.setting.config w.number ≡ Chain.Take (p / c.receivers)
  receivers_chain =
      ap (λ (x : Walk). chain_of x.setting.config x.number) is
      ∙ ap (λ (x : Setting). chain_of x.config (c.senders + p)) topic
      ∙ ap (λ (b : Bool). cond b Chain.Send (Chain.Take ((c.senders + p - c.senders) / c.receivers))) behind_senders
      ∙ ap (λ (n : ℕ). Chain.Take (n / c.receivers)) place_is

  pub receivers_name : pass_at w.setting.config w.number ≡ Pass.Receiver (p + 1)
  receivers_name =
      ap (λ (x : Walk). pass_at x.setting.config x.number) is
      ∙ ap (λ (x : Setting). pass_at x.config (c.senders + p)) topic
      ∙ ap (λ (b : Bool). cond b (Pass.Sender (c.senders + p + 1)) (Pass.Receiver (c.senders + p - c.senders + 1))) behind_senders
      ∙ ap (λ (n : ℕ). Pass.Receiver (n + 1)) place_is

  pub receivers_stand : w.stand ≡ record { begun = 0; node = p % c.receivers + 1; phase = Phase.Idle }
  receivers_stand =
      ap (λ (x : Walk). x.stand) is
      ∙ ap (λ (x : Setting). record { begun = 0; node = first_node x.config (c.senders + p); phase = Phase.Idle }) topic
      ∙ ap (λ (b : Bool). record { begun = 0; node = cond b (c.senders + p + 1) ((c.senders + p - c.senders) % c.receivers + 1); phase = Phase.Idle }) behind_senders
      ∙ ap (λ (n : ℕ). record { begun = 0; node = n % c.receivers + 1; phase = Phase.Idle }) place_is

-- of a checked configuration: groups have receivers, and the places of all receivers and their groups are few
pub some_receivers : (c : Config) → config_fault c ≡ Ok tt → 0 < c.receivers
some_receivers c checked = let r : InRange c = in_range c checked in omega (arith, r.receivers)

pub few_places : (c : Config) (p : ℕ) → config_fault c ≡ Ok tt → p < groups c * c.receivers → p < 512
few_places c p checked less =
    let r : InRange c = in_range c checked in
    let high : c.groups ≤ 8 = omega (arith, r.groups) in
    let most : c.groups * c.receivers ≤ 8 * c.receivers = mul-le-mul_right c.receivers high in
    omega (arith, most, r.receivers, less)

pub few_groups : (c : Config) (p : ℕ) → config_fault c ≡ Ok tt → p < groups c * c.receivers → p / c.receivers < 8
few_groups c p checked less =
    let r : InRange c = in_range c checked in
    let group : p / c.receivers < c.groups = div_below p c.receivers c.groups (omega (arith, r.receivers)) less in
    omega (arith, group, r.groups)
