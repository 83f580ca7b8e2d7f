-- Places at which a pass isn't in the service of the list, on the one side or on the other; and the steps between them.
use Rattle.std.proofs.Common.{◌≡◌, ℕ, refl}
use Rattle.cc_model.specs.Record.{Record}
use Rattle.cc_runs.specs.Names.{Config, Entry, Pass, Answer, Chain, Job, Phase, Sending, Taking}
use Rattle.cc_runs.specs.Lines.{goes}
use Rattle.cc_runs.specs.SendLines as send_side
use Rattle.cc_runs.specs.TakeLines as take_side
use Rattle.cc_runs.proofs.ListRuns.View.{none, resting, enq_at, regs_at}
use Rattle.cc_runs.proofs.ListRuns.Ties.{ReadsAt, IsServing, IsUndecidedAt, IsTaking}
use Rattle.cc_runs.proofs.ListRuns.Facts.{lists}
use Rattle.cc_runs.proofs.ListRuns.Posts.{Well, waits}
use Rattle.cc_runs.proofs.Leads.{leads, IsAfter, LeadsAfter, goes_after}

-- no service of a send or a close is under way
pub record StillSend (at : Phase) : Type 0 where
  pub enq_is : (e : Entry) (from : ℕ) → enq_at e from at ≡ resting e from
  pub serves : IsServing at → ⊥
  pub open_send : IsUndecidedAt at → ⊥
  pub reads : (c : Config) (e : Entry) (from : ℕ) → ReadsAt c e from at

-- no service of a take
pub record StillTake (at : Phase) : Type 0 where
  pub regs_are : regs_at at ≡ none
  pub takes : IsTaking at → ⊥

-- neither, and no call that hasn't exchanged
pub record Plain (at : Phase) : Type 0 where
  pub still_send : StillSend at
  pub still_take : StillTake at
  pub well : (h : Record) (x : Chain) (pass : Pass) (begun : ℕ) → Well h x pass begun at
  pub waits_none : waits at ≡ 0

-- ---- each place of the chain's own

abbrev IsChain : Phase → Type 0
IsChain (Phase.Sending job service) = ⊥
IsChain (Phase.Taking job service) = ⊥
IsChain (Phase.Counting job service) = ⊥
IsChain _ = Unit {0}

pub still_send : (at : Phase) → IsChain at → StillSend at
still_send (Phase.Sending job service) never = absurd never
still_send (Phase.Taking job service) never = absurd never
still_send (Phase.Counting job service) never = absurd never
still_send _ u = record { enq_is = λ e from. refl; serves = λ never. never; open_send = λ never. never; reads = λ c e from. tt }

pub still_take : (at : Phase) → IsChain at → StillTake at
still_take (Phase.Sending job service) never = absurd never
still_take (Phase.Taking job service) never = absurd never
still_take (Phase.Counting job service) never = absurd never
still_take _ u = record { regs_are = refl; takes = λ never. never }

plain : (at : Phase) → IsAfter ⊥ at → Plain at
plain (Phase.ResetNext e) never = absurd never
plain (Phase.ResetState e) never = absurd never
plain (Phase.Exchange e) never = absurd never
plain (Phase.Sending job service) never = absurd never
plain (Phase.Taking job service) never = absurd never
plain (Phase.Counting job service) never = absurd never
plain _ u = record {
  still_send = record { enq_is = λ e from. refl; serves = λ never. never; open_send = λ never. never; reads = λ c e from. tt };
  still_take = record { regs_are = refl; takes = λ never. never };
  well = λ h x pass begun. tt;
  waits_none = refl;
}

-- the steps of the chain after the exchange, but for the one that begins a service
pub plain_goes : (c : Config) (x : Chain) (own : ℕ) (at : Phase) (found : ℕ) → LeadsAfter ⊥ at → Plain (goes (lists c) x own at found)
plain_goes c = goes_after ⊥ Plain plain (lists c)

-- ---- the places after a service's steps

pub in_send : (job : Job) (service : Sending) → StillTake (Phase.Sending job service)
in_send job service = record { regs_are = refl; takes = λ never. never }

pub in_take : (job : Job) (service : Taking) → StillSend (Phase.Taking job service)
in_take job service = record { enq_is = λ e from. refl; serves = λ never. never; open_send = λ never. never; reads = λ c e from. tt }

over_send : (job : Job) (told : Answer) → StillTake (Phase.WriteAnswer job told)
over_send job told = still_take (Phase.WriteAnswer job told) tt

over_take : (job : Job) (told : Answer) → StillSend (Phase.WriteAnswer job told)
over_take job told = still_send (Phase.WriteAnswer job told) tt

pub send_still : (c : Config) (job : Job) (service : Sending) (found : ℕ) → StillTake (send_side.goes c job service found)
send_still c job service found = leads StillTake send_side.in_service job (in_send job) (over_send job) (send_side.line c 0 service found).next

pub take_still : (job : Job) (service : Taking) (found : ℕ) → StillSend (take_side.goes job service found)
take_still job service found = leads StillSend take_side.in_service job (in_take job) (over_take job) (take_side.line 0 service found).next
