-- The facts of each pass and of each call, whatever the chains do: a begun call is one that its pass can make, with the next
-- number of a send; and the calls in the history are such calls.
use Rattle.std.proofs.Common.{◌≡◌, ℕ, ◌+◌, ◌-◌, ◌/◌, ◌<◌, ◌≤◌, nat_lt, List, [], ◌∷◌, length, Bool, true, false, cond, ◌⊎◌, inl, inr, ap, arith}
use Rattle.std.proofs.lemmas.Bool.{cases_lt, lt-ltb, le-ltb}
use Rattle.std.specs.List.{AllByRecursion}
use Rattle.cc_model.specs.Record.{Record, of_group}
use Rattle.cc_model.specs.Items.{known_at, handed_to_all, entries}
use Rattle.cc_model.specs.Legal.{IsSenders, IsReceivers, CountsFrom, send_numbers}
use Rattle.cc_runs.specs.Names.{Config, Pass, Call, Entry, Served, Chain, Phase}
use Rattle.cc_runs.specs.State.{State, chain_of, pass_at}
use Rattle.cc_runs.specs.Run.{passes, IsOn, IsIdle}
use Rattle.cc_runs.specs.Words.{groups}
use Rattle.cc_runs.proofs.Chains.Serving.{taken_chain}
use Rattle.cc_runs.proofs.ListRuns.Fits.{FitsTag}
use Rattle.cc_runs.proofs.ListRuns.Facts.{lists}

-- a send carries the number of sends that its pass began, another call carries 0
abbrev pub HasNumber : Call → ℕ → ℕ → Type 0
HasNumber (Call.Send body) number begun = number ≡ begun
HasNumber _ number begun = number ≡ 0

-- a call that pass p of chain x has begun, and that hasn't exchanged
pub record Begun (h : Record) (x : Chain) (pass : Pass) (begun : ℕ) (e : Entry) : Type 0 where
  pub pass_is : e.pass ≡ pass
  pub on : IsOn Served.List x e.call
  pub number_is : HasNumber e.call e.number begun
  pub known_in : e.known ≤ known_at pass h

-- a chain of receivers
abbrev pub IsTakes : Chain → Type 0
IsTakes Chain.Send = ⊥
IsTakes (Chain.Take g) = Unit {0}

-- at each place
abbrev pub Well : Record → Chain → Pass → ℕ → Phase → Type 0
Well h x pass begun (Phase.ResetNext e) = Begun h x pass begun e
Well h x pass begun (Phase.ResetState e) = Begun h x pass begun e
Well h x pass begun (Phase.Exchange e) = Begun h x pass begun e
Well h x pass begun (Phase.Sending job service) = x ≡ Chain.Send
Well h x pass begun (Phase.Taking job service) = IsTakes x
Well h x pass begun (Phase.Counting job service) = ⊥
Well h x pass begun _ = Unit {0}

-- 1 for a send
abbrev pub is_send : Call → ℕ
is_send (Call.Send body) = 1
is_send _ = 0

-- 1 if a send is begun and hasn't exchanged
abbrev pub waits : Phase → ℕ
waits (Phase.ResetNext e) = is_send e.call
waits (Phase.ResetState e) = is_send e.call
waits (Phase.Exchange e) = is_send e.call
waits _ = 0

pub record Posts (c : Config) (s : State) : Type 0 where
  pub well : (p : ℕ) → Well s.history (chain_of c p) (pass_at c p) (s.stand p).begun (s.stand p).phase
  pub outside : (p : ℕ) → passes (lists c) ≤ p → IsIdle (s.stand p).phase
  pub limit : (p : ℕ) → (s.stand p).begun ≤ c.per_sender
  pub sent : (p : ℕ) → p < c.senders → length (send_numbers (p + 1) s.history.sends.calls) + waits (s.stand p).phase ≡ (s.stand p).begun

-- the calls that have exchanged
pub record Calls (c : Config) (h : Record) : Type 0 where
  pub senders : AllByRecursion (λ e. IsSenders c e.pass e.call) h.sends.calls
  pub receivers : (y : ℕ) → AllByRecursion (λ e. IsReceivers c y e.pass e.call) (of_group h y).calls
  pub numbers : (s : ℕ) → CountsFrom 1 (send_numbers s h.sends.calls)
  pub small : AllByRecursion FitsTag h.sends.calls
  pub e_known : AllByRecursion (λ e. e.known ≤ handed_to_all h) h.sends.calls
  pub d_known : (y : ℕ) → AllByRecursion (λ e. e.known ≤ entries h) (of_group h y).calls

-- what each pass is
pub record OfSend (c : Config) (p : ℕ) : Type 0 where
  pub chain_is : chain_of c p ≡ Chain.Send
  pub pass_is : pass_at c p ≡ Pass.Sender (p + 1)
  pub within : p < c.senders

pub record OfTake (c : Config) (p : ℕ) : Type 0 where
  pub chain_is : chain_of c p ≡ Chain.Take ((p - c.senders) / c.receivers)
  pub pass_is : pass_at c p ≡ Pass.Receiver (p - c.senders + 1)
  pub low : c.senders ≤ p

pub of_side : (c : Config) (p : ℕ) → OfSend c p ⊎ OfTake c p
of_side c p = elim (cases_lt p c.senders) [
  | inl l ↦ let b : nat_lt p c.senders ≡ true = lt-ltb p c.senders l in inl (record {
    chain_is = ap (λ (t : Bool). cond t Chain.Send (Chain.Take ((p - c.senders) / c.receivers))) b;
    pass_is = ap (λ (t : Bool). cond t (Pass.Sender (p + 1)) (Pass.Receiver (p - c.senders + 1))) b;
    within = l;
  })
  | inr l ↦ let b : nat_lt p c.senders ≡ false = le-ltb p c.senders l in inr (record {
    chain_is = ap (λ (t : Bool). cond t Chain.Send (Chain.Take ((p - c.senders) / c.receivers))) b;
    pass_is = ap (λ (t : Bool). cond t (Pass.Sender (p + 1)) (Pass.Receiver (p - c.senders + 1))) b;
    low = l;
  })
]

-- its group is one of the configuration's
pub group_in : (c : Config) (p : ℕ) → p < passes (lists c) → OfTake c p → (p - c.senders) / c.receivers < groups c
group_in c p less of = taken_chain Served.List c p less of.low

pub all_map : {X : Type 0} (P Q : X → Type 0) (xs : List X) → ((x : X) → P x → Q x) → AllByRecursion P xs → AllByRecursion Q xs
all_map P Q [] to all = tt
all_map P Q (y ∷ xs) to all = (to y all.0, all_map P Q xs to all.1)

-- ---- a history of which more is known

begun_grows : (h later : Record) (x : Chain) (pass : Pass) (begun : ℕ) (e : Entry) → known_at pass h ≤ known_at pass later → Begun h x pass begun e → Begun later x pass begun e
begun_grows h later x pass begun e up b = record { pass_is = b.pass_is; on = b.on; number_is = b.number_is; known_in = omega (arith, b.known_in, up) }

pub well_grows : (h later : Record) (x : Chain) (pass : Pass) (begun : ℕ) (at : Phase) → known_at pass h ≤ known_at pass later → Well h x pass begun at → Well later x pass begun at
well_grows h later x pass begun at up w = grind (arith, begun_grows h later x pass begun)

pub known_grows : (h later : Record) (pass : Pass) → handed_to_all h ≤ handed_to_all later → entries h ≤ entries later → known_at pass h ≤ known_at pass later
known_grows h later pass a b = grind arith
