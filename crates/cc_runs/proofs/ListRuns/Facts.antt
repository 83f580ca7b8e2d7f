-- The facts of the two chains that the list's invariant needs.
use Rattle.std.proofs.Common.{◌≡◌, ℕ, ◌<◌, ◌≤◌}
use Rattle.cc_runs.specs.Names.{Config, Entry, Setting, Served, Chain, NodeField, Word, Job, Phase, Sending, Taking, Request}
use Rattle.cc_runs.specs.State.{State, chain_of}
use Rattle.cc_runs.specs.Run.{passes}
use Rattle.cc_runs.specs.Codes.{request_in, further_words, word}
use Rattle.cc_runs.proofs.Chains.Registers.{HasAsked}
use Rattle.cc_runs.proofs.ListRuns.Ties.{IsTaking, IsNextSend, IsNextTake}

-- a machine whose chains serve the list
abbrev pub lists : Config → Setting
lists c = record { served = Served.List; config = c }

-- a request of a sender is in service
abbrev pub IsSending : Phase → Type 0
IsSending (Phase.Sending job service) = Unit {0}
IsSending _ = ⊥

-- One pass at most serves on each chain. A service that has loaded the words of its request has loaded those of the
-- first call without an answer; and a take that is served is one without an answer.
pub record ChainFacts (c : Setting) (s : State) : Type 0 where
  pub one_sending : (p q : ℕ) → p < passes c → q < passes c → IsSending (s.stand p).phase → IsSending (s.stand q).phase → p ≡ q
  pub one_taking : (p q : ℕ) → p < passes c → q < passes c → chain_of c.config p ≡ chain_of c.config q → IsTaking (s.stand p).phase → IsTaking (s.stand q).phase → p ≡ q
  pub read_body : (p : ℕ) (job : Job) (request : Request) (i : ℕ) → p < passes c → (s.stand p).phase ≡ Phase.Sending job (Sending.ReadBody request i)
      → (e : Entry) × IsNextSend s.history e × HasAsked e request.tag request.body i × (i ≤ further_words request.tag) × (s.mem (Word.Node Chain.Send job.round.at (NodeField.Body i)) ≡ word (request_in e).body i)
  pub read_head : (p : ℕ) (job : Job) (y : ℕ) → p < passes c → chain_of c.config p ≡ Chain.Take y → (s.stand p).phase ≡ Phase.Taking job Taking.ReadHead → (e : Entry) × IsNextTake s.history y e
