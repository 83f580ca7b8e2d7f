-- The facts that the list needs of its two chains (one service of a side at most, of the first call without an answer) hold after
-- every run; and so does the list's invariant.
use Rattle.std.proofs.Common.{◌≡◌, ℕ, suc, ◌<◌, ◌≤◌, refl, ap, ◌∙◌, subst, arith, Some, length, List, sym}
use Rattle.std.specs.List.{slice_get}
use Rattle.cc_runs.specs.Names.{Entry, Setting, Chain, NodeField, Word, Job, Sending, Taking, Phase, Request, Config, Served, Move}
use Rattle.cc_runs.specs.Codes.{request_in, further_words, word}
use Rattle.cc_runs.specs.State.{State, chain_of}
use Rattle.cc_runs.specs.Run.{passes, reached, IsRun}
use Rattle.cc_runs.proofs.Chains.Registers.{HasAsked, calls_on, answers_on, call_at}
use Rattle.cc_runs.proofs.Bodies.{few_further}
use Rattle.cc_runs.proofs.Chains.Sides.{asks_word}
use Rattle.cc_runs.proofs.Chains.Own.{sends_has}
use Rattle.cc_runs.proofs.Chains.Others.{IsOn}
use Rattle.cc_runs.proofs.Chains.Serving.{Chains, chain_is, on_chain, sending_where, next_call, next_service, next_words, chains_hold}
use Rattle.cc_runs.proofs.Ranges.{InRange}
use Rattle.cc_runs.proofs.Chains.Serving as serving
use Rattle.cc_runs.proofs.ListRuns.Ties.{IsTaking}
use Rattle.cc_runs.proofs.ListRuns.Facts.{lists, IsSending, ChainFacts}
use Rattle.cc_runs.proofs.ListRuns.Runs.{AfterRun, after_run}

module _ (c : Setting) (s : State) (k : Chains c s) (p : ℕ) (job : Job) (less : p < passes c) where
  -- the request's tag is read, and words of its body, and another one is about to be
  read_body : (request : Request) (i : ℕ) → (s.stand p).phase ≡ Phase.Sending job (Sending.ReadBody request i) →
      (e : Entry) × (slice_get s.history.sends.calls (length s.history.sends.answers) ≡ Some e) × HasAsked e request.tag request.body i × (i ≤ further_words request.tag) × (s.mem (Word.Node Chain.Send job.round.at (NodeField.Body i)) ≡ word (request_in e).body i)
  read_body request i is =
      let on : IsOn c Chain.Send p = subst (λ (y : Chain). IsOn c y p) (sending_where c s k p job (Sending.ReadBody request i) less is).1 (on_chain c p less) in
      let e : Entry = call_at s.history.sends.calls (length s.history.sends.answers) in
      let has : HasAsked e request.tag request.body i × (i ≤ further_words request.tag) =
      sends_has c.served Chain.Send (HasAsked e request.tag request.body i × (i ≤ further_words request.tag)) (next_service c s k Chain.Send tt p on (Phase.Sending job (Sending.ReadBody request i)) job is (λ own. refl) e refl) in
      let low : i ≤ further_words (request_in e).tag = omega (arith, has.1, ap further_words has.0.0) in (
        e,
        next_call c s k Chain.Send tt p on (Phase.Sending job (Sending.ReadBody request i)) job is (λ own. refl),
        has.0,
        has.1,
        next_words c s k Chain.Send tt p on (Phase.Sending job (Sending.ReadBody request i)) job is (λ own. refl) (suc i) (omega (arith, low)) ∙ asks_word (request_in e) i (omega (arith, low, few_further (request_in e).tag)),
      )

  -- a take is in service
  serves_take : (service : Taking) → (s.stand p).phase ≡ Phase.Taking job service → (e : Entry) × (slice_get (calls_on (chain_of c.config p) s.history) (length (answers_on (chain_of c.config p) s.history)) ≡ Some e)
  serves_take service is =
      (call_at (calls_on (chain_of c.config p) s.history) (length (answers_on (chain_of c.config p) s.history)), next_call c s k (chain_of c.config p) (chain_is c p less) p (on_chain c p less) (Phase.Taking job service) job is (λ own. refl))

sending_is : (at : Phase) → IsSending at → (job : Job) × (service : Sending) × (at ≡ Phase.Sending job service)
sending_is at u = grind arith

taking_is : (at : Phase) → IsTaking at → (job : Job) × (service : Taking) × (at ≡ Phase.Taking job service)
taking_is at u = grind arith

pub chain_facts : (c : Config) → InRange c → (moves : List Move) → IsRun (lists c) moves → ChainFacts (lists c) (reached (lists c) moves)
chain_facts c fits moves run =
    let s : State = reached (lists c) moves in
    let k : Chains (lists c) (reached (lists c) moves) = chains_hold (lists c) (omega (arith, fits.bound)) moves run in
    record {
      one_sending = λ p q a b u v.
          let x : (job : Job) × (service : Sending) × (((reached (lists c) moves).stand p).phase ≡ Phase.Sending job service) = sending_is ((reached (lists c) moves).stand p).phase u in
          let y : (job : Job) × (service : Sending) × (((reached (lists c) moves).stand q).phase ≡ Phase.Sending job service) = sending_is ((reached (lists c) moves).stand q).phase v in
          serving.one_sending (lists c) (reached (lists c) moves) k p q x.0 y.0 x.1 y.1 a b x.2 y.2;
      one_taking = λ p q a b same u v.
          let x : (job : Job) × (service : Taking) × (((reached (lists c) moves).stand p).phase ≡ Phase.Taking job service) = taking_is ((reached (lists c) moves).stand p).phase u in
          let y : (job : Job) × (service : Taking) × (((reached (lists c) moves).stand q).phase ≡ Phase.Taking job service) = taking_is ((reached (lists c) moves).stand q).phase v in
          serving.one_taking (lists c) (reached (lists c) moves) k p q x.0 y.0 x.1 y.1 a b same x.2 y.2;
      read_body = λ p job request i less is. read_body (lists c) (reached (lists c) moves) k p job less request i is;
      read_head = λ p job y less chain is.
          subst (λ (z : Chain). (e : Entry) × (slice_get (calls_on z (reached (lists c) moves).history) (length (answers_on z (reached (lists c) moves).history)) ≡ Some e)) chain
          (serves_take (lists c) (reached (lists c) moves) k p job less Taking.ReadHead is);
    }

-- the invariant after every run of such a machine
pub after_runs : (c : Config) → InRange c → (moves : List Move) → IsRun (lists c) moves → AfterRun c moves
after_runs c fits moves run = after_run c fits (λ m r. chain_facts c fits m r) moves run

-- a setting whose chains serve the list is given by its configuration
pub of_setting : (P : Setting → Type 0) (c : Setting) → c.served ≡ Served.List → P (lists c.config) → P c
of_setting P c e h = subst P (sym (ap (λ (z : Served). record { served = z; config = c.config }) e)) h
