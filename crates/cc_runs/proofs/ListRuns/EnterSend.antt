-- A service begins: the last word of a sender's request is loaded.
use Rattle.std.proofs.Common.{List, ◌≡◌, ◌≢◌, ℕ, ◌+◌, ◌<◌, ◌≤◌, refl, sym, ap, ◌∙◌, subst, arith}
use Rattle.cc_model.specs.Items.{handed_to_all}
use Rattle.cc_runs.specs.Names.{Config, Entry, Chain, NodeField, Word, Job, Phase, Sending, Stand, Request}
use Rattle.cc_runs.specs.State.{State, chain_of, hold}
use Rattle.cc_runs.specs.Codes.{request_in, further_words, word, with_asked}
use Rattle.cc_runs.proofs.Bodies.{few_further}
use Rattle.cc_runs.proofs.ReadWords.{next_word}
use Rattle.cc_runs.proofs.Chains.Registers.{HasAsked, HasRequest}
use Rattle.cc_runs.specs.Run.{IsIdle, passes}
use Rattle.cc_runs.proofs.Chains.Frame.{hold_here}
use Rattle.cc_runs.proofs.LinkedList.Queue.{Queue}
use Rattle.cc_runs.proofs.ListRuns.SendKeeps as keeps
use Rattle.cc_runs.proofs.ListRuns.View.{Duty, Regs, enq_in, enq_at, regs_at, regs_of, queue_from, queue_of, hold_same, hold_all}
use Rattle.cc_runs.proofs.ListRuns.Ties.{Holds, further, ReadsAt, IsBegun, IsServing, IsTaking, IsNextSend, IsNextTake}
use Rattle.cc_runs.proofs.ListRuns.SendTurn.{Caller}
use Rattle.cc_runs.proofs.ListRuns.Facts.{lists, IsSending, ChainFacts}
use Rattle.cc_runs.proofs.ListRuns.Invariant.{Parts, ghosts_at, parts_least}

-- if nothing is served the stage is 0
begun_or_none : (e : Entry) (from : ℕ) (service : Sending) → (IsBegun service → ⊥) → (enq_in e from service).stage ≡ 0
begun_or_none e from service not = grind arith

stage_none : (e : Entry) (from : ℕ) (at : Phase) → (IsServing at → ⊥) → (enq_at e from at).stage ≡ 0
stage_none e from (Phase.Sending job service) not = begun_or_none e from service not
stage_none e from _ not = refl

serving_sends : (at : Phase) → IsServing at → IsSending at
serving_sends at u = grind arith

idle_serves : (at : Phase) → IsIdle at → IsServing at → ⊥
idle_serves at idle u = grind arith

module _ (c : Config) (s : State) (p begun own : ℕ) (job : Job) (request : Request) (i : ℕ) (last : further_words request.tag ≤ i) (stands : (s.stand p).phase ≡ Phase.Sending job (Sending.ReadBody request i)) (within : p < passes (lists c)) (facts : ChainFacts (lists c) s)
    (outside : (q : ℕ) → passes (lists c) ≤ q → IsIdle (s.stand q).phase) (callers : (e : Entry) → IsNextSend s.history e → Caller c e × (e.known ≤ handed_to_all s.history)) {nodes : List ℕ} (k : Parts c s nodes) where
  abbrev d : Duty
  d = k.duty

  abbrev found : ℕ
  found = s.mem (Word.Node Chain.Send job.round.at (NodeField.Body i))

  abbrev whole : Request
  whole = with_asked request i found

  abbrev there : Phase
  there = Phase.Sending job (Sending.ReadShut whole)

  abbrev now : Stand
  now = record { begun = begun; node = own; phase = there }

  abbrev t : State
  t = record { mem = s.mem; stand = hold s.stand p now; history = s.history }

  read : (e : Entry) × IsNextSend s.history e × HasAsked e request.tag request.body i × (i ≤ further_words request.tag) × (found ≡ word (request_in e).body i)
  read = facts.read_body p job request i within stands

  asked : HasRequest read.0 whole.tag whole.body
  asked = (read.2.0, λ j low. next_word request.body (word (request_in read.0).body) i found (omega (arith, read.3, few_further request.tag)) read.4 read.2.1 j (omega arith))

  abbrev to : Duty
  to = record { e_pass = p; e_call = read.0; from = d.from; d_pass = d.d_pass; d_call = d.d_call }

  -- no other pass serves
  alone : (q : ℕ) → p ≢ q → IsServing (s.stand q).phase → ⊥
  alone q ne u = grind (arith, facts.one_sending p q within, serving_sends, idle_serves, outside q)

  rests : IsServing (s.stand d.e_pass).phase → ⊥
  rests u = grind (arith, alone d.e_pass)

  abbrev regs : ℕ → Regs
  regs = regs_of s.stand d

  abbrev after : Queue
  after = queue_from s.mem to (enq_at to.e_call to.from there) regs

  known : read.0.known ≤ (ghosts_at c s k).least
  known = omega (arith, (callers read.0 read.1).1, parts_least c s k)

  enters : Holds c s.history nodes k.kept after
  enters = keeps.enters s.mem d to _ regs c (further c + 1) (ghosts_at c s k) whole (stage_none d.e_call d.from (s.stand d.e_pass).phase rests) refl known refl k.list

  here : (t.stand p).phase ≡ there
  here = ap (λ (z : Stand). z.phase) (hold_here s.stand p now)

  same_regs : regs_of t.stand to ≡ regs
  same_regs = λ i y. hold_same (λ (z : Stand). regs_at z.phase) s.stand p now (ap regs_at (sym stands)) (d.d_pass y) i

  same_queue : queue_of t to ≡ after
  same_queue =
      ap (λ (z : Phase). queue_from t.mem to (enq_at to.e_call to.from z) (regs_of t.stand to)) here
      ∙ ap (λ (r : ℕ → Regs). queue_from t.mem to (enq_at to.e_call to.from there) r) same_regs

  list : Holds c s.history nodes k.kept (queue_of t to)
  list = subst (λ (v : Queue). Holds c s.history nodes k.kept v) (sym same_queue) enters

  pub send_enters : Parts c t nodes
  send_enters = record {
    duty = to;
    kept = k.kept;
    list = list;
    serving = record {
      e_only = hold_all (λ (q : ℕ) (z : Stand). q ≢ p → IsServing z.phase → ⊥) s.stand p now (λ ne u. ne refl) (λ q ne n u. alone q ne u);
      d_mine = k.serving.d_mine;
      d_only = λ y. hold_all (λ (q : ℕ) (z : Stand). chain_of c q ≡ Chain.Take y → q ≢ d.d_pass y → IsTaking z.phase → ⊥) s.stand p now (λ e ne u. u) (λ q ne e n u. k.serving.d_only y q e n u);
      caller = (callers read.0 read.1).0;
      reads = subst (λ (z : Phase). ReadsAt c to.e_call to.from z) (sym here) asked;
      next_send = λ u. read.1;
      next_take = λ y. hold_all (λ (q : ℕ) (z : Stand). q ≡ d.d_pass y → IsTaking z.phase → IsNextTake s.history y (d.d_call y)) s.stand p now (λ e u. absurd u)
          (λ q ne e u. k.serving.next_take y (subst (λ (j : ℕ). IsTaking (s.stand j).phase) e u)) (d.d_pass y) refl;
    };
    ties = k.ties;
  }
