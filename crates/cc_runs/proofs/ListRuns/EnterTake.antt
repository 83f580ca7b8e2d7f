-- A service begins: the combiner of a group's takes finds the link to the node after the one that it serves.
use Rattle.std.proofs.lemmas.Bool.{cases_eq}
use Rattle.std.proofs.Common.{List, ◌≡◌, ◌≢◌, ℕ, ◌+◌, ◌<◌, ◌≤◌, refl, sym, ap, ◌∙◌, subst, arith, inl, inr}
use Rattle.cc_model.specs.Items.{entries}
use Rattle.cc_runs.specs.Names.{Config, Entry, Job, Round, Phase, Taking, Stand, Chain}
use Rattle.cc_runs.specs.State.{State, chain_of, hold}
use Rattle.cc_runs.specs.Words.{groups}
use Rattle.cc_runs.specs.Lines.{group_of}
use Rattle.cc_runs.specs.Run.{IsIdle, passes}
use Rattle.cc_runs.proofs.Changed.{changed, changed_here, changed_away, changed_all}
use Rattle.cc_runs.proofs.Chains.Frame.{hold_here}
use Rattle.cc_runs.proofs.LinkedList.Queue.{Enq, Queue}
use Rattle.cc_runs.proofs.ListRuns.TakeKeeps as keeps
use Rattle.cc_runs.proofs.ListRuns.View.{Duty, enq_at, regs_at, regs_of, queue_from, queue_of, hold_other, hold_same, hold_all}
use Rattle.cc_runs.proofs.ListRuns.Ties.{Holds, further, ReadsAt, IsServing, IsUndecidedAt, IsTaking, IsNextSend, IsNextTake}
use Rattle.cc_runs.proofs.ListRuns.Facts.{lists, ChainFacts}
use Rattle.cc_runs.proofs.ListRuns.Invariant.{Parts, ghosts_at}

idle_takes : (at : Phase) → IsIdle at → IsTaking at → ⊥
idle_takes at idle u = grind arith

-- if no take is served the stage is 0
take_regs_none : (at : Phase) → (IsTaking at → ⊥) → (regs_at at).stage ≡ 0
take_regs_none at not = grind arith

module _ (c : Config) (s : State) (p begun own y : ℕ) (chain : chain_of c p ≡ Chain.Take y) (inside : y < groups c) (round : Round) (next : ℕ) (stands : (s.stand p).phase ≡ Phase.ReadNext round) (within : p < passes (lists c))
    (outside : (q : ℕ) → passes (lists c) ≤ q → IsIdle (s.stand q).phase) (callers : (e : Entry) → IsNextTake s.history y e → e.known ≤ entries s.history) {nodes : List ℕ} (k : Parts c s nodes) where
  abbrev d : Duty
  d = k.duty

  abbrev job : Job
  job = record { round = round; next = next }

  abbrev there : Phase
  there = Phase.Taking job Taking.ReadHead

  abbrev now : Stand
  now = record { begun = begun; node = own; phase = there }

  abbrev t : State
  t = record { mem = s.mem; stand = hold s.stand p now; history = s.history }

  module _ (facts : ChainFacts (lists c) t) where
    here : (t.stand p).phase ≡ there
    here = ap (λ (z : Stand). z.phase) (hold_here s.stand p now)

    read : (e : Entry) × IsNextTake s.history y e
    read = facts.read_head p job y within chain here

    abbrev to : Duty
    to = record { e_pass = d.e_pass; e_call = d.e_call; from = d.from; d_pass = changed d.d_pass y p; d_call = changed d.d_call y read.0 }

    -- no other pass of the group takes
    alone : (q : ℕ) → chain_of c q ≡ Chain.Take y → p ≢ q → IsTaking (s.stand q).phase → ⊥
    alone q on ne u = grind (arith, facts.one_taking p q within, here, hold_other, idle_takes, outside q)

    rests : IsTaking (s.stand (d.d_pass y)).phase → ⊥
    rests u = grind (arith, alone (d.d_pass y) (k.serving.d_mine y))

    abbrev enq : Enq
    enq = enq_at d.e_call d.from (s.stand d.e_pass).phase

    abbrev after : Queue
    after = queue_from s.mem to enq (regs_of t.stand to)

    mine : changed d.d_pass y p y ≡ p
    mine = changed_here d.d_pass y p y refl

    apart : (q : ℕ) → q ≢ y → p ≢ d.d_pass q
    apart q ne same = ne (ap group_of (sym (k.serving.d_mine q) ∙ ap (λ (z : ℕ). chain_of c z) (sym same) ∙ chain))

    stand_away : (q : ℕ) → q ≢ y → t.stand (changed d.d_pass y p q) ≡ s.stand (d.d_pass q)
    stand_away q ne = ap t.stand (changed_away d.d_pass y p q ne) ∙ hold_other s.stand p (d.d_pass q) now (apart q ne)

    stand_mine : (t.stand (changed d.d_pass y p y)).phase ≡ there
    stand_mine = ap (λ (z : ℕ). (t.stand z).phase) mine ∙ here

    call_is : changed d.d_call y read.0 y ≡ read.0
    call_is = changed_here d.d_call y read.0 y refl

    enters : Holds c s.history nodes k.kept after
    enters = keeps.enters s.mem d to enq (regs_of s.stand d) (regs_of t.stand to) c (further c + 1) (ghosts_at c s k) y (λ q ne. (ap (λ (z : Stand). regs_at z.phase) (stand_away q ne), changed_away d.d_call y read.0 q ne))
        (take_regs_none (s.stand (d.d_pass y)).phase rests) (ap regs_at stand_mine) (let same : (changed d.d_call y read.0 y).known ≡ read.0.known = ap (λ (z : Entry). z.known) call_is in omega (arith, same, callers read.0 read.1)) k.list

    same_enq : enq_at d.e_call d.from (t.stand d.e_pass).phase ≡ enq
    same_enq = hold_same (λ (z : Stand). enq_at d.e_call d.from z.phase) s.stand p now (ap (λ (z : Phase). enq_at d.e_call d.from z) (sym stands)) d.e_pass

    same_queue : queue_of t to ≡ after
    same_queue = ap (λ (e : Enq). queue_from t.mem to e (regs_of t.stand to)) same_enq

    next_at : (x : ℕ) → IsTaking (t.stand (changed d.d_pass y p x)).phase → IsNextTake s.history x (changed d.d_call y read.0 x)
    next_at x = elim (cases_eq x y) [
      | inl same ↦ λ u. subst (λ (z : ℕ). IsNextTake s.history z (changed d.d_call y read.0 z)) (sym same) (subst (λ (e : Entry). IsNextTake s.history y e) (sym call_is) read.1)
      | inr ne ↦ λ u. subst (λ (e : Entry). IsNextTake s.history x e) (sym (changed_away d.d_call y read.0 x ne)) (k.serving.next_take x (subst (λ (z : Stand). IsTaking z.phase) (stand_away x ne) u))
    ]

    only : (x q : ℕ) → chain_of c q ≡ Chain.Take x → q ≢ changed d.d_pass y p x → IsTaking (t.stand q).phase → ⊥
    only x = hold_all (λ (q : ℕ) (z : Stand). chain_of c q ≡ Chain.Take x → q ≢ changed d.d_pass y p x → IsTaking z.phase → ⊥) s.stand p now
        (λ e ne u. ne (sym mine ∙ ap (changed d.d_pass y p) (ap group_of (sym chain ∙ e))))
        (λ q off e. grind (arith, alone q, k.serving.d_only x q e, changed_away d.d_pass y p x))

    pub take_enters : Parts c t nodes
    take_enters = record {
      duty = to;
      kept = k.kept;
      list = subst (λ (v : Queue). Holds c s.history nodes k.kept v) (sym same_queue) enters;
      serving = record {
        e_only = hold_all (λ (q : ℕ) (z : Stand). q ≢ d.e_pass → IsServing z.phase → ⊥) s.stand p now (λ ne u. u) (λ q ne n u. k.serving.e_only q n u);
        d_mine = changed_all (λ (x : ℕ) (q : ℕ). chain_of c q ≡ Chain.Take x) d.d_pass y p chain (λ x ne. k.serving.d_mine x);
        d_only = only;
        caller = k.serving.caller;
        reads = hold_all (λ (q : ℕ) (z : Stand). q ≡ d.e_pass → ReadsAt c d.e_call d.from z.phase) s.stand p now (λ e. tt)
            (λ q ne e. subst (λ (j : ℕ). ReadsAt c d.e_call d.from (s.stand j).phase) (sym e) k.serving.reads) d.e_pass refl;
        next_send = hold_all (λ (q : ℕ) (z : Stand). q ≡ d.e_pass → IsUndecidedAt z.phase → IsNextSend s.history d.e_call) s.stand p now (λ e u. absurd u)
            (λ q ne e u. k.serving.next_send (subst (λ (j : ℕ). IsUndecidedAt (s.stand j).phase) e u)) d.e_pass refl;
        next_take = next_at;
      };
      ties = k.ties;
    }
