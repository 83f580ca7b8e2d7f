-- The list's invariant of a state, and the moves that it doesn't see.
use Rattle.std.proofs.Common.{◌≡◌, ◌≢◌, ℕ, ◌+◌, List, length, refl, sym, ap, ◌∙◌, subst, arith}
use Rattle.cc_model.specs.Record.{Record}
use Rattle.cc_model.specs.Items.{handed, handed_to_all}
use Rattle.cc_runs.specs.Names.{Config, Entry, Word, Stand, Chain}
use Rattle.cc_runs.specs.State.{State, chain_of, hold}
use Rattle.cc_runs.proofs.LinkedList.Queue.{Enq, Queue, Ghosts}
use Rattle.cc_runs.proofs.LinkedList.Grow.{Kept}
use Rattle.cc_runs.proofs.LinkedList.Invariant.{LInv}
use Rattle.cc_runs.proofs.ListRuns.View.{Duty, Regs, enq_at, regs_at, regs_of, queue_from, queue_of, hold_same, hold_all}
use Rattle.cc_runs.proofs.ListRuns.Ties.{Ties, Holds, ghosts, further, ReadsAt, IsServing, IsUndecidedAt, IsTaking, IsNextSend, IsNextTake}
use Rattle.cc_runs.proofs.ListRuns.Least.{least_of_groups}
use Rattle.cc_runs.proofs.ListRuns.SendTurn.{Caller}
use Rattle.cc_runs.proofs.ListRuns.Untouched.{StillSend, StillTake}

-- who serves, and what
pub record Serving (c : Config) (s : State) (d : Duty) : Type 0 where
  pub e_only : (q : ℕ) → q ≢ d.e_pass → IsServing (s.stand q).phase → ⊥
  pub d_mine : (y : ℕ) → chain_of c (d.d_pass y) ≡ Chain.Take y
  pub d_only : (y q : ℕ) → chain_of c q ≡ Chain.Take y → q ≢ d.d_pass y → IsTaking (s.stand q).phase → ⊥
  pub caller : Caller c d.e_call
  pub reads : ReadsAt c d.e_call d.from (s.stand d.e_pass).phase
  pub next_send : IsUndecidedAt (s.stand d.e_pass).phase → IsNextSend s.history d.e_call
  pub next_take : (y : ℕ) → IsTaking (s.stand (d.d_pass y)).phase → IsNextTake s.history y (d.d_call y)

-- the list's invariant, and what ties it to the state
pub record Parts (c : Config) (s : State) (nodes : List ℕ) : Type 0 where
  pub duty : Duty
  pub kept : Kept
  pub list : Holds c s.history nodes kept (queue_of s duty)
  pub serving : Serving c s duty
  pub ties : Ties c s.history nodes kept

-- the ghosts of a state
abbrev pub ghosts_at : (c : Config) (s : State) {nodes : List ℕ} → Parts c s nodes → Ghosts
ghosts_at c s {nodes} k = ghosts c s.history nodes k.kept

-- the least number handed out
pub parts_least : (c : Config) (s : State) {nodes : List ℕ} (k : Parts c s nodes) → (ghosts_at c s k).least ≡ handed_to_all s.history
parts_least c s {nodes} k = least_of_groups s.history (further c) (λ y. length (handed s.history y)) (omega (arith, k.ties.many, k.ties.some)) (λ y. refl)

-- ---- a move of pass p that touches no word of the list and is outside both services before and after

module _ (c : Config) (s : State) (p : ℕ) (now : Stand) (mem' : Word → ℕ) (later : Record) {nodes : List ℕ} (k : Parts c s nodes)
    (before_send : StillSend (s.stand p).phase) (before_take : StillTake (s.stand p).phase) (after_send : StillSend now.phase) (after_take : StillTake now.phase)
    (words : (d : Duty) (e : Enq) (r : ℕ → Regs) → queue_from mem' d e r ≡ queue_from s.mem d e r)
    (next_send : (e : Entry) → IsNextSend s.history e → IsNextSend later e) (next_take : (y : ℕ) (e : Entry) → IsNextTake s.history y e → IsNextTake later y e)
    (tied : (kept : Kept) → Ties c s.history nodes kept → Ties c later nodes kept × (ghosts c later nodes kept ≡ ghosts c s.history nodes kept)) where
  abbrev t : State
  t = record { mem = mem'; stand = hold s.stand p now; history = later }

  abbrev d : Duty
  d = k.duty

  same_enq : enq_at d.e_call d.from (t.stand d.e_pass).phase ≡ enq_at d.e_call d.from (s.stand d.e_pass).phase
  same_enq = hold_same (λ (z : Stand). enq_at d.e_call d.from z.phase) s.stand p now (after_send.enq_is d.e_call d.from ∙ sym (before_send.enq_is d.e_call d.from)) d.e_pass

  same_regs : regs_of t.stand d ≡ regs_of s.stand d
  same_regs = λ i y. hold_same (λ (z : Stand). regs_at z.phase) s.stand p now (after_take.regs_are ∙ sym before_take.regs_are) (d.d_pass y) i

  same_queue : queue_of t d ≡ queue_of s d
  same_queue =
      ap (λ (e : Enq). queue_from mem' d e (regs_of t.stand d)) same_enq
      ∙ ap (λ (r : ℕ → Regs). queue_from mem' d (enq_at d.e_call d.from (s.stand d.e_pass).phase) r) same_regs
      ∙ words d (enq_at d.e_call d.from (s.stand d.e_pass).phase) (regs_of s.stand d)

  pub quiet : Parts c t nodes
  quiet = record {
    duty = d;
    kept = k.kept;
    list = subst (λ (g : Ghosts). LInv c.capacity c.life (further c + 1) (queue_of t d) g) (sym (tied k.kept k.ties).1) (subst (λ (v : Queue). Holds c s.history nodes k.kept v) (sym same_queue) k.list);
    serving = record {
      e_only = λ q ne serves. hold_all (λ (q : ℕ) (z : Stand). q ≢ d.e_pass → IsServing z.phase → ⊥) s.stand p now (λ n u. after_send.serves u) (λ q ne n u. k.serving.e_only q n u) q ne serves;
      d_mine = k.serving.d_mine;
      d_only = λ y q chain ne takes. hold_all (λ (q : ℕ) (z : Stand). chain_of c q ≡ Chain.Take y → q ≢ d.d_pass y → IsTaking z.phase → ⊥) s.stand p now (λ e n u. after_take.takes u) (λ q ne e n u. k.serving.d_only y q e n u) q chain ne takes;
      caller = k.serving.caller;
      reads = hold_all (λ (q : ℕ) (z : Stand). q ≡ d.e_pass → ReadsAt c d.e_call d.from z.phase) s.stand p now (λ e. after_send.reads c d.e_call d.from)
          (λ q ne e. subst (λ (j : ℕ). ReadsAt c d.e_call d.from (s.stand j).phase) (sym e) k.serving.reads) d.e_pass refl;
      next_send = hold_all (λ (q : ℕ) (z : Stand). q ≡ d.e_pass → IsUndecidedAt z.phase → IsNextSend later d.e_call) s.stand p now (λ e u. absurd (after_send.open_send u))
          (λ q ne e u. next_send d.e_call (k.serving.next_send (subst (λ (j : ℕ). IsUndecidedAt (s.stand j).phase) e u))) d.e_pass refl;
      next_take = λ y. hold_all (λ (q : ℕ) (z : Stand). q ≡ d.d_pass y → IsTaking z.phase → IsNextTake later y (d.d_call y)) s.stand p now (λ e u. absurd (after_take.takes u))
          (λ q ne e u. next_take y (d.d_call y) (k.serving.next_take y (subst (λ (j : ℕ). IsTaking (s.stand j).phase) e u))) (d.d_pass y) refl;
    };
    ties = (tied k.kept k.ties).0;
  }
