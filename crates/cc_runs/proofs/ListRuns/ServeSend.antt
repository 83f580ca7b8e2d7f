-- A step of the service of a send or a close keeps the list's invariant of the state.
use Rattle.std.proofs.Common.{◌≡◌, ◌≢◌, ℕ, List, None, inl, inr, refl, sym, ap, ◌∙◌, subst}
use Rattle.std.proofs.lemmas.Bool.{cases_eq}
use Rattle.cc_runs.specs.Names.{Config, Chain, Job, Phase, Sending, Stand}
use Rattle.cc_runs.specs.State.{State, chain_of, word_of, stored, noted}
use Rattle.cc_runs.specs.SendLines as send_side
use Rattle.cc_runs.specs.Step.{stepped_from}
use Rattle.cc_runs.specs.MachineLaws.{links}
use Rattle.cc_runs.proofs.Chains.Frame.{hold_here}
use Rattle.cc_runs.proofs.LinkedList.Queue.{Queue}
use Rattle.cc_runs.proofs.ListRuns.View.{Duty, Regs, enq_at, regs_at, regs_of, queue_from, queue_of, hold_same, hold_all}
use Rattle.cc_runs.proofs.ListRuns.Ties.{then_linked, Holds, ReadsAt, IsBegun, IsServing, IsUndecidedAt, IsTaking, IsNextSend, IsNextTake}
use Rattle.cc_runs.proofs.ListRuns.SendTurn as send_turn
use Rattle.cc_runs.proofs.ListRuns.Facts.{lists}
use Rattle.cc_runs.proofs.ListRuns.Untouched.{StillTake, send_still}
use Rattle.cc_runs.proofs.ListRuns.Invariant.{Parts}

module _ (c : Config) (s : State) (p begun own : ℕ) (job : Job) (service : Sending) (at : s.stand p ≡ record { begun = begun; node = own; phase = Phase.Sending job service }) (on : IsBegun service) {nodes : List ℕ} (k : Parts c s nodes) where
  abbrev d : Duty
  d = k.duty

  abbrev t : State
  t = stepped_from (lists c) s Chain.Send p (record { begun = begun; node = own; phase = Phase.Sending job service })

  abbrev found : ℕ
  found = s.mem (word_of (send_side.operation c job.round.at service))

  abbrev there : Phase
  there = send_side.goes c job service found

  abbrev regs : ℕ → Regs
  regs = regs_of s.stand d

  stands : (s.stand p).phase ≡ Phase.Sending job service
  stands = ap (λ (z : Stand). z.phase) at

  mine : p ≡ d.e_pass
  mine = elim (cases_eq p d.e_pass) [ inl e ↦ e | inr ne ↦ absurd (k.serving.e_only p ne (subst (λ (z : Phase). IsServing z) (sym stands) on)) ]

  stands_there : (s.stand d.e_pass).phase ≡ Phase.Sending job service
  stands_there = ap (λ (q : ℕ). (s.stand q).phase) (sym mine) ∙ stands

  turn : send_turn.Turn c (stored s.mem (send_side.operation c job.round.at service)) d regs (noted Chain.Send s.history None (send_side.decides c service found)) (then_linked nodes (links service)) there
  turn = send_turn.send_turn c s.mem d regs s.history nodes k.kept k.ties k.serving.caller job service found on refl (
    subst (λ (z : Phase). Holds c s.history nodes k.kept (queue_from s.mem d (enq_at d.e_call d.from z) regs)) stands_there k.list,
    subst (λ (z : Phase). ReadsAt c d.e_call d.from z) stands_there k.serving.reads,
    subst (λ (z : Phase). IsUndecidedAt z → IsNextSend s.history d.e_call) stands_there k.serving.next_send,
  )

  now : (t.stand d.e_pass).phase ≡ there
  now = ap (λ (q : ℕ). (t.stand q).phase) (sym mine) ∙ ap (λ (z : Stand). z.phase) (hold_here s.stand p _)

  still : StillTake there
  still = send_still c job service found

  same_regs : regs_of t.stand d ≡ regs
  same_regs = λ i y. hold_same (λ (z : Stand). regs_at z.phase) s.stand p (record { begun = begun; node = own; phase = there }) (still.regs_are ∙ ap regs_at (sym stands)) (d.d_pass y) i

  same_queue : queue_of t (record d { from = turn.from }) ≡ queue_from (stored s.mem (send_side.operation c job.round.at service)) d (enq_at d.e_call turn.from there) regs
  same_queue =
      ap (λ (z : Phase). queue_from t.mem d (enq_at d.e_call turn.from z) (regs_of t.stand d)) now
      ∙ ap (λ (r : ℕ → Regs). queue_from t.mem d (enq_at d.e_call turn.from there) r) same_regs

  pub send_serves : Parts c t (then_linked nodes (links service))
  send_serves = record {
    duty = record d { from = turn.from };
    kept = turn.told;
    list = subst (λ (v : Queue). Holds c t.history (then_linked nodes (links service)) turn.told v) (sym same_queue) turn.list;
    serving = record {
      e_only = hold_all (λ (q : ℕ) (z : Stand). q ≢ d.e_pass → IsServing z.phase → ⊥) s.stand p _ (λ ne u. ne mine) (λ q ne n u. k.serving.e_only q n u);
      d_mine = k.serving.d_mine;
      d_only = λ y. hold_all (λ (q : ℕ) (z : Stand). chain_of c q ≡ Chain.Take y → q ≢ d.d_pass y → IsTaking z.phase → ⊥) s.stand p _ (λ e ne u. still.takes u) (λ q ne e n u. k.serving.d_only y q e n u);
      caller = k.serving.caller;
      reads = subst (λ (z : Phase). ReadsAt c d.e_call turn.from z) (sym now) turn.reads;
      next_send = subst (λ (z : Phase). IsUndecidedAt z → IsNextSend t.history d.e_call) (sym now) turn.next_call;
      next_take = λ y. hold_all (λ (q : ℕ) (z : Stand). q ≡ d.d_pass y → IsTaking z.phase → IsNextTake t.history y (d.d_call y)) s.stand p _ (λ e u. absurd (still.takes u))
          (λ q ne e u. k.serving.next_take y (subst (λ (j : ℕ). IsTaking (s.stand j).phase) e u)) (d.d_pass y) refl;
    };
    ties = turn.ties;
  }
