-- A step of the service of a take of a group keeps the list's invariant of the state.
use Rattle.std.proofs.Common.{List, ◌≡◌, ◌≢◌, ◌<◌, ℕ, Some, length, None, inl, inr, refl, sym, ap, ◌∙◌, subst}
use Rattle.std.proofs.lemmas.Bool.{cases_eq}
use Rattle.std.specs.List.{slice_get}
use Rattle.cc_model.specs.Record.{Side}
use Rattle.cc_runs.specs.Names.{Config, Chain, Job, Phase, Taking, Stand}
use Rattle.cc_runs.specs.State.{State, chain_of, word_of, stored, noted}
use Rattle.cc_runs.specs.Words.{groups}
use Rattle.cc_runs.specs.Lines.{group_of}
use Rattle.cc_runs.specs.TakeLines as take_side
use Rattle.cc_runs.specs.Step.{stepped_from}
use Rattle.cc_runs.proofs.Chains.Frame.{hold_here}
use Rattle.cc_runs.proofs.LinkedList.Queue.{Enq, Queue}
use Rattle.cc_runs.proofs.ListRuns.View.{Duty, enq_at, regs_at, regs_of, queue_from, hold_other, hold_same, hold_all}
use Rattle.cc_runs.proofs.ListRuns.Ties.{Holds, ReadsAt, IsServing, IsUndecidedAt, IsTaking, IsNextSend, IsNextTake}
use Rattle.cc_runs.proofs.ListRuns.Decided.{group_other}
use Rattle.cc_runs.proofs.ListRuns.TakeTurn as take_turn
use Rattle.cc_runs.proofs.ListRuns.Facts.{lists}
use Rattle.cc_runs.proofs.ListRuns.Untouched.{StillSend, take_still}
use Rattle.cc_runs.proofs.ListRuns.Invariant.{Parts}

module _ (c : Config) (s : State) (p begun own y : ℕ) (chain : chain_of c p ≡ Chain.Take y) (inside : y < groups c) (job : Job) (service : Taking) (at : s.stand p ≡ record { begun = begun; node = own; phase = Phase.Taking job service }) {nodes : List ℕ} (k : Parts c s nodes) where
  abbrev d : Duty
  d = k.duty

  abbrev t : State
  t = stepped_from (lists c) s (Chain.Take y) p (record { begun = begun; node = own; phase = Phase.Taking job service })

  abbrev found : ℕ
  found = s.mem (word_of (take_side.operation y service))

  abbrev there : Phase
  there = take_side.goes job service found

  abbrev enq : Enq
  enq = enq_at d.e_call d.from (s.stand d.e_pass).phase

  stands : (s.stand p).phase ≡ Phase.Taking job service
  stands = ap (λ (z : Stand). z.phase) at

  mine : p ≡ d.d_pass y
  mine = elim (cases_eq p (d.d_pass y)) [ inl e ↦ e | inr ne ↦ absurd (k.serving.d_only y p chain ne (subst (λ (z : Phase). IsTaking z) (sym stands) tt)) ]

  -- the others' services are of other passes
  apart : (q : ℕ) → q ≢ y → p ≢ d.d_pass q
  apart q ne same = ne (ap group_of (sym (k.serving.d_mine q) ∙ ap (λ (z : ℕ). chain_of c z) (sym same) ∙ chain))

  stands_there : (s.stand (d.d_pass y)).phase ≡ Phase.Taking job service
  stands_there = ap (λ (q : ℕ). (s.stand q).phase) (sym mine) ∙ stands

  next : IsNextTake s.history y (d.d_call y)
  next = k.serving.next_take y (subst (λ (z : Phase). IsTaking z) (sym stands_there) tt)

  now : (t.stand (d.d_pass y)).phase ≡ there
  now = ap (λ (q : ℕ). (t.stand q).phase) (sym mine) ∙ ap (λ (z : Stand). z.phase) (hold_here s.stand p _)

  same : (q : ℕ) → q ≢ y → regs_of t.stand d q ≡ regs_of s.stand d q
  same q ne = ap (λ (z : Stand). regs_at z.phase) (hold_other s.stand p (d.d_pass q) _ (apart q ne))

  turn : take_turn.Turn c (stored s.mem (take_side.operation y service)) d enq y (regs_of t.stand d) (noted (Chain.Take y) s.history None (take_side.decides service found)) nodes k.kept there
  turn = take_turn.take_turn c s.mem d enq s.history nodes k.kept k.ties y inside next job (regs_of s.stand d) (regs_of t.stand d) same k.list service found refl (ap regs_at stands_there) (ap regs_at now)

  still : StillSend there
  still = take_still job service found

  same_enq : enq_at d.e_call d.from (t.stand d.e_pass).phase ≡ enq
  same_enq = hold_same (λ (z : Stand). enq_at d.e_call d.from z.phase) s.stand p _ (still.enq_is d.e_call d.from ∙ ap (λ (z : Phase). enq_at d.e_call d.from z) (sym stands)) d.e_pass

  -- of the other groups nothing is decided
  next_others : (x : ℕ) → x ≢ y → IsTaking (t.stand (d.d_pass x)).phase → IsNextTake t.history x (d.d_call x)
  next_others x ne u =
      subst (λ (z : Side). slice_get z.calls (length z.answers) ≡ Some (d.d_call x)) (sym (group_other s.history y x _ ne))
      (k.serving.next_take x (subst (λ (z : Stand). IsTaking z.phase) (hold_other s.stand p (d.d_pass x) _ (apart x ne)) u))

  pub take_serves : Parts c t nodes
  take_serves = record {
    duty = d;
    kept = k.kept;
    list = subst (λ (v : Queue). Holds c t.history nodes k.kept v) (sym (ap (λ (e : Enq). queue_from t.mem d e (regs_of t.stand d)) same_enq)) turn.list;
    serving = record {
      e_only = hold_all (λ (q : ℕ) (z : Stand). q ≢ d.e_pass → IsServing z.phase → ⊥) s.stand p _ (λ ne u. still.serves u) (λ q ne n u. k.serving.e_only q n u);
      d_mine = k.serving.d_mine;
      d_only = λ x. hold_all (λ (q : ℕ) (z : Stand). chain_of c q ≡ Chain.Take x → q ≢ d.d_pass x → IsTaking z.phase → ⊥) s.stand p _
          (λ e ne u. ne (mine ∙ ap d.d_pass (ap group_of (sym chain ∙ e)))) (λ q ne e n u. k.serving.d_only x q e n u);
      caller = k.serving.caller;
      reads = hold_all (λ (q : ℕ) (z : Stand). q ≡ d.e_pass → ReadsAt c d.e_call d.from z.phase) s.stand p _ (λ e. still.reads c d.e_call d.from)
          (λ q ne e. subst (λ (j : ℕ). ReadsAt c d.e_call d.from (s.stand j).phase) (sym e) k.serving.reads) d.e_pass refl;
      next_send = hold_all (λ (q : ℕ) (z : Stand). q ≡ d.e_pass → IsUndecidedAt z.phase → IsNextSend t.history d.e_call) s.stand p _ (λ e u. absurd (still.open_send u))
          (λ q ne e u. k.serving.next_send (subst (λ (j : ℕ). IsUndecidedAt (s.stand j).phase) e u)) d.e_pass refl;
      next_take = λ x. elim (cases_eq x y) [
        | inl same ↦ subst (λ (z : ℕ). IsTaking (t.stand (d.d_pass z)).phase → IsNextTake t.history z (d.d_call z)) (sym same) (subst (λ (z : Phase). IsTaking z → IsNextTake t.history y (d.d_call y)) (sym now) turn.next_call)
        | inr ne ↦ next_others x ne
      ];
    };
    ties = turn.ties;
  }
