-- The counts of a state beside its history, but for the calls that have ended.
use Rattle.std.proofs.Common.{List, ◌≡◌, ◌⊎◌, ℕ, ◌+◌, ◌<◌, ◌≤◌, length, true, inl, inr, refl, ap, arith}
use Rattle.std.proofs.lemmas.Bool.{cases_lt}
use Rattle.std.proofs.lemmas.Option.{slice_get_within}
use Rattle.cc_model.specs.Record.{of_group}
use Rattle.cc_model.specs.Items.{accepted, is_shut, handed}
use Rattle.cc_runs.specs.Names.{Config, Entry, Chain, Phase, Sending, Job}
use Rattle.cc_runs.specs.Words.{groups}
use Rattle.cc_runs.specs.State.{State}
use Rattle.cc_runs.specs.Ready.{HasOpenCall}
use Rattle.cc_runs.specs.Counts.{counted, counted_for, mark_of}
use Rattle.cc_runs.proofs.LinkedList.Queue.{Ghosts}
use Rattle.cc_runs.proofs.LinkedList.Invariant.{LInv}
use Rattle.cc_runs.proofs.ListRuns.View.{enq_in, enq_at, regs_at, regs_of, queue_of}
use Rattle.cc_runs.proofs.ListRuns.Ties.{further, shut_number, IsTaking, shut_true}
use Rattle.cc_runs.proofs.ListRuns.Invariant.{Parts, ghosts_at}

-- ---- services, by their stages

pub data Late (at : Phase) (count : ℕ) : Type 0 where
  last : (job : Job) (node : ℕ) → at ≡ Phase.Sending job (Sending.WriteLast count node) → Late at count
  then : (job : Job) (node : ℕ) → at ≡ Phase.Sending job (Sending.WriteCount count node) → Late at count

pub late_in : (e : Entry) (from : ℕ) (job : Job) (service : Sending) → 11 ≤ (enq_in e from service).stage → (enq_in e from service).stage ≤ 12 → Late (Phase.Sending job service) (enq_in e from service).seen
late_in e from job (Sending.WriteLast count node) low high = last job node refl
late_in e from job (Sending.WriteCount count node) low high = then job node refl
late_in e from job _ low high = absurd (omega (arith, low, high))

pub late_at : (e : Entry) (from : ℕ) (at : Phase) → 11 ≤ (enq_at e from at).stage → (enq_at e from at).stage ≤ 12 → Late at (enq_at e from at).seen
late_at e from (Phase.Sending job service) low high = late_in e from job service low high
late_at e from _ low high = absurd (omega (arith, low))

-- the mark is being written
pub data Closing (at : Phase) (total : ℕ) : Type 0 where
  last : (job : Job) → at ≡ Phase.Sending job (Sending.WriteLastMark total) → Closing at total
  then : (job : Job) → at ≡ Phase.Sending job (Sending.WriteShut total) → Closing at total

pub closing_in : (e : Entry) (from : ℕ) (job : Job) (service : Sending) → 16 ≤ (enq_in e from service).stage → Closing (Phase.Sending job service) (enq_in e from service).seen
closing_in e from job (Sending.WriteLastMark total) low = last job refl
closing_in e from job (Sending.WriteShut total) low = then job refl
closing_in e from job _ low = absurd (omega (arith, low))

pub closing_at : (e : Entry) (from : ℕ) (at : Phase) → 16 ≤ (enq_at e from at).stage → Closing at (enq_at e from at).seen
closing_at e from (Phase.Sending job service) low = closing_in e from job service low
closing_at e from _ low = absurd (omega (arith, low))

-- a group's service that has begun
takes_at : (at : Phase) → 1 ≤ (regs_at at).stage → IsTaking at
takes_at at low = grind arith

-- ---- the counts

module _ (c : Config) (s : State) {nodes : List ℕ} (k : Parts c s nodes) where
  abbrev g : Ghosts
  g = ghosts_at c s k

  abbrev i : LInv c.capacity c.life (further c + 1) (queue_of s k.duty) g
  i = k.list

  abbrev pub stage : ℕ
  stage = (enq_at k.duty.e_call k.duty.from (s.stand k.duty.e_pass).phase).stage

  -- the count is that of the history, but between the link of an item and its count
  pub count_now : (stage ≤ 10) ⊎ (13 ≤ stage) → counted s ≡ length (accepted s.history)
  count_now (inl early) = omega (arith, i.words.count_is early)
  count_now (inr late) = omega (arith, i.words.count_now late)

  pub count_late : 11 ≤ stage → stage ≤ 12 → counted s + 1 ≡ length (accepted s.history)
  count_late low high = omega (arith, i.words.count_late low high)

  pub either_count : ((stage ≤ 10) ⊎ (13 ≤ stage)) ⊎ ((11 ≤ stage) × (stage ≤ 12))
  either_count = grind arith

  pub most : counted s ≤ length (accepted s.history)
  most = elim either_count [ inl now ↦ omega (arith, count_now now) | inr late ↦ omega (arith, count_late late.0 late.1) ]

  pub near : length (accepted s.history) ≤ counted s + 1
  near = elim either_count [ inl now ↦ omega (arith, count_now now) | inr late ↦ omega (arith, count_late late.0 late.1) ]

  pub mark_few : mark_of s ≤ 1
  mark_few = grind (arith, i.words.shut_is, i.branch.shut_most, i.words.shut_late)

  pub shut : mark_of s ≡ 1 → is_shut s.history ≡ true
  shut is = grind (arith, shut_true (is_shut s.history), i.words.shut_is, i.words.shut_late)

  -- a history that is shut has the mark, but between the link of the mark and its word
  pub shut_now : stage ≤ 15 → is_shut s.history ≡ true → mark_of s ≡ 1
  shut_now early is = omega (arith, i.words.shut_is early, ap (λ b. shut_number b) is)

  module _ (y : ℕ) (inside : y < groups c) where
    below : y < further c + 1
    below = omega (arith, inside, k.ties.some)

    abbrev taking : ℕ
    taking = (regs_of s.stand k.duty y).stage

    pub taken_least : length (handed s.history y) ≤ counted_for s y
    taken_least = grind (arith, i.heads.taken_is y below, i.heads.taken_late y below)

    pub taken_near : counted_for s y ≤ length (handed s.history y) + 1
    taken_near = grind (arith, i.heads.taken_is y below, i.heads.taken_late y below)

    pub taken_most : counted_for s y ≤ length (accepted s.history)
    taken_most = grind (arith, i.heads.taken_is y below, i.hands.order y below, i.heads.taken_late y below, i.takes.some_left y below)

    pub taken_open : length (handed s.history y) < counted_for s y → HasOpenCall s.history (Chain.Take y)
    taken_open ahead = elim (cases_lt taking 7) [
      | inl less ↦ absurd (omega (arith, ahead, i.heads.taken_is y below (omega (arith, less))))
      | inr more ↦
          let next = k.serving.next_take y (takes_at (s.stand (k.duty.d_pass y)).phase (omega (arith, more))) in
          slice_get_within (of_group s.history y).calls (length (of_group s.history y).answers) (k.duty.d_call y) next
    ]
