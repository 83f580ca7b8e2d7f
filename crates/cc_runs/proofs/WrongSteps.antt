-- The machine as it is keeps the law that each call ends, and two others don't.
use Rattle.std.proofs.Common.{◌≡◌, ◌≢◌, ℕ, zero, suc, ◌+◌, ◌%◌, ◌<◌, ◌≤◌, Bool, true, false, ◌&&◌, ◌==◌, cond, List, [], ◌∷◌, ◌++◌, length, refl, ap, sym, ◌∙◌, subst, arith, inl, inr, eq-eqb, ne_eqb, mod-lt}
use Rattle.std.specs.List.{AllByRecursion}
use Rattle.std.proofs.lemmas.Bool.{cases_eq, and_parts}
use Rattle.cc_model.specs.Body.{body_of}
use Rattle.cc_runs.specs.Names.{Answer, SendAnswer, Call, Setting, Served, Chain, NodeField, ItemField, Word, Event, Job, Parcel, Round, Sending, Phase, Move}
use Rattle.cc_runs.specs.State.{State}
use Rattle.cc_runs.specs.Lines.{event_at}
use Rattle.cc_runs.specs.ServiceLine.{On, Decides, phase_of}
use Rattle.cc_runs.specs.SendLines.{in_service}
use Rattle.cc_runs.specs.Step.{stepped, stepped_from}
use Rattle.cc_runs.specs.OnChain.{pass_on}
use Rattle.cc_runs.specs.Passes.{by}
use Rattle.cc_runs.specs.Run.{May, IsFinished, IsRun, moved, reached}
use Rattle.cc_runs.specs.Progress.{HasStep, moves_in, AreRounds, all_rounds}
use Rattle.cc_runs.specs.SmallOrders.{small}
use Rattle.cc_runs.specs.WrongSteps.{moved_by, reached_by, IsRunBy, AreRoundsBy, EachCallEndsBy, spinning_at, spinning, scans_again, rescanning_at, rescanning, WrongSteps}
use Rattle.cc_runs.proofs.Progress.Ends.{each_call_ends}

-- ---- the machine as it is

same_move : (c : Setting) (s : State) (m : Move) → moved_by stepped c s m ≡ moved c s m
same_move c s m = grind arith

same_state : (c : Setting) (moves : List Move) → reached_by stepped c moves ≡ reached c moves
same_state c [] = refl
same_state c (m ∷ moves) = same_move c (reached_by stepped c moves) m ∙ ap (λ (s : State). moved c s m) (same_state c moves)

same_run : (c : Setting) (moves : List Move) → IsRunBy stepped c moves → IsRun c moves
same_run c [] run = tt
same_run c (m ∷ moves) run = (same_run c moves run.0, subst (λ (s : State). May c s m) (same_state c moves) run.1)

same_rounds : (c : Setting) (x : Chain) (seen : List Move) (rounds : List (List Move)) → AreRoundsBy stepped c x seen rounds → AreRounds (HasStep c x) c x seen rounds
same_rounds c x seen [] fair = tt
same_rounds c x seen (now ∷ earlier) fair = (same_rounds c x seen earlier fair.0, λ n inside has. fair.1 n inside (subst (λ (s : State). HasStep c x s n) (sym (same_state c (moves_in earlier ++ seen))) has))

right : EachCallEndsBy stepped
right c seen rounds checked run x ok n inside has fair keeps many =
    subst (λ (s : State). IsFinished (s.stand (pass_on c x n)).phase) (sym (same_state c (moves_in rounds ++ seen)))
    (each_call_ends c seen rounds checked (same_run c (moves_in rounds ++ seen) run) x ok n inside (subst (λ (s : State). HasStep c x s n) (same_state c seen) has) (same_rounds c x seen rounds fair) keeps many)

-- ---- one sender, which moves again and again

abbrev lone : Setting
lone = record { served = Served.List; config = record small { senders = 1; bound = 2 } }

abbrev steps : ℕ → List Move
steps zero = []
steps (suc k) = Move.Step 0 ∷ steps k

-- a pass has a step
abbrev steps_on : Phase → Bool
steps_on Phase.Idle = false
steps_on (Phase.Finished told) = false
steps_on _ = true

on_event : (at : Phase) → steps_on at ≡ true → event_at at ≢ Event.Idle
on_event at is = grind arith

-- rounds of one step each
abbrev lone_rounds : ℕ → List (List Move)
lone_rounds zero = []
lone_rounds (suc k) = (Move.Step 0 ∷ []) ∷ lone_rounds k

rounds_long : (k : ℕ) → length (lone_rounds k) ≡ k
rounds_long zero = refl
rounds_long (suc k) = ap suc (rounds_long k)

keeps_all : (k : ℕ) → AllByRecursion (λ m. m ≢ Move.Take 0) (moves_in (lone_rounds k))
keeps_all zero = tt
keeps_all (suc k) = ((λ e. cc), keeps_all k)

module _ (step : Setting → State → ℕ → State) where
  -- the first moves can be made
  abbrev may_all : List Move → ℕ → Bool
  may_all seen zero = true
  may_all seen (suc k) = may_all seen k && steps_on ((reached_by step lone (steps k ++ seen)).stand 0).phase

  first_run : (seen : List Move) (k : ℕ) → IsRunBy step lone seen → may_all seen k ≡ true → IsRunBy step lone (steps k ++ seen)
  first_run seen zero run all = run
  first_run seen (suc k) run all =
      let two = and_parts (may_all seen k) (steps_on ((reached_by step lone (steps k ++ seen)).stand 0).phase) all in
      (first_run seen k run two.0, (omega arith, on_event ((reached_by step lone (steps k ++ seen)).stand 0).phase two.1))

  -- a state in which the sender steps for ever
  module _ (seen : List Move) (P : State → Type 0) (busy : (s : State) → P s → steps_on (s.stand 0).phase ≡ true) (stays : (s : State) → P s → P (step lone s 0)) (run : IsRunBy step lone seen) (at_first : P (reached_by step lone seen)) where
    ever : (k : ℕ) → P (reached_by step lone (moves_in (lone_rounds k) ++ seen))
    ever zero = at_first
    ever (suc k) = stays (reached_by step lone (moves_in (lone_rounds k) ++ seen)) (ever k)

    ever_run : (k : ℕ) → IsRunBy step lone (moves_in (lone_rounds k) ++ seen)
    ever_run zero = run
    ever_run (suc k) = (ever_run k, (omega arith, on_event ((reached_by step lone (moves_in (lone_rounds k) ++ seen)).stand 0).phase (busy (reached_by step lone (moves_in (lone_rounds k) ++ seen)) (ever k))))

    ever_rounds : (k : ℕ) → AreRoundsBy step lone Chain.Send seen (lone_rounds k)
    ever_rounds zero = tt
    ever_rounds (suc k) = (ever_rounds k, λ n inside has. only n inside)
      where
        only : (n : ℕ) → n < 1 → by n (Move.Step 0 ∷ []) ≢ []
        only n inside = grind arith

    refused : ((s : State) → P s → IsFinished (s.stand 0).phase → ⊥) → EachCallEndsBy step → ⊥
    refused not_ended law =
        not_ended (reached_by step lone (moves_in (lone_rounds (all_rounds lone Chain.Send)) ++ seen)) (ever (all_rounds lone Chain.Send))
        (law lone seen (lone_rounds (all_rounds lone Chain.Send)) refl (ever_run (all_rounds lone Chain.Send)) Chain.Send tt 0 (omega arith) (on_event ((reached_by step lone seen).stand 0).phase (busy (reached_by step lone seen) at_first))
        (ever_rounds (all_rounds lone Chain.Send)) (keeps_all (all_rounds lone Chain.Send)) (omega (arith, rounds_long (all_rounds lone Chain.Send))))

-- ---- a combiner that waits for a link

abbrev a_send : List Move → List Move
a_send seen = Move.Begin 0 (Call.Send (body_of (7 ∷ []))) 0 ∷ seen

-- it has served its own call, and no further one is linked
record Spins (s : State) : Type 0 where
  round : Round
  reads : (s.stand 0).phase ≡ Phase.ReadNext round
  none : s.mem (Word.Node Chain.Send round.at NodeField.Next) ≡ 0

spins_busy : (s : State) → Spins s → steps_on (s.stand 0).phase ≡ true
spins_busy s h = ap steps_on h.reads

spins_on : (s : State) → Spins s → Spins (spinning lone s 0)
spins_on s h =
    let waits : spinning lone s 0 ≡ s = ap (λ (z : Phase). spinning_at lone s 0 z) h.reads ∙ ap (λ (b : Bool). cond b s (stepped lone s 0)) (eq-eqb (s.mem (Word.Node Chain.Send h.round.at NodeField.Next)) 0 h.none) in
    subst Spins (sym waits) h

-- a send, up to the link that isn't there
abbrev served : List Move
served = steps 25 ++ a_send []

spins : EachCallEndsBy spinning → ⊥
spins =
    refused spinning served Spins spins_busy spins_on (first_run spinning (a_send []) 25 (tt, (omega arith, refl, tt, omega arith, omega arith)) refl) record { round = record { at = 1; served = 1 }; reads = refl; none = refl }
    (λ s h ended. subst IsFinished h.reads ended)

-- ---- a scan that begins again

-- the queue has one place, which is taken
record Rescans (s : State) : Type 0 where
  job : Job
  parcel : Parcel
  at : ℕ
  reads : ℕ
  scans : (s.stand 0).phase ≡ Phase.Sending job (Sending.ReadPassed parcel at reads)
  low : at ≤ 1
  busy : (i : ℕ) → i ≤ 1 → s.mem (Word.Item i ItemField.Passed) ≡ 0

rescans_busy : (s : State) → Rescans s → steps_on (s.stand 0).phase ≡ true
rescans_busy s h = ap steps_on h.scans

rescans_on : (s : State) → Rescans s → Rescans (rescanning lone s 0)
rescans_on s h = elim (cases_eq h.reads 2) [
  | inl two ↦
      let again : rescanning lone s 0 ≡ scans_again lone s 0 h.job h.parcel h.at =
      ap (λ (z : Phase). rescanning_at lone s 0 z) h.scans ∙ ap (λ (b : Bool). cond b (cond (s.mem (Word.Item h.at ItemField.Passed) == 1) (stepped lone s 0) (scans_again lone s 0 h.job h.parcel h.at)) (stepped lone s 0)) (eq-eqb h.reads 2 two)
      ∙ ap (λ (b : Bool). cond b (stepped lone s 0) (scans_again lone s 0 h.job h.parcel h.at)) not_free in
      subst Rescans (sym again) record { job = h.job; parcel = h.parcel; at = (h.at + 1) % 2; reads = 1; scans = refl; low = next_low; busy = h.busy }
  | inr ne ↦
      let steps_to : rescanning lone s 0 ≡ stepped_from lone s Chain.Send 0 (record { begun = (s.stand 0).begun; node = (s.stand 0).node; phase = Phase.Sending h.job (Sending.ReadPassed h.parcel h.at h.reads) }) =
      ap (λ (z : Phase). rescanning_at lone s 0 z) h.scans ∙ ap (λ (b : Bool). cond b (cond (s.mem (Word.Item h.at ItemField.Passed) == 1) (stepped lone s 0) (scans_again lone s 0 h.job h.parcel h.at)) (stepped lone s 0)) (ne_eqb h.reads 2 ne)
      ∙ (λ i. stepped_from lone s Chain.Send 0 (record { begun = (s.stand 0).begun; node = (s.stand 0).node; phase = h.scans i })) in
      subst Rescans (sym steps_to) record {
        job = h.job;
        parcel = h.parcel;
        at = (h.at + 1) % 2;
        reads = h.reads + 1;
        scans = ap (λ (b : Bool). next_phase b (h.reads == 2)) not_free ∙ ap (λ (b : Bool). next_phase false b) (ne_eqb h.reads 2 ne);
        low = next_low;
        busy = h.busy;
      }
]
  where
    next_low : (h.at + 1) % 2 ≤ 1
    next_low = let less : (h.at + 1) % 2 < 2 = mod-lt (h.at + 1) (omega arith) in omega (arith, less)

    not_free : (s.mem (Word.Item h.at ItemField.Passed) == 1) ≡ false
    not_free = ne_eqb (s.mem (Word.Item h.at ItemField.Passed)) 1 (λ e. absurd (omega (arith, e, h.busy h.at h.low)))

    next_phase : Bool → Bool → Phase
    next_phase free last = phase_of in_service h.job (cond free (On (Sending.ResetPassed h.parcel h.at)) (cond last (Decides (Answer.Send SendAnswer.Full)) (On (Sending.ReadPassed h.parcel ((h.at + 1) % 2) (h.reads + 1)))))

-- a send that fills the queue, and another one up to its scan
abbrev filled : List Move
filled = Move.Take 0 ∷ steps 28 ++ a_send []

abbrev scanning : List Move
scanning = steps 13 ++ a_send filled

rescans : EachCallEndsBy rescanning → ⊥
rescans =
    let one : IsRunBy rescanning lone (steps 28 ++ a_send []) = first_run rescanning (a_send []) 28 (tt, (omega arith, refl, tt, omega arith, omega arith)) refl in
    refused rescanning scanning Rescans rescans_busy rescans_on (first_run rescanning (a_send filled) 13 ((one, (omega arith, tt)), (omega arith, refl, tt, omega arith, omega arith)) refl)
    record { job = _; parcel = _; at = 0; reads = 1; scans = refl; low = omega arith; busy = first_busy }
    (λ s h ended. subst IsFinished h.scans ended)
  where
    first_busy : (i : ℕ) → i ≤ 1 → (reached_by rescanning lone scanning).mem (Word.Item i ItemField.Passed) ≡ 0
    first_busy zero low = refl
    first_busy (suc zero) low = refl
    first_busy (suc (suc i)) low = absurd (omega (arith, low))

pub wrong_steps : WrongSteps
wrong_steps = record { right = right; spins = spins; rescans = rescans }
