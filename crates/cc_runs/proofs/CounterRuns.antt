-- The counter machine over every run.
use Rattle.std.proofs.Common.{◌≡◌, ◌≢◌, ℕ, ◌+◌, ◌*◌, ◌-◌, ◌^◌, ◌<◌, ◌≤◌, cond, Bool, refl, ap, sym, subst, arith, List, [], ◌∷◌, length, Ok, ◌∙◌}
use Rattle.std.proofs.lemmas.Bool.{lt-ltb}
use Rattle.cc_model.specs.Config.{config_fault}
use Rattle.cc_runs.specs.Names.{Call, Answer, SendAnswer, Setting, Served, Chain, NodeField, Event, Stand, Job, Counting, Phase, Move}
use Rattle.cc_runs.specs.Codes.{ret_of}
use Rattle.cc_runs.specs.State.{State, chain_of, first_node}
use Rattle.cc_runs.specs.Lines.{event_at}
use Rattle.cc_runs.specs.Step.{stepped_from, stepped}
use Rattle.cc_runs.specs.Run.{May, IsRun, IsOn, IsIdle, IsFinished, reached, moved, passes, begun_after, begins, rests, opening, nowhere}
use Rattle.cc_runs.specs.Ready.{IsSafe, IsReady, IsOpenAt}
use Rattle.cc_runs.specs.CallsMade.{before_exchange}
use Rattle.cc_runs.proofs.Ranges.{InRange, in_range}
use Rattle.cc_runs.proofs.Counted.{Counts, HasCount, gone, total, total_most, total_none, counts_on, counts_step, senders_only, not_both}
use Rattle.cc_runs.proofs.Chains.View.{post_of}
use Rattle.cc_runs.proofs.Chains.Registers.{answer_at, HasService, call_at}
use Rattle.cc_runs.proofs.Chains.Ties.{ghost_of, Holds}
use Rattle.cc_runs.proofs.Chains.Own.{sends_where, takes_where}
use Rattle.cc_runs.proofs.Chains.Others.{sender_chain}
use Rattle.cc_runs.proofs.Chains.Safe as safe
use Rattle.cc_runs.proofs.Chains.Safe.{IsService, node_exists, four_words}
use Rattle.cc_runs.proofs.Chains.Runs.{chain_holds}

opened_stand : (c : Setting) (p : ℕ) → p < passes c → (opening c).stand p ≡ record { begun = 0; node = first_node c.config p; phase = Phase.Idle }
opened_stand c p less = ap (λ (b : Bool). cond b record { begun = 0; node = first_node c.config p; phase = Phase.Idle } nowhere) (lt-ltb p (passes c) less)

counts_opened : (c : Setting) → Counts c (opening c)
counts_opened c = record {
  count = refl;
  counted = λ p less. subst (λ (z : Stand). HasCount 0 z.phase) (sym (opened_stand c p less)) tt;
  kth = λ k l. absurd (omega arith);
  begun_in = λ p less. subst (λ (z : Stand). z.begun ≤ c.config.per_sender) (sym (opened_stand c p less)) (omega arith);
  began = λ p less. subst (λ (z : Stand). before_exchange z.phase ≤ z.begun) (sym (opened_stand c p less)) (omega arith);
  calls = sym (total_none (opening c).stand (passes c) (λ p less. ap (λ (z : Stand). z.begun) (opened_stand c p less)));
}

only_sends : (what : Served) (x : Chain) (it : Call) → what ≡ Served.Counter → IsOn what x it → (begun : ℕ) → begun_after it begun ≡ begun + 1
only_sends what x it e on begun = grind arith

idle_waits : (at : Phase) → IsIdle at → before_exchange at ≡ 0
idle_waits at a = grind arith

finished_waits : (at : Phase) → IsFinished at → before_exchange at ≡ 0
finished_waits at a = grind arith

module _ (c : Setting) (counter : c.served ≡ Served.Counter) (s : State) (k : Counts c s) where
  sender : (p : ℕ) → p < passes c → p < c.config.senders
  sender p less = omega (arith, senders_only c.served c.config counter)

  step_keeps : (w : Holds c Chain.Send s) (p : ℕ) → p < passes c → event_at (s.stand p).phase ≢ Event.Idle → Counts c (stepped c s p)
  step_keeps w p less busy =
      subst (λ (y : Chain). Counts c (stepped_from c s y p (s.stand p))) (sym (sender_chain c.config p (sender p less)))
      (counts_step c counter s k w p (s.stand p).begun (s.stand p).node less (sender p less) (s.stand p).phase refl busy)

  begin_keeps : (p : ℕ) (it : Call) (known : ℕ) → May c s (Move.Begin p it known) → Counts c (moved c s (Move.Begin p it known))
  begin_keeps p it known may =
      let more : begun_after it (s.stand p).begun ≡ (s.stand p).begun + 1 = only_sends c.served (chain_of c.config p) it counter may.1 (s.stand p).begun in
      let old : gone (s.stand p) ≡ (s.stand p).begun - 0 = ap (λ (z : ℕ). (s.stand p).begun - z) (idle_waits (s.stand p).phase may.2) in
      let new : gone (begins c.config p it known (s.stand p)) ≡ (s.stand p).begun + 1 - 1 = ap (λ (z : ℕ). z - 1) more in
      counts_on c s p may.0 k (begins c.config p it known (s.stand p)) (moved c s (Move.Begin p it known)) refl refl refl (omega (arith, old, new)) tt may.3 (omega (arith, more))

  take_keeps : (p : ℕ) → May c s (Move.Take p) → Counts c (moved c s (Move.Take p))
  take_keeps p may =
      let old : gone (s.stand p) ≡ (s.stand p).begun - 0 = ap (λ (z : ℕ). (s.stand p).begun - z) (finished_waits (s.stand p).phase may.1) in
      counts_on c s p may.0 k (rests (s.stand p)) (moved c s (Move.Take p)) refl refl refl (omega (arith, old)) tt (k.begun_in p may.0) (omega arith)

  move_keeps : (w : Holds c Chain.Send s) (m : Move) → May c s m → Counts c (moved c s m)
  move_keeps w (Move.Begin p it known) may = begin_keeps p it known may
  move_keeps w (Move.Step p) may = step_keeps w p may.0 may.1
  move_keeps w (Move.Take p) may = take_keeps p may

pub counter_holds : (c : Setting) → c.served ≡ Served.Counter → 0 < c.config.bound → (moves : List Move) → IsRun c moves → Counts c (reached c moves)
counter_holds c counter some [] run = counts_opened c
counter_holds c counter some (m ∷ earlier) run = move_keeps c counter (reached c earlier) (counter_holds c counter some earlier run.0) (chain_holds c Chain.Send tt some earlier run.0) m run.1

module _ (c : Setting) (counter : c.served ≡ Served.Counter) (r : InRange c.config) (s : State) (k : Counts c s) (w : Holds c Chain.Send s) where
  few_calls : length s.history.sends.calls ≤ 64 * 2 ^ 32
  few_calls =
      let all : total s.stand (passes c) ≤ passes c * 2 ^ 32 = total_most s.stand (passes c) (λ p less. omega (arith, k.begun_in p less, r.per_sender)) in
      omega (arith, all, k.calls, senders_only c.served c.config counter, r.senders)

  few_answers : length s.history.sends.answers ≤ 64 * 2 ^ 32
  few_answers = omega (arith, few_calls, w.inv.calls.in_order2)

  fit : (n : ℕ) → n < length s.history.sends.answers → ret_of c.served (answer_at s.history.sends.answers n) < 2 ^ 64
  fit n less =
      subst (λ (z : Answer). ret_of c.served z < 2 ^ 64) (sym (k.kth n less))
      (subst (λ (what : Served). ret_of what (Answer.Send (SendAnswer.Accepted n)) < 2 ^ 64) (sym counter) (omega (arith, few_answers)))

  module _ (p begun own : ℕ) (member : p < c.config.senders) where
    abbrev Here : Phase → Type 0
    Here at = s.stand p ≡ record { begun = begun; node = own; phase = at }

    inside : p < passes c
    inside = omega (arith, senders_only c.served c.config counter)

    served_as : (at : Phase) → Here at → (post_of Chain.Send own at).rank ≡ 5 → HasService c.served Chain.Send (call_at s.history.sends.calls (ghost_of w).marked) (answer_at s.history.sends.answers (ghost_of w).marked) at
    served_as at e five = subst (λ (z : Stand). HasService c.served Chain.Send (call_at s.history.sends.calls (ghost_of w).marked) (answer_at s.history.sends.answers (ghost_of w).marked) z.phase) e (w.ties.served p (safe.me c Chain.Send tt r s p own begun member w at e five))

    job_in : (job : Job) (service : Counting) → Here (Phase.Counting job service) → job.round.at ≤ c.config.senders
    job_in job service e = safe.target_in c Chain.Send tt r s p own begun member w (Phase.Counting job service) e refl

    count_safe : (job : Job) (service : Counting) → Here (Phase.Counting job service) → IsSafe c s Chain.Send own (Phase.Counting job service)
    count_safe job Counting.ReadTag e = record { word = node_exists c Chain.Send tt job.round.at NodeField.Tag refl (job_in job Counting.ReadTag e); numbers = tt }
    count_safe job (Counting.ReadBody tag i) e = record { word = node_exists c Chain.Send tt job.round.at (NodeField.Body i) (four_words i tag (served_as (Phase.Counting job (Counting.ReadBody tag i)) e refl).1) (job_in job (Counting.ReadBody tag i) e); numbers = tt }
    count_safe job Counting.ReadCount e = record { word = refl; numbers = tt }
    count_safe job (Counting.WriteCount count) e =
        let is : count ≡ length s.history.sends.answers = subst (λ (z : Stand). HasCount (length s.history.sends.answers) z.phase) e (k.counted p inside) in record { word = refl; numbers = omega (arith, few_answers) }

    service_safe : (at : Phase) → Here at → IsService at → IsSafe c s Chain.Send own at
    service_safe (Phase.Counting job service) e is = count_safe job service e
    service_safe (Phase.Sending job service) e is = let no : c.served ≡ Served.List = (sends_where c.served Chain.Send _ (served_as (Phase.Sending job service) e refl)).0 in absurd (not_both (sym counter ∙ no))
    service_safe (Phase.Taking job service) e is = let no : c.served ≡ Served.List = (takes_where c.served Chain.Send (served_as (Phase.Taking job service) e refl)).0 in absurd (not_both (sym counter ∙ no))
    service_safe _ e is = absurd is

    ready_at : (at : Phase) → Here at → IsSafe c s Chain.Send own at × IsOpenAt s.history Chain.Send at
    ready_at at e = (safe.safe_at c Chain.Send tt r s p own begun member w at e fit (service_safe at e), safe.open_at c Chain.Send tt r s p own begun member w at e)

-- each step of a counter machine can be done
pub counter_ready : (c : Setting) → c.served ≡ Served.Counter → config_fault c.config ≡ Ok tt → (moves : List Move) → IsRun c moves → (p : ℕ) → p < passes c → IsReady c (reached c moves) p
counter_ready c counter checked moves run p less =
    let r : InRange c.config = in_range c.config checked in
    let s : State = reached c moves in
    let member : p < c.config.senders = omega (arith, senders_only c.served c.config counter) in
    let k : Counts c (reached c moves) = counter_holds c counter r.bound.0 moves run in
    let w : Holds c Chain.Send (reached c moves) = chain_holds c Chain.Send tt r.bound.0 moves run in
    let ready = ready_at c counter r (reached c moves) k w p ((reached c moves).stand p).begun ((reached c moves).stand p).node member ((reached c moves).stand p).phase refl in
    let on : (y : Chain) → y ≡ Chain.Send → IsSafe c (reached c moves) y ((reached c moves).stand p).node ((reached c moves).stand p).phase × IsOpenAt (reached c moves).history y ((reached c moves).stand p).phase =
    λ y e. subst (λ (z : Chain). IsSafe c (reached c moves) z ((reached c moves).stand p).node ((reached c moves).stand p).phase × IsOpenAt (reached c moves).history z ((reached c moves).stand p).phase) (sym e) ready in
    let both = on (chain_of c.config p) (sender_chain c.config p member) in
    record { safe = both.0; unanswered = both.1 }
