-- A step within a call, as its seat sees it, after the earlier steps of its pass.
use Rattle.std.proofs.Common.{◌≡◌, ℕ, ◌+◌, ◌≤◌, List, ◌∷◌, None, sym, ap, ◌∙◌, subst, arith}
use Rattle.cc_queue.specs.Names.{Chain, Config, Event, Kind, Phase, Setting, Stand}
use Rattle.cc_runs.specs.Lines.{event_at, operation}
use Rattle.cc_runs.specs.Passes.{then_did}
use Rattle.cc_runs.specs.State.{Operation, chain_of}
use Rattle.cc_runs.specs.Step.{advanced}
use Rattle.cc_steps.specs.Seen.{Onward, settled}
use Rattle.cc_steps.specs.Topic.{Topic}
use Rattle.cc_steps.specs.Walk.{IsOf, Steps, Walk, walked_to}
use Rattle.cc_queue.specs.Work.{IsOnList, Serves, worked_to, tally, reads, marks, hands, scans}

-- a step that reads no state, marks nothing and hands nothing over
abbrev pub IsWithin : Kind → Type 0
IsWithin k = (reads k ≡ 0) × (marks k ≡ 0) × (hands k ≡ 0)

module _ (v s r : Walk) (k : Kind) (here on : Phase) (most found : ℕ) (at : Serves v here most s) (step : r ≡ walked_to s None found r.seen) (later : Onward s.seen r.seen)
    (event : event_at here ≡ Event.Did k) (within : IsWithin k) (goes : (z : Stand) → settled (advanced v.setting (chain_of v.setting.config v.number) (record z { phase = here }) found) ≡ record z { phase = on }) where
  went : r ≡ walked_to (worked_to v here s) None found r.seen
  went = subst (λ (z : Walk). r ≡ walked_to z None found r.seen) at.worked step

  did : r.did ≡ k ∷ s.did
  did = ap (λ (z : Walk). z.did) went ∙ ap (λ (e : Event). then_did e s.did) event

  worked : r ≡ worked_to v on r
  worked =
      went
      ∙ ap (λ (z : Stand). record v { seen = r.seen; did = then_did (event_at here) s.did; stand = z }) (goes v.stand)
      ∙ ap (λ (all : List Kind). record v { seen = r.seen; did = all; stand = record v.stand { phase = on } }) (sym (ap (λ (z : Walk). z.did) went))

  counts : (f : Kind → ℕ) → tally f r.did ≡ f k + tally f s.did
  counts f = ap (tally f) did

  pub one_step : Serves v on (scans k + most) r
  one_step = record {
    worked = worked;
    reads = omega (arith, counts reads, within.0, at.reads);
    marks = omega (arith, counts marks, within.1, at.marks);
    hands = omega (arith, counts hands, within.2, at.hands);
    scans = omega (arith, counts scans, at.scans);
    later = λ first before. later first (at.later first before);
  }

-- what follows a part of the call, both together
pub then_serves : (v s w : Walk) (here on : Phase) (some more most : ℕ) → Serves v here some s → Serves s on more w → some + more ≤ most → Serves v on most w
then_serves v s w here on some more most first next within = record {
  worked = next.worked ∙ ap (λ (z : Walk). worked_to z on w) first.worked;
  reads = omega (arith, first.reads, next.reads);
  marks = omega (arith, first.marks, next.marks);
  hands = omega (arith, first.hands, next.hands);
  scans = omega (arith, first.scans, next.scans, within);
  later = λ from before. next.later from (first.later from before);
}

-- nothing is done yet
pub serves_none : (v : Walk) (at : Phase) → v.stand.phase ≡ at → Serves v at 0 v
serves_none v at is = record {
  worked = λ i. record v { stand = record v.stand { phase = is i } };
  reads = omega arith;
  marks = omega arith;
  hands = omega arith;
  scans = omega arith;
  later = λ from before. before;
}

-- with a greater bound
pub serves_most : (v w : Walk) (at : Phase) (some most : ℕ) → Serves v at some w → some ≤ most → Serves v at most w
serves_most v w at some most part less = record { worked = part.worked; reads = part.reads; marks = part.marks; hands = part.hands; scans = omega (arith, part.scans, less); later = part.later }

-- the pass is still on its chain
pub still_here : (t : Topic) (x : Chain) (v s : Walk) (at : Phase) (some : ℕ) → IsOnList t x v → Serves v at some s → IsOnList t x s
still_here t x v s at some is part = subst (IsOnList t x) (sym part.worked) record { here = is.here; list = is.list; chain = is.chain }

-- it can do the step of its place
pub can_step : (v s : Walk) (here : Phase) (k : Kind) (op : Operation) → s ≡ worked_to v here s → event_at here ≡ Event.Did k → operation v.setting (chain_of v.setting.config v.number) v.stand.node here ≡ op → Steps s k op
can_step v s here k op at event does = subst (λ (z : Walk). Steps z k op) (sym at) (event, does)

-- and its seat is still of that topic
pub of_still : (t : Topic) (v s : Walk) (here : Phase) → IsOf t v → s ≡ worked_to v here s → IsOf t s
of_still t v s here is at = subst (IsOf t) (sym at) is

-- and the configuration that its queue has is that of the pass
pub own_config : (t : Topic) (v : Walk) (c : Config) → IsOf t v → c ≡ t.setting.config → c ≡ v.setting.config
own_config t v c here is = is ∙ sym (ap (λ (x : Setting). x.config) here.1)
