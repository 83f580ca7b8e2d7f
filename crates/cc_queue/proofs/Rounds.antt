-- A round of the combining loop, as the seat sees it: the look for the next call, the service of this one, and its mark.
use Rattle.std.proofs.Common.{◌≡◌, ◌≢◌, ℕ, zero, suc, ◌+◌, ◌-◌, ◌<◌, ◌≤◌, ◌==◌, Bool, true, false, cond, List, ◌∷◌, None, refl, sym, ap, ◌∙◌, subst, arith}
use Rattle.std.proofs.lemmas.Bool.{eq-eqb, ne_eqb}
use Rattle.cc_queue.specs.Names.{Config, Setting, Served, Chain, Kind, Job, Round, Phase, Stand}
use Rattle.cc_runs.specs.State.{chain_of}
use Rattle.cc_runs.specs.Lines.{after_next, after_done, serves}
use Rattle.cc_steps.specs.Seen.{Onward, settled}
use Rattle.cc_steps.specs.Topic.{Topic}
use Rattle.cc_steps.specs.Walk.{Walk, walked_to}
use Rattle.cc_queue.specs.Work.{IsOnList, Serves, Works, worked_to, round_phase, combined, tally, reads, marks, hands, scans}

-- the configuration of the pass
abbrev config_of : Walk → Config
config_of v = v.setting.config

-- neither of its steps ends the call
stays_next : (what : Served) (x : Chain) (k : Round) (n : ℕ) (z : Stand) → settled (record z { phase = after_next what x k n }) ≡ record z { phase = after_next what x k n }
stays_next what x k zero z = refl
stays_next Served.Counter x k (suc n) z = refl
stays_next Served.List Chain.Send k (suc n) z = refl
stays_next Served.List (Chain.Take g) k (suc n) z = refl

stays_done : (b : Bool) (next : ℕ) (k : Round) (z : Stand) → settled (record z { phase = cond b (Phase.HandOver next) (Phase.ReadNext k) }) ≡ record z { phase = cond b (Phase.HandOver next) (Phase.ReadNext k) }
stays_done true next k z = refl
stays_done false next k z = refl

-- the look for the next call
module _ (v s r : Walk) (k : Round) (next : ℕ) (at : s ≡ worked_to v (Phase.ReadNext k) s) (step : r ≡ walked_to s None next r.seen) where
  abbrev there : Phase
  there = after_next v.setting.served (chain_of v.setting.config v.number) k next

  looked : r ≡ walked_to (worked_to v (Phase.ReadNext k) s) None next r.seen
  looked = subst (λ (z : Walk). r ≡ walked_to z None next r.seen) at step

  pub looked_did : r.did ≡ Kind.ReadNext ∷ s.did
  looked_did = ap (λ (z : Walk). z.did) looked

  pub looked_to : r ≡ worked_to v there r
  looked_to =
      looked
      ∙ ap (λ (z : Stand). record v { seen = r.seen; did = Kind.ReadNext ∷ s.did; stand = z }) (stays_next v.setting.served (chain_of v.setting.config v.number) k next v.stand)
      ∙ ap (λ (did : List Kind). record v { seen = r.seen; did = did; stand = record v.stand { phase = there } }) (sym looked_did)

-- the mark of this call
module _ (r w u : Walk) (job : Job) (at : w ≡ worked_to r (Phase.MarkDone job) w) (step : u ≡ walked_to w None 0 u.seen) where
  abbrev on : Phase
  on = after_done r.setting.config.bound job

  marked : u ≡ walked_to (worked_to r (Phase.MarkDone job) w) None 0 u.seen
  marked = subst (λ (z : Walk). u ≡ walked_to z None 0 u.seen) at step

  pub marked_did : u.did ≡ Kind.MarkDone ∷ w.did
  marked_did = ap (λ (z : Walk). z.did) marked

  pub marked_to : u ≡ worked_to r on u
  marked_to =
      marked
      ∙ ap (λ (z : Stand). record r { seen = u.seen; did = Kind.MarkDone ∷ w.did; stand = z }) (stays_done (job.round.served + 1 == r.setting.config.bound) job.next record { at = job.next; served = job.round.served + 1 } r.stand)
      ∙ ap (λ (did : List Kind). record r { seen = u.seen; did = did; stand = record r.stand { phase = on } }) (sym marked_did)

-- the whole round, by a pass that has served so many
module _ (v s r w u : Walk) (at served next : ℕ) (below : served < (config_of v).bound) (so : Works v (round_phase (config_of v).bound at served) (combined (config_of v) served 0) s)
    (look : r ≡ walked_to s None next r.seen) (serves : Serves r (Phase.MarkDone record { round = record { at = at; served = served }; next = next - 1 }) (r.setting.config.capacity + 1) w) (mark : u ≡ walked_to w None 0 u.seen) where
  abbrev k : Round
  k = record { at = at; served = served }

  abbrev job : Job
  job = record { round = k; next = next - 1 }

  here : s ≡ worked_to v (Phase.ReadNext k) s
  here = so.worked ∙ ap (λ (b : Bool). worked_to v (cond b (Phase.HandOver at) (Phase.ReadNext k)) s) (ne_eqb served (config_of v).bound (λ e. omega (arith, e, below)))

  round_to : u ≡ worked_to v (round_phase (config_of v).bound (next - 1) (served + 1)) u
  round_to =
      marked_to r w u job serves.worked mark
      ∙ ap (λ (z : Walk). worked_to z (after_done z.setting.config.bound job) u) (looked_to v s r k next here look)

  few : tally scans w.did ≤ (config_of v).capacity + 1 + tally scans r.did
  few = subst (λ (z : Setting). tally scans w.did ≤ z.config.capacity + 1 + tally scans r.did) (ap (λ (z : Walk). z.setting) (looked_to v s r k next here look)) serves.scans

  did : (f : Kind → ℕ) → tally f u.did ≡ f Kind.MarkDone + tally f w.did
  did f = ap (tally f) (marked_did r w u job serves.worked mark)

  look_did : (f : Kind → ℕ) → tally f r.did ≡ f Kind.ReadNext + tally f s.did
  look_did f = ap (tally f) (looked_did v s r k next here look)

  pub one_round : Onward s.seen r.seen → Onward w.seen u.seen → Works v (round_phase (config_of v).bound (next - 1) (served + 1)) (combined (config_of v) (served + 1) 0) u
  one_round looked marked = record {
    worked = round_to;
    reads = omega (arith, did reads, serves.reads, look_did reads, so.reads);
    marks = omega (arith, did marks, serves.marks, look_did marks, so.marks);
    hands = omega (arith, did hands, serves.hands, look_did hands, so.hands);
    scans = omega (arith, did scans, few, look_did scans, so.scans);
    later = λ first goes. marked first (serves.later first (looked first (so.later first goes)));
  }

-- the places after the look for the next call, in a chain of a list
module _ (v s r : Walk) (t : Topic) (x : Chain) (is : IsOnList t x v) (at served next : ℕ) (below : served < (config_of v).bound) (so : Works v (round_phase (config_of v).bound at served) (combined (config_of v) served 0) s) where
  abbrev round : Round
  round = record { at = at; served = served }

  pub looks : s ≡ worked_to v (Phase.ReadNext round) s
  looks = so.worked ∙ ap (λ (b : Bool). worked_to v (cond b (Phase.HandOver at) (Phase.ReadNext round)) s) (ne_eqb served (config_of v).bound (λ e. omega (arith, e, below)))

  module _ (look : r ≡ walked_to s None next r.seen) where
    leads : (to : Phase) → after_next Served.List x round next ≡ to → r ≡ worked_to v to r
    leads to e =
        looked_to v s r round next looks look
        ∙ ap (λ (z : Served). worked_to v (after_next z (chain_of v.setting.config v.number) round next) r) is.list
        ∙ ap (λ (y : Chain). worked_to v (after_next Served.List y round next) r) is.chain
        ∙ ap (λ (p : Phase). worked_to v p r) e

    pub found_one : next ≢ 0 → r ≡ worked_to v (serves Served.List x record { round = round; next = next - 1 }) r
    found_one some = leads (serves Served.List x record { round = round; next = next - 1 }) (linked next some)
      where
        linked : (n : ℕ) → n ≢ 0 → after_next Served.List x round n ≡ serves Served.List x record { round = round; next = n - 1 }
        linked zero none = absurd (none refl)
        linked (suc n) none = ap (λ (m : ℕ). serves Served.List x record { round = round; next = m }) (omega arith)

    once : (f : Kind → ℕ) → tally f r.did ≡ f Kind.ReadNext + tally f s.did
    once f = ap (tally f) (looked_did v s r round next looks look)

    pub found_none : next ≡ 0 → Onward s.seen r.seen → Works v (Phase.HandOver at) (combined (config_of v) served 0) r
    found_none e looked = record {
      worked = leads (Phase.HandOver at) (ap (after_next Served.List x round) e);
      reads = omega (arith, once reads, so.reads);
      marks = omega (arith, once marks, so.marks);
      hands = omega (arith, once hands, so.hands);
      scans = omega (arith, once scans, so.scans);
      later = λ first goes. looked first (so.later first goes);
    }

-- or if it has served as many as it may
pub served_all : (v s : Walk) (c : Config) (at served : ℕ) → served ≡ c.bound → Works v (round_phase c.bound at served) (combined c served 0) s → Works v (Phase.HandOver at) (combined c c.bound 0) s
served_all v s c at served all so =
    subst (λ (n : ℕ). Works v (Phase.HandOver at) (combined c n 0) s) all
    (subst (λ (b : Bool). Works v (cond b (Phase.HandOver at) (Phase.ReadNext record { at = at; served = served })) (combined c served 0) s) (eq-eqb served c.bound all) so)

-- the last step of a combiner
module _ (v s u : Walk) (c : Config) (at served : ℕ) (so : Works v (Phase.HandOver at) (combined c served 0) s) (step : u ≡ walked_to s None 0 u.seen) (later : Onward s.seen u.seen) where
  handed : u ≡ walked_to (worked_to v (Phase.HandOver at) s) None 0 u.seen
  handed = subst (λ (z : Walk). u ≡ walked_to z None 0 u.seen) so.worked step

  handed_did : u.did ≡ Kind.HandOver ∷ s.did
  handed_did = ap (λ (z : Walk). z.did) handed

  counts : (f : Kind → ℕ) → tally f u.did ≡ f Kind.HandOver + tally f s.did
  counts f = ap (tally f) handed_did

  pub hands_over : Works v Phase.ReadAnswer (combined c served 1) u
  hands_over = record {
    worked = handed ∙ ap (λ (did : List Kind). record v { seen = u.seen; did = did; stand = record v.stand { phase = Phase.ReadAnswer } }) (sym handed_did);
    reads = omega (arith, counts reads, so.reads);
    marks = omega (arith, counts marks, so.marks);
    hands = omega (arith, counts hands, so.hands);
    scans = omega (arith, counts scans, so.scans);
    later = λ first goes. later first (so.later first goes);
  }

-- a combiner that finds none has served its own call
pub served_own : (served next : ℕ) → (served ≡ 0 → 0 < next) → next ≡ 0 → 0 < served
served_own zero next own none = absurd (let some = own refl in omega (arith, some, none))
served_own (suc n) next own none = omega arith
