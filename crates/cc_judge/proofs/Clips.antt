-- A log with closes is one without: its calls are clipped to the moments that the close leaves them. Times are three times those of
-- the log: a send that found the queue open ends by 3 D, the close is at 3 D + 1, and what found it closed begins after that.
use Rattle.std.proofs.Common.{◌≡◌, ◌≢◌, ℕ, suc, ◌+◌, ◌*◌, ◌<◌, ◌≤◌, ◌⊎◌, inl, inr, Bool, true, false, List, [], ◌∷◌, Some, None, IsSome, refl, sym, ap, ◌∙◌, subst, arith}
use Rattle.std.specs.List.{slice_get}
use Rattle.cc_judge.specs.Names.{Act, Call, Step, Tie, Rules}
use Rattle.cc_judge.specs.Order.{MayHaveDone, EndsBefore, IsCall, HasStepOf, Allows, closed_after, Closes, RespectsLines, IsOrder, IsLinearizable, of_any_capacity}
use Rattle.cc_judge.specs.Faults.{Did, Differ}
use Rattle.cc_judge.proofs.Places.{In, Before, in_at, at_in, at_before}
use Rattle.cc_judge.proofs.Complete.{Quiet, IsIdle}
use Rattle.cc_judge.specs.Complete.{Ready}
use Rattle.cc_judge.proofs.Shares.{waiting, ready_has_order}

-- ---- one close

abbrev pub WantsOpen : Act → Type 0
WantsOpen (Act.Send item) = Unit {0}
WantsOpen Act.Full = Unit {0}
WantsOpen _ = ⊥

abbrev pub WantsClosed : Act → Type 0
WantsClosed Act.Closed = Unit {0}
WantsClosed Act.Ended = Unit {0}
WantsClosed Act.Close = Unit {0}
WantsClosed _ = ⊥

-- before the close and after it
open_before : (act : Act) → (WantsClosed act → ⊥) → Allows false act × (closed_after false act ≡ false)
open_before act other = grind arith

closed_then : (act : Act) → (WantsOpen act → ⊥) → Allows true act × (closed_after true act ≡ true)
closed_then act other = grind arith

all_after : (steps : List Step) → ((t : Step) → In t steps → WantsOpen t.act → ⊥) → Closes true steps
all_after [] other = tt
all_after (x ∷ steps) other =
    let c = closed_then x.act (other x (inl refl)) in
    (c.0, subst (λ (b : Bool). Closes b steps) (sym c.1) (all_after steps (λ t within. other t (inr within))))

by_close : (steps : List Step) (c : Step) → In c steps → c.act ≡ Act.Close → ((s : Step) → Before s c steps → WantsClosed s.act → ⊥) → ((t : Step) → Before c t steps → WantsOpen t.act → ⊥) → Closes false steps
by_close [] c within close before after = absurd within
by_close (x ∷ steps) c (inl same) close before after = grind (arith, all_after)
by_close (x ∷ steps) c (inr later) close before after =
    let o = open_before x.act (before x (inl (refl, later))) in
    (o.0, subst (λ (b : Bool). Closes b steps) (sym o.1) (by_close steps c later close (λ s first. before s (inr first)) (λ t first. after t (inr first))))

-- ---- clipped calls

-- the second log has the calls of the first, clipped by a close at the time `shut`; what isn't to be in an order is a call that
-- found the queue closed and hasn't returned
pub record Clips (calls clipped : List Call) (shut close : ℕ) : Type 0 where
  pub there : (p : ℕ) (c : Call) → slice_get calls p ≡ Some c → (d : Call) × (slice_get clipped p ≡ Some d) × (IsSome c.end → IsSome d.end) × (3 * c.begin ≤ d.begin) × ((e : ℕ) → c.end ≡ Some e → (f : ℕ) × (d.end ≡ Some f) × (f ≤ 3 * e + 2))
  pub back : (p : ℕ) (d : Call) → slice_get clipped p ≡ Some d → (c : Call) × (slice_get calls p ≡ Some c) × ((d.act ≡ c.act) ⊎ (IsIdle d.act × (d.end ≡ None)))
  pub open_by : (p : ℕ) (d : Call) → slice_get clipped p ≡ Some d → WantsOpen d.act → IsSome d.end → (f : ℕ) × (d.end ≡ Some f) × (f ≤ 3 * shut)
  pub sends_end : (p item : ℕ) (d : Did clipped p (Act.Send item)) → IsSome d.call.end
  pub closes_at : (d : Did clipped close Act.Close) × (d.call.begin ≡ 3 * shut + 1) × (d.call.end ≡ Some (3 * shut + 1))
  pub closed_from : (p : ℕ) (d : Call) → slice_get clipped p ≡ Some d → p ≢ close → WantsClosed d.act → 3 * shut + 1 < d.begin

module _ (rules : Rules) (calls clipped : List Call) (shut close : ℕ) (k : Clips calls clipped shut close) (order : List Step) (plain : Rules) (same_ties : plain.ties.items ≡ rules.ties.items) (o : IsOrder (of_any_capacity plain) clipped order) (quiet : Quiet clipped order) where
  -- what the log says of the call of a step, it did: but for takes
  said : (said did : Act) → MayHaveDone said did → (said ≡ Act.Taking) ⊎ (said ≡ did)
  said act did may = grind arith

  taking_did : (did : Act) → MayHaveDone Act.Taking did → (WantsOpen did → ⊥) × (WantsClosed did → ⊥) × (IsIdle did → ⊥)
  taking_did did may = grind arith

  -- the call of a step that wants the queue open or closed did so
  did_of : (W : Act → Type 0) → ((did : Act) → MayHaveDone Act.Taking did → W did → ⊥) → (s : Step) → In s order → W s.act → (i : IsCall clipped s) × (i.call.act ≡ s.act)
  did_of W no_take s within wants =
      let at = at_in s order within in
      let i = o.each at.0 s at.1 in
      (i, elim (said i.call.act s.act i.may) [ inr same ↦ same | inl taking ↦ absurd (no_take s.act (subst (λ (a : Act). MayHaveDone a s.act) taking i.may) wants) ])

  the_close : HasStepOf order close
  the_close = o.whole close k.closes_at.0.call k.closes_at.0.call_is (subst IsSome (sym k.closes_at.2) refl)

  c_step : Step
  c_step = the_close.step

  c_in : In c_step order
  unfolding c_step
  c_in = in_at the_close.step order the_close.at the_close.step_is

  c_call : (i : IsCall clipped c_step) → i.call ≡ k.closes_at.0.call
  unfolding c_step
  c_call i = grind arith

  c_act : c_step.act ≡ Act.Close
  c_act =
      let at = at_in c_step order c_in in
      let i = o.each at.0 c_step at.1 in
      let act : i.call.act ≡ Act.Close = ap (λ (c : Call). c.act) (c_call i) ∙ k.closes_at.0.act_is in
      sym (subst (λ (a : Act). MayHaveDone a c_step.act) act i.may)

  not_before : (s : Step) → Before s c_step order → WantsClosed s.act → ⊥
  unfolding c_step
  not_before s first wants =
      let at = at_before s c_step order first in
      let r = did_of WantsClosed (λ did may. (taking_did did may).1) s (in_at s order at.0 at.3) wants in
      let wants_said : WantsClosed r.0.call.act = subst WantsClosed (sym r.1) wants in
      let other : s.place ≢ close = λ same. o.once at.0 at.1 s c_step at.2 at.3 at.4 (same ∙ sym the_close.place_is) in
      let from = k.closed_from s.place r.0.call r.0.call_is other wants_said in
      o.in_time at.0 at.1 s c_step at.2 at.3 at.4 (record {
        one = k.closes_at.0.call;
        other = r.0.call;
        end = 3 * shut + 1;
        one_is = ap (slice_get clipped) the_close.place_is ∙ k.closes_at.0.call_is;
        other_is = r.0.call_is;
        ended = k.closes_at.2;
        before = from;
      })

  has_ended : (act : Act) → (p : ℕ) (d : Call) → slice_get clipped p ≡ Some d → d.act ≡ act → WantsOpen act → (IsIdle act → IsSome d.end) → IsSome d.end
  has_ended act p d is act_is wants idle =
      let sends : (v : ℕ) → d.act ≡ Act.Send v → IsSome d.end =
      λ v e. k.sends_end p v (record { call = d; call_is = is; act_is = e }) in
      grind arith

  not_after : (t : Step) → Before c_step t order → WantsOpen t.act → ⊥
  unfolding c_step
  not_after t first wants =
      let at = at_before c_step t order first in
      let within = in_at t order at.1 at.4 in
      let r = did_of WantsOpen (λ did may. (taking_did did may).0) t within wants in
      let wants_said : WantsOpen r.0.call.act = subst WantsOpen (sym r.1) wants in
      let ended = has_ended t.act t.place r.0.call r.0.call_is r.1 wants (λ idle. quiet t within idle r.0.call r.0.call_is) in
      let by = k.open_by t.place r.0.call r.0.call_is wants_said ended in
      o.in_time at.0 at.1 c_step t at.2 at.3 at.4 (record {
        one = r.0.call;
        other = k.closes_at.0.call;
        end = by.0;
        one_is = r.0.call_is;
        other_is = ap (slice_get clipped) the_close.place_is ∙ k.closes_at.0.call_is;
        ended = by.1;
        before = omega arith;
      })

  ends_more : (a b : ℕ) → EndsBefore calls a b → EndsBefore clipped a b
  ends_more a b e = grind arith

  -- an order of the clipped log is one of the log, with its closes
  pub unclip : IsOrder (of_any_capacity rules) calls order
  unclip = record {
    each = λ j s is.
        let i = o.each j s is in
        let r = k.back s.place i.call i.call_is in
        record {
          call = r.0;
          call_is = r.1;
          may = elim r.2 [
            | inl same ↦ subst (λ (a : Act). MayHaveDone a s.act) same i.may
            | inr idle ↦ absurd (not_idle s (in_at s order j is) i idle.0 idle.1)
          ];
        };
    once = o.once;
    whole = λ place c is ended. let d = k.there place c is in o.whole place d.0 d.1 (d.2 ended);
    in_time = λ i j s t less s_is t_is ends. o.in_time i j s t less s_is t_is (ends_more t.place s.place ends);
    in_line = subst (λ (l : List Tie). RespectsLines l order) same_ties o.in_line;
    legal = o.legal;
    closing = λ judged. by_close order c_step c_in c_act not_before not_after;
  }
    where
      not_idle : (s : Step) → In s order → (i : IsCall clipped s) → IsIdle i.call.act → i.call.end ≡ None → ⊥
      not_idle s within i idle open_end = grind arith

-- Complete, with closes: if the clipped log has none of the faults, the log has a legal order.
pub complete_closed : (rules : Rules) (calls clipped : List Call) (shut close : ℕ) → rules.ties.items ≡ [] → Clips calls clipped shut close → Differ clipped → Ready clipped → IsLinearizable (of_any_capacity rules) calls
complete_closed rules calls clipped shut close ties k differ ready =
    let plain : Rules = record rules { closes = false } in
    let o = ready_has_order (suc (waiting clipped)) plain clipped (omega arith) ties refl differ ready in
    (o.0, unclip rules calls clipped shut close k o.0 plain refl o.1 o.2)

-- ---- no call shows the queue closed

never_closed : (steps : List Step) → ((s : Step) → In s steps → WantsClosed s.act → ⊥) → Closes false steps
never_closed [] other = tt
never_closed (x ∷ steps) other =
    let o = open_before x.act (other x (inl refl)) in
    (o.0, subst (λ (b : Bool). Closes b steps) (sym o.1) (never_closed steps (λ s within. other s (inr within))))

wants_said : (said did : Act) → MayHaveDone said did → WantsClosed did → said ≡ did
wants_said said did may wants = grind arith

-- Complete, if the closes that the log has haven't returned, and no call shows the queue closed.
pub complete_open : (rules : Rules) (calls : List Call) → rules.ties.items ≡ [] → Differ calls → Ready calls → ((p : ℕ) (c : Call) → slice_get calls p ≡ Some c → WantsClosed c.act → IsIdle c.act × (IsSome c.end → ⊥)) → IsLinearizable (of_any_capacity rules) calls
complete_open rules calls ties differ ready unclosed =
    let plain : Rules = record rules { closes = false } in
    let o = ready_has_order (suc (waiting calls)) plain calls (omega arith) ties refl differ ready in (
      o.0,
      record {
        each = o.1.each;
        once = o.1.once;
        whole = o.1.whole;
        in_time = o.1.in_time;
        in_line = o.1.in_line;
        legal = o.1.legal;
        closing = λ judged. never_closed o.0 (λ s within wants.
            let at = at_in s o.0 within in
            let i = o.1.each at.0 s at.1 in
            let same = wants_said i.call.act s.act i.may wants in
            let u = unclosed s.place i.call i.call_is (subst WantsClosed (sym same) wants) in
            u.1 (o.2 s within (subst IsIdle same u.0) i.call i.call_is));
      },
    )
