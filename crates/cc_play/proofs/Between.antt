-- The invariant between turns, and why a pass without an answer to be taken can begin its next
-- call.
use Rattle.std.proofs.Common.{◌≡◌, ◌≢◌, ◌<◌, ◌≤◌, ℕ, zero, suc, nat_lt, ◌+◌, ◌-◌, ◌*◌, List, [], length, get_or, set, Bool, true, false, cond, ◌⊎◌, inl, inr, Option, Some, None, Result, Ok, refl, sym, ap, ◌∙◌, subst, arith}
use Rattle.std.specs.Bool.{⊤}
use Rattle.std.proofs.lemmas.Bool.{cases_eq}
use Rattle.std.proofs.lemmas.Bool.Decides.{nat_tests}
use Rattle.std.proofs.lemmas.List.{get_or-set_same, get_or-set_other}
use Rattle.std.proofs.lemmas.Option.{get_or_from_slice_get, slice_get_within}
use Rattle.cc_model.specs.Range.{within}
use Rattle.cc_play.specs.Names.{Config, Answer, Call, Pass, BeginFault, Setting, Served, Chain, Event, Phase, Stand, Move}
use Rattle.cc_runs.specs.Lines.{event_at}
use Rattle.cc_runs.specs.State.{State, chain_of, hold}
use Rattle.cc_runs.specs.Run.{begun_after, nowhere, passes}
use Rattle.cc_machine.specs.Machine.{index_of, IsOpened, IsAfter, event_of, event_in, stepped_on, HasStepped, HasGone, HasGoneOn, told_at, told_in, answer_of, HasTaken, HasBegun, begin_fault, fault_at, unless_busy, unless_worn, unless_wrong}
use Rattle.cc_machine.specs.View.{View, state_in}
use Rattle.cc_runs.proofs.Chains.Frame.{hold_here, hold_apart}
use Rattle.cc_plan.specs.Plan.{PlanValue}
use Rattle.cc_plan.specs.PlanLaws.{IsOfSender, Valid}
use Rattle.cc_play.specs.Schedule.{setting_of, next_call, IsBetweenTurns}

-- ---- the opening

opened_stand : (b : Bool) (node : ℕ) (at : Stand) → cond b (record { begun = 0; node = node; phase = Phase.Idle }) nowhere ≡ at → (told_at at.phase ≡ None) × (at.begun ≡ 0)
opened_stand true node at e = (sym (ap (λ (s : Stand). told_at s.phase) e), sym (ap (λ (s : Stand). s.begun) e))
opened_stand false node at e = (sym (ap (λ (s : Stand). told_at s.phase) e), sym (ap (λ (s : Stand). s.begun) e))

-- at the opening no pass has a call
pub opened_between : (plan : PlanValue) (m : View) (begun : List ℕ) → IsOpened Served.List plan.config m → IsBetweenTurns plan m begun
opened_between plan m begun h = record {
  setting = h.setting;
  taken = λ r. (stands r).0;
  sends = λ r. let none : ((state_in m).stand r).begun ≡ 0 = (stands r).1 in omega (arith, none);
}
  where
    stands : (r : ℕ) → (told_at ((state_in m).stand r).phase ≡ None) × (((state_in m).stand r).begun ≡ 0)
    stands r = opened_stand (nat_lt r (passes (setting_of plan))) _ ((state_in m).stand r) (sym (ap (λ (s : State). s.stand r) h.state))

-- ---- within a turn

-- the same within the turn of the pass in this row, which may have an answer to be taken
record IsWithin (plan : PlanValue) (row : ℕ) (m : View) (begun : List ℕ) : Type 0 where
  setting : m.setting ≡ setting_of plan
  taken : (r : ℕ) → r ≢ row → told_at ((state_in m).stand r).phase ≡ None
  sends : (r : ℕ) → ((state_in m).stand r).begun ≤ get_or begun r 0

enters : (plan : PlanValue) (row : ℕ) (m : View) (begun : List ℕ) → IsBetweenTurns plan m begun → IsWithin plan row m begun
enters plan row m begun at = record { setting = at.setting; taken = λ r ne. at.taken r; sends = at.sends }

-- a move of this pass alone
moved_within : (plan : PlanValue) (row : ℕ) (m m' : View) (begun begun' : List ℕ) (there : Stand) → IsWithin plan row m begun → m'.setting ≡ m.setting
    → ((r : ℕ) → (state_in m').stand r ≡ hold (state_in m).stand row there r) → there.begun ≤ get_or begun' row 0 → ((r : ℕ) → r ≢ row → get_or begun' r 0 ≡ get_or begun r 0)
    → IsWithin plan row m' begun'
moved_within plan row m m' begun begun' there at kept stands here others = record {
  setting = kept ∙ at.setting;
  taken = λ r ne. ap (λ (s : Stand). told_at s.phase) (apart r ne) ∙ at.taken r ne;
  sends = λ r. by r (cases_eq r row);
}
  where
    apart : (r : ℕ) → r ≢ row → (state_in m').stand r ≡ (state_in m).stand r
    apart r ne = stands r ∙ hold_apart (state_in m).stand row r there ne

    by : (r : ℕ) → (r ≡ row) ⊎ (r ≢ row) → ((state_in m').stand r).begun ≤ get_or begun' r 0
    by r (inl same) =
        let is : (state_in m').stand row ≡ there = stands row ∙ hold_here (state_in m).stand row there in
        rw (same, is) here
    by r (inr ne) =
        let is : ((state_in m').stand r).begun ≡ ((state_in m).stand r).begun = ap (λ (s : Stand). s.begun) (apart r ne) in
        let count : get_or begun' r 0 ≡ get_or begun r 0 = others r ne in
        let before : ((state_in m).stand r).begun ≤ get_or begun r 0 = at.sends r in
        omega (arith, is, count, before)

after_is : (m m' : View) (h : State) → state_in m' ≡ h → (r : ℕ) → (state_in m').stand r ≡ h.stand r
after_is m m' h e r = ap (λ (s : State). s.stand r) e

one_more : (k : Call) (n : ℕ) → begun_after k n ≤ n + 1
one_more (Call.Send body) n = omega arith
one_more Call.Close n = omega arith
one_more Call.Take n = omega arith

idle_place : (at : Phase) → event_at at ≡ Event.Idle → told_at at ≡ None → at ≡ Phase.Idle
idle_place Phase.Idle e none = refl
idle_place (Phase.Finished told) e none = cc none
idle_place _ e none = cc e

module _ (plan : PlanValue) (who : Pass) (row : ℕ) (named : index_of (setting_of plan) who ≡ Some row) where
  index : (m : View) → m.setting ≡ setting_of plan → index_of m.setting who ≡ Some row
  index m is = rw is named

  -- between turns a pass without a step is idle
  pub idle_between : (m : View) (begun : List ℕ) → IsBetweenTurns plan m begun → Event.Idle ≡ event_of m who → ((state_in m).stand row).phase ≡ Phase.Idle
  idle_between m begun at is = idle_place ((state_in m).stand row).phase (sym (is ∙ ap (event_in m) (index m at.setting))) (at.taken row)

  stepped_within : (m m' : View) (begun : List ℕ) (e : Event) → IsWithin plan row m begun → HasStepped m (index_of m.setting who) e m' → IsWithin plan row m' begun
  stepped_within m m' begun e at did = core e (subst (λ (o : Option ℕ). HasStepped m o e m') (index m at.setting) did)
    where
      core : (x : Event) → HasStepped m (Some row) x m' → IsWithin plan row m' begun
      core (Event.Did kind) h = moved_within plan row m m' begun begun _ at h.setting (after_is m m' _ h.state) (at.sends row) (λ r ne. refl)
      core Event.Idle h = rw h at

  -- many steps leave the other passes, and how many calls this one began
  others : (c : Setting) (s : State) (n r : ℕ) → r ≢ row → (stepped_on c s row n).stand r ≡ s.stand r
  others c s zero r ne = refl
  others c s (suc n) r ne = hold_apart (stepped_on c s row n).stand row r _ ne ∙ others c s n r ne

  own : (c : Setting) (s : State) (n : ℕ) → ((stepped_on c s row n).stand row).begun ≡ (s.stand row).begun
  own c s zero = refl
  own c s (suc n) = ap (λ (at : Stand). at.begun) (hold_here (stepped_on c s row n).stand row _) ∙ own c s n

  gone_within : (m m' : View) (begun : List ℕ) (n : ℕ) → IsWithin plan row m begun → HasGoneOn m (index_of m.setting who) n m' → IsWithin plan row m' begun
  gone_within m m' begun n at did = record {
    setting = gone.setting ∙ at.setting;
    taken = λ r ne. ap (λ (s : Stand). told_at s.phase) (stands r ∙ others m.setting (state_in m) n r ne) ∙ at.taken r ne;
    sends = λ r. by r (cases_eq r row);
  }
    where
      gone : HasGone m row n m'
      gone = subst (λ (o : Option ℕ). HasGoneOn m o n m') (index m at.setting) did

      stands : (r : ℕ) → (state_in m').stand r ≡ (stepped_on m.setting (state_in m) row n).stand r
      stands r = ap (λ (s : State). s.stand r) gone.state

      by : (r : ℕ) → (r ≡ row) ⊎ (r ≢ row) → ((state_in m').stand r).begun ≤ get_or begun r 0
      by r (inl same) = rw same (let is = ap (λ (s : Stand). s.begun) (stands row) ∙ own m.setting (state_in m) n in omega (arith, is, at.sends row))
      by r (inr ne) = let is = ap (λ (s : Stand). s.begun) (stands r ∙ others m.setting (state_in m) n r ne) in omega (arith, is, at.sends r)

  begun_within : (m m' : View) (begun : List ℕ) (k : Call) (known : ℕ) → IsWithin plan row m begun → row < length begun → HasBegun m (index_of m.setting who) k known m' → IsWithin plan row m' (set begun row (get_or begun row 0 + 1))
  begun_within m m' begun k known at inside did =
      let h : IsAfter m (Move.Begin row k known) m' = subst (λ (o : Option ℕ). HasBegun m o k known m') (index m at.setting) did in
      let before : ((state_in m).stand row).begun ≤ get_or begun row 0 = at.sends row in
      let now : get_or (set begun row (get_or begun row 0 + 1)) row 0 ≡ get_or begun row 0 + 1 = get_or-set_same begun row (get_or begun row 0 + 1) 0 inside in
      let more : begun_after k ((state_in m).stand row).begun ≤ ((state_in m).stand row).begun + 1 = one_more k ((state_in m).stand row).begun in
      moved_within plan row m m' begun (set begun row (get_or begun row 0 + 1)) _ at h.setting (after_is m m' _ h.state) (omega (arith, before, now, more))
      (λ r ne. get_or-set_other begun row r (get_or begun row 0 + 1) 0 ne)

  -- the turn ends as the answer is taken
  taken_between : (m m' : View) (begun : List ℕ) (a : Option Answer) → IsWithin plan row m begun → a ≡ answer_of m who → HasTaken m (index_of m.setting who) a m' → IsBetweenTurns plan m' begun
  taken_between m m' begun a at is did =
      core a (is ∙ ap (told_in m) (index m at.setting)) (subst (λ (o : Option ℕ). HasTaken m o a m') (index m at.setting) did)
    where
      ends : (w : View) → IsWithin plan row w begun → told_at ((state_in w).stand row).phase ≡ None → IsBetweenTurns plan w begun
      ends w now none = record { setting = now.setting; taken = λ r. by r (cases_eq r row); sends = now.sends }
        where
          by : (r : ℕ) → (r ≡ row) ⊎ (r ≢ row) → told_at ((state_in w).stand r).phase ≡ None
          by r (inl same) = rw same none
          by r (inr ne) = now.taken r ne

      core : (x : Option Answer) → x ≡ told_at ((state_in m).stand row).phase → HasTaken m (Some row) x m' → IsBetweenTurns plan m' begun
      core (Some told) same h =
          ends m' (moved_within plan row m m' begun begun _ at h.setting (after_is m m' _ h.state) (at.sends row) (λ r ne. refl))
          (ap (λ (s : Stand). told_at s.phase) (after_is m m' _ h.state row ∙ hold_here (state_in m).stand row _))
      core None same h = rw h (ends m at (sym same))

  -- a pass that had a step
  pub did_between : (m m1 m2 : View) (begun : List ℕ) (e : Event) (a : Option Answer) → IsBetweenTurns plan m begun → HasStepped m (index_of m.setting who) e m1
      → a ≡ answer_of m1 who → HasTaken m1 (index_of m1.setting who) a m2 → IsBetweenTurns plan m2 begun
  did_between m m1 m2 begun e a at did told took = taken_between m1 m2 begun a (stepped_within m m1 begun e (enters plan row m begun at) did) told took

  -- one that had this number
  pub gone_between : (m m1 m2 : View) (begun : List ℕ) (n : ℕ) (a : Option Answer) → IsBetweenTurns plan m begun → HasGoneOn m (index_of m.setting who) n m1
      → a ≡ answer_of m1 who → HasTaken m1 (index_of m1.setting who) a m2 → IsBetweenTurns plan m2 begun
  gone_between m m1 m2 begun n a at did told took = taken_between m1 m2 begun a (gone_within m m1 begun n (enters plan row m begun at) did) told took

  -- one that began its next call
  pub begun_between : (m m1 m2 m3 : View) (begun : List ℕ) (k : Call) (known : ℕ) (e : Event) (a : Option Answer) → IsBetweenTurns plan m begun → row < length begun → HasBegun m (index_of m.setting who) k known m1
      → HasStepped m1 (index_of m1.setting who) e m2 → a ≡ answer_of m2 who → HasTaken m2 (index_of m2.setting who) a m3 → IsBetweenTurns plan m3 (set begun row (get_or begun row 0 + 1))
  begun_between m m1 m2 m3 begun k known e a at inside began did told took =
      let counted : List ℕ = set begun row (get_or begun row 0 + 1) in
      taken_between m2 m3 counted a (stepped_within m1 m2 counted e (begun_within m m1 begun k known (enters plan row m begun at) inside began) did) told took

-- ---- the next call can begin

chosen : {A : Type 0} (b : Bool) (x y : A) → cond b (Some x) None ≡ Some y → (b ≡ true) × (x ≡ y)
chosen true x y e = (refl, cc e)
chosen false x y e = cc e

send_side : (k : Call) (rest : Result ⊤ BeginFault) → IsOfSender k → unless_wrong Served.List Chain.Send k rest ≡ rest
send_side (Call.Send body) rest of = refl
send_side Call.Close rest of = refl
send_side Call.Take rest of = absurd of

-- a call of the plan is made on its side, and is one of 65,536 at most
record IsPlanned (plan : PlanValue) (row begun : ℕ) (k : Call) : Type 0 where
  side : (rest : Result ⊤ BeginFault) → unless_wrong Served.List (chain_of plan.config row) k rest ≡ rest
  few : begun < 65536

planned : (plan : PlanValue) (who : Pass) (row begun : ℕ) (k : Call) → Valid plan → index_of (setting_of plan) who ≡ Some row → next_call plan who begun ≡ Some k → IsPlanned plan row begun k
planned plan (Pass.Sender n) row begun k valid named next =
    let here = chosen (within 1 plan.config.senders n) (n - 1) row named in
    let high : row < plan.config.senders = grind (arith, nat_tests, here.0, here.1) in
    let calls : List Call = get_or plan.senders (n - 1) [] in
    let there : n - 1 < length plan.senders = omega (arith, high, here.1, valid.senders) in
    let inside : begun < length calls = slice_get_within calls begun k next in
    let of : IsOfSender k = subst IsOfSender (get_or_from_slice_get calls begun k k next) (valid.calls (n - 1) [] there begun k inside) in
    let on : nat_lt row plan.config.senders ≡ true = grind (arith, nat_tests, high) in
    record { side = λ rest. rw on (send_side k rest of); few = omega (arith, inside, valid.sends (n - 1) [] there) }
planned plan (Pass.Receiver n) row begun k valid named next =
    let here = chosen (within 1 (plan.config.groups * plan.config.receivers) n) (plan.config.senders + (n - 1)) row named in
    let now = chosen (nat_lt begun (get_or plan.receivers (n - 1) 0)) Call.Take k next in
    let low : n - 1 < plan.config.groups * plan.config.receivers = grind (arith, nat_tests, here.0) in
    let there : n - 1 < length plan.receivers = omega (arith, low, valid.receivers) in
    let inside : begun < get_or plan.receivers (n - 1) 0 = grind (arith, nat_tests, now.0) in
    let off : nat_lt row plan.config.senders ≡ false = grind (arith, nat_tests, here.1) in
    record { side = λ rest. rw (off, ← now.1) refl; few = omega (arith, inside, valid.takes (n - 1) 0 there) }

not_worn : (c : Config) (n : ℕ) → n ≤ c.per_sender → unless_worn c n ≡ Ok tt
not_worn c n less = let test : nat_lt c.per_sender n ≡ false = grind (arith, nat_tests, less) in rw test refl

-- only memory can be refused
pub may_begin : (plan : PlanValue) (who : Pass) (row : ℕ) (m : View) (begun : List ℕ) (k : Call) → Valid plan → index_of (setting_of plan) who ≡ Some row → IsBetweenTurns plan m begun
    → Event.Idle ≡ event_of m who → next_call plan who (get_or begun row 0) ≡ Some k → begin_fault m who k ≡ Ok tt
may_begin plan who row m begun k valid named at is next =
    let here : index_of m.setting who ≡ Some row = rw at.setting named in
    let call : IsPlanned plan row (get_or begun row 0) k = planned plan who row (get_or begun row 0) k valid named next in
    let idle : ((state_in m).stand row).phase ≡ Phase.Idle = idle_between plan who row named m begun at is in
    let sent : ((state_in m).stand row).begun ≤ get_or begun row 0 = at.sends row in
    let more : begun_after k ((state_in m).stand row).begun ≤ ((state_in m).stand row).begun + 1 = one_more k ((state_in m).stand row).begun in
    let few : get_or begun row 0 < 65536 = call.few in
    let limit : plan.config.per_sender ≡ 4294967295 = valid.limit in
    let fresh : unless_worn plan.config (begun_after k ((state_in m).stand row).begun) ≡ Ok tt = not_worn plan.config _ (omega (arith, sent, more, few, limit)) in
    ap (fault_at m k) here ∙ ap (λ (c : Setting). unless_wrong c.served (chain_of c.config row) k (unless_busy ((state_in m).stand row).phase (unless_worn c.config (begun_after k ((state_in m).stand row).begun)))) at.setting
    ∙ call.side _ ∙ ap (λ (p : Phase). unless_busy p (unless_worn plan.config (begun_after k ((state_in m).stand row).begun))) idle ∙ fresh
