-- The facts that a legal order of a log gives of the calls of the log.
use Rattle.std.proofs.Common.{◌≡◌, ◌≢◌, ℕ, ◌≤◌, ◌⊎◌, inl, inr, List, [], Some, None, IsSome, refl, sym, ap, ◌∙◌, subst, arith}
use Rattle.std.specs.List.{slice_get}
use Rattle.std.proofs.lemmas.Bool.{cases_lt}
use Rattle.cc_judge.specs.Names.{Act, Call, Rules, Step}
use Rattle.cc_judge.specs.Order.{MayHaveDone, EndsBefore, IsCall, HasStepOf, IsRun, IsOrder}
use Rattle.cc_judge.specs.Faults.{Did, Returned, Differ}
use Rattle.cc_judge.proofs.Places.{In, Before, before_first, before_second, in_order, in_at, at_in, at_before, before_at}
use Rattle.cc_judge.proofs.Runs.{taken_once, of_whatever_capacity}
use Rattle.cc_judge.proofs.Calls.{is_some_of}

-- a call that says what it did did that
did_same : (said did : Act) → MayHaveDone said did → said ≢ Act.Taking → did ≡ said
did_same said did may plain = grind arith

-- a send did what the log says
did_send : (said : Act) (item : ℕ) → MayHaveDone said (Act.Send item) → said ≡ Act.Send item
did_send said item may = grind arith

-- a take of this item is one of the log, or one that hasn't returned
did_took : (said : Act) (item : ℕ) → MayHaveDone said (Act.Took item) → (said ≡ Act.Took item) ⊎ (said ≡ Act.Taking)
did_took said item may = grind arith

-- a close did what the log says
did_close : (said : Act) → MayHaveDone said Act.Close → said ≡ Act.Close
did_close said may = grind arith

-- an order is one of a queue of whatever capacity
pub runs : (rules : Rules) (calls : List Call) (order : List Step) → IsOrder rules calls order → IsRun None [] order
runs rules calls order o = of_whatever_capacity rules.capacity [] order o.legal

-- the step of a call that returned
pub record StepOf (order : List Step) (place : ℕ) (act : Act) : Type 0 where
  pub step : Step
  pub within : In step order
  pub place_is : step.place ≡ place
  pub act_is : step.act ≡ act

pub step_of : (rules : Rules) (calls : List Call) (order : List Step) → IsOrder rules calls order → (place : ℕ) (c : Call) (act : Act) → slice_get calls place ≡ Some c → c.act ≡ act → act ≢ Act.Taking → IsSome c.end → StepOf order place act
step_of rules calls order o place c act call_is act_is plain ended =
    let h : HasStepOf order place = o.whole place c call_is ended in
    let i : IsCall calls h.step = o.each h.at h.step h.step_is in
    let one : i.call ≡ c = cc in
    let said : i.call.act ≡ act = ap (λ (x : Call). x.act) one ∙ act_is in
    record {
      step = h.step;
      within = in_at h.step order h.at h.step_is;
      place_is = h.place_is;
      act_is = did_same i.call.act h.step.act i.may (λ is. plain (sym said ∙ is)) ∙ said;
    }

pub returned_step : (rules : Rules) (calls : List Call) (order : List Step) → IsOrder rules calls order → (place : ℕ) (act : Act) → act ≢ Act.Taking → Returned calls place act → StepOf order place act
returned_step rules calls order o place act plain r = step_of rules calls order o place r.call act r.call_is r.act_is plain r.ended

-- a call that ended before another began returned
pub ended_step : (rules : Rules) (calls : List Call) (order : List Step) → IsOrder rules calls order → (place other : ℕ) (act : Act) → act ≢ Act.Taking → Did calls place act → EndsBefore calls place other → StepOf order place act
ended_step rules calls order o place other act plain d e =
    let one : d.call ≡ e.one = cc in
    step_of rules calls order o place d.call act d.call_is d.act_is plain (is_some_of d.call.end e.end (ap (λ (x : Call). x.end) one ∙ e.ended))

pub in_log : (rules : Rules) (calls : List Call) (order : List Step) → IsOrder rules calls order → (s : Step) → In s order → IsCall calls s
in_log rules calls order o s within = let at = at_in s order within in o.each at.0 s at.1

-- a step that sends is a call of the log that sends
pub sent_in_log : (rules : Rules) (calls : List Call) (order : List Step) → IsOrder rules calls order → (s : Step) (item : ℕ) → In s order → s.act ≡ Act.Send item → Did calls s.place (Act.Send item)
sent_in_log rules calls order o s item within is =
    let i = in_log rules calls order o s within in
    record { call = i.call; call_is = i.call_is; act_is = did_send i.call.act item (subst (MayHaveDone i.call.act) is i.may) }

-- a step that takes is a call of the log that took so, or one that hasn't returned
pub took_in_log : (rules : Rules) (calls : List Call) (order : List Step) → IsOrder rules calls order → (s : Step) (item : ℕ) → In s order → s.act ≡ Act.Took item → Did calls s.place (Act.Took item) ⊎ Did calls s.place Act.Taking
took_in_log rules calls order o s item within is =
    let i = in_log rules calls order o s within in
    elim (did_took i.call.act item (subst (MayHaveDone i.call.act) is i.may)) [
      | inl took ↦ inl (record { call = i.call; call_is = i.call_is; act_is = took })
      | inr taking ↦ inr (record { call = i.call; call_is = i.call_is; act_is = taking })
    ]

-- a step that closes is a call of the log that closes
pub closed_in_log : (rules : Rules) (calls : List Call) (order : List Step) → IsOrder rules calls order → (s : Step) → In s order → s.act ≡ Act.Close → Did calls s.place Act.Close
closed_in_log rules calls order o s within is =
    let i = in_log rules calls order o s within in
    record { call = i.call; call_is = i.call_is; act_is = did_close i.call.act (subst (MayHaveDone i.call.act) is i.may) }

-- two steps are of two calls
pub apart : (rules : Rules) (calls : List Call) (order : List Step) → IsOrder rules calls order → (s t : Step) → Before s t order → s.place ≢ t.place
apart rules calls order o s t first = let at = at_before s t order first in o.once at.0 at.1 s t at.2 at.3 at.4

pub one_step : (rules : Rules) (calls : List Call) (order : List Step) → IsOrder rules calls order → (s t : Step) → In s order → In t order → s.place ≡ t.place → s ≡ t
one_step rules calls order o s t first second same = elim (in_order s t order first second) [
  | inl here ↦ here
  | inr placed ↦ elim placed [
    | inl one ↦ absurd (apart rules calls order o s t one same)
    | inr two ↦ absurd (apart rules calls order o t s two (sym same))
  ]
]

-- no step comes after one whose call began after it had ended
pub in_time : (rules : Rules) (calls : List Call) (order : List Step) → IsOrder rules calls order → (s t : Step) → Before s t order → EndsBefore calls t.place s.place → ⊥
in_time rules calls order o s t first ends = let at = at_before s t order first in o.in_time at.0 at.1 s t at.2 at.3 at.4 ends

same_place : (rules : Rules) (calls : List Call) (order : List Step) → IsOrder rules calls order → (t : Step) (j k : ℕ) → slice_get order j ≡ Some t → slice_get order k ≡ Some t → j ≤ k
same_place rules calls order o t j k at_j at_k = elim (cases_lt k j) [ inl less ↦ absurd (o.once k j t t less at_k at_j refl) | inr not_less ↦ not_less ]

-- a step before a step that is before another is before that
pub on_before : (rules : Rules) (calls : List Call) (order : List Step) → IsOrder rules calls order → (s t u : Step) → Before s t order → Before t u order → Before s u order
on_before rules calls order o s t u one two = grind (arith, at_before, before_at, same_place)

-- of one item one send is in an order
pub one_send : (rules : Rules) (calls : List Call) (order : List Step) → IsOrder rules calls order → Differ calls → (item : ℕ) (s t : Step) → Before s t order → s.act ≡ Act.Send item → t.act ≢ Act.Send item
one_send rules calls order o differ item s t first sent again =
    apart rules calls order o s t first (differ item s.place t.place (sent_in_log rules calls order o s item (before_first s t order first) sent) (sent_in_log rules calls order o t item (before_second s t order first) again))

-- of one item one take does
pub one_take : (rules : Rules) (calls : List Call) (order : List Step) → IsOrder rules calls order → Differ calls → (item : ℕ) (s t : Step) → In s order → In t order → s.act ≡ Act.Took item → t.act ≡ Act.Took item → s ≡ t
one_take rules calls order o differ item s t first second took again = elim (in_order s t order first second) [
  | inl same ↦ same
  | inr placed ↦ elim placed [
    | inl one ↦ absurd (taken_once order s t item (runs rules calls order o) (one_send rules calls order o differ item) one took again)
    | inr two ↦ absurd (taken_once order t s item (runs rules calls order o) (one_send rules calls order o differ item) two again took)
  ]
]
