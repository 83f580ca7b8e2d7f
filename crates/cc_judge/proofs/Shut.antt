-- A queue that was closed stays so: which steps come before which by that.
use Rattle.std.proofs.Common.{◌≡◌, ◌≢◌, ℕ, ◌⊎◌, inl, inr, List, [], ◌∷◌, Bool, true, false, refl, subst, arith}
use Rattle.cc_judge.specs.Names.{Act, Call, Rules, Step}
use Rattle.cc_judge.specs.Order.{Allows, Closes, closed_after, IsOrder}
use Rattle.cc_judge.specs.Faults.{Differ, ShowsClosed, WasClosed, WasAccepted}
use Rattle.cc_judge.proofs.Places.{In, Before, before_first}
use Rattle.cc_judge.proofs.Orders.{StepOf, runs, returned_step, sent_in_log}
use Rattle.cc_judge.proofs.Runs.{Earlier, sent_before}

-- the queue has to be open for this
abbrev pub WantsOpen : Act → Type 0
WantsOpen act = ((item : ℕ) × (act ≡ Act.Send item)) ⊎ (act ≡ Act.Full)

open_then : (closed : Bool) (act : Act) → Allows closed act → WantsOpen act → closed ≡ false
open_then closed act allows wants = grind arith

stays_closed : (act : Act) → closed_after true act ≡ true
stays_closed act = grind arith

shows_after : (closed : Bool) (act : Act) → Allows closed act → ShowsClosed act → closed_after closed act ≡ true
shows_after closed act allows shows = grind arith

shut_for_good : (steps : List Step) (t : Step) → Closes true steps → In t steps → WantsOpen t.act → ⊥
shut_for_good [] t closes within wants = absurd within
shut_for_good (x ∷ steps) t closes (inl here) wants = grind (arith, open_then)
shut_for_good (x ∷ steps) t closes (inr later) wants = shut_for_good steps t (subst (λ (b : Bool). Closes b steps) (stays_closed x.act) closes.1) later wants

-- no step that wants the queue open comes after one that shows it closed
pub not_after : (closed : Bool) (steps : List Step) (s t : Step) → Closes closed steps → Before s t steps → ShowsClosed s.act → WantsOpen t.act → ⊥
not_after closed [] s t closes first shows wants = absurd first
not_after closed (x ∷ steps) s t closes (inl here) shows wants = grind (arith, shows_after, shut_for_good)
not_after closed (x ∷ steps) s t closes (inr later) shows wants = not_after (closed_after closed x.act) steps s t closes.1 later shows wants

-- it was answered that the queue is closed
abbrev pub Answers : Act → Type 0
Answers act = (act ≡ Act.Closed) ⊎ (act ≡ Act.Ended)

closed_then : (closed : Bool) (act : Act) → Allows closed act → Answers act → closed ≡ true
closed_then closed act allows answers = grind arith

still_open : (act : Act) → act ≢ Act.Close → closed_after false act ≡ false
still_open act other = grind arith

is_close : (act : Act) → (act ≡ Act.Close) ⊎ (act ≢ Act.Close)
is_close act = grind arith

-- a close comes before each step that answers so, of a queue that is open at first
pub closed_first : (steps : List Step) (t : Step) → Closes false steps → In t steps → Answers t.act → Earlier steps t Act.Close
closed_first [] t closes within answers = absurd within
closed_first (x ∷ steps) t closes (inl here) answers = grind (arith, closed_then)
closed_first (x ∷ steps) t closes (inr later) answers = elim (is_close x.act) [
  | inl close ↦ record { step = x; before = inl (refl, later); act_is = close }
  | inr other ↦
      let e = closed_first steps t (subst (λ (b : Bool). Closes b steps) (still_open x.act other) closes.1) later answers in
      record { step = e.step; before = inr e.before; act_is = e.act_is }
]

-- ---- of an order

not_taking : (act : Act) → ShowsClosed act → act ≢ Act.Taking
not_taking act shows taking = grind arith

pub shown_step : (rules : Rules) (calls : List Call) (order : List Step) → IsOrder rules calls order → (place : ℕ) → (w : WasClosed calls place) → StepOf order place w.act
shown_step rules calls order o place w = returned_step rules calls order o place w.act (not_taking w.act w.shows) w.returned

-- the send of an item that a step took
pub send_of : (rules : Rules) (calls : List Call) (order : List Step) → IsOrder rules calls order → (t : Step) (item : ℕ) → In t order → t.act ≡ Act.Took item → Earlier order t (Act.Send item)
send_of rules calls order o t item within took = elim (sent_before [] order t item (runs rules calls order o) within took) [ inl held ↦ absurd held | inr e ↦ e ]

-- the step of a send that was accepted
pub record AcceptedStep (order : List Step) (place : ℕ) : Type 0 where
  pub step : Step
  pub within : In step order
  pub place_is : step.place ≡ place
  pub item : ℕ
  pub act_is : step.act ≡ Act.Send item

pub accepted_step : (rules : Rules) (calls : List Call) (order : List Step) → IsOrder rules calls order → Differ calls → (send item : ℕ) → WasAccepted calls send item → AcceptedStep order send
accepted_step rules calls order o differ send item (inl returned) =
    let s = returned_step rules calls order o send (Act.Send item) (λ is. cc) returned in
    record { step = s.step; within = s.within; place_is = s.place_is; item = item; act_is = s.act_is }
accepted_step rules calls order o differ send item (inr taken) =
    let p = taken.1 in
    let t = returned_step rules calls order o taken.0 (Act.Took p.item) (λ is. cc) p.took in
    let e = send_of rules calls order o t.step p.item t.within t.act_is in
    let within = before_first e.step t.step order e.before in
    record { step = e.step; within = within; place_is = differ p.item e.step.place send (sent_in_log rules calls order o e.step p.item within e.act_is) p.sent; item = p.item; act_is = e.act_is }
