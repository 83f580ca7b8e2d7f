-- A queue never holds more items than its capacity.
use Rattle.std.proofs.Common.{◌≡◌, ℕ, suc, ◌+◌, ◌<◌, ◌≤◌, ◌⊎◌, inl, inr, List, [], ◌∷◌, length, length-append, Option, Some, IsSome, refl, sym, ap, ◌∙◌, subst, arith}
use Rattle.std.specs.List.{slice_get}
use Rattle.cc_judge.specs.Names.{Act, Call, Rules, Step}
use Rattle.cc_judge.specs.Order.{Does, IsRun, IsOrder}
use Rattle.cc_judge.specs.Faults.{Did, Returned, Differ, EndedBy, MoreAt, TooMany}
use Rattle.cc_judge.proofs.Places.{In, Before, before_first, in_order, in_last}
use Rattle.cc_judge.proofs.Runs.{to_where, sends_last, loosened}
use Rattle.cc_judge.proofs.Orders.{StepOf, step_of, returned_step, took_in_log, in_time, on_before, one_take, one_step}
use Rattle.cc_judge.proofs.Fewer.{fits, split}
use Rattle.cc_judge.proofs.Full.{NoneTwice, none_twice_later, none_before, none_twice}

-- ---- what the queue holds after a step

-- the step is this one, or comes before it
abbrev Until : Step → Step → List Step → Type 0
Until u t steps = (u ≡ t) ⊎ Before u t steps

few_after : (capacity : ℕ) (held next : List ℕ) (act : Act) → Does (Some capacity) held act next → length held ≤ capacity → length next ≤ capacity
few_after capacity held next (Act.Send v) does few = let n = ap length does.0 in let sum = length-append held (v ∷ []) in omega (arith, n, sum, does.1)
few_after capacity held next (Act.Took v) does few = let n = ap length does in omega (arith, n, few)
few_after capacity held next Act.FoundNone does few = let n = ap length does.1 in omega (arith, n)
few_after capacity held next Act.Taking does few = absurd does
few_after capacity held next Act.Full does few = let n = ap length does.0 in omega (arith, n, few)
few_after capacity held next Act.Closed does few = let n = ap length does in omega (arith, n, few)
few_after capacity held next Act.Ended does few = let n = ap length does.1 in omega (arith, n)
few_after capacity held next Act.Close does few = let n = ap length does in omega (arith, n, few)

-- a step until t took the item
abbrev IsTakenUntil : Step → List Step → ℕ → Type 0
IsTakenUntil t steps item = (u : Step) × Until u t steps × In u steps × (u.act ≡ Act.Took item)

-- what the queue holds after t: few items, and each that was held or sent until then and not taken
record HeldAfter (capacity : ℕ) (held : List ℕ) (steps : List Step) (t : Step) : Type 0 where
  items : List ℕ
  few : length items ≤ capacity
  old : (item : ℕ) → In item held → In item items ⊎ IsTakenUntil t steps item
  new : (item : ℕ) (s : Step) → Until s t steps → s.act ≡ Act.Send item → In item items ⊎ IsTakenUntil t steps item

-- the same with one step more at the front
further : (x t : Step) (steps : List Step) (item : ℕ) → IsTakenUntil t steps item → IsTakenUntil t (x ∷ steps) item
further x t steps item (u, inl same, within, took) = (u, inl same, inr within, took)
further x t steps item (u, inr before, within, took) = (u, inr (inr before), inr within, took)

further_in : (x t : Step) (steps : List Step) (items : List ℕ) (item : ℕ) → In item items ⊎ IsTakenUntil t steps item → In item items ⊎ IsTakenUntil t (x ∷ steps) item
further_in x t steps items item (inl has) = inl has
further_in x t steps items item (inr taken) = inr (further x t steps item taken)

just_sent : (capacity : ℕ) (held next : List ℕ) (act : Act) (item : ℕ) → Does (Some capacity) held act next → act ≡ Act.Send item → In item next
just_sent capacity held next act item does is = subst (In item) (sym (sends_last held next act item (loosened (Some capacity) held next act does) is)) (in_last item held)

held_after : (capacity : ℕ) (held : List ℕ) (steps : List Step) (t : Step) → IsRun (Some capacity) held steps → NoneTwice steps → length held ≤ capacity → In t steps → HeldAfter capacity held steps t
held_after capacity held [] t run once few within = absurd within
held_after capacity held (x ∷ steps) t run once few (inl here) = record {
  items = run.0;
  few = few_after capacity held run.0 x.act run.1 few;
  old = λ item has. elim (to_where held run.0 x.act item (loosened (Some capacity) held run.0 x.act run.1) has) [
    | inl still ↦ inl still
    | inr took ↦ inr (x, inl here, inl refl, took)
  ];
  new = λ item s until sent. elim until [
    | inl same ↦ inl (just_sent capacity held run.0 x.act item run.1 (ap (λ (y : Step). y.act) (here ∙ sym same) ∙ sent))
    | inr before ↦ absurd (none_before x t s steps once here before)
  ];
}
held_after capacity held (x ∷ steps) t run once few (inr rest) =
    let h = held_after capacity run.0 steps t run.2 (none_twice_later x steps once) (few_after capacity held run.0 x.act run.1 few) rest in
    record {
      items = h.items;
      few = h.few;
      old = λ item has. elim (to_where held run.0 x.act item (loosened (Some capacity) held run.0 x.act run.1) has) [
        | inl still ↦ further_in x t steps h.items item (h.old item still)
        | inr took ↦ inr (x, inr (inl (refl, rest)), inl refl, took)
      ];
      new = λ item s until sent. elim until [
        | inl same ↦ further_in x t steps h.items item (h.new item s (inl same) sent)
        | inr before ↦ elim before [
          | inl first ↦ further_in x t steps h.items item (h.old item (just_sent capacity held run.0 x.act item run.1 (ap (λ (y : Step). y.act) first.0 ∙ sent)))
          | inr later ↦ further_in x t steps h.items item (h.new item s (inr later) sent)
        ]
      ];
    }

-- ---- the last of some sends

-- a send of the list, and its step; those of all others come before it
record Last (order : List Step) (sends : List ℕ) : Type 0 where
  step : Step
  within : In step order
  place : In step.place sends
  item : ℕ
  act_is : step.act ≡ Act.Send item
  each : (send : ℕ) → In send sends → (item : ℕ) × (s : Step) × (s.place ≡ send) × (s.act ≡ Act.Send item) × Until s step order

module _ (rules : Rules) (calls : List Call) (order : List Step) (o : IsOrder rules calls order) where
  until_on : (s t u : Step) → Until s t order → Before t u order → Until s u order
  until_on s t u (inl same) later = inr (subst (λ (x : Step). Before x u order) (sym same) later)
  until_on s t u (inr before) later = inr (on_before rules calls order o s t u before later)

  last_of : (send : ℕ) (sends : List ℕ) → ((s : ℕ) → In s (send ∷ sends) → (item : ℕ) × StepOf order s (Act.Send item)) → Last order (send ∷ sends)
  last_of send [] steps =
      let s = steps send (inl refl) in
      record {
        step = s.1.step;
        within = s.1.within;
        place = inl (sym s.1.place_is);
        item = s.0;
        act_is = s.1.act_is;
        each = λ other within. elim within [
          | inl here ↦ (s.0, s.1.step, (s.1.place_is ∙ here), s.1.act_is, inl refl)
          | inr none ↦ absurd none
        ];
      }
  last_of send (next ∷ sends) steps =
      let s = steps send (inl refl) in
      let l = last_of next sends (λ other within. steps other (inr within)) in
      elim (in_order s.1.step l.step order s.1.within l.within) [
        | inl same ↦ behind s.0 s.1 l (inl same)
        | inr placed ↦ elim placed [
          | inl first ↦ behind s.0 s.1 l (inr first)
          | inr later ↦ record {
            step = s.1.step;
            within = s.1.within;
            place = inl (sym s.1.place_is);
            item = s.0;
            act_is = s.1.act_is;
            each = λ other within. elim within [
              | inl here ↦ (s.0, s.1.step, (s.1.place_is ∙ here), s.1.act_is, inl refl)
              | inr rest ↦ let e = l.each other rest in (e.0, e.1, e.2, e.3, until_on e.1 l.step s.1.step e.4 later)
            ];
          }
        ]
      ]
    where
      behind : (item : ℕ) (s : StepOf order send (Act.Send item)) (l : Last order (next ∷ sends)) → Until s.step l.step order → Last order (send ∷ next ∷ sends)
      behind item s l until = record {
        step = l.step;
        within = l.within;
        place = inr l.place;
        item = l.item;
        act_is = l.act_is;
        each = λ other within. elim within [
          | inl here ↦ (item, s.step, (s.place_is ∙ here), s.act_is, until)
          | inr rest ↦ l.each other rest
        ];
      }

-- ---- of an order

module _ (rules : Rules) (calls : List Call) (order : List Step) (o : IsOrder rules calls order) (differ : Differ calls) where
  ended_step : (send item time : ℕ) → Did calls send (Act.Send item) → EndedBy calls send time → StepOf order send (Act.Send item)
  ended_step send item time did e =
      let both : Some did.call ≡ Some e.call = sym did.call_is ∙ e.call_is in
      let one : did.call ≡ e.call = cc in
      step_of rules calls order o send did.call (Act.Send item) did.call_is did.act_is (λ is. cc) (subst IsSome (sym (ap (λ (c : Call). c.end) one ∙ e.ended)) refl)

  -- a call whose step is one until that of a send that had ended began by then
  begun : (x u : Step) (sent taken end time : ℕ) (c d : Call) → x.act ≡ Act.Send sent → u.act ≡ Act.Took taken → Until u x order → slice_get calls x.place ≡ Some c → c.end ≡ Some end → end ≤ time → slice_get calls u.place ≡ Some d → time < d.begin → ⊥
  begun x u sent taken end time c d sends takes (inl same) c_is ended by d_is after = let clash : Act.Took taken ≡ Act.Send sent = sym takes ∙ ap (λ (y : Step). y.act) same ∙ sends in cc
  begun x u sent taken end time c d sends takes (inr before) c_is ended by d_is after =
      in_time rules calls order o u x before (record { one = c; other = d; end = end; one_is = c_is; other_is = d_is; ended = ended; before = omega (arith, by, after) })

  some_place : (sends : List ℕ) (n : ℕ) → n < length sends → (first : ℕ) × (rest : List ℕ) × (sends ≡ first ∷ rest)
  some_place [] n less = absurd (omega (arith, less))
  some_place (x ∷ xs) n less = (x, xs, refl)

  module _ (sends : List ℕ) (capacity time : ℕ) (is : rules.capacity ≡ Some capacity) (m : MoreAt calls sends capacity time) where
    steps_of : (s : ℕ) → In s sends → (item : ℕ) × StepOf order s (Act.Send item)
    steps_of s within =
        let e = m.each s within in
        (e.0, ended_step s e.0 (suc time) e.1 e.2)

    last : Last order sends
    last =
        let f = some_place sends (capacity + length m.takes) m.more in
        subst (Last order) (sym f.2) (last_of rules calls order o f.0 f.1 (λ s within. steps_of s (subst (In s) (sym f.2) within)))

    after : HeldAfter capacity [] order last.step
    after = held_after capacity [] order last.step (subst (λ (c : Option ℕ). IsRun c [] order) is o.legal) (none_twice rules calls order o) (omega arith) last.within

    -- a step until the last send that took the item of a send is of one of the takes
    taken_by : (send item : ℕ) → In send sends → Did calls send (Act.Send item) → (u : Step) → Until u last.step order → In u order → u.act ≡ Act.Took item → In u.place m.takes
    taken_by send item within did u until there took =
        let e = m.each last.step.place last.place in
        let by = e.2.by in
        elim (m.others send item u.place within did may) [
          | inl has ↦ has
          | inr late ↦ absurd (begun last.step u last.item item e.2.end time e.2.call late.call last.act_is took until e.2.call_is e.2.ended (omega (arith, by)) late.call_is late.after)
        ]
      where
        may : Did calls u.place (Act.Took item) ⊎ (Did calls u.place Act.Taking × ((i : ℕ) → Returned calls i (Act.Took item) → ⊥))
        may = elim (took_in_log rules calls order o u item there took) [
          | inl said ↦ inl said
          | inr taking ↦ inr (
            taking,
            λ i r.
                let t = returned_step rules calls order o i (Act.Took item) (λ e. cc) r in
                let same = one_take rules calls order o differ item t.step u t.within there t.act_is took in
                let place : i ≡ u.place = sym t.place_is ∙ ap (λ (y : Step). y.place) same in
                let both : Some r.call ≡ Some taking.call = sym r.call_is ∙ ap (slice_get calls) place ∙ taking.call_is in
                let one : r.call ≡ taking.call = cc in
                let clash : Act.Took item ≡ Act.Taking = sym r.act_is ∙ ap (λ (c : Call). c.act) one ∙ taking.act_is in
                cc,
          )
        ]

    -- the item of a send is held, or a step of one of these calls took it
    abbrev IsHeld : ℕ → Type 0
    IsHeld send = (item : ℕ) × (Did calls send (Act.Send item) × In item after.items)

    abbrev TookBy : ℕ → ℕ → Type 0
    TookBy send place = (item : ℕ) × Did calls send (Act.Send item) × (u : Step) × In u order × (u.act ≡ Act.Took item) × (u.place ≡ place)

    abbrev IsTaken : ℕ → Type 0
    IsTaken send = (place : ℕ) × (TookBy send place × In place m.takes)

    somewhere : (send : ℕ) → In send sends → IsHeld send ⊎ IsTaken send
    somewhere send within =
        let l = last.each send within in
        let e = m.each send within in
        let s = ended_step send e.0 (suc time) e.1 e.2 in
        let same = one_step rules calls order o l.1 s.step (until_in l.1 l.4) s.within (l.2 ∙ sym s.place_is) in
        let sent : l.1.act ≡ Act.Send e.0 = ap (λ (x : Step). x.act) same ∙ s.act_is in
        elim (after.new e.0 l.1 l.4 sent) [
          | inl has ↦ inl (e.0, (e.1, has))
          | inr taken ↦ inr (taken.0.place, ((e.0, e.1, taken.0, taken.2, taken.3, refl), taken_by send e.0 within e.1 taken.0 taken.1 taken.2 taken.3))
        ]
      where
        until_in : (s : Step) → Until s last.step order → In s order
        until_in s (inl same) = subst (λ (x : Step). In x order) (sym same) last.within
        until_in s (inr before) = before_first s last.step order before

    own_take : (s t place : ℕ) → TookBy s place → TookBy t place → s ≡ t
    own_take s t place a b =
        let same = one_step rules calls order o a.2 b.2 a.3 b.3 (a.5 ∙ sym b.5) in
        let acts : Act.Took b.0 ≡ Act.Took a.0 = sym b.4 ∙ ap (λ (u : Step). u.act) (sym same) ∙ a.4 in
        let items : b.0 ≡ a.0 = cc in
        differ a.0 s t a.1 (subst (λ (i : ℕ). Did calls t (Act.Send i)) items b.1)

    overfull : ⊥
    overfull =
        let parts = split IsHeld IsTaken sends m.apart somewhere in
        let held = fits (λ send item. Did calls send (Act.Send item)) parts.ones after.items parts.once.0 (λ send within. (parts.each_one send within).1) (λ s t item one other. differ item s t one other) in
        let taken = fits TookBy parts.others m.takes parts.once.1 (λ send within. (parts.each_other send within).1) own_take in
        omega (arith, parts.long, held, taken, after.few, m.more)

pub too_many : (rules : Rules) (calls : List Call) (call : ℕ) (sends : List ℕ) (order : List Step) → Differ calls → TooMany rules calls call sends → IsOrder rules calls order → ⊥
too_many rules calls call sends order differ f o = overfull rules calls order o differ sends f.capacity f.end f.capacity_is f.held
