-- A send finds the queue full only if as many items as the queue holds may have been in it.
use Rattle.std.proofs.Common.{◌≡◌, ◌≢◌, ℕ, ◌<◌, ◌≤◌, ◌⊎◌, inl, inr, List, [], ◌∷◌, length, Option, Some, refl, sym, ap, ◌∙◌, subst, arith}
use Rattle.std.specs.List.{slice_get}
use Rattle.std.proofs.lemmas.Bool.{cases_lt}
use Rattle.cc_judge.specs.Names.{Act, Call, Rules, Step}
use Rattle.cc_judge.specs.Order.{EndsBefore, IsCall, Does, IsRun, IsOrder}
use Rattle.cc_judge.specs.Faults.{Differ, EndedBy, FewerAt, NotFull}
use Rattle.cc_judge.proofs.Places.{In, Before, before_first, before_second, in_order}
use Rattle.cc_judge.proofs.Runs.{Earlier, Single, AtMostOnce, later, first, from_where, takes_front, gone, single_next, loosened}
use Rattle.cc_judge.proofs.Orders.{returned_step, sent_in_log, in_log, in_time, on_before, one_send, apart}
use Rattle.cc_judge.proofs.Fewer.{Once, are_in}
use Rattle.cc_judge.proofs.Calls.{is_send, is_some_of}
use Rattle.cc_judge.proofs.Turns.{one_at}

-- no step is in the list twice
abbrev pub NoneTwice : List Step → Type 0
NoneTwice steps = (s t : Step) → Before s t steps → s ≢ t

pub none_twice_later : (x : Step) (steps : List Step) → NoneTwice (x ∷ steps) → NoneTwice steps
none_twice_later x steps once s t before = once s t (inr before)

-- nothing comes before the first step
pub none_before : (x t u : Step) (steps : List Step) → NoneTwice (x ∷ steps) → x ≡ t → Before u t (x ∷ steps) → ⊥
none_before x t u steps once here (inl before) = once x t (inl (refl, before.1)) here
none_before x t u steps once here (inr before) = once x t (inl (refl, before_second u t steps before)) here

-- what the queue holds at a step that finds it full
record HeldAt (capacity : ℕ) (held : List ℕ) (steps : List Step) (t : Step) : Type 0 where
  items : List ℕ
  many : length items ≡ capacity
  once : (item : ℕ) → AtMostOnce item items
  from : (item : ℕ) → In item items → In item held ⊎ Earlier steps t (Act.Send item)
  untaken : (item : ℕ) → In item items → (u : Step) → Before u t steps → u.act ≢ Act.Took item

held_at : (capacity : ℕ) (held : List ℕ) (steps : List Step) (t : Step) → IsRun (Some capacity) held steps → NoneTwice steps → ((item : ℕ) → Single item held steps) → In t steps → t.act ≡ Act.Full → HeldAt capacity held steps t
held_at capacity held [] t run once single within full = absurd within
held_at capacity held (x ∷ steps) t run once single (inl here) full =
    let d : Does (Some capacity) held Act.Full run.0 = subst (λ (a : Act). Does (Some capacity) held a run.0) (ap (λ (s : Step). s.act) here ∙ full) run.1 in
    record {
      items = held;
      many = d.1;
      once = λ item. (single item).once;
      from = λ item has. inl has;
      untaken = λ item has u before. absurd (none_before x t u steps once here before);
    }
held_at capacity held (x ∷ steps) t run once single (inr rest) full =
    let does = loosened (Some capacity) held run.0 x.act run.1 in
    let h = held_at capacity run.0 steps t run.2 (none_twice_later x steps once) (λ item. single_next item held run.0 x steps does (single item)) rest full in
    record {
      items = h.items;
      many = h.many;
      once = h.once;
      from = λ item has. elim (h.from item has) [
        | inl old ↦ elim (from_where held run.0 x.act item does old) [ inl older ↦ inl older | inr sent ↦ inr (first x t steps (Act.Send item) sent rest) ]
        | inr e ↦ inr (later x t steps (Act.Send item) e)
      ];
      untaken = λ item has u before took. elim before [
        | inr on ↦ h.untaken item has u on took
        | inl here ↦
            let is : x.act ≡ Act.Took item = ap (λ (y : Step). y.act) here.0 ∙ took in
            elim (h.from item has) [
              | inl old ↦ gone held run.0 x.act item does (single item).once is old
              | inr e ↦ (single item).no_more (takes_front held run.0 x.act item does is) e.step (inr (before_first e.step t steps e.before)) e.act_is
            ]
      ];
    }

-- the latest time at which the send of a step before t began, or the least time
record Latest (calls : List Call) (steps : List Step) (t : Step) (least : ℕ) : Type 0 where
  time : ℕ
  from : (time ≡ least) ⊎ ((s : Step) × (item : ℕ) × (c : Call) × Before s t steps × (s.act ≡ Act.Send item) × (slice_get calls s.place ≡ Some c) × (c.begin ≡ time))
  over : least ≤ time
  each : (s : Step) (item : ℕ) (c : Call) → Before s t steps → s.act ≡ Act.Send item → slice_get calls s.place ≡ Some c → c.begin ≤ time

-- the same with one step more at the front
module _ (calls : List Call) (x : Step) (steps : List Step) (t : Step) (least : ℕ) (within : In t steps) (i : IsCall calls x) (l : Latest calls steps t least) where
  latest_kept : ((s : Step) (item : ℕ) (c : Call) → x ≡ s → s.act ≡ Act.Send item → slice_get calls s.place ≡ Some c → c.begin ≤ l.time) → Latest calls (x ∷ steps) t least
  latest_kept earlier = record {
    time = l.time;
    from = elim l.from [ inl is ↦ inl is | inr f ↦ inr (f.0, f.1, f.2, inr f.3, f.4, f.5, f.6) ];
    over = l.over;
    each = λ s item c before sent is. elim before [ inl here ↦ earlier s item c here.0 sent is | inr on ↦ l.each s item c on sent is ];
  }

  begins_here : (s : Step) (c : Call) → x ≡ s → slice_get calls s.place ≡ Some c → c.begin ≡ i.call.begin
  begins_here s c here is = ap (λ (y : Call). y.begin) (one_at calls s.place c i.call is (ap (λ (y : Step). slice_get calls y.place) (sym here) ∙ i.call_is))

  latest_more : (item : ℕ) → x.act ≡ Act.Send item → l.time < i.call.begin → Latest calls (x ∷ steps) t least
  latest_more sent_item sends more = record {
    time = i.call.begin;
    from = inr (x, sent_item, i.call, inl (refl, within), sends, i.call_is, refl);
    over = omega (arith, l.over, more);
    each = λ s item c before sent is. elim before [
      | inl here ↦ omega (arith, begins_here s c here.0 is)
      | inr on ↦ omega (arith, l.each s item c on sent is, more)
    ];
  }

  latest_on : Latest calls (x ∷ steps) t least
  latest_on = elim (is_send x.act) [
    | inr other ↦ latest_kept (λ s item c here sent is. absurd (other item (ap (λ (y : Step). y.act) here ∙ sent)))
    | inl sends ↦ elim (cases_lt l.time i.call.begin) [
      | inl more ↦ latest_more sends.0 sends.1 more
      | inr not_more ↦ latest_kept (λ s item c here sent is. omega (arith, begins_here s c here is, not_more))
    ]
  ]

latest : (calls : List Call) (steps : List Step) (t : Step) (least : ℕ) → ((s : Step) → In s steps → IsCall calls s) → NoneTwice steps → In t steps → Latest calls steps t least
latest calls [] t least each once within = absurd within
latest calls (x ∷ steps) t least each once (inl here) = record {
  time = least;
  from = inl refl;
  over = omega arith;
  each = λ s item c before sent is. absurd (none_before x t s steps once here before);
}
latest calls (x ∷ steps) t least each once (inr rest) =
    latest_on calls x steps t least rest (each x (inl refl)) (latest calls steps t least (λ s within. each s (inr within)) (none_twice_later x steps once) rest)

-- ---- items that differ, all of which are in a shorter list

all_once : (xs : List ℕ) → ((item : ℕ) → AtMostOnce item xs) → Once xs
all_once [] once = tt
all_once (x ∷ xs) once = ((once x).0 refl, all_once xs (λ item. (once item).1))

-- ---- of an order

pub none_twice : (rules : Rules) (calls : List Call) (order : List Step) → IsOrder rules calls order → NoneTwice order
none_twice rules calls order o s t before same = apart rules calls order o s t before (ap (λ (x : Step). x.place) same)

-- at the latest time at which a send before that began fewer items may be in the queue
fewer_then : (rules : Rules) (calls : List Call) (call : ℕ) (order : List Step) (f : NotFull rules calls call) → IsOrder rules calls order → (t : Step) → t.place ≡ call → (l : Latest calls order t f.begin) → FewerAt calls f.capacity l.time
fewer_then rules calls call order f o t place_is l = elim l.from [
  | inl is ↦ subst (FewerAt calls f.capacity) (sym is) f.at_begin
  | inr s ↦
      let c = s.2 in
      let from : f.begin ≤ c.begin = omega (arith, l.over, s.6) in
      elim (cases_lt f.end c.begin) [
        | inl ended ↦ absurd (in_time rules calls order o s.0 t s.3 (record { one = f.full.0; other = c; end = f.end; one_is = ap (slice_get calls) place_is ∙ f.full.1; other_is = s.5; ended = f.full.4; before = ended }))
        | inr not_ended ↦ subst (FewerAt calls f.capacity) s.6 (f.at_sends s.0.place s.1 c s.5 (act_in_log s.0 s.1 c s.3 s.4 s.5) from not_ended)
      ]
]
  where
    act_in_log : (s : Step) (item : ℕ) (c : Call) → Before s t order → s.act ≡ Act.Send item → slice_get calls s.place ≡ Some c → c.act ≡ Act.Send item
    act_in_log s item c before sent is =
        let d = sent_in_log rules calls order o s item (before_first s t order before) sent in
        ap (λ (y : Call). y.act) (one_at calls s.place c d.call is d.call_is) ∙ d.act_is

-- a take that had ended by then comes before that
taken_first : (rules : Rules) (calls : List Call) (call : ℕ) (order : List Step) (f : NotFull rules calls call) → IsOrder rules calls order → (t : Step) → t.place ≡ call → In t order → t.act ≡ Act.Full → (l : Latest calls order t f.begin) → (u : Step) (item : ℕ) → In u order → u.act ≡ Act.Took item → EndedBy calls u.place l.time → Before u t order
taken_first rules calls call order f o t place_is within full l u item there took e = elim l.from [
  | inl is ↦ before_it t within (λ same. let x : Act.Took item ≡ Act.Full = sym took ∙ ap (λ (y : Step). y.act) same ∙ full in cc) (record {
    one = e.call;
    other = f.full.0;
    end = e.end;
    one_is = e.call_is;
    other_is = ap (slice_get calls) place_is ∙ f.full.1;
    ended = e.ended;
    before = omega (arith, e.by, is, f.full.3);
  })
  | inr s ↦
      let first : Before u s.0 order = before_it s.0 (before_first s.0 t order s.3) (λ same. let x : Act.Took item ≡ Act.Send s.1 = sym took ∙ ap (λ (y : Step). y.act) same ∙ s.4 in cc) (record {
        one = e.call;
        other = s.2;
        end = e.end;
        one_is = e.call_is;
        other_is = s.5;
        ended = e.ended;
        before = omega (arith, e.by, s.6);
      }) in
      on_before rules calls order o u s.0 t first s.3
]
  where
    before_it : (s : Step) → In s order → u ≢ s → EndsBefore calls u.place s.place → Before u s order
    before_it s here other ends = elim (in_order u s order there here) [
      | inl same ↦ absurd (other same)
      | inr placed ↦ elim placed [ inl right ↦ right | inr wrong ↦ absurd (in_time rules calls order o s u wrong ends) ]
    ]

pub not_full : (rules : Rules) (calls : List Call) (call : ℕ) (order : List Step) → Differ calls → NotFull rules calls call → IsOrder rules calls order → ⊥
not_full rules calls call order differ f o =
    let t = returned_step rules calls order o call Act.Full (λ is. cc) (record { call = f.full.0; call_is = f.full.1; act_is = f.full.2; ended = is_some_of f.full.0.end f.end f.full.4 }) in
    let once = none_twice rules calls order o in
    let legal = subst (λ (c : Option ℕ). IsRun c [] order) f.capacity_is o.legal in
    let single : (item : ℕ) → Single item [] order = λ item. record { once = tt; no_more = λ within. absurd within; one = one_send rules calls order o differ item } in
    let h = held_at f.capacity [] order t.step legal once single t.within t.act_is in
    let l = latest calls order t.step f.begin (λ s within. in_log rules calls order o s within) once t.within in
    let fewer = fewer_then rules calls call order f o t.step t.place_is l in
    let each : (item : ℕ) → In item h.items → In item fewer.may = λ (item : ℕ) (has : In item h.items). elim (h.from item has) [
      | inl none ↦ absurd none
      | inr e ↦
          let sent = sent_in_log rules calls order o e.step item (before_first e.step t.step order e.before) e.act_is in
          elim (fewer.others e.step.place item sent (record { call = sent.call; call_is = sent.call_is; by = l.each e.step item sent.call e.before e.act_is sent.call_is })) [
            | inl within ↦ within
            | inr taken ↦
                let u = returned_step rules calls order o taken.0 (Act.Took item) (λ is. cc) taken.1 in
                let ended : EndedBy calls u.step.place l.time = subst (λ (p : ℕ). EndedBy calls p l.time) (sym u.place_is) taken.2 in
                absurd (h.untaken item has u.step (taken_first rules calls call order f o t.step t.place_is t.within t.act_is l u.step item u.within u.act_is ended) u.act_is)
          ]
    ] in
    let few = are_in h.items fewer.may (all_once h.items h.once) each in
    omega (arith, few, h.many, fewer.fewer)
