-- A log without faults has an order: its items, with what became of them.
use Rattle.std.proofs.Common.{◌≡◌, ◌≢◌, ℕ, zero, suc, ◌<◌, ◌≤◌, ◌⊎◌, inl, inr, false, List, [], ◌∷◌, length, Option, Some, None, IsSome, refl, sym, ap, ◌∙◌, subst, arith}
use Rattle.std.specs.List.{slice_get}
use Rattle.std.proofs.lemmas.Bool.{cases_lt}
use Rattle.std.proofs.lemmas.Option.{slice_get_within}
use Rattle.cc_judge.specs.Names.{Act, Call, Step, Rules}
use Rattle.cc_judge.specs.Order.{EndsBefore, IsOrder, of_any_capacity}
use Rattle.cc_judge.specs.Faults.{Did, Differ, FindsNone}
use Rattle.cc_judge.proofs.Places.{In, Before, before_first, before_second}
use Rattle.cc_judge.proofs.Weave.{Item, Fate, taken, kept, none, IsOf, Fits, FateFits, Later, later_of}
use Rattle.cc_judge.proofs.Fifo.{Overtakes, Apart}
use Rattle.cc_judge.proofs.Complete.{At, Idle, IsIdle, View, Quiet, complete}
use Rattle.cc_judge.proofs.Calls.{none_some, one_act, none_send, none_taking, none_took}
use Rattle.cc_judge.proofs.Turns.{slice_has}

-- ---- times

-- no call of the log begins or ends after this time
record Until (calls : List Call) (last : ℕ) : Type 0 where
  begun : (p : ℕ) (c : Call) → slice_get calls p ≡ Some c → c.begin ≤ last
  ended : (p : ℕ) (c : Call) (e : ℕ) → slice_get calls p ≡ Some c → c.end ≡ Some e → e ≤ last

-- the end, or else the last time
abbrev pub due : Option ℕ → (last : ℕ) → ℕ
due None last = last
due (Some e) last = e

due_is : (o : Option ℕ) (last e : ℕ) → o ≡ Some e → due o last ≡ e
due_is o last e is = grind arith

until_of : (calls : List Call) → (last : ℕ) × Until calls last
until_of [] = (0, record { begun = λ p c is. cc; ended = λ p c e is ends. cc })
until_of (x ∷ calls) =
    let r = until_of calls in
    let l = later_of r.0 x.begin in
    let n = later_of l.m (due x.end 0) in
    (n.m, record { begun = begun r l n; ended = ended r l n })
  where
    begun : (r : (last : ℕ) × Until calls last) (l : Later r.0 x.begin) (n : Later l.m (due x.end 0)) (p : ℕ) (c : Call) → slice_get (x ∷ calls) p ≡ Some c → c.begin ≤ n.m
    begun r l n zero c is = let e : x.begin ≡ c.begin = cc in let s = l.past_q in let t = n.past_p in omega (arith, e, s, t)
    begun r l n (suc p) c is = let h = r.1.begun p c is in let s = l.past_p in let t = n.past_p in omega (arith, h, s, t)

    ended : (r : (last : ℕ) × Until calls last) (l : Later r.0 x.begin) (n : Later l.m (due x.end 0)) (p : ℕ) (c : Call) (e : ℕ) → slice_get (x ∷ calls) p ≡ Some c → c.end ≡ Some e → e ≤ n.m
    ended r l n p c e is ends = grind arith

record Sooner (p q : ℕ) : Type 0 where
  m : ℕ
  by_p : m ≤ p
  by_q : m ≤ q
  one : (m ≡ p) ⊎ (m ≡ q)

sooner_of : (p q : ℕ) → Sooner p q
sooner_of p q = elim (cases_lt p q) [
  | inl less ↦ record { m = p; by_p = omega arith; by_q = omega (arith, less); one = inl refl }
  | inr not_less ↦ record { m = q; by_p = not_less; by_q = omega arith; one = inr refl }
]

-- ---- which call took an item

did_more : (x : Call) (calls : List Call) (place : ℕ) (act : Act) → Did calls place act → Did (x ∷ calls) (suc place) act
did_more x calls place act d = record { call = d.call; call_is = d.call_is; act_is = d.act_is }

did_less : (x : Call) (calls : List Call) (place : ℕ) (act : Act) → Did (x ∷ calls) (suc place) act → Did calls place act
did_less x calls place act d = record { call = d.call; call_is = d.call_is; act_is = d.act_is }

is_took : (act : Act) (item : ℕ) → (act ≡ Act.Took item) ⊎ (act ≢ Act.Took item)
is_took act item = grind arith

pub taker : (calls : List Call) (item : ℕ) → ((t : ℕ) × Did calls t (Act.Took item)) ⊎ ((t : ℕ) → Did calls t (Act.Took item) → ⊥)
taker [] item = inr (λ t d. let is = d.call_is in cc)
taker (x ∷ calls) item = elim (is_took x.act item) [
  | inl took ↦ inl (0, record { call = x; call_is = refl; act_is = took })
  | inr other ↦ elim (taker calls item) [
    | inl found ↦ inl (suc found.0, did_more x calls found.0 (Act.Took item) found.1)
    | inr nobody ↦ inr (no_taker other nobody)
  ]
]
  where
    no_taker : x.act ≢ Act.Took item → ((t : ℕ) → Did calls t (Act.Took item) → ⊥) → (t : ℕ) → Did (x ∷ calls) t (Act.Took item) → ⊥
    no_taker other nobody zero d = let is = d.call_is in let e : x.act ≡ d.call.act = cc in other (e ∙ d.act_is)
    no_taker other nobody (suc t) d = nobody t (did_less x calls t (Act.Took item) d)

-- ---- a log without faults

-- At this moment no item need be in the queue: of each that was sent before, the take had begun.
abbrev pub MayBeEmpty : List Call → (moment : ℕ) → Type 0
MayBeEmpty calls m = (send item e : ℕ) (s : Did calls send (Act.Send item)) → s.call.end ≡ Some e → e < m → (take : ℕ) × (t : Did calls take (Act.Took item)) × (t.call.begin ≤ m)

-- No fault: each item that was taken was sent by one call, and taken by one; no take ended before the send of its item began; no
-- item was overtaken; and each take that found none has a moment at which the queue may be empty. Takes that haven't returned
-- have what they took, or count for nothing.
pub record Faultless (calls : List Call) : Type 0 where
  pub timed : (p : ℕ) (c : Call) (e : ℕ) → slice_get calls p ≡ Some c → c.end ≡ Some e → c.begin ≤ e
  pub waits : (p : ℕ) (c : Call) → slice_get calls p ≡ Some c → c.act ≡ Act.Taking → IsSome c.end → ⊥
  pub sent : (take item : ℕ) → Did calls take (Act.Took item) → (send : ℕ) × Did calls send (Act.Send item)
  pub once : (item t u : ℕ) → Did calls t (Act.Took item) → Did calls u (Act.Took item) → t ≡ u
  pub after : (send take item : ℕ) → Did calls send (Act.Send item) → Did calls take (Act.Took item) → EndsBefore calls take send → ⊥
  pub in_turn : (first second one other take : ℕ) → Did calls first (Act.Send one) → Did calls second (Act.Send other) → EndsBefore calls first second → Did calls take (Act.Took other) → (before : ℕ) × Did calls before (Act.Took one) × (EndsBefore calls take before → ⊥)
  pub empty : (call : ℕ) (c : Call) (e : ℕ) → slice_get calls call ≡ Some c → FindsNone c.act → c.end ≡ Some e → (m : ℕ) × (c.begin ≤ m) × (m ≤ e) × MayBeEmpty calls m

-- ---- its items

-- what an item comes from
abbrev pub IsFrom : (calls : List Call) (last : ℕ) → Item → Fate → Type 0
IsFrom calls last x (taken send take) = (s : Did calls send (Act.Send x.item)) × (t : Did calls take (Act.Took x.item)) × (x.a ≡ s.call.begin) × (x.d ≡ due t.call.end last) × (x.b ≤ due s.call.end last) × (x.b ≤ x.d) × ((x.b ≡ due s.call.end last) ⊎ (x.b ≡ x.d)) × (t.call.begin ≤ x.c) × (x.a ≤ x.c) × ((x.c ≡ t.call.begin) ⊎ (x.c ≡ x.a))
IsFrom calls last x (kept send) = (s : Did calls send (Act.Send x.item)) × (x.a ≡ s.call.begin) × (s.call.end ≡ Some x.b) × ((t : ℕ) → Did calls t (Act.Took x.item) → ⊥) × (x.c ≡ suc last) × (x.d ≡ suc last)
IsFrom calls last x (none act take) = (t : Did calls take act) × FindsNone act × (x.a ≡ x.b) × (x.c ≡ x.b) × (x.d ≡ x.b) × (t.call.begin ≤ x.b) × (x.b ≤ due t.call.end last) × MayBeEmpty calls x.b

abbrev pub place_of : Fate → ℕ
place_of (taken send take) = send
place_of (kept send) = send
place_of (none act take) = take

-- ---- they have no call in common

none_idle : (act : Act) → FindsNone act → IsIdle act → ⊥
none_idle act finds idle = grind arith

-- the call is the one that the item is named by, and no take of an item, or it took the item
Role : (calls : List Call) → Item → Fate → (place : ℕ) → Type 0
Role calls x f place = ((place ≡ place_of f) × ((item : ℕ) → Did calls place (Act.Took item) → ⊥)) ⊎ (Did calls place (Act.Took x.item) × Did calls (place_of f) (Act.Send x.item))

role : (calls : List Call) (last : ℕ) (x : Item) (f : Fate) (place : ℕ) → IsFrom calls last x f → IsOf f place → Role calls x f place
unfolding Role
role calls last x f place from is = grind arith

apart_of : (calls : List Call) (last : ℕ) → Differ calls → (x y : Item) → IsFrom calls last x x.fate → IsFrom calls last y y.fate → place_of x.fate ≢ place_of y.fate → Apart x y
unfolding Role
apart_of calls last differ x y from_x from_y other place of_x of_y = grind (arith, one_act, role)

-- ---- their calls may be at their moments

at_of : (calls : List Call) (last p m : ℕ) (act : Act) → (act ≢ Act.Taking) → (d : Did calls p act) → d.call.begin ≤ m → m ≤ due d.call.end last → At calls (record { place = p; act = act }) m
at_of calls last p m act plain d low high = grind arith

due_cases : (o : Option ℕ) (last : ℕ) → ((e : ℕ) × (o ≡ Some e) × (due o last ≡ e)) ⊎ ((o ≡ None) × (due o last ≡ last))
due_cases o last = grind arith

module _ (calls : List Call) (last : ℕ) (u : Until calls last) (fine : Faultless calls) where
  due_last : (p : ℕ) (c : Call) → slice_get calls p ≡ Some c → due c.end last ≤ last
  due_last p c is = elim (due_cases c.end last) [ inl some ↦ let h = u.ended p c some.0 is some.1 in let e = some.2 in omega (arith, h, e) | inr nil ↦ let e = nil.1 in omega (arith, e) ]

  begin_due : (p : ℕ) (c : Call) → slice_get calls p ≡ Some c → c.begin ≤ due c.end last
  begin_due p c is = elim (due_cases c.end last) [ inl some ↦ let h = fine.timed p c some.0 is some.1 in let e = some.2 in omega (arith, h, e) | inr nil ↦ let h = u.begun p c is in let e = nil.1 in omega (arith, h, e) ]

  -- the first call doesn't end before the second begins
  begin_by : (p q : ℕ) (act other : Act) (d : Did calls p act) (e : Did calls q other) → (EndsBefore calls p q → ⊥) → e.call.begin ≤ due d.call.end last
  begin_by p q act other d e not = grind arith

  Spans : Item → Fate → Type 0
  Spans x f = (x.a ≤ x.b) × (x.b ≤ x.d) × (x.b < suc last) × (x.c ≤ x.d) × (x.d ≤ suc last) × FateFits (At calls) (suc last) x f

  spans : (x : Item) (f : Fate) → IsFrom calls last x f → Spans x f
  unfolding Spans
  spans x (taken send take) from =
      let s = from.0 in
      let t = from.1 in
      let by_send = begin_due send s.call s.call_is in
      let by_take = begin_by take send (Act.Took x.item) (Act.Send x.item) t s (fine.after send take x.item s t) in
      let own = begin_due take t.call t.call_is in
      let s_last = due_last send s.call s.call_is in
      let t_last = due_last take t.call t.call_is in
      let a_is = from.2 in
      let d_is = from.3 in
      let first : x.a ≤ x.b = elim from.6 [ inl is ↦ omega (arith, is, a_is, by_send) | inr is ↦ omega (arith, is, a_is, d_is, by_take) ] in
      let later : x.c ≤ x.d = elim from.9 [ inl is ↦ omega (arith, is, own, d_is) | inr is ↦ omega (arith, is, a_is, d_is, by_take) ] in
      let by_s = from.4 in
      let from_t = from.7 in (
        first,
        from.5,
        omega (arith, by_s, s_last),
        later,
        omega (arith, d_is, t_last),
        (
          omega (arith, d_is, t_last),
          λ m low high. at_of calls last send m (Act.Send x.item) (λ is. cc) s (omega (arith, low, a_is)) (omega (arith, high, by_s)),
          λ m low high. at_of calls last take m (Act.Took x.item) (λ is. cc) t (omega (arith, low, from_t)) (omega (arith, high, d_is)),
          λ same. let e : Act.Send x.item ≡ Act.Took x.item = one_act calls send (Act.Send x.item) (Act.Took x.item) s (subst (λ (p : ℕ). Did calls p (Act.Took x.item)) (sym same) t) in cc,
        ),
      )
  spans x (kept send) from =
      let s = from.0 in
      let a_is = from.1 in
      let c_is = from.4 in
      let d_is = from.5 in
      let b_due = due_is s.call.end last x.b from.2 in
      let s_last = due_last send s.call s.call_is in (
        omega (arith, a_is, begin_due send s.call s.call_is, b_due),
        omega (arith, d_is, b_due, s_last),
        omega (arith, b_due, s_last),
        omega (arith, c_is, d_is),
        omega (arith, d_is),
        (omega (arith, c_is), λ m low high. at_of calls last send m (Act.Send x.item) (λ is. cc) s (omega (arith, low, a_is)) (omega (arith, high, b_due))),
      )
  spans x (none act take) from =
      let t = from.0 in
      let a_is = from.2 in
      let d_is = from.4 in
      let low_t = from.5 in
      let high_t = from.6 in
      let t_last = due_last take t.call t.call_is in (
        omega (arith, a_is),
        omega (arith, d_is),
        omega (arith, high_t, t_last),
        omega (arith, d_is),
        omega (arith, d_is, high_t, t_last),
        (
          omega (arith, d_is, high_t, t_last),
          omega (arith, a_is, d_is),
          from.1,
          λ m low high. at_of calls last take m act (λ is. none_taking act from.1 is) t (omega (arith, low, a_is, low_t)) (omega (arith, high, d_is, high_t)),
        ),
      )

  fits_of : (x : Item) → IsFrom calls last x x.fate → Fits (At calls) (suc last) x
  unfolding Spans
  fits_of x from = let s = spans x x.fate from in record { sent = s.0; lives = s.1; early = s.2; gone = s.3; fits = s.5 }

  -- ---- none was overtaken

  -- the end of a call, or the last time, is before a later begin: then the call ended before
  ends_before : (p q : ℕ) (act other : Act) (d : Did calls p act) (e : Did calls q other) → due d.call.end last < e.call.begin → EndsBefore calls p q
  ends_before p q act other d e less = grind arith

  same_call : (p q : ℕ) (act other : Act) (d : Did calls p act) (e : Did calls q other) → p ≡ q → d.call ≡ e.call
  same_call p q act other d e same = let both : Some d.call ≡ Some e.call = sym d.call_is ∙ ap (slice_get calls) same ∙ e.call_is in cc

  -- an item was sent before another, and left after it
  after_taken : (y z : Item) (g : Fate) (send : ℕ) → IsFrom calls last y g → (s : Did calls send (Act.Send z.item)) → (take : ℕ) (t : Did calls take (Act.Took z.item)) → z.a ≡ s.call.begin → z.d ≡ due t.call.end last → Spans y g → z.a ≤ z.d → y.b < z.a → z.d < y.c → ⊥
  unfolding Spans
  after_taken y z (taken send2 take2) send from s take t a_is d_is span z_span early late = elim from.6 [
    | inl b_is ↦ elim from.9 [
      | inl c_is ↦
          let ends = ends_before send2 send (Act.Send y.item) (Act.Send z.item) from.0 s (omega (arith, b_is, early, a_is)) in
          let r = fine.in_turn send2 send y.item z.item take from.0 s ends t in
          let same = fine.once y.item r.0 take2 r.1 from.1 in
          let calls_same : r.1.call ≡ from.1.call = same_call r.0 take2 (Act.Took y.item) (Act.Took y.item) r.1 from.1 same in
          r.2 (ends_before take r.0 (Act.Took z.item) (Act.Took y.item) t r.1 (grind (arith, late, d_is, c_is)))
      | inr c_is ↦ let h = span.0 in omega (arith, c_is, late, early, z_span, h)
    ]
    | inr b_is ↦ let h = span.3 in omega (arith, b_is, h, late, early, z_span)
  ]
  after_taken y z (kept send2) send from s take t a_is d_is span z_span early late =
      let b_due = due_is from.0.call.end last y.b from.2 in
      let ends = ends_before send2 send (Act.Send y.item) (Act.Send z.item) from.0 s (omega (arith, b_due, early, a_is)) in
      let r = fine.in_turn send2 send y.item z.item take from.0 s ends t in
      from.3 r.0 r.1
  after_taken y z (none act take2) send from s take t a_is d_is span z_span early late = let c_is = from.3 in omega (arith, c_is, late, early, z_span)

  -- an item was surely in the queue at a moment at which it may be empty
  in_empty : (y : Item) (g : Fate) (m : ℕ) → IsFrom calls last y g → Spans y g → MayBeEmpty calls m → m ≤ last → y.b < m → m < y.c → ⊥
  unfolding Spans
  in_empty y (taken send take) m from span empty by early late = elim from.6 [
    | inr b_is ↦ let h = span.3 in omega (arith, b_is, h, early, late)
    | inl b_is ↦ elim from.9 [
      | inr c_is ↦ let h = span.0 in omega (arith, c_is, h, early, late)
      | inl c_is ↦ elim (due_cases from.0.call.end last) [
        | inr nil ↦ let f = nil.1 in omega (arith, f, b_is, early, by)
        | inl some ↦
            let r = empty send y.item some.0 from.0 some.1 (omega (arith, b_is, early)) in
            let same = fine.once y.item r.0 take r.1 from.1 in
            let calls_same : r.1.call ≡ from.1.call = same_call r.0 take (Act.Took y.item) (Act.Took y.item) r.1 from.1 same in
            grind (arith, c_is, late)
      ]
    ]
  ]
  in_empty y (kept send) m from span empty by early late = let r = empty send y.item y.b from.0 from.2 early in from.3 r.0 r.1
  in_empty y (none act take) m from span empty by early late = let c_is = from.3 in omega (arith, c_is, early, late)

  not_overtaken : (y z : Item) (f : Fate) → IsFrom calls last y y.fate → IsFrom calls last z f → Overtakes y z → ⊥
  unfolding Spans
  not_overtaken y z (taken send take) from_y from_z o =
      let sy = spans y y.fate from_y in
      let sz = spans z (taken send take) from_z in
      let p = sz.0 in
      let q = sz.1 in
      after_taken y z y.fate send from_y from_z.0 take from_z.1 from_z.2 from_z.3 sy (omega (arith, p, q)) o.sent o.left
  not_overtaken y z (kept send) from_y from_z o =
      let sy = spans y y.fate from_y in
      let d_is = from_z.5 in
      let l = o.left in
      omega (arith, d_is, l)
  not_overtaken y z (none act take) from_y from_z o =
      let sy = spans y y.fate from_y in
      let sz = spans z (none act take) from_z in
      in_empty y y.fate z.b from_y sy from_z.7 (omega arith) (omega arith) (omega arith)

-- ---- the items of the calls below a place

record Part (calls : List Call) (last n : ℕ) : Type 0 where
  xs : List Item
  idles : List Idle
  from : (x : Item) → In x xs → IsFrom calls last x x.fate
  below : (x : Item) → In x xs → place_of x.fate < n
  apart : (x y : Item) → Before x y xs → place_of x.fate ≢ place_of y.fate
  idle_from : (i : Idle) → In i idles → IsIdle i.step.act × (d : Did calls i.step.place i.step.act) × (i.moment ≡ d.call.begin)
  idle_ended : (i : Idle) → In i idles → (c : Call) → slice_get calls i.step.place ≡ Some c → IsSome c.end
  idle_below : (i : Idle) → In i idles → i.step.place < n
  idle_apart : (i j : Idle) → Before i j idles → i.step.place ≢ j.step.place
  sent : (p item : ℕ) → p < n → (d : Did calls p (Act.Send item)) → IsSome d.call.end ⊎ ((t : ℕ) × Did calls t (Act.Took item)) → (x : Item) × In x xs × (place_of x.fate ≡ p) × (x.item ≡ item)
  nones : (p : ℕ) (act : Act) → p < n → (d : Did calls p act) → FindsNone act → IsSome d.call.end → (x : Item) × In x xs × (place_of x.fate ≡ p)
  others : (p : ℕ) (act : Act) → p < n → (d : Did calls p act) → IsIdle act → IsSome d.call.end → (i : Idle) × In i idles × (i.step.place ≡ p)

below_or_here : (p n : ℕ) → p < suc n → (p < n) ⊎ (p ≡ n)
below_or_here p n less = elim (cases_lt p n) [ inl lower ↦ inl lower | inr not_less ↦ inr (omega (arith, less, not_less)) ]

module _ (calls : List Call) (last n : ℕ) (part : Part calls last n) where
  add_item : (x : Item) → IsFrom calls last x x.fate → place_of x.fate ≡ n → ((item : ℕ) → Did calls n (Act.Send item) → x.item ≡ item) → ((act : Act) → Did calls n act → IsIdle act → ⊥) → Part calls last (suc n)
  add_item x from place sent idle = record {
    xs = x ∷ part.xs;
    idles = part.idles;
    from = λ y within. elim within [ inl same ↦ subst (λ (z : Item). IsFrom calls last z z.fate) same from | inr more ↦ part.from y more ];
    below = λ y within. elim within [ inl same ↦ let e : place_of x.fate ≡ place_of y.fate = ap (λ (z : Item). place_of z.fate) same in omega (arith, e, place) | inr more ↦ let l = part.below y more in omega (arith, l) ];
    apart = λ y z before. grind arith;
    idle_from = part.idle_from;
    idle_ended = part.idle_ended;
    idle_below = λ i within. let l = part.idle_below i within in omega (arith, l);
    idle_apart = part.idle_apart;
    sent = λ p item less d known. elim (below_or_here p n less) [
      | inl lower ↦ let r = part.sent p item lower d known in (r.0, inr r.1, r.2, r.3)
      | inr same ↦ (x, inl refl, place ∙ sym same, sent item (subst (λ (q : ℕ). Did calls q (Act.Send item)) same d))
    ];
    nones = λ p act less d finds ended. elim (below_or_here p n less) [
      | inl lower ↦ let r = part.nones p act lower d finds ended in (r.0, inr r.1, r.2)
      | inr same ↦ (x, inl refl, place ∙ sym same)
    ];
    others = λ p act less d is_idle ended. elim (below_or_here p n less) [
      | inl lower ↦ part.others p act lower d is_idle ended
      | inr same ↦ absurd (idle act (subst (λ (q : ℕ). Did calls q act) same d) is_idle)
    ];
  }

  add_idle : (c : Call) → slice_get calls n ≡ Some c → IsIdle c.act → IsSome c.end → Part calls last (suc n)
  add_idle c is idle done = record {
    xs = part.xs;
    idles = record { step = record { place = n; act = c.act }; moment = c.begin } ∷ part.idles;
    from = part.from;
    below = λ y within. let l = part.below y within in omega (arith, l);
    apart = part.apart;
    idle_from = λ i within. elim within [
      | inl same ↦ subst (λ (j : Idle). IsIdle j.step.act × (d : Did calls j.step.place j.step.act) × (j.moment ≡ d.call.begin)) same (idle, record { call = c; call_is = is; act_is = refl }, refl)
      | inr more ↦ part.idle_from i more
    ];
    idle_ended = λ i within. grind arith;
    idle_below = λ i within. elim within [ inl same ↦ let e : n ≡ i.step.place = ap (λ (j : Idle). j.step.place) same in omega (arith, e) | inr more ↦ let l = part.idle_below i more in omega (arith, l) ];
    idle_apart = λ i j before. elim before [
      | inl first ↦ λ same. let e : n ≡ i.step.place = ap (λ (k : Idle). k.step.place) first.0 in let l = part.idle_below j first.1 in omega (arith, e, same, l)
      | inr more ↦ part.idle_apart i j more
    ];
    sent = λ p item less d known. elim (below_or_here p n less) [
      | inl lower ↦ part.sent p item lower d known
      | inr same ↦ absurd (subst IsIdle (act_at p (Act.Send item) same d) idle)
    ];
    nones = λ p act less d finds ended. elim (below_or_here p n less) [
      | inl lower ↦ part.nones p act lower d finds ended
      | inr same ↦ absurd (none_idle act finds (subst IsIdle (act_at p act same d) idle))
    ];
    others = λ p act less d is_idle ended. elim (below_or_here p n less) [
      | inl lower ↦ let r = part.others p act lower d is_idle ended in (r.0, inr r.1, r.2)
      | inr same ↦ (record { step = record { place = n; act = c.act }; moment = c.begin }, inl refl, sym same)
    ];
  }
    where
      act_at : (p : ℕ) (act : Act) → p ≡ n → Did calls p act → c.act ≡ act
      act_at p act same d = one_act calls n c.act act (record { call = c; call_is = is; act_is = refl }) (subst (λ (q : ℕ). Did calls q act) same d)

  -- the call needs no step, or is the take of an item
  skip : ((item : ℕ) (d : Did calls n (Act.Send item)) → IsSome d.call.end ⊎ ((t : ℕ) × Did calls t (Act.Took item)) → ⊥) → ((act : Act) (d : Did calls n act) → FindsNone act → IsSome d.call.end → ⊥) → ((act : Act) (d : Did calls n act) → IsIdle act → IsSome d.call.end → ⊥) → Part calls last (suc n)
  skip sent nones others = record {
    xs = part.xs;
    idles = part.idles;
    from = part.from;
    below = λ y within. let l = part.below y within in omega (arith, l);
    apart = part.apart;
    idle_from = part.idle_from;
    idle_ended = part.idle_ended;
    idle_below = λ i within. let l = part.idle_below i within in omega (arith, l);
    idle_apart = part.idle_apart;
    sent = λ p item less d known. elim (below_or_here p n less) [
      | inl lower ↦ part.sent p item lower d known
      | inr same ↦ absurd (no_sent p item same d known)
    ];
    nones = λ p act less d finds ended. elim (below_or_here p n less) [
      | inl lower ↦ part.nones p act lower d finds ended
      | inr same ↦ absurd (nones act (record { call = d.call; call_is = sym (ap (slice_get calls) same) ∙ d.call_is; act_is = d.act_is }) finds ended)
    ];
    others = λ p act less d is_idle ended. elim (below_or_here p n less) [
      | inl lower ↦ part.others p act lower d is_idle ended
      | inr same ↦ absurd (others act (record { call = d.call; call_is = sym (ap (slice_get calls) same) ∙ d.call_is; act_is = d.act_is }) is_idle ended)
    ];
  }
    where
      no_sent : (p item : ℕ) → p ≡ n → (d : Did calls p (Act.Send item)) → IsSome d.call.end ⊎ ((t : ℕ) × Did calls t (Act.Took item)) → ⊥
      no_sent p item same d known = sent item (record { call = d.call; call_is = sym (ap (slice_get calls) same) ∙ d.call_is; act_is = d.act_is }) known

  here : (c : Call) → slice_get calls n ≡ Some c → Did calls n c.act
  here c is = record { call = c; call_is = is; act_is = refl }

  -- it hasn't returned, or is a take
  skip_as : (c : Call) → slice_get calls n ≡ Some c → (act : Act) → c.act ≡ act → ((item : ℕ) → act ≢ Act.Send item) → (FindsNone act → ⊥) → (IsIdle act → ⊥) → Part calls last (suc n)
  skip_as c is act act_is no_send no_none no_idle = grind (arith, here, one_act, skip)

  skip_open : (c : Call) → slice_get calls n ≡ Some c → c.end ≡ None → ((item : ℕ) → c.act ≡ Act.Send item → (t : ℕ) → Did calls t (Act.Took item) → ⊥) → Part calls last (suc n)
  skip_open c is unended untaken = skip
      (λ item d known. elim known [ inl ended ↦ not_ended d ended | inr t ↦ untaken item (one_act calls n c.act (Act.Send item) (here c is) d) t.0 t.1 ])
      (λ other d finds ended. not_ended d ended)
      (λ other d idle ended. not_ended d ended)
    where
      not_ended : {other : Act} (d : Did calls n other) → IsSome d.call.end → ⊥
      not_ended {other} d ended = grind (arith, none_some)

module _ (calls : List Call) (last : ℕ) (u : Until calls last) (fine : Faultless calls) where
  -- a send whose item a call took
  taken_part : (n : ℕ) → Part calls last n → (item : ℕ) → (s : Did calls n (Act.Send item)) → (t : ℕ) (took : Did calls t (Act.Took item)) → Part calls last (suc n)
  taken_part n part item s t took =
      let b = sooner_of (due s.call.end last) (due took.call.end last) in
      let c = later_of took.call.begin s.call.begin in
      add_item calls last n part
      (record { item = item; fate = taken n t; a = s.call.begin; b = b.m; c = c.m; d = due took.call.end last })
      (s, took, refl, refl, b.by_p, b.by_q, b.one, c.past_p, c.past_q, c.one)
      refl
      (λ other d. let e : Act.Send item ≡ Act.Send other = one_act calls n (Act.Send item) (Act.Send other) s d in cc)
      (λ act d idle. subst IsIdle (one_act calls n act (Act.Send item) d s) idle)

  kept_part : (n : ℕ) → Part calls last n → (item e : ℕ) → (s : Did calls n (Act.Send item)) → s.call.end ≡ Some e → ((t : ℕ) → Did calls t (Act.Took item) → ⊥) → Part calls last (suc n)
  kept_part n part item e s ended untaken =
      add_item calls last n part
      (record { item = item; fate = kept n; a = s.call.begin; b = e; c = suc last; d = suc last })
      (s, refl, ended, untaken, refl, refl)
      refl
      (λ other d. let q : Act.Send item ≡ Act.Send other = one_act calls n (Act.Send item) (Act.Send other) s d in cc)
      (λ act d idle. subst IsIdle (one_act calls n act (Act.Send item) d s) idle)

  send_part : (n : ℕ) → Part calls last n → (item : ℕ) → (s : Did calls n (Act.Send item)) → (end : Option ℕ) → s.call.end ≡ end → Part calls last (suc n)
  send_part n part item s end is = elim (taker calls item) [
    | inl t ↦ taken_part n part item s t.0 t.1
    | inr untaken ↦ left end is untaken
  ]
    where
      left : (end : Option ℕ) → s.call.end ≡ end → ((t : ℕ) → Did calls t (Act.Took item) → ⊥) → Part calls last (suc n)
      left None is untaken = skip_open calls last n part s.call s.call_is is (λ other act t took. let e : Act.Send item ≡ Act.Send other = sym s.act_is ∙ act in let same : item ≡ other = cc in untaken t (subst (λ (i : ℕ). Did calls t (Act.Took i)) (sym same) took))
      left (Some e) is untaken = kept_part n part item e s is untaken

  none_part : (n : ℕ) → Part calls last n → (c : Call) → slice_get calls n ≡ Some c → (act : Act) → c.act ≡ act → FindsNone act → (end : Option ℕ) → c.end ≡ end → Part calls last (suc n)
  none_part n part c is act act_is finds None ended = skip_open calls last n part c is ended (λ item send t took. none_send act item finds (sym act_is ∙ send))
  none_part n part c is act act_is finds (Some e) ended =
      let m = fine.empty n c e is (subst FindsNone (sym act_is) finds) ended in
      let d = due_is c.end last e ended in
      add_item calls last n part
      (record { item = 0; fate = none act n; a = m.0; b = m.0; c = m.0; d = m.0 })
      (record { call = c; call_is = is; act_is = act_is }, finds, refl, refl, refl, m.1, omega (arith, d), m.3)
      refl
      (λ other s. absurd (none_send act other finds (sym act_is ∙ one_act calls n c.act (Act.Send other) (here calls last n part c is) s)))
      (λ other d idle. none_idle act finds (subst IsIdle (one_act calls n other act d (record { call = c; call_is = is; act_is = act_is })) idle))

  idle_part : (n : ℕ) → Part calls last n → (c : Call) → slice_get calls n ≡ Some c → IsIdle c.act → (end : Option ℕ) → c.end ≡ end → Part calls last (suc n)
  idle_part n part c is idle None ended = skip_open calls last n part c is ended (λ item send t took. subst IsIdle send idle)
  idle_part n part c is idle (Some e) ended = add_idle calls last n part c is idle (subst IsSome (sym ended) refl)

  one_part : (n : ℕ) → Part calls last n → (c : Call) → slice_get calls n ≡ Some c → (act : Act) → c.act ≡ act → Part calls last (suc n)
  one_part n part c is (Act.Send item) act_is = send_part n part item (record { call = c; call_is = is; act_is = act_is }) c.end refl
  one_part n part c is (Act.Took item) act_is = skip_as calls last n part c is (Act.Took item) act_is (λ i e. cc) (λ finds. none_took (Act.Took item) item finds refl) (λ idle. idle)
  one_part n part c is Act.FoundNone act_is = none_part n part c is Act.FoundNone act_is (inl refl) c.end refl
  one_part n part c is Act.Taking act_is = skip_as calls last n part c is Act.Taking act_is (λ i e. cc) taking (λ idle. idle)
    where
      taking : FindsNone Act.Taking → ⊥
      taking (inl e) = cc
      taking (inr e) = cc
  one_part n part c is Act.Full act_is = idle_part n part c is (subst IsIdle (sym act_is) tt) c.end refl
  one_part n part c is Act.Closed act_is = idle_part n part c is (subst IsIdle (sym act_is) tt) c.end refl
  one_part n part c is Act.Ended act_is = none_part n part c is Act.Ended act_is (inr refl) c.end refl
  one_part n part c is Act.Close act_is = idle_part n part c is (subst IsIdle (sym act_is) tt) c.end refl

  parts : (n : ℕ) → n ≤ length calls → Part calls last n
  parts zero within = record {
    xs = [];
    idles = [];
    from = λ x within. absurd within;
    below = λ x within. absurd within;
    apart = λ x y before. absurd before;
    idle_from = λ i within. absurd within;
    idle_ended = λ i within. absurd within;
    idle_below = λ i within. absurd within;
    idle_apart = λ i j before. absurd before;
    sent = λ p item less d known. absurd (omega (arith, less));
    nones = λ p act less d finds ended. absurd (omega (arith, less));
    others = λ p act less d idle ended. absurd (omega (arith, less));
  }
  parts (suc n) within =
      let g = slice_has calls n (omega (arith, within)) in
      one_part n (parts n (omega (arith, within))) g.0 g.1 g.0.act refl

  -- ---- all of them

  is_of : (f : Fate) (p : ℕ) → place_of f ≡ p → IsOf f p
  is_of f p is = grind arith

  -- the call by which an item is named is none that leaves the items as they are
  own : (x : Item) (f : Fate) → IsFrom calls last x f → (act : Act) → Did calls (place_of f) act → IsIdle act → ⊥
  own x f from act d idle = grind arith

  -- the take of an item that was sent at a place is of it
  take_of : (x : Item) (f : Fate) (send take item : ℕ) → IsFrom calls last x f → place_of f ≡ send → x.item ≡ item → Did calls send (Act.Send item) → Did calls take (Act.Took item) → IsOf f take
  take_of x (taken send2 take2) send take item from place same s t = inr (fine.once item take take2 t (subst (λ (i : ℕ). Did calls take2 (Act.Took i)) same from.1))
  take_of x (kept send2) send take item from place same s t = absurd (from.3 take (subst (λ (i : ℕ). Did calls take (Act.Took i)) (sym same) t))
  take_of x (none act take2) send take item from place same s t = absurd (none_send act item from.1 (one_act calls take2 act (Act.Send item) from.0 (subst (λ (p : ℕ). Did calls p (Act.Send item)) (sym place) s)))

  module _ (differ : Differ calls) (part : Part calls last (length calls)) where
    Has : (place : ℕ) → Type 0
    Has place = ((x : Item) × In x part.xs × IsOf x.fate place) ⊎ ((i : Idle) × In i part.idles × (i.step.place ≡ place))

    whole : (place : ℕ) (c : Call) (act : Act) → slice_get calls place ≡ Some c → c.act ≡ act → IsSome c.end → Has place
    unfolding Has
    whole place c (Act.Send item) is act_is ended = let r = part.sent place item (slice_get_within calls place c is) (record { call = c; call_is = is; act_is = act_is }) (inl ended) in inl (r.0, r.1, is_of r.0.fate place r.2)
    whole place c (Act.Took item) is act_is ended =
        let t : Did calls place (Act.Took item) = record { call = c; call_is = is; act_is = act_is } in
        let s = fine.sent place item t in
        let r = part.sent s.0 item (slice_get_within calls s.0 s.1.call s.1.call_is) s.1 (inr (place, t)) in
        inl (r.0, r.1, take_of r.0 r.0.fate s.0 place item (part.from r.0 r.1) r.2 r.3 s.1 t)
    whole place c Act.FoundNone is act_is ended = let r = part.nones place Act.FoundNone (slice_get_within calls place c is) (record { call = c; call_is = is; act_is = act_is }) (inl refl) ended in inl (r.0, r.1, is_of r.0.fate place r.2)
    whole place c Act.Taking is act_is ended = absurd (fine.waits place c is act_is ended)
    whole place c Act.Full is act_is ended = inr (part.others place Act.Full (slice_get_within calls place c is) (record { call = c; call_is = is; act_is = act_is }) tt ended)
    whole place c Act.Closed is act_is ended = inr (part.others place Act.Closed (slice_get_within calls place c is) (record { call = c; call_is = is; act_is = act_is }) tt ended)
    whole place c Act.Ended is act_is ended = let r = part.nones place Act.Ended (slice_get_within calls place c is) (record { call = c; call_is = is; act_is = act_is }) (inr refl) ended in inl (r.0, r.1, is_of r.0.fate place r.2)
    whole place c Act.Close is act_is ended = inr (part.others place Act.Close (slice_get_within calls place c is) (record { call = c; call_is = is; act_is = act_is }) tt ended)

    other : (i : Idle) (x : Item) → In i part.idles → In x part.xs → IsOf x.fate i.step.place → ⊥
    unfolding Role
    other i x of_i of_x is =
        let h = part.idle_from i of_i in
        elim (role calls last x x.fate i.step.place (part.from x of_x) is) [
          | inl r ↦ own x x.fate (part.from x of_x) i.step.act (subst (λ (p : ℕ). Did calls p i.step.act) r.0 h.1) h.0
          | inr r ↦ subst IsIdle (one_act calls i.step.place i.step.act (Act.Took x.item) h.1 r.0) h.0
        ]

    busy : (x : Item) → In x part.xs → (place : ℕ) → IsOf x.fate place → (c : Call) → slice_get calls place ≡ Some c → IsIdle c.act → ⊥
    unfolding Role
    busy x within place of c is idle =
        let d : Did calls place c.act = record { call = c; call_is = is; act_is = refl } in
        elim (role calls last x x.fate place (part.from x within) of) [
          | inl r ↦ own x x.fate (part.from x within) c.act (subst (λ (q : ℕ). Did calls q c.act) r.0 d) idle
          | inr r ↦ subst IsIdle (one_act calls place c.act (Act.Took x.item) d r.0) idle
        ]

    idle_at : (i : Idle) → In i part.idles → IsIdle i.step.act × At calls i.step i.moment
    idle_at i within =
        let h = part.idle_from i within in
        let m_is = h.2 in
        let up = begin_due calls last u fine i.step.place h.1.call h.1.call_is in
        (h.0, at_of calls last i.step.place i.moment i.step.act (λ is. subst IsIdle is h.0) h.1 (omega (arith, m_is)) (omega (arith, m_is, up)))

    view : View calls (suc last)
    unfolding Has
    view = record {
      xs = part.xs;
      idles = part.idles;
      fits = λ x within. fits_of calls last u fine x (part.from x within);
      apart = λ x y before. apart_of calls last differ x y (part.from x (before_first x y part.xs before)) (part.from y (before_second x y part.xs before)) (part.apart x y before);
      idle_fits = idle_at;
      idle_apart = part.idle_apart;
      idle_other = other;
      idle_ended = part.idle_ended;
      busy = λ x within place of c is idle. busy x within place of c is idle;
      whole = λ place c is ended. whole place c c.act is refl ended;
    }

    overtaken_by_none : (y z : Item) → In y part.xs → In z part.xs → Overtakes y z → ⊥
    overtaken_by_none y z of_y of_z o = not_overtaken calls last u fine y z z.fate (part.from y of_y) (part.from z of_z) o

-- A log without a fault has a legal order, if it has no closes and no calls that only their lines order.
pub faultless_has_order : (rules : Rules) (calls : List Call) → rules.ties.items ≡ [] → rules.closes ≡ false → Differ calls → Faultless calls → (order : List Step) × IsOrder (of_any_capacity rules) calls order × Quiet calls order
unfolding parts view
faultless_has_order rules calls ties closes differ fine =
    let r = until_of calls in
    let part = parts calls r.0 r.1 fine (length calls) (omega arith) in
    complete rules calls (suc r.0) ties closes (view calls r.0 r.1 fine differ part) (λ y z of_y of_z o. overtaken_by_none calls r.0 r.1 fine differ part y z of_y of_z o)
