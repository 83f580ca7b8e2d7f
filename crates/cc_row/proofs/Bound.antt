-- A row with a bound is one queue with this capacity.
use Rattle.std.proofs.Common.{◌≡◌, ◌≢◌, ◌⊎◌, ◌==◌, ℕ, zero, suc, ◌+◌, ◌<◌, ◌≤◌, Bool, true, false, List, [], ◌∷◌, length, Option, Some, None, inl, inr, refl, sym, ap, subst, ◌∙◌, arith, length-append}
use Rattle.std.proofs.lemmas.Option.{slice_get_within}
use Rattle.cc_row.specs.Names.{Config, Call, Item, Answer, SendAnswer}
use Rattle.cc_model.specs.Sequential.{Exactly}
use Rattle.cc_row.specs.Row.{At, new_item, new_of, items_at, shut_at, taken_at, ended_at, IsRow, before, reported_by, reported, add, outside}
use Rattle.cc_row.specs.Bound.{RowCall, at_queues, IsSlowest, taken_before, AreTogether, HasRoom, IsLetIn, IsBoundedRow, told_by, told, IsQueue, IsWithin, BoundedRowsAreQueues}
use Rattle.cc_row.proofs.States.{items_here, items_none, shut_none, taken_none}
use Rattle.cc_row.proofs.Order.{untouched, finished}
use Rattle.cc_row.proofs.Sums.{length_row, rest_row, rest_taken, all_taken}
use Rattle.cc_row.proofs.Law.{Agrees, agrees, agrees_more, new_few, items_few, outside_few, rows_are_queues}
use Rattle.cc_runs.proofs.LinkedList.Sides.{smallest, smallest_least, smallest_is}

abbrev pub full : Answer
full = Answer.Send SendAnswer.Full

is_full : (a : Answer) → (a ≡ full) ⊎ (a ≡ full → ⊥)
is_full a = grind arith

-- ---- counts only grow

taken_grow : (e : At) (o : List At) (q g : ℕ) → taken_at q g o ≤ taken_at q g (e ∷ o)
taken_grow e o q g = grind arith

few_more : (cfg : ℕ → Config) (last : ℕ) (e : At) (o : List At) → IsRow cfg last (e ∷ o) → (q g : ℕ) → taken_at q g o ≤ length (items_at q o) → taken_at q g (e ∷ o) ≤ length (items_at q (e ∷ o))
few_more cfg last e o row q g before = grind (arith, length-append, row, slice_get_within)

-- a group takes no more than there is
few_taken : (cfg : ℕ → Config) (last : ℕ) (o : List At) → IsRow cfg last o → (q g : ℕ) → taken_at q g o ≤ length (items_at q o)
few_taken cfg last [] row q g = omega arith
few_taken cfg last (e ∷ o) row q g = few_more cfg last e o row q g (few_taken cfg last o row.0 q g)

few_before : (cfg : ℕ → Config) (last : ℕ) (o : List At) → IsRow cfg last o → (q g : ℕ) → taken_before q g o ≤ before q o
few_before cfg last o row zero g = omega arith
few_before cfg last o row (suc q) g = omega (arith, few_before cfg last o row q g, few_taken cfg last o row q g)

pub slowest : (groups : ℕ) (f : ℕ → ℕ) → 0 < groups → (all : ℕ) × IsSlowest groups f all
slowest zero f some = absurd (omega (arith, some))
slowest (suc m) f some =
    let r : (g : ℕ) × (g ≤ m) × (f g ≡ smallest m f) = smallest_is m f in
    (smallest m f, record { least = λ g inside. smallest_least m f g (omega (arith, inside)); group = r.0; inside = omega (arith, r.1); is = r.2 })

-- ---- one queue has no more items than its capacity

added : (cfg : Config) (items : List Item) (shut : Bool) (taken all s n : ℕ) (call : Call) (a : Answer) → Exactly cfg items shut taken all call a → (new_item s n call a ≡ []) ⊎ (length items < all + cfg.capacity)
added cfg items shut taken all s n call a h = grind arith

pub queue_bound : (one : Config) (groups : ℕ) (o : List At) → IsQueue one groups o → (g : ℕ) → g < groups → length (items_at 0 o) ≤ taken_at 0 g o + one.capacity
queue_bound one groups [] row g inside = omega arith
queue_bound one groups (e ∷ o) row g inside = elim (added one (items_at 0 o) (shut_at 0 o) (taken_at 0 e.group o) row.2.0 e.sender e.number e.call e.answer row.2.2) [
  | inl none ↦ omega (arith, ap length (items_none e o 0 none), queue_bound one groups o row.0 g inside, taken_grow e o 0 g)
  | inr room ↦ omega (arith, ap length (items_here e o 0 row.1), length-append (items_at 0 o) (new_of e), new_few e.sender e.number e.call e.answer, room, row.2.1.least g inside, taken_grow e o 0 g)
]

-- ---- what a row with a bound is without it

no_new : (s n : ℕ) (call : Call) → new_item s n call full ≡ []
no_new s n call = grind arith

with_full : (last : ℕ) (o outer : List At) (g s n : ℕ) (call : Call) → Agrees last o outer → Agrees last o (record { queue = 0; group = g; sender = s; number = n; call = call; answer = full } ∷ outer)
with_full last o outer g s n call same =
    let f : At = record { queue = 0; group = g; sender = s; number = n; call = call; answer = full } in
    record {
      items = items_none f outer 0 (no_new s n call) ∙ same.items;
      shut = shut_none f outer 0 refl ∙ same.shut;
      taken = λ k. taken_none f outer 0 k refl ∙ same.taken k;
    }

told_else : (base : ℕ) (is_last : Bool) (a : Answer) → (a ≡ full → ⊥) → told_by base is_last a ≡ reported_by base is_last a
told_else base is_last a other = grind arith

-- an accepted send of the row is one of its queue
came : (base : ℕ) (is_last : Bool) (a : Answer) (p : ℕ) → reported_by base is_last a ≡ Some (Answer.Send (SendAnswer.Accepted p)) → (place : ℕ) × (a ≡ Answer.Send (SendAnswer.Accepted place))
came base is_last a p is = grind arith

accepts_less : (c : Config) (items : List Item) (shut : Bool) (taken all place : ℕ) (call : Call) → Exactly c items shut taken all call (Answer.Send (SendAnswer.Accepted place)) → (shut ≡ false) × (length items < all + c.capacity)
accepts_less c items shut taken all place call h = grind arith

refuses_full : (c : Config) (items : List Item) (shut : Bool) (taken all : ℕ) (call : Call) → Exactly c items shut taken all call full → (shut ≡ false) × (length items ≡ all + c.capacity)
refuses_full c items shut taken all call h = grind arith

also_full : (c one : Config) (items more : List Item) (shut b : Bool) (taken all t any : ℕ) (call : Call) → Exactly c items shut taken all call full → b ≡ false → length more ≢ one.life → length more ≡ any + one.capacity → Exactly one more b t any call full
also_full c one items more shut b taken all t any call h open_now life room = grind arith

-- with room for all calls
abbrev wide : Config → ℕ → Config
wide one capacity = record { senders = one.senders; receivers = one.receivers; capacity = capacity; bound = one.bound; life = one.life; per_sender = one.per_sender; groups = one.groups }

fits : (one : Config) (capacity : ℕ) (items : List Item) (shut : Bool) (taken any all : ℕ) (call : Call) (b : Answer) → length items < capacity → Exactly (wide one capacity) items shut taken any call b
    → ((place : ℕ) → b ≡ Answer.Send (SendAnswer.Accepted place) → length items < all + one.capacity) → Exactly one items shut taken all call b
fits one capacity items shut taken any all call b few h room = grind arith

pub moved_to : (one : Config) (items more : List Item) (shut b : Bool) (taken t all : ℕ) (call : Call) (a : Answer) → items ≡ more → shut ≡ b → taken ≡ t → Exactly one items shut taken all call a → Exactly one more b t all call a
moved_to one items more shut b taken t all call a p r s e = subst (λ (z : Type 0). z) (λ i. Exactly one (p i) (r i) (s i) all call a) e

module _ (cfg : ℕ → Config) (one : Config) (groups last : ℕ) where
  abbrev Bounded : List RowCall → Type 0
  Bounded order = IsBoundedRow cfg groups one.capacity last order

  pub plain : (order : List RowCall) → Bounded order → IsRow cfg last (at_queues order)
  plain [] row = tt
  plain (RowCall.IsAt e ∷ earlier) row = (plain earlier row.0, row.1, row.2, (row.4.0, row.4.2))
  plain (RowCall.Refused s n body ∷ earlier) row = plain earlier row.0

  at_few : (order : List RowCall) → length (at_queues order) ≤ length order
  at_few [] = omega arith
  at_few (RowCall.IsAt e ∷ earlier) = omega (arith, at_few earlier)
  at_few (RowCall.Refused s n body ∷ earlier) = omega (arith, at_few earlier)

  add_few : (e : At) (t : Option Answer) (rest : List At) → length (add e t rest) ≤ suc (length rest)
  add_few e t rest = grind arith

  pub told_few : (order : List RowCall) → length (told last order) ≤ length order
  told_few [] = omega arith
  told_few (RowCall.IsAt e ∷ earlier) = omega (arith, add_few e (told_by (before e.queue (at_queues earlier)) (e.queue == last) e.answer) (told last earlier), told_few earlier)
  told_few (RowCall.Refused s n body ∷ earlier) = omega (arith, told_few earlier)

  pub told_agrees : (order : List RowCall) → Bounded order → Agrees last (at_queues order) (told last order)
  told_agrees [] row = agrees cfg last [] tt
  told_agrees (RowCall.Refused s n body ∷ earlier) row = with_full last (at_queues earlier) (told last earlier) 0 s n (Call.Send body) (told_agrees earlier row.0)
  told_agrees (RowCall.IsAt e ∷ earlier) row =
      let o : List At = at_queues earlier in
      let outer : List At = told last earlier in
      let more : Agrees last (e ∷ o) (add e (reported_by (before e.queue o) (e.queue == last) e.answer) outer) =
      agrees_more last e.queue e.group e.sender e.number o outer (cfg e.queue) (shut_at e.queue o) (taken_at e.queue e.group o) row.4.0 (items_at e.queue o) e.call e.answer row.1
      (λ is k beyond. (untouched cfg last o (plain earlier row.0) e.queue k beyond is).0) row.4.2 (told_agrees earlier row.0) in
      elim (is_full e.answer) [
        | inl is ↦ subst (λ (a : Answer). Agrees last (e ∷ o) (add e (told_by (before e.queue o) (e.queue == last) a) outer)) (sym is)
            (with_full last (e ∷ o) outer e.group e.sender e.number e.call (subst (λ (a : Answer). Agrees last (e ∷ o) (add e (reported_by (before e.queue o) (e.queue == last) a) outer)) is more))
        | inr other ↦ subst (λ (t : Option Answer). Agrees last (e ∷ o) (add e t outer)) (sym (told_else (before e.queue o) (e.queue == last) e.answer other)) more
      ]

  -- ---- the counts of the row, as one queue

  module _ (o outer : List At) (row : IsRow cfg last o) (same : Agrees last o outer) where
    pub accepted_is : length (items_at 0 outer) ≡ before (suc last) o
    accepted_is = omega (arith, ap length same.items, length_row (suc last) o)

    pub taken_is : (g : ℕ) → taken_at 0 g outer ≡ taken_before (suc last) g o
    taken_is g = omega (arith, same.taken g)

    module _ (q : ℕ) (within : q ≤ last) (is_open : shut_at q o ≡ false) where
      beyond : (k : ℕ) → q < k → items_at k o ≡ []
      beyond k more = (untouched cfg last o row q k more is_open).0

      items_until : length (items_at 0 outer) ≡ before q o + length (items_at q o)
      items_until = omega (arith, ap length same.items, ap length (rest_row (suc last) q o (omega (arith, within)) beyond), length_row (suc q) o)

      taken_until : (g : ℕ) → taken_at 0 g outer ≡ taken_before q g o + taken_at q g o
      taken_until g = omega (arith, same.taken g, rest_taken (suc last) q g o (omega (arith, within)) (λ k more. omega (arith, few_taken cfg last o row k g, ap length (beyond k more))))

      taken_together : (g : ℕ) → ((k : ℕ) → k < q → ended_at k g o ≡ true) → taken_at 0 g outer ≡ before q o + taken_at q g o
      taken_together g late = omega (arith, taken_until g, all_taken q g o (λ k less. (finished cfg last o row k g (late k less)).1))

      -- the row has a place too, where its last queue has one that all groups are at
      together : (all any : ℕ) → AreTogether groups q o → IsSlowest groups (λ g. taken_at q g o) all → IsSlowest groups (λ g. taken_at 0 g outer) any → length (items_at q o) < all + one.capacity
          → length (items_at 0 outer) < any + one.capacity
      together all any late here there room = omega (arith, items_until, taken_together there.group (late there.group there.inside), there.is, here.least there.group there.inside, room)

      -- the row is full if its last queue is
      full_too : (all any : ℕ) → IsSlowest groups (λ g. taken_at q g o) all → IsSlowest groups (λ g. taken_at 0 g outer) any → length (items_at q o) ≡ all + one.capacity
          → length (items_at 0 outer) ≤ any + one.capacity → length (items_at 0 outer) ≡ any + one.capacity
      full_too all any here there waits most = omega (arith, items_until, taken_until here.group, here.is, there.least here.group here.inside, few_before cfg last o row q here.group, waits, most)

      open_last : shut_at 0 outer ≡ false
      open_last = grind (arith, same.shut, untouched cfg last o row q last)

  -- ---- one call more

  told_more : (e : At) (t : Option Answer) (capacity all : ℕ) (outer shown : List At) → length (items_at 0 outer) < capacity → IsRow (λ (z : ℕ). wide one capacity) 0 (add e t outer) → IsQueue one groups shown
      → items_at 0 outer ≡ items_at 0 shown → shut_at 0 outer ≡ shut_at 0 shown → taken_at 0 e.group outer ≡ taken_at 0 e.group shown → IsSlowest groups (λ g. taken_at 0 g shown) all
      → ((place : ℕ) → t ≡ Some (Answer.Send (SendAnswer.Accepted place)) → length (items_at 0 outer) < all + one.capacity) → IsQueue one groups (add e t shown)
  told_more e None capacity all outer shown few row rest items shut taken slow room = rest
  told_more e (Some b) capacity all outer shown few row rest items shut taken slow room = (
    rest,
    refl,
    (
      all,
      slow,
      moved_to one (items_at 0 outer) (items_at 0 shown) (shut_at 0 outer) (shut_at 0 shown) (taken_at 0 e.group outer) (taken_at 0 e.group shown) all e.call b items shut taken
          (fits one capacity (items_at 0 outer) (shut_at 0 outer) (taken_at 0 e.group outer) row.3.0 all e.call b few row.3.1 (λ place is. room place (ap (λ (a : Answer). Some a) is))),
    ),
  )

  module _ (even : (q : ℕ) → (cfg q).capacity ≡ one.capacity) where
    pub rows : (order : List RowCall) → Bounded order → length order ≤ one.life → IsQueue one groups (told last order)
    rows [] row life = tt
    rows (RowCall.Refused s n body ∷ earlier) row life =
        let o : List At = at_queues earlier in
        let shown : List At = told last earlier in
        let same : Agrees last o shown = told_agrees earlier row.0 in
        let rest : IsQueue one groups shown = rows earlier row.0 (omega (arith, life)) in
        let slow : (all : ℕ) × IsSlowest groups (λ g. taken_at 0 g shown) all = slowest groups (λ g. taken_at 0 g shown) (omega (arith, row.1.inside)) in (
          rest,
          refl,
          (
            slow.0,
            slow.1,
            (
              same.shut ∙ row.1.open_still,
              (λ is. omega (arith, is, life, items_few 0 shown, told_few earlier)),
              omega (
                arith,
                row.1.waits,
                accepted_is o shown (plain earlier row.0) same,
                taken_is o shown (plain earlier row.0) same row.1.group,
                slow.1.least row.1.group row.1.inside,
                queue_bound one groups shown rest slow.1.group slow.1.inside,
                slow.1.is,
              ),
            ),
          ),
        )
    rows (RowCall.IsAt e ∷ earlier) row life =
        let o : List At = at_queues earlier in
        let shown : List At = told last earlier in
        let outer : List At = outside last o in
        let is_row : IsRow cfg last o = plain earlier row.0 in
        let same : Agrees last o shown = told_agrees earlier row.0 in
        let plainly : Agrees last o outer = agrees cfg last o is_row in
        let rest : IsQueue one groups shown = rows earlier row.0 (omega (arith, life)) in
        let slow : (all : ℕ) × IsSlowest groups (λ g. taken_at 0 g shown) all = slowest groups (λ g. taken_at 0 g shown) (omega (arith, row.4.1.inside)) in
        let whole : IsRow (λ (z : ℕ). wide one (suc (length o))) 0 (outside last (e ∷ o)) =
        rows_are_queues cfg (wide one (suc (length o))) last (e ∷ o) (plain (RowCall.IsAt e ∷ earlier) row) (omega arith) (omega (arith, life, at_few earlier)) in
        let items : items_at 0 outer ≡ items_at 0 shown = plainly.items ∙ sym same.items in
        elim (is_full e.answer) [
          | inl is ↦
              let h : Exactly (cfg e.queue) (items_at e.queue o) (shut_at e.queue o) (taken_at e.queue e.group o) row.4.0 e.call full =
              subst (λ (a : Answer). Exactly (cfg e.queue) (items_at e.queue o) (shut_at e.queue o) (taken_at e.queue e.group o) row.4.0 e.call a) is row.4.2 in
              let at : (shut_at e.queue o ≡ false) × (length (items_at e.queue o) ≡ row.4.0 + (cfg e.queue).capacity) = refuses_full (cfg e.queue) (items_at e.queue o) (shut_at e.queue o) (taken_at e.queue e.group o) row.4.0 e.call h in
              subst (λ (a : Answer). IsQueue one groups (add e (told_by (before e.queue o) (e.queue == last) a) shown)) (sym is) (
                rest,
                refl,
                (
                  slow.0,
                  slow.1,
                  also_full (cfg e.queue) one (items_at e.queue o) (items_at 0 shown) (shut_at e.queue o) (shut_at 0 shown) (taken_at e.queue e.group o) row.4.0 (taken_at 0 e.group shown) slow.0 e.call h
                      (open_last o shown is_row same e.queue row.1 at.0)
                      (λ so. omega (arith, so, life, items_few 0 shown, told_few earlier))
                      (full_too o shown is_row same e.queue row.1 at.0 row.4.0 slow.0 row.4.1 slow.1 (omega (arith, at.1, even e.queue)) (omega (arith, queue_bound one groups shown rest slow.1.group slow.1.inside, slow.1.is))),
                ),
              )
          | inr other ↦ subst (λ (t : Option Answer). IsQueue one groups (add e t shown)) (sym (told_else (before e.queue o) (e.queue == last) e.answer other))
              (told_more e (reported last e o) (suc (length o)) slow.0 outer shown (omega (arith, items_few 0 outer, outside_few last o)) whole rest items (plainly.shut ∙ sym same.shut) (plainly.taken e.group ∙ sym (same.taken e.group)) slow.1 (λ p is.
              let from : (place : ℕ) × (e.answer ≡ Answer.Send (SendAnswer.Accepted place)) = came (before e.queue o) (e.queue == last) e.answer p is in
              let h : (shut_at e.queue o ≡ false) × (length (items_at e.queue o) < row.4.0 + (cfg e.queue).capacity) =
              accepts_less (cfg e.queue) (items_at e.queue o) (shut_at e.queue o) (taken_at e.queue e.group o) row.4.0 from.0 e.call
              (subst (λ (a : Answer). Exactly (cfg e.queue) (items_at e.queue o) (shut_at e.queue o) (taken_at e.queue e.group o) row.4.0 e.call a) from.1 row.4.2) in
              let let_in : AreTogether groups e.queue o ⊎ HasRoom groups one.capacity last o = subst (λ (a : Answer). IsLetIn groups one.capacity last e.queue a o) from.1 row.3 in
              elim let_in [
                | inl late ↦ omega (arith, ap length items, together o shown is_row same e.queue row.1 h.0 row.4.0 slow.0 late row.4.1 slow.1 (omega (arith, h.1, even e.queue)))
                | inr room ↦ omega (arith, ap length items, accepted_is o shown is_row same, taken_is o shown is_row same slow.1.group, room slow.1.group slow.1.inside, slow.1.is)
              ]))
        ]

    within : (order : List RowCall) → Bounded order → length order ≤ one.life → IsWithin groups one.capacity last (at_queues order)
    within order row life g inside = omega (
      arith,
      queue_bound one groups (told last order) (rows order row life) g inside,
      accepted_is (at_queues order) (told last order) (plain order row) (told_agrees order row),
      taken_is (at_queues order) (told last order) (plain order row) (told_agrees order row) g,
    )

pub bounded_rows : BoundedRowsAreQueues
bounded_rows cfg one groups last order even row life = (rows cfg one groups last even order row life, within cfg one groups last even order row life)
