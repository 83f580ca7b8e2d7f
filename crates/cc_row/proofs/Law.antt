-- A row of queues is one queue.
use Rattle.std.proofs.Common.{◌≡◌, ◌==◌, ℕ, zero, suc, ◌+◌, ◌<◌, ◌≤◌, Bool, true, false, ◌||◌, List, [], ◌∷◌, ◌++◌, map, length, Option, Some, None, refl, sym, ap, ◌∙◌, arith, append-nil, length-append}
use Rattle.std.proofs.lemmas.Option.{slice_get_within}
use Rattle.std.specs.List.{slice_get}
use Rattle.cc_row.specs.Names.{Config, Body, Call, Item, Answer, SendAnswer, CloseAnswer, TakeAnswer}
use Rattle.cc_model.specs.Items.{shuts, handed_item}
use Rattle.cc_model.specs.Sequential.{Exactly}
use Rattle.cc_model.proofs.Grows.{get_front}
use Rattle.cc_row.specs.Row.{At, new_item, new_of, items_at, shut_at, taken_at, ended_at, StartsLate, IsRow, before, moved, reported_by, reported, add, outside, RowsAreQueues}
use Rattle.cc_row.specs.Bound.{taken_before}
use Rattle.cc_row.proofs.States.{items_here, items_none, shut_here, shut_else, shut_none, taken_here, taken_other, taken_none}
use Rattle.cc_row.proofs.Order.{clash, untouched, untaken, finished}
use Rattle.cc_row.proofs.Sums.{row_items, length_row, all_taken, rest_row, rest_taken, front_row, none_row, none_taken, other_taken, add_row, add_taken, get_right, get_map}

-- an answer that changes nothing, or none
abbrev pub Quiet : (sender number : ℕ) → Call → Option Answer → Type 0
Quiet s n call None = Unit {0}
Quiet s n call (Some a) = (new_item s n call a ≡ []) × (shuts a ≡ false) × (handed_item a ≡ [])

-- what the row is, as one queue
pub record Agrees (last : ℕ) (o outer : List At) : Type 0 where
  pub items : items_at 0 outer ≡ row_items (suc last) o
  pub shut : shut_at 0 outer ≡ shut_at last o
  pub taken : (g : ℕ) → taken_at 0 g outer ≡ taken_before (suc last) g o

-- ---- the states agree

module _ (last q g s n : ℕ) (o outer : List At) where
  abbrev inner : Call → Answer → At
  inner call a = record { queue = q; group = g; sender = s; number = n; call = call; answer = a }

  abbrev shown : Call → Answer → At
  shown call a = record { queue = 0; group = g; sender = s; number = n; call = call; answer = a }

  -- neither changes anything
  quiet_agrees : (call : Call) (a : Answer) (t : Option Answer) → Quiet s n call (Some a) → Quiet s n call t → Agrees last o outer → Agrees last (inner call a ∷ o) (add (inner call a) t outer)
  quiet_agrees call a t quiet too same = record {
    items = grind (arith, append-nil, same.items, none_row (suc last) (inner call a) o quiet.0);
    shut = grind (arith, same.shut);
    taken = λ k. grind (arith, same.taken k, none_taken (suc last) k (inner call a) o quiet.2);
  }

  accepted_agrees : (body : Body) (place : ℕ) → q ≤ last → ((k : ℕ) → q < k → items_at k o ≡ []) → Agrees last o outer
      → Agrees last (inner (Call.Send body) (Answer.Send (SendAnswer.Accepted place)) ∷ o) (shown (Call.Send body) (Answer.Send (SendAnswer.Accepted (before q o + place))) ∷ outer)
  accepted_agrees body place within none same =
      let e : At = inner (Call.Send body) (Answer.Send (SendAnswer.Accepted place)) in
      let f : At = shown (Call.Send body) (Answer.Send (SendAnswer.Accepted (before q o + place))) in
      record {
        items = items_here f outer 0 refl ∙ ap (λ (l : List Item). l ++ new_of f) same.items ∙ sym (add_row (suc last) e o (omega (arith, within)) none);
        shut = shut_none f outer 0 refl ∙ same.shut ∙ sym (shut_none e o last refl);
        taken = λ k. taken_none f outer 0 k refl ∙ same.taken k ∙ sym (none_taken (suc last) k e o refl);
      }

  got_agrees : (item : Item) → q ≤ last → Agrees last o outer
      → Agrees last (inner Call.Take (Answer.Take (TakeAnswer.Got item)) ∷ o) (shown Call.Take (Answer.Take (TakeAnswer.Got (moved (before q o) item))) ∷ outer)
  got_agrees item within same =
      let e : At = inner Call.Take (Answer.Take (TakeAnswer.Got item)) in
      let f : At = shown Call.Take (Answer.Take (TakeAnswer.Got (moved (before q o) item))) in
      record {
        items = items_none f outer 0 refl ∙ same.items ∙ sym (none_row (suc last) e o refl);
        shut = shut_none f outer 0 refl ∙ same.shut ∙ sym (shut_none e o last refl);
        taken = λ k. grind (
          arith,
          taken_here f outer 0 k,
          same.taken k,
          add_taken (suc last) k e o,
          taken_other f outer 0 k,
          other_taken (suc last) k e o,
        );
      }

  shut_agrees : (total : ℕ) → Agrees last o outer
      → Agrees last (inner Call.Close (Answer.Close (CloseAnswer.Shut total)) ∷ o) (add (inner Call.Close (Answer.Close (CloseAnswer.Shut total))) (reported_by (before q o) (q == last) (Answer.Close (CloseAnswer.Shut total))) outer)
  shut_agrees total same = grind (arith, here, elsewhere)
    where
      here : q ≡ last → Agrees last (inner Call.Close (Answer.Close (CloseAnswer.Shut total)) ∷ o) (shown Call.Close (Answer.Close (CloseAnswer.Shut (before q o + total))) ∷ outer)
      here at =
          let e : At = inner Call.Close (Answer.Close (CloseAnswer.Shut total)) in
          let f : At = shown Call.Close (Answer.Close (CloseAnswer.Shut (before q o + total))) in
          record {
            items = items_none f outer 0 refl ∙ same.items ∙ sym (none_row (suc last) e o refl);
            shut = shut_here f outer 0 refl ∙ ap (λ (b : Bool). b || true) same.shut ∙ sym (shut_here e o last at);
            taken = λ k. taken_none f outer 0 k refl ∙ same.taken k ∙ sym (none_taken (suc last) k e o refl);
          }

      elsewhere : (q ≡ last → ⊥) → Agrees last (inner Call.Close (Answer.Close (CloseAnswer.Shut total)) ∷ o) outer
      elsewhere other =
          let e : At = inner Call.Close (Answer.Close (CloseAnswer.Shut total)) in
          record {
            items = same.items ∙ sym (none_row (suc last) e o refl);
            shut = same.shut ∙ sym (shut_else e o last other);
            taken = λ k. same.taken k ∙ sym (none_taken (suc last) k e o refl);
          }

  quiet_told : (call : Call) (a : Answer) (b : Bool) → Quiet s n call (Some a) → Quiet s n call (reported_by (before q o) b a)
  quiet_told call (Answer.Send (SendAnswer.Accepted place)) b quiet = (by call quiet.0, refl, refl)
    where
      by : (c : Call) → new_item s n c (Answer.Send (SendAnswer.Accepted place)) ≡ [] → new_item s n c (Answer.Send (SendAnswer.Accepted (before q o + place))) ≡ []
      by (Call.Send body) is = absurd (omega (arith, ap length is))
      by _ is = refl
  quiet_told call (Answer.Close (CloseAnswer.Shut total)) b quiet = clash false (sym quiet.1) refl
  quiet_told call (Answer.Close (CloseAnswer.Already total)) true quiet = (by call, refl, refl)
    where
      by : (c : Call) → new_item s n c (Answer.Close (CloseAnswer.Already (before q o + total))) ≡ []
      by c = grind arith
  quiet_told call (Answer.Take (TakeAnswer.Got item)) b quiet = absurd (omega (arith, ap length quiet.2))
  quiet_told call (Answer.Take (TakeAnswer.Ended total)) true quiet = (by call, refl, refl)
    where
      by : (c : Call) → new_item s n c (Answer.Take (TakeAnswer.Ended (before q o + total))) ≡ []
      by c = grind arith
  quiet_told call a b quiet = grind arith

  pub agrees_more : (cfg : Config) (shut : Bool) (taken all : ℕ) (items : List Item) (call : Call) (a : Answer) → q ≤ last → (shut ≡ false → (k : ℕ) → q < k → items_at k o ≡ [])
      → Exactly cfg items shut taken all call a → Agrees last o outer → Agrees last (inner call a ∷ o) (add (inner call a) (reported_by (before q o) (q == last) a) outer)
  agrees_more cfg shut taken all items (Call.Send body) (Answer.Send (SendAnswer.Accepted place)) within none h same = accepted_agrees body place within (none h.0) same
  agrees_more cfg shut taken all items (Call.Send body) (Answer.Send SendAnswer.Full) within none h same = quiet_agrees (Call.Send body) (Answer.Send SendAnswer.Full) None (refl, refl, refl) tt same
  agrees_more cfg shut taken all items (Call.Send body) (Answer.Send SendAnswer.Spent) within none h same = quiet_agrees (Call.Send body) (Answer.Send SendAnswer.Spent) None (refl, refl, refl) tt same
  agrees_more cfg shut taken all items (Call.Send body) (Answer.Send SendAnswer.Closed) within none h same =
      quiet_agrees (Call.Send body) (Answer.Send SendAnswer.Closed) _ (refl, refl, refl) (quiet_told (Call.Send body) (Answer.Send SendAnswer.Closed) (q == last) (refl, refl, refl)) same
  agrees_more cfg shut taken all items Call.Close (Answer.Close (CloseAnswer.Shut total)) within none h same = shut_agrees total same
  agrees_more cfg shut taken all items Call.Close (Answer.Close (CloseAnswer.Already total)) within none h same =
      quiet_agrees Call.Close (Answer.Close (CloseAnswer.Already total)) _ (refl, refl, refl) (quiet_told Call.Close (Answer.Close (CloseAnswer.Already total)) (q == last) (refl, refl, refl)) same
  agrees_more cfg shut taken all items Call.Take (Answer.Take (TakeAnswer.Got item)) within none h same = got_agrees item within same
  agrees_more cfg shut taken all items Call.Take (Answer.Take TakeAnswer.Empty) within none h same = quiet_agrees Call.Take (Answer.Take TakeAnswer.Empty) (Some (Answer.Take TakeAnswer.Empty)) (refl, refl, refl) (refl, refl, refl) same
  agrees_more cfg shut taken all items Call.Take (Answer.Take (TakeAnswer.Ended total)) within none h same =
      quiet_agrees Call.Take (Answer.Take (TakeAnswer.Ended total)) _ (refl, refl, refl) (quiet_told Call.Take (Answer.Take (TakeAnswer.Ended total)) (q == last) (refl, refl, refl)) same
  agrees_more cfg shut taken all items _ _ within none h same = absurd h

no_row : (n : ℕ) → row_items n [] ≡ []
no_row zero = refl
no_row (suc n) = append-nil (row_items n []) ∙ no_row n

none_handed : (n g : ℕ) → taken_before n g [] ≡ 0
none_handed zero g = refl
none_handed (suc n) g = omega (arith, none_handed n g)

pub agrees : (cfg : ℕ → Config) (last : ℕ) (o : List At) → IsRow cfg last o → Agrees last o (outside last o)
agrees cfg last [] row = record { items = sym (no_row (suc last)); shut = refl; taken = λ g. sym (none_handed (suc last) g) }
agrees cfg last (e ∷ o) row =
    agrees_more last e.queue e.group e.sender e.number o (outside last o) (cfg e.queue) (shut_at e.queue o) (taken_at e.queue e.group o) row.3.0 (items_at e.queue o) e.call e.answer row.1
    (λ is k beyond. (untouched cfg last o row.0 e.queue k beyond is).0) row.3.1 (agrees cfg last o row.0)

-- ---- no more items than calls

pub new_few : (s n : ℕ) (call : Call) (a : Answer) → length (new_item s n call a) ≤ 1
new_few s n call a = grind arith

pub items_few : (q : ℕ) (o : List At) → length (items_at q o) ≤ length o
items_few q [] = omega arith
items_few q (e ∷ o) = grind (arith, length-append, new_few e.sender e.number e.call e.answer, items_few q o)

add_few : (e : At) (t : Option Answer) (rest : List At) → length (add e t rest) ≤ suc (length rest)
add_few e t rest = grind arith

pub outside_few : (last : ℕ) (o : List At) → length (outside last o) ≤ length o
outside_few last [] = omega arith
outside_few last (e ∷ o) = omega (arith, add_few e (reported last e o) (outside last o), outside_few last o)

-- ---- the answers are exact

late_first : (g : ℕ) (call : Call) (outer : List At) → StartsLate 0 g call outer
late_first g call outer = grind arith

module _ (cfg : ℕ → Config) (wide : Config) (last q g s n : ℕ) (o outer : List At)
    (before_it : IsRow cfg last o) (rest : IsRow (λ (z : ℕ). wide) 0 outer) (same : Agrees last o outer) (within : q ≤ last)
    (room : length outer < wide.capacity) (life : length outer < wide.life) where
  abbrev Told : Call → Option Answer → Type 0
  Told call t = IsRow (λ (z : ℕ). wide) 0 (add (record { queue = q; group = g; sender = s; number = n; call = call; answer = Answer.Take TakeAnswer.Empty }) t outer)

  one : (call : Call) (b : Answer) → Exactly wide (items_at 0 outer) (shut_at 0 outer) (taken_at 0 g outer) 0 call b → Told call (Some b)
  one call b h = (rest, omega arith, late_first g call outer, (0, h))

  open_last : shut_at q o ≡ false → shut_at 0 outer ≡ false
  open_last is = grind (arith, same.shut, untouched cfg last o before_it q last)

  beyond_open : shut_at q o ≡ false → (k : ℕ) → q < k → items_at k o ≡ []
  beyond_open is k more = (untouched cfg last o before_it q k more is).0

  beyond_last : q ≡ last → length (items_at 0 outer) ≡ before q o + length (items_at q o)
  beyond_last at = omega (arith, ap length same.items, length_row (suc last) o, ap (λ (z : ℕ). before (suc z) o) at)

  items_until : shut_at q o ≡ false → length (items_at 0 outer) ≡ before q o + length (items_at q o)
  items_until is = omega (arith, ap length same.items, ap length (rest_row (suc last) q o (omega (arith, within)) (beyond_open is)), length_row (suc q) o)

  going : ended_at q g o ≡ false → ((k : ℕ) → k < q → ended_at k g o ≡ true) → taken_at 0 g outer ≡ before q o + taken_at q g o
  going is late = omega (
    arith,
    same.taken g,
    rest_taken (suc last) q g o (omega (arith, within)) (λ k more. untaken cfg last o before_it q k g more is),
    all_taken q g o (λ k less. (finished cfg last o before_it k g (late k less)).1),
  )

  at_last : q ≡ last → ((k : ℕ) → k < q → ended_at k g o ≡ true) → taken_at 0 g outer ≡ before q o + taken_at q g o
  at_last at late = omega (
    arith,
    same.taken g,
    ap (λ (z : ℕ). taken_before (suc z) g o) at,
    all_taken q g o (λ k less. (finished cfg last o before_it k g (late k less)).1),
  )

  not_ended : shut_at q o ≡ false → ended_at q g o ≡ false
  not_ended is = grind (arith, finished cfg last o before_it q g)

  has_more : taken_at q g o < length (items_at q o) → ended_at q g o ≡ false
  has_more some = grind (arith, finished cfg last o before_it q g)

  got : (item : Item) → ((k : ℕ) → k < q → ended_at k g o ≡ true) → slice_get (items_at q o) (taken_at q g o) ≡ Some item
      → slice_get (items_at 0 outer) (taken_at 0 g outer) ≡ Some (moved (before q o) item)
  got item late h =
      let k : ℕ = taken_at q g o in
      let split : (more : List Item) × (row_items (suc last) o ≡ row_items (suc q) o ++ more) = front_row (suc last) q o (omega (arith, within)) in
      let place : taken_at 0 g outer ≡ length (row_items q o) + taken_at q g o = omega (arith, going (has_more (slice_get_within (items_at q o) (taken_at q g o) item h)) late, length_row q o) in
      let here : slice_get (row_items (suc q) o) (taken_at 0 g outer) ≡ Some (moved (before q o) item) =
      get_right (row_items q o) (map (moved (before q o)) (items_at q o)) (taken_at 0 g outer) (taken_at q g o) (moved (before q o) item) place (get_map (moved (before q o)) (items_at q o) (taken_at q g o) item h) in
      ap (λ (l : List Item). slice_get l (taken_at 0 g outer)) (same.items ∙ split.1) ∙ get_front (row_items (suc q) o) split.0 (taken_at 0 g outer) (moved (before q o) item) here

  -- an answer of the last queue alone
  if_last : (call : Call) (a b : Answer) → reported_by (before q o) true a ≡ Some b → reported_by (before q o) false a ≡ None → (q ≡ last → Told call (Some b)) → Told call (reported_by (before q o) (q == last) a)
  if_last call a b so none then = grind arith

  pub told_exactly : (all : ℕ) (call : Call) (a : Answer) → StartsLate q g call o
      → Exactly (cfg q) (items_at q o) (shut_at q o) (taken_at q g o) all call a → Told call (reported_by (before q o) (q == last) a)
  told_exactly all (Call.Send body) (Answer.Send (SendAnswer.Accepted place)) late h =
      one (Call.Send body) (Answer.Send (SendAnswer.Accepted (before q o + place))) (
        open_last h.0,
        (λ is. omega (arith, is, life, items_few 0 outer)),
        omega (arith, room, items_few 0 outer),
        omega (arith, items_until h.0, h.3),
      )
  told_exactly all (Call.Send body) (Answer.Send SendAnswer.Full) late h = rest
  told_exactly all (Call.Send body) (Answer.Send SendAnswer.Spent) late h = rest
  told_exactly all (Call.Send body) (Answer.Send SendAnswer.Closed) late h =
      if_last (Call.Send body) (Answer.Send SendAnswer.Closed) (Answer.Send SendAnswer.Closed) refl refl (λ at. one (Call.Send body) (Answer.Send SendAnswer.Closed) (same.shut ∙ ap (λ (z : ℕ). shut_at z o) (sym at) ∙ h))
  told_exactly all Call.Close (Answer.Close (CloseAnswer.Shut total)) late h =
      if_last Call.Close (Answer.Close (CloseAnswer.Shut total)) (Answer.Close (CloseAnswer.Shut (before q o + total))) refl refl
      (λ at. one Call.Close (Answer.Close (CloseAnswer.Shut (before q o + total))) (open_last h.0, omega (arith, items_until h.0, h.1)))
  told_exactly all Call.Close (Answer.Close (CloseAnswer.Already total)) late h =
      if_last Call.Close (Answer.Close (CloseAnswer.Already total)) (Answer.Close (CloseAnswer.Already (before q o + total))) refl refl
      (λ at. one Call.Close (Answer.Close (CloseAnswer.Already (before q o + total))) (same.shut ∙ ap (λ (z : ℕ). shut_at z o) (sym at) ∙ h.0, omega (arith, beyond_last at, h.1)))
  told_exactly all Call.Take (Answer.Take (TakeAnswer.Got item)) late h = one Call.Take (Answer.Take (TakeAnswer.Got (moved (before q o) item))) (got item late h)
  told_exactly all Call.Take (Answer.Take TakeAnswer.Empty) late h =
      one Call.Take (Answer.Take TakeAnswer.Empty) (open_last h.0, omega (arith, going (not_ended h.0) late, items_until h.0, h.1))
  told_exactly all Call.Take (Answer.Take (TakeAnswer.Ended total)) late h =
      if_last Call.Take (Answer.Take (TakeAnswer.Ended total)) (Answer.Take (TakeAnswer.Ended (before q o + total))) refl refl
      (λ at. one Call.Take (Answer.Take (TakeAnswer.Ended (before q o + total))) (
        same.shut ∙ ap (λ (z : ℕ). shut_at z o) (sym at) ∙ h.0,
        omega (arith, at_last at late, beyond_last at, h.1),
        omega (arith, beyond_last at, h.2),
      ))
  told_exactly all _ _ late h = absurd h

-- what stands in the call that is added in place of its answer doesn't matter
re_add : (cfg : ℕ → Config) (e : At) (t : Option Answer) (outer : List At)
    → IsRow cfg 0 (add (record { queue = e.queue; group = e.group; sender = e.sender; number = e.number; call = e.call; answer = Answer.Take TakeAnswer.Empty }) t outer) → IsRow cfg 0 (add e t outer)
re_add cfg e t outer row = grind arith

pub rows_are_queues : RowsAreQueues
rows_are_queues cfg wide last [] row room life = tt
rows_are_queues cfg wide last (e ∷ o) row room life =
    let few : length (outside last o) ≤ length o = outside_few last o in
    re_add (λ (z : ℕ). wide) e (reported last e o) (outside last o) (
    told_exactly cfg wide last e.queue e.group e.sender e.number o (outside last o) row.0 (rows_are_queues cfg wide last o row.0 (omega (arith, room)) (omega (arith, life)))
    (agrees cfg last o row.0) row.1 (omega (arith, few, room)) (omega (arith, few, life)) row.3.0 e.call e.answer row.2 row.3.1
    )
