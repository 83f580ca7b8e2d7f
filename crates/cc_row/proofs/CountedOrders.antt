-- A take of a queue that is shut takes effect when it is counted.
use Rattle.std.proofs.Common.{◌≡◌, ◌≢◌, ◌⊎◌, ℕ, zero, suc, ◌+◌, ◌-◌, ◌<◌, ◌≤◌, Bool, true, false, ◌||◌, List, [], ◌∷◌, ◌++◌, length, Some, Ok, inl, inr, refl, sym, ap, subst, ◌∙◌, arith, length-append}
use Rattle.std.proofs.lemmas.Option.{slice_get_within}
use Rattle.std.proofs.lemmas.Bool.{cases_eq, cases_lt}
use Rattle.std.specs.List.{AllByRecursion, slice_get, list_any}
use Rattle.cc_model.specs.Config.{config_fault}
use Rattle.cc_model.specs.Record.{Side, Record, of_group}
use Rattle.cc_model.specs.Items.{IsPrefix, accepted, accepted_by, accepted_item, is_shut, shuts, handed, handed_by, handed_to_all}
use Rattle.cc_model.specs.Legal.{Legal, IsReceivers}
use Rattle.cc_model.specs.Sequential.{Exactly}
use Rattle.cc_model.proofs.Grows.{get_front, get_last, any-append, handed_by-append}
use Rattle.cc_model.proofs.Fresh.{all_at}
use Rattle.cc_runs.specs.State.{noted}
use Rattle.cc_runs.specs.Run.{IsRun, reached, history_of}
use Rattle.cc_runs.specs.Counts.{counted_for, CountsOf, CountsNoLess}
use Rattle.cc_runs.specs.OnChain.{IsThere, calls_on, answers_on}
use Rattle.cc_runs.specs.Linearizable.{Effect, replay, AnswersAfter, IsExact, IsOfChain, in_order, IsOnTime, IsTimely}
use Rattle.cc_runs.proofs.RunPrefixes.{prefixes_begin, prefix_more, prefix_self}
use Rattle.cc_runs.proofs.ListRuns.Decided.{group_mine, group_other}
use Rattle.cc_runs.proofs.Ranges.{in_range}
use Rattle.cc_runs.proofs.ListRuns.Facts.{lists}
use Rattle.cc_runs.proofs.ListRuns.FromChains.{of_setting}
use Rattle.cc_runs.proofs.ListRuns.Laws.{history_is_legal}
use Rattle.cc_runs.proofs.Counts.Laws.{counts_are_near, counts_grow}
use Rattle.cc_runs.proofs.Linear.Insert.{AreTimed, exact_before}
use Rattle.cc_runs.proofs.Linear.Orders.{Lin, lin}
use Rattle.cc_runs.proofs.Linear.Replay.{front_next, prefix_length, replay_groups, replay_even, same_least, Timed}
use Rattle.cc_row.specs.Names.{Config, Pass, Call, Item, Entry, Answer, TakeAnswer, Chain, Setting, Served, Move}
use Rattle.cc_row.specs.CountedOrders.{FollowsCounts, HasCountedOrder, OrdersFollowCounts}
use Rattle.cc_row.proofs.Exact.{send_accepted, take_mine, take_other}
use Rattle.cc_row.proofs.Use.{any_prefix}

at_or_other : (P : ℕ → Type 0) (y : ℕ) → P y → ((g : ℕ) → g ≢ y → P g) → (g : ℕ) → P g
at_or_other P y here there g = elim (cases_eq g y) [ inl is ↦ subst P (sym is) here | inr ne ↦ there g ne ]

get_in : {X : Type 0} (xs : List X) (k : ℕ) → k < length xs → (x : X) × (slice_get xs k ≡ Some x)
get_in {X} [] k less = absurd (omega (arith, less))
get_in {X} (x ∷ xs) zero less = (x, refl)
get_in {X} (x ∷ xs) (suc k) less = get_in xs k (omega (arith, less))

-- more answers accept no less
pub few : (calls rest : List Entry) (answers later : List Answer) → length answers ≤ length calls → length (accepted_by (calls ++ rest) answers) ≤ length (accepted_by calls (answers ++ later))
few [] [] [] later less = omega arith
few [] (d ∷ rest) [] later less = omega arith
few [] rest (a ∷ answers) later less = absurd (omega (arith, less))
few (d ∷ calls) rest [] later less = omega arith
few (d ∷ calls) rest (a ∷ answers) later less = omega (
  arith,
  few calls rest answers later (omega (arith, less)),
  length-append (accepted_item d a) (accepted_by (calls ++ rest) answers),
  length-append (accepted_item d a) (accepted_by calls (answers ++ later)),
)

-- ---- answers of a queue that is shut

-- what all groups were handed doesn't matter
any_all : (cfg : Config) (items : List Item) (shut : Bool) (t a b : ℕ) (call : Call) (x : Answer) → shut ≡ true → Exactly cfg items shut t a call x → Exactly cfg items shut t b call x
any_all cfg items shut t a b call x is h = grind arith

-- nor does it to a take
of_take : (cfg : Config) (g : ℕ) (pass : Pass) (call : Call) (items : List Item) (shut : Bool) (t a b : ℕ) (x : Answer) → IsReceivers cfg g pass call → Exactly cfg items shut t a call x → Exactly cfg items shut t b call x
of_take cfg g pass call items shut t a b x is h = grind arith

-- a take of a queue that is shut gets the next item, if there is one
gets_next : (cfg : Config) (g : ℕ) (pass : Pass) (call : Call) (items : List Item) (shut : Bool) (t all : ℕ) (x : Answer) (item : Item) → IsReceivers cfg g pass call → Exactly cfg items shut t all call x → shut ≡ true
    → slice_get items t ≡ Some item → Answer.Take (TakeAnswer.Got item) ≡ x
gets_next cfg g pass call items shut t all x item mine h is got = grind (arith, slice_get_within)

it_gets : (cfg : Config) (g : ℕ) (pass : Pass) (call : Call) (items : List Item) (shut : Bool) (t all : ℕ) (item : Item) → IsReceivers cfg g pass call → slice_get items t ≡ Some item
    → Exactly cfg items shut t all call (Answer.Take (TakeAnswer.Got item))
it_gets cfg g pass call items shut t all item mine got = grind arith

-- ---- one order is ahead of another

abbrev with_take : Side → Entry → Answer → Side
with_take s e a = record { calls = s.calls ++ e ∷ []; answers = s.answers ++ a ∷ [] }

-- of the group it has one take more
record OneMore (n : ℕ) (h : Record) (count : ℕ → ℕ) (r later : Record) (g : ℕ) : Type 0 where
  entry : Entry
  item : Item
  inside : g < n
  shut : is_shut r ≡ true
  got : slice_get (accepted r) (length (handed r g)) ≡ Some item
  call : slice_get (of_group h g).calls (length (of_group r g).calls) ≡ Some entry
  is : of_group later g ≡ with_take (of_group r g) entry (Answer.Take (TakeAnswer.Got item))
  counted : length (handed later g) ≤ count g

abbrev Each : (n : ℕ) (h : Record) (count : ℕ → ℕ) (r later : Record) (g : ℕ) → Type 0
Each n h count r later g = (of_group later g ≡ of_group r g) ⊎ OneMore n h count r later g

record Ahead (n : ℕ) (h : Record) (count : ℕ → ℕ) (r later : Record) : Type 0 where
  sends : later.sends ≡ r.sends
  each : (g : ℕ) → Each n h count r later g

each_then : (n : ℕ) (h t : Record) (count more : ℕ → ℕ) (r later : Record) (g : ℕ) → IsPrefix (of_group h g).calls (of_group t g).calls → (g < n → count g ≤ more g) → Each n h count r later g → Each n t more r later g
each_then n h t count more r later g p up (inl is) = inl is
each_then n h t count more r later g p up (inr one) = inr (record {
  entry = one.entry;
  item = one.item;
  inside = one.inside;
  shut = one.shut;
  got = one.got;
  call = ap (λ (l : List Entry). slice_get l (length (of_group r g).calls)) p.1 ∙ get_front (of_group h g).calls p.0 (length (of_group r g).calls) one.entry one.call;
  is = one.is;
  counted = omega (arith, one.counted, up one.inside);
})

-- a group whose side is as before, in both
each_other : (n : ℕ) (h : Record) (count : ℕ → ℕ) (r later r2 later2 : Record) (g : ℕ) → of_group r2 g ≡ of_group r g → of_group later2 g ≡ of_group later g → r2.sends ≡ r.sends → Each n h count r later g → Each n h count r2 later2 g
each_other n h count r later r2 later2 g p q s (inl is) = inl (q ∙ is ∙ sym p)
each_other n h count r later r2 later2 g p q s (inr one) = inr (record {
  entry = one.entry;
  item = one.item;
  inside = one.inside;
  shut = ap (λ (z : Side). list_any shuts z.answers) s ∙ one.shut;
  got = (λ i. slice_get (accepted_by (s i).calls (s i).answers) (length (handed_by (p i).answers))) ∙ one.got;
  call = ap (λ (z : Side). slice_get (of_group h g).calls (length z.calls)) p ∙ one.call;
  is = q ∙ one.is ∙ ap (λ (z : Side). with_take z one.entry (Answer.Take (TakeAnswer.Got one.item))) (sym p);
  counted = omega (arith, one.counted, ap (λ (z : Side). length (handed_by z.answers)) q);
})

-- ---- one move

module _ (cfg : Config) (m : ℕ) (some : cfg.groups ≡ m + 1) (h : Record) (count : ℕ → ℕ) (old : List Effect) where
  abbrev n : ℕ
  n = cfg.groups

  -- an order that has got some calls more, beside the order of the run
  record Next (l : List Effect) : Type 0 where
    effects : List Effect
    exact : IsExact cfg (effects ++ old)
    ahead : Ahead n h count (replay n l) (replay n (effects ++ old))

  abbrev Fits : List Effect → Type 0
  Fits l = (g : ℕ) → IsPrefix (of_group (replay n l) g).calls (of_group h g).calls

  module _ (l : List Effect) (k : Next l) where
    abbrev r : Record
    r = replay n l

    abbrev later : Record
    later = replay n (k.effects ++ old)

    r_in : (y : ℕ) → y < n → y < length r.takes
    r_in y inside = omega (arith, inside, replay_groups n l)

    later_in : (y : ℕ) → y < n → y < length later.takes
    later_in y inside = omega (arith, inside, replay_groups n (k.effects ++ old))

    back : r.sends ≡ later.sends
    back = sym k.ahead.sends

    same_all : is_shut r ≡ false → handed_to_all r ≡ handed_to_all later
    same_all is_open = sym (same_least r later m (replay_groups n l ∙ some) (replay_groups n (k.effects ++ old) ∙ some) by_group)
      where
        by_group : (g : ℕ) → handed later g ≡ handed r g
        by_group g = grind (arith, k.ahead.each g)

    step_send : (e : Entry) (a : Answer) → IsOfChain cfg Chain.Send e → AnswersAfter cfg r Chain.Send e.call a → Next (record { chain = Chain.Send; entry = e; answer = a } ∷ l)
    step_send e a mine fits = record {
      effects = record { chain = Chain.Send; entry = e; answer = a } ∷ k.effects;
      exact = (k.exact, tt, mine, by_shut (is_shut r) refl);
      ahead = record { sends = ap (λ (z : Side). with_take z e a) k.ahead.sends; each = λ g. by_each g (k.ahead.each g) };
    }
      where
        by_shut : (b : Bool) → is_shut r ≡ b → AnswersAfter cfg later Chain.Send e.call a
        by_shut true is = subst (λ (z : Type 0). z) (λ i. Exactly cfg (accepted_by (back i).calls (back i).answers) (list_any shuts (back i).answers) 0 (handed_to_all later) e.call a)
            (any_all cfg (accepted r) (is_shut r) 0 (handed_to_all r) (handed_to_all later) e.call a is fits)
        by_shut false is = subst (λ (z : Type 0). z) (λ i. Exactly cfg (accepted_by (back i).calls (back i).answers) (list_any shuts (back i).answers) 0 (same_all is i) e.call a) fits

        by_each : (g : ℕ) → Each n h count r later g → Each n h count (noted Chain.Send r (Some e) (Some a)) (noted Chain.Send later (Some e) (Some a)) g
        by_each g (inl is) = inl is
        by_each g (inr one) = inr (record {
          entry = one.entry;
          item = one.item;
          inside = one.inside;
          shut = any-append shuts r.sends.answers (a ∷ []) ∙ ap (λ (b : Bool). b || (shuts a || false)) one.shut;
          got = ap (λ (z : List Item). slice_get z (length (handed r g))) (send_accepted r e a (replay_even n l).0) ∙ get_front (accepted r) (accepted_item e a) (length (handed r g)) one.item one.got;
          call = one.call;
          is = one.is;
          counted = one.counted;
        })

    step_take : (y : ℕ) (e : Entry) (a : Answer) → y < n → IsReceivers cfg y e.pass e.call → AnswersAfter cfg r (Chain.Take y) e.call a → Fits (record { chain = Chain.Take y; entry = e; answer = a } ∷ l)
        → Next (record { chain = Chain.Take y; entry = e; answer = a } ∷ l)
    step_take y e a inside mine fits calls = elim (k.ahead.each y) [
      | inl same ↦ record {
        effects = record { chain = Chain.Take y; entry = e; answer = a } ∷ k.effects;
        exact = (
          k.exact,
          inside,
          mine,
          of_take cfg y e.pass e.call (accepted later) (is_shut later) (length (handed later y)) (handed_to_all r) (handed_to_all later) a mine
              (subst (λ (z : Type 0). z) (λ i. Exactly cfg (accepted_by (back i).calls (back i).answers) (list_any shuts (back i).answers) (length (handed_by (sym same i).answers)) (handed_to_all r) e.call a) fits),
        );
        ahead = record { sends = k.ahead.sends; each = by_same same };
      }
      | inr one ↦ record { effects = k.effects; exact = k.exact; ahead = record { sends = k.ahead.sends; each = by_one one } }
    ]
      where
        mine_is : of_group (noted (Chain.Take y) r (Some e) (Some a)) y ≡ with_take (of_group r y) e a
        mine_is = group_mine r y (with_take (of_group r y) e a) (r_in y inside)

        by_same : of_group later y ≡ of_group r y → (g : ℕ) → Each n h count (noted (Chain.Take y) r (Some e) (Some a)) (noted (Chain.Take y) later (Some e) (Some a)) g
        by_same same = at_or_other (Each n h count (noted (Chain.Take y) r (Some e) (Some a)) (noted (Chain.Take y) later (Some e) (Some a))) y
            (inl (group_mine later y (with_take (of_group later y) e a) (later_in y inside) ∙ ap (λ (z : Side). with_take z e a) same ∙ sym mine_is))
            (λ g ne. each_other n h count r later _ _ g (group_other r y g (with_take (of_group r y) e a) ne) (group_other later y g (with_take (of_group later y) e a) ne) refl (k.ahead.each g))

        entry_is : OneMore n h count r later y → slice_get (of_group h y).calls (length (of_group r y).calls) ≡ Some e
        entry_is one =
            let p : IsPrefix ((of_group r y).calls ++ e ∷ []) (of_group h y).calls = subst (λ (z : Side). IsPrefix z.calls (of_group h y).calls) mine_is (calls y) in
            ap (λ (z : List Entry). slice_get z (length (of_group r y).calls)) p.1 ∙ get_front ((of_group r y).calls ++ e ∷ []) p.0 (length (of_group r y).calls) e (get_last (of_group r y).calls e)

        by_one : OneMore n h count r later y → (g : ℕ) → Each n h count (noted (Chain.Take y) r (Some e) (Some a)) later g
        by_one one =
            let same_entry : one.entry ≡ e = cc (one.call, entry_is one) in
            let same_answer : Answer.Take (TakeAnswer.Got one.item) ≡ a = gets_next cfg y e.pass e.call (accepted r) (is_shut r) (length (handed r y)) (handed_to_all r) a one.item mine fits one.shut one.got in
            at_or_other (Each n h count (noted (Chain.Take y) r (Some e) (Some a)) later) y (inl (one.is ∙ (λ i. with_take (of_group r y) (same_entry i) (same_answer i)) ∙ sym mine_is))
            (λ g ne. each_other n h count r later _ later g (group_other r y g (with_take (of_group r y) e a) ne) refl refl (k.ahead.each g))

    step : (x : Chain) (e : Entry) (a : Answer) → IsThere cfg x → IsOfChain cfg x e → AnswersAfter cfg r x e.call a → Fits (record { chain = x; entry = e; answer = a } ∷ l) → Next (record { chain = x; entry = e; answer = a } ∷ l)
    step Chain.Send e a there mine fits calls = step_send e a mine fits
    step (Chain.Take y) e a there mine fits calls = step_take y e a there mine fits calls

  fits_before : (x : Chain) (e : Entry) (a : Answer) (l : List Effect) → IsThere cfg x → Fits (record { chain = x; entry = e; answer = a } ∷ l) → Fits l
  fits_before Chain.Send e a l there fits g = fits g
  fits_before (Chain.Take y) e a l there fits g = elim (cases_eq g y) [
    | inl is ↦ subst (λ (z : ℕ). IsPrefix (of_group (replay n l) z).calls (of_group h z).calls) (sym is)
        (prefix_more (of_group (replay n l) y).calls ((of_group (replay n l) y).calls ++ e ∷ []) (of_group h y).calls (e ∷ [], refl)
        (subst (λ (z : Side). IsPrefix z.calls (of_group h y).calls) (group_mine (replay n l) y (with_take (of_group (replay n l) y) e a) (omega (arith, there, replay_groups n l))) (fits y)))
    | inr ne ↦ subst (λ (z : Side). IsPrefix z.calls (of_group h g).calls) (group_other (replay n l) y g (with_take (of_group (replay n l) y) e a) ne) (fits g)
  ]

  follow : (base now : List Effect) → Next base → IsExact cfg (now ++ base) → Fits (now ++ base) → Next (now ++ base)
  follow base [] k exact fits = k
  follow base (x ∷ now) k exact fits =
      step (now ++ base) (follow base now k exact.0 (fits_before x.chain x.entry x.answer (now ++ base) exact.1 fits)) x.chain x.entry x.answer exact.1 exact.2 exact.3 fits

  -- ---- takes that are counted and not decided

  module _ (l : List Effect) (t : Timed h (replay n l)) (near : (g : ℕ) → g < n → count g ≤ length (handed h g) + 1)
      (pending : (g : ℕ) → g < n → length (handed h g) < count g → length (of_group h g).answers < length (of_group h g).calls) (most : (g : ℕ) → g < n → count g ≤ length (accepted h))
      (receivers : (g : ℕ) → g < n → AllByRecursion (λ e. IsReceivers cfg g e.pass e.call) (of_group h g).calls) where
    abbrev got_by : Next l → ℕ → ℕ
    got_by k g = length (handed (replay n (k.effects ++ old)) g)

    more_items : length (accepted h) ≤ length (accepted (replay n l))
    more_items =
        let s : Side = (replay n l).sends in
        let even : length (replay n l).sends.calls ≡ length (replay n l).sends.answers = (replay_even n l).0 in
        let below = few (replay n l).sends.calls t.send_calls.0 h.sends.answers t.send_answers.0 (omega (arith, even, prefix_length h.sends.answers (replay n l).sends.answers t.send_answers)) in
        omega (arith, below, ap (λ (z : List Entry). length (accepted_by z h.sends.answers)) t.send_calls.1, ap (λ (z : List Answer). length (accepted_by (replay n l).sends.calls z)) t.send_answers.1)

    record Pulls (k : Next l) (j : ℕ) : Type 0 where
      next : Next l
      counted : count j ≤ got_by next j
      others : (g : ℕ) → (g ≡ j → ⊥) → got_by next g ≡ got_by k g

    pulls : (k : Next l) (j : ℕ) → j < n → is_shut (replay n l) ≡ true → got_by k j < count j → of_group (replay n (k.effects ++ old)) j ≡ of_group (replay n l) j → Pulls k j
    pulls k j inside shut behind same =
        let r : Record = replay n l in
        let later : Record = replay n (k.effects ++ old) in
        let hands : length (handed (replay n (k.effects ++ old)) j) ≡ length (handed (replay n l) j) = ap (λ (z : Side). length (handed_by z.answers)) same in
        let so_far : length (handed (replay n l) j) ≡ length (handed h j) = ap (λ (z : List Answer). length (handed_by z)) (t.take_answers j) in
        let place : length (of_group (replay n l) j).calls < length (of_group h j).calls =
        omega (arith, (replay_even n l).1 j (omega (arith, inside, replay_groups n l)), ap length (t.take_answers j), pending j inside (omega (arith, behind, hands, so_far))) in
        let call : (e : Entry) × (slice_get (of_group h j).calls (length (of_group (replay n l) j).calls) ≡ Some e) = get_in (of_group h j).calls (length (of_group (replay n l) j).calls) place in
        let item : (x : Item) × (slice_get (accepted (replay n l)) (length (handed (replay n l) j)) ≡ Some x) =
        get_in (accepted (replay n l)) (length (handed (replay n l) j)) (omega (arith, behind, hands, most j inside, more_items)) in
        let mine : IsReceivers cfg j call.0.pass call.0.call =
        all_at (λ (e : Entry). IsReceivers cfg j e.pass e.call) (of_group h j).calls (length (of_group (replay n l) j).calls) call.0 (receivers j inside) call.1 in
        by_take call.0 item.0 call.1 item.1 mine hands so_far
      where
        by_take : (e : Entry) (x : Item) → slice_get (of_group h j).calls (length (of_group (replay n l) j).calls) ≡ Some e → slice_get (accepted (replay n l)) (length (handed (replay n l) j)) ≡ Some x → IsReceivers cfg j e.pass e.call
            → length (handed (replay n (k.effects ++ old)) j) ≡ length (handed (replay n l) j) → length (handed (replay n l) j) ≡ length (handed h j) → Pulls k j
        by_take e x call got mine hands so_far =
            let later : Record = replay n (k.effects ++ old) in
            let a : Answer = Answer.Take (TakeAnswer.Got x) in
            let there : j < length (replay n (k.effects ++ old)).takes = omega (arith, inside, replay_groups n (k.effects ++ old)) in
            record {
              next = record {
                effects = record { chain = Chain.Take j; entry = e; answer = Answer.Take (TakeAnswer.Got x) } ∷ k.effects;
                exact = (
                  k.exact,
                  inside,
                  mine,
                  it_gets cfg j e.pass e.call (accepted later) (is_shut later) (length (handed later j)) (handed_to_all later) x mine
                      ((λ i. slice_get (accepted_by (k.ahead.sends i).calls (k.ahead.sends i).answers) (length (handed_by (same i).answers))) ∙ got),
                );
                ahead = record { sends = k.ahead.sends; each = by_each there };
              };
              counted = omega (arith, take_mine later e (Answer.Take (TakeAnswer.Got x)) j there, near j inside, hands, so_far);
              others = λ g ne. ap length (take_other later e (Answer.Take (TakeAnswer.Got x)) j g ne);
            }
          where
            most_now : length (handed (noted (Chain.Take j) (replay n (k.effects ++ old)) (Some e) (Some (Answer.Take (TakeAnswer.Got x)))) j) ≤ count j
            most_now = omega (arith, behind, take_mine (replay n (k.effects ++ old)) e (Answer.Take (TakeAnswer.Got x)) j (omega (arith, inside, replay_groups n (k.effects ++ old))))

            by_each : j < length (replay n (k.effects ++ old)).takes → (g : ℕ) → Each n h count (replay n l) (noted (Chain.Take j) (replay n (k.effects ++ old)) (Some e) (Some (Answer.Take (TakeAnswer.Got x)))) g
            by_each there =
                at_or_other (Each n h count (replay n l) (noted (Chain.Take j) (replay n (k.effects ++ old)) (Some e) (Some (Answer.Take (TakeAnswer.Got x))))) j (inr (record {
                  entry = e;
                  item = x;
                  inside = inside;
                  shut = shut;
                  got = got;
                  call = call;
                  counted = most_now;
                  is = group_mine (replay n (k.effects ++ old)) j (with_take (of_group (replay n (k.effects ++ old)) j) e (Answer.Take (TakeAnswer.Got x))) there ∙ ap (λ (z : Side). with_take z e (Answer.Take (TakeAnswer.Got x))) same;
                }))
                (λ g ne. each_other n h count (replay n l) (replay n (k.effects ++ old)) (replay n l) _ g refl (group_other (replay n (k.effects ++ old)) j g (with_take (of_group (replay n (k.effects ++ old)) j) e (Answer.Take (TakeAnswer.Got x))) ne) refl (k.ahead.each g))

    one_more : (k : Next l) (j : ℕ) → j < n → OneMore n h count (replay n l) (replay n (k.effects ++ old)) j → count j ≤ got_by k j
    one_more k j inside one = omega (
      arith,
      near j inside,
      ap (λ (z : List Answer). length (handed_by z)) (t.take_answers j),
      ap (λ (z : Side). length (handed_by z.answers)) one.is,
      ap length (handed_by-append (of_group (replay n l) j).answers (Answer.Take (TakeAnswer.Got one.item) ∷ [])),
      length-append (handed (replay n l) j) (one.item ∷ []),
    )

    record Pulled (j : ℕ) : Type 0 where
      next : Next l
      counted : (g : ℕ) → g < j → count g ≤ got_by next g

    pull : (j : ℕ) → j ≤ n → is_shut (replay n l) ≡ true → Next l → Pulled j
    pull zero less shut k = record { next = k; counted = λ g none. absurd (omega (arith, none)) }
    pull (suc j) less shut k =
        let p : Pulled j = pull j (omega (arith, less)) shut k in
        elim (cases_lt (got_by p.next j) (count j)) [
          | inl behind ↦ elim (p.next.ahead.each j) [
            | inr one ↦ absurd (omega (arith, behind, one_more p.next j (omega (arith, less)) one))
            | inl same ↦
                let now : Pulls p.next j = pulls p.next j (omega (arith, less)) shut behind same in
                record {
                  next = now.next;
                  counted = λ g below. grind (arith, now.counted, p.counted g, now.others g);
                }
          ]
          | inr enough ↦ record {
            next = p.next;
            counted = λ g below. grind (arith, enough, p.counted g);
          }
        ]

-- ---- a run

on_time : (n : ℕ) (h : Record) (count : ℕ → ℕ) (r later : Record) → Timed h r → Ahead n h count r later → IsOnTime h later
on_time n h count r later t ahead = record { calls = calls; answers = answers }
  where
    calls : (x : Chain) → IsPrefix (calls_on x later) (calls_on x h)
    calls Chain.Send = subst (λ (z : Side). IsPrefix z.calls h.sends.calls) (sym ahead.sends) t.send_calls
    calls (Chain.Take g) = elim (ahead.each g) [
      | inl is ↦ subst (λ (z : Side). IsPrefix z.calls (of_group h g).calls) (sym is) (t.take_calls g)
      | inr one ↦ subst (λ (z : Side). IsPrefix z.calls (of_group h g).calls) (sym one.is) (front_next (of_group r g).calls (of_group h g).calls (length (of_group r g).calls) one.entry (t.take_calls g) refl one.call)
    ]

    answers : (x : Chain) → IsPrefix (answers_on x h) (answers_on x later)
    answers Chain.Send = subst (λ (z : Side). IsPrefix h.sends.answers z.answers) (sym ahead.sends) t.send_answers
    answers (Chain.Take g) = elim (ahead.each g) [
      | inl is ↦ subst (λ (z : Side). IsPrefix (of_group h g).answers z.answers) (sym is) (subst (λ (z : List Answer). IsPrefix z (of_group r g).answers) (t.take_answers g) (prefix_self (of_group r g).answers))
      | inr one ↦ subst (λ (z : Side). IsPrefix (of_group h g).answers z.answers) (sym one.is) (Answer.Take (TakeAnswer.Got one.item) ∷ [], ap (λ (z : List Answer). z ++ Answer.Take (TakeAnswer.Got one.item) ∷ []) (t.take_answers g))
    ]

module _ (c : Setting) (m : ℕ) (some : c.config.groups ≡ m + 1) (serves : c.served ≡ Served.List) (checked : config_fault c.config ≡ Ok tt) where
  record Followed (moves : List Move) (effects : List (List Effect)) : Type 0 where
    later : List (List Effect)
    timely : IsTimely c moves later
    exact : IsExact c.config (in_order later)
    ahead : Ahead c.config.groups (history_of c moves) (counted_for (reached c moves)) (replay c.config.groups (in_order effects)) (replay c.config.groups (in_order later))
    follows : FollowsCounts c moves later

  followed : (moves : List Move) → IsRun c moves → (effects : List (List Effect)) → AreTimed c moves effects → IsExact c.config (in_order effects) → Followed moves effects
  followed [] run [] t exact = record { later = []; timely = tt; exact = tt; ahead = record { sends = refl; each = λ g. inl refl }; follows = tt }
  followed (mv ∷ earlier) run (now ∷ before) t exact =
      let p : Followed earlier before = followed earlier run.0 before t.0 (exact_before c.config now (in_order before) exact) in
      let grow : CountsNoLess c (reached c earlier) (reached c (mv ∷ earlier)) = counts_grow c (mv ∷ []) earlier serves checked run in
      let base : Next c.config m some (history_of c (mv ∷ earlier)) (counted_for (reached c (mv ∷ earlier))) (in_order p.later) (in_order before) = record {
        effects = [];
        exact = p.exact;
        ahead = record {
          sends = p.ahead.sends;
          each = λ g. each_then c.config.groups (history_of c earlier) (history_of c (mv ∷ earlier)) (counted_for (reached c earlier)) (counted_for (reached c (mv ∷ earlier))) (replay c.config.groups (in_order before)) (replay c.config.groups (in_order p.later)) g
              ((prefixes_begin c (mv ∷ []) earlier run).1.takes g).calls (grow.taken g) (p.ahead.each g);
        };
      } in
      by_shut p (follow c.config m some (history_of c (mv ∷ earlier)) (counted_for (reached c (mv ∷ earlier))) (in_order p.later) (in_order before) now base exact t.1.take_calls) (is_shut (history_of c (mv ∷ earlier))) refl
    where
      -- no take is in the order before it is counted
      few_taken : (l : List Effect) → Ahead c.config.groups (history_of c (mv ∷ earlier)) (counted_for (reached c (mv ∷ earlier))) (replay c.config.groups (now ++ in_order before)) (replay c.config.groups l) → (g : ℕ) → g < c.config.groups
          → length (handed (replay c.config.groups l) g) ≤ counted_for (reached c (mv ∷ earlier)) g
      few_taken l ahead g inside = grind (arith, ahead.each g, t.1.take_answers g, (counts_are_near c (mv ∷ earlier) serves checked run).taken_least g inside)

      by_shut : (p : Followed earlier before) → Next c.config m some (history_of c (mv ∷ earlier)) (counted_for (reached c (mv ∷ earlier))) (in_order p.later) (now ++ in_order before) → (b : Bool) → is_shut (history_of c (mv ∷ earlier)) ≡ b → Followed (mv ∷ earlier) (now ∷ before)
      by_shut p k false is = record {
        later = k.effects ∷ p.later;
        timely = (p.timely, on_time c.config.groups (history_of c (mv ∷ earlier)) (counted_for (reached c (mv ∷ earlier))) (replay c.config.groups (now ++ in_order before)) (replay c.config.groups (k.effects ++ in_order p.later)) t.1 k.ahead);
        exact = k.exact;
        ahead = k.ahead;
        follows = (p.follows, few_taken (k.effects ++ in_order p.later) k.ahead, λ shut. absurd (cc (shut, is)));
      }
      by_shut p k true is =
          let near : CountsOf c (reached c (mv ∷ earlier)) = counts_are_near c (mv ∷ earlier) serves checked run in
          let legal : Legal c.config (history_of c (mv ∷ earlier)) = history_is_legal c (mv ∷ earlier) serves checked run in
          let q : Pulled c.config m some (history_of c (mv ∷ earlier)) (counted_for (reached c (mv ∷ earlier))) (in_order p.later) (now ++ in_order before) t.1 near.taken_near near.taken_pending near.taken_most
          (λ g inside. (legal.takes g inside).receivers) c.config.groups =
          pull c.config m some (history_of c (mv ∷ earlier)) (counted_for (reached c (mv ∷ earlier))) (in_order p.later) (now ++ in_order before) t.1 near.taken_near near.taken_pending near.taken_most
          (λ g inside. (legal.takes g inside).receivers) c.config.groups (omega arith)
          (any_prefix shuts (history_of c (mv ∷ earlier)).sends.answers (replay c.config.groups (now ++ in_order before)).sends.answers t.1.send_answers is) k in
          record {
            later = q.next.effects ∷ p.later;
            timely = (p.timely, on_time c.config.groups (history_of c (mv ∷ earlier)) (counted_for (reached c (mv ∷ earlier))) (replay c.config.groups (now ++ in_order before)) (replay c.config.groups (q.next.effects ++ in_order p.later)) t.1 q.next.ahead);
            exact = q.next.exact;
            ahead = q.next.ahead;
            follows = (p.follows, few_taken (q.next.effects ++ in_order p.later) q.next.ahead, λ shut g inside. q.counted g inside);
          }
  followed _ run _ t exact = absurd t

of_list : (cfg : Config) (checked : config_fault cfg ≡ Ok tt) (moves : List Move) → IsRun (lists cfg) moves → HasCountedOrder (lists cfg) moves
of_list cfg checked moves run =
    let k : Lin cfg moves = lin cfg checked moves run in
    let f : Followed (lists cfg) (cfg.groups - 1) (omega (arith, (in_range cfg checked).groups.0)) refl checked moves k.effects =
    followed (lists cfg) (cfg.groups - 1) (omega (arith, (in_range cfg checked).groups.0)) refl checked moves run k.effects k.timed k.exact in
    record { effects = f.later; timely = f.timely; exact = f.exact; follows = f.follows }

pub orders_follow_counts : OrdersFollowCounts
orders_follow_counts c moves serves checked run =
    of_setting (λ (z : Setting). config_fault z.config ≡ Ok tt → IsRun z moves → HasCountedOrder z moves) c serves (λ ok r. of_list c.config ok moves r) checked run
