-- Runs of threads that keep the rules of a row and of its bound: their orders let items in by the rules.
use Rattle.std.proofs.lemmas.Bool.{cases_eq, cases_lt}
use Rattle.std.proofs.Common.{◌≡◌, ◌⊎◌, ℕ, zero, suc, ◌+◌, ◌<◌, ◌≤◌, Bool, true, false, ◌||◌, List, [], ◌∷◌, ◌++◌, map, length, Some, inl, inr, refl, sym, ap, subst, ◌∙◌, arith, append-nil, append_assoc, length-append}
use Rattle.std.specs.List.{AllByRecursion, list_any}
use Rattle.cc_model.specs.Record.{Record}
use Rattle.cc_model.specs.Items.{IsPrefix, accepted, accepted_by, accepted_item, is_shut, shuts, handed}
use Rattle.cc_model.specs.Sequential.{Exactly}
use Rattle.std.proofs.lemmas.List.{map-append}
use Rattle.cc_runs.specs.State.{noted}
use Rattle.cc_runs.specs.Run.{history_of, reached}
use Rattle.cc_runs.specs.Counts.{counted_for}
use Rattle.cc_runs.specs.Linearizable.{Effect, replay, AnswersAfter, IsExact, IsOfChain, in_order, IsOnTime}
use Rattle.cc_runs.proofs.Linear.Replay.{prefix_length, replay_even}
use Rattle.cc_runs.proofs.KnownPrefixes.{accepted_grow}
use Rattle.cc_runs.proofs.Linear.Insert.{exact_before}
use Rattle.cc_runs.proofs.Linear.Orders.{timely_now}
use Rattle.cc_row.specs.Names.{Config, Pass, Call, Item, Entry, Answer, SendAnswer, Chain, Setting, Move}
use Rattle.cc_row.specs.BoundRuns.{waiting, waiting_at}
use Rattle.cc_row.specs.CountedOrders.{FollowsCounts, HasCountedOrder}
use Rattle.cc_row.proofs.Exact as exact
use Rattle.cc_row.proofs.Exact.{send_accepted}
use Rattle.cc_row.proofs.Use.{any_prefix, found, ended_same, exacts_cut, merged_exact, merged_in_order}
use Rattle.cc_row.proofs.BoundLooks.{Sound, sound_before, sound_then, sound_of, near, kept, beyond, there}
use Rattle.cc_row.proofs.BoundQueue.{item_few}
use Rattle.cc_row.proofs.BoundThreads.{all_come, elsewhere, waiting_sends_have_room, last_up}
use Rattle.cc_row.proofs.CountedOrders.{orders_follow_counts}
use Rattle.cc_row.proofs.Merge.{moves_here, moves_else, row_timely, head, tail, head_tail, put, cut, merge, Each, cut_here, cut_else, each_before, only_merged, only_put, only_mine}
use Rattle.cc_row.specs.Row.{At, ends, items_at, taken_at, ended_at, before}
use Rattle.cc_row.specs.OneQueue.{own_name}
use Rattle.cc_row.specs.Queues.{AtQueue, AreApart, InOrder, only, seen}
use Rattle.cc_row.specs.Runs.{RowMove, FoundEnded, moves_at, flat}
use Rattle.cc_row.specs.Threads.{RowEvent, RowSetting, IsKept, moves_of, moves_there, last_of, queue_of, final_of}
use Rattle.cc_row.specs.Bound.{AreTogether, HasRoom, IsFullRow, IsLetIn, taken_before}
use Rattle.cc_row.specs.BoundThreads.{queue_at, accepted_below, counted_below, HasBound, HaveCome, KeepBound}
use Rattle.cc_row.proofs.Threads.{within, good, final_last}
use Rattle.cc_row.proofs.BoundQueues.{bounded_queues}
use Rattle.cc_row.specs.BoundQueues.{RowEffect, effects_in, AreLetIn}
use Rattle.cc_row.specs.BoundedRuns.{Sent, GetsFull, GetFull, refused, with_looks, IsOneQueue, IsBoundedLinearization, BoundedThreadsAreOne}
use Rattle.cc_row.proofs.FullLooks.{is_full}
use Rattle.cc_row.proofs.RealTime.{head_same, tail_same, none_in, calls_in_time}
use Rattle.cc_row.proofs.WithLooks.{effects_front, effects_refused, looks_none}
use Rattle.cc_model.proofs.Grows.{any-append}
use Rattle.cc_row.proofs.Sums.{grows}

-- ---- one queue: what an order has accepted

-- answers that were given before their sends' decisions accept no more than those sends
to_wait : (calls rest : List Entry) (answers : List Answer) → length (accepted_by calls answers) ≤ waiting (calls ++ rest) []
to_wait (d ∷ calls) rest (a ∷ answers) = omega (arith, to_wait calls rest answers, item_few d a, length-append (accepted_item d a) (accepted_by calls answers))
to_wait _ rest _ = omega arith

ahead_few : (calls rest : List Entry) (answers later : List Answer) → length (accepted_by calls (answers ++ later)) ≤ length (accepted_by (calls ++ rest) answers) + waiting (calls ++ rest) answers
ahead_few [] rest answers later = omega arith
ahead_few (d ∷ calls) rest [] later = omega (arith, to_wait (d ∷ calls) rest later)
ahead_few (d ∷ calls) rest (a ∷ answers) later = omega (
  arith,
  ahead_few calls rest answers later,
  length-append (accepted_item d a) (accepted_by calls (answers ++ later)),
  length-append (accepted_item d a) (accepted_by (calls ++ rest) answers),
)

empty_front : {X : Type 0} (a b : List X) → a ++ b ≡ [] → a ≡ []
empty_front {X} [] b is = refl
empty_front {X} (x ∷ a) b is = absurd (none_in x (a ++ b) (sym is))

split_last : {X : Type 0} (front rest xs : List X) (x : X) → xs ++ x ∷ [] ≡ front ++ rest → (front ≡ xs ++ x ∷ []) ⊎ IsPrefix front xs
split_last {X} [] rest xs x is = inr (xs, refl)
split_last {X} (y ∷ front) rest [] x is = inl (λ i. head_same (sym is) i ∷ empty_front front rest (sym (tail_same is)) i)
split_last {X} (y ∷ front) rest (z ∷ xs) x is = elim (split_last front rest xs x (tail_same is)) [
  | inl same ↦ inl (λ i. head_same (sym is) i ∷ same i)
  | inr p ↦ inr (p.0, λ i. head_same is i ∷ p.1 i)
]

-- a queue that is shut accepts nothing
pub accepts_none : (cfg : Config) (pass : Pass) (call : Call) (number known : ℕ) (items : List Item) (shut : Bool)
    (t all : ℕ) (a : Answer) → Exactly cfg items shut t all call a → shut ≡ true
    → length (accepted_item (record { pass = pass; call = call; number = number; known = known }) a) ≡ 0
accepts_none cfg pass call number known items shut t all a h is = grind arith

frozen_order : (cfg : Config) (l : List Effect) → IsExact cfg l → (answers : List Answer) → IsPrefix answers (replay cfg.groups l).sends.answers → list_any shuts answers ≡ true
    → length (accepted (replay cfg.groups l)) ≤ length (accepted_by (replay cfg.groups l).sends.calls answers)
frozen_order cfg [] exact answers p shut =
    absurd (cc (sym shut ∙ ap (list_any shuts) (empty_front answers p.0 (sym p.1))))
frozen_order cfg (x ∷ l) exact answers p shut = by (λ z. frozen_order cfg l exact.0 answers z shut) x.chain x.entry x.answer exact.3 p
  where
    by : (IsPrefix answers (replay cfg.groups l).sends.answers → length (accepted (replay cfg.groups l)) ≤ length (accepted_by (replay cfg.groups l).sends.calls answers))
        → (c : Chain) (e : Entry) (a : Answer) → AnswersAfter cfg (replay cfg.groups l) c e.call a → IsPrefix answers (noted c (replay cfg.groups l) (Some e) (Some a)).sends.answers
        → length (accepted (noted c (replay cfg.groups l) (Some e) (Some a))) ≤ length (accepted_by (noted c (replay cfg.groups l) (Some e) (Some a)).sends.calls answers)
    by before (Chain.Take g) e a fits p = before p
    by before Chain.Send e a fits p =
        let r : Record = replay cfg.groups l in
        elim (split_last answers p.0 (replay cfg.groups l).sends.answers a p.1) [
          | inl same ↦ omega (arith, ap (λ (z : List Answer). length (accepted_by ((replay cfg.groups l).sends.calls ++ e ∷ []) z)) same)
          | inr front ↦
              let is : is_shut (replay cfg.groups l) ≡ true = any_prefix shuts answers (replay cfg.groups l).sends.answers front shut in
              omega (
                arith,
                ap length (send_accepted r e a (replay_even cfg.groups l).0),
                length-append (accepted r) (accepted_item e a),
                accepts_none cfg e.pass e.call e.number e.known (accepted r) (is_shut r) 0 _ a fits is,
                before front,
                accepted_grow r.sends.calls (e ∷ []) answers [] (omega (arith, prefix_length answers r.sends.answers front, (replay_even cfg.groups l).0)),
                ap (λ (z : List Answer). length (accepted_by (r.sends.calls ++ e ∷ []) z)) (append-nil answers),
              )
        ]

-- what the order of a queue that is on time has accepted
module _ (cfg : Config) (h : Record) (l : List Effect) (t : IsOnTime h (replay cfg.groups l)) where
  abbrev o : Record
  o = replay cfg.groups l

  accepted_least : length (accepted (replay cfg.groups l)) ≤ length (accepted h) + waiting h.sends.calls h.sends.answers
  accepted_least =
      let p = t.calls Chain.Send in
      let q = t.answers Chain.Send in
      grind (arith, ahead_few (replay cfg.groups l).sends.calls p.0 h.sends.answers q.0, p.1, q.1)

  accepted_shut : IsExact cfg l → list_any shuts h.sends.answers ≡ true → length (accepted (replay cfg.groups l)) ≤ length (accepted h)
  accepted_shut exact shut =
      let p = t.calls Chain.Send in
      let q = t.answers Chain.Send in
      omega (
        arith,
        frozen_order cfg l exact h.sends.answers q shut,
        accepted_grow (replay cfg.groups l).sends.calls p.0 h.sends.answers [] (omega (arith, prefix_length h.sends.answers (replay cfg.groups l).sends.answers q, (replay_even cfg.groups l).0)),
        ap (λ (z : List Answer). length (accepted_by ((replay cfg.groups l).sends.calls ++ p.0) z)) (append-nil h.sends.answers),
        ap (λ (z : List Entry). length (accepted_by z h.sends.answers)) p.1,
      )

-- an order that goes on has accepted no less
more_accepted : (n : ℕ) (front l : List Effect) → length (accepted (replay n l)) ≤ length (accepted (replay n (front ++ l)))
more_accepted n [] l = omega arith
more_accepted n (x ∷ front) l = omega (arith, more_accepted n front l, by x.chain x.entry x.answer)
  where
    by : (c : Chain) (e : Entry) (a : Answer) → length (accepted (replay n (front ++ l))) ≤ length (accepted (noted c (replay n (front ++ l)) (Some e) (Some a)))
    by (Chain.Take g) e a = omega arith
    by Chain.Send e a = omega (arith, ap length (send_accepted (replay n (front ++ l)) e a (replay_even n (front ++ l)).0), length-append (accepted (replay n (front ++ l))) (accepted_item e a))

-- an item that is accepted, while the queue is open
adds_one : (cfg : Config) (c : Chain) (pass : Pass) (call : Call) (number known : ℕ) (place : ℕ) (r : Record) → IsOfChain cfg c (record { pass = pass; call = call; number = number; known = known })
    → AnswersAfter cfg r c call (Answer.Send (SendAnswer.Accepted place)) → length r.sends.calls ≡ length r.sends.answers
    → (is_shut r ≡ false) × (length (accepted (noted c r (Some (record { pass = pass; call = call; number = number; known = known })) (Some (Answer.Send (SendAnswer.Accepted place))))) ≡ length (accepted r) + 1)
adds_one cfg Chain.Send (Pass.Sender s) (Call.Send body) number known place r mine fits even = (
  fits.0,
  ap length (send_accepted r (record { pass = Pass.Sender s; call = Call.Send body; number = number; known = known }) (Answer.Send (SendAnswer.Accepted place)) even)
      ∙ length-append (accepted r) _,
)
adds_one cfg c pass call number known place r mine fits even = grind arith

-- counts that the order of a shut queue follows
follows_now : (c : Setting) (moves : List Move) (l : List (List Effect)) → FollowsCounts c moves l → is_shut (history_of c moves) ≡ true → (g : ℕ) → g < c.config.groups
    → counted_for (reached c moves) g ≤ length (handed (replay c.config.groups (in_order l)) g)
follows_now c [] l f shut g inside = absurd (cc (sym shut))
follows_now c (m ∷ moves) [] f shut g inside = absurd f
follows_now c (m ∷ moves) (now ∷ before) f shut g inside = f.2 shut g inside

stays_shut : (n : ℕ) (front l : List Effect) → is_shut (replay n l) ≡ true → is_shut (replay n (front ++ l)) ≡ true
stays_shut n [] l is = is
stays_shut n (x ∷ front) l is = by x.chain x.entry x.answer (stays_shut n front l is)
  where
    by : (c : Chain) (e : Entry) (a : Answer) → is_shut (replay n (front ++ l)) ≡ true → is_shut (noted c (replay n (front ++ l)) (Some e) (Some a)) ≡ true
    by (Chain.Take g) e a is = is
    by Chain.Send e a is = any-append shuts (replay n (front ++ l)).sends.answers (a ∷ []) ∙ ap (λ (b : Bool). b || (shuts a || false)) is

without_looks : (events : List RowEvent) (f : ℕ → List (List Effect)) → with_looks (λ (s : List RowEvent). []) events (merge (moves_of events) f) ≡ map RowEffect.At (flat (merge (moves_of events) f))
without_looks [] f = refl
without_looks (RowEvent.Moves m ∷ earlier) f =
    ap (λ (z : List RowEffect). map RowEffect.At (put m.at (head (f m.at))) ++ z) (without_looks earlier (cut m.at f)) ∙ sym (map-append RowEffect.At (put m.at (head (f m.at))) (flat (merge (moves_of earlier) (cut m.at f))))
without_looks (_ ∷ earlier) f = without_looks earlier f

-- ---- the row at one move

module _ (r : RowSetting) (count bound : ℕ) (has : HasBound r count bound) (m : RowMove) (events : List RowEvent) (s : Sound r (RowEvent.Moves m ∷ events)) (f : ℕ → List (List Effect))
    (each : Each r.of (m ∷ moves_of events) f) (ok : (q : ℕ) → IsExact (r.of q).config (in_order (f q))) (follows : (q : ℕ) → FollowsCounts (r.of q) (moves_at q (m ∷ moves_of events)) (f q)) where
  abbrev now : List RowEvent
  now = RowEvent.Moves m ∷ events

  abbrev last : ℕ
  last = last_of events

  abbrev cfg : ℕ → Config
  cfg q = (r.of q).config

  apart : AreApart cfg own_name
  apart q g h in_g in_h is = is

  on : (q : ℕ) → IsOnTime (history_of (r.of q) (moves_at q (m ∷ moves_of events))) (replay (cfg q).groups (in_order (f q)))
  on q = timely_now (r.of q) (moves_at q (m ∷ moves_of events)) (f q) (each q)

  abbrev rest : List AtQueue
  rest = flat (merge (moves_of events) (cut m.at f))

  rest_only : (q : ℕ) → only q rest ≡ in_order (cut m.at f q)
  rest_only q = only_merged r.of (moves_of events) (cut m.at f) (each_before r.of m (moves_of events) f each) q

  below : m.at ≤ last
  below = within r m events s.runs s.rules.1 (kept r events (sound_before r (RowEvent.Moves m) events s))

  -- the calls that came before one of the move
  module _ (front l : List Effect) (is : front ++ l ≡ head (f m.at)) where
    abbrev order : List AtQueue
    order = put m.at l ++ rest

    abbrev shown : List At
    shown = map (seen own_name) order

    at_it : only m.at order ≡ l ++ in_order (tail (f m.at))
    at_it = only_mine m.at l rest ∙ ap (λ (z : List Effect). l ++ z) (rest_only m.at ∙ ap in_order (cut_here f m.at m.at refl))

    else_at : (q : ℕ) → (m.at ≡ q → ⊥) → only q order ≡ in_order (f q)
    else_at q differ = only_put m.at q l rest differ ∙ rest_only q ∙ ap in_order (cut_else f m.at q differ)

    whole : in_order (f m.at) ≡ front ++ (l ++ in_order (tail (f m.at)))
    whole = sym (head_tail (f m.at)) ∙ ap (λ (z : List Effect). z ++ in_order (tail (f m.at))) (sym is) ∙ append_assoc front l (in_order (tail (f m.at)))

    ok_it : IsExact (cfg m.at) (l ++ in_order (tail (f m.at)))
    ok_it = exact_before (cfg m.at) front (l ++ in_order (tail (f m.at))) (subst (λ (z : List Effect). IsExact (cfg m.at) z) whole (ok m.at))

    exacts : exact.Exact cfg order
    exacts q = grind (arith, at_it, ok_it, else_at q, ok q)

    state : (q : ℕ) → exact.Same own_name q (cfg q).groups (exact.after cfg q order) (map (seen own_name) order)
    state q = exact.same cfg own_name apart order exacts q

    items_else : (q : ℕ) → (m.at ≡ q → ⊥) → length (items_at q (map (seen own_name) order)) ≡ length (accepted (replay (cfg q).groups (in_order (f q))))
    items_else q differ = ap length (sym (state q).items) ∙ ap (λ (z : List Effect). length (accepted (replay (cfg q).groups z))) (else_at q differ)

    items_it : length (items_at m.at (map (seen own_name) order)) ≡ length (accepted (replay (cfg m.at).groups (l ++ in_order (tail (f m.at)))))
    items_it = ap length (sym (state m.at).items) ∙ ap (λ (z : List Effect). length (accepted (replay (cfg m.at).groups z))) at_it

    taken_else : (q g : ℕ) → g < (cfg q).groups → (m.at ≡ q → ⊥) → length (handed (replay (cfg q).groups (in_order (f q))) g) ≡ taken_at q g (map (seen own_name) order)
    taken_else q g inside differ = ap (λ (z : List Effect). length (handed (replay (cfg q).groups z) g)) (sym (else_at q differ)) ∙ (state q).taken g inside

    module _ (at : m.at ≡ last) where
      apart_at : (q : ℕ) → (q ≡ last_of events → ⊥) → m.at ≡ q → ⊥
      apart_at q ne is_at = ne (sym is_at ∙ at)

      items_below : (k : ℕ) → k < last_of events → length (items_at k (map (seen own_name) order)) ≤ length (accepted (queue_at r k now).history)
      items_below k less = omega (
        arith,
        items_else k (apart_at k (λ z. omega (arith, z, less))),
        accepted_shut (cfg k) (history_of (r.of k) (moves_at k (m ∷ moves_of events))) (in_order (f k)) (on k) (ok k) ((kept r now s).shut k less),
      )

      items_beyond : (k : ℕ) → last_of events < k → length (items_at k (map (seen own_name) order)) ≡ 0
      items_beyond k more =
          let quiet = (kept r now s).no_send k more in
          omega (
            arith,
            items_else k (apart_at k (λ z. omega (arith, z, more))),
            accepted_least (cfg k) (history_of (r.of k) (moves_at k (m ∷ moves_of events))) (in_order (f k)) (on k),
            ap (λ (z : List Entry). length (accepted_by z (history_of (r.of k) (moves_at k (m ∷ moves_of events))).sends.answers)) quiet.none,
            ap (λ (z : List Entry). waiting z (history_of (r.of k) (moves_at k (m ∷ moves_of events))).sends.answers) quiet.none,
          )

      taken_below : (k g : ℕ) → k < last_of events → g < count → counted_for (queue_at r k now) g ≤ taken_at k g (map (seen own_name) order)
      taken_below k g less inside = omega (
        arith,
        follows_now (r.of k) (moves_at k (m ∷ moves_of events)) (f k) (follows k) ((kept r now s).shut k less) g (there r count bound has now s g inside k),
        taken_else k g (there r count bound has now s g inside k) (apart_at k (λ z. omega (arith, z, less))),
      )

      items_sum : (n : ℕ) → n ≤ last_of events → before n (map (seen own_name) order) ≤ accepted_below r n now
      items_sum zero less = omega arith
      items_sum (suc n) less = omega (arith, items_sum n (omega (arith, less)), items_below n less)

      taken_sum : (n g : ℕ) → n ≤ last_of events → g < count → counted_below r n g now ≤ taken_before n g (map (seen own_name) order)
      taken_sum zero g less inside = omega arith
      taken_sum (suc n) g less inside = omega (arith, taken_sum n g (omega (arith, less)) inside, taken_below n g less inside)

      taken_up : (n k g : ℕ) → n ≤ k → taken_before n g (map (seen own_name) order) ≤ taken_before k g (map (seen own_name) order)
      taken_up n k g = grows (λ z. taken_before z g (map (seen own_name) order)) (λ z. omega arith) n k

      counted_few : (n g : ℕ) → g < count → counted_below r n g now ≤ accepted_below r n now
      counted_few zero g inside = omega arith
      counted_few (suc n) g inside = omega (arith, counted_few n g inside, (near r now s n).taken_most g (there r count bound has now s g inside n))

      together : HaveCome count (last_of events) now → AreTogether count m.at (map (seen own_name) order)
      together come g inside k less =
          let was : FoundEnded (r.of k) (r.names k) (moves_there k now) g = (kept r now s).ended g k (omega (arith, less, at, come g inside)) in
          let named : was.group ≡ g = sym (has.names_are k was.group) ∙ was.named in
          let ended : found (replay (cfg k).groups (in_order (f k))) was.group ≡ true =
          any_prefix ends _ _ ((on k).answers (Chain.Take was.group)) was.ended in
          ap (λ (z : ℕ). ended_at k z (map (seen own_name) order)) (sym named) ∙ sym (ended_same cfg own_name apart order exacts k was.group was.inside)
          ∙ ap (λ (z : List Effect). found (replay (cfg k).groups z) was.group) (else_at k (λ z. omega (arith, z, less))) ∙ ended

      search : (n : ℕ) → ((g : ℕ) → g < n → last_of events ≤ queue_of g now) ⊎ ((g : ℕ) × (g < n) × (queue_of g now < last_of events))
      search zero = inl (λ g less. absurd (omega (arith, less)))
      search (suc n) = elim (search n) [
        | inr some ↦ inr (some.0, omega (arith, some.1), some.2)
        | inl all ↦ elim (cases_lt (queue_of n now) (last_of events)) [
          | inl less ↦ inr (n, omega arith, less)
          | inr more ↦ inl (λ g inside. elim (cases_eq g n) [
            | inl same ↦ subst (λ (z : ℕ). last_of events ≤ queue_of z now) (sym same) (omega (arith, more))
            | inr other ↦ all g (omega (arith, inside, other))
          ])
        ]
      ]

      module _ (one : length (items_at m.at (map (seen own_name) order)) + 1 ≤ length (accepted (queue_at r m.at now).history) + waiting_at r m.at now) where
        one_last : length (items_at (last_of events) (map (seen own_name) order)) + 1 ≤ length (accepted (queue_at r (last_of events) now).history) + waiting_at r (last_of events) now
        one_last = subst (λ (z : ℕ). length (items_at z (map (seen own_name) order)) + 1 ≤ length (accepted (queue_at r z now).history) + waiting_at r z now) at one

        items_all : (n : ℕ) → last_of events < n → before n (map (seen own_name) order) + 1 ≤ accepted_below r (suc (last_of events)) now + waiting_at r (last_of events) now
        items_all zero less = absurd (omega (arith, less))
        items_all (suc n) less = grind (arith, items_all n, items_beyond n, items_sum (last_of events), one_last)

        abbrev Room : ℕ → Type 0
        Room g = accepted_below r (suc (last_of events)) now + waiting_at r (last_of events) now ≤ counted_below r (suc (last_of events)) g now + bound

        -- a group at an earlier queue has taken nothing of the last one
        none_counted : (g : ℕ) → g < count → queue_of g now < last_of events → counted_for (queue_at r (last_of events) now) g ≡ 0
        none_counted g inside less = elsewhere r count bound has now s g inside (last_of events) (λ z. omega (arith, z, less)) ∙ beyond r count bound has now s g inside (last_of events) less

        has_room : (to : ℕ) → last_of events ≤ to → (h : ℕ) → h < count → queue_of h now < last_of events → ((g : ℕ) → g < count → Room g) → HasRoom count bound to (map (seen own_name) order)
        has_room to up h in_h behind room g inside = grind (
          arith,
          room g inside,
          room h in_h,
          none_counted g inside,
          none_counted h in_h behind,
          items_all (suc to),
          counted_few (last_of events) h in_h,
          all_come r count bound has now s g inside (last_of events),
          taken_sum (last_of events) g (omega arith) inside,
          taken_up (last_of events) (suc to) g,
        )

  is_kept : IsKept r now
  is_kept = record {
    serves = s.serves;
    checked = s.checked;
    apart = λ q g h in_g in_h is. sym (has.names_are q g) ∙ is ∙ has.names_are q h;
    runs = s.runs;
    rules = s.rules;
  }

  -- a queue before the last one was shut before this move
  was_shut : m.at < last_of events → (l : List Effect) → is_shut (replay (cfg m.at).groups (l ++ in_order (tail (f m.at)))) ≡ true
  was_shut less l =
      let t : IsOnTime (history_of (r.of m.at) (moves_at m.at (moves_of events))) (replay (cfg m.at).groups (in_order (cut m.at f m.at))) =
      timely_now (r.of m.at) (moves_at m.at (moves_of events)) (cut m.at f m.at) (each_before r.of m (moves_of events) f each m.at) in
      let shut : is_shut (replay (cfg m.at).groups (in_order (cut m.at f m.at))) ≡ true =
      any_prefix shuts _ _ (t.answers Chain.Send) ((kept r events (sound_before r (RowEvent.Moves m) events s)).shut m.at less) in
      stays_shut (cfg m.at).groups l (in_order (tail (f m.at))) (subst (λ (z : List (List Effect)). is_shut (replay (cfg m.at).groups (in_order z)) ≡ true) (cut_here f m.at m.at refl) shut)

  module _ (keep : KeepBound r count bound (RowEvent.Moves m ∷ events)) (to : ℕ) (up : last_of events ≤ to) where
    accepts : (front l : List Effect) (e : Effect) → front ++ e ∷ l ≡ head (f m.at) → (place : ℕ) → e.answer ≡ Answer.Send (SendAnswer.Accepted place)
        → AreTogether count m.at (map (seen own_name) (put m.at l ++ rest)) ⊎ HasRoom count bound to (map (seen own_name) (put m.at l ++ rest))
    accepts front l e is place told =
        let n : ℕ = (cfg m.at).groups in
        let later : List Effect = l ++ in_order (tail (f m.at)) in
        let parts : IsExact (cfg m.at) (e ∷ (l ++ in_order (tail (f m.at)))) = ok_it front (e ∷ l) is in
        let added = adds_one (cfg m.at) e.chain e.entry.pass e.entry.call e.entry.number e.entry.known place (replay (cfg m.at).groups (l ++ in_order (tail (f m.at)))) parts.2
        (subst (λ (z : Answer). AnswersAfter (cfg m.at) (replay (cfg m.at).groups (l ++ in_order (tail (f m.at)))) e.chain e.entry.call z) told parts.3)
        (replay_even (cfg m.at).groups (l ++ in_order (tail (f m.at)))).0 in
        let then : (front ++ e ∷ []) ++ l ≡ head (f m.at) = append_assoc front (e ∷ []) l ∙ is in
        let one : length (items_at m.at (map (seen own_name) (put m.at l ++ rest))) + 1 ≤ length (accepted (queue_at r m.at now).history) + waiting_at r m.at now = omega (
          arith,
          items_it (front ++ e ∷ []) l then,
          added.1,
          ap (λ (z : Answer). length (accepted (noted e.chain (replay (cfg m.at).groups (l ++ in_order (tail (f m.at)))) (Some e.entry) (Some z)))) told,
          more_accepted (cfg m.at).groups front (e ∷ (l ++ in_order (tail (f m.at)))),
          ap (λ (z : List Effect). length (accepted (replay (cfg m.at).groups z))) (whole front (e ∷ l) is),
          accepted_least (cfg m.at) (history_of (r.of m.at) (moves_at m.at (m ∷ moves_of events))) (in_order (f m.at)) (on m.at),
        ) in
        grind (arith, was_shut, added.0, by_search then, below)
      where
        by_search : (front ++ e ∷ []) ++ l ≡ head (f m.at) → m.at ≡ last_of events → length (items_at m.at (map (seen own_name) (put m.at l ++ rest))) + 1 ≤ length (accepted (queue_at r m.at now).history) + waiting_at r m.at now
            → AreTogether count m.at (map (seen own_name) (put m.at l ++ rest)) ⊎ HasRoom count bound to (map (seen own_name) (put m.at l ++ rest))
        by_search then at one = elim (search (front ++ e ∷ []) l then at count) [
          | inl come ↦ inl (together (front ++ e ∷ []) l then at come)
          | inr some ↦ elim (waiting_sends_have_room r count bound now has is_kept keep) [
            | inl come ↦ inl (together (front ++ e ∷ []) l then at come)
            | inr room ↦ inr (has_room (front ++ e ∷ []) l then at one to up some.0 some.1 some.2 room)
          ]
        ]

    let_in : (front l : List Effect) (e : Effect) → front ++ e ∷ l ≡ head (f m.at) → (a : Answer) → e.answer ≡ a → IsLetIn count bound to m.at a (map (seen own_name) (put m.at l ++ rest))
    let_in front l e is (Answer.Send (SendAnswer.Accepted place)) told = accepts front l e is place told
    let_in front l e is _ told = tt

    let_now : (base : List RowEffect) → effects_in base ≡ flat (merge (moves_of events) (cut m.at f)) → AreLetIn count bound to base → (l front : List Effect) → front ++ l ≡ head (f m.at)
        → AreLetIn count bound to (map RowEffect.At (put m.at l) ++ base)
    let_now base same before [] front is = before
    let_now base same before (e ∷ l) front is = (
      let_now base same before l (front ++ e ∷ []) (append_assoc front (e ∷ []) l ∙ is),
      subst (λ (z : List AtQueue). IsLetIn count bound to m.at e.answer (map (seen own_name) z)) (sym (effects_front (put m.at l) base ∙ ap (λ (z : List AtQueue). put m.at l ++ z) same)) (let_in front l e is e.answer refl),
    )

-- ---- the run

follows_tail : (c : Setting) (m : Move) (moves : List Move) (l : List (List Effect)) → FollowsCounts c (m ∷ moves) l → FollowsCounts c moves (tail l)
follows_tail c m moves l t = grind arith

module _ (r : RowSetting) (count bound : ℕ) (has : HasBound r count bound) (to : ℕ) where
  abbrev Follows : List RowMove → (ℕ → List (List Effect)) → Type 0
  Follows moves f = (q : ℕ) → FollowsCounts (r.of q) (moves_at q moves) (f q)

  follows_before : (m : RowMove) (earlier : List RowMove) (f : ℕ → List (List Effect)) → Follows (m ∷ earlier) f → Follows earlier (cut m.at f)
  follows_before m earlier f each q = grind (arith, cut_here, follows_tail, moves_here, cut_else, moves_else)

  module _ (whole : List RowEvent) (all_sound : Sound r whole) (up : last_of whole ≤ to) (looks : List RowEvent → List Sent)
      (full : (later seen : List RowEvent) → later ++ seen ≡ whole → AllByRecursion (λ (s : Sent). GetsFull r count bound to later seen) (looks seen)) where
    -- the looks of one moment
    let_looks : (later events : List RowEvent) → later ++ events ≡ whole → Sound r events → (f : ℕ → List (List Effect)) → Each r.of (moves_of events) f → ((q : ℕ) → IsExact (r.of q).config (in_order (f q)))
        → Follows (moves_of events) f → (base : List RowEffect) → effects_in base ≡ flat (merge (moves_of events) f) → AreLetIn count bound to base → AreLetIn count bound to (refused (looks events) ++ base)
    let_looks later events is s f each ok follows base same before = by (looks events) (full later events is)
      where
        by : (l : List Sent) → AllByRecursion (λ (s : Sent). GetsFull r count bound to later events) l → AreLetIn count bound to (refused l ++ base)
        by [] none = before
        by (x ∷ l) some = (
          by l some.1,
          subst (λ (z : List AtQueue). IsFullRow count bound to (map (seen own_name) z)) (sym (effects_refused l base ∙ same))
              (is_full r count bound has events s f each ok follows some.0.between (now some.0) some.0.finds to (last_less later is) some.0.no_close),
        )
          where
            now : (g : GetsFull r count bound to later events) → Sound r (g.between ++ events)
            now g = sound_then r g.after (g.between ++ events) (subst (λ (z : List RowEvent). Sound r z) (sym is ∙ ap (λ (z : List RowEvent). z ++ events) g.split ∙ append_assoc g.after g.between events) all_sound)

            last_less : (later : List RowEvent) → later ++ events ≡ whole → last_of events ≤ to
            last_less later is = omega (arith, up, last_up r later events, ap last_of is)

    all_let : (later events : List RowEvent) → later ++ events ≡ whole → Sound r events → KeepBound r count bound events → last_of events ≤ to → (f : ℕ → List (List Effect)) → Each r.of (moves_of events) f → ((q : ℕ) → IsExact (r.of q).config (in_order (f q)))
        → Follows (moves_of events) f → AreLetIn count bound to (with_looks looks events (merge (moves_of events) f))
    all_let later [] is s keep up f each ok follows = subst (λ (z : List RowEffect). AreLetIn count bound to z) (append-nil (refused (looks []))) (let_looks later [] is s f each ok follows [] refl tt)
    all_let later (RowEvent.Moves m ∷ events) is s keep up f each ok follows =
        let_looks later (RowEvent.Moves m ∷ events) is s f each ok follows (map RowEffect.At (put m.at (head (f m.at))) ++ with_looks looks events (merge (moves_of events) (cut m.at f)))
        (effects_front (put m.at (head (f m.at))) (with_looks looks events (merge (moves_of events) (cut m.at f))) ∙ ap (λ (z : List AtQueue). put m.at (head (f m.at)) ++ z) (looks_none looks events (cut m.at f)))
        (let_now r count bound has m events s f each ok follows keep to up (with_looks looks events (merge (moves_of events) (cut m.at f))) (looks_none looks events (cut m.at f))
        (all_let (later ++ RowEvent.Moves m ∷ []) events (append_assoc later (RowEvent.Moves m ∷ []) events ∙ is) (sound_before r (RowEvent.Moves m) events s) keep.0 up (cut m.at f) (each_before r.of m (moves_of events) f each) (exacts_cut r.of m.at f ok)
        (follows_before m (moves_of events) f follows))
        (head (f m.at)) [] refl)
    all_let later (e ∷ events) is s keep up f each ok follows =
        let_looks later (e ∷ events) is s f each ok follows (with_looks looks events (merge (moves_of events) f)) (looks_none looks events f)
        (all_let (later ++ e ∷ []) events (append_assoc later (e ∷ []) events ∙ is) (sound_before r e events s) keep (omega (arith, up)) f each ok follows)

pub bounded_threads : BoundedThreadsAreOne
bounded_threads r one events has is_kept keep =
    let order : (q : ℕ) → HasCountedOrder (r.of q) (moves_there q events) = λ q. orders_follow_counts (r.of q) (moves_there q events) (is_kept.serves q) (is_kept.checked q) (is_kept.runs q) in
    by_order (λ q. (order q).effects) (λ q. (order q).timely) (λ q. (order q).exact) (λ q. (order q).follows)
  where
    by_order : (f : ℕ → List (List Effect)) → Each r.of (moves_of events) f → ((q : ℕ) → IsExact (r.of q).config (in_order (f q))) → ((q : ℕ) → FollowsCounts (r.of q) (moves_there q events) (f q))
        → (effects : List (List AtQueue)) × IsBoundedLinearization r one events effects
    by_order f each ok follows = (
      merge (moves_of events) f,
      record {
        timely = row_timely r.of (moves_of events) f each;
        exact = merged_exact r.of (moves_of events) f each ok;
        is_one = subst (λ (z : List RowEffect). IsOneQueue one (final_of events) z) (without_looks events f) (one_of (λ s. []) (λ later seen is. tt));
        has_looks = one_of;
        in_time = λ later seen is. calls_in_time r events (sound_of r events is_kept) f each later seen is;
      },
    )
      where
        orderly : InOrder r.names (final_of events) (flat (merge (moves_of events) f))
        orderly = merged_in_order r.of r.names is_kept.apart (final_of events) (moves_of events) f each ok ((good r events is_kept.runs is_kept.rules).used (final_of events) (final_last events))

        own : InOrder own_name (final_of events) (flat (merge (moves_of events) f))
        own = subst (λ (z : ℕ → ℕ → ℕ). InOrder z (final_of events) (flat (merge (moves_of events) f))) (λ i q g. has.names_are q g i) orderly

        one_of : (looks : List RowEvent → List Sent) → GetFull r one.groups one.capacity looks events → IsOneQueue one (final_of events) (with_looks looks events (merge (moves_of events) f))
        one_of looks full =
            bounded_queues (λ q. (r.of q).config) one (final_of events) (with_looks looks events (merge (moves_of events) f))
            record { some = has.some; groups = has.groups_are; capacity = has.capacity_is }
            (λ q. subst (λ (z : List AtQueue). IsExact (r.of q).config (only q z)) (sym (looks_none looks events f)) (merged_exact r.of (moves_of events) f each ok q))
            (subst (λ (z : List AtQueue). InOrder own_name (final_of events) z) (sym (looks_none looks events f)) own)
            (all_let r one.groups one.capacity has (final_of events) events (sound_of r events is_kept) (final_last events) looks full [] events refl (sound_of r events is_kept) keep (final_last events) f each ok follows)
