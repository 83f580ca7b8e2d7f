-- A look that finds the row full: the row is full at a place in the order of the run.
use Rattle.std.proofs.Common.{◌≡◌, ℕ, zero, suc, ◌+◌, ◌<◌, ◌≤◌, Bool, true, false, ◌||◌, List, [], ◌∷◌, ◌++◌, map, length, Some, refl, sym, ap, subst, ◌∙◌, arith}
use Rattle.std.specs.List.{list_any}
use Rattle.cc_model.specs.Record.{Record}
use Rattle.cc_model.specs.Items.{accepted, is_shut, shuts, handed}
use Rattle.cc_model.specs.Sequential.{Exactly}
use Rattle.cc_model.proofs.Grows.{any-append}
use Rattle.cc_runs.specs.State.{noted}
use Rattle.cc_runs.specs.Run.{history_of, reached}
use Rattle.cc_runs.specs.Counts.{counted_for}
use Rattle.cc_runs.specs.Linearizable.{Effect, replay, AnswersAfter, IsExact, in_order, IsOnTime}
use Rattle.cc_runs.proofs.Linear.Replay.{prefix_length, replay_even}
use Rattle.cc_runs.proofs.Linear.Orders.{timely_now}
use Rattle.cc_row.specs.Names.{Config, Call, Item, Entry, Answer, Chain, Setting, Move}
use Rattle.cc_row.specs.Row.{At, taken_at, before}
use Rattle.cc_row.specs.OneQueue.{own_name}
use Rattle.cc_row.specs.Queues.{AreApart, seen}
use Rattle.cc_row.specs.Runs.{flat}
use Rattle.cc_row.specs.Threads.{RowEvent, RowSetting, moves_of, moves_there, last_of}
use Rattle.cc_row.specs.Bound.{IsCrowded, IsFullRow, taken_before}
use Rattle.cc_row.specs.BoundThreads.{queue_at, accepted_below, HasBound, FindsFull}
use Rattle.cc_row.specs.BoundedRuns.{is_close}
use Rattle.cc_row.specs.CountedOrders.{FollowsCounts}
use Rattle.cc_row.proofs.Exact as exact
use Rattle.cc_row.proofs.Use.{any_prefix, merged_exact}
use Rattle.cc_row.proofs.Merge.{merge, Each, only_merged}
use Rattle.cc_row.proofs.BoundLooks.{Sound, sound_then, near, beyond, behind, there, grown, accepted_up, accepted_stays}
use Rattle.cc_row.proofs.BoundThreads.{elsewhere}
use Rattle.cc_row.proofs.CountedOrders.{few}
use Rattle.cc_row.proofs.Sums.{grows}

-- ---- one queue

-- only a close shuts
shuts_by_close : (cfg : Config) (items : List Item) (shut : Bool) (t all : ℕ) (call : Call) (a : Answer) → Exactly cfg items shut t all call a → shuts a ≡ true → is_close call ≡ true
shuts_by_close cfg items shut t all call a h is = grind arith

grows_or : (a b : Bool) (c d : Bool) → (a ≡ true → c ≡ true) → (b ≡ true → d ≡ true) → (a || (b || false)) ≡ true → (c || (d || false)) ≡ true
grows_or a b c d first second is = grind arith

shut_has_close : (cfg : Config) (l : List Effect) → IsExact cfg l → is_shut (replay cfg.groups l) ≡ true → list_any (λ (e : Entry). is_close e.call) (replay cfg.groups l).sends.calls ≡ true
shut_has_close cfg [] ok is = absurd (cc (sym is))
shut_has_close cfg (x ∷ l) ok is = by (shut_has_close cfg l ok.0) x.chain x.entry x.answer ok.3 is
  where
    by : (is_shut (replay cfg.groups l) ≡ true → list_any (λ (e : Entry). is_close e.call) (replay cfg.groups l).sends.calls ≡ true) → (c : Chain) (e : Entry) (a : Answer) → AnswersAfter cfg (replay cfg.groups l) c e.call a
        → is_shut (noted c (replay cfg.groups l) (Some e) (Some a)) ≡ true → list_any (λ (e : Entry). is_close e.call) (noted c (replay cfg.groups l) (Some e) (Some a)).sends.calls ≡ true
    by before (Chain.Take g) e a fits is = before is
    by before Chain.Send e a fits is =
        any-append (λ (e : Entry). is_close e.call) (replay cfg.groups l).sends.calls (e ∷ [])
        ∙ grows_or (is_shut (replay cfg.groups l)) (shuts a) (list_any (λ (e : Entry). is_close e.call) (replay cfg.groups l).sends.calls) (is_close e.call) before
        (shuts_by_close cfg (accepted (replay cfg.groups l)) (is_shut (replay cfg.groups l)) 0 _ e.call a fits) (sym (any-append shuts (replay cfg.groups l).sends.answers (a ∷ [])) ∙ is)

-- the order of a queue that is on time has accepted what is accepted
accepted_most : (n : ℕ) (h : Record) (l : List Effect) → IsOnTime h (replay n l) → length (accepted h) ≤ length (accepted (replay n l))
accepted_most n h l t =
    let p = t.calls Chain.Send in
    let q = t.answers Chain.Send in
    grind (arith, few (replay n l).sends.calls p.0 h.sends.answers q.0 (omega (arith, (replay_even n l).0, prefix_length h.sends.answers (replay n l).sends.answers q)), p.1, q.1)

follows_most : (c : Setting) (moves : List Move) (l : List (List Effect)) → FollowsCounts c moves l → (g : ℕ) → g < c.config.groups → length (handed (replay c.config.groups (in_order l)) g) ≤ counted_for (reached c moves) g
follows_most c [] [] f g inside = omega (arith, exact.none_handed (λ (q : ℕ). c.config) c.config.groups g)
follows_most c moves l f g inside = grind arith

-- ---- the counts that a look finds

module _ (r : RowSetting) (count bound : ℕ) (has : HasBound r count bound) where
  module _ (between seen : List RowEvent) (s : Sound r (between ++ seen)) (f : FindsFull r count bound between seen) where
    first : Sound r seen
    first = sound_then r between seen s

    counted_grow : (k : ℕ) → counted_for (queue_at r k seen) f.group ≤ counted_for (queue_at r k (between ++ seen)) f.group
    counted_grow k = (grown r between seen s k).2.taken f.group (there r count bound has seen first f.group f.inside k)

    -- nothing was taken of a later queue
    none_later : (k : ℕ) → f.from < k → counted_for (queue_at r k seen) f.group ≡ 0
    none_later k more = grind (
      arith,
      counted_grow k,
      counted_grow f.from,
      elsewhere r count bound has (between ++ seen) s f.group f.inside k,
      beyond r count bound has (between ++ seen) s f.group f.inside k,
      elsewhere r count bound has seen first f.group f.inside k,
      beyond r count bound has seen first f.group f.inside k,
      behind r count bound has seen first f.group f.inside f.from,
      accepted_stays r count bound has between seen s f.from,
      (near r seen first f.from).taken_least f.group (there r count bound has seen first f.group f.inside f.from),
      (near r seen first f.from).most,
      has.room,
    )

    -- so a part of what was counted at first is no more than the look finds
    module _ (o : List At) (part : (k : ℕ) → taken_at k f.group o ≤ counted_for (queue_at r k seen) f.group) where
      taken_below : (n : ℕ) → taken_before n f.group o ≤ accepted_below r n (between ++ seen)
      taken_below zero = omega arith
      taken_below (suc n) = omega (
        arith,
        taken_below n,
        part n,
        counted_grow n,
        (near r (between ++ seen) s n).taken_most f.group (there r count bound has (between ++ seen) s f.group f.inside n),
      )

      taken_until : (n : ℕ) → taken_before n f.group o ≤ accepted_below r f.from (between ++ seen) + counted_for (queue_at r f.from (between ++ seen)) f.group
      taken_until zero = omega arith
      taken_until (suc n) = grind (
        arith,
        taken_until n,
        taken_below n,
        taken_below (suc n),
        part n,
        counted_grow n,
        none_later n,
        accepted_up r count bound has (between ++ seen) s f.group f.inside (suc n) f.from,
      )

  -- ---- the order of a run

  module _ (events : List RowEvent) (s : Sound r events) (f : ℕ → List (List Effect)) (each : Each r.of (moves_of events) f) (ok : (q : ℕ) → IsExact (r.of q).config (in_order (f q)))
      (follows : (q : ℕ) → FollowsCounts (r.of q) (moves_there q events) (f q)) where
    abbrev shown : List At
    shown = map (seen own_name) (flat (merge (moves_of events) f))

    apart : AreApart (λ q. (r.of q).config) own_name
    apart q g h in_g in_h is = is

    state : (q : ℕ) → exact.Same own_name q (r.of q).config.groups (replay (r.of q).config.groups (in_order (f q))) (map (seen own_name) (flat (merge (moves_of events) f)))
    state q = subst (λ (z : List Effect). exact.Same own_name q (r.of q).config.groups (replay (r.of q).config.groups z) (map (seen own_name) (flat (merge (moves_of events) f)))) (only_merged r.of (moves_of events) f each q)
        (exact.same (λ q. (r.of q).config) own_name apart (flat (merge (moves_of events) f)) (merged_exact r.of (moves_of events) f each ok) q)

    on : (q : ℕ) → IsOnTime (history_of (r.of q) (moves_there q events)) (replay (r.of q).config.groups (in_order (f q)))
    on q = timely_now (r.of q) (moves_there q events) (f q) (each q)

    before_least : (n : ℕ) → accepted_below r n events ≤ before n (map (seen own_name) (flat (merge (moves_of events) f)))
    before_least zero = omega arith
    before_least (suc n) = omega (
      arith,
      before_least n,
      accepted_most (r.of n).config.groups (history_of (r.of n) (moves_there n events)) (in_order (f n)) (on n),
      ap length (state n).items,
    )

    before_up : (n m : ℕ) → n ≤ m → before n (map (seen own_name) (flat (merge (moves_of events) f))) ≤ before m (map (seen own_name) (flat (merge (moves_of events) f)))
    before_up = grows (λ k. before k (map (seen own_name) (flat (merge (moves_of events) f)))) (λ k. omega arith)

    taken_few : (g : ℕ) → g < count → (q : ℕ) → taken_at q g (map (seen own_name) (flat (merge (moves_of events) f))) ≤ counted_for (queue_at r q events) g
    taken_few g inside q = omega (
      arith,
      follows_most (r.of q) (moves_there q events) (f q) (follows q) g (there r count bound has events s g inside q),
      (state q).taken g (there r count bound has events s g inside q),
    )

    pub is_crowded : (between : List RowEvent) → Sound r (between ++ events) → FindsFull r count bound between events → (last : ℕ) → last_of events ≤ last → IsCrowded count bound last (map (seen own_name) (flat (merge (moves_of events) f)))
    is_crowded between later finds last up = record {
      group = finds.group;
      inside = finds.inside;
      waits = omega (
        arith,
        finds.finds,
        taken_until between events later finds (map (seen own_name) (flat (merge (moves_of events) f))) (taken_few finds.group finds.inside) (suc last),
        (near r events s finds.queue).most,
        before_least (suc finds.queue),
        before_up (suc finds.queue) (suc last) (omega (arith, up, finds.there)),
      );
    }

    pub is_full : (between : List RowEvent) → Sound r (between ++ events) → FindsFull r count bound between events → (last : ℕ) → last_of events ≤ last
        → list_any (λ (e : Entry). is_close e.call) (queue_at r last events).history.sends.calls ≡ false → IsFullRow count bound last (map (seen own_name) (flat (merge (moves_of events) f)))
    is_full between later finds last up none =
        let crowd : IsCrowded count bound last (map (seen own_name) (flat (merge (moves_of events) f))) = is_crowded between later finds last up in
        record {
          group = crowd.group;
          inside = crowd.inside;
          waits = crowd.waits;
          open_still = sym (state last).shut ∙ is_open (is_shut (replay (r.of last).config.groups (in_order (f last)))) refl;
        }
      where
        is_open : (b : Bool) → is_shut (replay (r.of last).config.groups (in_order (f last))) ≡ b → is_shut (replay (r.of last).config.groups (in_order (f last))) ≡ false
        is_open false is = is
        is_open true is = absurd (cc (
            sym (any_prefix (λ (e : Entry). is_close e.call) _ _ ((on last).calls Chain.Send) (shut_has_close (r.of last).config (in_order (f last)) (ok last) is)) ∙ none))
