use Rattle.std.proofs.lemmas.Grind.{common_steps}
use Rattle.std.proofs.Common.{ℕ, ◌+◌, ◌-◌, ◌≤◌, length, refl, sym, subst, arith}
use Rattle.std.proofs.lemmas.Option.{slice_get-get_or}
use Rattle.cc_judge.specs.Splits.{IsSplit, SplitCall, spend}
use Rattle.cc_judge.proofs.NoOrder.{no_order}
use Rattle.cc_judge.proofs.Cuts.{finer_below, finer_differ}
use Rattle.cc_judge.proofs.Splits.{split_finer, split_written}
use Rattle.cc_judge.proofs.Trials.{TriedTo, all_spent, before_now, clean_so, each_long, explored_at, explored_on, more_spent, no_order_left, room_now, spent_once, touch_now, tried_before, tried_more}
use Rattle.cc_judge.proofs.exploring.+explore.Goals as goal
use Rattle.cc_judge.proofs.exploring.+explore.Goals.{by_cuts-then-may_split+then-is_first+else-left-calls+in_ok-found+in-NoOrder, by_cuts-else-may_split, by_cuts-else-may_split-via-then-may_split+else-is_first, by_cuts-else-may_split-via-else-may_split}

pub by_cut-explore-requires : goal.by_cut-explore-requires
by_cut-explore-requires t c =
    let rules = c.args.rules.now in
    let calls = c.args.calls.now in
    let cut = c.as_slice-cut.result.now in
    let rest = c.in_ok-rest.rest in
    let time = c.args.time in
    let tie = c.args.tie in
    let may = c.requires.may in
    let at = c.requires.tie in
    let k = subst (IsSplit tie time calls) (sym c.as_slice-cut.ensures.value) c.in_ok-cut.ensures in
    let f = split_finer calls cut tie time may k in
    let fewer = c.in_ok-rest.ensures.fewer at.0 tie at.1 (before_now rules rest calls cut tie time at c.requires.touch may k) in
    let b = c.requires.begins in
    let room = (c.requires.room b.0 b.1 b.2).0 in
    let begins = b.3 in
    let measure = c.decreases in (
      omega (arith, measure, fewer),
      (
        split_written calls cut tie time may k (c.requires.touch at.0 tie at.1).apart c.requires.written,
        (
          finer_differ calls cut f c.requires.differ,
          (
            finer_below calls cut f c.args.items c.requires.below,
            (
              touch_now rules rest calls cut tie time at c.requires.touch may k c.in_ok-rest.ensures.left c.in_ok-rest.ensures.still,
              room_now rules rest calls cut tie time at c.requires.touch may k _ _ fewer (omega (arith, room, begins)) c.requires.room,
            ),
          ),
        ),
      ),
    )

pub by_cut-returns-clause-explored : goal.by_cut-returns-clause-explored
by_cut-returns-clause-explored t c =
    let k = subst (IsSplit c.args.tie c.args.time c.args.calls.now) (sym c.as_slice-cut.ensures.value) c.in_ok-cut.ensures in
    explored_at c.args.rules.now c.in_ok-rest.rest c.args.calls.now c.as_slice-cut.result.now c.args.tie c.args.time c.requires.tie c.requires.touch c.requires.may k c.in_ok-rest.ensures.left c.in_ok-found.found c.in_ok-found.ensures.explored

pub by_cut-returns-clause-spent : goal.by_cut-returns-clause-spent
by_cut-returns-clause-spent t c = λ fewer long.
    let rules = c.args.rules.now in
    let calls = c.args.calls.now in
    let cut = c.as_slice-cut.result.now in
    let rest = c.in_ok-rest.rest in
    let at = c.requires.tie in
    let k = subst (IsSplit c.args.tie c.args.time calls) (sym c.as_slice-cut.ensures.value) c.in_ok-cut.ensures in
    let less = c.in_ok-rest.ensures.fewer at.0 c.args.tie at.1 (before_now rules rest calls cut c.args.tie c.args.time at c.requires.touch c.requires.may k) in
    let n = each_long (SplitCall c.args.tie c.args.time) calls cut k in
    spent_once (length calls) (length rest.ties.items) fewer c.args.left.now c.explore.new.left (omega (arith, less, long)) c.requires.enough (subst (λ (n : ℕ). c.args.left.now - length calls ≤ c.explore.new.left + spend n (length rest.ties.items)) n c.in_ok-found.ensures.spent)

pub by_cut-returns-clause-stuck : goal.by_cut-returns-clause-stuck
by_cut-returns-clause-stuck t c = λ stuck.
    let k = subst (IsSplit c.args.tie c.args.time c.args.calls.now) (sym c.as_slice-cut.ensures.value) c.in_ok-cut.ensures in
    let n = each_long (SplitCall c.args.tie c.args.time) c.args.calls.now c.as_slice-cut.result.now k in
    let less = c.in_ok-found.ensures.stuck stuck in
    omega (arith, n, less)

pub by_cuts-returns-then-left-calls-clause-spent : goal.by_cuts-returns-then-left-calls-clause-spent
by_cuts-returns-then-left-calls-clause-spent t c = let end = c.loop-place-test.true in all_spent c.args.rules.now c.args.calls.now c.args.tie c.loop-place.place c.args.left.now c.loop-place.left c.loop-place.invariant c.requires.tie (omega (arith, end))

pub by_cuts-by_cut-requires : goal.by_cuts-by_cut-requires
by_cuts-by_cut-requires t c =
    let measure = c.decreases in
    let place = c.loop-place.place in
    let is = slice_get-get_or c.args.calls.now place _ c.loop-place-test.true in
    (omega (arith, measure), (c.requires.written, (c.requires.differ, (c.requires.below, (c.requires.touch, (c.requires.room, (c.requires.tie, ((place, _, is, refl), (c.if-may_split.ensures.may refl, c.if-left-calls.false)))))))))

pub by_cuts-returns-in_default : goal.by_cuts-returns-in_default
by_cuts-returns-in_default t c = record {
  explored = explored_on c.args.rules.now c.args.calls.now c.args.tie _ c.in_ok-found.found c.in_default.not-NoOrder c.in_ok-found.ensures.explored;
  spent = more_spent c.args.rules.now c.args.calls.now c.args.tie c.loop-place.place c.args.left.now c.loop-place.left c.loop-place.invariant c.by_cut.new.left c.requires.tie c.loop-place-test.true c.in_ok-found.ensures.spent;
  stuck = c.in_ok-found.ensures.stuck;
}

pub by_cuts-loop-place-preserved : goal.by_cuts-loop-place-preserved
by_cuts-loop-place-preserved t c =
    let rules = c.args.rules.now in
    let calls = c.args.calls.now in
    let tie = c.args.tie in
    let place = c.loop-place.place in
    let so_far = c.loop-place.invariant in
    let is = slice_get-get_or calls place _ c.loop-place-test.true in
    elim c.if-may_split.branch [
      | by_cuts-then-may_split+then-is_first+else-left-calls+in_ok-found+in-NoOrder w ↦
          subst (TriedTo rules calls tie (place + 1) c.args.left.now) (sym w.left-is)
          (tried_more rules calls tie place c.args.left.now c.loop-place.left so_far _ w.by_cut.new.left is (λ may. rw w.in-NoOrder.is at w.in_ok-found.ensures.explored) w.in_ok-found.ensures.spent)
      | by_cuts-else-may_split w ↦
          subst (TriedTo rules calls tie (place + 1) c.args.left.now) (sym w.left-is)
          (tried_more rules calls tie place c.args.left.now c.loop-place.left so_far _ c.loop-place.left is (λ may. elim w.else-may_split.branch [
            | by_cuts-else-may_split-via-then-may_split+else-is_first v ↦ tried_before rules calls tie place c.args.left.now c.loop-place.left _ so_far (v.if-is_first.ensures refl) may
            | by_cuts-else-may_split-via-else-may_split v ↦ absurd (v.if-may_split.ensures.others refl may)
          ]) (λ fewer long. omega arith))
    ]

pub by_cuts-returns-clause-explored : goal.by_cuts-returns-clause-explored
by_cuts-returns-clause-explored t c = let end = c.loop-place-test.false in no_order_left c.args.rules.now c.args.calls.now c.args.tie c.loop-place.place c.args.left.now c.loop-place.left c.loop-place.invariant c.requires.tie c.requires.written c.requires.touch (omega (arith, end))

pub explore-returns-in-Some-clause-explored : goal.explore-returns-in-Some-clause-explored
explore-returns-in-Some-clause-explored t c = λ order. no_order c.args.rules.now c.args.calls.now c.in-Some.field-0 c.requires.differ (rw c.in-Some.is at c.in_ok-found_in.ensures.some) order

pub explore-returns-then-is_empty-clause-explored : goal.explore-returns-then-is_empty-clause-explored
explore-returns-then-is_empty-clause-explored t c = clean_so c.args.rules.now c.args.calls.now (grind (arith, common_steps)) c.requires.differ c.requires.written (rw c.in_default.is at c.in_ok-found_in.ensures.none)
