use Rattle.std.proofs.Common.{ℕ, length, rules}
use Rattle.std.proofs.lemmas.List.Sorted.{IsNonDecreasingBy-from_sort_by_key}
use Rattle.std.proofs.lemmas.Option.{slice_get-get_or}
use Rattle.cc_judge.proofs.Listing.{list_more, list_sorted}
use Rattle.cc_judge.proofs.Parts.{MeetsAt, are_meetings}
use Rattle.cc_judge.proofs.cutting.meetings.Goals as goal

pub returns-in_default-clause-none : goal.returns-in_default-clause-none
returns-in_default-clause-none c = λ meet.
    let m = meet c.loop-place.place _ (slice_get-get_or c.args.ties.now c.loop-place.place _ c.loop-place-test.true) in
    m.0 (c.in_default.ensures.none m.1 m.2)

pub loop-place-preserved : goal.loop-place-preserved
loop-place-preserved c =
    let at = c.loop-place.place in
    rw c.in_ok-push.ensures.items (list_more (MeetsAt c.args.calls.now c.args.ties.now) c.loop-place.list.items at c.in-Some.time (_, slice_get-get_or c.args.ties.now at _ c.loop-place-test.true, c.in-Some.ensures.apart, c.in-Some.ensures.some) c.loop-place.invariant)

pub returns-clause-some : goal.returns-clause-some
returns-clause-some c =
    are_meetings c.args.calls.now c.args.ties.now _
    (IsNonDecreasingBy-from_sort_by_key (λ (x : ℕ × ℕ). x.0) _ c.in_ok-sort_by_key.ensures.sorted (λ a r q k. search rules))
    (list_sorted (MeetsAt c.args.calls.now c.args.ties.now) c.loop-place.list.items _ c.loop-place.place (length c.args.ties.now) c.loop-place-test.false c.in_ok-sort_by_key.ensures.permutation c.loop-place.invariant)
