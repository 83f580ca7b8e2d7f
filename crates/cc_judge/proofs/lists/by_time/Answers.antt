use Rattle.std.proofs.Common.{ℕ, length, rules}
use Rattle.std.proofs.lemmas.List.Sorted.{IsNonDecreasingBy-from_sort_by_key}
use Rattle.cc_judge.specs.Counts.{Since}
use Rattle.cc_judge.specs.Room.{IsKnown}
use Rattle.cc_judge.proofs.Listing.{list_skip, list_more, list_sorted}
use Rattle.cc_judge.proofs.Knowing.{has_times}
use Rattle.cc_judge.proofs.lists.by_time.Goals as goal
use Rattle.cc_judge.proofs.lists.by_time.Goals.{in-Some+in_ok-push, in_default}

pub loop-place-preserved : goal.loop-place-preserved
loop-place-preserved c = λ log at.
    let known = Since (IsKnown log c.args.calls.now c.args.what) in
    elim c.match-since.branch [
      | in-Some+in_ok-push w ↦ rw w.list-is (rw w.in_ok-push.ensures.items (list_more known c.loop-place.list.items c.loop-place.place w.in-Some.time (w.in-Some.ensures log at) (c.loop-place.invariant log at)))
      | in_default w ↦ rw w.list-is (list_skip known c.loop-place.list.items c.loop-place.place (w.in_default.ensures log at) (c.loop-place.invariant log at))
    ]

pub returns : goal.returns
returns c = λ log at.
    let sorted = IsNonDecreasingBy-from_sort_by_key (λ (x : ℕ × ℕ). x.0) _ c.in_ok-sort_by_key.ensures.sorted (λ a r q k. search rules) in
    has_times log c.args.calls.now c.args.what _ (list_sorted (Since (IsKnown log c.args.calls.now c.args.what)) c.loop-place.list.items _ c.loop-place.place (length c.args.calls.now) c.loop-place-test.false c.in_ok-sort_by_key.ensures.permutation (c.loop-place.invariant log at)) sorted
