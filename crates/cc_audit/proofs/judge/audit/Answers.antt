use Rattle.std.proofs.Common.{sym}
use Rattle.std.proofs.lemmas.List.Sorted.{IsPermutation-trans}
use Rattle.cc_audit.specs.Names.{Verdict}
use Rattle.cc_audit.proofs.Faults.{joined, all_kinds, none_yet}
use Rattle.cc_audit.proofs.Found.{finds_double_accept, finds_double_take, finds_stranger, finds_altered, finds_gap, finds_disorder, finds_overrun}
use Rattle.cc_audit.proofs.judge.audit.Goals as goal

pub returns : goal.returns
returns c =
    let sends = c.args.sends.now in
    let takes = c.args.takes.now in
    let total = c.args.total in
    let sent_same = rw (sym c.as_slice-sent.ensures.value) at c.in_ok-sent_list.ensures.same in
    let taken_same = rw (sym c.as_slice-taken.ensures.value) at c.in_ok-taken_list.ensures.same in
    let placed_same = rw (sym c.as_slice.ensures.value) at c.in_ok-placed.ensures.same in
    let grouped_same = rw (sym c.as_slice-2.ensures.value) at (IsPermutation-trans sends _ _ c.in_ok-placed.ensures.same c.in_ok-grouped.ensures.same) in
    let v1 = joined sends takes total 0 Verdict.Clean _ _ c.or_fault-verdict.ensures (none_yet sends takes total) (finds_double_accept sends takes total _ _ sent_same taken_same _ c.first_double-sent_twice.ensures) in
    let v2 = joined sends takes total 1 _ _ _ c.or_fault-verdict-2.ensures v1 (finds_double_take sends takes total _ _ sent_same taken_same _ c.first_double-taken_twice.ensures) in
    let v3 = joined sends takes total 2 _ _ _ c.or_fault-verdict-3.ensures v2 (finds_stranger sends takes total _ _ sent_same taken_same _ c.first_stranger-stranger.ensures) in
    let v4 = joined sends takes total 3 _ _ _ c.or_fault-verdict-4.ensures v3 (finds_altered sends takes total _ placed_same _ c.first_altered-altered.ensures) in
    let v5 = joined sends takes total 4 _ _ _ c.or_fault-verdict-5.ensures v4 (finds_gap sends takes total _ _ sent_same taken_same _ c.first_gap-gap.ensures) in
    let v6 = joined sends takes total 5 _ _ _ c.or_fault-verdict-6.ensures v5 (finds_disorder sends takes total _ grouped_same _ c.first_disorder-disorder.ensures) in
    all_kinds sends takes total _ (joined sends takes total 6 _ _ _ c.or_fault.ensures v6 (finds_overrun sends takes total _ _ sent_same taken_same _ c.first_overrun-overrun.ensures))
