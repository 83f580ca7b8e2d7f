use Rattle.std.proofs.Common.{ℕ, suc, List, sym, subst, leb, leb-true, leb-false, arith, rules}
use Rattle.std.proofs.lemmas.List.Sorted.{IsPartitionPoint-from_clause, IsPartitionedBy-leb}
use Rattle.cc_judge.specs.Counts.{AreFirst}
use Rattle.cc_judge.specs.Counts.{AreSorted}
use Rattle.cc_judge.proofs.Sweeping.{first_of_point}
use Rattle.cc_judge.proofs.lists.upto.Goals as goal

pub returns : goal.returns
returns c sorted =
    let xs = c.deref.result.now in
    let same = c.deref.ensures.value in
    let up : AreSorted xs = subst AreSorted (sym same) sorted in
    let parted = IsPartitionedBy-leb (λ (x : ℕ × ℕ). x.0) xs c.args.time up in
    let point = IsPartitionPoint-from_clause (λ (x : ℕ × ℕ). leb x.0 c.args.time) _ _ c.partition_point.ensures.partitioned parted (λ a r q k. search rules) in
    subst (λ (ys : List (ℕ × ℕ)). AreFirst ys c.partition_point.result (suc c.args.time)) same (first_of_point xs c.partition_point.result (suc c.args.time) c.partition_point.ensures.bound
    (λ k d from less. let le = leb-true _ _ (point.0 k d from less) in omega (arith, le))
    (λ k d from less early. let more = leb-false _ _ (point.1 k d from less) in omega (arith, more, early)))
