use Rattle.std.proofs.Common.{sym, subst, ltb, ltb-true, ltb-false, arith, rules}
use Rattle.std.specs.List.Sorted.{IsNonDecreasingBy}
use Rattle.std.proofs.lemmas.List.Sorted.{IsPartitionPoint-from_clause, IsPartitionedBy-ltb}
use Rattle.cc_judge.specs.Names.{Spell}
use Rattle.cc_judge.proofs.Sweeping.{latest_of_point}
use Rattle.cc_judge.proofs.lists.latest_before.Goals as goal

pub returns : goal.returns
returns c = λ log calls l.
    let xs = c.deref.result.now in
    let same = c.deref.ensures.value in
    let up : IsNonDecreasingBy (λ (x : Spell). x.from) xs = subst (IsNonDecreasingBy (λ (x : Spell). x.from)) (sym same) l.spells.sorted in
    let parted = IsPartitionedBy-ltb (λ (x : Spell). x.from) xs c.args.time up in
    let point = IsPartitionPoint-from_clause (λ (x : Spell). ltb x.from c.args.time) _ _ c.partition_point-number.ensures.partitioned parted (λ a r q k. search rules) in
    latest_of_point log calls c.args.lists.now xs c.partition_point-number.result c.args.time c.latest_in.result same l c.partition_point-number.ensures.bound
    (λ k d from less. let le = ltb-true _ _ (point.0 k d from less) in omega (arith, le))
    (λ k d from less early. let more = ltb-false _ _ (point.1 k d from less) in omega (arith, more, early))
    c.latest_in.ensures
