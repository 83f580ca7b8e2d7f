use Rattle.std.proofs.Common.{ℕ, Ok, rules}
use Rattle.std.proofs.lemmas.Iterator.{YieldsList-from_slice}
use Rattle.std.proofs.lemmas.Iterator.Consumers.{map_from_collect}
use Rattle.std.proofs.lemmas.List.Sorted.{answers_always, IsPermutation-map}
use Rattle.cc_audit.proofs.sends.by_place.Goals as goal

pub returns-clause-order : goal.returns-clause-order
returns-clause-order c = c.in_ok-sort_by_key.ensures.sorted (λ s. s.now.place) (answers_always _ _ _ (λ f a r g h. search rules))

pub returns-clause-same : goal.returns-clause-same
returns-clause-same c =
    rw (map_from_collect {E = ℕ} (Ok c.in_ok-placed.placed) c.in_ok-placed.ensures.ran (YieldsList-from_slice c.args.sends.now c.iter.ensures.rest)) at (IsPermutation-map (λ s. s.now) _ _ c.in_ok-sort_by_key.ensures.permutation)
