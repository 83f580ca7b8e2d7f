use Rattle.std.proofs.Common.{rules}
use Rattle.std.proofs.lemmas.List.Sorted.{answers_always, IsNonDecreasingBy-from_sort_by_key, IsPermutation-map, ties_still_rise}
use Rattle.cc_audit.proofs.Referred.{referred_senders, referred_rise}
use Rattle.cc_audit.proofs.sends.by_sender.Goals as goal

pub returns-clause-senders : goal.returns-clause-senders
returns-clause-senders c = referred_senders _ (IsNonDecreasingBy-from_sort_by_key (λ s. s.now.sender) _ c.in_ok-sort_by_key.ensures.sorted (λ a r q k. search rules))

pub returns-clause-places : goal.returns-clause-places
returns-clause-places c = referred_rise _ (ties_still_rise (λ s. s.now.place) (λ s. s.now.sender) _ _ c.requires (c.in_ok-sort_by_key.ensures.stable (λ s. s.now.sender) (answers_always _ _ _ (λ f a r g h. search rules))))

pub returns-clause-same : goal.returns-clause-same
returns-clause-same c = IsPermutation-map (λ s. s.now) _ _ c.in_ok-sort_by_key.ensures.permutation
