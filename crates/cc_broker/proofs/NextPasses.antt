-- The passes of topics, taken out one after another.
use Rattle.std.proofs.Common.{◌≡◌, ℕ, zero, suc, ◌+◌, List, [], ◌∷◌, drop, slice_get, slice_index_or, Some, None, refl, sym, subst, arith}
use Rattle.std.specs.List.{remove}
use Rattle.std.proofs.lemmas.Option.{none-some, same_Some}
use Rattle.cc_steps.specs.Topic.{Topic}
use Rattle.cc_broker.specs.Opened.{AreItsPasses, AreTheirPasses, Senders, Receivers}

-- if there is a queue with this number, it comes first
from_here : (queues : List Topic) (n : ℕ) (passes : List (Senders × Receivers)) (z : Topic) → slice_get queues n ≡ Some z → AreTheirPasses (drop n queues) passes → AreTheirPasses (z ∷ drop (suc n) queues) passes
from_here [] n passes z e so = absurd (none-some _ e)
from_here (y ∷ ys) zero passes z e so = subst (λ x. AreTheirPasses (x ∷ ys) passes) (same_Some y z e) so
from_here (y ∷ ys) (suc n) passes z e so = from_here ys n passes z e so

-- if there is none, no passes are left
pub none_left : (queues : List Topic) (n : ℕ) (passes : List (Senders × Receivers)) → slice_get queues n ≡ None → AreTheirPasses (drop n queues) passes → passes ≡ []
none_left [] zero [] e so = refl
none_left [] (suc n) [] e so = refl
none_left [] zero (p ∷ ps) e so = absurd so
none_left [] (suc n) (p ∷ ps) e so = absurd so
none_left (y ∷ ys) zero passes e so = absurd (none-some y (sym e))
none_left (y ∷ ys) (suc n) passes e so = none_left ys n passes e so

-- the first passes are those of the first queue
first_passes : (z : Topic) (queues : List Topic) (passes : List (Senders × Receivers)) (p : Senders × Receivers) → p ≡ slice_index_or passes 0 p → AreTheirPasses (z ∷ queues) passes → AreItsPasses z p × AreTheirPasses queues (remove passes 0)
first_passes z queues [] p e so = absurd so
first_passes z queues (q ∷ qs) p e so = (subst (AreItsPasses z) (sym e) so.0, so.1)

pub next_passes : (queues : List Topic) (n : ℕ) (passes : List (Senders × Receivers)) (z : Topic) (p : Senders × Receivers) → slice_get queues n ≡ Some z → AreTheirPasses (drop n queues) passes → p ≡ slice_index_or passes 0 p
    → AreItsPasses z p × AreTheirPasses (drop (n + 1) queues) (remove passes 0)
next_passes queues n passes z p e so first =
    let next : suc n ≡ n + 1 = omega arith in
    rw (← next) (first_passes z (drop (suc n) queues) passes p first (from_here queues n passes z e so))
