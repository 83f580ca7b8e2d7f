-- The log of a row: what stays as it grows.
use Rattle.std.proofs.Common.{◌≡◌, ℕ, zero, suc, ◌+◌, ◌<◌, ◌≤◌, List, [], ◌∷◌, ◌++◌, length, get_or, refl, ap}
use Rattle.std.proofs.Common.{arith}
use Rattle.cc_steps.specs.Topic.{Topic}
use Rattle.cc_switch.specs.Links.{topic_of, total_of, IsShutBy, queue_at, base_at, AreShut}
use Rattle.cc_switch.specs.declared.links.Link.{Link}

pub queue_longer : (first : Topic) (links more : List Link) (k : ℕ) → k ≤ length links
    → queue_at first (links ++ more) k ≡ queue_at first links k
queue_longer first links more zero few = refl
queue_longer first [] more (suc k) few = absurd (omega (arith, few))
queue_longer first (l ∷ links) more (suc k) few = queue_longer (topic_of l.next) links more k (omega (arith, few))

pub base_longer : (links more : List Link) (k : ℕ) → k ≤ length links → base_at (links ++ more) k ≡ base_at links k
base_longer links more zero few = refl
base_longer [] more (suc k) few = absurd (omega (arith, few))
base_longer (l ∷ links) more (suc k) few = ap (λ (n : ℕ). total_of l.shut + n)
    (base_longer links more k (omega (arith, few)))

pub queue_next : (first : Topic) (links : List Link) (l : Link)
    → queue_at first (links ++ l ∷ []) (suc (length links)) ≡ topic_of l.next
queue_next first [] l = refl
queue_next first (x ∷ links) l = queue_next (topic_of x.next) links l

pub base_next : (links : List Link) (l : Link)
    → base_at (links ++ l ∷ []) (suc (length links)) ≡ base_at links (length links) + total_of l.shut
base_next [] l = omega arith
base_next (x ∷ links) l = let rest = base_next links l in omega (arith, rest)

pub shut_next : (first : Topic) (links : List Link) (l : Link) → AreShut first links
    → IsShutBy (queue_at first links (length links)) l.shut → AreShut first (links ++ l ∷ [])
shut_next first [] l are is = (is, tt)
shut_next first (x ∷ links) l are is = (are.0, shut_next (topic_of x.next) links l are.1 is)

pub shut_there : (first : Topic) (links : List Link) (k : ℕ) (d : Link) → AreShut first links → k < length links
    → IsShutBy (queue_at first links k) (get_or links k d).shut
shut_there first [] k d are few = absurd (omega (arith, few))
shut_there first (l ∷ links) zero d are few = are.0
shut_there first (l ∷ links) (suc k) d are few = shut_there (topic_of l.next) links k d are.1 (omega (arith, few))

pub base_after : (links : List Link) (k : ℕ) (d : Link) → k < length links
    → base_at links (suc k) ≡ base_at links k + total_of (get_or links k d).shut
base_after [] k d few = absurd (omega (arith, few))
base_after (l ∷ links) zero d few = omega arith
base_after (l ∷ links) (suc k) d few = let rest = base_after links k d (omega (arith, few)) in omega (arith, rest)

pub base_rises : (links : List Link) (j k : ℕ) → j ≤ k → k ≤ length links → base_at links j ≤ base_at links k
base_rises links zero k below few = omega arith
base_rises [] (suc j) k below few = absurd (omega (arith, below, few))
base_rises (l ∷ links) (suc j) zero below few = absurd (omega (arith, below))
base_rises (l ∷ links) (suc j) (suc k) below few = let rest = base_rises links j k (omega (arith, below))
    (omega (arith, few)) in omega (arith, rest)
