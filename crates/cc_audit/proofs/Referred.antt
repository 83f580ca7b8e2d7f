-- Send receipts by reference: what the lists of the receipts themselves show.
use Rattle.std.proofs.Common.{◌≡◌, ℕ, ◌+◌, ◌-◌, ◌<◌, ◌≤◌, List, [], ◌∷◌, length, Option, Some, Ok, Err, get_or, sym, ap, ◌∙◌, subst, arith}
use Rattle.std.specs.Borrow.{Bor}
use Rattle.std.specs.Ordering.{nat_cmp}
use Rattle.std.specs.List.Sorted.{IsBinarySearchResult, IsNonDecreasingBy, IsSortedByKey}
use Rattle.std.proofs.lemmas.Cmp.{ranked, nat_cmp_total}
use Rattle.std.proofs.lemmas.List.{length-map, get_or-map}
use Rattle.std.proofs.lemmas.List.Sorted.{searchable_from_sorted}
use Rattle.cc_audit.specs.Names.{Item, SendReceipt}
use Rattle.cc_audit.specs.Least.{RisesInSenders, referred, sooner_of}
use Rattle.cc_audit.specs.Verdict.{Differs, DoubleAccept}
use Rattle.cc_audit.proofs.Sought.{AlteredBy, hit_altered, hit_same}
use Rattle.cc_audit.proofs.Turns.{Walked, OutOfTurn, walked_on, walked_into}

read : (rs : List (Bor SendReceipt)) (i : ℕ) (e : Bor SendReceipt) (d : SendReceipt) → i < length rs → get_or (referred rs) i d ≡ (get_or rs i e).now
read rs i e d l = get_or-map (λ (r : Bor SendReceipt). r.now) rs i e d l

pub as_many : (rs : List (Bor SendReceipt)) → length (referred rs) ≡ length rs
as_many rs = length-map rs (λ (r : Bor SendReceipt). r.now)

-- ---- in the order of their places

found_at : (rs : List (Bor SendReceipt)) (p i : ℕ) (e : Bor SendReceipt) → i < length rs → IsBinarySearchResult (λ r. nat_cmp r.now.place p) rs (Ok i) → IsBinarySearchResult (λ s. nat_cmp s.place p) (referred rs) (Ok i)
found_at rs p i e l found = λ d. rw (read rs i e d l) (found e)

pub referred_altered : (rs : List (Bor SendReceipt)) (x : Item) (i : ℕ) (e : Bor SendReceipt) → i < length rs → IsBinarySearchResult (λ r. nat_cmp r.now.place x.place) rs (Ok i) → Differs (get_or rs i e).now x → AlteredBy (referred rs) x
referred_altered rs x i e l found differ =
    hit_altered (referred rs) x i e.now (omega (arith, l, as_many rs)) (found_at rs x.place i e l found) (subst (λ (s : SendReceipt). Differs s x) (sym (read rs i e e.now l)) differ)

pub referred_same : (rs : List (Bor SendReceipt)) (x : Item) (i : ℕ) (e : Bor SendReceipt) → i < length rs → IsBinarySearchResult (λ r. nat_cmp r.now.place x.place) rs (Ok i) → (Differs (get_or rs i e).now x → ⊥) → AlteredBy (referred rs) x → DoubleAccept (referred rs) x.place
referred_same rs x i e l found same =
    hit_same (referred rs) x i e.now (omega (arith, l, as_many rs)) (found_at rs x.place i e l found) (λ differ. same (subst (λ (s : SendReceipt). Differs s x) (read rs i e e.now l) differ))

-- no receipt names the place
pub referred_miss : (rs : List (Bor SendReceipt)) (x : Item) (i : ℕ) → IsSortedByKey (λ r. r.now.place) nat_cmp rs → IsBinarySearchResult (λ r. nat_cmp r.now.place x.place) rs (Err i) → AlteredBy (referred rs) x → ⊥
referred_miss [] x i up found other = absurd (omega (arith, other.2))
referred_miss (r ∷ rs) x i up found other =
    let all = r ∷ rs in
    let l : other.0 < length all = omega (arith, other.2, as_many all) in
    let round = found (searchable_from_sorted nat_cmp_total (λ (r : Bor SendReceipt). r.now.place) all x.place up) in
    let names : (get_or all other.0 r).now.place ≡ x.place = ap (λ (s : SendReceipt). s.place) (sym (read all other.0 r other.1 l) ∙ other.3) ∙ other.4.0 in
    grind (arith, ranked, x.place, round.0 other.0 r, round.1 other.0 r)

-- ---- the receipts of each sender together

pub referred_senders : (rs : List (Bor SendReceipt)) → IsNonDecreasingBy (λ r. r.now.sender) rs → IsNonDecreasingBy (λ s. s.sender) (referred rs)
referred_senders [] up i j d le l = absurd (omega (arith, l))
referred_senders (r ∷ rs) up i j d le l =
    let all = r ∷ rs in
    let m : j < length all = omega (arith, l, as_many all) in
    rw (read all i r d (omega arith), read all j r d m) (up i j r le m)

pub referred_rise : (rs : List (Bor SendReceipt)) → ((k : ℕ) (d : Bor SendReceipt) → k + 1 < length rs → (get_or rs k d).now.sender ≡ (get_or rs (k + 1) d).now.sender → (get_or rs k d).now.place ≤ (get_or rs (k + 1) d).now.place) → RisesInSenders (referred rs)
referred_rise [] up k d l same = absurd (omega (arith, l))
referred_rise (r ∷ rs) up k d l same =
    let all = r ∷ rs in
    let m : k + 1 < length all = omega (arith, l, as_many all) in
    let here = read all k r d (omega arith) in
    let next = read all (k + 1) r d m in
    omega (arith, ap (λ (s : SendReceipt). s.place) here, ap (λ (s : SendReceipt). s.place) next, up k r m (sym (ap (λ (s : SendReceipt). s.sender) here) ∙ same ∙ ap (λ (s : SendReceipt). s.sender) next))

-- the neighbours at i, read by reference
module _ (rs : List (Bor SendReceipt)) (i : ℕ) (first : Option ℕ) (d e : Bor SendReceipt) (pos : 0 < i) (l : i < length rs) where
  out_at : OutOfTurn (get_or rs (i - 1) d).now (get_or rs i e).now → OutOfTurn (get_or (referred rs) (i - 1) d.now) (get_or (referred rs) i e.now)
  out_at out = rw (read rs (i - 1) d d.now (omega arith), read rs i e e.now l) out

  out_of : OutOfTurn (get_or (referred rs) (i - 1) d.now) (get_or (referred rs) i e.now) → OutOfTurn (get_or rs (i - 1) d).now (get_or rs i e).now
  out_of out = rw (sym (read rs (i - 1) d d.now (omega arith)), sym (read rs i e e.now l)) out

  pub referred_on : Walked (referred rs) i first → (OutOfTurn (get_or rs (i - 1) d).now (get_or rs i e).now → ⊥) → Walked (referred rs) (i + 1) first
  referred_on walked fine = walked_on (referred rs) i first d.now e.now pos (omega (arith, l, as_many rs)) walked (λ out. fine (out_of out))

  pub referred_into : (g : Bor SendReceipt) → RisesInSenders (referred rs) → Walked (referred rs) i first → OutOfTurn (get_or rs (i - 1) d).now (get_or rs i e).now → Walked (referred rs) (i + 1) (sooner_of first (Some (get_or rs i g).now.place))
  referred_into g up walked out =
      subst (λ (s : SendReceipt). Walked (referred rs) (i + 1) (sooner_of first (Some s.place))) (read rs i g g.now l)
      (walked_into (referred rs) i first d.now e.now g.now pos (omega (arith, l, as_many rs)) up walked (out_at out))
