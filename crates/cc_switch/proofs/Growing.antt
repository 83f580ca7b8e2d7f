-- The queues of a row after one more, and after one less.
use Rattle.std.proofs.Common.{◌≡◌, ℕ, zero, suc, ◌+◌, ◌-◌, ◌<◌, ◌≤◌, List, [], ◌∷◌, ◌++◌, length, get_or, refl, sym, ap}
use Rattle.std.proofs.Common.{◌∙◌, subst, arith, length-append, length-set, inl, inr, set, Bool, true, false}
use Rattle.std.proofs.Common.{get_or-set_same, get_or-set_other}
use Rattle.std.proofs.lemmas.Bool.{cases_lt, cases_eq}
use Rattle.std.proofs.lemmas.List.{set_past}
use lib.Seq.{set-get_or}
use mathlib.Core.List.{IsPrefix}
use Rattle.cc_steps.specs.Noted.{Noted, noted_by}
use Rattle.cc_steps.specs.Walk.{Walk, IsOf}
use Rattle.cc_steps.specs.Topic.{Topic}
use Rattle.cc_switch.specs.Begin.{Begin}
use Rattle.cc_switch.specs.Links.{topic_of, total_of, IsShutBy, IsEndedBy, queue_at, base_at, AreShut, AreEnded}
use Rattle.cc_switch.specs.Links.{done_by, added}
use Rattle.cc_switch.specs.Logs.{prefix_self}
use Rattle.cc_switch.specs.Stages.{IsStageAt, KeepsStages, IsSame, with_ended}
use Rattle.cc_switch.specs.declared.links.Link.{Link}
use Rattle.cc_switch.specs.declared.stages.Stages.{Stages}
use Rattle.cc_switch.proofs.LinkFacts.{queue_longer, base_longer, queue_next, base_next, shut_next}

pub ended_longer : (g : ℕ) (first : Topic) (links more : List Link) (ended : List Noted) → AreEnded g first links ended
    → AreEnded g first (links ++ more) ended
ended_longer g first links more [] are = tt
ended_longer g first [] more (n ∷ ended) are = absurd are
ended_longer g first (l ∷ links) more (n ∷ ended) are =
    (are.0, are.1, ended_longer g (topic_of l.next) links more ended are.2)

front : (xs ys : List Begin) (k : ℕ) (d : Begin) → k < length xs → get_or (xs ++ ys) k d ≡ get_or xs k d
front [] ys k d few = absurd (omega (arith, few))
front (x ∷ xs) ys zero d few = refl
front (x ∷ xs) ys (suc k) d few = front xs ys k d (omega (arith, few))

last_is : (xs : List Begin) (x d : Begin) → get_or (xs ++ x ∷ []) (length xs) d ≡ x
last_is [] x d = refl
last_is (y ∷ xs) x d = last_is xs x d

stage_longer : (first : Topic) (links more : List Link) (number : ℕ) (s : Begin) → number ≤ length links
    → IsStageAt first links number s → IsStageAt first (links ++ more) number s
stage_longer first links more number s few is =
    record {
      queue = is.queue ∙ sym (queue_longer first links more number few);
      base = is.base ∙ sym (base_longer links more number few);
    }

module _ (first : Topic) (links : List Link) (older : List Begin) (last : Begin) (l : Link)
    (few : length older ≤ length links)
    (are : (k : ℕ) (d : Begin) → k < length older
    → IsStageAt first links (length links - length older + k) (get_or older k d))
    (last_at : IsStageAt first links (length links) last) where
  older_on : (k : ℕ) (d : Begin) → k < length (older ++ last ∷ [])
      → IsStageAt first (links ++ l ∷ []) (length (links ++ l ∷ []) - length (older ++ last ∷ []) + k)
      (get_or (older ++ last ∷ []) k d)
  older_on k d below = let n = length-append links (l ∷ []) in let m = length-append older (last ∷ []) in
      elim (cases_lt k (length older)) [
        | inl inside ↦ subst (λ (z : ℕ × Begin). IsStageAt first (links ++ l ∷ []) z.0 z.1)
            (λ i. (same_number n m i, sym (front older (last ∷ []) k d inside) i))
            (stage_longer first links (l ∷ []) (length links - length older + k) (get_or older k d)
            (omega (arith, few, inside)) (are k d inside))
        | inr past ↦ let is : k ≡ length older = omega (arith, past, below, m) in
            subst (λ (z : ℕ × Begin). IsStageAt first (links ++ l ∷ []) z.0 z.1)
            (λ i. (
              at_last n m is i,
              (sym (last_is older last d) ∙ ap (λ (j : ℕ). get_or (older ++ last ∷ []) j d) (sym is)) i,
            ))
            (stage_longer first links (l ∷ []) (length links) last (omega arith) last_at)
      ]
    where
      same_number : length (links ++ l ∷ []) ≡ length links + 1 → length (older ++ last ∷ []) ≡ length older + 1
          → length links - length older + k ≡ length (links ++ l ∷ []) - length (older ++ last ∷ []) + k
      same_number n m = omega (arith, n, m, few)

      at_last : length (links ++ l ∷ []) ≡ length links + 1 → length (older ++ last ∷ []) ≡ length older + 1
          → k ≡ length older → length links ≡ length (links ++ l ∷ []) - length (older ++ last ∷ []) + k
      at_last n m is = omega (arith, n, m, few, is)

pub appended : (first : Topic) (t u : Stages) (l : Link) → IsShutBy t.last.queue l.shut
    → u.links.items ≡ t.links.items ++ l ∷ [] → u.older.items ≡ t.older.items ++ t.last ∷ []
    → u.ended.items ≡ t.ended.items
    → u.last.queue ≡ topic_of l.next → u.last.base ≡ t.last.base + total_of l.shut → KeepsStages first t
    → KeepsStages first u
appended first t u l is links older ended queue base k =
    let long = length-append t.links.items (l ∷ []) in let more = length-append t.older.items (t.last ∷ []) in
    let few = k.few in
    let n : length u.links.items ≡ suc (length t.links.items) = ap length links ∙ omega (arith, long) in
    record {
      shut = subst (AreShut first) (sym links)
          (shut_next first t.links.items l k.shut (subst (λ (z : Topic). IsShutBy z l.shut) k.last.queue is));
      ended = λ g. subst (λ (z : List Link × List (List Noted)). AreEnded g first z.0 (done_by z.1 g))
          (λ i. (sym links i, sym ended i))
          (ended_longer g first t.links.items (l ∷ []) (done_by t.ended.items g) (k.ended g));
      few = subst (λ (z : List Link × List Begin). length z.1 ≤ length z.0) (λ i. (sym links i, sym older i))
          (omega (arith, long, more, few));
      kept = λ g below. let kept = k.kept g (subst (λ (z : List (List Noted)). g < length z) ended below) in
          let e = ap (λ (z : List (List Noted)). length (done_by z g)) ended in let m = ap length older in
          omega (arith, n, kept, e, m, more);
      older = subst (λ (z : List Link × List Begin). (j : ℕ) (d : Begin) → j < length z.1
          → IsStageAt first z.0 (length z.0 - length z.1 + j) (get_or z.1 j d)) (λ i. (sym links i, sym older i))
          (older_on first t.links.items t.older.items t.last l k.few k.older k.last);
      last = record {
        queue = queue ∙ (sym (queue_next first t.links.items l) ∙ ap (λ (z : List Link × ℕ). queue_at first z.0 z.1)
            (λ i. (sym links i, sym n i)));
        base = base ∙ (ap (λ (b : ℕ). b + total_of l.shut) k.last.base
            ∙ (sym (base_next t.links.items l) ∙ ap (λ (z : List Link × ℕ). base_at z.0 z.1)
            (λ i. (sym links i, sym n i))));
      };
    }

pub shortened : (first : Topic) (t u : Stages) → u.links.items ≡ t.links.items → u.ended.items ≡ t.ended.items
    → u.last ≡ t.last → length u.older.items + 1 ≡ length t.older.items
    → ((k : ℕ) (d : Begin) → k + 1 < length t.older.items → get_or u.older.items k d ≡ get_or t.older.items (k + 1) d)
    → ((g : ℕ) → g < length t.ended.items
    → length t.links.items < length (done_by t.ended.items g) + length t.older.items)
    → KeepsStages first t → KeepsStages first u
shortened first t u links ended last less down room k = let few = k.few in record {
  shut = subst (AreShut first) (sym links) k.shut;
  ended = λ g. subst (λ (z : List Link × List (List Noted)). AreEnded g first z.0 (done_by z.1 g))
      (λ i. (sym links i, sym ended i)) (k.ended g);
  few = subst (λ (z : List Link). length u.older.items ≤ length z) (sym links) (omega (arith, less, few));
  kept = λ g below. let n = ap length links in
      let m = ap (λ (z : List (List Noted)). length (done_by z g)) ended in
      let more = room g (subst (λ (z : List (List Noted)). g < length z) ended below) in
      omega (arith, n, m, less, more);
  older = λ j d below. subst (λ (z : List Link). IsStageAt first z (length z - length u.older.items + j)
      (get_or u.older.items j d)) (sym links)
      (subst (λ (z : ℕ × Begin). IsStageAt first t.links.items z.0 z.1)
      (λ i. (number j i, sym (down j d (omega (arith, less, below))) i))
      (k.older (j + 1) d (omega (arith, less, below))));
  last = subst (λ (z : List Link × Begin). IsStageAt first z.0 (length z.0) z.1) (λ i. (sym links i, sym last i))
      k.last;
}
  where
    number : (j : ℕ)
        → length t.links.items - length t.older.items + (j + 1) ≡ length t.links.items - length u.older.items + j
    number j = let few = k.few in omega (arith, less, few)

-- a write of what stands there
pub same_items : (links : List Link) (k : ℕ) (x d : Link) → x ≡ get_or links k d → set links k x ≡ links
same_items links k x d is = ap (λ (y : Link). set links k y) is ∙ set-get_or links k d

-- the same queues, with other notes of the groups
with_notes : (first : Topic) (t u : Stages) → u.links.items ≡ t.links.items → u.older.items ≡ t.older.items
    → u.last ≡ t.last → ((g : ℕ) → AreEnded g first t.links.items (done_by u.ended.items g))
    → ((g : ℕ) → g < length u.ended.items
    → length t.links.items ≤ length (done_by u.ended.items g) + length t.older.items)
    → KeepsStages first t → KeepsStages first u
with_notes first t u links older last ended kept k = record {
  shut = subst (AreShut first) (sym links) k.shut;
  ended = λ g. subst (λ (z : List Link). AreEnded g first z (done_by u.ended.items g)) (sym links) (ended g);
  few = subst (λ (z : List Link × List Begin). length z.1 ≤ length z.0) (λ i. (sym links i, sym older i)) k.few;
  kept = λ g below. let n = ap length links in let o = ap length older in let kept' = kept g below in
      omega (arith, n, o, kept');
  older = subst (λ (z : List Link × List Begin). (j : ℕ) (d : Begin) → j < length z.1
      → IsStageAt first z.0 (length z.0 - length z.1 + j) (get_or z.1 j d)) (λ i. (sym links i, sym older i)) k.older;
  last = subst (λ (z : List Link × Begin). IsStageAt first z.0 (length z.0) z.1) (λ i. (sym links i, sym last i))
      k.last;
}

pub same_stages : (first : Topic) (t u : Stages) → IsSame t u → KeepsStages first t → KeepsStages first u
same_stages first t u is k = with_notes first t u is.links is.older is.last
    (λ g. subst (λ (z : List (List Noted)). AreEnded g first t.links.items (done_by z g)) (sym is.ended) (k.ended g))
    (subst (λ (z : List (List Noted)). (g : ℕ) → g < length z
    → length t.links.items ≤ length (done_by z g) + length t.older.items) (sym is.ended) k.kept) k

pub same_again : (t u v : Stages) → IsSame t u → IsSame u v → IsSame t v
same_again t u v a b = record {
  links = b.links ∙ a.links;
  older = b.older ∙ a.older;
  last = b.last ∙ a.last;
  ended = b.ended ∙ a.ended;
  closing = b.closing ∙ a.closing;
}

-- a note of a pass names its queue
pub one_topic : (z : Topic) (w : Walk) (n : Noted) → IsOf z w → n ≡ noted_by w → z ≡ topic_of n
one_topic z w n of is = λ i. record {
  table_id = (sym of.0 ∙ sym (ap (λ (m : Noted). m.table_id) is)) i;
  setting = (sym of.1 ∙ sym (ap (λ (m : Noted). m.setting) is)) i;
}

-- the group is done with one more queue
ended_next : (g : ℕ) (first : Topic) (links : List Link) (ended : List Noted) (n : Noted) → length ended < length links
    → AreEnded g first links ended → IsEndedBy g (queue_at first links (length ended)) n
    → ((d : Link) → total_of n ≡ total_of (get_or links (length ended) d).shut)
    → AreEnded g first links (ended ++ n ∷ [])
ended_next g first [] ended n more are is one = absurd (omega (arith, more))
ended_next g first (l ∷ links) [] n more are is one = (is, one l, tt)
ended_next g first (l ∷ links) (m ∷ ended) n more are is one =
    (are.0, are.1, ended_next g (topic_of l.next) links ended n (omega (arith, more)) are.2 is one)

-- the notes of a group after those of one group were written
module _ (ended : List (List Noted)) (g : ℕ) (notes : List Noted) where
  pub done_same : g < length ended → done_by (set ended g notes) g ≡ notes
  done_same below = get_or-set_same ended g notes [] below

  pub done_other : (h : ℕ) → (h ≡ g → ⊥) → done_by (set ended g notes) h ≡ done_by ended h
  done_other h other = get_or-set_other ended g h notes [] other

  pub done_past : length ended ≤ g → (h : ℕ) → done_by (set ended g notes) h ≡ done_by ended h
  done_past past h = ap (λ (z : List (List Noted)). done_by z h) (set_past ended g notes past)

pub ended_or : (first : Topic) (t u : Stages) (g : ℕ) (n : Noted) (b : Bool) → u.links.items ≡ t.links.items
    → u.older.items ≡ t.older.items → u.last ≡ t.last → u.ended.items ≡ with_ended b g n t.ended.items
    → length (done_by t.ended.items g) < length t.links.items
    → IsEndedBy g (queue_at first t.links.items (length (done_by t.ended.items g))) n
    → ((d : Link) → total_of n ≡ total_of (get_or t.links.items (length (done_by t.ended.items g)) d).shut)
    → KeepsStages first t → KeepsStages first u
ended_or first t u g n true links older last ended more is one k = with_notes first t u links older last
    (λ h. subst (λ (z : List (List Noted)). AreEnded h first t.links.items (done_by z h)) (sym ended) (are h))
    (λ h below. subst (λ (z : List (List Noted)). length t.links.items ≤ length (done_by z h) + length t.older.items)
    (sym ended) (few h (subst (λ (z : List (List Noted)). h < length z) ended below))) k
  where
    notes : List Noted
    notes = done_by t.ended.items g ++ n ∷ []

    next : AreEnded g first t.links.items notes
    next = ended_next g first t.links.items (done_by t.ended.items g) n more (k.ended g) is one

    are : (h : ℕ) → AreEnded h first t.links.items (done_by (set t.ended.items g notes) h)
    are h = elim (cases_eq h g) [
      | inl same ↦ elim (cases_lt g (length t.ended.items)) [
        | inl below ↦ subst (λ (j : ℕ). AreEnded j first t.links.items (done_by (set t.ended.items g notes) j))
            (sym same)
            (subst (λ (z : List Noted). AreEnded g first t.links.items z)
            (sym (done_same t.ended.items g notes below)) next)
        | inr past ↦ subst (λ (z : List Noted). AreEnded h first t.links.items z)
            (sym (done_past t.ended.items g notes (omega (arith, past)) h)) (k.ended h)
      ]
      | inr other ↦ subst (λ (z : List Noted). AreEnded h first t.links.items z)
          (sym (done_other t.ended.items g notes h other)) (k.ended h)
    ]

    few : (h : ℕ) → h < length (set t.ended.items g notes)
        → length t.links.items ≤ length (done_by (set t.ended.items g notes) h) + length t.older.items
    few h below = let long = length-set t.ended.items g notes in
        let inside : h < length t.ended.items = omega (arith, below, long) in
        let kept = k.kept h inside in elim (cases_eq h g) [
          | inl same ↦ let here = ap length (done_same t.ended.items g notes (omega (arith, inside, same))) in
              let grown = length-append (done_by t.ended.items g) (n ∷ []) in
              let one' = ap (λ (j : ℕ). length (done_by (set t.ended.items g notes) j)) same in
              let two = ap (λ (j : ℕ). length (done_by t.ended.items j)) same in
              omega (arith, here, grown, one', two, kept)
          | inr other ↦ let here = ap length (done_other t.ended.items g notes h other) in omega (arith, here, kept)
        ]
ended_or first t u g n false links older last ended more is one k =
    let same = ended ∙ set-get_or t.ended.items g [] in
    with_notes first t u links older last
    (λ h. subst (λ (z : List (List Noted)). AreEnded h first t.links.items (done_by z h)) (sym same) (k.ended h))
    (subst (λ (z : List (List Noted)). (h : ℕ) → h < length z
    → length t.links.items ≤ length (done_by z h) + length t.older.items) (sym same) k.kept) k

-- within a list no default is read
read_within : (xs : List (List Noted)) (k : ℕ) (d e : List Noted) → k < length xs → get_or xs k d ≡ get_or xs k e
read_within [] k d e below = absurd (omega (arith, below))
read_within (x ∷ xs) zero d e below = refl
read_within (x ∷ xs) (suc k) d e below = read_within xs k d e (omega (arith, below))

-- what was written of a group
pub written : (b : Bool) (n : Noted) (old new : List (List Noted)) (g : ℕ) (d notes : List Noted) → g < length old
    → notes ≡ added b n (get_or old g d) → new ≡ set old g notes → new ≡ with_ended b g n old
written b n old new g d notes below is so =
    so ∙ ap (λ (z : List Noted). set old g z) (is ∙ ap (added b n) (read_within old g d [] below))

-- one more group that is done with no queue
pub one_more_none : (ended : List (List Noted)) (more : List (List Noted)) → ((g : ℕ) → done_by ended g ≡ [])
    → more ≡ ended ++ [] ∷ [] → (g : ℕ) → done_by more g ≡ []
one_more_none ended more none is g = ap (λ (z : List (List Noted)). done_by z g) is ∙ go ended none g
  where
    go : (ended : List (List Noted)) → ((g : ℕ) → done_by ended g ≡ []) → (g : ℕ) → done_by (ended ++ [] ∷ []) g ≡ []
    go [] none zero = refl
    go [] none (suc g) = refl
    go (x ∷ ended) none zero = none 0
    go (x ∷ ended) none (suc g) = go ended (λ h. none (suc h)) g

-- the log goes on, if a group is done with one more queue or with none
pub ended_onward : (ended : List (List Noted)) (g : ℕ) (n : Noted) (b : Bool) (h : ℕ)
    → IsPrefix (done_by ended h) (done_by (with_ended b g n ended) h)
ended_onward ended g n false h = subst (λ (z : List (List Noted)). IsPrefix (done_by ended h) (done_by z h))
    (sym (set-get_or ended g [])) (prefix_self (done_by ended h))
ended_onward ended g n true h = elim (cases_eq h g) [
  | inl same ↦ elim (cases_lt g (length ended)) [
    | inl below ↦ subst (λ (j : ℕ). IsPrefix (done_by ended j) (done_by (with_ended true g n ended) j)) (sym same)
        (n ∷ [], sym (done_same ended g (done_by ended g ++ n ∷ []) below))
    | inr past ↦ subst (λ (z : List Noted). IsPrefix (done_by ended h) z)
        (sym (done_past ended g (done_by ended g ++ n ∷ []) (omega (arith, past)) h)) (prefix_self (done_by ended h))
  ]
  | inr other ↦ subst (λ (z : List Noted). IsPrefix (done_by ended h) z)
      (sym (done_other ended g (done_by ended g ++ n ∷ []) h other)) (prefix_self (done_by ended h))
]

ended_few : (g : ℕ) (first : Topic) (links : List Link) (ended : List Noted) → AreEnded g first links ended
    → length ended ≤ length links
ended_few g first links [] are = omega arith
ended_few g first [] (n ∷ ended) are = absurd are
ended_few g first (l ∷ links) (n ∷ ended) are = let rest = ended_few g (topic_of l.next) links ended are.2 in
    omega (arith, rest)

pub few_ended : (first : Topic) (t : Stages) (g : ℕ) → KeepsStages first t
    → length (done_by t.ended.items g) ≤ length t.links.items
few_ended first t g k = ended_few g first t.links.items (done_by t.ended.items g) (k.ended g)

-- the queue that the group is at, if it is the last one, or one of the older ones
pub at_last : (first : Topic) (t : Stages) (g : ℕ) → length t.links.items ≤ length (done_by t.ended.items g)
    → KeepsStages first t → (length (done_by t.ended.items g) ≡ length t.links.items)
    × IsStageAt first t.links.items (length (done_by t.ended.items g)) t.last
at_last first t g past k = let few = few_ended first t g k in
    let is : length (done_by t.ended.items g) ≡ length t.links.items = omega (arith, few, past) in
    (is, subst (λ (n : ℕ). IsStageAt first t.links.items n t.last) (sym is) k.last)

pub at_older : (first : Topic) (t : Stages) (g j : ℕ) (d : Begin)
    → length (done_by t.ended.items g) < length t.links.items
    → length t.links.items - length t.older.items ≤ length (done_by t.ended.items g)
    → j ≡ length (done_by t.ended.items g) - (length t.links.items - length t.older.items) → KeepsStages first t
    → IsStageAt first t.links.items (length (done_by t.ended.items g)) (get_or t.older.items j d)
at_older first t g j d less low is k = let few = k.few in
    subst (λ (n : ℕ). IsStageAt first t.links.items n (get_or t.older.items j d)) (omega (arith, less, low, is, few))
    (k.older j d (omega (arith, less, low, is, few)))

-- a row of one queue
pub begins_alone : (t : Stages) → t.links.items ≡ [] → t.older.items ≡ []
    → ((g : ℕ) → done_by t.ended.items g ≡ []) → t.last.base ≡ 0 → KeepsStages t.last.queue t
begins_alone t links older ended base = record {
  shut = subst (AreShut t.last.queue) (sym links) tt;
  ended = λ g. subst (λ (z : List Noted). AreEnded g t.last.queue t.links.items z) (sym (ended g)) tt;
  few = let n = ap length older in omega (arith, n);
  kept = λ g below. let n = ap length links in omega (arith, n);
  older = λ k d below. absurd (let n = ap length older in omega (arith, n, below));
  last = record {
    queue = ap (λ (z : List Link). queue_at t.last.queue z (length z)) (sym links);
    base = base ∙ ap (λ (z : List Link). base_at z (length z)) (sym links);
  };
}
