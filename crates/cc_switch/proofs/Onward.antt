-- A sender goes on.
use Rattle.std.proofs.Common.{◌≡◌, ℕ, suc, ◌+◌, ◌<◌, ◌≤◌, List, ◌++◌, length, get_or, refl, sym, ap, ◌∙◌, subst}
use Rattle.std.proofs.Common.{arith, length-append}
use Rattle.cc_queue.specs.Met.{HasMet}
use Rattle.cc_queue.specs.Noted.{HasHeeded}
use Rattle.cc_steps.specs.Noted.{Noted}
use Rattle.cc_steps.specs.Topic.{Topic}
use Rattle.cc_steps.specs.Walk.{Walk, IsOf}
use Rattle.cc_switch.specs.Links.{total_of, IsShutBy, base_at, queue_at}
use Rattle.cc_switch.specs.Going.{HasLeft, Moves, IsBehind}
use Rattle.cc_switch.specs.Stages.{KeepsStages, IsSame, IsAtQueue, log_of}
use Rattle.cc_switch.specs.Begin.{Begin}
use Rattle.cc_switch.specs.Links.{GoesOnFrom}
use Rattle.cc_guard.specs.Guard.{LockId, Looked, HasTaken, IsLookAt}
use Rattle.cc_switch.specs.Position.{IsInRow}
use Rattle.cc_switch.specs.Closing.{KnowsShut}
use Rattle.cc_switch.specs.declared.links.RowLog.{RowLog}
use Rattle.cc_switch.proofs.Growing.{same_stages}
use Rattle.cc_switch.specs.Logs.{goes_same, goes_onward, prefix_self}
use Rattle.cc_switch.specs.Links.{done_by, no_log}
use mathlib.Core.List.{IsPrefix}
use Rattle.cc_switch.specs.declared.links.Link.{Link}
use Rattle.cc_switch.specs.declared.stages.Stages.{Stages}
use Rattle.cc_switch.proofs.LinkFacts.{shut_there, base_after, base_rises, queue_longer, base_longer}
use Rattle.cc_switch.proofs.Frozen.{knows_still, one_total}

-- the log goes on from what it was
pub log_same : (t u : Stages) → IsSame t u → GoesOnFrom (log_of t) (log_of u)
log_same t u is = subst (λ (z : RowLog). GoesOnFrom (log_of t) z) (λ i. record {
  links = sym is.links i;
  ended = sym is.ended i;
}) (goes_same (log_of t))

module _ (first : Topic) (t u : Stages) (number base : ℕ) (queue : Topic) (v w : Walk) (total : ℕ)
    (l : HasLeft first t number base queue v total) (met : HasMet v w) where
  still_here : IsOf queue w
  still_here = (ap (λ (x : Walk). x.table_id) met.same ∙ l.here.0, ap (λ (x : Walk). x.setting) met.same ∙ l.here.1)

  pub stays : IsSame t u → Moves first t u number base queue v w total
  stays is = record {
    left = record {
      keeps = same_stages first t u is l.keeps;
      few = subst (λ (z : List Link). number ≤ length z) (sym is.links) l.few;
      queue_is = l.queue_is ∙ ap (λ (z : List Link). queue_at first z number) (sym is.links);
      base_is = l.base_is ∙ ap (λ (z : List Link). base_at z number) (sym is.links);
      here = still_here;
      knows = knows_still v w queue total l.knows met;
    };
    onward = log_same t u is;
    met = met;
  }

  pub behind : (n : Noted) (x : Walk) → IsSame t u → number < length t.links.items
      → ((d : Link) → n ≡ (get_or t.links.items number d).shut) → HasHeeded n w → IsOf u.last.queue x
      → IsBehind u number base total x
  behind n x is later noted heeded of =
      let d : Link = record { shut = n; next = n } in
      let there = shut_there first t.links.items number d l.keeps.shut later in
      let shut = subst (λ (m : Noted). IsShutBy (queue_at first t.links.items number) m) (sym (noted d)) there in
      let one = one_total v w queue total n l.knows met heeded (subst (λ (z : Topic). IsShutBy z n) (sym l.queue_is)
      shut) in
      let of_link : total_of (get_or t.links.items number d).shut ≡ total = ap total_of (sym (noted d)) ∙ one in
      let next = base_after t.links.items number d later in
      let rise = base_rises t.links.items (suc number) (length t.links.items) (omega (arith, later)) (omega arith) in
      let b = l.base_is in
      record {
        of = of;
        later = subst (λ (z : List Link). number < length z) (sym is.links) later;
        above = subst (λ (m : ℕ). base + total ≤ m) (sym l.keeps.last.base ∙ ap (λ (z : Begin). z.base) (sym is.last))
            (omega (arith, of_link, next, rise, b));
      }

-- the queue was appended
module _ (first : Topic) (t u : Stages) (number base : ℕ) (queue : Topic) (v : Walk) (total : ℕ)
    (l : HasLeft first t number base queue v total) where
  pub follows : (more : List Link) → HasMet v v → u.links.items ≡ t.links.items ++ more → u.ended.items ≡ t.ended.items
      → KeepsStages first u → Moves first t u number base queue v v total
  follows more met links ended keeps = record {
    left = record {
      keeps = keeps;
      few = let few = l.few in let long = length-append t.links.items more in
          subst (λ (z : List Link). number ≤ length z) (sym links) (omega (arith, few, long));
      queue_is = l.queue_is ∙ (sym (queue_longer first t.links.items more number l.few)
          ∙ ap (λ (z : List Link). queue_at first z number) (sym links));
      base_is = l.base_is ∙ (sym (base_longer t.links.items more number l.few)
          ∙ ap (λ (z : List Link). base_at z number) (sym links));
      here = l.here;
      knows = l.knows;
    };
    onward = record {
      links = (more, sym links);
      ended = λ g. subst (λ (z : List (List Noted)).
          IsPrefix (done_by t.ended.items g) (done_by z g)) (sym ended) (prefix_self (done_by t.ended.items g));
    };
    met = met;
  }

-- a position stays in a row that goes on
pub at_queue : (row a : LockId Topic) → a ≡ row
    → (l h : Looked RowLog Topic) (t : Stages) (number base : ℕ) (queue : Topic)
    → IsInRow row l number base queue → HasTaken GoesOnFrom log_of KeepsStages a l h t
    → IsAtQueue row.key t number base queue
at_queue row a one l h t number base queue is taken =
    let more = taken.goes_on.links in let long = length-append l.seen.links more.0 in let few = is.few in
    record {
      keeps = subst (λ (c : LockId Topic). KeepsStages c.key t) one taken.holds;
      few = subst (λ (z : List Link). number ≤ length z) more.1 (omega (arith, long, few));
      queue_is = is.queue_is ∙ (sym (queue_longer row.key l.seen.links more.0 number is.few)
          ∙ ap (λ (z : List Link). queue_at row.key z number) more.1);
      base_is = is.base_is ∙ (sym (base_longer l.seen.links more.0 number is.few)
          ∙ ap (λ (z : List Link). base_at z number) more.1);
    }

-- a position in a row that was given back
pub in_row : (row : LockId Topic) (l : Looked RowLog Topic) (t : Stages) (number base : ℕ) (queue : Topic)
    → IsLookAt row l → l.seen ≡ log_of t → IsAtQueue row.key t number base queue → IsInRow row l number base queue
in_row row l t number base queue look seen at = subst (λ (z : RowLog). IsInRow row (record l { seen = z }) number base
    queue)
    (sym seen) (record {
      look = record { table_id = look.table_id; key = look.key };
      few = at.few;
      queue_is = at.queue_is;
      base_is = at.base_is;
      shut = at.keeps.shut;
      ended = at.keeps.ended;
    })

-- the last queue
pub at_the_last : (first : Topic) (t : Stages) (number base : ℕ) (queue : Topic) → KeepsStages first t
    → number ≡ length t.links.items → base ≡ t.last.base → queue ≡ t.last.queue → IsAtQueue first t number base queue
at_the_last first t number base queue k is base_is queue_is = record {
  keeps = k;
  few = omega (arith, is);
  queue_is = queue_is ∙ (k.last.queue ∙ ap (λ (n : ℕ). queue_at first t.links.items n) (sym is));
  base_is = base_is ∙ (k.last.base ∙ ap (λ (n : ℕ). base_at t.links.items n) (sym is));
}

-- the same place, after the oldest queue was removed
pub still_at : (first : Topic) (t u : Stages) (number base : ℕ) (queue : Topic) → KeepsStages first u
    → u.links.items ≡ t.links.items → number ≤ length t.links.items → queue ≡ queue_at first t.links.items number
    → base ≡ base_at t.links.items number → IsAtQueue first u number base queue
still_at first t u number base queue k links few queue_is base_is = record {
  keeps = k;
  few = subst (λ (z : List Link). number ≤ length z) (sym links) few;
  queue_is = queue_is ∙ ap (λ (z : List Link). queue_at first z number) (sym links);
  base_is = base_is ∙ ap (λ (z : List Link). base_at z number) (sym links);
}

-- what a pass has seen goes on, up to the queues that it gives back
pub seen_on : (a s : RowLog) (t u v : Stages) → GoesOnFrom a (log_of t) → GoesOnFrom (log_of t) (log_of u)
    → v.links.items ≡ u.links.items → v.ended.items ≡ u.ended.items → s ≡ log_of v → GoesOnFrom a s
seen_on a s t u v one two links ended is = subst (GoesOnFrom a) (sym is)
    (subst (λ (z : List Link × List (List Noted)). GoesOnFrom a (record { links = z.0; ended = z.1 }))
    (λ i. (sym links i, sym ended i)) (goes_onward a (log_of t) (log_of u) one two))

-- a row that begins
pub from_none : (t : Stages) → GoesOnFrom no_log (log_of t)
from_none t = record { links = (t.links.items, refl); ended = λ g. (done_by t.ended.items g, refl) }

-- the note of the link is of the queue of the pass
pub of_one : (first : Topic) (t : Stages) (number base : ℕ) (queue : Topic) (v : Walk) (total : ℕ)
    → HasLeft first t number base queue v total → (n : Noted) → number < length t.links.items
    → ((d : Link) → n ≡ (get_or t.links.items number d).shut) → (n.table_id ≡ v.table_id) × (n.setting ≡ v.setting)
of_one first t number base queue v total l n later noted =
    let d : Link = record { shut = n; next = n } in
    let of = (shut_there first t.links.items number d l.keeps.shut later).of in (
      ap (λ (m : Noted). m.table_id) (noted d)
          ∙ (of.0 ∙ (ap (λ (z : Topic). z.table_id) (sym l.queue_is) ∙ sym l.here.0)),
      ap (λ (m : Noted). m.setting) (noted d)
          ∙ (of.1 ∙ (ap (λ (z : Topic). z.setting) (sym l.queue_is) ∙ sym l.here.1)),
    )

-- under the lock
pub has_left : (row a : LockId Topic) → a ≡ row
    → (l h : Looked RowLog Topic) (t : Stages) (number base : ℕ) (queue : Topic)
    (w : Walk) (total : ℕ) → IsInRow row l number base queue → HasTaken GoesOnFrom log_of KeepsStages a l h t
    → IsOf queue w → KnowsShut queue w total → HasLeft row.key t number base queue w total
has_left row a one l h t number base queue w total is taken of knows =
    let at = at_queue row a one l h t number base queue is taken in
    record { keeps = at.keeps; few = at.few; queue_is = at.queue_is; base_is = at.base_is; here = of; knows = knows }
