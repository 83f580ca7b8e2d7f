-- A receiver goes on.
use Rattle.std.proofs.Common.{◌≡◌, ℕ, suc, ◌+◌, ◌<◌, ◌≤◌, Bool, List, length}
use Rattle.std.proofs.Common.{get_or, sym, ap, ◌∙◌, subst, arith, length-append}
use mathlib.Core.List.{IsPrefix}
use Rattle.cc_guard.specs.Guard.{LockId, Looked, HasTaken}
use Rattle.cc_queue.specs.Met.{HasMet}
use Rattle.cc_queue.specs.Noted.{HasHeeded}
use Rattle.cc_steps.specs.Noted.{Noted, noted_by}
use Rattle.cc_steps.specs.Topic.{Topic}
use Rattle.cc_steps.specs.Walk.{Walk, IsOf}
use Rattle.cc_switch.specs.Links.{GoesOnFrom, total_of, IsShutBy, base_at, queue_at, done_by}
use Rattle.cc_queue.specs.Group.{Ranked}
use Rattle.cc_switch.specs.Position.{IsInRow}
use Rattle.cc_switch.specs.Closing.{KnowsEnded}
use Rattle.cc_switch.specs.Receiving.{HasOver, OverMoves, IsAgreed, IsNext}
use Rattle.cc_switch.specs.Stages.{KeepsStages, IsSame, log_of, with_ended}
use Rattle.cc_switch.specs.Logs.{goes_onward, prefix_self}
use Rattle.cc_switch.specs.declared.links.Link.{Link}
use Rattle.cc_switch.specs.declared.links.RowLog.{RowLog}
use Rattle.cc_switch.specs.declared.stages.Stages.{Stages}
use Rattle.cc_switch.proofs.Growing.{same_stages, few_ended, ended_onward}
use Rattle.cc_switch.proofs.Ranks.{still_ranked}
use Rattle.cc_switch.proofs.LinkFacts.{shut_there, base_after, base_rises}
use Rattle.cc_switch.proofs.Frozen.{one_total}
use Rattle.cc_switch.proofs.Ends.{as_shut, ended_still}
use Rattle.cc_switch.proofs.Onward.{log_same, at_queue}

module _ (g : ℕ) (first : Topic) (t : Stages) (number base : ℕ) (queue : Topic) (v w : Walk) (total : ℕ)
    (l : HasOver g first t number base queue v total) where
  pub over_stays : (u : Stages) → HasMet v w → IsSame t u → OverMoves g first t u number base queue v w total
  over_stays u met is = record {
    over = record {
      keeps = same_stages first t u is l.keeps;
      few = subst (λ (z : List (List Noted)). number ≤ length (done_by z g)) (sym is.ended) l.few;
      queue_is = l.queue_is ∙ ap (λ (z : List Link). queue_at first z number) (sym is.links);
      base_is = l.base_is ∙ ap (λ (z : List Link). base_at z number) (sym is.links);
      here = (ap (λ (x : Walk). x.table_id) met.same ∙ l.here.0, ap (λ (x : Walk). x.setting) met.same ∙ l.here.1);
      ranked = still_ranked v w (g + 1) met.stands.same l.ranked;
      knows = ended_still g v w queue total l.knows met;
    };
    onward = log_same t u is;
    met = met;
  }

  link_of : (n : Noted) → number < length t.links.items → ((d : Link) → n ≡ (get_or t.links.items number d).shut)
      → IsShutBy queue n
  link_of n later noted =
      let d : Link = record { shut = n; next = n } in
      subst (λ (z : Topic). IsShutBy z n) (sym l.queue_is)
      (subst (λ (m : Noted). IsShutBy (queue_at first t.links.items number) m) (sym (noted d))
      (shut_there first t.links.items number d l.keeps.shut later))

  pub of_queue : (d : Link) → number < length t.links.items
      → ((get_or t.links.items number d).shut.table_id ≡ queue.table_id)
      × ((get_or t.links.items number d).shut.setting ≡ queue.setting)
  of_queue d later =
      let of = (shut_there first t.links.items number d l.keeps.shut later).of in
      (of.0 ∙ ap (λ (z : Topic). z.table_id) (sym l.queue_is), of.1 ∙ ap (λ (z : Topic). z.setting) (sym l.queue_is))

  pub of_pass : (n : Noted) → number < length t.links.items → ((d : Link) → n ≡ (get_or t.links.items number d).shut)
      → (n.table_id ≡ v.table_id) × (n.setting ≡ v.setting)
  of_pass n later noted = let of = (link_of n later noted).of in (of.0 ∙ sym l.here.0, of.1 ∙ sym l.here.1)

  pub agreed : (u : Stages) (n : Noted) → HasMet v w → IsSame t u → number < length t.links.items
      → ((d : Link) → n ≡ (get_or t.links.items number d).shut) → HasHeeded n w → IsAgreed u number total
  agreed u n met is later noted heeded d =
      ap (λ (z : List Link). total_of (get_or z number d).shut) is.links
      ∙ (ap total_of (sym (noted d)) ∙ one_total v w queue total n (as_shut g queue v total l.knows) met heeded
      (link_of n later noted))

-- the group is done with the queue, or memory was refused
pub over_ended : (g : ℕ) (first : Topic) (t u : Stages) (number base : ℕ) (queue : Topic) (v : Walk) (total : ℕ)
    → HasOver g first t number base queue v total → (b : Bool) (n : Noted) → HasMet v v → KeepsStages first u
    → u.links.items ≡ t.links.items → u.ended.items ≡ with_ended b g n t.ended.items
    → OverMoves g first t u number base queue v v total
over_ended g first t u number base queue v total l b n met keeps links ended =
    let more : (h : ℕ) → IsPrefix (done_by t.ended.items h) (done_by u.ended.items h) =
    λ h. subst (λ (z : List (List Noted)). IsPrefix (done_by t.ended.items h) (done_by z h)) (sym ended)
    (ended_onward t.ended.items g n b h) in
    let few = l.few in let long = length-append (done_by t.ended.items g) (more g).0 in
    record {
      over = record {
        keeps = keeps;
        few = subst (λ (z : List Noted). number ≤ length z) (more g).1 (omega (arith, few, long));
        queue_is = l.queue_is ∙ ap (λ (z : List Link). queue_at first z number) (sym links);
        base_is = l.base_is ∙ ap (λ (z : List Link). base_at z number) (sym links);
        here = l.here;
        ranked = l.ranked;
        knows = l.knows;
      };
      onward = record {
        links = subst (λ (z : List Link). IsPrefix t.links.items z) (sym links)
            (prefix_self t.links.items);
        ended = more;
      };
      met = met;
    }

pub two_moves : (g : ℕ) (first : Topic) (t a s : Stages) (number base : ℕ) (queue : Topic) (v w y : Walk) (total : ℕ)
    → OverMoves g first t a number base queue v w total → OverMoves g first a s number base queue w y total → y ≡ w
    → OverMoves g first t s number base queue v y total
two_moves g first t a s number base queue v w y total one two same = record {
  over = two.over;
  onward = goes_onward (log_of t) (log_of a) (log_of s) one.onward two.onward;
  met = subst (HasMet v) (sym same) one.met;
}

pub then_same : (g : ℕ) (first : Topic) (t s u : Stages) (number base : ℕ) (queue : Topic) (v y : Walk) (total : ℕ)
    → OverMoves g first t s number base queue v y total → IsSame s u → OverMoves g first t u number base queue v y total
then_same g first t s u number base queue v y total one is = let l = one.over in record {
  over = record {
    keeps = same_stages first s u is l.keeps;
    few = subst (λ (z : List (List Noted)). number ≤ length (done_by z g)) (sym is.ended) l.few;
    queue_is = l.queue_is ∙ ap (λ (z : List Link). queue_at first z number) (sym is.links);
    base_is = l.base_is ∙ ap (λ (z : List Link). base_at z number) (sym is.links);
    here = l.here;
    ranked = l.ranked;
    knows = l.knows;
  };
  onward = goes_onward (log_of t) (log_of s) (log_of u) one.onward (log_same s u is);
  met = one.met;
}

pub still_agreed : (t u : Stages) (number total : ℕ) → u.links.items ≡ t.links.items → IsAgreed t number total
    → IsAgreed u number total
still_agreed t u number total links is d = ap (λ (z : List Link). total_of (get_or z number d).shut) links ∙ is d

pub is_next : (g : ℕ) (first : Topic) (t u : Stages) (number base : ℕ) (queue : Topic) (w : Walk) (total : ℕ) (x : Walk)
    (next : Topic) (above : ℕ) → HasOver g first t number base queue w total → IsSame t u → IsAgreed t number total
    → number < length (done_by t.ended.items g) → IsOf next x → Ranked x (g + 1) → g < next.setting.config.groups
    → next ≡ queue_at first t.links.items (length (done_by t.ended.items g))
    → above ≡ base_at t.links.items (length (done_by t.ended.items g))
    → IsNext g first u number base total x next above
is_next g first t u number base queue w total x next above l is agreed later of ranked has queue_is base_is =
    let few = few_ended first t g l.keeps in
    let d : Link = record { shut = noted_by w; next = noted_by w } in
    let one = agreed d in
    let after = base_after t.links.items number d (omega (arith, few, later)) in
    let rise = base_rises t.links.items (suc number) (length (done_by t.ended.items g)) (omega (arith, later)) few in
    let b = l.base_is in
    let both : ◌≡◌ {A = List Link × List (List Noted)} (t.links.items, t.ended.items) (u.links.items, u.ended.items) =
    λ i. (sym is.links i, sym is.ended i) in
    record {
      of = of;
      ranked = ranked;
      has = has;
      later = subst (λ (z : List Link × List (List Noted)). number < length (done_by z.1 g)) both later;
      few = subst (λ (z : List Link × List (List Noted)). length (done_by z.1 g) ≤ length z.0) both few;
      queue_is = queue_is
          ∙ ap (λ (z : List Link × List (List Noted)). queue_at first z.0 (length (done_by z.1 g))) both;
      base_is = base_is ∙ ap (λ (z : List Link × List (List Noted)). base_at z.0 (length (done_by z.1 g))) both;
      above = omega (arith, one, after, rise, b, base_is);
    }

-- under the lock
pub has_over : (g : ℕ) (row a : LockId Topic) → a ≡ row → (l h : Looked RowLog Topic) (t : Stages) (number base : ℕ)
    (queue : Topic) (w : Walk) (total : ℕ) → IsInRow row l number base queue
    → HasTaken GoesOnFrom log_of KeepsStages a l h t → IsOf queue w → Ranked w (g + 1) → KnowsEnded g queue w total
    → number ≤ length (done_by l.seen.ended g) → HasOver g row.key t number base queue w total
has_over g row a one l h t number base queue w total is taken of ranked knows low =
    let at = at_queue row a one l h t number base queue is taken in
    let done = taken.goes_on.ended g in let long = length-append (done_by l.seen.ended g) done.0 in
    record {
      keeps = at.keeps;
      few = subst (λ (z : List Noted). number ≤ length z) done.1 (omega (arith, long, low));
      queue_is = at.queue_is;
      base_is = at.base_is;
      here = of;
      ranked = ranked;
      knows = knows;
    }
