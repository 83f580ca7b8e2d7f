-- The pass that has just stepped has seen the longest run: all moves of a pass are covered by what it has seen.
use Rattle.std.proofs.Common.{◌≡◌, ℕ, ◌+◌, ◌*◌, ◌<◌, ◌≤◌, Bool, nat_lt, cond, List, [], ◌∷◌, ◌++◌, length, IsTrue, refl, sym, ap, ◌∙◌, subst, arith}
use Rattle.std.proofs.lemmas.Bool.{and_parts, eq-eqb}
use Rattle.cc_steps.specs.Names.{Move, Chain, Word, Role}
use Rattle.cc_runs.specs.Words.{Layout, layout_of, exists, is_node_field, is_item_field}
use Rattle.cc_runs.specs.State.{word_of}
use Rattle.cc_runs.specs.Passes.{pass_of, by}
use Rattle.cc_runs.proofs.Words.{field_small, part_small}
use Rattle.cc_steps.specs.Slots.{slot, slot_count}
use Rattle.cc_steps.specs.Shown.{Knows, passing, does}
use Rattle.cc_steps.specs.Longest.{MovedLast, LastMoverHasSeenAll, slot_of, StepperHasSeenAll}
use Rattle.cc_steps.proofs.Keeps.{Next, safe, shown_after, log_after, steps_so}

-- what is newer than all moves of the last mover is nothing
none_newer : (p : ℕ) (seen more : List Move) → by p more ≡ [] → MovedLast p (more ++ seen) → more ≡ []
none_newer p seen [] none last = refl
none_newer p seen (m ∷ more) none last =
    let mine : by p (m ∷ more) ≡ m ∷ by p more = ap (λ (b : Bool). cond b (m ∷ by p more) (by p more)) (eq-eqb (pass_of m) p last) in
    absurd (cc (mine, none))

pub last_mover : LastMoverHasSeenAll
last_mover c s rule j v at role last =
    let knows : Knows c rule.log rule.next rule.owner rule.top j Role.Pass v = subst (λ (r : Role). Knows c rule.log rule.next rule.owner rule.top j r v) role (rule.views j v at) in
    let none : knows.3.0 ≡ [] = none_newer v.number v.seen knows.3.0 knows.3.2 (subst (MovedLast v.number) knows.3.1 last) in
    sym (knows.3.1 ∙ ap (λ (l : List Move). l ++ v.seen) none)

-- ---- each word lies in the table

groups_in : (g groups m : ℕ) → g < groups → g * m + m ≤ groups * m
groups_in g groups m less = grind arith

slot_in : (l : Layout) (w : Word) → IsTrue (exists l w) → slot l w < slot_count l
slot_in l w a = grind (
  arith,
  and_parts,
  nat_lt,
  is_node_field,
  field_small Chain.Send,
  l.groups,
  groups_in,
  field_small,
  is_item_field,
  part_small,
)

pub stepper : StepperHasSeenAll
stepper s j v call h at ready =
    let there : IsTrue (exists (layout_of v.setting.config) (word_of (does v call))) = (safe s v h j call at ready).0 in
    let wide : slot_of v call < length s.words = subst (λ (n : ℕ). slot_of v call < n) (sym h.wide) (slot_in (layout_of v.setting.config) (word_of (does v call)) there) in (
      passing v.setting v.number (Next s v h j call at ready),
      steps_so s v h j call at ready (slot_of v call) refl,
      record { rule = shown_after s v h j call at ready (slot_of v call) refl _ refl wide []; all = sym (log_after s v h j call at ready (slot_of v call) refl _ refl wide []) },
    )
