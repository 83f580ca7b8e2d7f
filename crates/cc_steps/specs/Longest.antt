-- The pass that has just stepped has seen the longest run.
use Rattle.std.specs.Prelude.{◌≡◌, ℕ, List, [], ◌∷◌, slice_index_or, slice_set, Option}
use mathlib.Core.Option.{some}
use lib.ListN.{get_elem?}
use Rattle.atomic_table.specs.Table.{State}
use Rattle.cc_steps.specs.Names.{Call, Setting, Move, View, Role}
use Rattle.cc_runs.specs.Words.{layout_of}
use Rattle.cc_runs.specs.State.{word_of}
use Rattle.cc_runs.specs.Passes.{pass_of}
use Rattle.cc_steps.specs.Slots.{slot}
use Rattle.cc_steps.specs.Seen.{left}
use Rattle.cc_steps.specs.Shown.{Shown, Stepped, IsAt, does}

-- the newest move of a run is this pass's
abbrev pub MovedLast : ℕ → List Move → Type 0
MovedLast p [] = ⊥
MovedLast p (m ∷ earlier) = pass_of m ≡ p

-- under the rule, the pass whose move is the newest of the longest run has seen all of that run
abbrev pub LastMoverHasSeenAll : Type 0
LastMoverHasSeenAll = (c : Setting) (s : State (Unit {0}) View) (rule : Shown c s) (j : ℕ) (v : View) →
    get_elem? s.views j ≡ some v → v.role ≡ Role.Pass → MovedLast v.number rule.log → v.seen ≡ rule.log

-- the slot of the word that the next step of this view's pass touches, and what it finds there
abbrev pub slot_of : View → Option Call → ℕ
slot_of v call = slot (layout_of v.setting.config) (word_of (does v call))

abbrev pub found_in : State (Unit {0}) View → View → Option Call → ℕ
found_in s v call = slice_index_or s.words (slot_of v call) 0

-- the table after that step, in which the pass at seat j has view w
abbrev pub after : State (Unit {0}) View → ℕ → View → Option Call → View → State (Unit {0}) View
after s j v call w = record { words = slice_set s.words (slot_of v call) (left (does v call) (found_in s v call)); homes = s.homes; views = slice_set s.views j w }

-- the rule holds, and what this view has seen is the longest run
pub record HasSeenAll (s : State (Unit {0}) View) (w : View) : Type 0 where
  pub rule : Shown w.setting s
  pub all : w.seen ≡ rule.log

-- a step of a pass on a table under the rule leaves the rule, and the pass has seen the longest run
abbrev pub StepperHasSeenAll : Type 0
StepperHasSeenAll = (s : State (Unit {0}) View) (j : ℕ) (v : View) (call : Option Call) → Shown v.setting s → get_elem? s.views j ≡ some v → IsAt v call →
    (w : View) × Stepped v call (found_in s v call) w × HasSeenAll (after s j v call w) w
