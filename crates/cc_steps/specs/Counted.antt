-- A load of a word of the list, by a seat that does no step: what it finds, and in which run.
use Rattle.std.specs.Prelude.{◌≡◌, ℕ, List, IsTrue}
use Rattle.atomic_table.specs.Table as table
use Rattle.atomic_table.specs.Table.{Me}
use Rattle.cc_steps.specs.Names.{Setting, Move, Object, Word, View}
use Rattle.cc_runs.specs.Words.{layout_of, exists}
use Rattle.cc_runs.specs.Run.{IsRun}
use Rattle.cc_steps.specs.Slots.{slot}
use Rattle.cc_steps.specs.Seen.{Onward, Covers, word_in}
use Rattle.cc_steps.specs.Shown.{passing}
use Rattle.cc_steps.specs.Walk.{Walk, IsReadyToStep}

-- the words in this slot held this number in the run
pub record FoundAt (c : Setting) (seen : List Move) (place found : ℕ) : Type 0 where
  pub run : IsRun c seen
  pub found_is : (w : Word) → IsTrue (exists (layout_of c.config) w) → slot (layout_of c.config) w ≡ place → found ≡ word_in c seen w

-- a pass has seen such a run, which goes on from what the pass had seen
pub record Watched (v : View) (place found : ℕ) (w : View) : Type 0 where
  pub view : w ≡ passing v.setting v.number w.seen
  pub mine : Covers v.number v.seen w.seen
  pub found_at : FoundAt v.setting w.seen place found

-- the view of a seat, in the words of the table's own contracts
abbrev Sat : Type 0
Sat = Me (Unit {0}) View

-- the clauses of this load
abbrev pub watches : table.Step (Unit {0}) → Sat → ℕ → Sat → Type 0
watches st m n m' = Watched m.0 st.word n m'.0

-- ---- in contracts

-- The pass has seen a run that goes on from all that it had seen, and the word held this number in that run. The pass did nothing.
pub record HasWatched (v : Walk) (object : Object) (found : ℕ) (w : Walk) : Type 0 where
  pub same : w ≡ record v { seen = w.seen }
  pub later : Onward v.seen w.seen
  pub mine : Covers v.number v.seen w.seen
  pub run : IsRun w.setting w.seen
  pub ready : IsReadyToStep w
  pub found_is : found ≡ word_in w.setting w.seen (Word.Object object)
