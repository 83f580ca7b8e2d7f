-- A contract sees of a note its table, and the run that its pass had seen.
use Rattle.std.specs.Prelude.{◌≡◌, ◌⊎◌, List, []}
use Rattle.atomic_table.specs.Seated.{TableId}
use Rattle.atomic_table.specs.declared.shared.Seat.{Seat}
use Rattle.cc_steps.specs.Names.{Setting, Move, View, Role}
use Rattle.cc_steps.specs.Topic.{Topic}
use Rattle.cc_steps.specs.Seen.{Later}
use Rattle.cc_steps.specs.Walk.{Walk}

-- a note as plain data: its table and setting, and the run, the newest move first
pub record Noted : Type 0 where
  pub table_id : TableId
  pub setting : Setting
  pub seen : List Move

-- the data of a note's seat
abbrev pub noted : Seat (Unit {0}) View → Noted
noted s = record { table_id = s.table_id; setting = s.me.0.setting; seen = s.me.0.seen }

-- what a pass has seen, as a note
abbrev pub noted_by : Walk → Noted
noted_by w = record { table_id = w.table_id; setting = w.setting; seen = w.seen }

-- the seat is a part that was cut off, and holds no slot
pub record IsPart (s : Seat (Unit {0}) View) : Type 0 where
  pub part : s.me.0.role ≡ Role.Part
  pub bare : s.me.1 ≡ []

-- the note is of this topic
abbrev pub IsNoteOf : Topic → Noted → Type 0
IsNoteOf z n = (n.table_id ≡ z.table_id) × (n.setting ≡ z.setting)

-- two runs are prefixes of one run: one of them goes on from the other
abbrev pub AreOfOneRun : List Move → List Move → Type 0
AreOfOneRun one other = Later one other ⊎ Later other one
