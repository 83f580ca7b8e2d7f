-- A descriptor that is readable while a call may find something, for any number of threads that poll it. A poller that is woken tries. If its try
-- finds nothing, it drains the descriptor, arms it, and looks once more. A thread that made things, or closed, or whose look found something,
-- checks whether the descriptor is armed; if so, it disarms and rings it. The steps of all threads have one order.
use Rattle.std.specs.Prelude.{◌≡◌, ℕ, ◌+◌, ◌-◌, ◌<◌, List, [], ◌∷◌}

-- The number of things that a call may take, and of closes; the count of the descriptor, which is readable while its count isn't 0; whether
-- the descriptor is armed, 1 or 0; and the number of threads at each place:
pub record Bell : Type 0 where
  pub things : ℕ
  pub closes : ℕ
  pub count : ℕ
  pub armed : ℕ
  -- about to check whether the descriptor is armed
  pub owed : ℕ
  -- has disarmed the descriptor, and is about to write into it
  pub ringing : ℕ
  pub polling : ℕ
  pub trying : ℕ
  -- its try found nothing
  pub draining : ℕ
  pub arming : ℕ
  pub looking : ℕ

pub data BellEvent : Type 0 where
  Makes : ℕ → BellEvent
  Closes : BellEvent
  -- a call that doesn't poll takes a thing
  Takes : BellEvent
  Checks : BellEvent
  Rings : BellEvent
  -- a thread begins to poll, and the poll returns
  Polls : BellEvent
  Returns : BellEvent
  TryFinds : BellEvent
  TryEnds : BellEvent
  TryFindsNone : BellEvent
  Drains : BellEvent
  Arms : BellEvent
  LookFinds : BellEvent
  LookEnds : BellEvent
  LookFindsNone : BellEvent

-- a new descriptor is readable
abbrev pub new_bell : Bell
new_bell = record { things = 0; closes = 0; count = 1; armed = 0; owed = 0; ringing = 0; polling = 0; trying = 0; draining = 0; arming = 0; looking = 0 }

abbrev pub bell_after : Bell → BellEvent → Bell
bell_after s (BellEvent.Makes n) = record (s) { things = s.things + n; owed = s.owed + 1 }
bell_after s BellEvent.Closes = record (s) { closes = s.closes + 1; owed = s.owed + 1 }
bell_after s BellEvent.Takes = record (s) { things = s.things - 1 }
bell_after s BellEvent.Checks = record (s) { owed = s.owed - 1; ringing = s.ringing + s.armed; armed = 0 }
bell_after s BellEvent.Rings = record (s) { ringing = s.ringing - 1; count = s.count + 1 }
bell_after s BellEvent.Polls = record (s) { polling = s.polling + 1 }
bell_after s BellEvent.Returns = record (s) { polling = s.polling - 1; trying = s.trying + 1 }
bell_after s BellEvent.TryFinds = record (s) { trying = s.trying - 1; things = s.things - 1 }
bell_after s BellEvent.TryEnds = record (s) { trying = s.trying - 1 }
bell_after s BellEvent.TryFindsNone = record (s) { trying = s.trying - 1; draining = s.draining + 1 }
bell_after s BellEvent.Drains = record (s) { draining = s.draining - 1; count = 0; arming = s.arming + 1 }
bell_after s BellEvent.Arms = record (s) { arming = s.arming - 1; armed = 1; looking = s.looking + 1 }
bell_after s BellEvent.LookFinds = record (s) { looking = s.looking - 1; things = s.things - 1; owed = s.owed + 1 }
bell_after s BellEvent.LookEnds = record (s) { looking = s.looking - 1; owed = s.owed + 1 }
bell_after s BellEvent.LookFindsNone = record (s) { looking = s.looking - 1 }

-- A thread is at the place. A poll returns while the descriptor is readable. A try finds a thing if there is one, and the end if the queue is closed.
abbrev pub BellMay : Bell → BellEvent → Type 0
BellMay s (BellEvent.Makes n) = Unit {0}
BellMay s BellEvent.Closes = Unit {0}
BellMay s BellEvent.Takes = 0 < s.things
BellMay s BellEvent.Checks = 0 < s.owed
BellMay s BellEvent.Rings = 0 < s.ringing
BellMay s BellEvent.Polls = Unit {0}
BellMay s BellEvent.Returns = (0 < s.polling) × (0 < s.count)
BellMay s BellEvent.TryFinds = (0 < s.trying) × (0 < s.things)
BellMay s BellEvent.TryEnds = (0 < s.trying) × (0 < s.closes)
BellMay s BellEvent.TryFindsNone = (0 < s.trying) × (s.things ≡ 0) × (s.closes ≡ 0)
BellMay s BellEvent.Drains = 0 < s.draining
BellMay s BellEvent.Arms = 0 < s.arming
BellMay s BellEvent.LookFinds = (0 < s.looking) × (0 < s.things)
BellMay s BellEvent.LookEnds = (0 < s.looking) × (0 < s.closes)
BellMay s BellEvent.LookFindsNone = (0 < s.looking) × (s.things ≡ 0) × (s.closes ≡ 0)

-- the descriptor after some events, of which the newest is the first, by what an event changes
abbrev pub bell_by : (after : Bell → BellEvent → Bell) → List BellEvent → Bell
bell_by after [] = new_bell
bell_by after (e ∷ earlier) = after (bell_by after earlier) e

abbrev pub IsRungBy : (after : Bell → BellEvent → Bell) (May : Bell → BellEvent → Type 0) → List BellEvent → Type 0
IsRungBy after May [] = Unit {0}
IsRungBy after May (e ∷ earlier) = IsRungBy after May earlier × May (bell_by after earlier) e

-- If a call may find something, the descriptor is readable, or a thread is about to check, ring, arm or look.
abbrev pub MissesNothing : (after : Bell → BellEvent → Bell) (May : Bell → BellEvent → Type 0) → Type 0
MissesNothing after May = (events : List BellEvent) → IsRungBy after May events → let s : Bell = bell_by after events in
    0 < s.things + s.closes → 0 < s.count + s.owed + s.ringing + s.arming + s.looking

-- So at rest a poller sleeps only if there is nothing to take, and the queue is open.
abbrev pub NoBellIsMissed : Type 0
NoBellIsMissed = MissesNothing bell_after BellMay
