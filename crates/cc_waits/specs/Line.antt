-- A line of calls that wait, for any number of threads. A call joins, looks once more, and sleeps. A thread that made things checks the
-- line, and notifies as many calls as it made things, or all that wait. A thread that closed the queue notifies all.
-- The steps of all threads have one order: so do make and check of one thread, and join and look of another.
use Rattle.std.specs.Prelude.{◌≡◌, ℕ, ◌+◌, ◌-◌, ◌<◌, ◌≤◌, min, List, [], ◌∷◌}

-- The number of things that a call may take, and of closes; the two counts of the line's word: the calls in line that aren't notified, and the
-- notifications that no call has used; and the number of threads at each place:
pub record Line : Type 0 where
  pub things : ℕ
  pub closes : ℕ
  pub waiting : ℕ
  pub notified : ℕ
  -- joined, and about to look
  pub looking : ℕ
  -- the look took a thing, found the queue closed, or was refused: about to leave
  pub leaving : ℕ
  -- awake in line, after a look that found nothing
  pub parking : ℕ
  pub sleeping : ℕ
  -- left by a notification, and about to try again
  pub retrying : ℕ
  -- refused, for lack of memory say, and about to notify another call
  pub refused : ℕ
  -- how many things were made whose threads haven't notified yet, how many threads closed and haven't notified all yet, and how many
  -- calls are still to be woken
  pub owed : ℕ
  pub closing : ℕ
  pub wakes : ℕ

pub data LineEvent : Type 0 where
  Makes : ℕ → LineEvent
  -- a call that isn't in line takes a thing
  Takes : LineEvent
  -- a thread that made this many notifies
  Notifies : ℕ → LineEvent
  Closes : LineEvent
  -- a thread that closed notifies
  NotifiesAll : LineEvent
  -- a call that was refused notifies another one
  PassesOn : LineEvent
  Wakes : ℕ → LineEvent
  Joins : LineEvent
  LookFinds : LineEvent
  LookFindsNone : LineEvent
  -- the queue is closed
  LookEnds : LineEvent
  LookIsRefused : LineEvent
  Leaves : LineEvent
  Sleeps : LineEvent
  -- awake without a notification, or since its time is over
  Stirs : LineEvent
  UsesNote : LineEvent
  -- its time is over
  GivesUp : LineEvent
  RetryFinds : LineEvent
  RetryFindsNone : LineEvent
  RetryEnds : LineEvent
  RetryIsRefused : LineEvent

-- no thread is there
abbrev pub empty_line : Line
empty_line = record { things = 0; closes = 0; waiting = 0; notified = 0; looking = 0; leaving = 0; parking = 0; sleeping = 0; retrying = 0; refused = 0; owed = 0; closing = 0; wakes = 0 }

-- this many calls are notified, and are to be woken
abbrev pub noted : Line → ℕ → Line
noted s n = record (s) { waiting = s.waiting - n; notified = s.notified + n; wakes = s.wakes + n }

abbrev pub line_after : Line → LineEvent → Line
line_after s (LineEvent.Makes n) = record (s) { things = s.things + n; owed = s.owed + n }
line_after s LineEvent.Takes = record (s) { things = s.things - 1 }
line_after s (LineEvent.Notifies n) = record (noted s (min n s.waiting)) { owed = s.owed - n }
line_after s LineEvent.Closes = record (s) { closes = s.closes + 1; closing = s.closing + 1 }
line_after s LineEvent.NotifiesAll = record (noted s s.waiting) { closing = s.closing - 1 }
line_after s LineEvent.PassesOn = record (noted s (min 1 s.waiting)) { refused = s.refused - 1 }
line_after s (LineEvent.Wakes n) = record (s) { wakes = s.wakes - n; sleeping = s.sleeping - min n s.sleeping; parking = s.parking + min n s.sleeping }
line_after s LineEvent.Joins = record (s) { waiting = s.waiting + 1; looking = s.looking + 1 }
line_after s LineEvent.LookFinds = record (s) { looking = s.looking - 1; leaving = s.leaving + 1; things = s.things - 1 }
line_after s LineEvent.LookFindsNone = record (s) { looking = s.looking - 1; parking = s.parking + 1 }
line_after s LineEvent.LookEnds = record (s) { looking = s.looking - 1; leaving = s.leaving + 1 }
line_after s LineEvent.LookIsRefused = record (s) { looking = s.looking - 1; leaving = s.leaving + 1; refused = s.refused + 1 }
line_after s LineEvent.Leaves = record (s) { leaving = s.leaving - 1; waiting = s.waiting - 1; notified = s.notified - (1 - s.waiting) }
line_after s LineEvent.Sleeps = record (s) { parking = s.parking - 1; sleeping = s.sleeping + 1 }
line_after s LineEvent.Stirs = record (s) { sleeping = s.sleeping - 1; parking = s.parking + 1 }
line_after s LineEvent.UsesNote = record (s) { parking = s.parking - 1; notified = s.notified - 1; retrying = s.retrying + 1 }
line_after s LineEvent.GivesUp = record (s) { parking = s.parking - 1; waiting = s.waiting - 1 }
line_after s LineEvent.RetryFinds = record (s) { retrying = s.retrying - 1; things = s.things - 1 }
line_after s LineEvent.RetryFindsNone = record (s) { retrying = s.retrying - 1 }
line_after s LineEvent.RetryEnds = record (s) { retrying = s.retrying - 1 }
line_after s LineEvent.RetryIsRefused = record (s) { retrying = s.retrying - 1; refused = s.refused + 1 }

-- A thread is at the place. A look finds a thing if there is one, and the end if the queue is closed. A call sleeps, or gives up, only
-- while there is no notification.
abbrev pub LineMay : Line → LineEvent → Type 0
LineMay s (LineEvent.Makes n) = Unit {0}
LineMay s LineEvent.Takes = 0 < s.things
LineMay s (LineEvent.Notifies n) = n ≤ s.owed
LineMay s LineEvent.Closes = Unit {0}
LineMay s LineEvent.NotifiesAll = 0 < s.closing
LineMay s LineEvent.PassesOn = 0 < s.refused
LineMay s (LineEvent.Wakes n) = n ≤ s.wakes
LineMay s LineEvent.Joins = Unit {0}
LineMay s LineEvent.LookFinds = (0 < s.looking) × (0 < s.things)
LineMay s LineEvent.LookFindsNone = (0 < s.looking) × (s.things ≡ 0) × (s.closes ≡ 0)
LineMay s LineEvent.LookEnds = (0 < s.looking) × (0 < s.closes)
LineMay s LineEvent.LookIsRefused = 0 < s.looking
LineMay s LineEvent.Leaves = 0 < s.leaving
LineMay s LineEvent.Sleeps = (0 < s.parking) × (s.notified ≡ 0)
LineMay s LineEvent.Stirs = 0 < s.sleeping
LineMay s LineEvent.UsesNote = (0 < s.parking) × (0 < s.notified)
LineMay s LineEvent.GivesUp = (0 < s.parking) × (s.notified ≡ 0)
LineMay s LineEvent.RetryFinds = (0 < s.retrying) × (0 < s.things)
LineMay s LineEvent.RetryFindsNone = (0 < s.retrying) × (s.things ≡ 0) × (s.closes ≡ 0)
LineMay s LineEvent.RetryEnds = (0 < s.retrying) × (0 < s.closes)
LineMay s LineEvent.RetryIsRefused = 0 < s.retrying

-- the line after some events, of which the newest is the first, by what an event changes
abbrev pub line_by : (after : Line → LineEvent → Line) → List LineEvent → Line
line_by after [] = empty_line
line_by after (e ∷ earlier) = after (line_by after earlier) e

-- each of these events might come when it came
abbrev pub IsRunBy : (after : Line → LineEvent → Line) (May : Line → LineEvent → Type 0) → List LineEvent → Type 0
IsRunBy after May [] = Unit {0}
IsRunBy after May (e ∷ earlier) = IsRunBy after May earlier × May (line_by after earlier) e

abbrev pub line_of : List LineEvent → Line
line_of events = line_by line_after events

abbrev pub IsLineRun : List LineEvent → Type 0
IsLineRun events = IsRunBy line_after LineMay events

-- no thread has a step to make: each call in line sleeps
pub record IsAtRest (s : Line) : Type 0 where
  pub looking : s.looking ≡ 0
  pub leaving : s.leaving ≡ 0
  pub parking : s.parking ≡ 0
  pub retrying : s.retrying ≡ 0
  pub refused : s.refused ≡ 0
  pub owed : s.owed ≡ 0
  pub closing : s.closing ≡ 0
  pub wakes : s.wakes ≡ 0

-- At rest no call sleeps beside a thing, or in a queue that is closed.
abbrev pub LosesNoWakeUp : (after : Line → LineEvent → Line) (May : Line → LineEvent → Type 0) → Type 0
LosesNoWakeUp after May = (events : List LineEvent) → IsRunBy after May events → IsAtRest (line_by after events) → 0 < (line_by after events).sleeping
    → ((line_by after events).things ≡ 0) × ((line_by after events).closes ≡ 0)

abbrev pub NoWakeUpIsLost : Type 0
NoWakeUpIsLost = LosesNoWakeUp line_after LineMay

-- At each moment, if a call sleeps and there is a thing, or the queue is closed, some thread still has a step to make.
abbrev pub ThingsAreOwed : Type 0
ThingsAreOwed = (events : List LineEvent) → IsLineRun events → let s : Line = line_of events in
    0 < s.sleeping → 0 < s.things + s.closes → 0 < s.looking + s.leaving + s.parking + s.retrying + s.refused + s.owed + s.closing + s.wakes
