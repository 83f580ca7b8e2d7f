-- Wrong rules of a line. By each of them there is a run after which a call sleeps beside a thing, or in a queue that is closed, and no thread has
-- a step to make.
use Rattle.std.specs.Prelude.{◌≡◌, ◌+◌, ◌-◌, ◌<◌, min}
use Rattle.cc_waits.specs.Line.{Line, LineEvent, line_after, LineMay, noted, LosesNoWakeUp}

-- a call sleeps without a look
abbrev pub MayNotLook : Line → LineEvent → Type 0
MayNotLook s LineEvent.LookFindsNone = 0 < s.looking
MayNotLook s e = LineMay s e

-- a call sleeps though it is notified
abbrev pub MaySleepNotified : Line → LineEvent → Type 0
MaySleepNotified s LineEvent.Sleeps = 0 < s.parking
MaySleepNotified s e = LineMay s e

-- a notification wakes no call
abbrev pub wakes_none : Line → LineEvent → Line
wakes_none s (LineEvent.Wakes n) = record (s) { wakes = s.wakes - n }
wakes_none s e = line_after s e

-- several notifications wake one call
abbrev pub wakes_one : Line → LineEvent → Line
wakes_one s (LineEvent.Wakes n) = record (s) { wakes = s.wakes - n; sleeping = s.sleeping - 1; parking = s.parking + min 1 s.sleeping }
wakes_one s e = line_after s e

-- a thread that made several things notifies one call
abbrev pub notifies_one : Line → LineEvent → Line
notifies_one s (LineEvent.Notifies n) = record (noted s (min 1 s.waiting)) { owed = s.owed - n }
notifies_one s e = line_after s e

-- a call that uses a notification, since its time is over say, doesn't try again
abbrev pub tries_no_more : Line → LineEvent → Line
tries_no_more s LineEvent.UsesNote = record (s) { parking = s.parking - 1; notified = s.notified - 1 }
tries_no_more s e = line_after s e

-- a call that is refused keeps its notification
abbrev pub keeps_it : Line → LineEvent → Line
keeps_it s LineEvent.RetryIsRefused = record (s) { retrying = s.retrying - 1 }
keeps_it s e = line_after s e

-- a thread checks the line before it makes a thing
abbrev pub checks_first : Line → LineEvent → Line
checks_first s (LineEvent.Makes n) = record (s) { things = s.things + n }
checks_first s (LineEvent.Notifies n) = noted s (min n s.waiting)
checks_first s e = line_after s e

abbrev pub MayCheckFirst : Line → LineEvent → Type 0
MayCheckFirst s (LineEvent.Notifies n) = Unit {0}
MayCheckFirst s e = LineMay s e

-- a call looks before it joins
abbrev pub looks_first : Line → LineEvent → Line
looks_first s LineEvent.LookFindsNone = s
looks_first s LineEvent.Joins = record (s) { waiting = s.waiting + 1; parking = s.parking + 1 }
looks_first s e = line_after s e

abbrev pub MayLookFirst : Line → LineEvent → Type 0
MayLookFirst s LineEvent.LookFindsNone = (s.things ≡ 0) × (s.closes ≡ 0)
MayLookFirst s e = LineMay s e

-- a close notifies no call, or one alone
abbrev pub closes_silently : Line → LineEvent → Line
closes_silently s LineEvent.Closes = record (s) { closes = s.closes + 1 }
closes_silently s e = line_after s e

abbrev pub close_notifies_one : Line → LineEvent → Line
close_notifies_one s LineEvent.NotifiesAll = record (noted s (min 1 s.waiting)) { closing = s.closing - 1 }
close_notifies_one s e = line_after s e

pub record WrongLines : Type 0 where
  pub no_look : LosesNoWakeUp line_after MayNotLook → ⊥
  pub notified_sleeper : LosesNoWakeUp line_after MaySleepNotified → ⊥
  pub none_woken : LosesNoWakeUp wakes_none LineMay → ⊥
  pub one_woken : LosesNoWakeUp wakes_one LineMay → ⊥
  pub one_notified : LosesNoWakeUp notifies_one LineMay → ⊥
  pub no_retry : LosesNoWakeUp tries_no_more LineMay → ⊥
  pub not_passed_on : LosesNoWakeUp keeps_it LineMay → ⊥
  pub early_check : LosesNoWakeUp checks_first MayCheckFirst → ⊥
  pub early_look : LosesNoWakeUp looks_first MayLookFirst → ⊥
  pub silent_close : LosesNoWakeUp closes_silently LineMay → ⊥
  pub close_for_one : LosesNoWakeUp close_notifies_one LineMay → ⊥
