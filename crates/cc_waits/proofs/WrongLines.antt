-- By each wrong rule some run ends with a call that sleeps beside a thing, or in a queue that is closed.
use Rattle.std.proofs.Common.{◌≡◌, ◌<◌, ◌+◌, ℕ, List, [], ◌∷◌, refl, arith}
use Rattle.cc_waits.specs.Line.{Line, LineEvent, line_after, LineMay, line_by, IsRunBy, IsAtRest, LosesNoWakeUp}
use Rattle.cc_waits.specs.WrongLines.{
  MayNotLook,
  MaySleepNotified,
  wakes_none,
  wakes_one,
  notifies_one,
  tries_no_more,
  keeps_it,
  checks_first,
  MayCheckFirst,
  looks_first,
  MayLookFirst,
  closes_silently,
  close_notifies_one,
  WrongLines,
}

-- one call sleeps, and two; the newest event is the first
abbrev one_sleeps : List LineEvent
one_sleeps = LineEvent.Sleeps ∷ LineEvent.LookFindsNone ∷ LineEvent.Joins ∷ []

abbrev two_sleep : List LineEvent
two_sleep = LineEvent.Sleeps ∷ LineEvent.LookFindsNone ∷ LineEvent.Joins ∷ one_sleeps

-- things are made while two calls sleep, as many calls are notified and woken, and one of them leaves the line
abbrev one_of_two_leaves : ℕ → List LineEvent
one_of_two_leaves n = LineEvent.UsesNote ∷ LineEvent.Wakes n ∷ LineEvent.Notifies n ∷ LineEvent.Makes n ∷ two_sleep

-- A rule is wrong if some run ends with a call that sleeps beside something to find.
wrong_by : (after : Line → LineEvent → Line) (May : Line → LineEvent → Type 0) (events : List LineEvent) → IsRunBy after May events → IsAtRest (line_by after events)
    → 0 < (line_by after events).sleeping → 0 < (line_by after events).things + (line_by after events).closes → LosesNoWakeUp after May → ⊥
wrong_by after May events run rest asleep some law =
    let none : ((line_by after events).things ≡ 0) × ((line_by after events).closes ≡ 0) = law events run rest asleep in
    omega (arith, none.0, none.1, some)

pub wrong_lines : WrongLines
wrong_lines = record {
  no_look = wrong_by line_after MayNotLook (LineEvent.Sleeps ∷ LineEvent.LookFindsNone ∷ LineEvent.Joins ∷ LineEvent.Notifies 1 ∷ LineEvent.Makes 1 ∷ [])
      (((((tt, tt), omega arith), tt), omega arith), (omega arith, refl)) (record { looking = refl; leaving = refl; parking = refl; retrying = refl; refused = refl; owed = refl; closing = refl; wakes = refl }) (omega arith) (omega arith);
  notified_sleeper = wrong_by line_after MaySleepNotified
      (LineEvent.Sleeps ∷ LineEvent.Wakes 1 ∷ LineEvent.Notifies 1 ∷ LineEvent.Makes 1 ∷ LineEvent.LookFindsNone ∷ LineEvent.Joins ∷ [])
      ((((((tt, tt), (omega arith, refl, refl)), tt), omega arith), omega arith), omega arith) (record { looking = refl; leaving = refl; parking = refl; retrying = refl; refused = refl; owed = refl; closing = refl; wakes = refl }) (omega arith) (omega arith);
  none_woken = wrong_by wakes_none LineMay (LineEvent.Wakes 1 ∷ LineEvent.Notifies 1 ∷ LineEvent.Makes 1 ∷ one_sleeps)
      ((((((tt, tt), (omega arith, refl, refl)), (omega arith, refl)), tt), omega arith), omega arith) (record { looking = refl; leaving = refl; parking = refl; retrying = refl; refused = refl; owed = refl; closing = refl; wakes = refl }) (omega arith) (omega arith);
  one_woken = wrong_by wakes_one LineMay (LineEvent.RetryFinds ∷ one_of_two_leaves 2) (((((((((((tt, tt), (omega arith, refl, refl)), (omega arith, refl)), tt), (omega arith, refl, refl)), (omega arith, refl)), tt), omega arith), omega arith), (omega arith, omega arith)), (omega arith, omega arith)) (record { looking = refl; leaving = refl; parking = refl; retrying = refl; refused = refl; owed = refl; closing = refl; wakes = refl }) (omega arith) (omega arith);
  one_notified = wrong_by notifies_one LineMay (LineEvent.RetryFinds ∷ LineEvent.UsesNote ∷ LineEvent.Wakes 1 ∷ LineEvent.Notifies 2 ∷ LineEvent.Makes 2 ∷ two_sleep)
      (((((((((((tt, tt), (omega arith, refl, refl)), (omega arith, refl)), tt), (omega arith, refl, refl)), (omega arith, refl)), tt), omega arith), omega arith), (omega arith, omega arith)), (omega arith, omega arith)) (record { looking = refl; leaving = refl; parking = refl; retrying = refl; refused = refl; owed = refl; closing = refl; wakes = refl }) (omega arith) (omega arith);
  no_retry = wrong_by tries_no_more LineMay (one_of_two_leaves 1) ((((((((((tt, tt), (omega arith, refl, refl)), (omega arith, refl)), tt), (omega arith, refl, refl)), (omega arith, refl)), tt), omega arith), omega arith), (omega arith, omega arith)) (record { looking = refl; leaving = refl; parking = refl; retrying = refl; refused = refl; owed = refl; closing = refl; wakes = refl }) (omega arith) (omega arith);
  not_passed_on = wrong_by keeps_it LineMay (LineEvent.RetryIsRefused ∷ one_of_two_leaves 1) (((((((((((tt, tt), (omega arith, refl, refl)), (omega arith, refl)), tt), (omega arith, refl, refl)), (omega arith, refl)), tt), omega arith), omega arith), (omega arith, omega arith)), omega arith) (record { looking = refl; leaving = refl; parking = refl; retrying = refl; refused = refl; owed = refl; closing = refl; wakes = refl }) (omega arith) (omega arith);
  early_check = wrong_by checks_first MayCheckFirst (LineEvent.Makes 1 ∷ LineEvent.Sleeps ∷ LineEvent.LookFindsNone ∷ LineEvent.Joins ∷ LineEvent.Notifies 1 ∷ [])
      (((((tt, tt), tt), (omega arith, refl, refl)), (omega arith, refl)), tt) (record { looking = refl; leaving = refl; parking = refl; retrying = refl; refused = refl; owed = refl; closing = refl; wakes = refl }) (omega arith) (omega arith);
  early_look = wrong_by looks_first MayLookFirst (LineEvent.Sleeps ∷ LineEvent.Joins ∷ LineEvent.Notifies 1 ∷ LineEvent.Makes 1 ∷ LineEvent.LookFindsNone ∷ [])
      (((((tt, (refl, refl)), tt), omega arith), tt), (omega arith, refl)) (record { looking = refl; leaving = refl; parking = refl; retrying = refl; refused = refl; owed = refl; closing = refl; wakes = refl }) (omega arith) (omega arith);
  silent_close = wrong_by closes_silently LineMay (LineEvent.Closes ∷ one_sleeps) ((((tt, tt), (omega arith, refl, refl)), (omega arith, refl)), tt) (record { looking = refl; leaving = refl; parking = refl; retrying = refl; refused = refl; owed = refl; closing = refl; wakes = refl }) (omega arith) (omega arith);
  close_for_one = wrong_by close_notifies_one LineMay (LineEvent.RetryEnds ∷ LineEvent.UsesNote ∷ LineEvent.Wakes 1 ∷ LineEvent.NotifiesAll ∷ LineEvent.Closes ∷ two_sleep)
      (((((((((((tt, tt), (omega arith, refl, refl)), (omega arith, refl)), tt), (omega arith, refl, refl)), (omega arith, refl)), tt), omega arith), omega arith), (omega arith, omega arith)), (omega arith, omega arith)) (record { looking = refl; leaving = refl; parking = refl; retrying = refl; refused = refl; owed = refl; closing = refl; wakes = refl }) (omega arith) (omega arith);
}
