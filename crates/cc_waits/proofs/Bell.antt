-- No bell is missed.
use Rattle.std.proofs.Common.{◌≡◌, ◌+◌, ◌<◌, List, [], ◌∷◌, inl, inr, arith}
use Rattle.std.proofs.lemmas.Bool.{cases_lt}
use Rattle.cc_waits.specs.Bell.{Bell, BellEvent, bell_after, BellMay, bell_by, IsRungBy, NoBellIsMissed}

-- A descriptor that isn't armed is readable, or is about to be written into or armed.
record Holds (s : Bell) : Type 0 where
  disarmed : s.armed ≡ 0 → 0 < s.count + s.ringing + s.arming
  found : 0 < s.things + s.closes → 0 < s.count + s.owed + s.ringing + s.arming + s.looking

module _ (s : Bell) (h : Holds s) where
  more : (e : BellEvent) → BellMay s e → Holds (bell_after s e)
  more (BellEvent.Makes n) may = record { disarmed = h.disarmed; found = λ some. omega arith }
  more BellEvent.Closes may = record { disarmed = h.disarmed; found = λ some. omega arith }
  more BellEvent.Takes may = record { disarmed = h.disarmed; found = λ some. h.found (omega (arith, some)) }
  more BellEvent.Checks may = elim (cases_lt 0 s.armed) [
    | inl armed ↦ record { disarmed = λ is. omega (arith, armed); found = λ some. omega (arith, armed) }
    | inr none ↦ record { disarmed = λ is. omega (arith, h.disarmed (omega (arith, none))); found = λ some. omega (arith, h.disarmed (omega (arith, none))) }
  ]
  more BellEvent.Rings may = record { disarmed = λ is. omega arith; found = λ some. omega arith }
  more BellEvent.Polls may = record { disarmed = h.disarmed; found = h.found }
  more BellEvent.Returns may = record { disarmed = h.disarmed; found = h.found }
  more BellEvent.TryFinds may = record { disarmed = h.disarmed; found = λ some. h.found (omega (arith, some)) }
  more BellEvent.TryEnds may = record { disarmed = h.disarmed; found = h.found }
  more BellEvent.TryFindsNone may = record { disarmed = h.disarmed; found = h.found }
  more BellEvent.Drains may = record { disarmed = λ is. omega arith; found = λ some. omega arith }
  more BellEvent.Arms may = record { disarmed = λ is. absurd (omega (arith, is)); found = λ some. omega arith }
  more BellEvent.LookFinds may = record { disarmed = h.disarmed; found = λ some. omega arith }
  more BellEvent.LookEnds may = record { disarmed = h.disarmed; found = λ some. omega arith }
  more BellEvent.LookFindsNone may = record { disarmed = h.disarmed; found = λ some. absurd (omega (arith, some, may.1, may.2)) }

holds : (events : List BellEvent) → IsRungBy bell_after BellMay events → Holds (bell_by bell_after events)
holds [] run = record { disarmed = λ is. omega arith; found = λ some. omega arith }
holds (e ∷ events) run = more (bell_by bell_after events) (holds events run.0) e run.1

pub no_bell_is_missed : NoBellIsMissed
no_bell_is_missed events run some = (holds events run).found some
