-- By each wrong rule some run leaves a poller asleep beside something to find.
use Rattle.std.proofs.Common.{◌≡◌, ◌<◌, ◌+◌, List, [], ◌∷◌, refl, arith}
use Rattle.cc_waits.specs.Bell.{Bell, BellEvent, BellMay, bell_by, IsRungBy, MissesNothing}
use Rattle.cc_waits.specs.WrongBells.{arms_first, looks_no_more, keeps_ring, closes_silently, rings_none, never_arms, WrongBells}

-- a poller is woken, finds nothing, and drains the descriptor; the newest event is the first
abbrev finds_none : List BellEvent
finds_none = BellEvent.TryFindsNone ∷ BellEvent.Returns ∷ BellEvent.Polls ∷ []

abbrev drained : List BellEvent
drained = BellEvent.Drains ∷ finds_none

-- A rule is wrong if some run leaves something to find, and no thread that makes the descriptor readable.
wrong_by : (after : Bell → BellEvent → Bell) (events : List BellEvent) → IsRungBy after BellMay events → 0 < (bell_by after events).things + (bell_by after events).closes
    → (bell_by after events).count + (bell_by after events).owed + (bell_by after events).ringing + (bell_by after events).arming + (bell_by after events).looking ≡ 0
    → MissesNothing after BellMay → ⊥
wrong_by after events run some none law = omega (arith, none, law events run some)

pub wrong_bells : WrongBells
wrong_bells = record {
  early_arm = wrong_by arms_first (BellEvent.Checks ∷ BellEvent.LookFinds ∷ BellEvent.Drains ∷ BellEvent.Rings ∷ BellEvent.Checks ∷ BellEvent.Makes 2 ∷ BellEvent.Arms ∷ finds_none)
      ((((((((((tt, tt), (omega arith, omega arith)), (omega arith, refl, refl)), omega arith), tt), omega arith), omega arith), omega arith), (omega arith, omega arith)), omega arith) (omega arith) refl;
  no_look = wrong_by looks_no_more (BellEvent.Arms ∷ BellEvent.Checks ∷ BellEvent.Makes 1 ∷ drained)
      (((((((tt, tt), (omega arith, omega arith)), (omega arith, refl, refl)), omega arith), tt), omega arith), omega arith) (omega arith) refl;
  kept_ring = wrong_by keeps_ring (BellEvent.LookFinds ∷ BellEvent.Arms ∷ BellEvent.Checks ∷ BellEvent.Makes 2 ∷ drained)
      ((((((((tt, tt), (omega arith, omega arith)), (omega arith, refl, refl)), omega arith), tt), omega arith), omega arith), (omega arith, omega arith)) (omega arith) refl;
  silent_close = wrong_by closes_silently (BellEvent.Closes ∷ BellEvent.LookFindsNone ∷ BellEvent.Arms ∷ drained)
      (((((((tt, tt), (omega arith, omega arith)), (omega arith, refl, refl)), omega arith), omega arith), (omega arith, refl, refl)), tt) (omega arith) refl;
  none_rung = wrong_by rings_none (BellEvent.Rings ∷ BellEvent.Checks ∷ BellEvent.Makes 1 ∷ BellEvent.LookFindsNone ∷ BellEvent.Arms ∷ drained)
      (((((((((tt, tt), (omega arith, omega arith)), (omega arith, refl, refl)), omega arith), omega arith), (omega arith, refl, refl)), tt), omega arith), omega arith) (omega arith) refl;
  never_armed = wrong_by never_arms (BellEvent.Checks ∷ BellEvent.Makes 1 ∷ BellEvent.LookFindsNone ∷ BellEvent.Arms ∷ drained)
      ((((((((tt, tt), (omega arith, omega arith)), (omega arith, refl, refl)), omega arith), omega arith), (omega arith, refl, refl)), tt), omega arith) (omega arith) refl;
}
