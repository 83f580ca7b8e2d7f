-- Wrong rules of a descriptor: by each of them a poller sleeps for ever beside something to find.
use Rattle.std.specs.Prelude.{◌+◌, ◌-◌}
use Rattle.cc_waits.specs.Bell.{Bell, BellEvent, bell_after, BellMay, MissesNothing}

-- the descriptor is armed before it is drained: `Arms` comes first, and a look follows `Drains`
abbrev pub arms_first : Bell → BellEvent → Bell
arms_first s BellEvent.TryFindsNone = record (s) { trying = s.trying - 1; arming = s.arming + 1 }
arms_first s BellEvent.Arms = record (s) { arming = s.arming - 1; armed = 1; draining = s.draining + 1 }
arms_first s BellEvent.Drains = record (s) { draining = s.draining - 1; count = 0; looking = s.looking + 1 }
arms_first s e = bell_after s e

-- there is no look after the descriptor was armed
abbrev pub looks_no_more : Bell → BellEvent → Bell
looks_no_more s BellEvent.Arms = record (s) { arming = s.arming - 1; armed = 1 }
looks_no_more s e = bell_after s e

-- a look that found something doesn't check
abbrev pub keeps_ring : Bell → BellEvent → Bell
keeps_ring s BellEvent.LookFinds = record (s) { looking = s.looking - 1; things = s.things - 1 }
keeps_ring s e = bell_after s e

-- a close doesn't check
abbrev pub closes_silently : Bell → BellEvent → Bell
closes_silently s BellEvent.Closes = record (s) { closes = s.closes + 1 }
closes_silently s e = bell_after s e

-- a descriptor that was disarmed isn't written into
abbrev pub rings_none : Bell → BellEvent → Bell
rings_none s BellEvent.Rings = record (s) { ringing = s.ringing - 1 }
rings_none s e = bell_after s e

-- a try that finds nothing arms nothing
abbrev pub never_arms : Bell → BellEvent → Bell
never_arms s BellEvent.Arms = record (s) { arming = s.arming - 1; looking = s.looking + 1 }
never_arms s e = bell_after s e

pub record WrongBells : Type 0 where
  pub early_arm : MissesNothing arms_first BellMay → ⊥
  pub no_look : MissesNothing looks_no_more BellMay → ⊥
  pub kept_ring : MissesNothing keeps_ring BellMay → ⊥
  pub silent_close : MissesNothing closes_silently BellMay → ⊥
  pub none_rung : MissesNothing rings_none BellMay → ⊥
  pub never_armed : MissesNothing never_arms BellMay → ⊥
