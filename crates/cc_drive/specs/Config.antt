-- The configuration of a run.
use Rattle.std.specs.Prelude.{ℕ, ◌≤◌, ◌+◌, ◌-◌, ◌^◌, not, if◌then◌else◌, Result, Err, ⊤}
use Rattle.cc_model.specs.Range.{within}
use Rattle.cc_model.specs.Config.{config_fault}
use Rattle.cc_drive.specs.Names.{Config, ConfigFault, DriveConfig, DriveFault}

-- the queue of a run: it has one sender more, who closes it, and no other limits than a queue can have
abbrev pub queue_of : DriveConfig → Config
queue_of c = record {
  senders = c.senders + 1;
  receivers = c.receivers;
  capacity = c.capacity;
  bound = c.bound;
  life = 2 ^ 48;
  per_sender = 2 ^ 32 - 1;
  groups = 1;
}

-- the first field out of its range
abbrev pub drive_fault : DriveConfig → Result ⊤ ConfigFault
drive_fault c = if not (within 1 63 c.senders) then Err ConfigFault.Senders else config_fault (queue_of c)

-- Why a run of this number of workers can have no end, if its configuration has no fault: never a fault of the configuration.
-- At a limit is one of the workers, from 0, or the closer, whose number is the next.
abbrev pub IsDue : (workers : ℕ) → DriveFault → Type 0
IsDue workers (DriveFault.Config f) = ⊥
IsDue workers (DriveFault.Limit n) = n ≤ workers
IsDue workers _ = ⊤
