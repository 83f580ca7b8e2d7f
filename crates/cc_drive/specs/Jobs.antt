-- The state at the start of a worker's thread.
use Rattle.std.specs.Prelude.{ℕ, ◌≡◌, ◌+◌, ◌-◌, ◌^◌, ◌<◌, length, vec_len}
use Rattle.cc_drive.specs.Names.{Pass, Served, DriveConfig}
use Rattle.cc_runs.specs.State.{pass_at}
use Rattle.cc_steps.specs.Topic.{Topic}
use Rattle.cc_steps.specs.Walk.{Walk, fresh, fresh_from}
use Rattle.cc_drive.specs.Config.{queue_of}
use Rattle.cc_drive.specs.Row.{InRow}
use Rattle.cc_drive.specs.declared.jobs.WorkerJob.{WorkerJob}
use Rattle.cc_drive.specs.declared.jobs.Passes.{Passes}
use Rattle.cc_drive.specs.declared.jobs.Workers.{Workers}

-- A sender's job, at this place in the row of all passes: its pass has done nothing, and its number is that of the pass. It
-- may begin as many sends as one sender ever may.
abbrev pub IsSending : {G : Type 0} → Topic → ℕ → WorkerJob Walk G → Type 0
IsSending z row j = (j.pass ≡ fresh z row) × (pass_at z.setting.config row ≡ Pass.Sender j.number) × (z.setting.config.per_sender ≡ 2 ^ 32 - 1)

-- and a receiver's
abbrev pub IsTaking : {G : Type 0} → Topic → ℕ → WorkerJob Walk G → Type 0
IsTaking z row j = (j.pass ≡ fresh z row) × (pass_at z.setting.config row ≡ Pass.Receiver j.number)

-- The queue of a run, which was opened for this configuration.
pub record IsQueueOf (c : DriveConfig) (z : Topic) : Type 0 where
  pub setting : z.setting ≡ record { served = Served.List; config = queue_of c }
  pub few : c.senders + c.receivers < 2 ^ 16
  pub some : 0 < c.receivers

-- Its passes, none of which has done anything: in the row of all passes the senders come first, then the closer, then the
-- receivers.
pub record ArePasses (z : Topic) (c : DriveConfig) (all : Passes) : Type 0 where
  pub queue : IsQueueOf c z
  pub closer : all.closer ≡ fresh z c.senders
  pub senders : fresh_from z 0 all.senders.items
  pub count_senders : length all.senders.items ≡ c.senders
  pub receivers : fresh_from z (c.senders + 1) all.receivers.items
  pub count_receivers : length all.receivers.items ≡ c.receivers

-- And its workers, each with its pass.
pub record AreReady {G : Type 0} (z : Topic) (c : DriveConfig) (all : Workers G) : Type 0 where
  pub queue : IsQueueOf c z
  pub closer : all.closer ≡ fresh z c.senders
  pub senders : InRow (IsSending z) 0 all.senders.items
  pub count_senders : vec_len all.senders ≡ c.senders
  pub receivers : InRow (IsTaking z) (c.senders + 1) all.receivers.items
  pub count_receivers : vec_len all.receivers ≡ c.receivers
