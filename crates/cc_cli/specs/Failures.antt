-- The failures of a task's devices, by its status.
use Rattle.std.specs.Prelude.{ℕ, ◌≡◌, ◌≤◌, ◌+◌, ◌==◌, if◌then◌else◌}

-- By the counts of both devices before and after: one read or one write failed if the status is 4, and none if it is another one.
pub record FailsBy (reads reads_after fails fails_after status : ℕ) : Type 0 where
  pub reads_grow : reads ≤ reads_after
  pub writes_grow : fails ≤ fails_after
  pub counted : reads_after + fails_after ≡ reads + fails + (if status == 4 then 1 else 0)
