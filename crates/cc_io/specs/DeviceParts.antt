-- The parts of a device.
use Rattle.std.specs.Prelude.{ℕ}
use Rattle.cc_io.specs.Names.{Device}

-- the reader or writer of the device
abbrev pub inside : {T : Type 0} → Device T → T
inside d = d.inner

-- how often it has failed
abbrev pub failure_count : {T : Type 0} → Device T → ℕ
failure_count d = d.failures
