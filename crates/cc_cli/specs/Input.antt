-- The parts of an input.
use Rattle.std.specs.Prelude.{ℕ}
use Rattle.cc_cli.specs.Names.{Input}

-- the reader of the input
abbrev pub within : {T : Type 0} → Input T → T
within d = d.inner

-- how often it has failed
abbrev pub counted : {T : Type 0} → Input T → ℕ
counted d = d.failures
