-- The options by which a log is judged.
use Rattle.std.specs.Prelude.{None, false}
use Rattle.cc_log.specs.Names.{Options}

-- no options
abbrev pub no_options : Options
no_options = record { capacity = None; skew = 0; times = false; page = false; follow = false; window = record { from = None; until = None } }
