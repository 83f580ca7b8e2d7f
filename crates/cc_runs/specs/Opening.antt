-- Why an opening is refused.
use Rattle.std.specs.Prelude.{◌≡◌, Ok, Err}
use Rattle.cc_model.specs.Config.{config_fault}
use Rattle.cc_runs.specs.Names.{Config, OpenFault}

-- an opening is refused for the configuration's first fault, or else for lack of memory
abbrev pub IsOpenFault : Config → OpenFault → Type 0
IsOpenFault c (OpenFault.Config f) = config_fault c ≡ Err f
IsOpenFault c OpenFault.NoMemory = config_fault c ≡ Ok tt
