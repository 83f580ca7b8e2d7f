-- The answer to a line that asks for no task: help, the version, or what is wrong with it.
use Rattle.std.specs.Prelude.{ℕ, ◌≡◌, ◌⊎◌, Bool, codes, if◌then◌else◌, List, [], Option}
use Rattle.std.specs.Io.KnownBytes.{Keeps}
use Rattle.clap.specs.declared.error.kind.ErrorKind.{ErrorKind}
use Rattle.cc_io.specs.FaultLine.{Told, no_memory_line}
use Rattle.cc_io.specs.Written.{Writes}

-- The bytes that such a line leaves on both outputs, each with its number of failed writes, and the status.
module _ (old new : Option (List ℕ)) (fails fails_after : ℕ) (errors_old errors_new : Option (List ℕ)) (before after status : ℕ) where
  -- there was no memory to read the line or to answer it
  abbrev pub RunsOut : Type 0
  RunsOut = (status ≡ 3) × Keeps old new × (fails_after ≡ fails) × Told errors_old errors_new before after no_memory_line

  -- a text of help, or the version, was written; or a prefix of it was, and a write failed
  abbrev pub Helps : Type 0
  Helps = (text : List ℕ) × ((failed : Bool) × Writes failed old new fails fails_after text × (status ≡ (if failed then 4 else 0))
      × Told errors_old errors_new before after (if failed then codes "ccq: writing failed\n" else []))

  -- the fault of the line was reported
  abbrev pub Complains : Type 0
  Complains = (status ≡ 64) × Keeps old new × (fails_after ≡ fails) × ((text : List ℕ) × Told errors_old errors_new before after text)

  -- how the line is answered, by what was found in it
  abbrev pub Declines : ErrorKind → Type 0
  Declines ErrorKind.DisplayHelp = Helps ⊎ RunsOut
  Declines ErrorKind.DisplayVersion = Helps ⊎ RunsOut
  Declines ErrorKind.OutOfMemory = RunsOut
  Declines _ = Complains ⊎ RunsOut
