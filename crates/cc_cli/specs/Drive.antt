-- The answer of a run by threads, its texts, and its status.
use Rattle.std.specs.Prelude.{ℕ, ◌≡◌, ◌⊎◌, ◌+◌, ◌++◌, List, [], ◌∷◌, codes, Option, Result, Ok, Err}
use Rattle.std.specs.Io.KnownBytes.{Keeps, Appends}
use Rattle.cc_model.specs.Items.{IsPrefix}
use Rattle.cc_io.specs.Written.{word_text}
use Rattle.cc_audit.specs.declared.receipt.Verdict.{Verdict}
use Rattle.cc_report.specs.Report.{verdict_text}
use Rattle.cc_io.specs.FaultLine.{Told, no_memory_line}
use Rattle.cc_drive.specs.declared.config.DriveConfig.{DriveConfig}
use Rattle.cc_drive.specs.declared.config.DriveEnd.{DriveEnd}
use Rattle.cc_drive.specs.declared.config.DriveFault.{DriveFault}
use Rattle.cc_drive.specs.Ran.{IsWhole}
use Rattle.cc_cli.specs.declared.driving.RunFault.{RunFault}

-- the lines of both counts
unfoldable pub counts_text : ℕ → ℕ → List ℕ
counts_text sent taken = word_text (codes "sent ") sent ++ word_text (codes "\ntaken ") taken ++ codes "\n"

-- the lines of the counts, and the line of the verdict
unfoldable pub end_text : DriveEnd → List ℕ
end_text e = counts_text e.sent e.taken ++ verdict_text e.verdict

-- The bytes that a run leaves on the sink, with its number of failed writes: the whole text of its end, a prefix of it if a
-- write failed, and nothing if it has no end.
abbrev pub Leaves : DriveConfig → Result DriveEnd RunFault → Option (List ℕ) → Option (List ℕ) → ℕ → ℕ → Type 0
Leaves c (Ok e) old new fails fails_after = IsWhole c e × Appends old new (end_text e) × (fails_after ≡ fails)
Leaves c (Err RunFault.Write) old new fails fails_after = (e : DriveEnd) × (front : List ℕ) × IsWhole c e × IsPrefix front (end_text e) × Appends old new front × (fails_after ≡ fails + 1)
Leaves c (Err (RunFault.Drive f)) old new fails fails_after = Keeps old new × (fails_after ≡ fails)

-- the exit status
abbrev pub status_of : Result Verdict RunFault → ℕ
status_of (Ok Verdict.Clean) = 0
status_of (Ok (Verdict.Fault kind place)) = 1
status_of (Err (RunFault.Drive (DriveFault.Config f))) = 64
status_of (Err (RunFault.Drive f)) = 3
status_of (Err RunFault.Write) = 4

-- the line on standard error: none if all went well
unfoldable pub line_of : Result Verdict RunFault → List ℕ
line_of (Ok verdict) = []
line_of (Err (RunFault.Drive DriveFault.NoMemory)) = no_memory_line
line_of (Err (RunFault.Drive DriveFault.Thread)) = codes "ccq: a thread was refused\n"
line_of (Err (RunFault.Drive (DriveFault.Limit n))) = codes "ccq: a worker reached its limit\n"
line_of (Err (RunFault.Drive (DriveFault.Config f))) = codes "ccq: a number is out of its range\n"
line_of (Err RunFault.Write) = codes "ccq: writing failed\n"

-- what is audited of a run
abbrev pub verdict_in : Result DriveEnd RunFault → Result Verdict RunFault
verdict_in (Ok e) = Ok e.verdict
verdict_in (Err f) = Err f

-- The bytes that a drive leaves on both outputs: it is done, and its outcome reported.
abbrev pub Drives : DriveConfig → (old new : Option (List ℕ)) → (fails fails_after : ℕ) → (errors_old errors_new : Option (List ℕ)) → (before after status : ℕ) → Type 0
Drives c old new fails fails_after errors_old errors_new before after status = (outcome : Result DriveEnd RunFault) × Leaves c outcome old new fails fails_after
    × (status ≡ status_of (verdict_in outcome)) × Told errors_old errors_new before after (line_of (verdict_in outcome))
