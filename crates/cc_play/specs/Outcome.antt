-- The exit status and the line on standard error, by the result of an input.
use Rattle.std.specs.Prelude.{ℕ, ◌++◌, List, [], codes, Result, Ok, Err}
use Rattle.cc_io.specs.FaultLine.{no_memory_line}
use Rattle.cc_io.specs.Written.{word_text}
use Rattle.cc_play.specs.Names.{PlanFault, Verdict, PlayFault}

-- the exit status
abbrev pub status_of : Result Verdict PlayFault → ℕ
status_of (Ok Verdict.Clean) = 0
status_of (Ok (Verdict.Fault kind place)) = 1
status_of (Err (PlayFault.Plan PlanFault.NoMemory)) = 3
status_of (Err (PlayFault.Plan f)) = 2
status_of (Err PlayFault.Read) = 4
status_of (Err PlayFault.Write) = 4
status_of (Err PlayFault.NoMemory) = 3

-- the line if the input is refused
unfoldable pub refusal_line : PlanFault → List ℕ
refusal_line PlanFault.NotJson = codes "ccq: plan refused: P1\n"
refusal_line PlanFault.Shape = codes "ccq: plan refused: P2\n"
refusal_line (PlanFault.Range key) = codes "ccq: plan refused: P3 " ++ key.now ++ codes "\n"
refusal_line (PlanFault.UnknownPass place) = word_text (codes "ccq: plan refused: P4 at ") place ++ codes "\n"
refusal_line PlanFault.NoMemory = no_memory_line

-- the line on standard error: none if all went well
unfoldable pub line_of : Result Verdict PlayFault → List ℕ
line_of (Ok verdict) = []
line_of (Err (PlayFault.Plan f)) = refusal_line f
line_of (Err PlayFault.Read) = codes "ccq: reading failed\n"
line_of (Err PlayFault.Write) = codes "ccq: writing failed\n"
line_of (Err PlayFault.NoMemory) = no_memory_line
