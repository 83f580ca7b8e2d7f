-- The exit status of a judged log.
use Rattle.std.specs.Prelude.{ℕ, ◌≡◌, ◌≢◌, ◌<◌, ◌≤◌, ◌⊎◌, Bool, true, false, List, [], Option, Some, Result, Ok, Err, slice_get}
use Rattle.cc_judge.specs.Cuts.{MeetAt}
use Rattle.cc_judge.specs.Verdict.{IsDecided, IsSmall, IsVerdict}
use Rattle.cc_judge.specs.declared.decide.Verdict.{Verdict}
use Rattle.cc_log.specs.Follow.{AreInCleanParts, ArePartOf, HasRules, NumberedLine, part_of}
use Rattle.cc_log.specs.Lines.{HasInput, lines_of}
use Rattle.cc_log.specs.Log.{Refusal, Spelled, log_of}
use Rattle.cc_cli.specs.Failures.{FailsBy}
use Rattle.cc_cli.specs.Names.{AnswerFault, Call, LogFault, Options, Rules, Tie}

-- the status of a verdict: clean, a fault, or undecided
abbrev pub verdict_status : Verdict → ℕ
verdict_status Verdict.Clean = 0
verdict_status (Verdict.Fault fault) = 1
verdict_status (Verdict.Undecided tie) = 5

-- the status if this one's answer was written, and if it wasn't
abbrev pub told_status : ℕ → Result (Unit {0}) AnswerFault → ℕ
told_status status (Ok done) = status
told_status status (Err AnswerFault.Memory) = 3
told_status status (Err AnswerFault.Write) = 4

-- the status of a verdict, or that memory was refused or a write failed
abbrev pub IsTold : Verdict → ℕ → Type 0
IsTold verdict status = (status ≡ 3) ⊎ ((status ≡ 4) ⊎ (status ≡ verdict_status verdict))

-- how many writes failed
abbrev pub failed_by : AnswerFault → ℕ
failed_by AnswerFault.Memory = 0
failed_by AnswerFault.Write = 1

abbrev pub failed_writes : Result (Unit {0}) AnswerFault → ℕ
failed_writes (Ok done) = 0
failed_writes (Err fault) = failed_by fault

-- The status is that of a right verdict on the log, which decides it if it is well-formed, in whatever form this was written; or says
-- that memory was refused or a write failed.
abbrev pub IsJudged : Rules → List Call → (items status : ℕ) → Type 0
IsJudged rules calls items status = (status ≡ 3) ⊎ ((verdict : Verdict) × IsVerdict rules calls verdict × IsDecided rules calls items verdict × ((status ≡ verdict_status verdict) ⊎ (status ≡ 4)))

-- the status if an input is refused
abbrev pub IsRefused : LogFault → ℕ → Type 0
IsRefused LogFault.Memory status = status ≡ 3
IsRefused LogFault.Read status = status ≡ 4
IsRefused _ status = (status ≡ 2) ⊎ (status ≡ 3)

-- a call of the log has a time of 2^62 or more
pub record HasLongTime (calls : List Call) : Type 0 where
  pub place : ℕ
  pub call : Call
  pub call_is : slice_get calls place ≡ Some call
  pub long : (4611686018427387904 ≤ call.begin) ⊎ ((end : ℕ) × (call.end ≡ Some end) × (4611686018427387904 ≤ end))

-- of two calls that only their lines order, the later one began before the earlier one ended
pub record HasOverlap (calls : List Call) (ties : List Tie) : Type 0 where
  pub i : ℕ
  pub tie : Tie
  pub tie_is : slice_get ties i ≡ Some tie
  pub one : Call
  pub other : Call
  pub one_is : slice_get calls tie.earlier ≡ Some one
  pub other_is : slice_get calls tie.later ≡ Some other
  pub end : ℕ
  pub ended : one.end ≡ Some end
  pub before : other.begin < end

-- two pairs of such calls meet at one time
pub record MeetAtOnce (calls : List Call) (ties : List Tie) : Type 0 where
  pub i : ℕ
  pub j : ℕ
  pub apart : i ≢ j
  pub tie : Tie
  pub other : Tie
  pub tie_is : slice_get ties i ≡ Some tie
  pub other_is : slice_get ties j ≡ Some other
  pub time : ℕ
  pub met : MeetAt calls tie time
  pub other_met : MeetAt calls other time

-- Lines alone order calls of the log, which isn't small. And of these calls more than two meet at a time, or two overlap by the skew, or
-- a time is 2^62 or more.
abbrev pub IsHard : (skew : ℕ) → Rules → List Call → Type 0
IsHard skew rules calls = (rules.ties.items ≢ []) × (IsSmall rules calls → ⊥) × (MeetAtOnce calls rules.ties.items ⊎ (((skew ≢ 0) × HasOverlap calls rules.ties.items) ⊎ HasLongTime calls))

-- The status is that of a right verdict on the log that an input spells, or 2 if the input spells none. It is 5, undecided, only if
-- the log is hard.
abbrev pub IsDue : Options → Result Spelled Refusal → ℕ → Type 0
IsDue options (Ok log) status = (rules : Rules) × (verdict : Verdict) × HasRules options log rules × IsVerdict rules log.calls verdict × (status ≡ verdict_status verdict) × (status ≡ 5 → IsHard options.skew rules log.calls)
IsDue options (Err refusal) status = status ≡ 2

-- The same of a part of a log that is followed, the last one that was judged: some of its lines. Of a clean log each line is in a part
-- that is clean.
pub record IsPartDue (options : Options) (lines : List (List ℕ)) (status : ℕ) : Type 0 where
  pub part : List NumberedLine
  pub of_log : ArePartOf lines part
  pub due : IsDue options (part_of options part) status
  pub clean : status ≡ 0 → AreInCleanParts options lines

-- the status is due of the log of an input, which is followed or isn't
abbrev pub IsInputDue : (follow : Bool) → Options → (input : List ℕ) → ℕ → Type 0
IsInputDue false options input status = IsDue options (log_of options input) status
IsInputDue true options input status = IsPartDue options (lines_of input) status

-- the status is due of an input of the source, or it is 3 or 4
abbrev pub IsDueOrNone : (follow : Bool) → Options → (left : Option (List ℕ)) → ℕ → Type 0
IsDueOrNone follow options left status = (status ≡ 3) ⊎ ((status ≡ 4) ⊎ ((input : List ℕ) × HasInput left input × IsInputDue follow options input status))

-- The input of a source was judged: the status is due, or it is 4 exactly if a device failed, or 3 if memory was refused.
pub record Judges (options : Options) (left : Option (List ℕ)) (reads reads_after fails fails_after status : ℕ) : Type 0 where
  pub due : IsDueOrNone options.follow options left status
  pub failures : FailsBy reads reads_after fails fails_after status
