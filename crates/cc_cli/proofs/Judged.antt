-- The status of a judged log, by whether its answer was written.
use Rattle.std.proofs.Common.{◌≡◌, ◌⊎◌, ◌+◌, ◌==◌, ℕ, Bool, true, false, cond, List, Option, Result, Ok, Err, inl, inr, refl, sym, ap, ◌∙◌, subst, arith}
use Rattle.std.specs.Result.{IsErrAnd}
use Rattle.cc_judge.specs.declared.decide.Verdict.{Verdict}
use Rattle.cc_judge.specs.Late.{judged_capacity}
use Rattle.cc_judge.specs.Verdict.{IsDecided, IsUndecided, IsVerdict}
use Rattle.cc_cli.specs.Failures.{FailsBy}
use Rattle.cc_cli.specs.Judged.{IsDue, IsDueOrNone, IsHard, IsInputDue, IsJudged, IsRefused, IsTold, failed_by, failed_writes, told_status, verdict_status}
use Rattle.cc_cli.specs.Names.{AnswerFault, Call, Log, LogFault, Options, Rules}
use Rattle.cc_log.specs.declared.fault.LineFault.{LineFault}
use Rattle.cc_log.specs.declared.parts.Followed.{Followed}
use Rattle.cc_log.specs.Follow.{ArePartOf, Follows, HasRules, NumberedLine, RefusesPart, part_of}
use Rattle.cc_log.specs.Answers.{GivesOfInput, RefusesInput}
use Rattle.cc_log.specs.Answers.{failed_by as failed_read}
use Rattle.cc_log.specs.Lines.{HasInput, lines_of}
use Rattle.cc_log.specs.Log.{Refusal, bad_line, log_of, no_calls, sent_twice}
use Rattle.cc_log.specs.State.{log_view}
use Rattle.cc_log.specs.Written.{IsWellFormed}
use Rattle.cc_cli.proofs.Hard.{is_hard}

-- the status that is told of a verdict
pub told : (verdict : Verdict) (outcome : Result (Unit {0}) AnswerFault) (status now : ℕ) → status ≡ verdict_status verdict → now ≡ told_status status outcome → IsTold verdict now
told verdict (Ok done) status now is of = inr (inr (of ∙ is))
told verdict (Err AnswerFault.Memory) status now is of = inl of
told verdict (Err AnswerFault.Write) status now is of = inr (inl of)

-- the status of a right verdict
pub judged : (rules : Rules) (calls : List Call) (items : ℕ) (verdict : Verdict) (status : ℕ) → IsVerdict rules calls verdict → IsDecided rules calls items verdict → IsTold verdict status → IsJudged rules calls items status
judged rules calls items verdict status right decided (inl memory) = inl memory
judged rules calls items verdict status right decided (inr (inl failed)) = inr (verdict, right, decided, inr failed)
judged rules calls items verdict status right decided (inr (inr is)) = inr (verdict, right, decided, inl is)

-- only the verdict undecided has its status
undecided : (verdict : Verdict) → verdict_status verdict ≡ 5 → IsUndecided verdict
undecided Verdict.Clean is = absurd (omega (arith, is))
undecided (Verdict.Fault fault) is = absurd (omega (arith, is))
undecided (Verdict.Undecided tie) is = tt

-- so a well-formed log is hard if its status is that
hard : (skew : ℕ) (rules : Rules) (calls : List Call) (items : ℕ) (verdict : Verdict) (status : ℕ) → IsDecided rules calls items verdict → IsWellFormed skew calls items rules.ties.items → status ≡ verdict_status verdict → status ≡ 5 → IsHard skew rules calls
hard skew rules calls items verdict status decided well is five =
    is_hard skew rules calls well.tied (λ ordered. decided (undecided verdict (sym is ∙ five)) (inl ordered) well.differ well.below well.written) (λ small. decided (undecided verdict (sym is ∙ five)) (inr small) well.differ well.below well.written)

-- an answer's fault that was passed on
pub unwritten : (result : Result (Unit {0}) AnswerFault) (fault : AnswerFault) (old new : ℕ) → IsErrAnd result (λ f. f ≡ fault) → new ≡ old + failed_by fault → new ≡ old + failed_writes result
unwritten (Ok done) fault old new h is = absurd h
unwritten (Err f) fault old new h is = is ∙ ap (λ x. old + failed_by x) (sym h)

not_four : (verdict : Verdict) → (verdict_status verdict == 4) ≡ false
not_four Verdict.Clean = refl
not_four (Verdict.Fault fault) = refl
not_four (Verdict.Undecided tie) = refl

-- the status of an answer is 4 if and only if its write failed
pub counted : (verdict : Verdict) (outcome : Result (Unit {0}) AnswerFault) (status told old new : ℕ) → status ≡ verdict_status verdict → told ≡ told_status status outcome → new ≡ old + failed_writes outcome → new ≡ old + cond (told == 4) 1 0
counted verdict (Ok done) status told old new of is grown = grown ∙ sym (ap (λ s. old + cond (s == 4) 1 0) (is ∙ of) ∙ ap (λ b. old + cond b 1 0) (not_four verdict))
counted verdict (Err AnswerFault.Memory) status told old new of is grown = grown ∙ sym (ap (λ s. old + cond (s == 4) 1 0) is)
counted verdict (Err AnswerFault.Write) status told old new of is grown = grown ∙ sym (ap (λ s. old + cond (s == 4) 1 0) is)

-- a log that was read and judged
pub judged_due : (options : Options) (left : Option (List ℕ)) (log : Log) (status : ℕ) → log.rules.capacity ≡ judged_capacity log.part options.capacity → IsWellFormed options.skew log.calls.items log.items log.rules.ties.items
    → GivesOfInput log_view left (Ok log) (log_of options) → IsJudged log.rules log.calls.items log.items status → IsDueOrNone false options left status
judged_due options left log status capacity well read (inl memory) = inl memory
judged_due options left log status capacity well read (inr (verdict, right, decided, inr failed)) = inr (inl failed)
judged_due options left log status capacity well read (inr (verdict, right, decided, inl is)) =
    inr (inr (
      read.0,
      read.1,
      subst (λ due. IsDue options due status) (sym read.2)
          (log.rules, verdict, record { capacity = capacity; closes = refl; ties = refl }, right, is, hard options.skew log.rules log.calls.items log.items verdict status decided well is),
    ))

-- an input that is refused, of whatever is due
refused_with : (follow : Bool) (options : Options) (left : Option (List ℕ)) (status : ℕ) (input : List ℕ) → HasInput left input → IsInputDue follow options input 2 → (status ≡ 2) ⊎ (status ≡ 3) → IsDueOrNone follow options left status
refused_with follow options left status input has due (inl two) = inr (inr (input, has, subst (λ s. IsInputDue follow options input s) (sym two) due))
refused_with follow options left status input has due (inr memory) = inl memory

refused_of : (options : Options) (left : Option (List ℕ)) (status : ℕ) (refusal : Refusal) → (read : (input : List ℕ) × HasInput left input × (log_of options input ≡ Err refusal)) → (status ≡ 2) ⊎ (status ≡ 3) → IsDueOrNone false options left status
refused_of options left status refusal read is = refused_with false options left status read.0 read.1 (subst (λ due. IsDue options due 2) (sym read.2) refl) is

pub refused_due : (options : Options) (left : Option (List ℕ)) (fault : LogFault) (status : ℕ) → RefusesInput left fault (log_of options) → IsRefused fault status → IsDueOrNone false options left status
refused_due options left LogFault.Memory status read is = inl is
refused_due options left LogFault.Read status read is = inr (inl is)
refused_due options left (LogFault.Line line fault) status read is = refused_of options left status (bad_line line fault) read is
refused_due options left (LogFault.Key line key) status read is = refused_of options left status (bad_line line LineFault.Key) read is
refused_due options left (LogFault.Clash line fault last) status read is = refused_of options left status (bad_line line fault) read is
refused_due options left (LogFault.SentTwice first second item) status read is = refused_of options left status (sent_twice first second) read is
refused_due options left LogFault.Empty status read is = refused_of options left status no_calls read is

-- ---- a log that was followed

-- a clean log has its status
clean_at : (verdict : Verdict) → verdict_status verdict ≡ 0 → verdict ≡ Verdict.Clean
clean_at Verdict.Clean is = refl
clean_at (Verdict.Fault fault) is = absurd (omega (arith, is))
clean_at (Verdict.Undecided tie) is = absurd (omega (arith, is))

pub followed_due : (options : Options) (left : Option (List ℕ)) (f : Followed) (status : ℕ) → Follows options left (Ok f) → HasRules options (log_view f.log) f.log.rules → IsWellFormed options.skew f.log.calls.items f.log.items f.log.rules.ties.items
    → IsVerdict f.log.rules f.log.calls.items f.verdict → IsDecided f.log.rules f.log.calls.items f.log.items f.verdict → IsTold f.verdict status → IsDueOrNone true options left status
followed_due options left f status follows rules well right decided (inl memory) = inl memory
followed_due options left f status follows rules well right decided (inr (inl failed)) = inr (inl failed)
followed_due options left f status follows rules well right decided (inr (inr is)) =
    let part = follows.2 in
    inr (inr (
      follows.0,
      follows.1,
      record {
        part = part.part;
        of_log = part.of_log;
        due = subst (λ due. IsDue options due status) (sym part.log_is)
            (f.log.rules, f.verdict, rules, right, is, hard options.skew f.log.rules f.log.calls.items f.log.items f.verdict status decided well is);
        clean = λ zero. part.clean (clean_at f.verdict (sym is ∙ zero));
      },
    ))

part_refused_of : (options : Options) (left : Option (List ℕ)) (status : ℕ) (refusal : Refusal) (input : List ℕ) → HasInput left input → (part : List NumberedLine) → ArePartOf (lines_of input) part → part_of options part ≡ Err refusal → (status ≡ 2) ⊎ (status ≡ 3)
    → IsDueOrNone true options left status
part_refused_of options left status refusal input has part of_log due is = refused_with true options left status input has
    (record { part = part; of_log = of_log; due = subst (λ r. IsDue options r 2) (sym due) refl; clean = λ zero. absurd (omega (arith, zero)) }) is

pub refused_part_due : (options : Options) (left : Option (List ℕ)) (fault : LogFault) (status : ℕ) → RefusesPart options left fault → IsRefused fault status → IsDueOrNone true options left status
refused_part_due options left LogFault.Memory status read is = inl is
refused_part_due options left LogFault.Read status read is = inr (inl is)
refused_part_due options left (LogFault.Line line fault) status read is = part_refused_of options left status (bad_line line fault) read.0 read.1 read.2.part read.2.of_log read.2.refuses is
refused_part_due options left (LogFault.Key line key) status read is = part_refused_of options left status (bad_line line LineFault.Key) read.0 read.1 read.2.part read.2.of_log read.2.refuses is
refused_part_due options left (LogFault.Clash line fault last) status read is = part_refused_of options left status (bad_line line fault) read.0 read.1 read.2.part read.2.of_log read.2.refuses is
refused_part_due options left (LogFault.SentTwice first second item) status read is = part_refused_of options left status (sent_twice first second) read.0 read.1 read.2.part read.2.of_log read.2.refuses is
refused_part_due options left LogFault.Empty status read is = part_refused_of options left status no_calls read.0 read.1 read.2.part read.2.of_log read.2.refuses is

-- ---- the failures of the devices

-- how many operations failed, by the status
abbrev failed_at : ℕ → ℕ
failed_at status = cond (status == 4) 1 0

-- a refusal, by its status
by_status : (reads reads_after fails fails_after status failed : ℕ) → reads_after ≡ reads + failed → fails_after ≡ fails → failed_at status ≡ failed → FailsBy reads reads_after fails fails_after status
by_status reads reads_after fails fails_after status failed grown same is = record { reads_grow = omega (arith, grown); writes_grow = omega (arith, same); counted = omega (arith, grown, same, is) }

no_failure : (status : ℕ) → (status ≡ 2) ⊎ (status ≡ 3) → failed_at status ≡ 0
no_failure status (inl two) = ap failed_at two
no_failure status (inr three) = ap failed_at three

pub refused_failures : (fault : LogFault) (reads reads_after fails fails_after status : ℕ) → IsRefused fault status → reads_after ≡ reads + failed_read fault → fails_after ≡ fails → FailsBy reads reads_after fails fails_after status
refused_failures LogFault.Memory reads reads_after fails fails_after status is grown same = by_status reads reads_after fails fails_after status 0 grown same (no_failure status (inr is))
refused_failures LogFault.Read reads reads_after fails fails_after status is grown same = by_status reads reads_after fails fails_after status 1 grown same (ap failed_at is)
refused_failures (LogFault.Line line fault) reads reads_after fails fails_after status is grown same = by_status reads reads_after fails fails_after status 0 grown same (no_failure status is)
refused_failures (LogFault.Key line key) reads reads_after fails fails_after status is grown same = by_status reads reads_after fails fails_after status 0 grown same (no_failure status is)
refused_failures (LogFault.Clash line fault last) reads reads_after fails fails_after status is grown same = by_status reads reads_after fails fails_after status 0 grown same (no_failure status is)
refused_failures (LogFault.SentTwice first second item) reads reads_after fails fails_after status is grown same = by_status reads reads_after fails fails_after status 0 grown same (no_failure status is)
refused_failures LogFault.Empty reads reads_after fails fails_after status is grown same = by_status reads reads_after fails fails_after status 0 grown same (no_failure status is)

pub judged_failures : (reads reads_after fails fails_after status : ℕ) → reads_after ≡ reads + 0 → fails_after ≡ fails + cond (status == 4) 1 0 → FailsBy reads reads_after fails fails_after status
judged_failures reads reads_after fails fails_after status same grown = record { reads_grow = omega (arith, same); writes_grow = omega (arith, grown); counted = omega (arith, same, grown) }
