-- The definitions refuse these claims.
use Rattle.std.proofs.Common.{◌≡◌, ◌≢◌, ◌∙◌, ℕ, Bool, true, false, cond, List, [], ◌∷◌, Option, Some, None, Result, Ok, Err, inl, inr, ap, sym, subst, refl, arith, codes, option_map}
use Rattle.clap.specs.Words.{IsAmong, Text, fault_of, kind_of, subcommand_of}
use Rattle.clap.specs.declared.error.Error.{Error}
use Rattle.clap.specs.declared.error.kind.ErrorKind.{ErrorKind}
use Rattle.clap.proofs.OnLiterals.{clap_on_literals}
use Rattle.cc_show.specs.declared.form.Form.{Form}
use Rattle.cc_drive.specs.declared.config.DriveConfig.{DriveConfig}
use Rattle.cc_cli.specs.declared.task.Task.{Task}
use Rattle.cc_line.specs.declared.asked.Line.{Line}
use Rattle.cc_line.specs.declared.asked.Refusal.{Refusal}
use Rattle.cc_line.specs.Line.{Asks, line_of}
use Rattle.cc_line.specs.Program.{program}
use Rattle.cc_line.specs.Refusal.{Declines}
use Rattle.cc_line.specs.Refused.{RefusedClaims}

-- ---- what lines ask for

abbrev senders_in : Task → ℕ
senders_in (Task.Drive config) = config.senders
senders_in task = 0

abbrev senders_of : Result (Task × Option Text) Refusal → ℕ
senders_of (Ok line) = senders_in line.0
senders_of (Err refusal) = 0

abbrev file_of : Result (Task × Option Text) Refusal → Option Text
file_of (Ok line) = line.1
file_of (Err refusal) = None

abbrev three_senders : List Text
three_senders = codes "drive" ∷ codes "--senders" ∷ codes "3" ∷ []

three : senders_of (line_of (subcommand_of program three_senders)) ≡ 3
unfolding clap_on_literals
three = refl

-- 1 if a trace is asked for, and 0 if a page is
abbrev traces_in : Task → ℕ
traces_in (Task.Show Form.Trace) = 1
traces_in task = 0

abbrev traces_of : Result (Task × Option Text) Refusal → ℕ
traces_of (Ok line) = traces_in line.0
traces_of (Err refusal) = 0

abbrev with_trace : List Text
with_trace = codes "show" ∷ codes "--trace" ∷ []

traced : traces_of (line_of (subcommand_of program with_trace)) ≡ 1
unfolding clap_on_literals
traced = refl

abbrev page_of_x : List Text
page_of_x = codes "judge" ∷ codes "--page" ∷ codes "--" ∷ codes "-x" ∷ []

is_x : file_of (line_of (subcommand_of program page_of_x)) ≡ Some (codes "-x")
unfolding clap_on_literals
is_x = refl

clashing : line_of (subcommand_of program (codes "judge" ∷ codes "--until=5" ∷ codes "--skew=1" ∷ [])) ≡ Err Refusal.UntilBesideSkew
unfolding clap_on_literals
clashing = refl

-- ---- what is wrong with lines

unknown : fault_of program (codes "drive" ∷ codes "--sender" ∷ []) ≡ ErrorKind.UnknownArgument ∷ []
unfolding clap_on_literals
unknown = refl

too_many : fault_of program (codes "drive" ∷ codes "--senders" ∷ codes "64" ∷ []) ≡ ErrorKind.ValueValidation ∷ []
unfolding clap_on_literals
too_many = refl

too_few : fault_of program (codes "judge" ∷ codes "--capacity=0" ∷ []) ≡ ErrorKind.ValueValidation ∷ []
unfolding clap_on_literals
too_few = refl

abbrev drive_alone : List Text
drive_alone = codes "drive" ∷ []

faultless : fault_of program drive_alone ≡ []
unfolding clap_on_literals
faultless = refl

four : senders_of (line_of (subcommand_of program drive_alone)) ≡ 4
unfolding clap_on_literals
four = refl

-- ---- the claims

some_fault : (words : List Text) (kind : ErrorKind) (line : Line) → fault_of program words ≡ kind ∷ [] → Asks words (Ok line) → ⊥
some_fault words kind line is asks = let bad : kind ∷ [] ≡ [] = sym is ∙ asks.0 in absurd (cc bad)

not_ignored : (line : Line) (config : DriveConfig) → Asks three_senders (Ok line) → line.task ≡ Task.Drive config → config.senders ≡ 4 → ⊥
not_ignored line config asks is default =
    let found : 3 ≡ senders_in line.task = sym three ∙ ap senders_of asks.1 in
    let same : senders_in line.task ≡ config.senders = ap senders_in is in
    absurd (omega (arith, found, same, default))

not_paged : (line : Line) → Asks with_trace (Ok line) → line.task ≡ Task.Show Form.Page → ⊥
not_paged line asks is =
    let found : 1 ≡ traces_in line.task = sym traced ∙ ap traces_of asks.1 in
    let none : traces_in line.task ≡ 0 = ap traces_in is in
    absurd (omega (arith, found, none))

not_lost : (line : Line) → Asks page_of_x (Ok line) → option_map (λ name. name.now) line.file ≡ None → ⊥
not_lost line asks none = let bad : Some (codes "-x") ≡ None = sym is_x ∙ ap file_of asks.1 ∙ none in absurd (cc bad)

no_clash : (line : Line) → Asks (codes "judge" ∷ codes "--until=5" ∷ codes "--skew=1" ∷ []) (Ok line) → ⊥
no_clash line asks = absurd (cc (sym clashing ∙ asks.1))

not_made_up : (e : Error) → kind_of e ≢ ErrorKind.OutOfMemory → Asks drive_alone (Err e) → ⊥
not_made_up e memory (inl (inl out)) = memory out
not_made_up e memory (inl (inr among)) = absurd (subst (IsAmong (kind_of e)) faultless among)
not_made_up e memory (inr refused) = let bad : 4 ≡ 0 = sym four ∙ ap senders_of refused.1.1 in absurd (omega (arith, bad))

-- ---- the answers

module _ (old new errors_old errors_new : Option (List ℕ)) (fails fails_after before after : ℕ) where
  not_hidden : Declines old new fails fails_after errors_old errors_new before after 0 ErrorKind.UnknownArgument → ⊥
  not_hidden (inl complains) = let is = complains.0 in absurd (omega (arith, is))
  not_hidden (inr out) = let is = out.0 in absurd (omega (arith, is))

  not_64 : (failed : Bool) → ◌≡◌ {A = ℕ} 64 (cond failed 4 0) → ⊥
  not_64 true is = absurd (omega (arith, is))
  not_64 false is = absurd (omega (arith, is))

  not_refused : Declines old new fails fails_after errors_old errors_new before after 64 ErrorKind.DisplayHelp → ⊥
  not_refused (inl helps) = not_64 helps.1.0 helps.1.2
  not_refused (inr out) = let is = out.0 in absurd (omega (arith, is))

pub claims_refused : RefusedClaims
claims_refused = record {
  option_ignored = not_ignored;
  flag_ignored = not_paged;
  file_lost = not_lost;
  fault_overlooked = λ line. some_fault _ _ line unknown;
  range_overlooked = λ line. some_fault _ _ line too_many;
  zero_overlooked = λ line. some_fault _ _ line too_few;
  range_widened = λ config is range. (let most = range.senders.1 in absurd (omega (arith, is, most)));
  clash_overlooked = no_clash;
  fault_made_up = not_made_up;
  fault_hidden = not_hidden;
  help_refused = not_refused;
}
