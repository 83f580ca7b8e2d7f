-- Refused claims: for each kind of mistake a claim that the definitions don't admit.
use Rattle.std.specs.Prelude.{ℕ, ◌≡◌, ◌≢◌, List, [], ◌∷◌, codes, Option, None, Ok, Err, option_map}
use Rattle.clap.specs.Words.{kind_of}
use Rattle.clap.specs.declared.error.Error.{Error}
use Rattle.clap.specs.declared.error.kind.ErrorKind.{ErrorKind}
use Rattle.cc_show.specs.declared.form.Form.{Form}
use Rattle.cc_drive.specs.declared.config.DriveConfig.{DriveConfig}
use Rattle.cc_cli.specs.declared.task.Task.{Task}
use Rattle.cc_line.specs.declared.asked.Line.{Line}
use Rattle.cc_line.specs.Line.{Asks, IsInRange}
use Rattle.cc_line.specs.Refusal.{Declines}

-- a claim that doesn't hold
abbrev pub Refused : Type 0 → Type 0
Refused claim = claim → ⊥

pub record RefusedClaims : Type 0 where
  -- a line with an option asks for the default
  pub option_ignored : (line : Line) (config : DriveConfig) → Asks (codes "drive" ∷ codes "--senders" ∷ codes "3" ∷ []) (Ok line) → line.task ≡ Task.Drive config → Refused (config.senders ≡ 4)
  -- a line with a flag asks for what is done without the flag
  pub flag_ignored : (line : Line) → Asks (codes "show" ∷ codes "--trace" ∷ []) (Ok line) → Refused (line.task ≡ Task.Show Form.Page)
  -- a line loses its file
  pub file_lost : (line : Line) → Asks (codes "judge" ∷ codes "--page" ∷ codes "--" ∷ codes "-x" ∷ []) (Ok line) → Refused (option_map (λ name. name.now) line.file ≡ None)
  -- a line asks for a task with an option that there isn't, or with a number out of its range
  pub fault_overlooked : (line : Line) → Refused (Asks (codes "drive" ∷ codes "--sender" ∷ []) (Ok line))
  pub range_overlooked : (line : Line) → Refused (Asks (codes "drive" ∷ codes "--senders" ∷ codes "64" ∷ []) (Ok line))
  pub zero_overlooked : (line : Line) → Refused (Asks (codes "judge" ∷ codes "--capacity=0" ∷ []) (Ok line))
  pub range_widened : (config : DriveConfig) → config.senders ≡ 64 → Refused (IsInRange (Task.Drive config))
  -- or with two times that exclude each other
  pub clash_overlooked : (line : Line) → Refused (Asks (codes "judge" ∷ codes "--until=5" ∷ codes "--skew=1" ∷ []) (Ok line))
  -- a line without a fault is refused, though memory isn't
  pub fault_made_up : (e : Error) → kind_of e ≢ ErrorKind.OutOfMemory → Refused (Asks (codes "drive" ∷ []) (Err e))
  -- a refused line has the status of success, and help that of a refused line
  pub fault_hidden : (old new errors_old errors_new : Option (List ℕ)) (fails fails_after before after : ℕ) → Refused (Declines old new fails fails_after errors_old errors_new before after 0 ErrorKind.UnknownArgument)
  pub help_refused : (old new errors_old errors_new : Option (List ℕ)) (fails fails_after before after : ℕ) → Refused (Declines old new fails fails_after errors_old errors_new before after 64 ErrorKind.DisplayHelp)
