-- Refused claims: for each kind of mistake a claim that the definitions don't admit.
use Rattle.std.specs.Prelude.{ℕ, ◌≡◌, ◌+◌, true, false, List, [], ◌∷◌, codes, Option, Some, Ok, Err}
use Rattle.cc_judge.specs.Cuts.{AreShort}
use Rattle.cc_log.specs.Log.{Spelled}
use Rattle.cc_cli.specs.Judged.{IsDue, Judges}
use Rattle.cc_cli.specs.Names.{Head, Options, Tie}
use Rattle.cc_cli.specs.Paint.{due_head, wants_colours}

-- a claim that doesn't hold
abbrev pub Refused : Type 0 → Type 0
Refused claim = claim → ⊥

pub record RefusedClaims : Type 0 where
  -- a log that its input spells is refused
  pub log_refused : (options : Options) (log : Spelled) → Refused (IsDue options (Ok log) 2)
  -- a log whose times order its calls is undecided
  pub always_undecided : (options : Options) (log : Spelled) → log.ties ≡ [] → Refused (IsDue options (Ok log) 5)
  -- so is a log without a skew and with short times, of which lines alone order two calls
  pub undecided_by_two : (options : Options) (log : Spelled) (tie : Tie) → options.skew ≡ 0 → AreShort log.calls → log.ties ≡ tie ∷ [] → Refused (IsDue options (Ok log) 5)
  -- a text without colours has a head to mark
  pub marked_without_colours : (text : List ℕ) (head : Head) → Refused (due_head false text ≡ Some head)
  -- a terminal has colours that is dumb, or though NO_COLOR is set
  pub dumb_with_colours : Refused (wants_colours (codes "dumb") [] ≡ true)
  pub colours_forbidden : Refused (wants_colours (codes "xterm") (codes "1") ≡ true)
  -- of a log whose read failed: memory was refused
  pub log_failure_hidden : (options : Options) (left : Option (List ℕ)) (reads fails : ℕ) → Refused (Judges options left reads (reads + 1) fails fails 3)
  -- a device failed while a log was judged, and none did
  pub log_failure_made_up : (options : Options) (left : Option (List ℕ)) (reads fails : ℕ) → Refused (Judges options left reads reads fails fails 4)
