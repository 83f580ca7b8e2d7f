-- The calls that a pass began in a run, and that the history has them.
use Rattle.std.specs.Prelude.{◌≡◌, ℕ, ◌<◌, ◌≤◌, ◌==◌, if◌then◌else◌, List, [], ◌∷◌, ◌++◌, Ok}
use Rattle.std.specs.List.{AllByRecursion}
use Rattle.cc_model.specs.Items.{calls_made_by}
use Rattle.cc_model.specs.Config.{config_fault}
use Rattle.cc_runs.specs.Names.{Entry, Setting, Chain, Phase, Move}
use Rattle.cc_runs.specs.State.{pass_at}
use Rattle.cc_runs.specs.Run.{IsRun, reached, passes, number_of, history_of}
use Rattle.cc_runs.specs.OnChain.{calls_on}

-- the calls that pass p began, in order, each with its number and what it knew
abbrev pub made : Setting → List Move → ℕ → List Entry
made c [] p = []
made c (Move.Begin q call known ∷ earlier) p =
    if q == p then made c earlier p ++ record { pass = pass_at c.config q; call = call; number = number_of call ((reached c earlier).stand q).begun; known = known } ∷ []
    else made c earlier p
made c (_ ∷ earlier) p = made c earlier p

-- the call that hasn't exchanged yet, if there is one
abbrev pub to_exchange : Phase → List Entry
to_exchange (Phase.ResetNext call) = call ∷ []
to_exchange (Phase.ResetState call) = call ∷ []
to_exchange (Phase.Exchange call) = call ∷ []
to_exchange _ = []

-- after every run the history has of each pass exactly those calls, each once and in order, that have exchanged
abbrev pub CallsOfRuns : Type 0
CallsOfRuns = (c : Setting) → config_fault c.config ≡ Ok tt → (moves : List Move) → IsRun c moves → (p : ℕ) → p < passes c →
    made c moves p ≡ calls_made_by (pass_at c.config p) (reached c moves).history ++ to_exchange ((reached c moves).stand p).phase

-- after every run the number of each call in the history is at most `per_sender`
abbrev pub NumbersOfSends : Type 0
NumbersOfSends = (c : Setting) (moves : List Move) → IsRun c moves → (x : Chain) → AllByRecursion (λ e. e.number ≤ c.config.per_sender) (calls_on x (history_of c moves))

-- a call that was begun and hasn't exchanged
abbrev pub before_exchange : Phase → ℕ
before_exchange (Phase.ResetNext call) = 1
before_exchange (Phase.ResetState call) = 1
before_exchange (Phase.Exchange call) = 1
before_exchange _ = 0
