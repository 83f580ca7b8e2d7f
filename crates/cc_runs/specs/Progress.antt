-- Progress: no deadlock, bounded bypass, and under a fair scheduler no starvation, with bounds. A call is answered after the steps that
-- were ahead of it when it exchanged: one service of each call of its chain before it that had no answer, and its own. This holds of
-- every machine whose configuration was checked, for every service of a chain.
use Rattle.std.specs.Prelude.{◌≡◌, ◌≢◌, ◌⊎◌, ℕ, ◌+◌, ◌-◌, ◌*◌, ◌<◌, ◌≤◌, Bool, false, List, [], ◌∷◌, ◌++◌, length, IsTrue, Ok}
use Rattle.std.specs.List.{AllByRecursion}
use Rattle.cc_model.specs.Config.{config_fault}
use Rattle.cc_runs.specs.Names.{Setting, Chain, Event, Move}
use Rattle.cc_runs.specs.State.{State}
use Rattle.cc_runs.specs.Lines.{event_at}
use Rattle.cc_runs.specs.OnChain.{IsChain, pass_on, passes_on, calls_on, answers_on}
use Rattle.cc_runs.specs.Passes.{pass_of, by}
use Rattle.cc_runs.specs.Run.{May, IsFinished, IsRun, moved, reached, history_of}
use Rattle.cc_runs.specs.Turns.{IsAmong, Waits, IsTurn, SomeTurn}
use Rattle.cc_runs.specs.Ahead.{service, ahead, most_ahead, all_ahead}

-- of every run, and of each chain of the machine
abbrev pub OfEachChain : (Setting → Chain → List Move → Type 0) → Type 0
OfEachChain P = (c : Setting) (moves : List Move) → config_fault c.config ≡ Ok tt → IsRun c moves → (x : Chain) → IsChain c x → P c x moves

-- how many calls of a chain have exchanged, and how many of these have an answer
abbrev pub calls_after : Setting → Chain → List Move → ℕ
calls_after c x moves = length (calls_on x (history_of c moves))

abbrev pub answers_after : Setting → Chain → List Move → ℕ
answers_after c x moves = length (answers_on x (history_of c moves))

-- ---- no deadlock

-- a pass in one of the first k calls that doesn't wait
pub record SomeGoesOn (c : Setting) (x : Chain) (k : ℕ) (s : State) : Type 0 where
  pub pass : ℕ
  pub inside : pass < passes_on c x
  pub among : IsAmong c x k s pass
  pub goes_on : Waits s x (s.stand (pass_on c x pass)) → ⊥

-- While a pass is in one of the first k calls, one of the passes in these calls doesn't wait.
abbrev pub NoDeadlock : Type 0
NoDeadlock = OfEachChain (λ c x moves. (k n : ℕ) → n < passes_on c x → IsAmong c x k (reached c moves) n → SomeGoesOn c x k (reached c moves))

-- It is some pass's turn while one of the first k calls has no answer, and while the pass of one of them waits.
pub record TurnsAreTaken (c : Setting) (x : Chain) (k : ℕ) (s : State) : Type 0 where
  pub unanswered : length (answers_on x s.history) < k → SomeTurn c x k s
  pub waiting : (n : ℕ) → n < passes_on c x → IsAmong c x k s n → Waits s x (s.stand (pass_on c x n)) → SomeTurn c x k s

abbrev pub SomeonesTurn : Type 0
SomeonesTurn = OfEachChain (λ c x moves. (k : ℕ) → k ≤ calls_after c x moves → TurnsAreTaken c x k (reached c moves))

-- ---- bounded bypass

-- No move makes the steps ahead more. The step of a pass whose turn it is makes them fewer; and it is its turn until it steps.
pub record BringsNearer (c : Setting) (x : Chain) (k : ℕ) (s : State) (m : Move) : Type 0 where
  pub no_more : ahead c x k (moved c s m) ≤ ahead c x k s
  pub fewer : (n : ℕ) → n < passes_on c x → m ≡ Move.Step (pass_on c x n) → IsTurn c x k s n → ahead c x k (moved c s m) < ahead c x k s
  pub stays : (n : ℕ) → n < passes_on c x → pass_of m ≢ pass_on c x n → IsTurn c x k s n → IsTurn c x k (moved c s m) n

abbrev pub MovesBringNearer : Type 0
MovesBringNearer = OfEachChain (λ c x moves. (k : ℕ) → k ≤ calls_after c x moves → (m : Move) → May c (reached c moves) m → BringsNearer c x k (reached c moves) m)

-- at most that many steps are ahead, and no chain has more calls without an answer than passes
abbrev pub AheadIsBounded : Type 0
AheadIsBounded = OfEachChain (λ c x moves. (k : ℕ) → ahead c x k (reached c moves) ≤ most_ahead c x (k - answers_after c x moves))

abbrev pub OpenCallsAreFew : Type 0
OpenCallsAreFew = OfEachChain (λ c x moves. calls_after c x moves ≤ answers_after c x moves + passes_on c x)

-- of the moves after those that were seen, n are steps of passes whose turn it is
abbrev pub HasTurns : Setting → Chain → ℕ → List Move → List Move → ℕ → Type 0
HasTurns c x k seen [] n = n ≡ 0
HasTurns c x k seen (m ∷ later) n =
    HasTurns c x k seen later n ⊎ ((j : ℕ) × (n ≡ j + 1) × HasTurns c x k seen later j × (q : ℕ) × (q < passes_on c x) × (m ≡ Move.Step (pass_on c x q)) × IsTurn c x k (reached c (later ++ seen)) q)

-- Until the first k calls are served, the passes whose turn it is make no more steps than were ahead, also if others move meanwhile.
abbrev pub TurnsAreFew : Type 0
TurnsAreFew = (c : Setting) (later seen : List Move) → config_fault c.config ≡ Ok tt → IsRun c (later ++ seen) → (x : Chain) → IsChain c x →
    (k n : ℕ) → k ≤ calls_after c x seen → HasTurns c x k seen later n → n + ahead c x k (reached c (later ++ seen)) ≤ ahead c x k (reached c seen)

-- ---- rounds of a fair scheduler

-- In a round each pass of the chain of which this holds at the beginning moves at least once. Any other pass may move or not.
abbrev pub IsRound : (State → ℕ → Type 0) → Setting → Chain → List Move → List Move → Type 0
IsRound Must c x seen now = (n : ℕ) → n < passes_on c x → Must (reached c seen) n → by (pass_on c x n) now ≢ []

-- the moves of some rounds, the newest round first
abbrev pub moves_in : List (List Move) → List Move
moves_in [] = []
moves_in (now ∷ earlier) = now ++ moves_in earlier

abbrev pub AreRounds : (State → ℕ → Type 0) → Setting → Chain → List Move → List (List Move) → Type 0
AreRounds Must c x seen [] = Unit {0}
AreRounds Must c x seen (now ∷ earlier) = AreRounds Must c x seen earlier × IsRound Must c x (moves_in earlier ++ seen) now

-- of every run with rounds in which each pass that was in one of the first k calls moves
abbrev pub AfterRounds : (Setting → Chain → ℕ → List Move → List (List Move) → Type 0) → Type 0
AfterRounds P = (c : Setting) (seen : List Move) (rounds : List (List Move)) → config_fault c.config ≡ Ok tt → IsRun c (moves_in rounds ++ seen) → (x : Chain) → IsChain c x →
    (k : ℕ) → k ≤ calls_after c x seen → AreRounds (IsAmong c x k) c x seen rounds → P c x k seen rounds

-- ---- no starvation

-- After more rounds than there were steps ahead each of the first k calls has its answer.
abbrev pub AnswersComeSoon : Type 0
AnswersComeSoon = AfterRounds (λ c x k seen rounds. ahead c x k (reached c seen) < length rounds → k ≤ answers_after c x (moves_in rounds ++ seen))

-- So it has after a number of rounds that depends on the configuration alone, and not on its bound.
abbrev pub EachCallIsAnswered : Type 0
EachCallIsAnswered = AfterRounds (λ c x k seen rounds. all_ahead c x < length rounds → k ≤ answers_after c x (moves_in rounds ++ seen))

-- So a call that waits has waited for no more rounds than there were steps ahead.
abbrev pub WaitsAreShort : Type 0
WaitsAreShort = AfterRounds (λ c x k seen rounds. let s : State = reached c (moves_in rounds ++ seen) in
    (n : ℕ) → n < passes_on c x → IsAmong c x k s n → Waits s x (s.stand (pass_on c x n)) → length rounds ≤ ahead c x k (reached c seen))

-- rounds for the services of this number of calls, and for `bound` services that a pass may make itself
abbrev pub most_rounds : Setting → Chain → ℕ → ℕ
most_rounds c x unanswered = unanswered * (service c.config x + 3) + passes_on c x * 6 + (c.config.bound + 1) * service c.config x + 17

-- the first k calls have their answers, and their passes have read them
pub record AreServed (c : Setting) (x : Chain) (k : ℕ) (moves : List Move) : Type 0 where
  pub answered : k ≤ answers_after c x moves
  pub ended : (n : ℕ) → n < passes_on c x → IsAmong c x k (reached c moves) n → ⊥

abbrev pub CallsAreServed : Type 0
CallsAreServed = AfterRounds (λ c x k seen rounds. most_rounds c x (k - answers_after c x seen) ≤ length rounds → AreServed c x k (moves_in rounds ++ seen))

-- ---- from the begin of a call to its end

-- a pass has a step to do: it has a call whose answer it hasn't read
abbrev pub HasStep : Setting → Chain → State → ℕ → Type 0
HasStep c x s n = event_at (s.stand (pass_on c x n)).phase ≢ Event.Idle

-- three steps to the exchange, and then as above
abbrev pub all_rounds : Setting → Chain → ℕ
all_rounds c x = 3 + most_rounds c x (passes_on c x)

-- A call that was begun, and whose answer isn't taken meanwhile, has read its answer after that many rounds, in each of which each pass of
-- its chain that has a step moves. Their number depends on the configuration alone.
abbrev pub EachCallEnds : Type 0
EachCallEnds = (c : Setting) (seen : List Move) (rounds : List (List Move)) → config_fault c.config ≡ Ok tt → IsRun c (moves_in rounds ++ seen) → (x : Chain) → IsChain c x →
    (n : ℕ) → n < passes_on c x → HasStep c x (reached c seen) n → AreRounds (HasStep c x) c x seen rounds → AllByRecursion (λ m. m ≢ Move.Take (pass_on c x n)) (moves_in rounds) →
    all_rounds c x ≤ length rounds → IsFinished ((reached c (moves_in rounds ++ seen)).stand (pass_on c x n)).phase

-- ---- passes that stop

-- the passes in one of the first k calls, but for those that have stopped
abbrev pub IsAmongOthers : (ℕ → Bool) → Setting → Chain → ℕ → State → ℕ → Type 0
IsAmongOthers stopped c x k s n = IsAmong c x k s n × (stopped n ≡ false)

-- Passes that stop in their calls stop no call before these: the first k calls are answered if no pass that stops is in one of them.
abbrev pub NoneBeforeStops : Type 0
NoneBeforeStops = (c : Setting) (seen : List Move) (rounds : List (List Move)) → config_fault c.config ≡ Ok tt → IsRun c (moves_in rounds ++ seen) → (x : Chain) → IsChain c x →
    (stopped : ℕ → Bool) (k : ℕ) → k ≤ calls_after c x seen → ((n : ℕ) → n < passes_on c x → IsTrue (stopped n) → IsAmong c x k (reached c seen) n → ⊥) →
    AreRounds (IsAmongOthers stopped c x k) c x seen rounds → all_ahead c x < length rounds → k ≤ answers_after c x (moves_in rounds ++ seen)

-- A pass that stops when it is its turn stops those behind it: the calls that have no answer then get none.
abbrev pub ThoseBehindStop : Type 0
ThoseBehindStop = (c : Setting) (later seen : List Move) → config_fault c.config ≡ Ok tt → IsRun c (later ++ seen) → (x : Chain) → IsChain c x →
    (k n : ℕ) → k ≤ calls_after c x seen → n < passes_on c x → answers_after c x seen < k → IsTurn c x k (reached c seen) n → by (pass_on c x n) later ≡ [] → answers_after c x (later ++ seen) < k
