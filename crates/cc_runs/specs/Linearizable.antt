-- Linearizable runs (Herlihy and Wing, TOPLAS 1990): each answered call takes effect at one move of the run, not before its
-- exchange and not after the step that decides its answer; and in the order of these effects a sequential queue gives the same
-- answers.
use Rattle.std.specs.Prelude.{◌≡◌, ◌⊎◌, ℕ, ◌<◌, ◌≤◌, length, List, [], ◌∷◌, ◌++◌, Some, Ok}
use Rattle.cc_model.specs.Config.{config_fault}
use Rattle.cc_model.specs.Record.{Record, empty}
use Rattle.cc_model.specs.Items.{IsPrefix, accepted, is_shut, handed, handed_to_all}
use Rattle.cc_model.specs.Legal.{IsSenders, IsReceivers}
use Rattle.cc_model.specs.Sequential.{Exactly}
use Rattle.cc_runs.specs.Names.{Config, Call, Entry, Answer, Setting, Served, Chain, Move}
use Rattle.cc_runs.specs.State.{noted}
use Rattle.cc_runs.specs.OnChain.{IsThere, calls_on, answers_on}
use Rattle.cc_runs.specs.Run.{IsRun, history_of}
use Rattle.cc_runs.specs.MachineLaws.{AfterEveryRun}

-- ---- orders of calls

-- a call that takes effect, with its answer
pub record Effect : Type 0 where
  pub chain : Chain
  pub entry : Entry
  pub answer : Answer

-- the history of calls that take effect one after another, the newest first
abbrev pub replay : (groups : ℕ) → List Effect → Record
replay groups [] = empty groups
replay groups (e ∷ earlier) = noted e.chain (replay groups earlier) (Some e.entry) (Some e.answer)

-- how many items the group of this chain was handed; the senders have none
abbrev pub handed_on : Chain → Record → ℕ
handed_on Chain.Send h = 0
handed_on (Chain.Take g) h = length (handed h g)

-- a sequential queue gives this answer after this history, in which each call has its answer
abbrev pub AnswersAfter : Config → Record → Chain → Call → Answer → Type 0
AnswersAfter cfg h x call answer = Exactly cfg (accepted h) (is_shut h) (handed_on x h) (handed_to_all h) call answer

-- a pass of this chain can make the call
abbrev pub IsOfChain : Config → Chain → Entry → Type 0
IsOfChain cfg Chain.Send e = IsSenders cfg e.pass e.call
IsOfChain cfg (Chain.Take g) e = IsReceivers cfg g e.pass e.call

-- a sequential queue gives these answers to these calls, one after another
abbrev pub IsExact : Config → List Effect → Type 0
IsExact cfg [] = Unit {0}
IsExact cfg (e ∷ earlier) =
    IsExact cfg earlier × IsThere cfg e.chain × IsOfChain cfg e.chain e.entry × AnswersAfter cfg (replay cfg.groups earlier) e.chain e.entry.call e.answer

-- after such an order it has exactly one answer to each call
abbrev pub ExactOrdersGoOn : Type 0
ExactOrdersGoOn = (cfg : Config) (order : List Effect) → IsExact cfg order → (x : Chain) (call : Call)
    → (a : Answer) × AnswersAfter cfg (replay cfg.groups order) x call a × ((b : Answer) → AnswersAfter cfg (replay cfg.groups order) x call b → b ≡ a)

-- ---- orders of runs

-- the calls that take effect at each move, the newest move first, as one list
abbrev pub in_order : List (List Effect) → List Effect
in_order [] = []
in_order (now ∷ earlier) = now ++ in_order earlier

-- On each chain every call that is answered in the history has taken effect, with that answer, and each call that has taken
-- effect is in the history.
pub record IsOnTime (h effects : Record) : Type 0 where
  pub calls : (x : Chain) → IsPrefix (calls_on x effects) (calls_on x h)
  pub answers : (x : Chain) → IsPrefix (answers_on x h) (answers_on x effects)

-- so it is at each moment of the run
abbrev pub IsTimely : Setting → List Move → List (List Effect) → Type 0
IsTimely c [] [] = Unit {0}
IsTimely c (m ∷ earlier) (now ∷ before) = IsTimely c earlier before × IsOnTime (history_of c (m ∷ earlier)) (replay c.config.groups (now ++ in_order before))
IsTimely c _ _ = ⊥

-- an order of exactly the answered calls of a run
pub record IsLinearization (c : Setting) (moves : List Move) (effects : List (List Effect)) : Type 0 where
  pub timely : IsTimely c moves effects
  pub exact : IsExact c.config (in_order effects)
  pub whole : (x : Chain) → answers_on x (replay c.config.groups (in_order effects)) ≡ answers_on x (history_of c moves)

-- the run has such an order
abbrev pub IsLinearizable : Setting → List Move → Type 0
IsLinearizable c moves = (effects : List (List Effect)) × IsLinearization c moves effects

-- so has every run
abbrev pub RunsAreLinearizable : Type 0
RunsAreLinearizable = AfterEveryRun IsLinearizable

-- ---- real time

-- a place in the order: the calls before it are all that were answered by then, and only calls that had exchanged
pub record Cut (c : Setting) (seen : List Move) (order : List Effect) : Type 0 where
  pub after : List Effect
  pub before : List Effect
  pub split : order ≡ after ++ before
  pub on_time : IsOnTime (history_of c seen) (replay c.config.groups before)

-- each moment of a run has such a place in its order
abbrev pub OrderKeepsTime : Type 0
OrderKeepsTime = (c : Setting) (later seen : List Move) (effects : List (List Effect)) → IsLinearization c (later ++ seen) effects → Cut c seen (in_order effects)

-- call i of chain x comes before call j of chain y: before some place in the order the first has its answer, and the second isn't
-- there
pub record Precedes (c : Setting) (order : List Effect) (x : Chain) (i : ℕ) (y : Chain) (j : ℕ) : Type 0 where
  pub after : List Effect
  pub before : List Effect
  pub split : order ≡ after ++ before
  pub first : i < length (answers_on x (replay c.config.groups before))
  pub second : length (calls_on y (replay c.config.groups before)) ≤ j

-- of two calls the first was answered before the second exchanged: it comes before the second
abbrev pub OrderIsRealTime : Type 0
OrderIsRealTime = (c : Setting) (later seen : List Move) (effects : List (List Effect)) → IsLinearization c (later ++ seen) effects → (x y : Chain) (i j : ℕ)
    → i < length (answers_on x (history_of c seen)) → length (calls_on y (history_of c seen)) ≤ j → Precedes c (in_order effects) x i y j

-- ---- prefixes of runs

-- a list without some of its elements
abbrev pub IsPart : {X : Type 0} → List X → List X → Type 0
IsPart {X} [] whole = Unit {0}
IsPart {X} (x ∷ part) [] = ⊥
IsPart {X} (x ∷ part) (y ∷ whole) = ((x ≡ y) × IsPart part whole) ⊎ IsPart (x ∷ part) whole

-- a prefix of a run is a run
abbrev pub prefix : (c : Setting) (later seen : List Move) → IsRun c (later ++ seen) → IsRun c seen
prefix c [] seen run = run
prefix c (m ∷ later) seen run = prefix c later seen run.0

-- an order of each run of a machine; that of a prefix of a run is a part of the run's own
pub record Orders (c : Setting) : Type 0 where
  pub order : (moves : List Move) → IsRun c moves → List (List Effect)
  pub linearizes : (moves : List Move) (run : IsRun c moves) → IsLinearization c moves (order moves run)
  pub agrees : (later seen : List Move) (run : IsRun c (later ++ seen)) → IsPart (in_order (order seen (prefix c later seen run))) (in_order (order (later ++ seen) run))

-- So passes that have seen prefixes of one run, and never met, agree in what both have seen.
abbrev pub OrdersAgree : Type 0
OrdersAgree = (c : Setting) → c.served ≡ Served.List → config_fault c.config ≡ Ok tt → Orders c
