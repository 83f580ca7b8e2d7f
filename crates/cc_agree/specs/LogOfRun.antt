-- The log of a run, as a recorder writes it that reads a clock when a call begins and when its answer is taken; and that it has a
-- legal order.
use Rattle.std.specs.Prelude.{◌≡◌, ℕ, ◌<◌, ◌≤◌, ◌==◌, if◌then◌else◌, List, [], ◌∷◌, ◌++◌, length, Option, Some, None, Ok, slice_get, slice_set, slice_index_or}
use Rattle.cc_model.specs.Config.{config_fault}
use Rattle.cc_runs.specs.Run.{IsRun, reached}
use Rattle.cc_judge.specs.Order.{IsLinearizable}
use Rattle.cc_judge.specs.Verdict.{IsVerdict}
use Rattle.cc_agree.specs.Names.{Body, Call, Answer, Setting, Served, Phase, Move, Act, Line, Rules, Tie, Fault, Verdict}
use Rattle.cc_agree.specs.OneQueue.{begun, returned}

-- the time after this number of moves: a clock may show one time at several moves, and never goes back
abbrev pub IsClock : (ℕ → ℕ) → Type 0
IsClock clock = (m n : ℕ) → m ≤ n → clock m ≤ clock n

-- the passes whose calls the log has, call by call
abbrev pub threads : List Move → List ℕ
threads [] = []
threads (Move.Begin p call known ∷ earlier) = threads earlier ++ p ∷ []
threads (_ ∷ earlier) = threads earlier

-- the place of the last call of a pass
abbrev pub last_of : ℕ → List Move → ℕ
last_of p [] = 0
last_of p (Move.Begin q call known ∷ earlier) = if q == p then length (threads earlier) else last_of p earlier
last_of p (_ ∷ earlier) = last_of p earlier

-- there is no such line
abbrev pub no_line : Line
no_line = record { begin = 0; end = None; act = Act.Taking }

-- the line with its end, unless logs have no word for the answer
abbrev pub with_end : (time : ℕ) → Line → Option Act → Line
with_end time line None = line
with_end time line (Some act) = record { begin = line.begin; end = Some time; act = act }

-- the line after its pass's answer was taken
abbrev pub ended : (number : Body → ℕ) → (time : ℕ) → Phase → Line → Line
ended number time (Phase.Finished told) line = with_end time line (returned number line.act told)
ended number time _ line = line

-- A call that begins is the last line. When an answer is taken, the last call of its pass ends. So a call that found the queue
-- exhausted (Spent) stays as one that hasn't returned.
abbrev pub log_of : Setting → (number : Body → ℕ) → (clock : ℕ → ℕ) → List Move → List Line
log_of c number clock [] = []
log_of c number clock (Move.Begin p call known ∷ earlier) = log_of c number clock earlier ++ record { begin = clock (length earlier); end = None; act = begun number call } ∷ []
log_of c number clock (Move.Step p ∷ earlier) = log_of c number clock earlier
log_of c number clock (Move.Take p ∷ earlier) =
    let log = log_of c number clock earlier in
    let place = last_of p earlier in
    slice_set log place (ended number (clock (length earlier)) ((reached c earlier).stand p).phase (slice_index_or log place no_line))

-- two calls of one pass in their order
pub record IsTie (moves : List Move) (tie : Tie) : Type 0 where
  pub pass : ℕ
  pub first : slice_get (threads moves) tie.earlier ≡ Some pass
  pub second : slice_get (threads moves) tie.later ≡ Some pass
  pub in_order : tie.earlier < tie.later

-- the judge's rules for the log: the capacity of the queue, and ties of calls of one pass
pub record AreRules (c : Setting) (moves : List Move) (rules : Rules) : Type 0 where
  pub capacity : rules.capacity ≡ Some c.config.capacity
  pub ties : (i : ℕ) (tie : Tie) → slice_get rules.ties.items i ≡ Some tie → IsTie moves tie

-- the log of each run of the queue with one group has a legal order, as the judge defines it
abbrev pub LogsOfRunsAreLinearizable : Type 0
LogsOfRunsAreLinearizable = (c : Setting) (moves : List Move) (number : Body → ℕ) (clock : ℕ → ℕ) (rules : Rules) → c.served ≡ Served.List → config_fault c.config ≡ Ok tt → c.config.groups ≡ 1 → IsRun c moves
    → IsClock clock → AreRules c moves rules → IsLinearizable rules (log_of c number clock moves)

-- so no right verdict on it is a fault
abbrev pub LogsOfRunsHaveNoFault : Type 0
LogsOfRunsHaveNoFault = (c : Setting) (moves : List Move) (number : Body → ℕ) (clock : ℕ → ℕ) (rules : Rules) → c.served ≡ Served.List → config_fault c.config ≡ Ok tt → c.config.groups ≡ 1 → IsRun c moves
    → IsClock clock → AreRules c moves rules → (fault : Fault) → IsVerdict rules (log_of c number clock moves) (Verdict.Fault fault) → ⊥

-- the call that pass p begins after the moves `before` is in the log from then on, with its time, and its act until it ends
pub record HasBegun (c : Setting) (number : Body → ℕ) (clock : ℕ → ℕ) (moves before : List Move) (p : ℕ) (call : Call) : Type 0 where
  pub line : Line
  pub mine : slice_get (threads moves) (length (threads before)) ≡ Some p
  pub has : slice_get (log_of c number clock moves) (length (threads before)) ≡ Some line
  pub begin_is : line.begin ≡ clock (length before)
  pub act_is : line.end ≡ None → line.act ≡ begun number call

-- so is each call that was begun
abbrev pub CallsAreLogged : Type 0
CallsAreLogged = (c : Setting) (later before : List Move) (number : Body → ℕ) (clock : ℕ → ℕ) (p : ℕ) (call : Call) (known : ℕ) → c.served ≡ Served.List → config_fault c.config ≡ Ok tt
    → IsRun c (later ++ Move.Begin p call known ∷ before) → HasBegun c number clock (later ++ Move.Begin p call known ∷ before) before p call

-- The answer that pass p takes after the moves `seen` is in the log from then on, unless logs have no word for it: the line of a
-- call of the pass had no end, and has the time and the act of the answer.
pub record IsLogged (c : Setting) (number : Body → ℕ) (clock : ℕ → ℕ) (later seen : List Move) (p : ℕ) (told : Answer) : Type 0 where
  pub place : ℕ
  pub old : Line
  pub mine : slice_get (threads seen) place ≡ Some p
  pub had : slice_get (log_of c number clock seen) place ≡ Some old
  pub waited : old.end ≡ None
  pub has : (act : Act) → returned number old.act told ≡ Some act → slice_get (log_of c number clock (later ++ Move.Take p ∷ seen)) place ≡ Some (record { begin = old.begin; end = Some (clock (length seen)); act = act })

-- so is each answer that was taken
abbrev pub AnswersAreLogged : Type 0
AnswersAreLogged = (c : Setting) (later seen : List Move) (number : Body → ℕ) (clock : ℕ → ℕ) (p : ℕ) (told : Answer) → c.served ≡ Served.List → config_fault c.config ≡ Ok tt → IsRun c (later ++ Move.Take p ∷ seen)
    → ((reached c seen).stand p).phase ≡ Phase.Finished told → IsLogged c number clock later seen p told
