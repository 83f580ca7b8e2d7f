-- The judge's queue is the sequential queue of the laws on runs, with one group: what a log says of calls and their answers, and
-- that both queues answer the same orders.
use Rattle.std.specs.Prelude.{◌≡◌, ◌⊎◌, ℕ, ◌≤◌, false, List, [], ◌∷◌, ◌++◌, length, Option, Some, None, Ok}
use Rattle.cc_model.specs.Config.{config_fault}
use Rattle.cc_runs.specs.Linearizable.{Effect, IsExact}
use Rattle.cc_judge.specs.Order.{IsRun, Closes}
use Rattle.cc_agree.specs.Names.{Body, Call, Answer, SendAnswer, CloseAnswer, TakeAnswer, Config, Act, Step}

-- ---- what a log says of a call: nothing of places, totals, senders' numbers, and what a pass knew

-- of one that hasn't returned; `number` gives each body its number as an item of the log
abbrev pub begun : (number : Body → ℕ) → Call → Act
begun number (Call.Send body) = Act.Send (number body)
begun number Call.Close = Act.Close
begun number Call.Take = Act.Taking

-- of the same call, once it has this answer: logs have no word for Spent
abbrev pub returned : (number : Body → ℕ) → (act : Act) → Answer → Option Act
returned number act (Answer.Send (SendAnswer.Accepted place)) = Some act
returned number act (Answer.Send SendAnswer.Full) = Some Act.Full
returned number act (Answer.Send SendAnswer.Closed) = Some Act.Closed
returned number act (Answer.Send SendAnswer.Spent) = None
returned number act (Answer.Close told) = Some act
returned number act (Answer.Take (TakeAnswer.Got item)) = Some (Act.Took (number item.body))
returned number act (Answer.Take TakeAnswer.Empty) = Some Act.FoundNone
returned number act (Answer.Take (TakeAnswer.Ended total)) = Some Act.Ended

-- the act reports a call with its answer; of a take that found the queue closed and empty it may say only that it found none
abbrev pub Reports : (number : Body → ℕ) → Effect → Act → Type 0
Reports number e act =
    let told = returned number (begun number e.entry.call) e.answer in
    (told ≡ Some act) ⊎ ((told ≡ Some Act.Ended) × (act ≡ Act.FoundNone))

-- ---- the steps of an order

-- the queue is afterwards as it was
abbrev pub ChangesNothing : Answer → Type 0
ChangesNothing (Answer.Send (SendAnswer.Accepted place)) = ⊥
ChangesNothing (Answer.Close (CloseAnswer.Shut total)) = ⊥
ChangesNothing (Answer.Take (TakeAnswer.Got item)) = ⊥
ChangesNothing _ = Unit {0}

-- after the steps before comes one that reports the call, or none, if the call changes nothing
abbrev pub Adds : (number : Body → ℕ) → Effect → (before after : List Step) → Type 0
Adds number e before after = ((s : Step) × Reports number e s.act × (after ≡ before ++ s ∷ [])) ⊎ (ChangesNothing e.answer × (after ≡ before))

-- the steps report an order of calls, whose newest call is its first element
abbrev pub ReportAll : (number : Body → ℕ) → List Effect → List Step → Type 0
ReportAll number [] steps = steps ≡ []
ReportAll number (e ∷ earlier) steps = (before : List Step) × ReportAll number earlier before × Adds number e before steps

-- ---- one queue

-- the judge's queue answers so, from the opening on
abbrev pub IsAnswered : (capacity : ℕ) → List Step → Type 0
IsAnswered capacity steps = IsRun (Some capacity) [] steps × Closes false steps

-- steps that report calls which a sequential queue answers exactly so are answered by the judge's queue
abbrev pub ExactOrdersAreAnswered : Type 0
ExactOrdersAreAnswered = (cfg : Config) (number : Body → ℕ) (order : List Effect) (steps : List Step) → cfg.groups ≡ 1 → IsExact cfg order → ReportAll number order steps → IsAnswered cfg.capacity steps

-- calls that a sequential queue answers exactly so, and of which each step reports one
pub record IsOfExact (cfg : Config) (number : Body → ℕ) (steps : List Step) : Type 0 where
  pub order : List Effect
  pub exact : IsExact cfg order
  pub report : ReportAll number order steps
  pub each : length order ≡ length steps

-- and steps that the judge's queue answers report such calls, if each item is the number of a body, and the queue's life suffices
abbrev pub AnsweredOrdersAreExact : Type 0
AnsweredOrdersAreExact = (cfg : Config) (number : Body → ℕ) (body : ℕ → Body) (steps : List Step) → config_fault cfg ≡ Ok tt → cfg.groups ≡ 1 → ((item : ℕ) → number (body item) ≡ item)
    → length steps ≤ cfg.life → IsAnswered cfg.capacity steps → IsOfExact cfg number steps
