-- The chains of a machine, the passes of each, its calls and their answers.
use Rattle.std.specs.Prelude.{ℕ, ◌+◌, ◌*◌, ◌<◌, ◌^◌, List}
use Rattle.cc_model.specs.Body.{IsBody}
use Rattle.cc_model.specs.Record.{Record}
use Rattle.cc_runs.specs.Names.{Entry, Item, Answer, SendAnswer, CloseAnswer, TakeAnswer, Setting, Served, Chain, Config}
use Rattle.cc_runs.specs.Words.{groups}
use Rattle.cc_runs.specs.State.{side}

-- how many passes a chain has; it has one node more, node 0
abbrev pub passes_on : Setting → Chain → ℕ
passes_on c Chain.Send = c.config.senders
passes_on c (Chain.Take g) = c.config.receivers

-- the chains that there are: the counter has the senders' alone
abbrev pub IsChainOf : Served → (groups : ℕ) → Chain → Type 0
IsChainOf _ n Chain.Send = Unit {0}
IsChainOf Served.List n (Chain.Take g) = g < n
IsChainOf Served.Counter n (Chain.Take g) = ⊥

abbrev pub IsChain : Setting → Chain → Type 0
IsChain c x = IsChainOf c.served (groups c.config) x

-- the pass of this number on its chain
abbrev pub pass_on : Setting → Chain → ℕ → ℕ
pass_on c Chain.Send p = p
pass_on c (Chain.Take g) p = c.config.senders + (g * c.config.receivers + p)

-- the configuration has this chain
abbrev pub IsThere : Config → Chain → Type 0
IsThere c Chain.Send = Unit {0}
IsThere c (Chain.Take g) = g < groups c

-- the calls of a chain in the order of their exchanges
abbrev pub calls_on : Chain → Record → List Entry
calls_on x h = (side x h).calls

-- and the answers of the first of them
abbrev pub answers_on : Chain → Record → List Answer
answers_on x h = (side x h).answers

-- an item's sender and number fit in its tag, and its body is one
pub record IsTellable (item : Item) : Type 0 where
  pub sender : item.sender < 2 ^ 16
  pub number : item.number < 2 ^ 32
  pub body : IsBody item.body

-- the numbers of an answer of the list fit in an answer word, and an item in its words
abbrev pub Fits : Answer → Type 0
Fits (Answer.Send (SendAnswer.Accepted place)) = place < 2 ^ 56
Fits (Answer.Close (CloseAnswer.Shut total)) = total < 2 ^ 56
Fits (Answer.Close (CloseAnswer.Already total)) = total < 2 ^ 56
Fits (Answer.Take (TakeAnswer.Got item)) = (item.place < 2 ^ 56) × IsTellable item
Fits (Answer.Take (TakeAnswer.Ended total)) = total < 2 ^ 56
Fits _ = Unit {0}

-- the counter's answer is a word as it is
abbrev pub FitsIn : Served → Answer → Type 0
FitsIn Served.Counter a = Unit {0}
FitsIn Served.List a = Fits a
