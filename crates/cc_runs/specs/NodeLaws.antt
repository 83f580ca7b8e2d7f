-- The laws of the nodes of the chains after every run: which passes touch a node, and what its state is.
use Rattle.std.specs.Prelude.{◌≡◌, ◌≢◌, ◌⊎◌, ℕ, ◌+◌, ◌<◌, ◌≤◌, List, Ok}
use Rattle.cc_model.specs.Config.{config_fault}
use Rattle.cc_runs.specs.Names.{Setting, Chain, NodeField, Word, Stand, Phase, Move}
use Rattle.cc_runs.specs.State.{chain_of, word_of}
use Rattle.cc_runs.specs.Lines.{operation}
use Rattle.cc_runs.specs.Run.{IsRun, reached, passes}
use Rattle.cc_runs.specs.ChainLaws.{IsCombining, IsEntering}

-- its call has exchanged, and hasn't found out yet whether it was served or is to serve
abbrev pub IsAsking : Phase → Type 0
IsAsking (Phase.WriteTag put request) = Unit {0}
IsAsking (Phase.WriteBody put request i) = Unit {0}
IsAsking (Phase.Link put) = Unit {0}
IsAsking Phase.ReadState = Unit {0}
IsAsking _ = ⊥

-- a combiner that has decided the answer of the request in node n, and hasn't marked it
abbrev pub IsAnswering : Phase → ℕ → Type 0
IsAnswering (Phase.WriteAnswer job told) n = job.round.at ≡ n
IsAnswering (Phase.WriteAnswerTag job item) n = job.round.at ≡ n
IsAnswering (Phase.WriteAnswerBody job item i) n = job.round.at ≡ n
IsAnswering (Phase.MarkDone job) n = job.round.at ≡ n
IsAnswering _ n = ⊥

-- a call of a sender is in service, to the list or to a counter
abbrev pub IsSending : Phase → Type 0
IsSending (Phase.Counting job service) = Unit {0}
IsSending (Phase.Sending job service) = Unit {0}
IsSending _ = ⊥

module _ (c : Setting) (mem : Word → ℕ) (stand : ℕ → Stand) where
  -- pass q is on chain x, and has node n
  abbrev pub HasNode : Chain → ℕ → ℕ → Type 0
  HasNode x n q = (q < passes c) × (chain_of c.config q ≡ x) × ((stand q).node ≡ n)

  -- node n of chain x is the one in the tail, or that of a pass that asks
  abbrev pub IsAwaited : Chain → ℕ → Type 0
  IsAwaited x n = (mem (Word.Tail x) ≡ n + 1) ⊎ ((q : ℕ) × HasNode x n q × IsAsking (stand q).phase)

  -- node n of chain x is that of a pass that reads its state, and waits
  abbrev pub IsWaitedFor : Chain → ℕ → Type 0
  IsWaitedFor x n = (q : ℕ) × HasNode x n q × ((stand q).phase ≡ Phase.ReadState) × (mem (Word.Node x n NodeField.State) ≡ 1)

-- of these words and places of passes
pub record NodeLaws (c : Setting) (mem : Word → ℕ) (stand : ℕ → Stand) : Type 0 where
  -- a step touches a node of its pass's chain alone: that of the pass, or, if the pass combines, any
  pub touched : (p n : ℕ) (y : Chain) (f : NodeField) → p < passes c → word_of (operation c (chain_of c.config p) (stand p).node (stand p).phase) ≡ Word.Node y n f
      → (y ≡ chain_of c.config p) × (((stand p).node ≡ n) ⊎ IsCombining (stand p).phase)
  -- only the senders' chain serves calls of senders
  pub sends : (p : ℕ) → p < passes c → IsSending (stand p).phase → chain_of c.config p ≡ Chain.Send
  -- before its link a call wasn't served
  pub entering : (p : ℕ) → p < passes c → IsEntering (stand p).phase → mem (Word.Node (chain_of c.config p) (stand p).node NodeField.State) ≤ 1
  -- if a node that is awaited has the state 0, then no pass but that of this node reads a 0
  pub one_zero : (p n : ℕ) → p < passes c → mem (Word.Node (chain_of c.config p) n NodeField.State) ≡ 0 → IsAwaited c mem stand (chain_of c.config p) n
      → (stand p).phase ≡ Phase.ReadState → mem (Word.Node (chain_of c.config p) (stand p).node NodeField.State) ≡ 0 → (stand p).node ≡ n
  -- a combiner hands over at a node that is awaited, whose state is 1, and whose pass asks, if it has one
  pub hands_one : (p n : ℕ) → p < passes c → (stand p).phase ≡ Phase.HandOver n → mem (Word.Node (chain_of c.config p) n NodeField.State) ≡ 1
  pub hands_awaited : (p n : ℕ) → p < passes c → (stand p).phase ≡ Phase.HandOver n → IsAwaited c mem stand (chain_of c.config p) n
  pub hands_asking : (p q n : ℕ) → p < passes c → (stand p).phase ≡ Phase.HandOver n → HasNode c mem stand (chain_of c.config p) n q → IsAsking (stand q).phase
  -- a combiner answers its own request, or that of a pass that waits
  pub answers_waiting : (p n : ℕ) → p < passes c → IsAnswering (stand p).phase n → (stand p).node ≢ n → IsWaitedFor c mem stand (chain_of c.config p) n

-- they hold after every run, whatever the chains serve
abbrev pub NodeLawsOfRuns : Type 0
NodeLawsOfRuns = (c : Setting) → config_fault c.config ≡ Ok tt → (moves : List Move) → IsRun c moves → NodeLaws c (reached c moves).mem (reached c moves).stand
