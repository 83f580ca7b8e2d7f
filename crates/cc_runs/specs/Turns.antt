-- Which passes of a chain are in their calls, which of them wait, and whose turn it is.
use Rattle.std.specs.Prelude.{◌≡◌, ℕ, ◌+◌, ◌<◌, Bool, true, false, not, ◌&&◌, List, length, drop, IsTrue}
use Rattle.std.specs.List.{list_any}
use Rattle.cc_model.specs.Items.{is_pass}
use Rattle.cc_runs.specs.Names.{Pass, Entry, Setting, Chain, NodeField, Word, Sending, Stand, Phase}
use Rattle.cc_runs.specs.State.{State, pass_at}
use Rattle.cc_runs.specs.OnChain.{pass_on, passes_on, calls_on, answers_on}
use Rattle.cc_runs.specs.ChainLaws.{is_combining}

-- ---- passes in their calls

-- its call has exchanged, and its pass hasn't read the whole answer
abbrev pub is_in : Phase → Bool
is_in Phase.Idle = false
is_in (Phase.ResetNext call) = false
is_in (Phase.ResetState call) = false
is_in (Phase.Exchange call) = false
is_in (Phase.Finished told) = false
is_in _ = true

-- some call after the first k is this pass's
abbrev pub has_later : Pass → ℕ → List Entry → Bool
has_later who k calls = list_any (λ e. is_pass who e.pass) (drop k calls)

-- the n-th pass of the chain is in one of the first k calls of it
abbrev pub is_among : Setting → Chain → ℕ → State → ℕ → Bool
is_among c x k s n = is_in (s.stand (pass_on c x n)).phase && not (has_later (pass_at c.config (pass_on c x n)) k (calls_on x s.history))

abbrev pub IsAmong : Setting → Chain → ℕ → State → ℕ → Type 0
IsAmong c x k s n = IsTrue (is_among c x k s n)

-- a pass waits if its next step reads a state that is still 1
abbrev pub Waits : State → Chain → Stand → Type 0
Waits s x at = (at.phase ≡ Phase.ReadState) × (s.mem (Word.Node x at.node NodeField.State) ≡ 1)

-- ---- turns

-- a combiner has decided the answer of the call that it serves, and hasn't marked it: 1
abbrev pub decided : Phase → ℕ
decided (Phase.Sending job (Sending.WriteLastMark total)) = 1
decided (Phase.Sending job (Sending.WriteShut total)) = 1
decided (Phase.Sending job (Sending.WriteLast place at)) = 1
decided (Phase.Sending job (Sending.WriteCount place at)) = 1
decided (Phase.Sending job (Sending.WriteCursor place at)) = 1
decided (Phase.WriteAnswer job told) = 1
decided (Phase.WriteAnswerTag job item) = 1
decided (Phase.WriteAnswerBody job item i) = 1
decided (Phase.MarkDone job) = 1
decided _ = 0

-- One of the first k calls isn't served, and it is this pass's turn: the pass is in one of them and writes its request or its
-- link; or it reads state 0; or it combines.
abbrev pub IsTurnAt : Setting → Chain → ℕ → State → ℕ → Phase → Type 0
IsTurnAt c x k s n (Phase.WriteTag put request) = IsAmong c x k s n
IsTurnAt c x k s n (Phase.WriteBody put request i) = IsAmong c x k s n
IsTurnAt c x k s n (Phase.Link put) = IsAmong c x k s n
IsTurnAt c x k s n Phase.ReadState = (s.mem (Word.Node x (s.stand (pass_on c x n)).node NodeField.State) ≡ 0) × (length (answers_on x s.history) < k)
IsTurnAt c x k s n at = IsTrue (is_combining at) × (length (answers_on x s.history) < k + decided at)

abbrev pub IsTurn : Setting → Chain → ℕ → State → ℕ → Type 0
IsTurn c x k s n = IsTurnAt c x k s n (s.stand (pass_on c x n)).phase

-- a pass whose turn it is
pub record SomeTurn (c : Setting) (x : Chain) (k : ℕ) (s : State) : Type 0 where
  pub pass : ℕ
  pub inside : pass < passes_on c x
  pub turn : IsTurn c x k s pass
