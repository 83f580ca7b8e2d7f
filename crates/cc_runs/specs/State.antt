-- The state of the machine, as functions of the names of words and the numbers of passes; and the history.
use Rattle.std.specs.Prelude.{ℕ, ◌+◌, ◌-◌, ◌/◌, ◌%◌, ◌==◌, nat_lt, if◌then◌else◌, List, [], ◌∷◌, ◌++◌, Option, Some, None}
use Rattle.cc_runs.specs.Names.{Config, Entry, Answer, Pass, Chain, Word, Stand}
use Rattle.cc_model.specs.Record.{Side, Record, of_group, with_sends, with_takes}
use Rattle.cc_runs.specs.Words.{put}

-- the value of each word, the phase of each pass, and the calls that have exchanged with the answers decided so far
pub record State : Type 0 where
  pub mem : Word → ℕ
  pub stand : ℕ → Stand
  pub history : Record

-- passes are in one row, the senders first, then the receivers, group by group
abbrev pub chain_of : Config → ℕ → Chain
chain_of c p = if nat_lt p c.senders then Chain.Send else Chain.Take ((p - c.senders) / c.receivers)

-- by what name the caller knows pass p
abbrev pub pass_at : Config → ℕ → Pass
pass_at c p = if nat_lt p c.senders then Pass.Sender (p + 1) else Pass.Receiver (p - c.senders + 1)

-- the node that a pass owns at the opening: node 0 of each chain is nobody's
abbrev pub first_node : Config → ℕ → ℕ
first_node c p = if nat_lt p c.senders then p + 1 else (p - c.senders) % c.receivers + 1

-- pass p is like this now, and every other pass as before
abbrev pub hold : (ℕ → Stand) → ℕ → Stand → ℕ → Stand
hold stands p stand q = if p == q then stand else stands q

-- one more at the end, if there is one
abbrev pub appended : {A : Type 0} → List A → Option A → List A
appended xs None = xs
appended xs (Some x) = xs ++ x ∷ []

-- the side of a chain in a history, and a history with another side of it
abbrev pub side : Chain → Record → Side
side Chain.Send h = h.sends
side (Chain.Take g) h = of_group h g

abbrev pub with_side : Chain → Record → Side → Record
with_side Chain.Send h s = with_sends h s
with_side (Chain.Take g) h s = with_takes h g s

-- the history with a call of this chain more, or an answer
abbrev pub noted : Chain → Record → Option Entry → Option Answer → Record
noted x h call answer = with_side x h (record { calls = appended (side x h).calls call; answers = appended (side x h).answers answer })

-- one atomic step: a load, a store, a swap or an addition on one word
pub data Operation : Type 0 where
  Load : Word → Operation
  Store : Word → ℕ → Operation
  Swap : Word → ℕ → Operation
  Add : Word → ℕ → Operation

-- the word that it touches
abbrev pub word_of : Operation → Word
word_of (Load w) = w
word_of (Store w value) = w
word_of (Swap w value) = w
word_of (Add w value) = w

-- the words after it
abbrev pub stored : (Word → ℕ) → Operation → Word → ℕ
stored mem (Load w) = mem
stored mem (Store w value) = put mem w value
stored mem (Swap w value) = put mem w value
stored mem (Add w value) = put mem w (mem w + value)
