-- Refused claims: for each kind of mistake a case, and a claim about it that the clause doesn't admit.
use Rattle.std.specs.Prelude.{◌≡◌, ◌≢◌, ℕ, None}
use Rattle.cc_runs.specs.State.{Store, Swap}
use Rattle.cc_steps.specs.Names.{Chain, Kind, NodeField, Phase, Word}
use Rattle.cc_steps.specs.Walk.{IsEarly, IsFresh, Steps, Walk}

-- a claim that doesn't hold
abbrev pub Refused : Type 0 → Type 0
Refused claim = claim → ⊥

-- the word is no tail of a chain
abbrev pub IsNoTail : Word → Type 0
IsNoTail w = (x : Chain) → w ≢ Word.Tail x

pub record RefusedClaims : Type 0 where
  -- a step takes a lock: it swaps a value into a word that is no tail
  pub lock_word_is_swapped : (v : Walk) (kind : Kind) (w : Word) (value : ℕ) → IsNoTail w → Refused (Steps v kind (Swap w value))
  -- the mark of a send or a close is early
  pub mark_of_send_is_early : (v : Walk) (n : ℕ) → Steps v Kind.MarkDone (Store (Word.Node Chain.Send n NodeField.State) 2) → Refused (IsEarly v None)
  -- a pass that waits in a call loads nothing before its exchange
  pub waiting_is_fresh : (v : Walk) → v.stand.phase ≡ Phase.ReadState → Refused (IsFresh v)
