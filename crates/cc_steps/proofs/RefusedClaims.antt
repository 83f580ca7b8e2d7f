-- The clauses refuse these claims.
use Rattle.std.proofs.Common.{◌≡◌, ℕ, true, None, subst, arith}
use Rattle.cc_runs.specs.Early.{may_be_early, is_fresh}
use Rattle.cc_runs.specs.State.{Operation, Store, Swap, chain_of}
use Rattle.cc_runs.specs.Lines.{event_at, operation}
use Rattle.cc_runs.specs.CountLines as count_side
use Rattle.cc_runs.specs.SendLines as send_side
use Rattle.cc_runs.specs.TakeLines as take_side
use Rattle.cc_steps.specs.Names.{Chain, Config, Counting, Event, Kind, NodeField, Phase, Sending, Setting, Taking, Word}
use Rattle.cc_steps.specs.Walk.{IsEarly, IsFresh, Steps, Walk}
use Rattle.cc_steps.specs.Refused.{IsNoTail, RefusedClaims}

-- the operation is no swap
abbrev IsNoSwap : Operation → Type 0
IsNoSwap op = (w : Word) (value : ℕ) → op ≡ Swap w value → ⊥

in_count : (served : ℕ) (s : Counting) → IsNoSwap (count_side.operation served s)
in_count served s w value is = grind arith

in_send : (c : Config) (served : ℕ) (s : Sending) → IsNoSwap (send_side.operation c served s)
in_send c served s w value is = grind arith

in_take : (g : ℕ) (s : Taking) → IsNoSwap (take_side.operation g s)
in_take g s w value is = grind arith

-- of all steps only the exchange is a swap, and it swaps the tail of its chain
no_lock : (c : Setting) (x : Chain) (own : ℕ) (at : Phase) (w : Word) (value : ℕ) → IsNoTail w → operation c x own at ≡ Swap w value → ⊥
no_lock c x own at w value none is = grind (arith, none x, in_count, in_send c.config, in_take 0, in_take)

swapped : (v : Walk) (kind : Kind) (w : Word) (value : ℕ) → IsNoTail w → Steps v kind (Swap w value) → ⊥
swapped v kind w value none steps = no_lock v.setting (chain_of v.setting.config v.number) v.stand.node v.stand.phase w value none steps.1

-- a mark of the senders' chain
sent_early : (c : Setting) (x : Chain) (own : ℕ) (at : Phase) (n : ℕ) → event_at at ≡ Event.Did Kind.MarkDone → operation c x own at ≡ Store (Word.Node Chain.Send n NodeField.State) 2 → may_be_early x at ≡ true → ⊥
sent_early c x own at n e o early = grind arith

sent : (v : Walk) (n : ℕ) → Steps v Kind.MarkDone (Store (Word.Node Chain.Send n NodeField.State) 2) → IsEarly v None → ⊥
sent v n steps early = sent_early v.setting (chain_of v.setting.config v.number) v.stand.node v.stand.phase n steps.0 steps.1 early

waits : (v : Walk) → v.stand.phase ≡ Phase.ReadState → IsFresh v → ⊥
waits v at fresh =
    let no : is_fresh Phase.ReadState ≡ true = subst (λ (x : Phase). is_fresh x ≡ true) at fresh in
    absurd (cc no)

pub claims_refused : RefusedClaims
claims_refused = record { lock_word_is_swapped = swapped; mark_of_send_is_early = sent; waiting_is_fresh = waits }
