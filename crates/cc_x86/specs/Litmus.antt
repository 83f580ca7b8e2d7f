-- Litmus tests of x86-TSO, by threads that share words: what buffers can show, and what they never show.
use Rattle.std.specs.Prelude.{◌≡◌, ℕ, zero, suc, ◌+◌, ◌==◌, true, List, []}
use Rattle.cc_x86.specs.Program.{Operation, Load, Store, Stop, Program, State, Turn}
use Rattle.cc_x86.specs.Sequential.{reached, IsRun}
use Rattle.cc_x86.specs.Buffered.{Move, Plain, arrived, IsBufferedRun}
use Rattle.cc_x86.specs.Fenced.{IsFenced}

abbrev pub begin : State ℕ ℕ
begin = record { words = λ w. 0; own = λ p. 0 }

abbrev pub all_plain : Plain ℕ
all_plain p own = true

-- ---- store buffering

-- thread 0 writes 1 to the word 0 and reads the word 1, and thread 1 the other way round
abbrev pub next_of : ℕ → ℕ → Operation ℕ
next_of zero zero = Store 0 1
next_of zero (suc zero) = Load 1
next_of (suc zero) zero = Store 1 1
next_of (suc zero) (suc zero) = Load 0
next_of _ _ = Stop

-- a thread that has read x has the state 2 + x
abbrev pub after_of : ℕ → ℕ → ℕ
after_of zero x = 1
after_of (suc _) x = 2 + x

abbrev pub crossing : Program ℕ ℕ
crossing = record { same = λ v w. v == w; next = next_of; after = λ p own x. after_of own x }

-- With buffers both may read 0, by atomic steps they never do, and the discipline forbids these plain stores.
pub record StoreBuffering : Type 0 where
  pub with_buffers :
      (moves : List Move) × IsBufferedRun crossing all_plain begin moves
      × ((p : ℕ) → (arrived crossing all_plain begin moves).buffer p ≡ [])
      × ((arrived crossing all_plain begin moves).own 0 ≡ 2) × ((arrived crossing all_plain begin moves).own 1 ≡ 2)
  pub by_atomic_steps : (ts : List Turn) → IsRun crossing begin ts
      → (reached crossing begin ts).own 0 ≡ 2 → (reached crossing begin ts).own 1 ≡ 2 → ⊥
  pub forbidden : IsFenced crossing all_plain → ⊥

-- ---- message passing

-- thread 0 writes 1 to the word 0 and then to the word 1, and thread 1 reads the word 1 and then the word 0
abbrev pub tells : ℕ → ℕ → Operation ℕ
tells zero zero = Store 0 1
tells zero (suc zero) = Store 1 1
tells (suc zero) zero = Load 1
tells (suc zero) (suc zero) = Load 0
tells (suc zero) (suc (suc zero)) = Load 0
tells _ _ = Stop

-- Thread 0 counts. Thread 1 has the state 1 if the first word that it read was not written, 2 if it was, and then 4 if the
-- second was not, and 3 else.
abbrev pub heard : ℕ → ℕ → ℕ → ℕ
heard zero own x = suc own
heard (suc _) zero zero = 1
heard (suc _) zero (suc _) = 2
heard (suc _) (suc zero) _ = 3
heard (suc _) (suc (suc _)) zero = 4
heard (suc _) (suc (suc _)) (suc _) = 3

abbrev pub passing : Program ℕ ℕ
passing = record { same = λ v w. v == w; next = tells; after = heard }

-- With buffers too thread 1 never finds that the word 1 was written, and then that the word 0 was not.
abbrev pub MessagePassing : Type 0
MessagePassing =
    (moves : List Move) → IsBufferedRun passing all_plain begin moves → (arrived passing all_plain begin moves).own 1 ≡ 4 → ⊥
