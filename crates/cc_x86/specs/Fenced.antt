-- The discipline of plain stores, and its law: if no thread looks at anything between a plain store and its next locked
-- instruction, then store buffers aren't seen. To look is to load a shared word, or to return.
use Rattle.std.specs.Prelude.{◌≡◌, ℕ, Bool, true, false, List, [], ◌∷◌}
use Rattle.cc_x86.specs.Program.{Operation, Load, Store, Outside, Program, State, Turn}
use Rattle.cc_x86.specs.Sequential.{reached, effects, IsRun}
use Rattle.cc_x86.specs.Buffered.{Plain, is_plain, Move, Acts, Drains, arrived, shown, IsBufferedRun}

-- ---- the discipline

-- it neither reads a shared word nor comes back to the caller
abbrev pub LooksAtNothing : {W : Type 0} → Operation W → Type 0
LooksAtNothing (Load w) = ⊥
LooksAtNothing (Outside v) = ⊥
LooksAtNothing _ = Unit {0}

-- what a thread does after this, if this is a store that may be plain
abbrev pub IsFencedAt : {W S : Type 0} → Program W S → ℕ → S → Operation W → Bool → Type 0
IsFencedAt c p own (Store w v) true = LooksAtNothing (c.next p (c.after p own 0))
IsFencedAt c p own _ _ = Unit {0}

-- The operation after a store that may be plain is a store, a locked instruction, or none. So between a plain store and its
-- thread's next look there is a locked instruction.
abbrev pub IsFenced : {W S : Type 0} → Program W S → Plain S → Type 0
IsFenced {W} {S} c plain = (p : ℕ) (own : S) → IsFencedAt c p own (c.next p own) (plain p own)

-- The most stores that may be plain: each one after which its thread looks at nothing.
abbrev pub looks_at_nothing : {W : Type 0} → Operation W → Bool
looks_at_nothing (Load w) = false
looks_at_nothing (Outside v) = false
looks_at_nothing _ = true

abbrev pub most_plain : {W S : Type 0} → Program W S → Plain S
most_plain c p own = looks_at_nothing (c.next p (c.after p own 0))

abbrev pub none_plain : {S : Type 0} → Plain S
none_plain p own = false

abbrev pub MostAreFenced : (W S : Type 0) → Type 0
MostAreFenced W S = (c : Program W S) → IsFenced c (most_plain c) × IsFenced c none_plain

-- ---- the run of atomic steps

-- its turns: a plain store has its turn when it leaves the buffer
abbrev pub turn_of : {W : Type 0} → Turn → Operation W → Bool → List Turn → List Turn
turn_of t (Store w v) true earlier = earlier
turn_of t does _ earlier = t ∷ earlier

abbrev pub turns : {W S : Type 0} → Program W S → Plain S → State W S → List Move → List Turn
turns c plain s [] = []
turns c plain s (Acts t plainly ∷ earlier) =
    let own = (arrived c plain s earlier).own t.thread in
    turn_of t (c.next t.thread own) (is_plain plain t.thread own plainly) (turns c plain s earlier)
turns c plain s (Drains p ∷ earlier) = record { thread = p; told = 0 } ∷ turns c plain s earlier

-- Those turns are a run, whose effects are the same in the same order, with the same shared words at its end, and with each
-- thread in the same state that has no store waiting. None has that comes to look: so at a call's return no store waits.
pub record IsTheSame {W S : Type 0} (c : Program W S) (plain : Plain S) (s : State W S) (moves : List Move) : Type 0 where
  pub run : IsRun c s (turns c plain s moves)
  pub effects : effects c s (turns c plain s moves) ≡ shown c plain s moves
  pub words : (reached c s (turns c plain s moves)).words ≡ (arrived c plain s moves).words
  pub own : (p : ℕ) → (arrived c plain s moves).buffer p ≡ [] → (reached c s (turns c plain s moves)).own p ≡ (arrived c plain s moves).own p
  pub empty : (p : ℕ) → (LooksAtNothing (c.next p ((arrived c plain s moves).own p)) → ⊥) → (arrived c plain s moves).buffer p ≡ []

-- the law of store buffers
abbrev pub BuffersAreNotSeen : (W S : Type 0) → Type 0
BuffersAreNotSeen W S =
    (c : Program W S) (plain : Plain S) (s : State W S) (moves : List Move) → IsFenced c plain → IsBufferedRun c plain s moves → IsTheSame c plain s moves
