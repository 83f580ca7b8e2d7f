-- The x86-TSO abstract machine (Sewell, Sarkar, Owens, Zappa Nardelli and Myreen, CACM 2010): a shared memory, and for each
-- thread a FIFO buffer of its stores. A load sees the newest store to its word in its own thread's buffer, or else memory. A
-- plain store goes into the buffer. The oldest store of a buffer may go to memory at any time. A locked instruction is one
-- atomic step here: in x86-TSO it holds the machine's lock, and until its buffer is empty and it lets the lock go no other
-- thread reads or writes memory. Which stores may be plain is given apart from the program; each other store is a locked
-- instruction, an exchange whose finding is dropped.
use Rattle.std.specs.Prelude.{◌≡◌, ℕ, Bool, true, false, if◌then◌else◌, List, [], ◌∷◌, ◌++◌}
use Rattle.cc_x86.specs.Program.{Operation, Load, Store, Locked, Stop, Program, State, Effect, Turn, hold, put, found, written}

-- a store that waits
pub record Waiting (W : Type 0) : Type 0 where
  pub word : W
  pub value : ℕ

-- The shared words, the threads' own states, and the stores of each thread that wait, the oldest first.
pub record Machine (W S : Type 0) : Type 0 where
  pub words : W → ℕ
  pub own : ℕ → S
  pub buffer : ℕ → List (Waiting W)

-- A thread does what it does next, by a plain move if that is a store that may be plain and the flag says so; or the oldest of
-- its stores reaches the shared words.
pub data Move : Type 0 where
  Acts : Turn → Bool → Move
  Drains : ℕ → Move

-- what a thread reads of w: its own newest store to w that waits, or else what the shared word has
abbrev pub seen : {W : Type 0} → (W → W → Bool) → List (Waiting W) → W → ℕ → ℕ
seen same [] w shared = shared
seen same (e ∷ newer) w shared = seen same newer w (if same e.word w then e.value else shared)

-- what an operation finds: a load sees the thread's own buffer
abbrev pub found_behind : {W : Type 0} → (W → W → Bool) → (W → ℕ) → List (Waiting W) → Operation W → ℕ → ℕ
found_behind same words waiting (Load w) told = seen same waiting w (words w)
found_behind same words waiting does told = found words does told

-- a plain store goes into the buffer, and all else acts at once
abbrev pub at_once : {W : Type 0} → (W → W → Bool) → (W → ℕ) → Operation W → Bool → W → ℕ
at_once same words (Store w v) true = words
at_once same words does _ = written same words does

abbrev pub buffered : {W : Type 0} → List (Waiting W) → Operation W → Bool → List (Waiting W)
buffered waiting (Store w v) true = waiting ++ record { word = w; value = v } ∷ []
buffered waiting _ _ = waiting

-- the machine after thread p did this
abbrev pub acted_by : {W S : Type 0} → Program W S → Machine W S → ℕ → ℕ → Operation W → Bool → Machine W S
acted_by c m p told does is_plain = record {
  words = at_once c.same m.words does is_plain;
  own = hold m.own p (c.after p (m.own p) (found_behind c.same m.words (m.buffer p) does told));
  buffer = hold m.buffer p (buffered (m.buffer p) does is_plain);
}

-- the machine after the oldest of the stores of p that wait, if there is one, reached the words
abbrev pub drained_by : {W S : Type 0} → Program W S → Machine W S → ℕ → List (Waiting W) → Machine W S
drained_by c m p [] = m
drained_by c m p (e ∷ newer) =
    record { words = put c.same m.words e.word e.value; own = m.own; buffer = hold m.buffer p newer }

-- which stores may be plain, by the number of their thread and its state
abbrev pub Plain : Type 0 → Type 0
Plain S = ℕ → S → Bool

-- whether the next store of p is plain: it may be, and this move says so
abbrev pub is_plain : {S : Type 0} → Plain S → ℕ → S → Bool → Bool
is_plain plain p own true = plain p own
is_plain plain p own false = false

abbrev pub moved : {W S : Type 0} → Program W S → Plain S → Machine W S → Move → Machine W S
moved c plain m (Acts t plainly) =
    acted_by c m t.thread t.told (c.next t.thread (m.own t.thread)) (is_plain plain t.thread (m.own t.thread) plainly)
moved c plain m (Drains p) = drained_by c m p (m.buffer p)

-- no store waits at the opening
abbrev pub opened : {W S : Type 0} → State W S → Machine W S
opened s = record { words = s.words; own = s.own; buffer = λ p. [] }

-- the machine after moves, the newest first
abbrev pub arrived : {W S : Type 0} → Program W S → Plain S → State W S → List Move → Machine W S
arrived c plain s [] = opened s
arrived c plain s (m ∷ earlier) = moved c plain (arrived c plain s earlier) m

-- the effects on the shared words and outside, the newest first: a plain store has its effect when it leaves the buffer
abbrev pub acts_with : {W : Type 0} → ℕ → ℕ → Operation W → Bool → List (Effect W)
acts_with p x (Store w v) true = []
acts_with p x does _ = record { thread = p; does = does; found = x } ∷ []

abbrev pub drains_with : {W : Type 0} → ℕ → List (Waiting W) → List (Effect W)
drains_with p [] = []
drains_with p (e ∷ newer) = record { thread = p; does = Store e.word e.value; found = 0 } ∷ []

abbrev pub effects_of : {W S : Type 0} → Program W S → Plain S → Machine W S → Move → List (Effect W)
effects_of c plain m (Acts t plainly) =
    let does = c.next t.thread (m.own t.thread) in
    acts_with t.thread (found_behind c.same m.words (m.buffer t.thread) does t.told) does (is_plain plain t.thread (m.own t.thread) plainly)
effects_of c plain m (Drains p) = drains_with p (m.buffer p)

abbrev pub shown : {W S : Type 0} → Program W S → Plain S → State W S → List Move → List (Effect W)
shown c plain s [] = []
shown c plain s (m ∷ earlier) = effects_of c plain (arrived c plain s earlier) m ++ shown c plain s earlier

-- a locked instruction waits until its thread's buffer is empty
abbrev pub MayAct : {W : Type 0} → List (Waiting W) → Operation W → Bool → Type 0
MayAct waiting (Store w v) false = waiting ≡ []
MayAct waiting (Locked w f) _ = waiting ≡ []
MayAct waiting Stop _ = ⊥
MayAct waiting _ _ = Unit {0}

abbrev pub MayDrain : {W : Type 0} → List (Waiting W) → Type 0
MayDrain [] = ⊥
MayDrain (e ∷ newer) = Unit {0}

abbrev pub May : {W S : Type 0} → Program W S → Plain S → Machine W S → Move → Type 0
May c plain m (Acts t plainly) =
    MayAct (m.buffer t.thread) (c.next t.thread (m.own t.thread)) (is_plain plain t.thread (m.own t.thread) plainly)
May c plain m (Drains p) = MayDrain (m.buffer p)

-- each move could be made in the machine to which the earlier ones led
abbrev pub IsBufferedRun : {W S : Type 0} → Program W S → Plain S → State W S → List Move → Type 0
IsBufferedRun c plain s [] = Unit {0}
IsBufferedRun c plain s (m ∷ earlier) = IsBufferedRun c plain s earlier × May c plain (arrived c plain s earlier) m
