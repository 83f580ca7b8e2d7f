-- Threads that drive several passes each, by one buffer: a pass is here what Program calls a thread. A thread takes up a pass with
-- an empty buffer, or at a place from which the pass loads nothing before its next locked instruction. So no load sees another
-- pass's store that waits, and each pass has, as far as it can see, a buffer of its own.
use Rattle.std.specs.Prelude.{◌≡◌, ◌≢◌, ◌⊎◌, ℕ, ◌==◌, Bool, true, if◌then◌else◌, List, [], ◌∷◌, ◌++◌, Option, Some, None}
use Rattle.cc_x86.specs.Program.{Operation, Load, Store, Outside, Program, State, Effect, Turn, hold, put}
use Rattle.cc_x86.specs.Buffered as buffers
use Rattle.cc_x86.specs.Buffered.{Plain, is_plain, Waiting, found_behind, at_once, acts_with, MayAct, arrived, shown, IsBufferedRun}

-- a store that waits, and the pass that made it
pub record Tagged (W : Type 0) : Type 0 where
  pub pass : ℕ
  pub store : Waiting W

-- The shared words, the passes' own states, the stores of each thread that wait, the oldest first, and the pass that each
-- thread drives.
pub record Crew (W S : Type 0) : Type 0 where
  pub words : W → ℕ
  pub own : ℕ → S
  pub buffer : ℕ → List (Tagged W)
  pub drives : ℕ → Option ℕ

-- Thread t takes up pass p; it drives none any more; it does what its pass does next, by a plain move if that is a store that may
-- be plain and the flag says so; or the oldest of its stores reaches the shared words.
pub data Move : Type 0 where
  TakesUp : ℕ → ℕ → Move
  Leaves : ℕ → Move
  Acts : ℕ → Turn → Bool → Move
  Drains : ℕ → Move

abbrev pub stores : {W : Type 0} → List (Tagged W) → List (Waiting W)
stores [] = []
stores (e ∷ newer) = e.store ∷ stores newer

abbrev pub tagged : {W : Type 0} → ℕ → List (Waiting W) → List (Tagged W)
tagged p [] = []
tagged p (e ∷ newer) = record { pass = p; store = e } ∷ tagged p newer

-- what a plain store leaves in the buffer
abbrev pub waits_more : {W : Type 0} → ℕ → Operation W → Bool → List (Waiting W)
waits_more p (Store w v) true = record { word = w; value = v } ∷ []
waits_more p _ _ = []

abbrev pub acted_by : {W S : Type 0} → Program W S → Crew W S → ℕ → ℕ → ℕ → Operation W → Bool → Crew W S
acted_by c m t p told does flag = record {
  words = at_once c.same m.words does flag;
  own = hold m.own p (c.after p (m.own p) (found_behind c.same m.words (stores (m.buffer t)) does told));
  buffer = hold m.buffer t (m.buffer t ++ tagged p (waits_more p does flag));
  drives = m.drives;
}

abbrev pub drained_by : {W S : Type 0} → Program W S → Crew W S → ℕ → List (Tagged W) → Crew W S
drained_by c m t [] = m
drained_by c m t (e ∷ newer) = record { words = put c.same m.words e.store.word e.store.value; own = m.own; buffer = hold m.buffer t newer; drives = m.drives }

abbrev pub moved : {W S : Type 0} → Program W S → Plain S → Crew W S → Move → Crew W S
moved c plain m (TakesUp t p) = record { words = m.words; own = m.own; buffer = m.buffer; drives = hold m.drives t (Some p) }
moved c plain m (Leaves t) = record { words = m.words; own = m.own; buffer = m.buffer; drives = hold m.drives t None }
moved c plain m (Acts t turn plainly) =
    acted_by c m t turn.thread turn.told (c.next turn.thread (m.own turn.thread)) (is_plain plain turn.thread (m.own turn.thread) plainly)
moved c plain m (Drains t) = drained_by c m t (m.buffer t)

abbrev pub opened : {W S : Type 0} → State W S → Crew W S
opened s = record { words = s.words; own = s.own; buffer = λ t. []; drives = λ t. None }

-- the crew after moves, the newest first
abbrev pub reached : {W S : Type 0} → Program W S → Plain S → State W S → List Move → Crew W S
reached c plain s [] = opened s
reached c plain s (m ∷ earlier) = moved c plain (reached c plain s earlier) m

-- ---- what moves may be made

-- the stores of pass p
abbrev pub of_pass : {W : Type 0} → ℕ → List (Tagged W) → List (Waiting W)
of_pass p [] = []
of_pass p (e ∷ newer) = if e.pass == p then e.store ∷ of_pass p newer else of_pass p newer

-- from which places a pass loads nothing before its next locked instruction
abbrev pub Fresh : Type 0 → Type 0
Fresh S = ℕ → S → Bool

abbrev pub StaysFresh : {W S : Type 0} → Program W S → Fresh S → ℕ → S → Operation W → Type 0
StaysFresh c fresh p own (Load w) = ⊥
StaysFresh c fresh p own (Store w v) = fresh p (c.after p own 0) ≡ true
StaysFresh c fresh p own (Outside v) = (told : ℕ) → fresh p (c.after p own told) ≡ true
StaysFresh c fresh p own _ = Unit {0}

abbrev pub AreFresh : {W S : Type 0} → Program W S → Fresh S → Type 0
AreFresh {W} {S} c fresh = (p : ℕ) (own : S) → fresh p own ≡ true → StaysFresh c fresh p own (c.next p own)

-- A thread takes up a pass that no other thread drives, and of which no other thread has a store that waits. It acts by the pass that it
-- drives.
pub record MayTakeUp {W S : Type 0} (fresh : Fresh S) (m : Crew W S) (t p : ℕ) : Type 0 where
  pub free : (u : ℕ) → u ≢ t → m.drives u ≢ Some p
  pub out : (u : ℕ) → u ≢ t → of_pass p (m.buffer u) ≡ []
  pub ready : (m.buffer t ≡ []) ⊎ (fresh p (m.own p) ≡ true)

abbrev pub MayDrain : {W : Type 0} → List (Tagged W) → Type 0
MayDrain [] = ⊥
MayDrain (e ∷ newer) = Unit {0}

abbrev pub May : {W S : Type 0} → Program W S → Plain S → Fresh S → Crew W S → Move → Type 0
May c plain fresh m (TakesUp t p) = MayTakeUp fresh m t p
May c plain fresh m (Leaves t) = Unit {0}
May c plain fresh m (Acts t turn plainly) =
    (m.drives t ≡ Some turn.thread)
    × MayAct (stores (m.buffer t)) (c.next turn.thread (m.own turn.thread)) (is_plain plain turn.thread (m.own turn.thread) plainly)
May c plain fresh m (Drains t) = MayDrain (m.buffer t)

abbrev pub IsDrivenRun : {W S : Type 0} → Program W S → Plain S → Fresh S → State W S → List Move → Type 0
IsDrivenRun c plain fresh s [] = Unit {0}
IsDrivenRun c plain fresh s (m ∷ earlier) = IsDrivenRun c plain fresh s earlier × May c plain fresh (reached c plain s earlier) m

-- ---- the passes' own moves

abbrev pub drains_of : {W : Type 0} → List (Tagged W) → List buffers.Move → List buffers.Move
drains_of [] earlier = earlier
drains_of (e ∷ newer) earlier = buffers.Drains e.pass ∷ earlier

abbrev pub by_passes : {W S : Type 0} → Program W S → Plain S → State W S → List Move → List buffers.Move
by_passes c plain s [] = []
by_passes c plain s (TakesUp t p ∷ earlier) = by_passes c plain s earlier
by_passes c plain s (Leaves t ∷ earlier) = by_passes c plain s earlier
by_passes c plain s (Acts t turn plainly ∷ earlier) = buffers.Acts turn plainly ∷ by_passes c plain s earlier
by_passes c plain s (Drains t ∷ earlier) = drains_of ((reached c plain s earlier).buffer t) (by_passes c plain s earlier)

-- the effects on the shared words and outside, the newest first, each by its pass
abbrev pub drains_with : {W : Type 0} → List (Tagged W) → List (Effect W)
drains_with [] = []
drains_with (e ∷ newer) = record { thread = e.pass; does = Store e.store.word e.store.value; found = 0 } ∷ []

abbrev pub done : {W S : Type 0} → Program W S → Plain S → State W S → List Move → List (Effect W)
done c plain s [] = []
done c plain s (TakesUp t p ∷ earlier) = done c plain s earlier
done c plain s (Leaves t ∷ earlier) = done c plain s earlier
done c plain s (Acts t turn plainly ∷ earlier) =
    let m = reached c plain s earlier in
    let does = c.next turn.thread (m.own turn.thread) in
    acts_with turn.thread (found_behind c.same m.words (stores (m.buffer t)) does turn.told) does (is_plain plain turn.thread (m.own turn.thread) plainly) ++ done c plain s earlier
done c plain s (Drains t ∷ earlier) = drains_with ((reached c plain s earlier).buffer t) ++ done c plain s earlier

-- They are a run in which each pass has a buffer of its own, with the same effects in the same order, and the same states.
pub record IsByPasses {W S : Type 0} (c : Program W S) (plain : Plain S) (s : State W S) (moves : List Move) : Type 0 where
  pub run : IsBufferedRun c plain s (by_passes c plain s moves)
  pub effects : shown c plain s (by_passes c plain s moves) ≡ done c plain s moves
  pub words : (arrived c plain s (by_passes c plain s moves)).words ≡ (reached c plain s moves).words
  pub own : (arrived c plain s (by_passes c plain s moves)).own ≡ (reached c plain s moves).own

-- the law of threads that drive passes
abbrev pub DrivenRunsAreByPasses : (W S : Type 0) → Type 0
DrivenRunsAreByPasses W S =
    (c : Program W S) (plain : Plain S) (fresh : Fresh S) (s : State W S) (moves : List Move) → AreFresh c fresh → IsDrivenRun c plain fresh s moves → IsByPasses c plain s moves
