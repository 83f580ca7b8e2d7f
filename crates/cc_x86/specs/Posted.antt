-- A finer discipline of plain stores, and its law: a thread may load and return while its stores wait, if until they leave the buffer
-- no other thread touches their words, but by loads that find what was there before, and wait.
use Rattle.std.specs.Prelude.{◌≡◌, ◌≢◌, ℕ, ◌==◌, Bool, true, false, if◌then◌else◌, List, [], ◌∷◌, ◌++◌, length, Option, Some, None}
use Rattle.cc_x86.specs.Program.{Operation, Load, Store, Locked, Outside, Program, State, Effect, Turn, hold, put, written}
use Rattle.cc_x86.specs.Sequential.{reached, effects, IsRun}
use Rattle.cc_x86.specs.Fenced.{IsFenced}
use Rattle.cc_x86.specs.Buffered.{Plain, is_plain, Waiting, Move, Acts, Drains, seen, found_behind, arrived, shown, IsBufferedRun}

-- ---- atomic runs with posted stores

-- which loads wait, by the number of their thread, its state, and what they find
abbrev pub Waits : Type 0 → Type 0
Waits S = ℕ → S → ℕ → Bool

-- such a load leaves its thread as it was
abbrev pub AreWaiting : {W S : Type 0} → Program W S → Waits S → Type 0
AreWaiting {W} {S} c waits = (p : ℕ) (own : S) (x : ℕ) → waits p own x ≡ true → c.after p own x ≡ own

-- A store is posted if its own thread goes on as if it were done, and no other thread has got it yet. A thread posts stores only
-- right before it looks: it loads a word, without waiting, or returns. It finds what the word has in the run.
abbrev pub IsLook : {W S : Type 0} → (W → W → Bool) → Waits S → ℕ → S → (W → ℕ) → List (Waiting W) → (W → ℕ) → Operation W → Type 0
IsLook same waits p own words posted settled (Load w) = (waits p own (seen same posted w (settled w)) ≡ false) × (words w ≡ seen same posted w (settled w))
IsLook same waits p own words posted settled (Outside v) = Unit {0}
IsLook same waits p own words posted settled _ = ⊥

abbrev pub IsWrite : {W : Type 0} → Operation W → Type 0
IsWrite (Store w v) = Unit {0}
IsWrite (Locked w f) = Unit {0}
IsWrite _ = ⊥

-- until it has looked, no other thread goes on
abbrev pub IsFor : Option ℕ → ℕ → Type 0
IsFor None p = Unit {0}
IsFor (Some q) p = q ≡ p

-- whether one of these stores is to the word w
abbrev pub has : {W : Type 0} → (W → W → Bool) → List (Waiting W) → W → Bool
has same [] w = false
has same (e ∷ newer) w = if same e.word w then true else has same newer w

-- no other thread than p has posted a store to w
abbrev pub Alone : {W : Type 0} → (W → W → Bool) → (ℕ → List (Waiting W)) → ℕ → W → Type 0
Alone same posted p w = (q : ℕ) → q ≢ p → has same (posted q) w ≡ false

-- each word is as the thread has it that has posted stores to it, which is one at most
abbrev pub Agrees : {W : Type 0} → (W → W → Bool) → (W → ℕ) → (ℕ → List (Waiting W)) → (W → ℕ) → Type 0
Agrees {W} same words posted settled = (x : W) → (q : ℕ) × Alone same posted q x × (words x ≡ seen same (posted q) x (settled x))

-- The atomic runs with posted stores: the turns, the words as threads have them that posted nothing to them, the stores that are
-- posted, the oldest first, and the thread that has posted stores and not looked since.
pub data Leads {W S : Type 0} (c : Program W S) (plain : Plain S) (waits : Waits S) (s : State W S) : List Turn → (W → ℕ) → (ℕ → List (Waiting W)) → Option ℕ → Type 0 where
  Opens : Leads c plain waits s [] s.words (λ p. []) None
  -- a plain store is posted
  Posts : {ts : List Turn} {settled : W → ℕ} {posted : ℕ → List (Waiting W)} {busy : Option ℕ} (p : ℕ) (w : W) (v : ℕ)
      → Leads c plain waits s ts settled posted busy → IsFor busy p → Agrees c.same (reached c s ts).words posted settled
      → c.next p ((reached c s ts).own p) ≡ Store w v → plain p ((reached c s ts).own p) ≡ true
      → Leads c plain waits s (record { thread = p; told = 0 } ∷ ts) settled (hold posted p (posted p ++ record { word = w; value = v } ∷ [])) (Some p)
  -- a thread looks
  Looks : {ts : List Turn} {settled : W → ℕ} {posted : ℕ → List (Waiting W)} {busy : Option ℕ} (p told : ℕ) (does : Operation W)
      → Leads c plain waits s ts settled posted busy → IsFor busy p
      → c.next p ((reached c s ts).own p) ≡ does → IsLook c.same waits p ((reached c s ts).own p) (reached c s ts).words (posted p) settled does
      → Leads c plain waits s (record { thread = p; told = told } ∷ ts) settled posted None
  -- a write that all threads have got at once: a locked instruction, or a store that isn't posted
  Writes : {ts : List Turn} {settled : W → ℕ} {posted : ℕ → List (Waiting W)} (p told : ℕ) (does : Operation W)
      → Leads c plain waits s ts settled posted None
      → c.next p ((reached c s ts).own p) ≡ does → IsWrite does → posted p ≡ []
      → Leads c plain waits s (record { thread = p; told = told } ∷ ts) (written c.same settled does) posted None
  -- the oldest of the stores that p has posted is got by all
  Settles : {ts : List Turn} {settled : W → ℕ} {posted : ℕ → List (Waiting W)} (p : ℕ) (e : Waiting W) (newer : List (Waiting W))
      → Leads c plain waits s ts settled posted None → posted p ≡ e ∷ newer
      → Leads c plain waits s ts (put c.same settled e.word e.value) (hold posted p newer) None

-- ---- the discipline

-- nor to any name of w
abbrev pub AloneAt : {W : Type 0} → (W → W → Bool) → (ℕ → List (Waiting W)) → ℕ → W → Type 0
AloneAt {W} same posted p w = (x : W) → same w x ≡ true → Alone same posted p x

-- a thread doesn't touch a word to which another has posted a store, unless by a load that waits
abbrev pub IsApart : {W S : Type 0} → (W → W → Bool) → Waits S → ℕ → S → (ℕ → List (Waiting W)) → (W → ℕ) → Operation W → Type 0
IsApart same waits p own posted settled (Load w) = waits p own (seen same (posted p) w (settled w)) ≡ false → Alone same posted p w
IsApart same waits p own posted settled (Store w v) = AloneAt same posted p w
IsApart same waits p own posted settled (Locked w f) = Alone same posted p w × AloneAt same posted p w
IsApart same waits p own posted settled _ = Unit {0}

-- so it is at each moment of each run of which this holds
abbrev pub IsOrderly : {W S : Type 0} → Program W S → Plain S → Waits S → State W S → (List Turn → Type 0) → Type 0
IsOrderly {W} {S} c plain waits s Holds =
    (ts : List Turn) (settled : W → ℕ) (posted : ℕ → List (Waiting W)) (busy : Option ℕ) → Leads c plain waits s ts settled posted busy → Holds ts
    → (p : ℕ) → IsFor busy p → IsApart c.same waits p ((reached c s ts).own p) posted settled (c.next p ((reached c s ts).own p))

-- ---- the run of atomic steps

-- its turns so far, and the stores that each thread has yet to do in it
pub record Order (W : Type 0) : Type 0 where
  pub turns : List Turn
  pub late : ℕ → List (Waiting W)

-- a thread does stores
abbrev pub doing : {W : Type 0} → ℕ → List (Waiting W) → List Turn → List Turn
doing p [] ts = ts
doing p (e ∷ newer) ts = doing p newer (record { thread = p; told = 0 } ∷ ts)

abbrev pub looks_in : {W : Type 0} → Order W → Turn → Order W
looks_in o t = record { turns = t ∷ doing t.thread (o.late t.thread) o.turns; late = hold o.late t.thread [] }

-- A plain store has its turn when its thread looks next, or, if that is earlier, when it leaves its buffer. A load that waits has
-- none.
abbrev pub acts_in : {W : Type 0} → Order W → Turn → Operation W → Bool → Bool → Order W
acts_in o t (Load w) flag it_waits = if it_waits then o else looks_in o t
acts_in o t (Outside v) flag it_waits = looks_in o t
acts_in o t (Store w v) true it_waits = record { turns = o.turns; late = hold o.late t.thread (o.late t.thread ++ record { word = w; value = v } ∷ []) }
acts_in o t does flag it_waits = record { turns = t ∷ o.turns; late = o.late }

abbrev pub but_first : {X : Type 0} → List X → List X
but_first [] = []
but_first (x ∷ xs) = xs

-- the oldest store that waits is yet to do if all of them are
abbrev pub drains_in : {W : Type 0} → Order W → ℕ → List (Waiting W) → Order W
drains_in o p waiting =
    if length waiting == length (o.late p)
    then record { turns = record { thread = p; told = 0 } ∷ o.turns; late = hold o.late p (but_first (o.late p)) }
    else o

abbrev pub order : {W S : Type 0} → Program W S → Plain S → Waits S → State W S → List Move → Order W
order c plain waits s [] = record { turns = []; late = λ p. [] }
order c plain waits s (Acts t plainly ∷ earlier) =
    let m = arrived c plain s earlier in
    let own = m.own t.thread in
    let does = c.next t.thread own in
    acts_in (order c plain waits s earlier) t does (is_plain plain t.thread own plainly) (waits t.thread own (found_behind c.same m.words (m.buffer t.thread) does t.told))
order c plain waits s (Drains p ∷ earlier) = drains_in (order c plain waits s earlier) p ((arrived c plain s earlier).buffer p)

-- ---- the law

-- what goes outside
abbrev pub is_outside : {W : Type 0} → Operation W → Bool
is_outside (Outside v) = true
is_outside _ = false

abbrev pub outsides : {W : Type 0} → List (Effect W) → List (Effect W)
outsides [] = []
outsides (e ∷ earlier) = if is_outside e.does then e ∷ outsides earlier else outsides earlier

-- a thread comes from a store
abbrev pub IsFromStore : {W S : Type 0} → Program W S → ℕ → S → Type 0
IsFromStore {W} {S} c p own = (before : S) × (w : W) × (v : ℕ) × (c.next p before ≡ Store w v) × (c.after p before 0 ≡ own)

-- It has the same calls and returns in the same order. Each thread that has no store to do in it is in the same state: so is each one
-- that doesn't come from a store, and each one for which no store waits. And so is each word for which none waits.
pub record IsAlike {W S : Type 0} (c : Program W S) (plain : Plain S) (waits : Waits S) (s : State W S) (moves : List Move) : Type 0 where
  pub run : IsRun c s (order c plain waits s moves).turns
  pub outside : outsides (effects c s (order c plain waits s moves).turns) ≡ outsides (shown c plain s moves)
  pub own : (p : ℕ) → (order c plain waits s moves).late p ≡ [] → (reached c s (order c plain waits s moves).turns).own p ≡ (arrived c plain s moves).own p
  pub done : (p : ℕ) → (IsFromStore c p ((arrived c plain s moves).own p) → ⊥) → (order c plain waits s moves).late p ≡ []
  pub empty : (p : ℕ) → (arrived c plain s moves).buffer p ≡ [] → (order c plain waits s moves).late p ≡ []
  pub words : (w : W) → ((p : ℕ) → has c.same ((arrived c plain s moves).buffer p) w ≡ false)
      → (reached c s (order c plain waits s moves).turns).words w ≡ (arrived c plain s moves).words w

-- the law of posted stores
abbrev pub PostedStoresAreNotSeen : (W S : Type 0) → Type 0
PostedStoresAreNotSeen W S =
    (c : Program W S) (plain : Plain S) (waits : Waits S) (s : State W S) (moves : List Move)
    → AreWaiting c waits → IsOrderly c plain waits s (λ ts. Unit {0}) → IsBufferedRun c plain s moves → IsAlike c plain waits s moves

-- it allows all that the coarser discipline allows
abbrev pub FencedStoresAreOrderly : (W S : Type 0) → Type 0
FencedStoresAreOrderly W S = (c : Program W S) (plain : Plain S) (waits : Waits S) (s : State W S) → IsFenced c plain → IsOrderly c plain waits s (λ ts. Unit {0})
