-- A log that was read is well-formed, as the judge needs it.
use Rattle.std.specs.Prelude.{ℕ, ◌≡◌, ◌<◌, ◌≤◌, ◌^◌, List, [], ◌∷◌, Option, Some, None, IsSome, Ok, slice_get}
use Rattle.cc_judge.specs.Faults.{Differ}
use Rattle.cc_judge.specs.Faultless.{IsWritten}
use Rattle.cc_judge.specs.Verdict.{AreBelow}
use Rattle.cc_log.specs.Names.{Call, Line, Said, Tie}
use Rattle.cc_log.specs.Log.{Entry, allowed, last_of, sender_of}

-- a call that got an item, or found the queue closed and empty, has an end; a take of which no item is known has none
abbrev pub Fits : (end : Option ℕ) → Said → Type 0
Fits end (Said.Took body) = IsSome end
Fits end Said.Taking = end ≡ None
Fits end Said.Ended = IsSome end
Fits end _ = Unit {0}

-- a call ended no earlier than it began, and its times are words of 64 bits
pub record IsFair (line : Line) : Type 0 where
  pub low : line.begin < 2 ^ 64
  pub timed : (end : ℕ) → line.end ≡ Some end → line.begin ≤ end
  pub fits : Fits line.end line.said

-- each is so, and may come after those before it: its thread is free, and none of them sent its item
abbrev pub AreFair : List Entry → Type 0
AreFair [] = Unit {0}
AreFair (e ∷ before) = IsFair e.line × (allowed e (last_of e.thread before) (λ body. sender_of body before) ≡ Ok tt) × AreFair before

-- Two calls that only their lines order: the earlier one is earlier in the log, and ended when the later one began, or after that by the
-- skew.
pub record IsTied (skew : ℕ) (calls : List Call) (tie : Tie) : Type 0 where
  pub one : Call
  pub other : Call
  pub one_is : slice_get calls tie.earlier ≡ Some one
  pub other_is : slice_get calls tie.later ≡ Some other
  pub in_turn : tie.earlier < tie.later
  pub end : ℕ
  pub ended : one.end ≡ Some end
  pub touch : other.begin ≤ end
  pub meet : skew ≡ 0 → other.begin ≡ end

abbrev pub AreTied : (skew : ℕ) → List Call → List Tie → Type 0
AreTied skew calls ties = (i : ℕ) (tie : Tie) → slice_get ties i ≡ Some tie → IsTied skew calls tie

-- The calls of a log are well-formed, its items differ, and they are below their number: so the judge can decide it. Calls that only
-- their lines order touch.
pub record IsWellFormed (skew : ℕ) (calls : List Call) (items : ℕ) (ties : List Tie) : Type 0 where
  pub written : IsWritten calls
  pub differ : Differ calls
  pub below : AreBelow calls items
  pub tied : AreTied skew calls ties
