-- A log until a time: what was known of its calls then.
use Rattle.std.specs.Prelude.{◌≡◌, ℕ, ◌≤◌, ◌⊎◌, List, Some, None, slice_get}
use Rattle.cc_judge.specs.Names.{Act, Call}
use Rattle.cc_judge.specs.Cuts.{AreEach}

-- what is known of a call that hasn't returned: of a take nothing
abbrev pub act_until : Act → Act
act_until (Act.Took item) = Act.Taking
act_until Act.FoundNone = Act.Taking
act_until Act.Ended = Act.Taking
act_until act = act

-- the call had ended by the time, or the log has no end of it
abbrev pub IsOver : (time : ℕ) → Call → Type 0
IsOver time call = (end : ℕ) → call.end ≡ Some end → end ≤ time

-- the call as one that hasn't returned
abbrev pub unreturned : Call → Call
unreturned call = record { begin = call.begin; end = None; act = act_until call.act }

-- the second call is what was known of the first by the time
abbrev pub IsCallUntil : (time : ℕ) → (whole part : Call) → Type 0
IsCallUntil time whole part = (IsOver time whole × (part ≡ whole)) ⊎ ((IsOver time whole → ⊥) × (part ≡ unreturned whole))

-- the second log is the first one until the time: calls that hadn't ended by then haven't returned
abbrev pub IsUntil : (time : ℕ) → (calls part : List Call) → Type 0
IsUntil time calls part = AreEach (λ place whole cut. IsCallUntil time whole cut) calls part

-- each call that ended had ended by the time
abbrev pub HaveEnded : (time : ℕ) → List Call → Type 0
HaveEnded time calls = (place end : ℕ) (call : Call) → slice_get calls place ≡ Some call → call.end ≡ Some end → end ≤ time
