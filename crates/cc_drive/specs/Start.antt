-- How far the starting of threads came.
use Rattle.std.specs.Prelude.{ℕ, ◌≡◌, ◌+◌, ◌<◌, ◌⊎◌, Option, Some, None}
use Rattle.cc_drive.specs.Names.{Refused}

-- Of these workers, which come from this place on, this number of threads run: each one's; or, if one was refused, those of the
-- workers before that one; or none, if one was refused before.
abbrev pub IsStarted : (before : Option Refused) → (first count started : ℕ) → (refused : Option Refused) → Type 0
IsStarted (Some e) first count started refused = (started ≡ 0) × (refused ≡ Some e)
IsStarted None first count started None = started ≡ count
IsStarted None first count started (Some e) = (e.row ≡ first + started) × (started < count)

-- The threads of a run were started, the receivers' first: all of them; or, if one was refused, exactly those before it. In the
-- row of all passes the senders come first, then the closer, then the receivers.
abbrev pub AreStarted : (senders receivers sending taking : ℕ) → (refused : Option Refused) → Type 0
AreStarted senders receivers sending taking None = (sending ≡ senders) × (taking ≡ receivers)
AreStarted senders receivers sending taking (Some e) =
    ((e.row ≡ senders + 1 + taking) × (taking < receivers) × (sending ≡ 0)) ⊎ ((e.row ≡ sending) × (sending < senders) × (taking ≡ receivers))
