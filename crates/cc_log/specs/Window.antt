-- The part of a log that is judged: from a time on, and until a time.
use Rattle.std.specs.Prelude.{ℕ, ◌||◌, Bool, false, Option, Some, None, if◌then◌else◌, nat_le, nat_lt}
use Rattle.cc_log.specs.Names.{Line, Said, Window}

-- the call ended before the window
abbrev pub ends_early : (from end : Option ℕ) → Bool
ends_early None end = false
ends_early (Some from) None = false
ends_early (Some from) (Some end) = nat_lt end from

-- it began after the window
abbrev pub begins_after : (until : Option ℕ) → (begin : ℕ) → Bool
begins_after None begin = false
begins_after (Some until) begin = nat_le until begin

-- it ended after the window
abbrev pub ends_after : (until end : Option ℕ) → Bool
ends_after None end = false
ends_after (Some until) None = false
ends_after (Some until) (Some end) = nat_le until end

-- the act of a call that had an answer later, as it was before; none for a send that was refused later
abbrev pub open_said : Said → Option Said
open_said (Said.Send body) = Some (Said.Send body)
open_said (Said.Took body) = Some Said.Taking
open_said Said.FoundNone = Some Said.Taking
open_said Said.Taking = Some Said.Taking
open_said (Said.Full body) = None
open_said (Said.Closed body) = None
open_said Said.Ended = Some Said.Taking
open_said Said.Close = Some Said.Close

-- the same call without an end
abbrev pub opened : (begin : ℕ) → Option Said → Option Line
opened begin None = None
opened begin (Some said) = Some (record { begin = begin; end = None; said = said })

-- The call as it is judged: one that ended before the window or began after it isn't; one that ended after it hasn't returned.
abbrev pub cut : Window → Line → Option Line
cut window line = if ends_early window.from line.end || begins_after window.until line.begin then None
    else (if ends_after window.until line.end then opened line.begin (open_said line.said) else Some line)
