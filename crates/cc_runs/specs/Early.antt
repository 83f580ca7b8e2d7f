-- Which stores may be early: their own thread may continue before the other threads see them, as behind a store buffer. And where a
-- thread may take up a pass while early stores of another pass are in its buffer.
use Rattle.std.specs.Prelude.{Bool, true, false}
use Rattle.cc_runs.specs.Names.{Chain, Phase}

-- The mark of a send or a close is locked: whoever combines next loads how many groups have passed a list node, and a receiver
-- that calls after the send's return loads the link of its item. Each other store may be early.
abbrev pub may_be_early : Chain → Phase → Bool
may_be_early Chain.Send (Phase.MarkDone job) = false
may_be_early x at = true

-- Between two calls, and up to its next exchange, a pass loads nothing. A thread takes up a pass in such a phase, or with an empty buffer.
abbrev pub is_fresh : Phase → Bool
is_fresh Phase.Idle = true
is_fresh (Phase.Finished told) = true
is_fresh (Phase.ResetNext call) = true
is_fresh (Phase.ResetState call) = true
is_fresh (Phase.Exchange call) = true
is_fresh _ = false
