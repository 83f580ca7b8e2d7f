-- Passes that stay in one place, as callers see them.
use Rattle.std.specs.Prelude.{Bool, true, false}
use Rattle.cc_queue.specs.Names.{SenderCall, Turn}
use Rattle.cc_steps.specs.Walk.{Walk}

-- a sender, and the call that it has
pub record SenderHeld : Type 0 where
  pub pass : Walk
  pub call : SenderCall

-- a receiver, and whether it has a take
pub record ReceiverHeld : Type 0 where
  pub pass : Walk
  pub takes : Bool

-- passes that have no call
abbrev pub idle_sender : Walk → SenderHeld
idle_sender w = record { pass = w; call = SenderCall.None }

abbrev pub idle_receiver : Walk → ReceiverHeld
idle_receiver w = record { pass = w; takes = false }

-- after a turn of a call a sender has that call still, or none
abbrev pub call_after : {C P A : Type 0} → SenderCall → Turn C P A → SenderCall
call_after call (Turn.Waiting same) = call
call_after call (Turn.Done back answer served) = SenderCall.None

-- and a receiver its take, or none
abbrev pub takes_after : {C P A : Type 0} → Turn C P A → Bool
takes_after (Turn.Waiting same) = true
takes_after (Turn.Done back answer served) = false
