-- A pass by what it does.
use Rattle.cc_steps.specs.Walk.{Walk}

-- a sender without a call, in a send, or in a close; a receiver without a call, or in a take
pub data AnyPass : Type 0 where
  Sender : Walk → AnyPass
  Sending : Walk → AnyPass
  Closing : Walk → AnyPass
  Receiver : Walk → AnyPass
  Taking : Walk → AnyPass
