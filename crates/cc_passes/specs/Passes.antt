-- The content of a handle.
use Rattle.std.specs.Prelude.{ℕ, Bool, true, false, Option, Some, None}
use Rattle.cc_queue.specs.InPlace.{SenderHeld, ReceiverHeld}
use Rattle.cc_steps.specs.Topic.{Topic}
use Rattle.cc_steps.specs.Walk.{Walk, IsOf}
use Rattle.cc_passes.specs.Names.{AnyPass, HeldPass, SenderCall}

-- a sender that has this call, and a receiver that has a take, or none
abbrev pub with_call : SenderCall → Walk → AnyPass
with_call SenderCall.None w = AnyPass.Sender w
with_call SenderCall.Send w = AnyPass.Sending w
with_call SenderCall.Close w = AnyPass.Closing w

abbrev pub with_take : Bool → Walk → AnyPass
with_take true w = AnyPass.Taking w
with_take false w = AnyPass.Receiver w

-- what a pass does that stays in its place
abbrev pub sender_as : SenderHeld → AnyPass
sender_as s = with_call s.call s.pass

abbrev pub receiver_as : ReceiverHeld → AnyPass
receiver_as r = with_take r.takes r.pass

abbrev pub pass_as : HeldPass → AnyPass
pass_as (HeldPass.Sender s) = sender_as s
pass_as (HeldPass.Receiver r) = receiver_as r

abbrev pub held_as : Option HeldPass → Option AnyPass
held_as None = None
held_as (Some p) = Some (pass_as p)

-- the data of a pass, whatever it does
abbrev pub walk_of : AnyPass → Walk
walk_of (AnyPass.Sender w) = w
walk_of (AnyPass.Sending w) = w
walk_of (AnyPass.Closing w) = w
walk_of (AnyPass.Receiver w) = w
walk_of (AnyPass.Taking w) = w

-- the remains of a pass that was abandoned, if there was one: the pass as it was
abbrev pub abandoned_of : Option AnyPass → Option Walk
abandoned_of None = None
abandoned_of (Some p) = Some (walk_of p)

-- the pass, if there is one, is of this queue
abbrev pub IsHeldOf : Topic → Option HeldPass → Type 0
IsHeldOf z None = Unit {0}
IsHeldOf z (Some (HeldPass.Sender s)) = IsOf z s.pass
IsHeldOf z (Some (HeldPass.Receiver r)) = IsOf z r.pass

-- a pass, if there is one, and how many words a body of its queue has at most
pub record Holding : Type 0 where
  pub pass : Option AnyPass
  pub words : ℕ

-- the pass of a queue whose bodies have this many words at most
abbrev pub holding : ℕ → AnyPass → Holding
holding words p = record { pass = Some p; words = words }
