-- Passes that stay in their place, by the call that they have.
use Rattle.std.proofs.Common.{◌≡◌, Bool, true, false, sym, ap, subst}
use Rattle.cc_queue.specs.Headline.{name}
use Rattle.cc_queue.specs.Names.{Pass, Phase, SenderCall, SenderSeat, ReceiverSeat, Stand}
use Rattle.cc_queue.specs.Passes.{KeepsSender, KeepsReceiver, HasCall, HasTake, IsStill, HasStopped}

-- one that has none
pub without_call : (s : SenderSeat) (k : SenderCall) → k ≡ SenderCall.None → HasCall k s → KeepsSender s Phase.Idle
without_call s k is has = subst (λ (x : SenderCall). HasCall x s) is has

pub without_take : (r : ReceiverSeat) (b : Bool) → b ≡ false → HasTake b r → KeepsReceiver r Phase.Idle
without_take r b is has = subst (λ (x : Bool). HasTake x r) is has

-- whichever it has, it doesn't move
sender_still : (s : SenderSeat) (at : Phase) → IsStill at → KeepsSender s at → HasStopped s.seat
sender_still s at still k = record { list = k.list; still = subst IsStill (sym (ap (λ (x : Stand). x.phase) k.stand)) still }

pub sender_stopped : (s : SenderSeat) (k : SenderCall) → HasCall k s → HasStopped s.seat
sender_stopped s SenderCall.None has = sender_still s Phase.Idle tt has
sender_stopped s SenderCall.Send has = sender_still s Phase.ReadState tt has.0
sender_stopped s SenderCall.Close has = sender_still s Phase.ReadState tt has.0

receiver_still : (r : ReceiverSeat) (at : Phase) → IsStill at → KeepsReceiver r at → HasStopped r.seat
receiver_still r at still k = record { list = k.list; still = subst IsStill (sym (ap (λ (x : Stand). x.phase) k.stand)) still }

pub receiver_stopped : (r : ReceiverSeat) (b : Bool) → HasTake b r → HasStopped r.seat
receiver_stopped r true has = receiver_still r Phase.ReadState tt has
receiver_stopped r false has = receiver_still r Phase.Idle tt has

-- and its name is that of its number
pub sender_named : (s : SenderSeat) (k : SenderCall) → HasCall k s → name s.seat ≡ Pass.Sender s.number
sender_named s SenderCall.None has = has.named
sender_named s SenderCall.Send has = has.0.named
sender_named s SenderCall.Close has = has.0.named

pub receiver_named : (r : ReceiverSeat) (b : Bool) → HasTake b r → name r.seat ≡ Pass.Receiver r.number
receiver_named r true has = has.named
receiver_named r false has = has.named
