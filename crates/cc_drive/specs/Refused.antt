-- Refused claims: for each kind of mistake a small case, and a claim about it that the clause doesn't admit.
use Rattle.std.specs.Prelude.{◌≡◌, ℕ, Bool, true, false, [], ◌∷◌, Option, Some, None}
use Rattle.cc_drive.specs.Asked.{WereAsked}
use Rattle.cc_drive.specs.Names.{DriveConfig, DriveFault, Go, Point, Verdict}
use Rattle.cc_drive.specs.Ran.{due, HasEnd}
use Rattle.cc_drive.specs.Work.{RanOut}
use Rattle.cc_steps.specs.Walk.{Walk}

-- a claim that doesn't hold
abbrev pub Refused : Type 0 → Type 0
Refused claim = claim → ⊥

-- whether a point is one of a sender's worker
abbrev pub sends_at : Point → Bool
sends_at Point.SendBegun = true
sends_at Point.SendAnswered = true
sends_at Point.TakeBegun = false
sends_at Point.TakeAnswered = false

-- a gate that is a sender's or a receiver's, answers only at the points of such a worker, and stays so
abbrev pub OwnPoints : Bool → Point → Go → Bool → Type 0
OwnPoints gate point go after = (sends_at point ≡ gate) × (after ≡ gate)

pub record RefusedClaims : Type 0 where
  -- a thread was refused, and a worker's limit is said
  pub each_fault_is_a_limit : (workers number : ℕ) (sender receiver : Option ℕ) (closed whole : Bool) → Refused (due true workers sender receiver closed whole ≡ Some (DriveFault.Limit number))
  -- all came to their end but for a receipt that wasn't kept, and a worker's limit is said
  pub a_lost_receipt_is_a_limit : (workers number : ℕ) → Refused (due false workers None None true false ≡ Some (DriveFault.Limit number))
  -- a worker that didn't look at its call has no turn left of six
  pub gives_up_early : (v w : Walk) → w.did ≡ v.did → Refused (RanOut v (record { made = 0; limit = 6 }) (record { made = 6; limit = 6 }) w)
  -- a sender asked the gate of the receiver, and the receiver that of the sender
  pub gates_in_reverse : (c : DriveConfig) → c.senders ≡ 1 → c.items ≡ 1 → Refused (WereAsked OwnPoints (false ∷ true ∷ []) c)
  -- one sender had one item to send, and the end says that none was sent and none taken
  pub drives_no_item : (c : DriveConfig) → c.senders ≡ 1 → c.items ≡ 1 → Refused (HasEnd c (record { sent = 0; taken = 0; verdict = Verdict.Clean }))
