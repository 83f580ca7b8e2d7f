-- The result of each call of a handle, by its pass before and after the call.
use Rattle.std.specs.Prelude.{◌≡◌, ◌⊎◌, ℕ, ◌≤◌, Bool, true, false, nat_le, if◌then◌else◌, List, [], ◌∷◌, length, Option, Some, None, Ok, Err}
use Rattle.std.specs.declared.result.Result.{Result}
use Rattle.cc_model.specs.Body.{body_of}
use Rattle.cc_passes.specs.Names.{Body, Call, Answer, SendAnswer, CloseAnswer, TakeAnswer, AnyPass}
use Rattle.cc_steps.specs.Walk.{Walk}
use Rattle.cc_queue.specs.Calls.{Begun, Waited, Answered}
use Rattle.cc_passes.specs.declared.return_codes.TheConstants.{NO_PASS, WRONG_SIDE, BUSY, NOT_BEGUN, WORN, BEGUN, WAITING, BAD_WORDS, LONG, WIDE}
use Rattle.cc_passes.specs.Items.{Form, are_few}
use Rattle.cc_passes.specs.Results.{SendResult, TakeResult, only, sent_as, closed_as, none_taken, taken_as}

-- why a pass that is no idle sender doesn't begin a sender's call
abbrev pub no_idle_sender : AnyPass → ℕ
no_idle_sender (AnyPass.Sending w) = BUSY
no_idle_sender (AnyPass.Closing w) = BUSY
no_idle_sender _ = WRONG_SIDE

-- why one that is no idle receiver doesn't begin a take
abbrev pub no_idle_receiver : AnyPass → ℕ
no_idle_receiver (AnyPass.Taking w) = BUSY
no_idle_receiver _ = WRONG_SIDE

-- why one that has no such call pending doesn't turn a sender's call
abbrev pub no_pending_sender : AnyPass → ℕ
no_pending_sender (AnyPass.Receiver w) = WRONG_SIDE
no_pending_sender (AnyPass.Taking w) = WRONG_SIDE
no_pending_sender _ = NOT_BEGUN

-- and why not a take
abbrev pub no_pending_take : AnyPass → ℕ
no_pending_take (AnyPass.Receiver w) = NOT_BEGUN
no_pending_take (AnyPass.Taking w) = NOT_BEGUN
no_pending_take _ = WRONG_SIDE

-- ---- a send

-- the body of these words, if there are one to four of them, and a body of the queue may have that many; or why not
abbrev pub fitting : ℕ → List ℕ → Result Body ℕ
fitting most words = if are_few (length words) then (if nat_le (length words) most then Ok (body_of words) else Err LONG) else Err BAD_WORDS

-- the body of this word alone
abbrev pub single : ℕ → Result Body ℕ
single word = Ok (body_of (word ∷ []))

-- an idle sender begins a send of this body, or is exhausted and stays as it is; and if there is no body it stays so too
abbrev pub SenderBegins : Result Body ℕ → Walk → Option AnyPass → ℕ → Type 0
SenderBegins (Err why) v new code = (new ≡ Some (AnyPass.Sender v)) × (code ≡ why)
SenderBegins (Ok body) v (Some (AnyPass.Sending w)) code = (code ≡ BEGUN) × Begun v (Call.Send body) w
SenderBegins (Ok body) v (Some (AnyPass.Sender w)) code = (code ≡ WORN) × (w ≡ v) × (v.setting.config.per_sender ≤ v.stand.begun)
SenderBegins (Ok body) v _ code = ⊥

-- the begin of a send: if it can't be begun, the pass stays as it is
abbrev pub BeginsSend : Result Body ℕ → Option AnyPass → Option AnyPass → ℕ → Type 0
BeginsSend body (Some (AnyPass.Sender v)) new code = SenderBegins body v new code
BeginsSend body (Some p) new code = (new ≡ Some p) × (code ≡ no_idle_sender p)
BeginsSend body None new code = (new ≡ None) × (code ≡ NO_PASS)

-- a send was answered in this turn, with this result
pub record SendIsTold (v w : Walk) (told : SendResult) : Type 0 where
  pub given : SendAnswer
  pub told_is : told ≡ sent_as given told.served
  pub answered : Answered v (Answer.Send given) told.served w

-- a pending send waits, or is done
abbrev pub SendTurns : Walk → Option AnyPass → SendResult → Type 0
SendTurns v (Some (AnyPass.Sending w)) told = (told ≡ only WAITING) × Waited v w
SendTurns v (Some (AnyPass.Sender w)) told = SendIsTold v w told
SendTurns v _ told = ⊥

-- a turn of a send
abbrev pub TurnsSend : Option AnyPass → Option AnyPass → SendResult → Type 0
TurnsSend (Some (AnyPass.Sending v)) new told = SendTurns v new told
TurnsSend (Some p) new told = (new ≡ Some p) × (told ≡ only (no_pending_sender p))
TurnsSend None new told = (new ≡ None) × (told ≡ only NO_PASS)

-- an idle sender begins a send of this body and turns it once, or is exhausted and stays as it is; and if there is no body it stays so too
abbrev pub SenderTries : Result Body ℕ → Walk → Option AnyPass → SendResult → Type 0
SenderTries (Err why) v new told = (new ≡ Some (AnyPass.Sender v)) × (told ≡ only why)
SenderTries (Ok body) v new told = ((w : Walk) × Begun v (Call.Send body) w × SendTurns w new told)
    ⊎ ((new ≡ Some (AnyPass.Sender v)) × (told ≡ only WORN) × (v.setting.config.per_sender ≤ v.stand.begun))

-- a try of a send: a begin, and if the call was begun one turn of it
abbrev pub TriesSend : Result Body ℕ → Option AnyPass → Option AnyPass → SendResult → Type 0
TriesSend body (Some (AnyPass.Sender v)) new told = SenderTries body v new told
TriesSend body (Some p) new told = (new ≡ Some p) × (told ≡ only (no_idle_sender p))
TriesSend body None new told = (new ≡ None) × (told ≡ only NO_PASS)

-- ---- a close

-- an idle sender begins a close
abbrev pub CloserBegins : Walk → Option AnyPass → ℕ → Type 0
CloserBegins v (Some (AnyPass.Closing w)) code = (code ≡ BEGUN) × Begun v Call.Close w
CloserBegins v _ code = ⊥

-- the begin of a close
abbrev pub BeginsClose : Option AnyPass → Option AnyPass → ℕ → Type 0
BeginsClose (Some (AnyPass.Sender v)) new code = CloserBegins v new code
BeginsClose (Some p) new code = (new ≡ Some p) × (code ≡ no_idle_sender p)
BeginsClose None new code = (new ≡ None) × (code ≡ NO_PASS)

-- a close was answered in this turn, with this result
pub record CloseIsTold (v w : Walk) (told : SendResult) : Type 0 where
  pub given : CloseAnswer
  pub told_is : told ≡ closed_as given told.served
  pub answered : Answered v (Answer.Close given) told.served w

-- a pending close waits, or is done
abbrev pub CloseTurns : Walk → Option AnyPass → SendResult → Type 0
CloseTurns v (Some (AnyPass.Closing w)) told = (told ≡ only WAITING) × Waited v w
CloseTurns v (Some (AnyPass.Sender w)) told = CloseIsTold v w told
CloseTurns v _ told = ⊥

-- a turn of a close
abbrev pub TurnsClose : Option AnyPass → Option AnyPass → SendResult → Type 0
TurnsClose (Some (AnyPass.Closing v)) new told = CloseTurns v new told
TurnsClose (Some p) new told = (new ≡ Some p) × (told ≡ only (no_pending_sender p))
TurnsClose None new told = (new ≡ None) × (told ≡ only NO_PASS)

-- ---- a take

-- an idle receiver begins a take
abbrev pub ReceiverBegins : Walk → Option AnyPass → ℕ → Type 0
ReceiverBegins v (Some (AnyPass.Taking w)) code = (code ≡ BEGUN) × Begun v Call.Take w
ReceiverBegins v _ code = ⊥

-- the begin of a take
abbrev pub BeginsTake : Option AnyPass → Option AnyPass → ℕ → Type 0
BeginsTake (Some (AnyPass.Receiver v)) new code = ReceiverBegins v new code
BeginsTake (Some p) new code = (new ≡ Some p) × (code ≡ no_idle_receiver p)
BeginsTake None new code = (new ≡ None) × (code ≡ NO_PASS)

module _ {I : Type 0} (form : Form I) where
  -- a take was answered in this turn, with this result
  pub record TakeIsTold (v w : Walk) (told : TakeResult I) : Type 0 where
    pub given : TakeAnswer
    pub told_is : told ≡ taken_as form given told.served
    pub answered : Answered v (Answer.Take given) told.served w

  -- a pending take waits, or is done
  abbrev pub TakeTurns : Walk → Option AnyPass → TakeResult I → Type 0
  TakeTurns v (Some (AnyPass.Taking w)) told = (told ≡ none_taken form WAITING) × Waited v w
  TakeTurns v (Some (AnyPass.Receiver w)) told = TakeIsTold v w told
  TakeTurns v _ told = ⊥

  -- a turn of a take
  abbrev pub TurnsTake : Option AnyPass → Option AnyPass → TakeResult I → Type 0
  TurnsTake (Some (AnyPass.Taking v)) new told = TakeTurns v new told
  TurnsTake (Some p) new told = (new ≡ Some p) × (told ≡ none_taken form (no_pending_take p))
  TurnsTake None new told = (new ≡ None) × (told ≡ none_taken form NO_PASS)

  -- a try of a take: a begin, and if the call was begun one turn of it
  abbrev pub TriesTake : Option AnyPass → Option AnyPass → TakeResult I → Type 0
  TriesTake (Some (AnyPass.Receiver v)) new told = (w : Walk) × Begun v Call.Take w × TakeTurns w new told
  TriesTake (Some p) new told = (new ≡ Some p) × (told ≡ none_taken form (no_idle_receiver p))
  TriesTake None new told = (new ≡ None) × (told ≡ none_taken form NO_PASS)

  -- a call that returns an item isn't made if a body of the queue may have more words than the item has room for
  abbrev pub IfRoom : Bool → (Option AnyPass → Option AnyPass → TakeResult I → Type 0) → Option AnyPass → Option AnyPass → TakeResult I → Type 0
  IfRoom true Tells old new told = Tells old new told
  IfRoom false Tells old new told = (new ≡ old) × (told ≡ none_taken form WIDE)
