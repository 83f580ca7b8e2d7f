-- The result of a call: its code, and the numbers of its answer. A number that the code gives no meaning is 0.
use Rattle.std.specs.Prelude.{ℕ}
use Rattle.cc_passes.specs.Items.{Form}
use Rattle.cc_passes.specs.Names.{SendAnswer, CloseAnswer, TakeAnswer}
use Rattle.cc_passes.specs.declared.return_codes.TheConstants.{ACCEPTED, FULL, CLOSED, SPENT, SHUT, ALREADY, GOT, EMPTY, ENDED}

-- the result of a send or a close: its code; the place of an accepted send, or the total of a close; and how many calls the turn served
pub record SendResult : Type 0 where
  pub code : ℕ
  pub number : ℕ
  pub served : ℕ

-- the result of a take: its code, the item that was got, the total if the queue has ended, and how many calls the turn served
pub record TakeResult (I : Type 0) : Type 0 where
  pub code : ℕ
  pub item : I
  pub total : ℕ
  pub served : ℕ

-- a code alone
abbrev pub only : ℕ → SendResult
only code = record { code = code; number = 0; served = 0 }

-- the answer of a send, in a turn that served this number of calls
abbrev pub sent_as : SendAnswer → ℕ → SendResult
sent_as (SendAnswer.Accepted place) served = record { code = ACCEPTED; number = place; served = served }
sent_as SendAnswer.Full served = record { code = FULL; number = 0; served = served }
sent_as SendAnswer.Closed served = record { code = CLOSED; number = 0; served = served }
sent_as SendAnswer.Spent served = record { code = SPENT; number = 0; served = served }

-- the answer of a close
abbrev pub closed_as : CloseAnswer → ℕ → SendResult
closed_as (CloseAnswer.Shut total) served = record { code = SHUT; number = total; served = served }
closed_as (CloseAnswer.Already total) served = record { code = ALREADY; number = total; served = served }

-- a code alone, of a take
abbrev pub none_taken : {I : Type 0} → Form I → ℕ → TakeResult I
none_taken form code = record { code = code; item = form.none; total = 0; served = 0 }

-- the answer of a take
abbrev pub taken_as : {I : Type 0} → Form I → TakeAnswer → ℕ → TakeResult I
taken_as form (TakeAnswer.Got item) served = record { code = GOT; item = form.of item; total = 0; served = served }
taken_as form TakeAnswer.Empty served = record { code = EMPTY; item = form.none; total = 0; served = served }
taken_as form (TakeAnswer.Ended total) served = record { code = ENDED; item = form.none; total = total; served = served }
