-- A run whose threads have ended.
use Rattle.std.specs.Prelude.{ℕ, ◌≡◌, ◌+◌, ◌*◌, ◌⊎◌, Bool, true, false, List, length, map, Option, Some, None, IfSome, IfNone, is_some, Result, Ok, Err, ⊤}
use Rattle.std.specs.List.{All, AllByRecursion}
use Rattle.cc_drive.specs.Names.{Answer, Call, CloseAnswer, ConfigFault, DriveConfig, DriveEnd, DriveFault, Verdict, Ran, Refused, Crew, Worked, Brief, Turns, SendReceipt, TakeReceipt}
use Rattle.cc_steps.specs.Topic.{Topic}
use Rattle.cc_steps.specs.Walk.{Walk, fresh}
use Rattle.cc_queue.specs.Calls.{Begun, Completed}
use Rattle.cc_queue.specs.Met.{HasMet}
use Rattle.cc_queue.specs.Receipts.{receipts_by, sent, got}
use Rattle.cc_drive.specs.Back.{SenderIsBack, ReceiverIsBack, SenderGave, ReceiverGave, IsNotClosed, calls}
use Rattle.cc_drive.specs.Config.{IsDue}
use Rattle.cc_drive.specs.Crew.{IsCrew, least_missing}
use Rattle.cc_drive.specs.Jobs.{IsQueueOf}
use Rattle.cc_drive.specs.Row.{InRow, Pairs}
use Rattle.cc_drive.specs.Start.{AreStarted}
use Rattle.cc_drive.specs.Work.{RanOut}

-- the total that a close returns
abbrev pub total_in : CloseAnswer → ℕ
total_in (CloseAnswer.Shut total) = total
total_in (CloseAnswer.Already total) = total

-- The closer met these senders, and closed then: the call of the close had seen all that they had done.
pub record ClosedAfter (closer : Walk) (senders : List Walk) (told : CloseAnswer) (w : Walk) : Type 0 where
  pub met : Walk
  pub first : HasMet closer met
  pub after : All (λ s. s.seen ≡ met.seen) senders
  pub close : Completed met Call.Close (Answer.Close told) w

-- The closer met these senders, and began its close then; each turn since was a read of its state, and at this limit none is
-- left.
pub record ClosesStill (closer : Walk) (senders : List Walk) (most : ℕ) (w : Walk) : Type 0 where
  pub met : Walk
  pub first : HasMet closer met
  pub after : All (λ s. s.seen ≡ met.seen) senders
  pub begun : Walk
  pub close : Begun met Call.Close begun
  pub turns : Turns
  pub limit : turns.limit ≡ most
  pub waited : RanOut begun (record { made = 0; limit = most }) turns w

-- This number of senders are back, and have then met the closer, which closed after that: it has its answer, or its close still
-- waits and no turn is left.
pub record HasClosed (z : Topic) (b : Brief) (closer : Walk) (count : ℕ) (crew : Crew Walk SendReceipt) (closed : Option (Walk × CloseAnswer)) : Type 0 where
  pub back : List Walk
  pub senders : IsCrew (SenderGave z b.items b.limit) 0 0 count back crew
  pub met : Pairs HasMet back crew.passes.items
  pub after : IfSome closed (λ r. ClosedAfter closer crew.passes.items r.1 r.0)
  pub still : IfNone closed ((w : Walk) × ClosesStill closer crew.passes.items b.limit w)

-- All threads of a run that were started have ended, and its queue was closed between the senders' end and the receivers'. They
-- are all, or exactly those before the one that was refused.
pub record HasEnded (z : Topic) (c : DriveConfig) (refused : Option Refused) (sent_by : Crew Walk SendReceipt) (closed : Option (Walk × CloseAnswer)) (got_by : Crew Walk TakeReceipt) : Type 0 where
  pub sending : ℕ
  pub taking : ℕ
  pub senders : HasClosed z (record { items = c.items; limit = c.limit }) (fresh z c.senders) sending sent_by closed
  pub receivers : IsCrew (ReceiverGave z c.limit) (c.senders + 1) c.senders taking got_by.passes.items got_by
  pub started : AreStarted c.senders c.receivers sending taking refused

-- A run has come to its end. The senders are back, none of whose sends returned Closed, and then the closer closed; the
-- receivers are back, each of which got the end. The receipts are those of their calls.
pub record HasRun (z : Topic) (c : DriveConfig) (r : Ran) : Type 0 where
  pub of : r.config ≡ c
  pub senders : InRow (SenderIsBack z c.items) 0 r.senders.items
  pub count_senders : length r.senders.items ≡ c.senders
  pub unclosed : AllByRecursion (λ w. AllByRecursion IsNotClosed (calls w)) r.senders.items
  pub closed : ClosedAfter (fresh z c.senders) r.senders.items r.closed r.closer
  pub receivers : InRow (ReceiverIsBack z) (c.senders + 1) r.receivers.items
  pub count_receivers : length r.receivers.items ≡ c.receivers
  pub sends : r.sends.items ≡ receipts_by sent r.senders.items
  pub takes : r.takes.items ≡ receipts_by got r.receivers.items

-- All items of all senders were sent and taken, and the audit finds nothing wrong.
pub record IsWhole (c : DriveConfig) (e : DriveEnd) : Type 0 where
  pub clean : e.verdict ≡ Verdict.Clean
  pub all_taken : e.taken ≡ e.sent
  pub all_sent : e.sent ≡ c.senders * c.items

-- How a run ended: it is whole, and the numbers are those of the receipts.
pub record IsEndOf (r : Ran) (e : DriveEnd) : Type 0 where
  pub whole : IsWhole r.config e
  pub sent : e.sent ≡ length r.sends.items
  pub taken : e.taken ≡ length r.takes.items

-- Why a run has no end, if it has none: a thread was refused; else the least sender, or else receiver, that came to a limit,
-- or else the closer, whose number is that of all workers; else a receipt wasn't kept.
abbrev pub due : (refused : Bool) → (workers : ℕ) → (sender receiver : Option ℕ) → (closed whole : Bool) → Option DriveFault
due true workers sender receiver closed whole = Some DriveFault.Thread
due false workers (Some n) receiver closed whole = Some (DriveFault.Limit n)
due false workers None (Some n) closed whole = Some (DriveFault.Limit n)
due false workers None None false whole = Some (DriveFault.Limit workers)
due false workers None None true false = Some DriveFault.NoMemory
due false workers None None true true = None

-- All threads of a run that were started have ended, and this is due for their results. They are all, or exactly those before
-- the one that was refused; if the close has no answer it still waits, and no turn is left.
pub record EndedWith (z : Topic) (c : DriveConfig) (told : DriveFault) : Type 0 where
  pub senders : List (Worked Walk SendReceipt)
  pub receivers : List (Worked Walk TakeReceipt)
  pub refused : Option Refused
  pub closed : Bool
  pub whole : Bool
  pub senders_gave : InRow (SenderGave z c.items c.limit) 0 senders
  pub receivers_gave : InRow (ReceiverGave z c.limit) (c.senders + 1) receivers
  pub started : AreStarted c.senders c.receivers (length senders) (length receivers) refused
  pub still : closed ≡ false → (passes : List Walk) × (w : Walk) × ClosesStill (fresh z c.senders) passes c.limit w
  pub why : due (is_some refused) (c.senders + c.receivers) (least_missing 0 (map (λ d. d.pass) senders)) (least_missing c.senders (map (λ d. d.pass) receivers)) closed whole ≡ Some told

-- why a run has no end: memory was refused before a thread was started; or else its threads have ended so
abbrev pub IsTold : Topic → DriveConfig → DriveFault → Type 0
IsTold z c told = (told ≡ DriveFault.NoMemory) ⊎ EndedWith z c told

-- The end of a run of this configuration: it is whole, and some queue was opened for it, whose run came to that end.
pub record HasEnd (c : DriveConfig) (e : DriveEnd) : Type 0 where
  -- follows from `run` and `end`
  pub whole : IsWhole c e
  pub queue : Topic
  pub opened : IsQueueOf c queue
  pub ran : Ran
  pub run : HasRun queue c ran
  pub end : IsEndOf ran e

-- A run of this configuration, which has no fault, has no end for this cause: memory was refused; or a queue was opened for the
-- configuration, and the threads of its run have ended so that this is due.
pub record HasNoEnd (c : DriveConfig) (told : DriveFault) : Type 0 where
  -- follows from `cause`
  pub due : IsDue (c.senders + c.receivers) told
  pub cause : (told ≡ DriveFault.NoMemory) ⊎ ((z : Topic) × IsQueueOf c z × EndedWith z c told)

-- The result of a drive, if the configuration has this fault or none: that fault; or else the end of a run, or the cause for
-- which the run has none.
abbrev pub Driven : Result ⊤ ConfigFault → DriveConfig → Result DriveEnd DriveFault → Type 0
Driven fault c (Ok e) = (fault ≡ Ok tt) × HasEnd c e
Driven (Err f) c (Err told) = told ≡ DriveFault.Config f
Driven (Ok _) c (Err told) = HasNoEnd c told
