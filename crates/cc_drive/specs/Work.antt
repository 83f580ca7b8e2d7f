-- The acts of a worker within its turns.
use Rattle.std.specs.Prelude.{ℕ, zero, suc, ◌≡◌, ◌+◌, ◌-◌, ◌<◌, ◌≤◌, ◌⊎◌, Bool, true, false, List, [], Result, Ok, Err, ⊤}
use Rattle.cc_drive.specs.Names.{Body, Answer, TakeAnswer, Call, Kind, Point, Go, Turns, Left, Sent}
use Rattle.cc_runs.specs.ChainLaws.{IsLastAnswer}
use Rattle.cc_steps.specs.Topic.{Topic}
use Rattle.cc_steps.specs.Walk.{Walk, IsOf}
use Rattle.cc_queue.specs.Calls.{Begun, Completed}
use Rattle.cc_queue.specs.Headline.{StandsInOne, name, history}
use Rattle.cc_queue.specs.Work.{tally, reads}

-- turns were made, or none, and no more than may be
pub record WentOn (old new : Turns) : Type 0 where
  pub limit : new.limit ≡ old.limit
  pub more : old.made ≤ new.made
  pub within : new.made ≤ new.limit

-- each turn that was made was one more read of a state, by a pass that has done these steps
abbrev pub EachRead : Turns → Turns → List Kind → List Kind → Type 0
EachRead old new before after = new.made + tally reads before ≡ old.made + tally reads after

-- a gate was asked at this point, this number of times, and answered each time to ask again
abbrev pub IsHeldUp : {G : Type 0} → (G → Point → Go → G → Type 0) → Point → ℕ → G → G → Type 0
IsHeldUp tells point zero g h = h ≡ g
IsHeldUp {G} tells point (suc n) g h = (k : G) × IsHeldUp tells point n g k × tells k point Go.Again h

-- a gate was asked, once for each turn that was made, and then once more if it let the worker go on
abbrev pub WasAsked : {G : Type 0} → (G → Point → Go → G → Type 0) → Point → Turns → Turns → (goes_on : Bool) → G → G → Type 0
WasAsked {G} tells point old new true g h = (k : G) × IsHeldUp tells point (new.made - old.made) g k × tells k point Go.On h
WasAsked tells point old new false g h = IsHeldUp tells point (new.made - old.made) g h

-- a gate was asked at this point until it let the worker go on, and held it up this number of times before
abbrev pub AskedUntilOn : {G : Type 0} → (G → Point → Go → G → Type 0) → Point → (held : ℕ) → G → G → Type 0
AskedUntilOn {G} tells point held g h = (k : G) × IsHeldUp tells point held g k × tells k point Go.On h

-- and for this number of calls, one after another: after the begin of each, and after its answer
abbrev pub AskedForCalls : {G : Type 0} → (G → Point → Go → G → Type 0) → (begun answered : Point) → (calls held : ℕ) → G → G → Type 0
AskedForCalls tells begun answered zero held g h = (held ≡ 0) × (h ≡ g)
AskedForCalls {G} tells begun answered (suc n) held g h = (k : G) × (l : G) × (before : ℕ) × (first : ℕ) × (last : ℕ) × (held ≡ before + first + last)
    × AskedForCalls tells begun answered n before g k × AskedUntilOn tells begun first k l × AskedUntilOn tells answered last l h

-- and for a call that came to the limit, or for none
abbrev pub AskedAtLast : {G : Type 0} → (G → Point → Go → G → Type 0) → (begun answered : Point) → (held : ℕ) → G → G → Type 0
AskedAtLast {G} tells begun answered held g h = IsHeldUp tells begun held g h
    ⊎ ((k : G) × (first : ℕ) × (last : ℕ) × (held ≡ first + last) × AskedUntilOn tells begun first g k × IsHeldUp tells answered last k h)

-- a pending call of this queue
abbrev pub IsPendingAt : Topic → Walk → Type 0
IsPendingAt z v = IsOf z v × StandsInOne v [] v

-- A pending call is waited for: each turn that was made was one read of its state, and nothing else was done.
pub record ReadOn (v : Walk) (old new : Turns) (w : Walk) : Type 0 where
  pub stands : StandsInOne v [] w
  pub begun : w.stand.begun ≡ v.stand.begun
  pub reads : EachRead old new v.did w.did
  pub on : WentOn old new

-- it was answered, and that took at least one turn
pub record WasAnswered (v : Walk) (told : Answer) (old new : Turns) (w : Walk) : Type 0 where
  pub read : ReadOn v old new w
  pub last : IsLastAnswer (name w) (history w) told
  pub turned : old.made < new.made

-- or it waits still, and no turn is left
pub record RanOut (v : Walk) (old new : Turns) (w : Walk) : Type 0 where
  pub read : ReadOn v old new w
  pub limited : new.made ≡ new.limit

-- The gate was asked after the begin and let the worker go on; then the call was answered, and the gate was asked after the
-- answer, which let the worker go on or not.
pub record AnsweredBetween {G : Type 0} (tells : G → Point → Go → G → Type 0) (begun answered : Point) (goes_on : Bool) (v : Walk) (told : Answer) (old new : Turns) (w : Walk) (g h : G) : Type 0 where
  pub gate : G
  pub entered : Turns
  pub done : Turns
  pub first : WasAsked tells begun old entered true g gate
  pub enters : WentOn old entered
  pub answer : WasAnswered v told entered done w
  pub last : WasAsked tells answered done new goes_on gate h
  pub leaves : WentOn done new

-- it let the worker go on both times, so the pass came back with the answer
abbrev pub CameBack : {G : Type 0} → (G → Point → Go → G → Type 0) → (begun answered : Point) → Walk → Answer → Turns → Turns → Walk → G → G → Type 0
CameBack tells begun answered v told old new w g h = AnsweredBetween tells begun answered true v told old new w g h

-- The gate was asked after the begin, let the worker go on, and each further turn was a read of the state until none was left.
pub record RanOutBehind {G : Type 0} (tells : G → Point → Go → G → Type 0) (begun : Point) (v : Walk) (old new : Turns) (w : Walk) (g h : G) : Type 0 where
  pub entered : Turns
  pub first : WasAsked tells begun old entered true g h
  pub enters : WentOn old entered
  pub waited : RanOut v entered new w

-- The state of a worker that came to its limit in a call. The call still waits: the gate held the worker up after the begin, or
-- each further turn was a read. Or it was answered, and the gate held the worker up after that.
abbrev pub Stopped : {G P D : Type 0} → (G → Point → Go → G → Type 0) → (P → Walk) → (D → Walk) → (begun answered : Point) → Walk → Turns → Turns → G → G → Left P D → Type 0
Stopped tells call pass begun answered v old new g h (Left.Waiting p) = (WasAsked tells begun old new false g h × (call p ≡ v)) ⊎ RanOutBehind tells begun v old new (call p) g h
Stopped tells call pass begun answered v old new g h (Left.Answered d) = (told : Answer) × AnsweredBetween tells begun answered false v told old new (pass d) g h

-- the pass of a call that came to the limit
abbrev pub pass_left : Left Walk Walk → Walk
pass_left (Left.Waiting p) = p
pass_left (Left.Answered d) = d

-- a send that was answered was made by a sender that could begin one; an exhausted sender is as it was
abbrev pub IsSent : Walk → Body → Sent → Type 0
IsSent v body (Sent.Answered w told) = Completed v (Call.Send body) (Answer.Send told) w × (w.stand.begun ≡ v.stand.begun + 1) × (v.stand.begun < v.setting.config.per_sender)
IsSent v body (Sent.Worn w) = (w ≡ v) × (v.setting.config.per_sender ≤ v.stand.begun)
IsSent v body (Sent.Limited left) = ⊤

-- The questions to its gate and the number of reads of its state: an exhausted sender asked nothing and made no turn.
abbrev pub IsAskedInSend : {G : Type 0} → (G → Point → Go → G → Type 0) → Walk → Body → Turns → Turns → G → G → Sent → Type 0
IsAskedInSend tells v body old new g h (Sent.Answered w told) = (p : Walk) × Begun v (Call.Send body) p × CameBack tells Point.SendBegun Point.SendAnswered p (Answer.Send told) old new w g h
IsAskedInSend tells v body old new g h (Sent.Worn w) = (new ≡ old) × (h ≡ g)
IsAskedInSend tells v body old new g h (Sent.Limited left) = (p : Walk) × Begun v (Call.Send body) p × Stopped tells (λ q. q) (λ s. s) Point.SendBegun Point.SendAnswered p old new g h left

-- the same of a take
abbrev pub IsAskedInTake : {G : Type 0} → (G → Point → Go → G → Type 0) → Walk → Turns → Turns → G → G → Result (Walk × TakeAnswer) (Left Walk Walk) → Type 0
IsAskedInTake tells v old new g h (Ok r) = (p : Walk) × Begun v Call.Take p × CameBack tells Point.TakeBegun Point.TakeAnswered p (Answer.Take r.1) old new r.0 g h
IsAskedInTake tells v old new g h (Err left) = (p : Walk) × Begun v Call.Take p × Stopped tells (λ q. q) (λ s. s) Point.TakeBegun Point.TakeAnswered p old new g h left

-- a send that was answered cost at least one turn, and one that was given up all that were left
abbrev pub CostsOfSend : Turns → Turns → Sent → Type 0
CostsOfSend old new (Sent.Answered w told) = old.made < new.made
CostsOfSend old new (Sent.Worn w) = ⊤
CostsOfSend old new (Sent.Limited left) = new.made ≡ new.limit

-- and so did a take
abbrev pub CostsOfTake : Turns → Turns → Result (Walk × TakeAnswer) (Left Walk Walk) → Type 0
CostsOfTake old new (Ok r) = old.made < new.made
CostsOfTake old new (Err left) = new.made ≡ new.limit
