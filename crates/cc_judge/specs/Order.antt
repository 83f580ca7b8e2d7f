-- A legal order of the calls of a log.
use Rattle.std.specs.Prelude.{◌≡◌, ◌≢◌, ℕ, ◌<◌, Bool, true, false, List, [], ◌∷◌, ◌++◌, Option, Some, None, IsSome, slice_get, length}
use Rattle.cc_judge.specs.Names.{Act, Call, Step, Tie, Rules}

-- a queue of this capacity that holds this number of items has room; nothing is asked of a queue whose capacity isn't known
abbrev pub HasRoom : (capacity : Option ℕ) → (held : ℕ) → Type 0
HasRoom None held = Unit {0}
HasRoom (Some capacity) held = held < capacity

-- it has none
abbrev pub IsFull : (capacity : Option ℕ) → (held : ℕ) → Type 0
IsFull None held = Unit {0}
IsFull (Some capacity) held = held ≡ capacity

-- the queue holds `before`; the call does this; the queue holds `after`
abbrev pub Does : (capacity : Option ℕ) → (before : List ℕ) → Act → (after : List ℕ) → Type 0
Does capacity before (Act.Send item) after = (after ≡ before ++ item ∷ []) × HasRoom capacity (length before)
Does capacity before (Act.Took item) after = before ≡ item ∷ after
Does capacity before Act.FoundNone after = (before ≡ []) × (after ≡ [])
Does capacity before Act.Taking after = ⊥
Does capacity before Act.Full after = (after ≡ before) × IsFull capacity (length before)
Does capacity before Act.Closed after = after ≡ before
Does capacity before Act.Ended after = (before ≡ []) × (after ≡ [])
Does capacity before Act.Close after = after ≡ before

-- one queue answers these calls, one after another, from the items that it holds
abbrev pub IsRun : (capacity : Option ℕ) → (held : List ℕ) → List Step → Type 0
IsRun capacity held [] = Unit {0}
IsRun capacity held (s ∷ steps) = (next : List ℕ) × Does capacity held s.act next × IsRun capacity next steps

-- a queue that is closed, or isn't, may answer so
abbrev pub Allows : (closed : Bool) → Act → Type 0
Allows closed (Act.Send item) = closed ≡ false
Allows closed Act.Full = closed ≡ false
Allows closed Act.Closed = closed ≡ true
Allows closed Act.Ended = closed ≡ true
Allows closed _ = Unit {0}

-- whether it is closed after that
abbrev pub closed_after : (closed : Bool) → Act → Bool
closed_after closed Act.Close = true
closed_after closed _ = closed

-- one queue answers so, which is closed at first or isn't
abbrev pub Closes : (closed : Bool) → List Step → Type 0
Closes closed [] = Unit {0}
Closes closed (s ∷ steps) = Allows closed s.act × Closes (closed_after closed s.act) steps

-- a call that the log has so may have done this: what it says; a take that hasn't returned may have done what takes do
abbrev pub MayHaveDone : Act → Act → Type 0
MayHaveDone Act.Taking (Act.Took item) = Unit {0}
MayHaveDone Act.Taking Act.FoundNone = Unit {0}
MayHaveDone said did = said ≡ did

-- the call at one place ended before the call at the other began
pub record EndsBefore (calls : List Call) (first second : ℕ) : Type 0 where
  pub one : Call
  pub other : Call
  pub end : ℕ
  pub one_is : slice_get calls first ≡ Some one
  pub other_is : slice_get calls second ≡ Some other
  pub ended : one.end ≡ Some end
  pub before : end < other.begin

-- the step is one of a call of the log
pub record IsCall (calls : List Call) (s : Step) : Type 0 where
  pub call : Call
  pub call_is : slice_get calls s.place ≡ Some call
  pub may : MayHaveDone call.act s.act

-- the order has a step of this call
pub record HasStepOf (order : List Step) (place : ℕ) : Type 0 where
  pub at : ℕ
  pub step : Step
  pub step_is : slice_get order at ≡ Some step
  pub place_is : step.place ≡ place

-- each step is one of a call of the log
abbrev pub IsOfLog : List Call → List Step → Type 0
IsOfLog calls order = (k : ℕ) (s : Step) → slice_get order k ≡ Some s → IsCall calls s

-- no call has two steps
abbrev pub IsOnce : List Step → Type 0
IsOnce order = (j k : ℕ) (s t : Step) → j < k → slice_get order j ≡ Some s → slice_get order k ≡ Some t → s.place ≢ t.place

-- each call that returned has a step
abbrev pub IsWhole : List Call → List Step → Type 0
IsWhole calls order = (place : ℕ) (c : Call) → slice_get calls place ≡ Some c → IsSome c.end → HasStepOf order place

-- the order agrees with real time: a call that ended before another began comes first
abbrev pub RespectsRealTime : List Call → List Step → Type 0
RespectsRealTime calls order = (j k : ℕ) (s t : Step) → j < k → slice_get order j ≡ Some s → slice_get order k ≡ Some t → EndsBefore calls t.place s.place → ⊥

-- the step of the later call of a tie isn't before that of the earlier one
abbrev pub KeepsTie : List Step → Tie → Type 0
KeepsTie order tie = (j k : ℕ) (s t : Step) → j < k → slice_get order j ≡ Some s → slice_get order k ≡ Some t → s.place ≡ tie.later → t.place ≢ tie.earlier

-- calls of one thread that their times leave unordered come in the order of their lines
abbrev pub RespectsLines : List Tie → List Step → Type 0
RespectsLines ties order = (i : ℕ) (tie : Tie) → slice_get ties i ≡ Some tie → KeepsTie order tie

-- A legal order of the log, which one queue that is empty and open at first answers so. Whether it is closed counts only if
-- the log has its closes.
pub record IsOrder (rules : Rules) (calls : List Call) (order : List Step) : Type 0 where
  pub each : IsOfLog calls order
  pub once : IsOnce order
  pub whole : IsWhole calls order
  pub in_time : RespectsRealTime calls order
  pub in_line : RespectsLines rules.ties.items order
  pub legal : IsRun rules.capacity [] order
  pub closing : rules.closes ≡ true → Closes false order

-- the log has a legal order
abbrev pub IsLinearizable : Rules → List Call → Type 0
IsLinearizable rules calls = (order : List Step) × IsOrder rules calls order

-- the same of a queue of whatever capacity
abbrev pub of_any_capacity : Rules → Rules
of_any_capacity rules = record rules { capacity = None }
