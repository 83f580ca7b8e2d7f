-- Calls that only their lines order, and that meet or overlap: the log is cut between two of them at a time, at each time at which a call
-- began while both were under way.
use Rattle.std.specs.Prelude.{◌≡◌, ◌≢◌, ℕ, zero, suc, ◌+◌, ◌*◌, ◌/◌, ◌<◌, ◌≤◌, ◌⊎◌, List, length, Option, Some, None, IsSome, slice_get}
use Rattle.cc_judge.specs.Names.{Call, Explored, Rules, Tie}
use Rattle.cc_judge.specs.Order.{EndsBefore, IsLinearizable, of_any_capacity}
use Rattle.cc_judge.specs.Faultless.{IsWritten}
use Rattle.cc_judge.specs.Cuts.{AreEach, AreWithoutTies}
use Rattle.cc_judge.specs.Room.{KeepsRoom}

-- the second log has the calls of the first, with their acts, and its times order no fewer of them
pub record IsFiner (calls cut : List Call) : Type 0 where
  pub there : (place : ℕ) (c : Call) → slice_get calls place ≡ Some c → (d : Call) × (slice_get cut place ≡ Some d) × (d.act ≡ c.act) × (IsSome c.end → IsSome d.end)
  pub back : (place : ℕ) (d : Call) → slice_get cut place ≡ Some d → (c : Call) × (slice_get calls place ≡ Some c) × (d.act ≡ c.act) × (IsSome d.end → IsSome c.end)
  pub before : (first second : ℕ) → EndsBefore calls first second → EndsBefore cut first second

-- and its times order the calls that only their lines ordered
pub record IsTimed (ties : List Tie) (calls cut : List Call) : Type 0 where
  pub finer : IsFiner calls cut
  pub timed : (i : ℕ) (tie : Tie) → slice_get ties i ≡ Some tie → EndsBefore cut tie.earlier tie.later

-- two calls that only their lines order are two, and the later one began by the end of the earlier one
pub record DoTouch (calls : List Call) (tie : Tie) : Type 0 where
  pub apart : tie.earlier ≢ tie.later
  pub one : Call
  pub other : Call
  pub one_is : slice_get calls tie.earlier ≡ Some one
  pub other_is : slice_get calls tie.later ≡ Some other
  pub end : ℕ
  pub ended : one.end ≡ Some end
  pub touch : other.begin ≤ end

abbrev pub AllTouch : List Call → List Tie → Type 0
AllTouch calls ties = (i : ℕ) (tie : Tie) → slice_get ties i ≡ Some tie → DoTouch calls tie

-- the call is under way at the time
pub record IsUnderWay (calls : List Call) (place time : ℕ) : Type 0 where
  pub call : Call
  pub call_is : slice_get calls place ≡ Some call
  pub begun : call.begin ≤ time
  pub until : (end : ℕ) → call.end ≡ Some end → time ≤ end

-- both calls are under way at the time, and some call began then
pub record MaySplit (calls : List Call) (tie : Tie) (time : ℕ) : Type 0 where
  pub earlier : IsUnderWay calls tie.earlier time
  pub later : IsUnderWay calls tie.later time

-- what began after the time begins a moment later, and so does what ended at the time or after it end
abbrev pub IsBeginBy : (time before after : ℕ) → Type 0
IsBeginBy time before after = ((before ≤ time) × (after ≡ before)) ⊎ ((time < before) × (after ≡ suc before))

abbrev pub IsEndBy : (time before after : ℕ) → Type 0
IsEndBy time before after = ((before < time) × (after ≡ before)) ⊎ ((time ≤ before) × (after ≡ suc before))

-- but the earlier call ends at the time, and the later one begins in the moment after it
pub record SplitCall (tie : Tie) (time place : ℕ) (whole cut : Call) : Type 0 where
  pub act : cut.act ≡ whole.act
  pub begin : ((place ≡ tie.later) × (cut.begin ≡ suc time)) ⊎ ((place ≢ tie.later) × IsBeginBy time whole.begin cut.begin)
  pub open_end : whole.end ≡ None → cut.end ≡ None
  pub end : (end : ℕ) → whole.end ≡ Some end → (new : ℕ) × (cut.end ≡ Some new) × (((place ≡ tie.earlier) × (new ≡ time)) ⊎ ((place ≢ tie.earlier) × IsEndBy time end new))

-- the second log is the first one, cut between two calls at the time
abbrev pub IsSplit : Tie → (time : ℕ) → (calls cut : List Call) → Type 0
IsSplit tie time calls cut = AreEach (SplitCall tie time) calls cut

-- the same rules, but for calls that times order once the log is cut
pub record AreLeft (rules rest : Rules) (cut : List Call) : Type 0 where
  pub capacity : rest.capacity ≡ rules.capacity
  pub closes : rest.closes ≡ rules.closes
  pub of : (i : ℕ) (tie : Tie) → slice_get rest.ties.items i ≡ Some tie → (k : ℕ) × (slice_get rules.ties.items k ≡ Some tie)
  pub all : (i : ℕ) (tie : Tie) → slice_get rules.ties.items i ≡ Some tie → EndsBefore cut tie.earlier tie.later ⊎ ((k : ℕ) × (slice_get rest.ties.items k ≡ Some tie))

-- The law: a log in which only lines order two calls that touch has a legal order exactly if one has that is cut between them, at a time
-- at which a call began while both were under way.
pub record SplitsAreExact : Type 0 where
  pub exact : (rules : Rules) (calls : List Call) (i : ℕ) (tie : Tie) → slice_get rules.ties.items i ≡ Some tie → IsWritten calls → DoTouch calls tie → IsLinearizable rules calls
      → (place : ℕ) × (call : Call) × (slice_get calls place ≡ Some call) × MaySplit calls tie call.begin × ((rest : Rules) (cut : List Call) → IsSplit tie call.begin calls cut → AreLeft rules rest cut → IsLinearizable rest cut)
  pub sound : (rules rest : Rules) (calls cut : List Call) (tie : Tie) (time : ℕ) → MaySplit calls tie time → IsSplit tie time calls cut → AreLeft rules rest cut → IsLinearizable rest cut → IsLinearizable rules calls

-- ---- what a search shows

-- Once the log is cut so that times order all calls, it has a legal order, of a queue of whatever capacity, and keeps its room.
pub record IsClean (rules : Rules) (calls : List Call) : Type 0 where
  pub plain : Rules
  pub same : AreWithoutTies rules plain
  pub cut : List Call
  pub timed : IsTimed rules.ties.items calls cut
  pub order : IsLinearizable (of_any_capacity plain) cut
  pub keeps : KeepsRoom plain cut

abbrev pub IsExplored : Rules → List Call → Explored → Type 0
IsExplored rules calls Explored.Clean = IsClean rules calls
IsExplored rules calls Explored.NoOrder = IsLinearizable rules calls → ⊥
IsExplored rules calls (Explored.Stuck tie) = Unit {0}

-- the log has no order that is cut between the calls of a tie at a time
pub record NoneAt (rules : Rules) (calls : List Call) (tie : Tie) (time : ℕ) : Type 0 where
  pub rest : Rules
  pub cut : List Call
  pub split : IsSplit tie time calls cut
  pub left : AreLeft rules rest cut
  pub none : IsLinearizable rest cut → ⊥

abbrev pub IsExploredAt : Rules → List Call → Tie → (time : ℕ) → Explored → Type 0
IsExploredAt rules calls tie time Explored.Clean = IsClean rules calls
IsExploredAt rules calls tie time Explored.NoOrder = NoneAt rules calls tie time
IsExploredAt rules calls tie time (Explored.Stuck stuck) = Unit {0}

abbrev pub IsStuck : Explored → Type 0
IsStuck (Explored.Stuck tie) = Unit {0}
IsStuck _ = ⊥

-- how many calls are judged at most in the logs that are cut: for each tie at each begin of a call
abbrev pub spend : (calls ties : ℕ) → ℕ
spend calls zero = 0
spend calls (suc ties) = calls * (calls + spend calls ties)

-- the times of a call, and this number more, are below 2^63
abbrev pub HasRoom : (more : ℕ) → Call → Type 0
HasRoom more call = (call.begin + more < 9223372036854775808) × ((end : ℕ) → call.end ≡ Some end → end + more < 9223372036854775808)

abbrev pub HaveRoom : (more : ℕ) → List Call → Type 0
HaveRoom more calls = (place : ℕ) (call : Call) → slice_get calls place ≡ Some call → HasRoom more call

abbrev pub IsTieOf : List Tie → Tie → Type 0
IsTieOf ties tie = (i : ℕ) × (slice_get ties i ≡ Some tie)

abbrev pub IsBegin : List Call → (time : ℕ) → Type 0
IsBegin calls time = (place : ℕ) × (call : Call) × (slice_get calls place ≡ Some call) × (call.begin ≡ time)

-- a call at an earlier place began at the time
abbrev pub IsBegunBefore : List Call → (place time : ℕ) → Type 0
IsBegunBefore calls place time = (other : ℕ) × (call : Call) × (other < place) × (slice_get calls other ≡ Some call) × (call.begin ≡ time)

-- times order the calls of none of the ties
abbrev pub AreOpen : List Tie → List Call → Type 0
AreOpen ties cut = (i : ℕ) (tie : Tie) → slice_get ties i ≡ Some tie → EndsBefore cut tie.earlier tie.later → ⊥

-- they are fewer than all ties, if times order the calls of some
abbrev pub AreFewer : (ties : List Tie) → List Call → (rest : List Tie) → Type 0
AreFewer ties cut rest = (i : ℕ) (tie : Tie) → slice_get ties i ≡ Some tie → EndsBefore cut tie.earlier tie.later → length rest < length ties

-- the rest are the ties whose calls the times don't order
pub record AreTiesLeft (ties : List Tie) (cut : List Call) (rest : List Tie) : Type 0 where
  pub of : (i : ℕ) (tie : Tie) → slice_get rest i ≡ Some tie → IsTieOf ties tie
  pub all : (i : ℕ) (tie : Tie) → slice_get ties i ≡ Some tie → EndsBefore cut tie.earlier tie.later ⊎ IsTieOf rest tie
  pub still : AreOpen rest cut
  pub fewer : AreFewer ties cut rest

-- of a call with its times in parts: it begins no earlier, and ends no later
abbrev pub EndsInParts : (first parts : ℕ) → (end part : Option ℕ) → Type 0
EndsInParts first parts (Some end) (Some part) = part / parts + first ≤ end
EndsInParts first parts None None = Unit {0}
EndsInParts first parts _ _ = ⊥

pub record IsInParts (first parts : ℕ) (whole cut : Call) : Type 0 where
  pub act : cut.act ≡ whole.act
  pub begin : whole.begin ≤ cut.begin / parts + first
  pub end : EndsInParts first parts whole.end cut.end
