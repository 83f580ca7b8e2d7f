-- Two calls that only their lines order: their log is cut between them, so that their times order them.
use Rattle.std.specs.Prelude.{◌≡◌, ◌≢◌, ℕ, ◌+◌, ◌*◌, ◌<◌, ◌⊎◌, Bool, true, false, List, [], Some, None, slice_get}
use Rattle.cc_judge.specs.Names.{Call, Rules, Tie}
use Rattle.cc_judge.specs.Counts.{AreSorted}
use Rattle.cc_judge.specs.Order.{IsLinearizable}

-- the call at this place is the earlier of two that only their lines order, or the later
abbrev pub IsEarlier : List Tie → (place : ℕ) → Type 0
IsEarlier ties place = (i : ℕ) × (tie : Tie) × (slice_get ties i ≡ Some tie) × (tie.earlier ≡ place)

abbrev pub IsLater : List Tie → (place : ℕ) → Type 0
IsLater ties place = (i : ℕ) × (tie : Tie) × (slice_get ties i ≡ Some tie) × (tie.later ≡ place)

-- the later call began at this very time, at which the earlier one ended
pub record MeetAt (calls : List Call) (tie : Tie) (time : ℕ) : Type 0 where
  pub one : Call
  pub other : Call
  pub one_is : slice_get calls tie.earlier ≡ Some one
  pub other_is : slice_get calls tie.later ≡ Some other
  pub ends : one.end ≡ Some time
  pub begins : other.begin ≡ time

-- each two such calls meet at a time, and no others at the same time
pub record AreLone (calls : List Call) (ties : List Tie) : Type 0 where
  pub meet : (i : ℕ) (tie : Tie) → slice_get ties i ≡ Some tie → (time : ℕ) × MeetAt calls tie time
  pub lone : (i j time : ℕ) (tie other : Tie) → slice_get ties i ≡ Some tie → slice_get ties j ≡ Some other → MeetAt calls tie time → MeetAt calls other time → (tie.earlier ≡ other.earlier) × (tie.later ≡ other.later)

-- Times are cut into four: a call begins in the first part of its time, and ends in the last one. If only lines order two calls, the
-- earlier ends in the second part, and the later begins in the third.
pub record CutCall (ties : List Tie) (place : ℕ) (whole cut : Call) : Type 0 where
  pub act : cut.act ≡ whole.act
  pub begin : (IsLater ties place × (cut.begin ≡ 4 * whole.begin + 2)) ⊎ ((IsLater ties place → ⊥) × (cut.begin ≡ 4 * whole.begin))
  pub open_end : whole.end ≡ None → cut.end ≡ None
  pub end : (time : ℕ) → whole.end ≡ Some time → (IsEarlier ties place × (cut.end ≡ Some (4 * time + 1))) ⊎ ((IsEarlier ties place → ⊥) × (cut.end ≡ Some (4 * time + 3)))

-- the second log has the calls of the first, each as the relation says
pub record AreEach (Relates : (place : ℕ) → (whole part : Call) → Type 0) (calls others : List Call) : Type 0 where
  pub there : (place : ℕ) (c : Call) → slice_get calls place ≡ Some c → (d : Call) × (slice_get others place ≡ Some d) × Relates place c d
  pub back : (place : ℕ) (d : Call) → slice_get others place ≡ Some d → (c : Call) × (slice_get calls place ≡ Some c) × Relates place c d

-- the second log has the calls of the first, cut so
abbrev pub IsCut : (ties : List Tie) → (calls cut : List Call) → Type 0
IsCut ties calls cut = AreEach (CutCall ties) calls cut

-- the same rules, but for calls that only their lines order
pub record AreWithoutTies (rules plain : Rules) : Type 0 where
  pub capacity : plain.capacity ≡ rules.capacity
  pub closes : plain.closes ≡ rules.closes
  pub none : plain.ties.items ≡ []

-- The law: a log in which at most two calls meet at a time has a legal order exactly if the log that is cut has one. There is such a log.
pub record CutLogsAreExact : Type 0 where
  pub exact : (rules plain : Rules) (calls cut : List Call) → AreWithoutTies rules plain → AreLone calls rules.ties.items → IsCut rules.ties.items calls cut → IsLinearizable rules calls → IsLinearizable plain cut
  pub sound : (rules plain : Rules) (calls cut : List Call) → AreWithoutTies rules plain → AreLone calls rules.ties.items → IsCut rules.ties.items calls cut → IsLinearizable plain cut → IsLinearizable rules calls
  pub there : (ties : List Tie) (calls : List Call) → (cut : List Call) × IsCut ties calls cut

-- ---- which logs are cut, and how

-- the place of the later call, or of the earlier one
abbrev pub place_of : (later : Bool) → Tie → ℕ
place_of true tie = tie.later
place_of false tie = tie.earlier

-- two calls that only their lines order are two, and meet at a time
abbrev pub DoMeet : List Call → List Tie → Type 0
DoMeet calls ties = (i : ℕ) (tie : Tie) → slice_get ties i ≡ Some tie → (tie.earlier ≢ tie.later) × (time : ℕ) × MeetAt calls tie time

-- each time is below 2^62
abbrev pub IsShort : Call → Type 0
IsShort call = (call.begin < 4611686018427387904) × ((end : ℕ) → call.end ≡ Some end → end < 4611686018427387904)

abbrev pub AreShort : List Call → Type 0
AreShort calls = (place : ℕ) (call : Call) → slice_get calls place ≡ Some call → IsShort call

-- A log can be cut: its times are short, and at each time at most two calls meet that only their lines order.
pub record MayBeCut (calls : List Call) (ties : List Tie) : Type 0 where
  pub short : AreShort calls
  pub meet : DoMeet calls ties
  pub alone : (i j time : ℕ) (tie other : Tie) → slice_get ties i ≡ Some tie → slice_get ties j ≡ Some other → MeetAt calls tie time → MeetAt calls other time → i ≡ j

-- the list has each pair of such calls by the time at which they meet, sorted
pub record AreMeetings (calls : List Call) (ties : List Tie) (list : List (ℕ × ℕ)) : Type 0 where
  pub sorted : AreSorted list
  pub each : (k time i : ℕ) → slice_get list k ≡ Some (time, i) → (tie : Tie) × (slice_get ties i ≡ Some tie) × MeetAt calls tie time
  pub all : (i : ℕ) (tie : Tie) → slice_get ties i ≡ Some tie → (tie.earlier ≢ tie.later) × (k time : ℕ) × (slice_get list k ≡ Some (time, i)) × MeetAt calls tie time
  pub once : (j k t u i : ℕ) → slice_get list j ≡ Some (t, i) → slice_get list k ≡ Some (u, i) → j ≡ k

-- no two times of the list are the same
abbrev pub AreApart : List (ℕ × ℕ) → Type 0
AreApart list = (j k time x y : ℕ) → slice_get list j ≡ Some (time, x) → slice_get list k ≡ Some (time, y) → j ≡ k

-- the places of the later calls are marked, or of the earlier ones, and no others
pub record AreMarked (ties : List Tie) (later : Bool) (marks : List Bool) : Type 0 where
  pub marked : (place : ℕ) → slice_get marks place ≡ Some true → (i : ℕ) × (tie : Tie) × (slice_get ties i ≡ Some tie) × (place_of later tie ≡ place)
  pub others : (place i : ℕ) (tie : Tie) → slice_get marks place ≡ Some false → slice_get ties i ≡ Some tie → place_of later tie ≢ place

-- the part of its time in which a call begins, if it is the later one of two, and in which it ends, if it is the earlier one
abbrev pub begin_part : (later : Bool) → ℕ
begin_part true = 2
begin_part false = 0

abbrev pub end_part : (earlier : Bool) → ℕ
end_part true = 1
end_part false = 3

pub record CutBy (earlier later : Bool) (whole cut : Call) : Type 0 where
  pub act : cut.act ≡ whole.act
  pub begin : cut.begin ≡ 4 * whole.begin + begin_part later
  pub open_end : whole.end ≡ None → cut.end ≡ None
  pub end : (time : ℕ) → whole.end ≡ Some time → cut.end ≡ Some (4 * time + end_part earlier)
