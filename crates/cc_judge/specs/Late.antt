-- A log that begins late: the calls that it may lack, and what is asked of its verdict.
use Rattle.std.specs.Prelude.{◌≡◌, ℕ, zero, suc, ◌<◌, ◌≤◌, Bool, true, false, List, [], ◌∷◌, ◌++◌, length, Option, Some, None, IsSome, slice_get, slice_set, unwrap_or, fold, replicate}
use Rattle.cc_judge.specs.Names.{Act, Call, Fault, Rules, Tie, Verdict}
use Rattle.cc_judge.specs.Order.{IsLinearizable, MayHaveDone}
use Rattle.cc_judge.specs.Faults.{Did, Differ}
use Rattle.cc_judge.specs.Verdict.{IsVerdict}

-- a call that began before the others and hasn't returned
abbrev pub early : Act → Call
early act = record { begin = 0; end = None; act = act }

-- of each item whether a call sent it: of none at first
abbrev pub mark_sent : List Bool → Act → List Bool
mark_sent marks (Act.Send item) = slice_set marks item true
mark_sent marks _ = marks

abbrev pub mark_taken : List Bool → Act → List Bool
mark_taken marks (Act.Took item) = slice_set marks item true
mark_taken marks _ = marks

abbrev pub sent_items : (items : ℕ) → List Call → List Bool
sent_items items calls = fold (λ marks call. mark_sent marks call.act) (replicate items false) calls

abbrev pub taken_items : (items : ℕ) → List Call → List Bool
taken_items items calls = fold (λ marks call. mark_taken marks call.act) (replicate items false) calls

-- what the log may lack of an item: its send if it was taken, and its take if it was sent
abbrev pub lacking : (is_sent is_taken : Bool) → (item : ℕ) → List Call
lacking false true item = early (Act.Send item) ∷ []
lacking true false item = early Act.Taking ∷ []
lacking _ _ item = []

-- the same of all items below a number
abbrev pub padding : (sent taken : List Bool) → (items : ℕ) → List Call
padding sent taken zero = []
padding sent taken (suc item) = padding sent taken item ++ lacking (unwrap_or (slice_get sent item) false) (unwrap_or (slice_get taken item) false) item

-- the queue may have been closed before the log, if closes are judged
abbrev pub early_close : (closes : Bool) → List Call
early_close false = []
early_close true = early Act.Close ∷ []

-- the calls of a log that begins late, or doesn't
abbrev pub padded : (late closes : Bool) → List Call → (items : ℕ) → List Call
padded false closes calls items = calls
padded true closes calls items = (calls ++ padding (sent_items items calls) (taken_items items calls) items) ++ early_close closes

-- the capacity by which a log is judged: none if the log begins late, since it may lack items that are in the queue
abbrev pub judged_capacity : (late : Bool) → Option ℕ → Option ℕ
judged_capacity false capacity = capacity
judged_capacity true capacity = None

-- ---- no correct queue is accused

-- the items of a log are below a number, a call that took an item returned, and a take of which no item is known didn't
pub record IsSound (calls : List Call) (items : ℕ) : Type 0 where
  pub sent : (place item : ℕ) → Did calls place (Act.Send item) → item < items
  pub took : (place item : ℕ) → Did calls place (Act.Took item) → item < items
  pub returned : (place item : ℕ) → (d : Did calls place (Act.Took item)) → IsSome d.call.end
  pub waits : (place : ℕ) → (d : Did calls place Act.Taking) → d.call.end ≡ None

-- The rules by which a part of a log is judged, by those of the whole: without the capacity, with closes only if the whole has them,
-- and with ties of the part alone.
pub record AreOfPart (whole part : Rules) (calls : List Call) : Type 0 where
  pub capacity : part.capacity ≡ None
  pub closes : part.closes ≡ true → whole.closes ≡ true
  pub earlier : (i : ℕ) (tie : Tie) → slice_get part.ties.items i ≡ Some tie → tie.earlier < length calls
  pub later : (i : ℕ) (tie : Tie) → slice_get part.ties.items i ≡ Some tie → tie.later < length calls
  pub ties : (i : ℕ) (tie : Tie) → slice_get part.ties.items i ≡ Some tie → (k : ℕ) × (slice_get whole.ties.items k ≡ Some tie)

-- The law: a log that lacks some calls of a log with a legal order has one, with the calls that a late log may lack. In the whole
-- log the calls that it lacks, whenever they began and ended, follow its own. The items of the whole log differ.
abbrev pub LateLogsAreLinearizable : Type 0
LateLogsAreLinearizable = (whole part : Rules) (calls lacked : List Call) (items : ℕ) → IsSound calls items → AreOfPart whole part calls → Differ (calls ++ lacked)
    → IsLinearizable whole (calls ++ lacked) → IsLinearizable part (padded true part.closes calls items)

-- the second log says no more of each call than the first: it began no later, ended no earlier or hasn't, and may have done as much
pub record Weaker (calls loose : List Call) : Type 0 where
  pub there : (p : ℕ) (c : Call) → slice_get calls p ≡ Some c → (d : Call) × (slice_get loose p ≡ Some d) × ((act : Act) → MayHaveDone c.act act → MayHaveDone d.act act)
  pub back : (p : ℕ) (d : Call) → slice_get loose p ≡ Some d → (c : Call) × (slice_get calls p ≡ Some c) × (d.begin ≤ c.begin) × ((e : ℕ) → d.end ≡ Some e → (f : ℕ) × (c.end ≡ Some f) × (f ≤ e))

-- The same if of some calls of the part less is known than the whole log has. So a part may be cut at its end: a call that ended
-- later hasn't returned.
abbrev pub WindowsAreLinearizable : Type 0
WindowsAreLinearizable = (whole part : Rules) (calls loose lacked : List Call) (items : ℕ) → Weaker calls loose → IsSound loose items → AreOfPart whole part loose → Differ (calls ++ lacked)
    → IsLinearizable whole (calls ++ lacked) → IsLinearizable part (padded true part.closes loose items)

-- So no right verdict on such a log is a fault.
abbrev pub LateLogsHaveNoFault : Type 0
LateLogsHaveNoFault = (whole part : Rules) (calls loose lacked : List Call) (items : ℕ) → Weaker calls loose → IsSound loose items → AreOfPart whole part loose → Differ (calls ++ lacked)
    → IsLinearizable whole (calls ++ lacked) → (fault : Fault) → IsVerdict part (padded true part.closes loose items) (Verdict.Fault fault) → ⊥
