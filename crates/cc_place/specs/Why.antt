-- Why an input is refused, as its reader finds it.
use Rattle.std.specs.Prelude.{ℕ, ◌≡◌, ◌≢◌, ◌||◌, List, codes, if◌then◌else◌, is_some, Option, Some, None, Result, Ok, Err}
use Rattle.serde_json.specs.Data.{Data}
use Rattle.serde_json.specs.Find.{get}
use Rattle.cc_plan.specs.Answers.{Refuses}
use Rattle.cc_plan.specs.PlanOf.{plan_of, plan_of_tree}
use Rattle.cc_plan.specs.ReceiptsOf.{receipts_of, receipts_of_tree}
use Rattle.cc_plan.specs.Refusal.{Refusal, tree_of}
use Rattle.cc_place.specs.Names.{PlanFault, Kind}

-- ---- what an input is read as

-- as receipts, if it has a key of their rows; else as a plan
abbrev pub kind_in : Data → Kind
kind_in d = if is_some (get (codes "accepted") d) || is_some (get (codes "taken") d) then Kind.Receipts else Kind.Plan

-- an input that is too long, or no JSON, as a plan
abbrev pub kind_by : Result Data Refusal → Kind
kind_by (Ok d) = kind_in d
kind_by (Err refusal) = Kind.Plan

abbrev pub kind_of : List ℕ → Kind
kind_of input = kind_by (tree_of input)

-- ---- its fault

-- what a reader gave, memory apart
abbrev pub Tells : {T : Type 0} → Option PlanFault → Result T PlanFault → Type 0
Tells {T} None read = (value : T) × (read ≡ Ok value)
Tells (Some fault) read = (read ≡ Err fault) × (fault ≢ PlanFault.NoMemory)

-- the refusal that is due, and not for memory; or that none is
abbrev pub IsFault : {V : Type 0} → Option PlanFault → Result V Refusal → Type 0
IsFault {V} None due = (v : V) × (due ≡ Ok v)
IsFault (Some fault) due = Refuses fault due × (fault ≢ PlanFault.NoMemory)

-- of the input as a plan, or as receipts
abbrev pub IsDue : Kind → Option PlanFault → List ℕ → Type 0
IsDue Kind.Plan fault input = IsFault fault (plan_of input)
IsDue Kind.Receipts fault input = IsFault fault (receipts_of input)

-- the same of a tree
abbrev pub IsDueOf : Kind → Option PlanFault → Data → Type 0
IsDueOf Kind.Plan fault d = IsFault fault (plan_of_tree d)
IsDueOf Kind.Receipts fault d = IsFault fault (receipts_of_tree d)
