-- The results of a reading function of the code.
use Rattle.std.specs.Prelude.{◌≡◌, Result, Ok, Err, ⊤}
use Rattle.cc_plan.specs.Names.{PlanFault}
use Rattle.cc_plan.specs.Refusal.{Refusal, no_json, wrong_shape, out_of_range, unknown_pass}

-- the refusal is the one that is due; of lack of memory nothing is said
abbrev pub Refuses : {V : Type 0} → PlanFault → Result V Refusal → Type 0
Refuses PlanFault.NotJson due = due ≡ Err no_json
Refuses PlanFault.Shape due = due ≡ Err wrong_shape
Refuses (PlanFault.Range key) due = due ≡ Err (out_of_range key.now)
Refuses (PlanFault.UnknownPass place) due = due ≡ Err (unknown_pass place)
Refuses PlanFault.NoMemory due = ⊤

-- the value that is due, or a refusal as above
abbrev pub Gives : {A V : Type 0} → (A → V) → Result A PlanFault → Result V Refusal → Type 0
Gives value (Ok x) due = due ≡ Ok (value x)
Gives value (Err fault) due = Refuses fault due
