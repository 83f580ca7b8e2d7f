-- The outcome of an input, by the outcomes of the parts of the work on it.
use Rattle.std.proofs.Common.{◌≡◌, ℕ, List, Option, Result, Ok, Err}
use Rattle.cc_io.specs.Input.{Reads}
use Rattle.cc_plan.specs.Refusal.{Refusal}
use Rattle.cc_play.specs.Names.{Verdict, PlayFault}
use Rattle.cc_play.specs.Play.{Worked, WorksOn}

-- the input was read, it holds a value, and that was worked on
pub worked : {V : Type 0} (due : List ℕ → Result V Refusal) (Good : V → Verdict → List ℕ → Type 0) (l n : Option (List ℕ)) (input : List ℕ) (v : V) (r : Result Verdict PlayFault) (old new : Option (List ℕ)) → Reads l n input → due input ≡ Ok v → Worked (Good v) r old new → WorksOn due Good l n r old new
worked due Good l n input v (Ok verdict) old new reads holds out = (input, v, reads, holds, out)
worked due Good l n input v (Err PlayFault.Write) old new reads holds out = (input, v, reads, holds, out)
worked due Good l n input v (Err PlayFault.NoMemory) old new reads holds out = out
worked due Good l n input v (Err PlayFault.Read) old new reads holds out = absurd out
worked due Good l n input v (Err (PlayFault.Plan f)) old new reads holds out = absurd out

-- what is right for the one is so for the other
pub still_worked : (P Q : Verdict → List ℕ → Type 0) (r : Result Verdict PlayFault) (old new : Option (List ℕ)) → ((v : Verdict) (text : List ℕ) → P v text → Q v text) → Worked P r old new → Worked Q r old new
still_worked P Q (Ok v) old new f out = (out.0, f v out.0 out.1, out.2)
still_worked P Q (Err PlayFault.Write) old new f out = (out.0, out.1, out.2, f out.0 out.1 out.3, out.4, out.5)
still_worked P Q (Err PlayFault.NoMemory) old new f out = out
still_worked P Q (Err PlayFault.Read) old new f out = absurd out
still_worked P Q (Err (PlayFault.Plan f)) old new g out = absurd out
