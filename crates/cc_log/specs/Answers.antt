-- The results of a function that reads a log.
use Rattle.std.specs.Prelude.{ℕ, ◌≡◌, List, Option, Result, Ok, Err, ⊤}
use Rattle.cc_log.specs.Names.{LineFault, LogFault}
use Rattle.cc_log.specs.Lines.{HasInput}
use Rattle.cc_log.specs.Log.{Refusal, bad_line, sent_twice, no_calls}

-- the refusal is the one that is due; of lack of memory nothing is said, and where nothing is read no read fails
abbrev pub Refuses : {V : Type 0} → LogFault → Result V Refusal → Type 0
Refuses (LogFault.Line line fault) due = due ≡ Err (bad_line line fault)
Refuses (LogFault.Key line key) due = due ≡ Err (bad_line line LineFault.Key)
Refuses (LogFault.Clash line fault last) due = due ≡ Err (bad_line line fault)
Refuses (LogFault.SentTwice first second item) due = due ≡ Err (sent_twice first second)
Refuses LogFault.Empty due = due ≡ Err no_calls
Refuses LogFault.Read due = ⊥
Refuses LogFault.Memory due = ⊤

-- the value that is due, or a refusal as above
abbrev pub Gives : {A V : Type 0} → (A → V) → Result A LogFault → Result V Refusal → Type 0
Gives value (Ok x) due = due ≡ Ok (value x)
Gives value (Err fault) due = Refuses fault due

-- a refusal of an input that the source had, as above; or a read failed
abbrev pub RefusesInput : {V : Type 0} → (left : Option (List ℕ)) → LogFault → (List ℕ → Result V Refusal) → Type 0
RefusesInput left LogFault.Read due = ⊤
RefusesInput left fault due = (input : List ℕ) × HasInput left input × Refuses fault (due input)

-- the value that is due of an input that the source had, or such a refusal
abbrev pub GivesOfInput : {A V : Type 0} → (A → V) → (left : Option (List ℕ)) → Result A LogFault → (List ℕ → Result V Refusal) → Type 0
GivesOfInput value left (Ok x) due = (input : List ℕ) × HasInput left input × (due input ≡ Ok (value x))
GivesOfInput value left (Err fault) due = RefusesInput left fault due

-- how many reads failed
abbrev pub failed_by : LogFault → ℕ
failed_by LogFault.Read = 1
failed_by _ = 0

abbrev pub failed_reads : {A : Type 0} → Result A LogFault → ℕ
failed_reads (Ok x) = 0
failed_reads (Err fault) = failed_by fault

-- the line with this number is too long, if it is said to be; memory or a read may have failed
abbrev pub IsLongLine : (number : ℕ) → Type 0 → LogFault → Type 0
IsLongLine number long (LogFault.Line line fault) = (line ≡ number) × (fault ≡ LineFault.TooLong) × long
IsLongLine number long (LogFault.Key line key) = ⊥
IsLongLine number long (LogFault.Clash line fault last) = ⊥
IsLongLine number long (LogFault.SentTwice first second item) = ⊥
IsLongLine number long LogFault.Empty = ⊥
IsLongLine number long LogFault.Read = ⊤
IsLongLine number long LogFault.Memory = ⊤
