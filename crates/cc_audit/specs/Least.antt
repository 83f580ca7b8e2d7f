-- The least place at which a fact holds.
use Rattle.std.specs.Prelude.{◌≡◌, ℕ, ◌+◌, ◌<◌, ◌≤◌, ◌⊎◌, List, length, map, slice_index_or, Option, Some, None, nat_lt, if◌then◌else◌}
use Rattle.std.specs.Borrow.{Bor}
use Rattle.cc_audit.specs.Names.{SendReceipt, Verdict}

-- the least place at which P holds, or None if there is none
abbrev pub IsLeast : (ℕ → Type 0) → Option ℕ → Type 0
IsLeast P None = (q : ℕ) → P q → ⊥
IsLeast P (Some p) = P p × ((q : ℕ) → q < p → P q → ⊥)

-- the same, if nothing is asked of a place at which M holds as well
abbrev pub IsLeastUnless : (P M : ℕ → Type 0) → Option ℕ → Type 0
IsLeastUnless P M None = (q : ℕ) → P q → M q
IsLeastUnless P M (Some p) = (P p ⊎ M p) × ((q : ℕ) → q < p → P q → M q)

-- the lesser of two places
abbrev pub sooner_of : Option ℕ → Option ℕ → Option ℕ
sooner_of None b = b
sooner_of (Some x) None = Some x
sooner_of (Some x) (Some y) = Some (if nat_lt y x then y else x)

-- a fault of a further kind, if its place is below the fault's that was found
abbrev pub or_fault_of : Verdict → (kind : ℕ) → Option ℕ → Verdict
or_fault_of verdict kind None = verdict
or_fault_of Verdict.Clean kind (Some p) = Verdict.Fault kind p
or_fault_of (Verdict.Fault found q) kind (Some p) = if nat_lt p q then Verdict.Fault kind p else Verdict.Fault found q

-- the receipts of references
abbrev pub referred : List (Bor SendReceipt) → List SendReceipt
referred sends = map (λ s. s.now) sends

-- neighbours of one sender are in the order of their places
abbrev pub RisesInSenders : List SendReceipt → Type 0
RisesInSenders sends = (k : ℕ) (d : SendReceipt) → k + 1 < length sends → (slice_index_or sends k d).sender ≡ (slice_index_or sends (k + 1) d).sender → (slice_index_or sends k d).place ≤ (slice_index_or sends (k + 1) d).place
