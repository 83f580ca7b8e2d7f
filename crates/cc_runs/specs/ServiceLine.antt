-- The continuations of a service's step, and one line of the table of steps.
use Rattle.std.specs.Prelude.{ℕ, Option, Some, None}
use Rattle.cc_runs.specs.Names.{Answer, Kind, Job, Phase, Word}
use Rattle.cc_runs.specs.State.{Operation, Load, Store, Add}

-- A step of a service continues the service; or it decides the answer, which is written next; or both; or it leads to the
-- writing of an answer that was decided before.
pub data Next (S : Type 0) : Type 0 where
  On : S → Next S
  Decides : Answer → Next S
  DecidesAndOn : Answer → S → Next S
  Tells : Answer → Next S

-- the phase afterwards
abbrev pub phase_of : {S : Type 0} → (Job → S → Phase) → Job → Next S → Phase
phase_of in_service job (On service) = in_service job service
phase_of in_service job (Decides told) = Phase.WriteAnswer job told
phase_of in_service job (DecidesAndOn told service) = in_service job service
phase_of in_service job (Tells told) = Phase.WriteAnswer job told

-- the answer that is decided
abbrev pub answer_of : {S : Type 0} → Next S → Option Answer
answer_of (On service) = None
answer_of (Decides told) = Some told
answer_of (DecidesAndOn told service) = Some told
answer_of (Tells told) = None

-- A line of a service: its kind, the one word that it touches and how, and what it leads to. The last argument of a line is
-- what its step found, which it names in what it leads to alone.
pub record ServiceLine (S : Type 0) : Type 0 where
  pub kind : Kind
  pub does : Operation
  pub next : Next S

abbrev pub load : {S : Type 0} → Kind → Word → Next S → ServiceLine S
load kind word next = record { kind = kind; does = Load word; next = next }

abbrev pub store : {S : Type 0} → Kind → Word → ℕ → Next S → ServiceLine S
store kind word value next = record { kind = kind; does = Store word value; next = next }

abbrev pub add : {S : Type 0} → Kind → Word → ℕ → Next S → ServiceLine S
add kind word value next = record { kind = kind; does = Add word value; next = next }
