-- A step that is ready finds its word, and no number leaves its range.
use Rattle.std.specs.Prelude.{ℕ, ◌+◌, ◌<◌, ◌^◌, length, IsTrue}
use Rattle.cc_model.specs.Record.{Record}
use Rattle.cc_runs.specs.Names.{Setting, Chain, Phase, Counting, Sending, Taking}
use Rattle.cc_runs.specs.Words.{layout_of, exists}
use Rattle.cc_runs.specs.State.{State, side, word_of, chain_of}
use Rattle.cc_runs.specs.Codes.{ret_of}
use Rattle.cc_runs.specs.Lines.{operation}

-- a count stays in a word
abbrev pub IsCountSafe : Counting → Type 0
IsCountSafe (Counting.WriteCount count) = count + 1 < 2 ^ 64
IsCountSafe _ = Unit {0}

-- a link that is found isn't null, and links and counts stay in words
abbrev pub IsSendSafe : ℕ → Sending → Type 0
IsSendSafe found (Sending.ReadLastToClose total) = 0 < found
IsSendSafe found (Sending.ReadPassed parcel at reads) = reads + 1 < 2 ^ 32
IsSendSafe found (Sending.ReadLast place at) = 0 < found
IsSendSafe found (Sending.LinkItem place at last) = at + 1 < 2 ^ 64
IsSendSafe found (Sending.WriteLast place at) = at + 1 < 2 ^ 64
IsSendSafe found (Sending.WriteCount place at) = place + 1 < 2 ^ 64
IsSendSafe found (Sending.WriteCursor place at) = at + 1 < 2 ^ 64
IsSendSafe found _ = Unit {0}

-- the same of a take
abbrev pub IsTakeSafe : ℕ → Taking → Type 0
IsTakeSafe found Taking.ReadHead = 0 < found
IsTakeSafe found (Taking.WriteHead dummy at parcel) = at + 1 < 2 ^ 64
IsTakeSafe found (Taking.WriteTaken dummy parcel) = parcel.place + 1 < 2 ^ 64
IsTakeSafe found (Taking.AddPassed dummy parcel) = found + 1 < 2 ^ 64
IsTakeSafe found _ = Unit {0}

-- of what the step in this phase finds
abbrev pub IsPhaseSafe : Setting → ℕ → ℕ → Phase → Type 0
IsPhaseSafe c own found (Phase.Exchange call) = (0 < found) × (own + 1 < 2 ^ 64)
IsPhaseSafe c own found (Phase.Link put) = put + 1 < 2 ^ 64
IsPhaseSafe c own found (Phase.Counting job service) = IsCountSafe service
IsPhaseSafe c own found (Phase.Sending job service) = IsSendSafe found service
IsPhaseSafe c own found (Phase.Taking job service) = IsTakeSafe found service
IsPhaseSafe c own found (Phase.WriteAnswer job told) = ret_of c.served told < 2 ^ 64
IsPhaseSafe c own found (Phase.MarkDone job) = job.round.served + 1 < 2 ^ 32
IsPhaseSafe c own found _ = Unit {0}

-- what a step of a pass of chain x finds
abbrev pub found_at : Setting → State → Chain → ℕ → Phase → ℕ
found_at c s x own at = s.mem (word_of (operation c x own at))

-- such a step can be done
pub record IsSafe (c : Setting) (s : State) (x : Chain) (own : ℕ) (at : Phase) : Type 0 where
  pub word : IsTrue (exists (layout_of c.config) (word_of (operation c x own at)))
  pub numbers : IsPhaseSafe c own (found_at c s x own at) at

-- the next step of pass p can be done
abbrev pub IsStepSafe : Setting → State → ℕ → Type 0
IsStepSafe c s p = IsSafe c s (chain_of c.config p) (s.stand p).node (s.stand p).phase

-- some call of this chain has no answer yet
abbrev pub HasOpenCall : Record → Chain → Type 0
HasOpenCall h x = length (side x h).answers < length (side x h).calls

-- a fact of the places of a service up to the step that decides its answer
abbrev pub WhileUndecided : Phase → Type 0 → Type 0
WhileUndecided (Phase.Counting job service) P = P
WhileUndecided (Phase.Sending job (Sending.WriteLastMark total)) P = Unit {0}
WhileUndecided (Phase.Sending job (Sending.WriteShut total)) P = Unit {0}
WhileUndecided (Phase.Sending job (Sending.WriteLast at node)) P = Unit {0}
WhileUndecided (Phase.Sending job (Sending.WriteCount at node)) P = Unit {0}
WhileUndecided (Phase.Sending job (Sending.WriteCursor at node)) P = Unit {0}
WhileUndecided (Phase.Sending job service) P = P
WhileUndecided (Phase.Taking job service) P = P
WhileUndecided _ P = Unit {0}

-- there a call has no answer yet
abbrev pub IsOpenAt : Record → Chain → Phase → Type 0
IsOpenAt h x at = WhileUndecided at (HasOpenCall h x)

-- the next step of pass p can be done, and decides no answer but that of a call that has none
pub record IsReady (c : Setting) (s : State) (p : ℕ) : Type 0 where
  pub safe : IsStepSafe c s p
  pub unanswered : IsOpenAt s.history (chain_of c.config p) (s.stand p).phase
