-- Looks at the counts of a queue by the pass of a handle: one load each. The pass has then seen a run that goes on from what it had seen, and did
-- nothing.
use Rattle.std.specs.Prelude.{◌≡◌, ℕ, ◌-◌, Bool, true, false, ◌&&◌, nat_le, nat_lt, Option, Some, None, if◌then◌else◌}
use Rattle.cc_runs.specs.Words.{groups}
use Rattle.cc_runs.specs.Counts.{counted, counted_for}
use Rattle.cc_steps.specs.Walk.{Walk}
use Rattle.cc_queue.specs.Counted.{is_marked, Found}
use Rattle.cc_passes.specs.Names.{AnyPass, Count}
use Rattle.cc_passes.specs.declared.return_codes.TheConstants.{DONE, NO_PASS, BUSY, BAD_GROUPS}

-- the queue of this pass has a group of this number, from 1
abbrev pub is_group_of : Walk → ℕ → Bool
is_group_of v group = nat_le 1 group && nat_lt (group - 1) (groups v.setting.config)

-- how many items a group has taken; if the queue has no such group, the pass doesn't look
abbrev pub FindsTaken : Bool → ℕ → Walk → Walk → ℕ → ℕ → Type 0
FindsTaken true group v w code found = (code ≡ DONE) × Found (λ s. counted_for s (group - 1)) v w found
FindsTaken false group v w code found = (w ≡ v) × (code ≡ BAD_GROUPS) × (found ≡ 0)

-- a look, its code, and what it found: how many items are counted as accepted; how many as taken by a group, from 1; or 1 if the mark of the
-- close is set, else 0
abbrev pub Finds : Count → Walk → Walk → ℕ → ℕ → Type 0
Finds Count.Accepted v w code found = (code ≡ DONE) × Found counted v w found
Finds (Count.Taken group) v w code found = FindsTaken (is_group_of v group) group v w code found
Finds Count.Shut v w code found = (code ≡ DONE) × Found (λ s. if is_marked s then 1 else 0) v w found

-- an idle sender, or an idle receiver, looks, and stays one
abbrev pub SenderLooks : Count → Walk → Option AnyPass → ℕ → ℕ → Type 0
SenderLooks count v (Some (AnyPass.Sender w)) code found = Finds count v w code found
SenderLooks count v _ code found = ⊥

abbrev pub ReceiverLooks : Count → Walk → Option AnyPass → ℕ → ℕ → Type 0
ReceiverLooks count v (Some (AnyPass.Receiver w)) code found = Finds count v w code found
ReceiverLooks count v _ code found = ⊥

-- a look by a handle: nothing changes if its pass has a call, or if it has no pass
abbrev pub LooksAt : Count → Option AnyPass → Option AnyPass → ℕ → ℕ → Type 0
LooksAt count (Some (AnyPass.Sender v)) new code found = SenderLooks count v new code found
LooksAt count (Some (AnyPass.Receiver v)) new code found = ReceiverLooks count v new code found
LooksAt count (Some p) new code found = (new ≡ Some p) × (code ≡ BUSY) × (found ≡ 0)
LooksAt count None new code found = (new ≡ None) × (code ≡ NO_PASS) × (found ≡ 0)
