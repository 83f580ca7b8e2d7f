-- Handles.
use Rattle.std.specs.Prelude.{◌≡◌, ℕ, Bool, not, IsTrue, if◌then◌else◌, Option, Some, None}
use Rattle.cc_passes.specs.Names.{AnyPass}
use Rattle.cc_passes.specs.Passes.{Holding, abandoned_of}
use Rattle.cc_passes.specs.declared.handle.Handle.{Handle}
use Rattle.cc_passes.specs.declared.return_codes.TheConstants.{DONE, NO_PASS}

-- what a handle holds: an empty one has no pass, and its bodies no words
abbrev pub in_box : Option Holding → Holding
in_box None = record { pass = None; words = 0 }
in_box (Some k) = k

abbrev pub held_by : Handle → Holding
held_by h = in_box h.boxed.value

abbrev pub pass_of : Handle → Option AnyPass
pass_of h = (held_by h).pass

-- how many words a body of its queue has at most
abbrev pub longest_of : Handle → ℕ
longest_of h = (held_by h).words

-- it holds none
abbrev pub is_empty : Handle → Bool
is_empty h = not h.live

-- a handle was dropped: it is empty now, DONE is returned if it was not before, and its remains are the pass that it held,
-- as it was
pub record IsDropped (old new : Handle) (code : ℕ) : Type 0 where
  pub empty : IsTrue (is_empty new)
  pub told : code ≡ (if is_empty old then NO_PASS else DONE)
  pub abandoned : new.abandoned.value ≡ abandoned_of (pass_of old)
