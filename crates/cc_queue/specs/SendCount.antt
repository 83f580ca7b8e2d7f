-- How many sends a pass has begun.
use Rattle.std.specs.Prelude.{◌≡◌, ℕ, ◌+◌, List, [], ◌∷◌}
use Rattle.cc_queue.specs.Names.{Call, Entry}
use Rattle.cc_steps.specs.Walk.{Walk}

-- one for a send
abbrev pub is_send : Call → ℕ
is_send (Call.Send body) = 1
is_send _ = 0

-- how many of these calls are sends
abbrev pub sends_in : List Entry → ℕ
sends_in [] = 0
sends_in (e ∷ calls) = is_send e.call + sends_in calls

-- this many of the calls that the pass has made are sends, and this is the count that bounds them
pub record HasBegunSends (w : Walk) (count : ℕ) : Type 0 where
  pub made : count ≡ sends_in w.made
  pub counted : count ≡ w.stand.begun
