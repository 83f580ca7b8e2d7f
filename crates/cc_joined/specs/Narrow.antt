-- Sends at the last queue of a row with a bound, while a group is at the queue before it.
use Rattle.std.specs.Prelude.{◌≡◌, ℕ, suc, ◌+◌, ◌≤◌, List, [], ◌∷◌, ◌++◌, length}
use Rattle.cc_model.specs.Record.{Record}
use Rattle.cc_model.specs.Items.{accepted, handed}
use Rattle.cc_model.specs.Legal.{Legal}
use Rattle.cc_joined.specs.Names.{Config, Answer, SendAnswer}
use Rattle.cc_joined.specs.Bounded.{HasRoom}

-- the last answer to a sender's call is that an item was accepted, with this place
abbrev pub IsLastPlace : ℕ → Record → Type 0
IsLastPlace place h = (front : List Answer) × (h.sends.answers ≡ front ++ Answer.Send (SendAnswer.Accepted place) ∷ [])

-- So the queue has accepted the items up to this place, and no more.
abbrev pub LastPlaceCounts : Type 0
LastPlaceCounts = (cfg : Config) (h : Record) (place : ℕ) → Legal cfg h → IsLastPlace place h
    → length (accepted h) ≡ suc place

-- A look found that the group had taken this many items of its queue, `ahead` of them by takes that have no answer yet.
-- If the item that was
-- accepted last at the later queue has room by this number, the row has room, beside those takes.
abbrev pub NarrowSendHasRoom : Type 0
NarrowSendHasRoom = (cfg : Config) (bound g taken ahead place : ℕ) (h last : Record) → Legal cfg last
    → IsLastPlace place last
    → taken ≤ length (handed h g) + ahead → length (accepted h) + suc place ≤ taken + bound
    → HasRoom (bound + ahead) g (h ∷ []) last
