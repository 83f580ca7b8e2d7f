-- Fresh answers, in two legal histories: an answer takes into account what its pass had seen when the call began.
use Rattle.std.specs.Prelude.{ℕ, ◌+◌, ◌≡◌, ◌<◌, ◌≤◌, false, List, ◌∷◌, ◌++◌, length, Some}
use Rattle.std.specs.List.{slice_get}
use Rattle.cc_model.specs.Record.{Side, Record, of_group}
use Rattle.cc_model.specs.Items.{IsPrefix, Begins, accepted, accepted_by, is_shut, handed_by, handed_to_all, known_at}
use Rattle.cc_model.specs.Legal.{Legal}
use Rattle.cc_model.specs.Names.{Config, Entry, Answer, SendAnswer, TakeAnswer}

-- two legal histories, the first of which begins the second
pub record GoesOn (cfg : Config) (h later : Record) : Type 0 where
  pub legal : Legal cfg h
  pub later_legal : Legal cfg later
  pub begins : Begins h later

-- all that there was to be known of this history had been seen when the call began
abbrev pub HasSeen : Record → Entry → Type 0
HasSeen h call = known_at call.pass h ≤ call.known

-- a call of this side has this answer, after these answers
pub record IsAnswered (side : Side) (before : List Answer) (call : Entry) (told : Answer) : Type 0 where
  pub call_is : slice_get side.calls (length before) ≡ Some call
  pub behind : List Answer
  pub answers_are : side.answers ≡ before ++ told ∷ behind

-- A take that had seen the earlier history returns Empty only if its group was handed, before that, all items that were
-- accepted there, and if that history isn't shut.
abbrev pub EmptyIsFresh : Type 0
EmptyIsFresh = (cfg : Config) (h later : Record) → GoesOn cfg h later → (g : ℕ) (before : List Answer) (call : Entry) → g < cfg.groups →
    IsAnswered (of_group later g) before call (Answer.Take TakeAnswer.Empty) → HasSeen h call → IsPrefix (accepted h) (handed_by before) × (is_shut h ≡ false)

-- A send that had seen the earlier history returns Full only if before it at least `capacity` items were accepted beyond
-- those that every group was handed there.
abbrev pub FullIsFresh : Type 0
FullIsFresh = (cfg : Config) (h later : Record) → GoesOn cfg h later → (before : List Answer) (call : Entry) →
    IsAnswered later.sends before call (Answer.Send SendAnswer.Full) → HasSeen h call → handed_to_all h + cfg.capacity ≤ length (accepted_by later.sends.calls before)
