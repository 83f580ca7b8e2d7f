-- Small orders of steps, of a queue that holds one item: the judge's queue answers the first two, and no other.
use Rattle.std.specs.Prelude.{ℕ, ◌+◌, List, [], ◌∷◌}
use Rattle.cc_agree.specs.Names.{Act, Step}
use Rattle.cc_agree.specs.OneQueue.{IsAnswered}

-- steps of these acts, of the calls of a log one after another
abbrev pub steps_from : (place : ℕ) → List Act → List Step
steps_from place [] = []
steps_from place (act ∷ acts) = record { place = place; act = act } ∷ steps_from (place + 1) acts

-- a queue with room for one item answers so
abbrev pub IsGood : List Act → Type 0
IsGood acts = IsAnswered 1 (steps_from 0 acts)

-- and doesn't
abbrev pub IsRefused : List Act → Type 0
IsRefused acts = IsGood acts → ⊥

-- each order with the oldest act first
pub record SmallOrders : Type 0 where
  pub good : IsGood (Act.Send 7 ∷ Act.Full ∷ Act.Took 7 ∷ Act.FoundNone ∷ [])
  pub ended : IsGood (Act.Send 7 ∷ Act.Close ∷ Act.Took 7 ∷ Act.Closed ∷ Act.Close ∷ Act.Ended ∷ Act.FoundNone ∷ [])
  pub full_too_early : IsRefused (Act.Full ∷ Act.Send 7 ∷ [])
  pub full_too_late : IsRefused (Act.Send 7 ∷ Act.Took 7 ∷ Act.Full ∷ [])
  pub full_after_a_close : IsRefused (Act.Send 7 ∷ Act.Close ∷ Act.Full ∷ [])
  pub none_with_an_item : IsRefused (Act.Send 7 ∷ Act.FoundNone ∷ [])
  pub sent_when_full : IsRefused (Act.Send 7 ∷ Act.Send 8 ∷ [])
  pub sent_after_a_close : IsRefused (Act.Close ∷ Act.Send 7 ∷ [])
  pub took_twice : IsRefused (Act.Send 7 ∷ Act.Took 7 ∷ Act.Took 7 ∷ [])
  pub took_another : IsRefused (Act.Send 7 ∷ Act.Took 8 ∷ [])
  pub ended_unclosed : IsRefused (Act.Send 7 ∷ Act.Took 7 ∷ Act.Ended ∷ [])
  pub ended_with_an_item : IsRefused (Act.Send 7 ∷ Act.Close ∷ Act.Ended ∷ [])
