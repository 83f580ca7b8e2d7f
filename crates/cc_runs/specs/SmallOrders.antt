-- Small orders of calls, of a queue that holds one item: a sequential queue gives the answers of the first two, and of no other.
use Rattle.std.specs.Prelude.{ℕ, List, [], ◌∷◌}
use Rattle.cc_model.specs.Body.{body_of}
use Rattle.cc_runs.specs.Names.{Config, Call, Item, Pass, Answer, SendAnswer, CloseAnswer, TakeAnswer, Chain}
use Rattle.cc_runs.specs.Linearizable.{Effect, IsExact}

-- room for one item, and one receiver
abbrev pub small : Config
small = record { senders = 2; receivers = 1; capacity = 1; bound = 1; life = 9; per_sender = 9; groups = 1 }

-- what sender `s` sends with its send `number`
abbrev pub sent : (s number : ℕ) → (place : ℕ) → Item
sent s number place = record { place = place; sender = s; number = number; body = body_of (7 ∷ []) }

-- a send with its answer
abbrev pub a_send : (s number : ℕ) → SendAnswer → Effect
a_send s number told = record { chain = Chain.Send; entry = record { pass = Pass.Sender s; call = Call.Send (body_of (7 ∷ [])); number = number; known = 0 }; answer = Answer.Send told }

-- a close of the first sender that shuts the queue
abbrev pub shut : (total : ℕ) → Effect
shut total = record { chain = Chain.Send; entry = record { pass = Pass.Sender 1; call = Call.Close; number = 0; known = 0 }; answer = Answer.Close (CloseAnswer.Shut total) }

-- a take with its answer
abbrev pub a_take : TakeAnswer → Effect
a_take told = record { chain = Chain.Take 0; entry = record { pass = Pass.Receiver 1; call = Call.Take; number = 0; known = 0 }; answer = Answer.Take told }

-- the first send, which is accepted; and the take that gets its item
abbrev pub accepted_first : Effect
accepted_first = a_send 1 1 (SendAnswer.Accepted 0)

abbrev pub got_first : Effect
got_first = a_take (TakeAnswer.Got (sent 1 1 0))

-- another send, which finds the queue full; and a take that finds it empty
abbrev pub found_full : Effect
found_full = a_send 2 1 SendAnswer.Full

abbrev pub found_none : Effect
found_none = a_take TakeAnswer.Empty

-- no sequential queue gives these answers
abbrev pub IsRefused : List Effect → Type 0
IsRefused order = IsExact small order → ⊥

-- each order with the newest call first
pub record SmallOrders : Type 0 where
  pub good : IsExact small (found_none ∷ got_first ∷ found_full ∷ accepted_first ∷ [])
  pub ended : IsExact small (a_take (TakeAnswer.Ended 1) ∷ a_send 2 1 SendAnswer.Closed ∷ got_first ∷ shut 1 ∷ accepted_first ∷ [])
  pub full_too_early : IsRefused (accepted_first ∷ found_full ∷ [])
  pub full_too_late : IsRefused (found_full ∷ got_first ∷ accepted_first ∷ [])
  pub empty_with_an_item : IsRefused (found_none ∷ accepted_first ∷ [])
  pub empty_after_shut : IsRefused (found_none ∷ shut 0 ∷ [])
  pub accepted_when_full : IsRefused (a_send 2 1 (SendAnswer.Accepted 1) ∷ accepted_first ∷ [])
  pub accepted_after_shut : IsRefused (a_send 2 1 (SendAnswer.Accepted 1) ∷ got_first ∷ shut 1 ∷ accepted_first ∷ [])
  pub got_twice : IsRefused (got_first ∷ got_first ∷ accepted_first ∷ [])
  pub ended_unshut : IsRefused (a_take (TakeAnswer.Ended 1) ∷ got_first ∷ accepted_first ∷ [])
