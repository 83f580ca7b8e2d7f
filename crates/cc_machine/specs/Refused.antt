-- Refused claims: for each kind of mistake a small case, and a claim about it that the clause doesn't admit.
use Rattle.std.specs.Prelude.{◌≡◌, ◌≢◌, ℕ, [], ◌∷◌, length}
use Rattle.cc_model.specs.Body.{body_of}
use Rattle.cc_model.specs.Items.{handed_to_all}
use Rattle.cc_model.specs.Record.{Record, Side, silent}
use Rattle.cc_runs.specs.State.{State, chain_of}
use Rattle.cc_runs.specs.Step.{stepped}
use Rattle.cc_machine.specs.BoardSteps.{side_room}
use Rattle.cc_machine.specs.Known.{IsKnown}
use Rattle.cc_machine.specs.Names.{Answer, AnswerCounts, Board, Call, Chain, Entry, Pass, Phase, SendAnswer, Setting, TakeAnswer}
use Rattle.cc_machine.specs.Valid.{HasRoomToCome}

-- a claim that doesn't hold
abbrev pub Refused : Type 0 → Type 0
Refused claim = claim → ⊥

-- sender 1 sent the body 7, and it was accepted at place 0
abbrev pub sent : Side
sent = record {
  calls = record { pass = Pass.Sender 1; call = Call.Send (body_of (7 ∷ [])); number = 1; known = 0 } ∷ [];
  answers = Answer.Send (SendAnswer.Accepted 0) ∷ [];
}

abbrev pub one_item : Record
one_item = record { sends = sent; takes = silent ∷ silent ∷ [] }

-- a take got it
abbrev pub got : Side
got = record { calls = []; answers = Answer.Take (TakeAnswer.Got (record { place = 0; sender = 1; number = 1; body = body_of (7 ∷ []) })) ∷ [] }

-- the first of two groups was handed it, and the second wasn't
abbrev pub one_group_got : Record
one_group_got = record one_item { takes = got ∷ silent ∷ [] }

pub record RefusedClaims : Type 0 where
  -- an answer is counted, and its item isn't
  pub counts_no_answers : (k : AnswerCounts) → k.sent ≡ 1 → k.entries ≡ 0 → Refused (IsKnown one_item k)
  -- as many items count as handed to all groups as were handed to one
  pub knows_the_greatest_of_the_groups : Refused (handed_to_all one_group_got ≡ 1)
  -- room that the calls made fill has room for one call more
  pub one_call_has_no_room : (b : Board) (x : Chain) → (side_room x b.history).room ≡ length (side_room x b.history).lists.calls → Refused (HasRoomToCome b x)
  -- the exchange of a sender puts no call into the history
  pub exchange_places_no_call : (c : Setting) (s : State) (p : ℕ) (call : Entry) → chain_of c.config p ≡ Chain.Send → (s.stand p).phase ≡ Phase.Exchange call → Refused ((stepped c s p).history ≡ s.history)
  -- the link of a sender puts a call into the history
  pub call_is_placed_at_its_link : (c : Setting) (s : State) (p put : ℕ) → chain_of c.config p ≡ Chain.Send → (s.stand p).phase ≡ Phase.Link put → Refused ((stepped c s p).history ≢ s.history)
