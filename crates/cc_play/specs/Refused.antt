-- Refused claims: for each kind of mistake a small case, and a claim about it that the clause doesn't admit.
use Rattle.std.specs.Prelude.{◌≢◌, [], ◌∷◌}
use Rattle.cc_model.specs.Body.{body_of}
use Rattle.cc_plan.specs.Plan.{PlanValue}
use Rattle.cc_plan.specs.PlanOf.{config_of}
use Rattle.cc_play.specs.Names.{Call, Pass}
use Rattle.cc_play.specs.Schedule.{history_of}

-- a claim that doesn't hold
abbrev pub Refused : Type 0 → Type 0
Refused claim = claim → ⊥

-- sender 1 is to send the body 7, and the schedule has one event of it
abbrev pub one_event : PlanValue
one_event = record { version = 1; config = config_of 1 1 1 1 1 1; senders = (Call.Send (body_of (7 ∷ [])) ∷ []) ∷ []; receivers = 0 ∷ []; schedule = (Pass.Sender 1, 1) ∷ [] }

pub record RefusedClaims : Type 0 where
  -- by one event of the schedule a call has entered its chain, as if the whole call had been played
  pub whole_call_is_played : Refused ((history_of one_event).sends.calls ≢ [])
