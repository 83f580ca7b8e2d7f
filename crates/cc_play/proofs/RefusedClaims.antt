-- The clauses refuse these claims.
use Rattle.std.proofs.Common.{◌≡◌, ◌≢◌, [], refl}
use Rattle.cc_play.specs.Schedule.{history_of, turn}
use Rattle.cc_play.specs.Refused.{RefusedClaims, one_event}

played : (history_of one_event).sends.calls ≢ [] → ⊥
unfolding turn
played other = other refl

pub claims_refused : RefusedClaims
claims_refused = record { whole_call_is_played = played }
