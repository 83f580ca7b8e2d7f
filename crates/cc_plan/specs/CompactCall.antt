-- The calls of a sender as a plan keeps them.
use Rattle.std.specs.Prelude.{ℕ, nat_lt, Bool, true, List, [], ◌∷◌, get_or}
use Rattle.cc_model.specs.Body.{body_of}
use Rattle.cc_model.specs.declared.body.Body.{Body}
use Rattle.cc_model.specs.declared.call.Call.{Call}
use Rattle.cc_plan.specs.declared.plan.compact_call.CompactCall.{CompactCall}

-- the call, whose body may be in the list of bodies
abbrev pub call_in : (bodies : List Body) → CompactCall → Call
call_in bodies CompactCall.Close = Call.Close
call_in bodies (CompactCall.Word word) = Call.Send (body_of (word ∷ []))
call_in bodies (CompactCall.Body place) = Call.Send (get_or bodies place (body_of []))

-- the body is one of this number
abbrev pub has_body : (bodies : ℕ) → CompactCall → Bool
has_body bodies CompactCall.Close = true
has_body bodies (CompactCall.Word word) = true
has_body bodies (CompactCall.Body place) = nat_lt place bodies
