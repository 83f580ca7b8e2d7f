-- Refused claims: for each kind of mistake a small case, and a claim about it that the clause doesn't admit.
use Rattle.std.specs.Prelude.{◌≡◌, []}
use Rattle.cc_queue.specs.Names.{Body}
use Rattle.cc_steps.specs.Noted.{Noted}
use Rattle.two_threads.specs.HandedOn.{BeginsWith}

-- a claim that doesn't hold
abbrev pub Refused : Type 0 → Type 0
Refused claim = claim → ⊥

pub record RefusedClaims : Type 0 where
  -- a note that was made before all sends has the first item
  pub note_before_the_send : (n : Noted) (body : Body) → n.seen ≡ [] → Refused (BeginsWith n body)
