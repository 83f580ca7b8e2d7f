-- The clauses refuse these claims.
use Rattle.std.proofs.Common.{◌≡◌, List, [], Some, sym, ap, ◌∙◌}
use Rattle.std.specs.List.{slice_get}
use Rattle.cc_model.specs.Items.{accepted}
use Rattle.cc_queue.specs.Names.{Body, Move}
use Rattle.cc_queue.specs.Noted.{noted_history}
use Rattle.cc_steps.specs.Noted.{Noted}
use Rattle.two_threads.specs.HandedOn.{BeginsWith}
use Rattle.two_threads.specs.Refused.{RefusedClaims}

before : (n : Noted) (body : Body) → n.seen ≡ [] → BeginsWith n body → ⊥
before n body none begins =
    let first : slice_get (accepted (noted_history (record n { seen = [] }))) 0 ≡ Some begins.item = ap (λ (moves : List Move). slice_get (accepted (noted_history (record n { seen = moves }))) 0) (sym none) ∙ begins.first in
    absurd (cc first)

pub claims_refused : RefusedClaims
claims_refused = record {
  note_before_the_send = before;
}
