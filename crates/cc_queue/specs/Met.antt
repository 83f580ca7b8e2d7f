-- The knowledge of passes that have met.
use Rattle.std.specs.Prelude.{◌≡◌, ◌⊎◌, ℕ, ◌<◌, List, [], length, slice_index_or}
use Rattle.std.specs.List.{All}
use Rattle.cc_model.specs.Items.{Begins}
use Rattle.cc_queue.specs.Names.{Move}
use Rattle.cc_steps.specs.Topic.{Topic}
use Rattle.cc_steps.specs.Seen.{Onward, Later}
use Rattle.cc_steps.specs.Shown.{longer}
use Rattle.cc_steps.specs.Walk.{Walk, IsOf, IsSound}
use Rattle.cc_steps.specs.Noted.{AreOfOneRun}
use Rattle.cc_queue.specs.Headline.{StandsInOne, history}
use Rattle.cc_queue.specs.Passes.{HasStopped}

-- two passes are of one queue
abbrev pub IsOfOne : Walk → Walk → Type 0
IsOfOne v w = (w.table_id ≡ v.table_id) × (w.setting ≡ v.setting)

-- all passes of three lists are of this queue
pub record AreOf (z : Topic) (senders receivers given_up : List Walk) : Type 0 where
  pub senders_are : All (IsOf z) senders
  pub receivers_are : All (IsOf z) receivers
  pub given_up_are : All (IsOf z) given_up

-- a seat has seen more, and its pass did nothing
pub record Sees (v w : Walk) : Type 0 where
  pub same : w ≡ record v { seen = w.seen }
  pub onward : Onward v.seen w.seen
  pub sound : IsSound w

-- A pass has seen more, and did nothing. All that it has seen is one history.
pub record HasMet (v w : Walk) : Type 0 where
  pub stands : StandsInOne v [] w
  pub same : w ≡ record v { seen = w.seen }

-- The runs that two passes have seen are prefixes of one run. So one history begins the other, whether or not the passes met.
pub record SeeOneRun (v w : Walk) : Type 0 where
  pub run : AreOfOneRun v.seen w.seen
  pub histories : Begins (history v) (history w) ⊎ Begins (history w) (history v)

-- Two passes have met: both have seen now what the one that knew more had seen.
pub record HaveMet (v w v' w' : Walk) : Type 0 where
  pub one : HasMet v v'
  pub other : HasMet w w'
  pub seen : w'.seen ≡ v'.seen
  pub longest : v'.seen ≡ longer v.seen w.seen

-- each pass of a list has seen more, and did nothing
abbrev pub EachHasMet : List Walk → List Walk → Type 0
EachHasMet old new = (k : ℕ) (d : Walk) → k < length old → HasMet (slice_index_or old k d) (slice_index_or new k d)

-- a pass of this queue may meet others: it doesn't move
pub record MayMeet (z : Topic) (v : Walk) : Type 0 where
  pub here : IsOf z v
  pub still : HasStopped v

-- a pass that met each of the others in turn, of which `walk` is the view: it has seen all that any of them has; and if it
-- had seen that before, it has seen no more now, and all have seen the same
pub record Swept {X : Type 0} (walk : X → Walk) (v w : Walk) (old new : List X) : Type 0 where
  pub first : HasMet v w
  pub others : (k : ℕ) (d : X) → k < length old → HasMet (walk (slice_index_or old k d)) (walk (slice_index_or new k d))
  pub within : All (λ o. Later (walk o).seen w.seen) new
  pub still : All (λ o. Later (walk o).seen v.seen) old → (w.seen ≡ v.seen) × All (λ o. (walk o).seen ≡ w.seen) new

-- a pass that gathered three lists of others: all have seen what it has
pub record Gathered (v w : Walk) (senders senders' receivers receivers' given_up given_up' : List Walk) : Type 0 where
  pub first : HasMet v w
  pub senders_met : EachHasMet senders senders'
  pub receivers_met : EachHasMet receivers receivers'
  pub given_up_met : EachHasMet given_up given_up'
  pub senders_one : All (λ o. o.seen ≡ w.seen) senders'
  pub receivers_one : All (λ o. o.seen ≡ w.seen) receivers'
  pub given_up_one : All (λ o. o.seen ≡ w.seen) given_up'

-- all have seen one run, so one history
pub record HaveSeenOne (senders receivers given_up : List Walk) : Type 0 where
  pub seen : List Move
  pub senders_have : All (λ w. w.seen ≡ seen) senders
  pub receivers_have : All (λ w. w.seen ≡ seen) receivers
  pub given_up_have : All (λ w. w.seen ≡ seen) given_up
