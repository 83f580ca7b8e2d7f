-- The statements that a note makes of the first item.
use Rattle.std.specs.Prelude.{◌≡◌, Some}
use Rattle.std.specs.List.{slice_get}
use Rattle.cc_model.specs.Items.{accepted}
use Rattle.cc_queue.specs.Names.{Body, Item}
use Rattle.cc_queue.specs.Noted.{noted_history}
use Rattle.cc_steps.specs.Noted.{Noted}

-- this is the first item accepted in what the note's pass had seen
abbrev pub IsFirst : Noted → Item → Type 0
IsFirst n item = slice_get (accepted (noted_history n)) 0 ≡ Some item

-- there was one
abbrev pub HasFirst : Noted → Type 0
HasFirst n = (item : Item) × IsFirst n item

-- with this body
pub record BeginsWith (n : Noted) (body : Body) : Type 0 where
  pub item : Item
  pub first : IsFirst n item
  pub body_is : item.body ≡ body
