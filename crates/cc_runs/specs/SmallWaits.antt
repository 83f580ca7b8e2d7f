-- A small run: two sends have exchanged, and the second waits for the first.
use Rattle.std.specs.Prelude.{◌≡◌, ℕ, List, [], ◌∷◌}
use Rattle.cc_model.specs.Body.{body_of}
use Rattle.cc_runs.specs.Names.{Call, Setting, Served, Chain, Move}
use Rattle.cc_runs.specs.Run.{IsRun, reached}
use Rattle.cc_runs.specs.Turns.{IsAmong, Waits, IsTurn}
use Rattle.cc_runs.specs.Ahead.{ahead}
use Rattle.cc_runs.specs.SmallOrders.{small}

abbrev pub small_list : Setting
small_list = record { served = Served.List; config = small }

-- three steps of a pass
abbrev pub three : ℕ → List Move → List Move
three p moves = Move.Step p ∷ Move.Step p ∷ Move.Step p ∷ moves

-- a send of one word is begun, and exchanges
abbrev pub sends : ℕ → List Move → List Move
sends p moves = three p (Move.Begin p (Call.Send (body_of (7 ∷ []))) 0 ∷ moves)

-- the first sender's, then the second's; and both write their requests and link their nodes
abbrev pub exchanged : List Move
exchanged = sends 1 (sends 0 [])

abbrev pub linked : List Move
linked = three 1 (three 0 exchanged)

-- 68 steps are ahead of the second send, and 56 once both are linked. It waits, it is the first sender's turn, and after the next step
-- of that sender there are 55.
pub record SmallWaits : Type 0 where
  pub run : IsRun small_list linked
  pub in_call : IsAmong small_list Chain.Send 2 (reached small_list linked) 1
  pub many : ahead small_list Chain.Send 2 (reached small_list exchanged) ≡ 68
  pub fewer : ahead small_list Chain.Send 2 (reached small_list linked) ≡ 56
  pub waits : Waits (reached small_list linked) Chain.Send ((reached small_list linked).stand 1)
  pub turn : IsTurn small_list Chain.Send 2 (reached small_list linked) 0
  pub not_its : IsTurn small_list Chain.Send 2 (reached small_list linked) 1 → ⊥
  pub one_less : ahead small_list Chain.Send 2 (reached small_list (Move.Step 0 ∷ linked)) ≡ 55
