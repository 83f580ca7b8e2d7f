-- A small run of a queue with two groups: a receiver of one group finds nothing and returns, and then one of the other group begins.
-- Orders of their calls that aren't orders of the run.
use Rattle.std.specs.Prelude.{ℕ, zero, suc, ◌+◌, List, [], ◌∷◌}
use Rattle.cc_runs.specs.Run.{IsRun}
use Rattle.cc_runs.specs.SmallOrders.{small}
use Rattle.cc_runs.specs.Linearizable.{IsExact}
use Rattle.cc_agree.specs.Names.{Pass, Call, Answer, TakeAnswer, Setting, Served, Chain, Move}
use Rattle.cc_agree.specs.RealTime.{Returns, Point, effects_of, IsOrderOfCalls}

-- two senders, and one receiver of each of two groups
abbrev pub two_groups : Setting
two_groups = record { served = Served.List; config = record small { groups = 2 } }

-- this many steps of a pass
abbrev pub steps : (pass count : ℕ) → List Move → List Move
steps p zero earlier = earlier
steps p (suc n) earlier = Move.Step p ∷ steps p n earlier

-- the newest move first: the passes 0 and 1 are the senders, 2 and 3 the receivers
abbrev pub small_run : List Move
small_run = Move.Begin 3 Call.Take 0 ∷ Move.Take 2 ∷ steps 2 13 (Move.Begin 2 Call.Take 0 ∷ [])

-- the take of a group's receiver that began at this time, with its answer
abbrev pub a_take : (group begin : ℕ) → TakeAnswer → Point
a_take g begin told = record { begin = begin; effect = record { chain = Chain.Take g; entry = record { pass = Pass.Receiver (g + 1); call = Call.Take; number = 0; known = 0 }; answer = Answer.Take told } }

-- the two takes
abbrev pub first : Point
first = a_take 0 0 TakeAnswer.Empty

abbrev pub second : Point
second = a_take 1 15 TakeAnswer.Empty

-- it is no order of the run
abbrev pub IsRefused : List Point → Type 0
IsRefused order = IsOrderOfCalls two_groups small_run order → ⊥

-- each order with the newest call first
pub record SmallCalls : Type 0 where
  pub run : IsRun two_groups small_run
  pub returned : Returns two_groups small_run 0 14 (Answer.Take TakeAnswer.Empty)
  -- a queue gives these answers in either order
  pub exact : IsExact two_groups.config (effects_of (second ∷ first ∷ []))
  pub exact_turned : IsExact two_groups.config (effects_of (first ∷ second ∷ []))
  pub turned_round : IsRefused (first ∷ second ∷ [])
  pub left_out : IsRefused (second ∷ [])
  pub with_another_answer : IsRefused (second ∷ a_take 0 0 (TakeAnswer.Ended 0) ∷ [])
  pub twice : IsRefused (second ∷ first ∷ first ∷ [])
  pub never_begun : IsRefused (second ∷ a_take 1 3 TakeAnswer.Empty ∷ first ∷ [])
  pub of_another_group : IsRefused (a_take 0 15 TakeAnswer.Empty ∷ first ∷ [])
