-- Linearizability as a caller takes it (Herlihy and Wing, TOPLAS 1990), for every number of groups: a call lasts from its begin to
-- its return, and one that returned before another began comes before it in the order.
use Rattle.std.specs.Prelude.{◌≡◌, ◌≢◌, ℕ, ◌<◌, List, [], ◌∷◌, ◌++◌, length, Some, slice_get}
use Rattle.cc_runs.specs.MachineLaws.{AfterEveryRun}
use Rattle.cc_runs.specs.Run.{reached, number_of}
use Rattle.cc_runs.specs.State.{chain_of, pass_at}
use Rattle.cc_runs.specs.Linearizable.{Effect, IsExact, in_order, IsLinearization}
use Rattle.cc_agree.specs.Names.{Call, Entry, Answer, Setting, Phase, Move}

-- ---- the calls of a run: a time is the number of moves that were made before

-- the call of pass p that began at this time
pub record Begins (c : Setting) (moves : List Move) (begin p : ℕ) (e : Entry) : Type 0 where
  pub call : Call
  pub known : ℕ
  pub later : List Move
  pub before : List Move
  pub split : moves ≡ later ++ Move.Begin p call known ∷ before
  pub begin_is : length before ≡ begin
  pub entry_is : e ≡ record { pass = pass_at c.config p; call = call; number = number_of call ((reached c before).stand p).begun; known = known }

-- the pass begins no call by these moves
abbrev pub BeginsNone : ℕ → List Move → Type 0
BeginsNone p [] = Unit {0}
BeginsNone p (Move.Begin q call known ∷ earlier) = (q ≢ p) × BeginsNone p earlier
BeginsNone p (_ ∷ earlier) = BeginsNone p earlier

-- the call that began at one time returned this answer at the other: its pass began no further call before
pub record Returns (c : Setting) (moves : List Move) (begin end : ℕ) (answer : Answer) : Type 0 where
  pub pass : ℕ
  pub call : Call
  pub known : ℕ
  pub later : List Move
  pub during : List Move
  pub before : List Move
  pub split : moves ≡ later ++ Move.Take pass ∷ (during ++ Move.Begin pass call known ∷ before)
  pub begin_is : length before ≡ begin
  pub end_is : length (during ++ Move.Begin pass call known ∷ before) ≡ end
  pub own : BeginsNone pass during
  pub answer_is : ((reached c (during ++ Move.Begin pass call known ∷ before)).stand pass).phase ≡ Phase.Finished answer

-- the call that began at one time returned before the other time
pub record ReturnsBefore (c : Setting) (moves : List Move) (begin time : ℕ) : Type 0 where
  pub end : ℕ
  pub answer : Answer
  pub returned : Returns c moves begin end answer
  pub earlier : end < time

-- ---- their order

-- a call in an order, with the time of its begin
pub record Point : Type 0 where
  pub begin : ℕ
  pub effect : Effect

-- the order without the times
abbrev pub effects_of : List Point → List Effect
effects_of [] = []
effects_of (z ∷ earlier) = z.effect ∷ effects_of earlier

-- the call is one of the run, on the chain of its pass
pub record IsCallOf (c : Setting) (moves : List Move) (z : Point) : Type 0 where
  pub pass : ℕ
  pub begins : Begins c moves z.begin pass z.effect.entry
  pub chain_is : z.effect.chain ≡ chain_of c.config pass

-- the order has the call that began at this time, with this answer
pub record HasCall (order : List Point) (begin : ℕ) (answer : Answer) : Type 0 where
  pub at : ℕ
  pub point : Point
  pub point_is : slice_get order at ≡ Some point
  pub begin_is : point.begin ≡ begin
  pub answer_is : point.effect.answer ≡ answer

-- An order, whose newest call is its first element, of calls of the run. All that returned are there, and perhaps some that haven't.
pub record IsOrderOfCalls (c : Setting) (moves : List Move) (order : List Point) : Type 0 where
  -- a sequential queue with these groups gives the answers
  pub exact : IsExact c.config (effects_of order)
  pub each : (k : ℕ) (z : Point) → slice_get order k ≡ Some z → IsCallOf c moves z
  pub once : (j k : ℕ) (y z : Point) → slice_get order j ≡ Some y → slice_get order k ≡ Some z → y.begin ≡ z.begin → j ≡ k
  pub whole : (begin end : ℕ) (answer : Answer) → Returns c moves begin end answer → HasCall order begin answer
  -- a call that returned before another began comes before it
  pub in_time : (j k : ℕ) (y z : Point) → slice_get order j ≡ Some y → slice_get order k ≡ Some z → ReturnsBefore c moves y.begin z.begin → k < j

-- each run has such an order, of all calls of all groups
abbrev pub CallsAreLinearizable : Type 0
CallsAreLinearizable = AfterEveryRun (λ c moves. (order : List Point) × IsOrderOfCalls c moves order)

-- and each linearization of a run, in which a call takes effect between its exchange and its decision, is one
abbrev pub LinearizationsAreOfCalls : Type 0
LinearizationsAreOfCalls = AfterEveryRun (λ c moves. (effects : List (List Effect)) → IsLinearization c moves effects → (order : List Point) × (effects_of order ≡ in_order effects) × IsOrderOfCalls c moves order)
