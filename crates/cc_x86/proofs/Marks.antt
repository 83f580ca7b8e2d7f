-- The small run in which a take misses an item: each of its moves is looked at in turn.
use Rattle.std.proofs.Common.{◌≡◌, ℕ, zero, suc, Bool, true, false, ◌&&◌, refl, List, [], ◌∷◌, arith}
use Rattle.std.proofs.lemmas.Bool.{and_parts}
use Rattle.cc_x86.specs.Program.{Operation, Load, Store, Locked, Outside, Stop, Program, State}
use Rattle.cc_x86.specs.Buffered.{Plain, is_plain, Waiting, Machine, Move, Acts, Drains, arrived, MayAct, MayDrain, May, IsBufferedRun}
use Rattle.cc_runs.specs.SmallWaits.{small_list}
use Rattle.cc_x86.specs.Threads.{opened}
use Rattle.cc_x86.specs.Early.{early}
use Rattle.cc_x86.specs.Marks.{marks_too, small, steps, drains, acts, before_mark, sent, returned, taken, MarksOfSendsAreNeeded}

module _ {W : Type 0} where
  -- ---- a move that can be made

  abbrev none_waits : List (Waiting W) → Bool
  none_waits [] = true
  none_waits (e ∷ newer) = false

  none_is : (waiting : List (Waiting W)) → none_waits waiting ≡ true → waiting ≡ []
  none_is waiting is = grind arith

  some_is : (waiting : List (Waiting W)) → none_waits waiting ≡ false → waiting ≡ [] → ⊥
  some_is waiting some is = grind arith

  abbrev can_act : List (Waiting W) → Operation W → Bool → Bool
  can_act waiting (Store w v) false = none_waits waiting
  can_act waiting (Store w v) true = true
  can_act waiting (Locked w f) flag = none_waits waiting
  can_act waiting (Load w) flag = true
  can_act waiting (Outside v) flag = true
  can_act waiting Stop flag = false

  acts_so : (waiting : List (Waiting W)) (does : Operation W) (flag : Bool) → can_act waiting does flag ≡ true → MayAct waiting does flag
  acts_so waiting (Store w v) false is = none_is waiting is
  acts_so waiting (Locked w f) flag is = none_is waiting is
  acts_so waiting does flag is = grind arith

  abbrev can_drain : List (Waiting W) → Bool
  can_drain [] = false
  can_drain (e ∷ newer) = true

  drains_so : (waiting : List (Waiting W)) → can_drain waiting ≡ true → MayDrain waiting
  drains_so waiting is = grind arith

  module _ {S : Type 0} (c : Program W S) (plain : Plain S) (s : State W S) where
    abbrev can : Machine W S → Move → Bool
    can m (Acts t plainly) = can_act (m.buffer t.thread) (c.next t.thread (m.own t.thread)) (is_plain plain t.thread (m.own t.thread) plainly)
    can m (Drains p) = can_drain (m.buffer p)

    may_so : (m : Machine W S) (move : Move) → can m move ≡ true → May c plain m move
    may_so m (Acts t plainly) is = acts_so (m.buffer t.thread) (c.next t.thread (m.own t.thread)) (is_plain plain t.thread (m.own t.thread) plainly) is
    may_so m (Drains p) is = drains_so (m.buffer p) is

    -- ---- a run, move by move

    abbrev all_can : List Move → Bool
    all_can [] = true
    all_can (m ∷ earlier) = can (arrived c plain s earlier) m && all_can earlier

    is_run : (moves : List Move) → all_can moves ≡ true → IsBufferedRun c plain s moves
    is_run [] is = tt
    is_run (m ∷ earlier) is =
        let one = and_parts (can (arrived c plain s earlier) m) (all_can earlier) is in
        (is_run earlier one.1, may_so (arrived c plain s earlier) m one.0)

    steps_before : (p n : ℕ) (earlier : List Move) → IsBufferedRun c plain s (steps p n earlier) → IsBufferedRun c plain s earlier
    steps_before p zero earlier run = run
    steps_before p (suc n) earlier run = steps_before p n earlier run.0

    drains_before : (p n : ℕ) (earlier : List Move) → IsBufferedRun c plain s (drains p n earlier) → IsBufferedRun c plain s earlier
    drains_before p zero earlier run = run
    drains_before p (suc n) earlier run = drains_before p n earlier run.0

-- ---- with the mark locked the sender's stores must be out first

abbrev locked_mark : List Move → Type 0
locked_mark moves = IsBufferedRun small (early small_list) (opened small_list) moves

up_to_mark : locked_mark taken → locked_mark (acts 0 0 before_mark)
up_to_mark run =
    let begins : List Move = acts 2 1 returned in
    let linked : locked_mark (drains 2 2 (steps 2 2 begins)) = steps_before small (early small_list) (opened small_list) 2 11 (drains 2 2 (steps 2 2 begins)) run in
    let reset : locked_mark (steps 2 2 begins) = drains_before small (early small_list) (opened small_list) 2 2 (steps 2 2 begins) linked in
    let begun : locked_mark begins = steps_before small (early small_list) (opened small_list) 2 2 begins reset in
    let answered : locked_mark sent = begun.0.0 in
    steps_before small (early small_list) (opened small_list) 0 2 (acts 0 0 before_mark) answered

mark_waits : locked_mark (acts 0 0 before_mark) → ⊥
mark_waits run = some_is ((arrived small (early small_list) (opened small_list) before_mark).buffer 0) refl run.1

pub marks_of_sends_are_needed : MarksOfSendsAreNeeded
marks_of_sends_are_needed = record {
  run = is_run small marks_too (opened small_list) taken refl;
  accepted = refl;
  not_begun = refl;
  missed = refl;
  refused = λ run. mark_waits (up_to_mark run);
}
