-- The laws of progress that speak of single moves: no deadlock, whose turn it is, and what is ahead.
use Rattle.std.proofs.Common.{◌≡◌, ◌≢◌, ◌⊎◌, ℕ, zero, suc, ◌+◌, ◌-◌, ◌*◌, ◌<◌, ◌≤◌, Bool, true, false, ◌==◌, cond, nat_lt, List, [], ◌∷◌, ◌++◌, length, Ok, refl, ap, sym, ◌∙◌, subst, arith, inl, inr}
use Rattle.std.proofs.Math.Nat.{mul-le-mul_right}
use Rattle.cc_model.specs.Config.{config_fault}
use Rattle.cc_runs.specs.Names.{Config, Setting, Chain, NodeField, Word, Round, Job, Stand, Sending, Phase, Move}
use Rattle.cc_runs.specs.State.{State, pass_at}
use Rattle.cc_runs.specs.ChainLaws.{is_combining}
use Rattle.cc_runs.specs.Run.{reached, IsRun, May, moved}
use Rattle.cc_runs.specs.Passes.{pass_of}
use Rattle.cc_runs.specs.Turns.{is_in, has_later, Waits, decided, IsTurn}
use Rattle.cc_runs.specs.Ahead.{service, combiner_among, combiner, taken_on, serving_left, entering_left, serving_part, shares, ahead}
use Rattle.cc_runs.specs.Progress.{calls_after, answers_after, NoDeadlock, SomeonesTurn, BringsNearer, MovesBringNearer, AheadIsBounded, OpenCallsAreFew, HasTurns, TurnsAreFew}
use Rattle.cc_runs.proofs.Ranges.{InRange, in_range}
use Rattle.cc_runs.proofs.Chains.View.{members, pass_on}
use Rattle.cc_runs.proofs.Chains.Registers.{IsChain, calls_on, answers_on}
use Rattle.cc_runs.proofs.Chains.Ties.{ghost_of, Holds}
use Rattle.cc_runs.proofs.Chains.Runs.{chain_holds}
use Rattle.cc_runs.proofs.Chains.Opening.{member_in}
use Rattle.cc_runs.proofs.Chains.Safe as safe
use Rattle.cc_runs.proofs.Progress.Left.{service_low, counting_few, taking_few, sending_few, writing_few}
use Rattle.cc_runs.proofs.Progress.Shares.{part_most, shares_most}
use Rattle.cc_runs.proofs.Progress.Moves.{GoesOn}
use Rattle.cc_runs.proofs.Progress.Runs.{sending_on, scans_short, calls_stay}
use Rattle.cc_runs.proofs.LinkedList.Count.{covered}
use Rattle.cc_runs.proofs.Progress.Served.{add_le}
use Rattle.cc_runs.proofs.Progress.Combiner.{phase_at}
use Rattle.cc_runs.proofs.Progress.Turns.{open_turn, some_turn, enters_most}
use Rattle.cc_runs.proofs.Progress.Nearer.{is_read, turn_among, turn_goes_on, turn_keeps_answers, brings_nearer}

-- the chain after a run
pub holds_after : (c : Setting) → config_fault c.config ≡ Ok tt → (x : Chain) → IsChain c x → (moves : List Move) → IsRun c moves → Holds c x (reached c moves)
holds_after c checked x ok moves run = chain_holds c x ok (in_range c.config checked).bound.0 moves run

linked_at : (c : Setting) (x : Chain) (ok : IsChain c x) (r : InRange c.config) (s : State) (w : Holds c x s) (n : ℕ) (round : Round) → n < members c x → phase_at c x s n ≡ Phase.ReadNext round → round.served ≡ 0 → s.mem (Word.Node x round.at NodeField.Next) ≢ 0
linked_at c x ok r s w n round inside e none zero_ =
    let at : phase_at c x s n ≡ Phase.ReadNext record { at = round.at; served = 0 } = e ∙ ap (λ (z : ℕ). Phase.ReadNext record { at = round.at; served = z }) none in
    let stand : s.stand (pass_on c x n) ≡ record { begun = (s.stand (pass_on c x n)).begun; node = (s.stand (pass_on c x n)).node; phase = Phase.ReadNext record { at = round.at; served = 0 } } =
    λ i. record { begun = (s.stand (pass_on c x n)).begun; node = (s.stand (pass_on c x n)).node; phase = at i } in
    let some : 0 < s.mem (Word.Node x round.at NodeField.Next) = safe.own_link_in c x ok r s n (s.stand (pass_on c x n)).node (s.stand (pass_on c x n)).begun inside w round.at stand in
    absurd (omega (arith, some, zero_))

pub moves_bring_nearer : MovesBringNearer
moves_bring_nearer c moves checked run x ok k few m may =
    let w : Holds c x (reached c moves) = holds_after c checked x ok moves run in
    brings_nearer c x ok k (reached c moves) w few (λ n inside. scans_short c checked moves run (pass_on c x n) (member_in c x ok n inside)) (linked_at c x ok (in_range c.config checked) (reached c moves) w) m may (λ n inside. member_in c x ok n inside)

pub keeps_answers : (c : Setting) (moves : List Move) → config_fault c.config ≡ Ok tt → IsRun c moves → (x : Chain) → IsChain c x → (k : ℕ) → k ≤ calls_after c x moves → (m : Move) → May c (reached c moves) m →
    (n : ℕ) → n < members c x → pass_of m ≢ pass_on c x n → IsTurn c x k (reached c moves) n → entering_left (phase_at c x (reached c moves) n) ≡ 0 → answers_after c x (m ∷ moves) ≡ answers_after c x moves
keeps_answers c moves checked run x ok k few m may n inside ne turn none =
    let w : Holds c x (reached c moves) = holds_after c checked x ok moves run in
    ap length (turn_keeps_answers c x ok k (reached c moves) w few (λ q q_in. scans_short c checked moves run (pass_on c x q) (member_in c x ok q q_in)) (linked_at c x ok (in_range c.config checked) (reached c moves) w) m may n inside ne turn none)

-- a pass waits, or goes on
pub waits_or : (s : State) (x : Chain) (at : Stand) → Waits s x at ⊎ GoesOn s x at
waits_or s x at = grind (arith, is_read at.phase)

pub someones_turn : SomeonesTurn
someones_turn c moves checked run x ok k few =
    let w : Holds c x (reached c moves) = holds_after c checked x ok moves run in
    record { unanswered = open_turn c x (reached c moves) w k few; waiting = λ n inside among waits. some_turn c x (reached c moves) w k n inside among waits.0 waits.1 }

pub no_deadlock : NoDeadlock
no_deadlock c moves checked run x ok k n inside among =
    let w : Holds c x (reached c moves) = holds_after c checked x ok moves run in
    elim (waits_or (reached c moves) x ((reached c moves).stand (pass_on c x n))) [
      | inr goes_on ↦ record { pass = n; inside = inside; among = among; goes_on = λ waits. goes_on waits.0 waits.1 }
      | inl waits ↦
          let t = some_turn c x (reached c moves) w k n inside among waits.0 waits.1 in
          record { pass = t.pass; inside = t.inside; among = turn_among c x k (reached c moves) w t.pass t.inside t.turn; goes_on = λ its. turn_goes_on c x k (reached c moves) t.pass t.turn its.0 its.1 }
    ]

-- ---- at most so much is ahead

serving_few : (c : Config) (x : Chain) (at : Phase) → ((job : Job) (service : Sending) → at ≡ Phase.Sending job service → x ≡ Chain.Send) → serving_left c x at ≤ service c x + 2
serving_few c x (Phase.ReadNext round) where_ = by_case (round.served == 0)
  where
    by_case : (b : Bool) → cond b (service c x + 2) 2 ≤ service c x + 2
    by_case b = grind arith
serving_few c x (Phase.Counting job at) where_ = omega (arith, counting_few at, service_low c x)
serving_few c x (Phase.Sending job at) where_ = let is : c.capacity + 24 ≡ service c x = ap (service c) (sym (where_ job at refl)) in omega (arith, sending_few c at, is)
serving_few c x (Phase.Taking job at) where_ = omega (arith, taking_few at, service_low c x)
serving_few c x (Phase.WriteAnswer job told) where_ = omega (arith, writing_few told, service_low c x)
serving_few c x (Phase.WriteAnswerTag job item) where_ = omega (arith, service_low c x)
serving_few c x (Phase.WriteAnswerBody job item i) where_ = omega (arith, service_low c x)
serving_few c x (Phase.MarkDone job) where_ = omega (arith, service_low c x)
serving_few c x (Phase.HandOver at) where_ = omega arith
serving_few c x _ where_ = omega arith

module _ (c : Setting) (x : Chain) (k : ℕ) (s : State) (w : Holds c x s) where
  combiner_few : (n : ℕ) → n ≤ members c x → serving_left c.config x (combiner_among c x s n) ≤ service c.config x + 2
  combiner_few zero inside = omega arith
  combiner_few (suc n) inside = by_case (is_combining (phase_at c x s n)) refl (combiner_few n (omega arith))
    where
      by_case : (b : Bool) → is_combining (phase_at c x s n) ≡ b → serving_left c.config x (combiner_among c x s n) ≤ service c.config x + 2 → serving_left c.config x (combiner_among c x s (suc n)) ≤ service c.config x + 2
      by_case true is rest =
          subst (λ (z : Phase). serving_left c.config x z ≤ service c.config x + 2) (sym (ap (λ (b : Bool). cond b (phase_at c x s n) (combiner_among c x s n)) is))
          (serving_few c.config x (phase_at c x s n) (λ job at e. sending_on c x s w n (omega (arith, inside)) job at e))
      by_case false is rest = subst (λ (z : Phase). serving_left c.config x z ≤ service c.config x + 2) (sym (ap (λ (b : Bool). cond b (phase_at c x s n) (combiner_among c x s n)) is)) rest

  when_few : (b : Bool) (m most : ℕ) → m ≤ most → cond b m 0 ≤ most
  when_few b m most few = grind arith

  part_few : (a taken cost v most : ℕ) → v ≤ most → (k - (a + taken)) * cost + v ≤ (k - a) * cost + most
  part_few a taken cost v most few = let rest : (k - (a + taken)) * cost ≤ (k - a) * cost = mul-le-mul_right cost (omega arith) in add_le ((k - a) * cost) ((k - (a + taken)) * cost) most v rest few

  ahead_most : ahead c x k s ≤ (k - length (answers_on x s.history)) * (service c.config x + 3) + (service c.config x + 2) + members c x * 6
  ahead_most =
      add_le _ (serving_part c.config x k (length (answers_on x s.history)) (combiner c x s)) _ (shares entering_left c x k s (members c x))
      (part_few (length (answers_on x s.history)) (taken_on (combiner c x s)) (service c.config x + 3) _ (service c.config x + 2)
      (when_few (nat_lt (length (answers_on x s.history)) (k + decided (combiner c x s))) _ (service c.config x + 2) (combiner_few (members c x) (omega arith))))
      (shares_most entering_left c x k s 6 (members c x) (λ n inside. part_most (is_in (phase_at c x s n)) (has_later (pass_at c.config (pass_on c x n)) k (calls_on x s.history)) (entering_left (phase_at c x s n)) 6 (λ is. enters_most (phase_at c x s n))))

pub ahead_is_bounded : AheadIsBounded
ahead_is_bounded c moves checked run x ok k = ahead_most c x k (reached c moves) (holds_after c checked x ok moves run)

-- each call without an answer is of another pass
few_open : (c : Setting) (x : Chain) (s : State) → Holds c x s → length (calls_on x s.history) ≤ length (answers_on x s.history) + members c x
few_open c x s w =
    let few : (ghost_of w).calls - (ghost_of w).marked ≤ members c x = covered (members c x) ((ghost_of w).calls - (ghost_of w).marked) (λ p. (ghost_of w).at p - (ghost_of w).marked) (λ n. (ghost_of w).pass_of ((ghost_of w).marked + n))
    (λ n less. w.inv.calls.open_pass ((ghost_of w).marked + n) (omega arith) (omega (arith, less)))
    (λ n less. omega (arith, w.inv.calls.open_at ((ghost_of w).marked + n) (omega arith) (omega (arith, less)))) in
    omega (arith, few, w.inv.calls.in_order)

pub open_calls_are_few : OpenCallsAreFew
open_calls_are_few c moves checked run x ok = few_open c x (reached c moves) (holds_after c checked x ok moves run)

-- ---- the steps of those whose turn it is

pub turns_are_few : TurnsAreFew
turns_are_few c [] seen checked run x ok k n few has = none_more (ahead c x k (reached c seen)) n has
  where
    none_more : (a n : ℕ) → n ≡ 0 → n + a ≤ a
    none_more a n e = omega (arith, e)
turns_are_few c (m ∷ later) seen checked run x ok k n few has =
    more_turns (moves_bring_nearer c (later ++ seen) checked run.0 x ok k (at_most few (calls_stay c x later seen run.0)) m run.1) has (λ j had. turns_are_few c later seen checked run.0 x ok k j few had)
  where
    at_most : {a b d : ℕ} → a ≤ b → b ≤ d → a ≤ d
    at_most {a} {b} {d} p q = omega (arith, p, q)

    sum_le : (n a b t : ℕ) → a ≤ b → n + b ≤ t → n + a ≤ t
    sum_le n a b t p q = omega (arith, p, q)

    sum_lt : (n j a b t : ℕ) → n ≡ j + 1 → a < b → j + b ≤ t → n + a ≤ t
    sum_lt n j a b t e p q = omega (arith, e, p, q)

    more_turns : BringsNearer c x k (reached c (later ++ seen)) m → HasTurns c x k seen (m ∷ later) n → ((j : ℕ) → HasTurns c x k seen later j → j + ahead c x k (reached c (later ++ seen)) ≤ ahead c x k (reached c seen)) →
        n + ahead c x k (reached c (m ∷ later ++ seen)) ≤ ahead c x k (reached c seen)
    more_turns d (inl had) rest = sum_le n (ahead c x k (moved c (reached c (later ++ seen)) m)) (ahead c x k (reached c (later ++ seen))) (ahead c x k (reached c seen)) d.no_more (rest n had)
    more_turns d (inr had) rest = sum_lt n had.0 (ahead c x k (moved c (reached c (later ++ seen)) m)) (ahead c x k (reached c (later ++ seen))) (ahead c x k (reached c seen)) had.1 (d.fewer had.3 had.4 had.5 had.6) (rest had.0 had.2)
