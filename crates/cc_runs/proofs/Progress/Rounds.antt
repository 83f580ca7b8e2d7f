-- Rounds: what is ahead of a call gets less in each, or the steps of its own pass do.
use Rattle.std.proofs.Common.{◌≡◌, ℕ, ◌+◌, ◌-◌, ◌*◌, ◌<◌, ◌≤◌, Bool, true, cond, List, [], ◌∷◌, ◌++◌, length, Ok, ap, ◌∙◌, subst, arith, inl, inr}
use Rattle.std.proofs.lemmas.Bool.{cases_lt}
use Rattle.std.proofs.Math.Nat.{mul-le-mul_right}
use Rattle.cc_model.specs.Config.{config_fault}
use Rattle.cc_runs.specs.Names.{Setting, Chain, Phase, Move}
use Rattle.cc_runs.specs.State.{State, pass_at}
use Rattle.cc_runs.specs.Run.{reached, IsRun, May, history_of}
use Rattle.cc_runs.specs.Turns.{is_in, has_later, is_among, IsAmong, Waits, IsTurnAt, IsTurn}
use Rattle.cc_runs.specs.Ahead.{service, share, ahead, all_ahead}
use Rattle.cc_runs.specs.Progress.{calls_after, answers_after, IsRound, moves_in, AreRounds, BringsNearer, AnswersComeSoon, EachCallIsAnswered, WaitsAreShort, most_rounds, CallsAreServed}
use Rattle.cc_runs.proofs.Ranges.{in_range}
use Rattle.cc_runs.proofs.Chains.View.{members, pass_on}
use Rattle.cc_runs.proofs.Chains.Registers.{IsChain, calls_on}
use Rattle.cc_runs.proofs.Chains.Ties.{Holds}
use Rattle.cc_runs.proofs.Chains.Opening.{member_in}
use Rattle.cc_runs.proofs.ChainLaws.{laws}
use Rattle.cc_runs.proofs.RunPrefixes.{prefixes_begin}
use Rattle.cc_runs.proofs.Progress.Left.{steps_left, steps_most, steps_some, still_waits}
use Rattle.cc_runs.proofs.Progress.Shares.{both_true, part_most, part_some}
use Rattle.cc_runs.proofs.Progress.Moves.{GoesOn, Lowers, lowers_steps, step_leaves}
use Rattle.cc_runs.proofs.Progress.Runs.{sending_on, scans_short, calls_stay, answers_stay, all_answered}
use Rattle.cc_runs.proofs.Progress.Served.{add_lt, lt_add}
use Rattle.cc_runs.proofs.Progress.Combiner.{phase_at}
use Rattle.cc_runs.proofs.Progress.Turns.{open_turn, some_turn}
use Rattle.cc_runs.proofs.Progress.Nearer.{turn_among, enters_back}
use Rattle.cc_runs.proofs.Progress.Falls.{Lessens, falls_in_run, FallsInRounds, over_rounds}
use Rattle.cc_runs.proofs.Progress.Laws.{holds_after, moves_bring_nearer, waits_or, ahead_is_bounded, open_calls_are_few}

turn_in : (c : Setting) (x : Chain) (k : ℕ) (s : State) (n : ℕ) (at : Phase) → IsTurnAt c x k s n at → is_in at ≡ true
turn_in c x k s n at turn = grind arith

some_among : (b : Bool) (m : ℕ) → 0 < cond b m 0 → b ≡ true
some_among b m some = grind arith

-- ---- what is ahead of the first k calls

module _ (c : Setting) (checked : config_fault c.config ≡ Ok tt) (x : Chain) (ok : IsChain c x) (k : ℕ) where
  abbrev pub Few : List Move → Type 0
  Few moves = k ≤ calls_after c x moves

  pub few_later : (later seen : List Move) → IsRun c (later ++ seen) → Few seen → Few (later ++ seen)
  few_later later seen run few = omega (arith, few, calls_stay c x later seen run)

  pub nearer : (moves : List Move) → IsRun c moves → Few moves → (m : Move) → May c (reached c moves) m → BringsNearer c x k (reached c moves) m
  nearer moves run few m may = moves_bring_nearer c moves checked run x ok k few m may

  pub ahead_falls : (later seen : List Move) → IsRun c (later ++ seen) → Few seen → ahead c x k (reached c (later ++ seen)) ≤ ahead c x k (reached c seen)
  ahead_falls [] seen run few = omega arith
  ahead_falls (m ∷ later) seen run few = omega (arith, (nearer (later ++ seen) run.0 (few_later later seen run.0 few) m run.1).no_more, ahead_falls later seen run.0 few)

  -- in a round in which it is some pass's turn at the beginning
  pub turn_falls : (seen now : List Move) → IsRun c (now ++ seen) → Few seen → IsRound (IsAmong c x k) c x seen now → (q : ℕ) → q < members c x → IsTurn c x k (reached c seen) q → ahead c x k (reached c (now ++ seen)) < ahead c x k (reached c seen)
  turn_falls seen now run few fair q inside turn =
      falls_in_run c (pass_on c x q) (ahead c x k) (λ s. IsTurn c x k s q) (λ s h. turn_in c x k s q (phase_at c x s q) h) seen
      (λ part run2 m may. let d : BringsNearer c x k (reached c (part ++ seen)) m = nearer (part ++ seen) run2 (few_later part seen run2 few) m may in record { le = d.no_more; lt = λ step h. d.fewer q inside step h; stays = λ ne h. d.stays q inside ne h }) now run turn
      (fair q inside (turn_among c x k (reached c seen) (holds_after c checked x ok seen (prefixes_begin c now seen run).0) q inside turn))

  unanswered_falls : (seen : List Move) → Few seen → FallsInRounds c x (IsAmong c x k) (ahead c x k) (λ moves. answers_after c x moves < k) seen
  unanswered_falls seen few = record {
    back = λ later earlier run unanswered. omega (arith, unanswered, answers_stay c x later (earlier ++ seen) run);
    falls = λ now earlier run fair unanswered.
        let before : IsRun c (earlier ++ seen) = (prefixes_begin c now (earlier ++ seen) run).0 in
        let few2 : Few (earlier ++ seen) = few_later earlier seen before few in
        let t = open_turn c x (reached c (earlier ++ seen)) (holds_after c checked x ok (earlier ++ seen) before) k few2 (omega (arith, unanswered, answers_stay c x now (earlier ++ seen) run)) in
        turn_falls (earlier ++ seen) now run few2 fair t.pass t.inside t.turn;
  }

  pub soon : (seen : List Move) (rounds : List (List Move)) → IsRun c (moves_in rounds ++ seen) → Few seen → AreRounds (IsAmong c x k) c x seen rounds → ahead c x k (reached c seen) < length rounds → k ≤ answers_after c x (moves_in rounds ++ seen)
  soon seen rounds run few fair many = elim (cases_lt (answers_after c x (moves_in rounds ++ seen)) k) [
    | inr enough ↦ enough
    | inl unanswered ↦ absurd (too_many (ahead c x k (reached c (moves_in rounds ++ seen))) (length rounds) (ahead c x k (reached c seen)) (over_rounds c x (IsAmong c x k) (ahead c x k) (λ moves. answers_after c x moves < k) seen (unanswered_falls seen few) rounds run fair unanswered) many)
  ]
    where
      too_many : (a m t : ℕ) → a + m ≤ t → t < m → ⊥
      too_many a m t p q = absurd (omega (arith, p, q))

  -- no more is ahead than in any state
  pub ahead_in_all : (seen : List Move) → IsRun c seen → Few seen → ahead c x k (reached c seen) ≤ all_ahead c x
  ahead_in_all seen run few =
      at_most (ahead c x k (reached c seen)) ((k - answers_after c x seen) * (service c.config x + 3)) (members c x * (service c.config x + 3)) (service c.config x + 2) (members c x * 6) (ahead_is_bounded c seen checked run x ok k)
      (mul-le-mul_right (service c.config x + 3) (omega (arith, few, open_calls_are_few c seen checked run x ok)))
    where
      at_most : (a m n p q : ℕ) → a ≤ m + p + q → m ≤ n → a ≤ n + p + q
      at_most a m n p q le less = omega (arith, le, less)

pub answers_come_soon : AnswersComeSoon
answers_come_soon c seen rounds checked run x ok k few fair many = soon c checked x ok k seen rounds run few fair many

pub each_call_is_answered : EachCallIsAnswered
each_call_is_answered c seen rounds checked run x ok k few fair many =
    soon c checked x ok k seen rounds run few fair (chain_lt (ahead c x k (reached c seen)) (all_ahead c x) (length rounds) (ahead_in_all c checked x ok k seen (prefixes_begin c (moves_in rounds) seen run).0 few) many)
  where
    chain_lt : (a b d : ℕ) → a ≤ b → b < d → a < d
    chain_lt a b d p q = omega (arith, p, q)

-- ---- the pass of one of these calls

module _ (c : Setting) (checked : config_fault c.config ≡ Ok tt) (x : Chain) (ok : IsChain c x) (k n : ℕ) (inside : n < members c x) where
  -- the steps that are left to it
  abbrev pub own : State → ℕ
  own s = share (steps_left c.config x) c x k s n

  abbrev pub total : State → ℕ
  total s = ahead c x k s + own s

  pub own_is : (s : State) → IsAmong c x k s n → own s ≡ steps_left c.config x (phase_at c x s n)
  own_is s among = ap (λ (b : Bool). cond b (steps_left c.config x (phase_at c x s n)) 0) among

  pub own_some : (s : State) → IsAmong c x k s n → 0 < own s
  own_some s among = part_some (is_in (phase_at c x s n)) (has_later (pass_at c.config (pass_on c x n)) k (calls_on x s.history)) (steps_left c.config x (phase_at c x s n)) among (steps_some c.config x (phase_at c x s n))

  pub some_own : (s : State) → 0 < own s → IsAmong c x k s n
  some_own s some = some_among (is_among c x k s n) (steps_left c.config x (phase_at c x s n)) some

  pub lower : (moves : List Move) → IsRun c moves → Few c checked x ok k moves → (m : Move) → May c (reached c moves) m → Lowers (steps_left c.config x) c x k (reached c moves) m
  lower moves run few m may = lowers_steps c x ok k (reached c moves) (holds_after c checked x ok moves run) few (laws c checked moves run).bounded (scans_short c checked moves run) m may

  own_falls : (later seen : List Move) → IsRun c (later ++ seen) → Few c checked x ok k seen → own (reached c (later ++ seen)) ≤ own (reached c seen)
  own_falls [] seen run few = omega arith
  own_falls (m ∷ later) seen run few = omega (arith, (lower (later ++ seen) run.0 (few_later c checked x ok k later seen run.0 few) m run.1).each n inside, own_falls later seen run.0 few)

  -- it goes on
  abbrev Goes : State → Type 0
  Goes s = IsAmong c x k s n × GoesOn s x (s.stand (pass_on c x n))

  goes_in : (s : State) → Goes s → is_in (phase_at c x s n) ≡ true
  goes_in s h = (both_true (is_in (phase_at c x s n)) _ h.0).0

  by_itself : (moves : List Move) → IsRun c moves → Few c checked x ok k moves → (m : Move) → May c (reached c moves) m → Lessens c (pass_on c x n) own Goes (reached c moves) m
  by_itself moves run few m may =
      let l : Lowers (steps_left c.config x) c x k (reached c moves) m = lower moves run few m may in
      record {
        le = l.each n inside;
        lt = λ step h. l.less n inside step h.0
            (step_leaves c x ok k (reached c moves) (holds_after c checked x ok moves run) few (laws c checked moves run).bounded (scans_short c checked moves run) n (member_in c x ok n inside) h.0 h.1);
        stays = λ ne h. (l.among n inside ne ∙ h.0, l.goes_on n inside ne h.1);
      }

  own_round : (seen now : List Move) → IsRun c (now ++ seen) → Few c checked x ok k seen → IsRound (IsAmong c x k) c x seen now → Goes (reached c seen) → own (reached c (now ++ seen)) < own (reached c seen)
  own_round seen now run few fair h = falls_in_run c (pass_on c x n) own Goes goes_in seen (λ part run2 m may. by_itself (part ++ seen) run2 (few_later c checked x ok k part seen run2 few) m may) now run h (fair n inside h.0)

  -- a pass that waits: it is some pass's turn
  waiting_falls : (seen now : List Move) → IsRun c (now ++ seen) → Few c checked x ok k seen → IsRound (IsAmong c x k) c x seen now → IsAmong c x k (reached c seen) n → Waits (reached c seen) x ((reached c seen).stand (pass_on c x n)) →
      ahead c x k (reached c (now ++ seen)) < ahead c x k (reached c seen)
  waiting_falls seen now run few fair among waits =
      let t = some_turn c x (reached c seen) (holds_after c checked x ok seen (prefixes_begin c now seen run).0) k n inside among waits.0 waits.1 in
      turn_falls c checked x ok k seen now run few fair t.pass t.inside t.turn

  -- so what is ahead and what is left to it fall together
  pub round_falls : (seen now : List Move) → IsRun c (now ++ seen) → Few c checked x ok k seen → IsRound (IsAmong c x k) c x seen now → IsAmong c x k (reached c seen) n → total (reached c (now ++ seen)) < total (reached c seen)
  round_falls seen now run few fair among = elim (waits_or (reached c seen) x ((reached c seen).stand (pass_on c x n))) [
    | inl waits ↦ lt_add (ahead c x k (reached c seen)) (ahead c x k (reached c (now ++ seen))) (own (reached c seen)) (own (reached c (now ++ seen))) (waiting_falls seen now run few fair among waits) (own_falls now seen run few)
    | inr goes_on ↦ add_lt (ahead c x k (reached c seen)) (ahead c x k (reached c (now ++ seen))) (own (reached c seen)) (own (reached c (now ++ seen))) (ahead_falls c checked x ok k now seen run few) (own_round seen now run few fair (among, goes_on))
  ]

  own_back : (later seen : List Move) → IsRun c (later ++ seen) → Few c checked x ok k seen → (least : ℕ) → least ≤ own (reached c (later ++ seen)) → least ≤ own (reached c seen)
  own_back later seen run few least low = omega (arith, low, own_falls later seen run few)

  pub among_back : (later seen : List Move) → IsRun c (later ++ seen) → Few c checked x ok k seen → IsAmong c x k (reached c (later ++ seen)) n → IsAmong c x k (reached c seen) n
  among_back later seen run few among = some_own (reached c seen) (own_back later seen run few 1 (own_some (reached c (later ++ seen)) among))

  -- ---- in its call

  in_call_falls : (seen : List Move) → Few c checked x ok k seen → FallsInRounds c x (IsAmong c x k) total (λ moves. 0 < own (reached c moves)) seen
  in_call_falls seen few = record {
    back = λ later earlier run some. own_back later (earlier ++ seen) run (few_later c checked x ok k earlier seen (prefixes_begin c later (earlier ++ seen) run).0 few) 1 some;
    falls = λ now earlier run fair some.
        let few2 : Few c checked x ok k (earlier ++ seen) = few_later c checked x ok k earlier seen (prefixes_begin c now (earlier ++ seen) run).0 few in
        round_falls (earlier ++ seen) now run few2 fair (some_own (reached c (earlier ++ seen)) (own_back now (earlier ++ seen) run few2 1 some));
  }

  pub total_most : (seen : List Move) → IsRun c seen → Few c checked x ok k seen → total (reached c seen) ≤ most_rounds c x (k - answers_after c x seen)
  total_most seen run few =
      sum_most (ahead c x k (reached c seen)) (own (reached c seen)) ((k - answers_after c x seen) * (service c.config x + 3)) (members c x * 6) c.config.bound (service c.config x) (ahead_is_bounded c seen checked run x ok k)
      (part_most (is_in (phase_at c x (reached c seen) n)) (has_later (pass_at c.config (pass_on c x n)) k (calls_on x (history_of c seen))) (steps_left c.config x (phase_at c x (reached c seen) n)) (c.config.bound * service c.config x + 15)
      (λ is. steps_most c.config x (in_range c.config checked).bound.0 (phase_at c x (reached c seen) n) is (λ job at e. sending_on c x (reached c seen) (holds_after c checked x ok seen run) n inside job at e)))
    where
      sum_most : (a o rest six bound one : ℕ) → a ≤ rest + (one + 2) + six → o ≤ bound * one + 15 → a + o ≤ rest + six + (bound + 1) * one + 17
      sum_most a o rest six bound one p q = omega (arith, p, q)

  pub not_in_call : (seen : List Move) (rounds : List (List Move)) → IsRun c (moves_in rounds ++ seen) → Few c checked x ok k seen → AreRounds (IsAmong c x k) c x seen rounds → most_rounds c x (k - answers_after c x seen) ≤ length rounds → IsAmong c x k (reached c (moves_in rounds ++ seen)) n → ⊥
  not_in_call seen rounds run few fair many among =
      let some : 0 < own (reached c (moves_in rounds ++ seen)) = own_some (reached c (moves_in rounds ++ seen)) among in
      too_many (ahead c x k (reached c (moves_in rounds ++ seen))) (own (reached c (moves_in rounds ++ seen))) (length rounds) (total (reached c seen)) (most_rounds c x (k - answers_after c x seen)) some
      (over_rounds c x (IsAmong c x k) total (λ moves. 0 < own (reached c moves)) seen (in_call_falls seen few) rounds run fair some) (total_most seen (prefixes_begin c (moves_in rounds) seen run).0 few) many
    where
      too_many : (a o m t most : ℕ) → 0 < o → a + o + m ≤ t → t ≤ most → most ≤ m → ⊥
      too_many a o m t most some le few2 many2 = absurd (omega (arith, some, le, few2, many2))

  -- ---- waiting

  -- a pass that waits at the end of a round has done no more than enter
  wait_falls : (seen now : List Move) → IsRun c (now ++ seen) → Few c checked x ok k seen → IsRound (IsAmong c x k) c x seen now → steps_left c.config x Phase.ReadState ≤ own (reached c (now ++ seen)) → ahead c x k (reached c (now ++ seen)) < ahead c x k (reached c seen)
  wait_falls seen now run few fair enough =
      let s : State = reached c seen in
      let w : Holds c x (reached c seen) = holds_after c checked x ok seen (prefixes_begin c now seen run).0 in
      let low : steps_left c.config x Phase.ReadState ≤ own (reached c seen) = own_back now seen run few (steps_left c.config x Phase.ReadState) enough in
      let among : IsAmong c x k (reached c seen) n = some_own (reached c seen) (positive (own (reached c seen)) _ low) in
      let is : own (reached c seen) ≡ steps_left c.config x (phase_at c x (reached c seen) n) = own_is (reached c seen) among in
      elim (still_waits c.config x (in_range c.config checked).bound.0 (phase_at c x (reached c seen) n) (both_true (is_in (phase_at c x (reached c seen) n)) _ among).0 (λ job at e. sending_on c x (reached c seen) w n inside job at e) (subst (λ (z : ℕ). steps_left c.config x Phase.ReadState ≤ z) is low)) [
        | inr enters ↦ turn_falls c checked x ok k seen now run few fair n inside (enters_back c x k (reached c seen) n (phase_at c x (reached c seen) n) enters among)
        | inl reads ↦ elim (waits_or (reached c seen) x ((reached c seen).stand (pass_on c x n))) [
          | inl waits ↦ waiting_falls seen now run few fair among waits
          | inr goes_on ↦ absurd (not_less (steps_left c.config x Phase.ReadState) (own (reached c (now ++ seen))) (own (reached c seen)) enough (own_round seen now run few fair (among, goes_on)) (is ∙ ap (steps_left c.config x) reads))
        ]
      ]
    where
      positive : (a v : ℕ) → v + 9 ≤ a → 0 < a
      positive a v p = omega (arith, p)

      not_less : (r b a : ℕ) → r ≤ b → b < a → a ≡ r → ⊥
      not_less r b a p q e = absurd (omega (arith, p, q, e))

  waits_fall : (seen : List Move) → Few c checked x ok k seen → FallsInRounds c x (IsAmong c x k) (ahead c x k) (λ moves. steps_left c.config x Phase.ReadState ≤ own (reached c moves)) seen
  waits_fall seen few = record {
    back = λ later earlier run enough. own_back later (earlier ++ seen) run (few_later c checked x ok k earlier seen (prefixes_begin c later (earlier ++ seen) run).0 few) (steps_left c.config x Phase.ReadState) enough;
    falls = λ now earlier run fair enough. wait_falls (earlier ++ seen) now run (few_later c checked x ok k earlier seen (prefixes_begin c now (earlier ++ seen) run).0 few) fair enough;
  }

  pub waits_few : (seen : List Move) (rounds : List (List Move)) → IsRun c (moves_in rounds ++ seen) → Few c checked x ok k seen → AreRounds (IsAmong c x k) c x seen rounds →
      IsAmong c x k (reached c (moves_in rounds ++ seen)) n → phase_at c x (reached c (moves_in rounds ++ seen)) n ≡ Phase.ReadState → length rounds ≤ ahead c x k (reached c seen)
  waits_few seen rounds run few fair among reads =
      at_most (ahead c x k (reached c (moves_in rounds ++ seen))) (length rounds) (ahead c x k (reached c seen))
      (over_rounds c x (IsAmong c x k) (ahead c x k) (λ moves. steps_left c.config x Phase.ReadState ≤ own (reached c moves)) seen (waits_fall seen few) rounds run fair
      (le_of (steps_left c.config x Phase.ReadState) (own (reached c (moves_in rounds ++ seen))) (own_is (reached c (moves_in rounds ++ seen)) among ∙ ap (steps_left c.config x) reads)))
    where
      at_most : (a m t : ℕ) → a + m ≤ t → m ≤ t
      at_most a m t p = omega (arith, p)

      le_of : (r v : ℕ) → v ≡ r → r ≤ v
      le_of r v e = omega (arith, e)

pub waits_are_short : WaitsAreShort
waits_are_short c seen rounds checked run x ok k few fair n inside among waits = waits_few c checked x ok k n inside seen rounds run few fair among waits.0

pub calls_are_served : CallsAreServed
calls_are_served c seen rounds checked run x ok k few fair many =
    let nobody : (n : ℕ) → n < members c x → IsAmong c x k (reached c (moves_in rounds ++ seen)) n → ⊥ = λ n inside among. not_in_call c checked x ok k n inside seen rounds run few fair many among in
    record { answered = all_answered c x (reached c (moves_in rounds ++ seen)) (holds_after c checked x ok (moves_in rounds ++ seen) run) k (few_later c checked x ok k (moves_in rounds) seen run few) nobody; ended = nobody }
