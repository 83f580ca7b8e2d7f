-- The threads of the small run keep the rules.
use Rattle.std.proofs.Common.{◌≡◌, ◌≢◌, ℕ, zero, suc, List, [], ◌∷◌, refl, sym, ap, subst, ◌∙◌, arith}
use Rattle.cc_model.specs.Body.{body_of}
use Rattle.cc_runs.specs.State.{State}
use Rattle.cc_runs.specs.Run.{IsIdle, reached, moved}
use Rattle.cc_runs.specs.Passes.{pass_of}
use Rattle.cc_runs.specs.declared.phase.Phase.{Phase}
use Rattle.cc_runs.proofs.Chains.Frame.{hold_here, hold_apart}
use Rattle.cc_row.specs.Names.{Call, Move, Setting}
use Rattle.cc_row.specs.Runs.{RowMove}
use Rattle.cc_row.specs.SmallRun.{queues, steps, makes, sends, takes}
use Rattle.cc_row.specs.Threads.{Role, RowEvent, moves_of, moves_there, HasFound, KeepRules}
use Rattle.cc_row.specs.SmallThreads.{small_row, with_moves, takes_first, sends_second, fills_first, small_threads, SmallThreads}
use Rattle.cc_row.proofs.Merge.{moves_here, moves_else}
use Rattle.cc_row.proofs.SmallRun.{all_runs}
use Rattle.cc_row.proofs.Threads.{idle_first}

-- ---- what other passes don't see

stands_still : (c : Setting) (s : State) (m : Move) (y : ℕ) → y ≢ pass_of m → (moved c s m).stand y ≡ s.stand y
stands_still c s (Move.Begin p call known) y ne = hold_apart s.stand p y _ ne
stands_still c s (Move.Step p) y ne = hold_apart s.stand p y _ ne
stands_still c s (Move.Take p) y ne = hold_apart s.stand p y _ ne

abbrev state_at : ℕ → List RowEvent → State
state_at q events = reached (queues q) (moves_there q events)

-- a move of this pass of this queue
record IsOf (q p : ℕ) (m : RowMove) : Type 0 where
  at : m.at ≡ q
  by : pass_of m.move ≡ p

-- another pass stands as it did
apart : (q p : ℕ) (m : RowMove) (earlier : List RowEvent) → IsOf q p m → (x y : ℕ) → (x ≡ q → y ≡ p → ⊥) → (state_at x (RowEvent.Moves m ∷ earlier)).stand y ≡ (state_at x earlier).stand y
apart q p m earlier of x y other = grind (arith, moves_here, stands_still, of.at, of.by, moves_else)

steps_apart : (q p n : ℕ) (l : List RowMove) (earlier : List RowEvent) (x y : ℕ) → (x ≡ q → y ≡ p → ⊥) → (state_at x (with_moves (steps q p n l) earlier)).stand y ≡ (state_at x (with_moves l earlier)).stand y
steps_apart q p zero l earlier x y other = refl
steps_apart q p (suc n) l earlier x y other =
    apart q p (record { at = q; move = Move.Step p }) (with_moves (steps q p n l) earlier) (record { at = refl; by = refl }) x y other ∙ steps_apart q p n l earlier x y other

-- ---- all passes are at rest

abbrev AllRest : List RowEvent → Type 0
AllRest events = (x y : ℕ) → IsIdle ((state_at x events).stand y).phase

makes_rest : (q p : ℕ) (call : Call) (n : ℕ) (l : List RowMove) (earlier : List RowEvent) → AllRest (with_moves l earlier) → AllRest (with_moves (makes q p call n l) earlier)
makes_rest q p call n l earlier rest x y = grind (arith, taken, away)
  where
    taken : IsIdle ((state_at q (with_moves (makes q p call n l) earlier)).stand p).phase
    taken =
        subst (λ (z : List Move). IsIdle ((reached (queues q) z).stand p).phase) (sym (moves_here (record { at = q; move = Move.Take p }) (moves_of (with_moves (steps q p n (record { at = q; move = Move.Begin p call 0 } ∷ l)) earlier)) q refl))
        (subst (λ (z : Phase). IsIdle z) (sym (ap (λ z. z.phase) (hold_here (state_at q (with_moves (steps q p n (record { at = q; move = Move.Begin p call 0 } ∷ l)) earlier)).stand p _))) tt)

    away : (x ≡ q → y ≡ p → ⊥) → IsIdle ((state_at x (with_moves (makes q p call n l) earlier)).stand y).phase
    away other = subst (λ (z : Phase). IsIdle z)
        (sym (ap (λ z. z.phase) (apart q p (record { at = q; move = Move.Take p }) (with_moves (steps q p n (record { at = q; move = Move.Begin p call 0 } ∷ l)) earlier) (record { at = refl; by = refl }) x y other
        ∙ steps_apart q p n (record { at = q; move = Move.Begin p call 0 } ∷ l) earlier x y other
        ∙ apart q p (record { at = q; move = Move.Begin p call 0 }) (with_moves l earlier) (record { at = refl; by = refl }) x y other))) (rest x y)

-- ---- the rules

steps_keep : (q p n : ℕ) (l : List RowMove) (earlier : List RowEvent) → KeepRules small_row (with_moves l earlier) → KeepRules small_row (with_moves (steps q p n l) earlier)
steps_keep q p zero l earlier rules = rules
steps_keep q p (suc n) l earlier rules = (steps_keep q p n l earlier rules, tt)

makes_keep : (q p : ℕ) (call : Call) (n : ℕ) (l : List RowMove) (earlier : List RowEvent) → HasFound small_row q p (with_moves l earlier) → KeepRules small_row (with_moves l earlier) → KeepRules small_row (with_moves (makes q p call n l) earlier)
makes_keep q p call n l earlier found rules = (steps_keep q p n (record { at = q; move = Move.Begin p call 0 } ∷ l) earlier (rules, found), tt)

still_found : (q p : ℕ) (l : List RowMove) (earlier : List RowEvent) → HasFound small_row q p earlier → HasFound small_row q p (with_moves l earlier)
still_found q p [] earlier found = found
still_found q p (m ∷ l) earlier found = let has : HasFound small_row q p (with_moves l earlier) = still_found q p l earlier found in record { role = has.role; serves = has.serves; looks = has.looks }

-- what is known after some events
pub record Fine (events : List RowEvent) : Type 0 where
  pub rules : KeepRules small_row events
  pub rest : AllRest events

-- one call more, of a thread that has found its queue
pub one_more : (q p : ℕ) (call : Call) (n : ℕ) (l : List RowMove) (earlier : List RowEvent) → HasFound small_row q p earlier → Fine (with_moves l earlier) → Fine (with_moves (makes q p call n l) earlier)
one_more q p call n l earlier found fine = record { rules = makes_keep q p call n l earlier (still_found q p l earlier found) fine.rules; rest = makes_rest q p call n l earlier fine.rest }

pub looks : (seat : ℕ) (role : Role) (earlier : List RowEvent) → Fine earlier → Fine (RowEvent.Looks seat role ∷ earlier)
looks seat role earlier fine = record { rules = (fine.rules, λ q p is. fine.rest q p); rest = fine.rest }

pub leaves : (seat : ℕ) (earlier : List RowEvent) → Fine earlier → Fine (RowEvent.Leaves seat ∷ earlier)
leaves seat earlier fine = record { rules = (fine.rules, λ q p is. fine.rest q p); rest = fine.rest }

abbrev pub seven : Call
seven = Call.Send (body_of (7 ∷ []))

pub filled : Fine fills_first
filled =
    let found : HasFound small_row 0 0 (RowEvent.Looks 0 Role.Sends ∷ []) = record { role = Role.Sends; serves = tt; looks = refl } in
    one_more 0 0 Call.Close 20 (sends 0 19 (sends 0 27 [])) (RowEvent.Looks 0 Role.Sends ∷ []) found (one_more 0 0 seven 19 (sends 0 27 []) (RowEvent.Looks 0 Role.Sends ∷ []) found (one_more 0 0 seven 27 [] (RowEvent.Looks 0 Role.Sends ∷ []) found
    (looks 0 Role.Sends [] record { rules = tt; rest = λ q p. idle_first (queues q) p })))

appended : Fine (RowEvent.Appends ∷ RowEvent.Leaves 0 ∷ fills_first)
appended = record { rules = ((leaves 0 fills_first filled).rules, (refl, refl)); rest = (leaves 0 fills_first filled).rest }

sent : Fine (sends_second fills_first)
sent = leaves 0 (with_moves (sends 1 27 []) (RowEvent.Looks 0 Role.Sends ∷ RowEvent.Appends ∷ RowEvent.Leaves 0 ∷ fills_first)) (one_more 1 0 seven 27 [] (RowEvent.Looks 0 Role.Sends ∷ RowEvent.Appends ∷ RowEvent.Leaves 0 ∷ fills_first) record { role = Role.Sends; serves = tt; looks = refl } (looks 0 Role.Sends (RowEvent.Appends ∷ RowEvent.Leaves 0 ∷ fills_first) appended))

taken : Fine (takes_first (sends_second fills_first))
taken =
    let found : HasFound small_row 0 2 (RowEvent.Looks 2 (Role.Takes 0) ∷ sends_second fills_first) = record { role = Role.Takes 0; serves = refl; looks = refl } in
    one_more 0 2 Call.Take 14 (takes 0 22 []) (RowEvent.Looks 2 (Role.Takes 0) ∷ sends_second fills_first) found (one_more 0 2 Call.Take 22 [] (RowEvent.Looks 2 (Role.Takes 0) ∷ sends_second fills_first) found (looks 2 (Role.Takes 0) (sends_second fills_first) sent))

gone_on : Fine (RowEvent.GoesOn 0 ∷ RowEvent.Leaves 2 ∷ takes_first (sends_second fills_first))
gone_on = record {
  rules = ((leaves 2 (takes_first (sends_second fills_first)) taken).rules, (omega arith, record { group = 0; inside = omega arith; named = refl; ended = refl }));
  rest = (leaves 2 (takes_first (sends_second fills_first)) taken).rest;
}

all_fine : Fine small_threads
all_fine = one_more 1 2 Call.Take 22 [] (RowEvent.Looks 2 (Role.Takes 0) ∷ RowEvent.GoesOn 0 ∷ RowEvent.Leaves 2 ∷ takes_first (sends_second fills_first)) record { role = Role.Takes 0; serves = refl; looks = refl } (looks 2 (Role.Takes 0) (RowEvent.GoesOn 0 ∷ RowEvent.Leaves 2 ∷ takes_first (sends_second fills_first)) gone_on)

pub small_threads_are : SmallThreads
small_threads_are = record {
  kept = record {
    serves = λ q. refl;
    checked = λ q. refl;
    apart = λ q g h in_g in_h is. is;
    runs = all_runs;
    rules = all_fine.rules;
  };
  moves = refl;
  is_open = refl;
}
