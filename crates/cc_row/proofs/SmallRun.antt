-- The small run of a row is one: each move is looked at in turn, with the states of and_parts queues.
use Rattle.std.proofs.Common.{◌≡◌, ◌≢◌, ℕ, zero, suc, ◌<◌, Bool, true, false, ◌&&◌, ◌||◌, ◌==◌, nat_lt, List, [], ◌∷◌, length, refl, sym, ap, subst, ◌∙◌, arith}
use Rattle.std.proofs.lemmas.Bool.{ltb-true, ne_eqb, and_parts}
use Rattle.std.specs.List.{list_any}
use Rattle.cc_model.specs.Body.{IsBody}
use Rattle.cc_model.specs.Record.{Side}
use Rattle.cc_model.specs.Items.{is_shut}
use Rattle.cc_runs.specs.State.{State, chain_of}
use Rattle.cc_runs.specs.Lines.{event_at}
use Rattle.cc_runs.specs.OnChain.{calls_on, answers_on}
use Rattle.cc_runs.specs.Run.{IsRun, IsOn, IsIdle, IsFinished, May, reached, moved, begun_after}
use Rattle.cc_runs.specs.SmallWaits.{small_list}
use Rattle.cc_runs.specs.declared.phase.Event.{Event}
use Rattle.cc_runs.specs.declared.phase.Phase.{Phase}
use Rattle.cc_runs.proofs.Chains.Opening.{no_calls}
use Rattle.cc_row.specs.Names.{Words, Call, Chain, Move}
use Rattle.cc_row.specs.Row.{ends}
use Rattle.cc_row.specs.OneQueue.{own_name}
use Rattle.cc_row.specs.Runs.{RowMove, moves_at, UsedInOrder, FoundEnded, IsUsed}
use Rattle.cc_row.proofs.Merge.{moves_here, moves_else}
use Rattle.cc_row.specs.SmallRun.{queues, small_run, SmallRun}

-- ---- a move that can be made

abbrev is_body : Words → Bool
is_body (Words.One (a ∷ [])) = true
is_body _ = false

body_is : (w : Words) → is_body w ≡ true → IsBody (record { words = w })
body_is w is = grind arith

-- the calls that can be made on a chain
abbrev may_call : Chain → Call → Bool
may_call Chain.Send (Call.Send body) = is_body body.words
may_call Chain.Send Call.Close = true
may_call (Chain.Take g) Call.Take = true
may_call _ _ = false

call_is_on : (x : Chain) (call : Call) → may_call x call ≡ true → IsOn small_list.served x call
call_is_on Chain.Send (Call.Send body) is = body_is body.words is
call_is_on x call is = grind arith

abbrev idle : Phase → Bool
idle Phase.Idle = true
idle _ = false

is_idle : (at : Phase) → idle at ≡ true → IsIdle at
is_idle at is = grind arith

abbrev finished : Phase → Bool
finished (Phase.Finished told) = true
finished _ = false

is_finished : (at : Phase) → finished at ≡ true → IsFinished at
is_finished at is = grind arith

abbrev has_step : Phase → Bool
has_step Phase.Idle = false
has_step (Phase.Finished told) = false
has_step _ = true

on_event : (at : Phase) → has_step at ≡ true → event_at at ≢ Event.Idle
on_event at is = grind arith

-- of a call that knows nothing
abbrev may : State → Move → Bool
may s (Move.Begin p call zero) = nat_lt p 3 && (may_call (chain_of small_list.config p) call && (idle (s.stand p).phase && nat_lt (begun_after call (s.stand p).begun) 10))
may s (Move.Begin p call (suc known)) = false
may s (Move.Step p) = nat_lt p 3 && has_step (s.stand p).phase
may s (Move.Take p) = nat_lt p 3 && finished (s.stand p).phase

can : (s : State) (m : Move) → may s m ≡ true → May small_list s m
can s (Move.Begin p call zero) is =
    let one = and_parts (nat_lt p 3) _ is in
    let two = and_parts (may_call (chain_of small_list.config p) call) _ one.1 in
    let three = and_parts (idle (s.stand p).phase) _ two.1 in
    (ltb-true p 3 one.0, call_is_on (chain_of small_list.config p) call two.0, is_idle (s.stand p).phase three.0, omega (arith, ltb-true (begun_after call (s.stand p).begun) 10 three.1), omega arith)
can s (Move.Begin p call (suc known)) is = absurd (cc)
can s (Move.Step p) is = let one = and_parts (nat_lt p 3) _ is in (ltb-true p 3 one.0, on_event (s.stand p).phase one.1)
can s (Move.Take p) is = let one = and_parts (nat_lt p 3) _ is in (ltb-true p 3 one.0, is_finished (s.stand p).phase one.1)

-- ---- queues that are used in order

-- the second queue is used after the first was closed, and ended for the receiver
abbrev in_order : State → State → Bool
in_order s t = (length (calls_on Chain.Send t.history) == 0 || is_shut s.history) && (length (calls_on (Chain.Take 0) t.history) == 0 || list_any ends (answers_on (Chain.Take 0) s.history))

or_some : (n : ℕ) (b : Bool) → ((n == 0) || b) ≡ true → 0 < n → b ≡ true
or_some zero b is some = absurd (omega (arith, some))
or_some (suc n) b is some = ap (λ (z : Bool). z || b) (sym (ne_eqb (suc n) 0 (λ e. omega (arith, e)))) ∙ is

none_there : (x : Chain) → length (calls_on x (reached small_list []).history) ≡ 0
none_there x = ap (λ (s : Side). length s.calls) (no_calls 1 x)

-- ---- the run, move by move

-- the states of and_parts queues after a move, and whether it can be made
abbrev pick : {X : Type 0} → ℕ → X → X → X
pick {X} zero a b = a
pick {X} (suc n) a b = b

abbrev first_after : RowMove → State → State
first_after m s = pick m.at (moved small_list s m.move) s

abbrev second_after : RowMove → State → State
second_after m t = pick m.at t (moved small_list t m.move)

abbrev may_at : RowMove → State → State → Bool
may_at m s t = nat_lt m.at 2 && may (pick m.at s t) m.move

-- the oldest move first, from these states of the two queues
abbrev walk : State → State → List RowMove → Bool
walk s t [] = true
walk s t (m ∷ later) = may_at m s t && (in_order (first_after m s) (second_after m t) && walk (first_after m s) (second_after m t) later)

abbrev pub onto : List RowMove → List RowMove → List RowMove
onto [] seen = seen
onto (m ∷ later) seen = onto later (m ∷ seen)

pub record Good (seen : List RowMove) : Type 0 where
  pub first : IsRun small_list (moves_at 0 seen)
  pub second : IsRun small_list (moves_at 1 seen)
  pub others : (q : ℕ) → moves_at (suc (suc q)) seen ≡ []
  pub used : IsUsed queues own_name 1 seen

-- by the moves of and_parts queues
used_by : (m : RowMove) (seen : List RowMove) (a b : List Move) → moves_at 0 (m ∷ seen) ≡ a → moves_at 1 (m ∷ seen) ≡ b → ((q : ℕ) → moves_at (suc (suc q)) (m ∷ seen) ≡ []) → in_order (reached small_list a) (reached small_list b) ≡ true
    → UsedInOrder queues own_name (m ∷ seen)
used_by m seen a b first second others is =
    let two = and_parts (length (calls_on Chain.Send (reached small_list b).history) == 0 || is_shut (reached small_list a).history) _ is in
    record { senders = λ q some. by_senders two.0 q some; takers = λ q g inside some. by_takers two.1 q g inside some }
  where
    by_senders : (length (calls_on Chain.Send (reached small_list b).history) == 0 || is_shut (reached small_list a).history) ≡ true
        → (q : ℕ) → 0 < length (calls_on Chain.Send (reached small_list (moves_at (suc q) (m ∷ seen))).history) → is_shut (reached small_list (moves_at q (m ∷ seen))).history ≡ true
    by_senders so zero some =
        ap (λ (l : List Move). is_shut (reached small_list l).history) first
        ∙ or_some (length (calls_on Chain.Send (reached small_list b).history)) (is_shut (reached small_list a).history) so (subst (λ (l : List Move). 0 < length (calls_on Chain.Send (reached small_list l).history)) second some)
    by_senders so (suc q) some = absurd (omega (arith, some, ap (λ (l : List Move). length (calls_on Chain.Send (reached small_list l).history)) (others q), none_there Chain.Send))

    by_takers : (length (calls_on (Chain.Take 0) (reached small_list b).history) == 0 || list_any ends (answers_on (Chain.Take 0) (reached small_list a).history)) ≡ true
        → (q g : ℕ) → g < 1 → 0 < length (calls_on (Chain.Take g) (reached small_list (moves_at (suc q) (m ∷ seen))).history) → FoundEnded small_list (own_name q) (moves_at q (m ∷ seen)) g
    by_takers so zero zero inside some = record {
      group = 0;
      inside = omega arith;
      named = refl;
      ended = ap (λ (l : List Move). list_any ends (answers_on (Chain.Take 0) (reached small_list l).history)) first
          ∙ or_some (length (calls_on (Chain.Take 0) (reached small_list b).history)) (list_any ends (answers_on (Chain.Take 0) (reached small_list a).history)) so
          (subst (λ (l : List Move). 0 < length (calls_on (Chain.Take 0) (reached small_list l).history)) second some);
    }
    by_takers so (suc q) g inside some = absurd (omega (arith, some, ap (λ (l : List Move). length (calls_on (Chain.Take g) (reached small_list l).history)) (others q), none_there (Chain.Take g)))
    by_takers so zero (suc g) inside some = absurd (omega (arith, inside))

-- after one more move
module _ (m : RowMove) (seen : List RowMove) (good : Good seen) where
  abbrev s : State
  s = reached small_list (moves_at 0 seen)

  abbrev t : State
  t = reached small_list (moves_at 1 seen)

  rest : m.at < 2 → (q : ℕ) → moves_at (suc (suc q)) (m ∷ seen) ≡ []
  rest few q = moves_else m seen (suc (suc q)) (λ e. omega (arith, few, e)) ∙ good.others q

  goes_on : (q : ℕ) → m.at ≡ q → m.at < 2 → may (pick q s t) m.move ≡ true → in_order (pick q (moved small_list s m.move) s) (pick q t (moved small_list t m.move)) ≡ true
      → Good (m ∷ seen) × (reached small_list (moves_at 0 (m ∷ seen)) ≡ pick q (moved small_list s m.move) s) × (reached small_list (moves_at 1 (m ∷ seen)) ≡ pick q t (moved small_list t m.move))
  goes_on zero at few able orderly =
      let here : moves_at 0 (m ∷ seen) ≡ m.move ∷ moves_at 0 seen = moves_here m seen 0 at in
      let there : moves_at 1 (m ∷ seen) ≡ moves_at 1 seen = moves_else m seen 1 (λ e. omega (arith, at, e)) in (
        record {
          first = subst (λ (l : List Move). IsRun small_list l) (sym here) (good.first, can s m.move able);
          second = subst (λ (l : List Move). IsRun small_list l) (sym there) good.second;
          others = rest few;
          used = (good.used, omega (arith, at), used_by m seen (m.move ∷ moves_at 0 seen) (moves_at 1 seen) here there (rest few) orderly);
        },
        ap (reached small_list) here,
        ap (reached small_list) there,
      )
  goes_on (suc zero) at few able orderly =
      let here : moves_at 1 (m ∷ seen) ≡ m.move ∷ moves_at 1 seen = moves_here m seen 1 at in
      let there : moves_at 0 (m ∷ seen) ≡ moves_at 0 seen = moves_else m seen 0 (λ e. omega (arith, at, e)) in (
        record {
          first = subst (λ (l : List Move). IsRun small_list l) (sym there) good.first;
          second = subst (λ (l : List Move). IsRun small_list l) (sym here) (good.second, can t m.move able);
          others = rest few;
          used = (good.used, omega (arith, at), used_by m seen (moves_at 0 seen) (m.move ∷ moves_at 1 seen) there here (rest few) orderly);
        },
        ap (reached small_list) there,
        ap (reached small_list) here,
      )
  goes_on (suc (suc q)) at few able orderly = absurd (omega (arith, at, few))

pub walked : (later seen : List RowMove) → Good seen → walk (reached small_list (moves_at 0 seen)) (reached small_list (moves_at 1 seen)) later ≡ true → Good (onto later seen)
walked [] seen good is = good
walked (m ∷ later) seen good is =
    let one = and_parts (may_at m (reached small_list (moves_at 0 seen)) (reached small_list (moves_at 1 seen))) _ is in
    let few = and_parts (nat_lt m.at 2) _ one.0 in
    let two = and_parts (in_order (first_after m (reached small_list (moves_at 0 seen))) (second_after m (reached small_list (moves_at 1 seen)))) _ one.1 in
    let next = goes_on m seen good m.at refl (ltb-true m.at 2 few.0) few.1 two.0 in
    walked later (m ∷ seen) next.0 ((λ i. walk (next.1 i) (next.2 i) later) ∙ two.1)

-- the small run with its oldest move first
abbrev oldest_first : List RowMove
oldest_first = onto small_run []

it_walks : walk (reached small_list []) (reached small_list []) oldest_first ≡ true
it_walks = refl

good_run : Good small_run
good_run = walked oldest_first [] record { first = tt; second = tt; others = λ q. refl; used = tt } it_walks

pub runs_of : (seen : List RowMove) → Good seen → (q : ℕ) → IsRun small_list (moves_at q seen)
runs_of seen good zero = good.first
runs_of seen good (suc zero) = good.second
runs_of seen good (suc (suc q)) = subst (λ (l : List Move). IsRun small_list l) (sym (good.others q)) tt

pub all_runs : (q : ℕ) → IsRun small_list (moves_at q small_run)
all_runs = runs_of small_run good_run

pub small_run_is : SmallRun
small_run_is = record {
  run = record {
    serves = λ q. refl;
    checked = λ q. refl;
    apart = λ q g h in_g in_h is. is;
    runs = all_runs;
    used = good_run.used;
  };
  first_sends = refl;
  second_sends = refl;
  first_takes = refl;
  second_takes = refl;
}
