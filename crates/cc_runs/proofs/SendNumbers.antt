-- No call has a greater number than there are sends of one sender.
use Rattle.std.proofs.Common.{◌≡◌, ℕ, zero, suc, ◌≤◌, Bool, true, ◌==◌, cond, refl, sym, subst, arith, nat_lt, Option, Some, None, List, [], ◌∷◌, ◌++◌, get_or, slice_set}
use Rattle.std.specs.List.{AllByRecursion, filter}
use Rattle.cc_model.specs.Record.{Side, Record, silent}
use Rattle.cc_model.proofs.Grows.{all-append}
use Rattle.cc_runs.specs.Names.{Call, Entry, Answer, Setting, Chain, Stand, Phase, Move}
use Rattle.cc_runs.specs.Words.{groups}
use Rattle.cc_runs.specs.State.{State, chain_of, first_node, noted, appended, word_of}
use Rattle.cc_runs.specs.Lines.{operation, goes, enters, decides}
use Rattle.cc_runs.specs.Step.{stepped, advanced}
use Rattle.cc_runs.specs.Run.{IsRun, begins, rests, begun_after, number_of, opening, nowhere, reached, passes}
use Rattle.cc_runs.specs.OnChain.{calls_on}
use Rattle.cc_runs.specs.CallsMade.{to_exchange, NumbersOfSends}
use Rattle.cc_runs.proofs.Chains.Opening.{no_calls}
use Rattle.cc_runs.proofs.CallsMade.{own_step}

-- ---- lists

pub all_split : {X : Type 0} (P : X → Type 0) (xs ys : List X) → AllByRecursion P (xs ++ ys) → AllByRecursion P xs × AllByRecursion P ys
all_split P [] ys all = (tt, all)
all_split P (x ∷ xs) ys all = let rest = all_split P xs ys all.1 in ((all.0, rest.0), rest.1)

all_appended : {X : Type 0} (P : X → Type 0) (xs : List X) (x : Option X) → AllByRecursion P xs → AllByRecursion P (appended [] x) → AllByRecursion P (appended xs x)
all_appended P xs None all new = all
all_appended P xs (Some x) all new = all-append P xs x all new.0

-- each element after one was set is that or an earlier one
set_all : {X : Type 0} (P : X → Type 0) (xs : List X) (y x : ℕ) (new d : X) → P new → P (get_or xs x d) → P (get_or (slice_set xs y new) x d)
set_all P (z ∷ xs) zero zero new d a b = a
set_all P (z ∷ xs) (suc y) (suc x) new d a b = set_all P xs y x new d a b
set_all P _ _ _ new d a b = b

all_kept : (e : Option Entry) → filter (λ (z : Entry). true) (appended [] e) ≡ appended [] e
all_kept e = grind arith

module _ (P : Entry → Type 0) where
  abbrev All : List Entry → Type 0
  All calls = AllByRecursion P calls

  -- the calls of every chain after a note on one
  noted_all : (x y : Chain) (h : Record) (e : Option Entry) (a : Option Answer) → All (appended [] e) → ((z : Chain) → All (calls_on z h)) → All (calls_on y (noted x h e a))
  noted_all Chain.Send Chain.Send h e a new all = all_appended P h.sends.calls e (all Chain.Send) new
  noted_all Chain.Send (Chain.Take g) h e a new all = all (Chain.Take g)
  noted_all (Chain.Take g) Chain.Send h e a new all = all Chain.Send
  noted_all (Chain.Take g) (Chain.Take k) h e a new all = set_all (λ (s : Side). All s.calls) h.takes g k _ silent (all_appended P (calls_on (Chain.Take g) h) e (all (Chain.Take g)) new) (all (Chain.Take k))

  -- a step enters a call that was to exchange, and gives its pass no other
  goes_on : (c : Setting) (x : Chain) (own found : ℕ) (at : Phase) → All (to_exchange at) → All (appended [] (enters at)) × All (to_exchange (goes c x own at found))
  goes_on c x own found at all =
      let is : to_exchange at ≡ filter (λ (z : Entry). true) (appended [] (enters at)) ++ to_exchange (goes c x own at found) = own_step c x own found (λ (z : Entry). true) [] (to_exchange at) at refl (λ e same. refl) in
      let both = all_split P (filter (λ (z : Entry). true) (appended [] (enters at))) (to_exchange (goes c x own at found)) (subst All is all) in
      (subst All (all_kept (enters at)) both.0, both.1)

  either : (b : Bool) (first second : Stand) → All (to_exchange first.phase) → All (to_exchange second.phase) → All (to_exchange (cond b first second).phase)
  either b first second a z = grind arith

-- ---- all runs

-- a begin that a sender may make has such a number
few : (what : Call) (begun most : ℕ) → begun_after what begun ≤ most → number_of what begun ≤ most
few what begun most less = grind arith

module _ (c : Setting) where
  abbrev IsFew : Entry → Type 0
  IsFew e = e.number ≤ c.config.per_sender

  record Few (s : State) : Type 0 where
    coming : (p : ℕ) → AllByRecursion IsFew (to_exchange (s.stand p).phase)
    come : (x : Chain) → AllByRecursion IsFew (calls_on x s.history)

  first : Few (opening c)
  first = record {
    coming = λ p. either IsFew (nat_lt p (passes c)) record { begun = 0; node = first_node c.config p; phase = Phase.Idle } nowhere tt tt;
    come = λ x. subst (λ (z : Side). AllByRecursion IsFew z.calls) (sym (no_calls (groups c.config) x)) tt;
  }

  step : (s : State) (p : ℕ) → Few s → Few (stepped c s p)
  step s p has =
      let at : Stand = s.stand p in
      let found : ℕ = s.mem (word_of (operation c (chain_of c.config p) at.node at.phase)) in
      let on = goes_on IsFew c (chain_of c.config p) at.node found at.phase (has.coming p) in
      record {
        coming = λ q. either IsFew (p == q) (advanced c (chain_of c.config p) at found) (s.stand q) on.1 (has.coming q);
        come = λ y. noted_all IsFew (chain_of c.config p) y s.history (enters at.phase) (decides c at.phase found) on.0 has.come;
      }

  few_after : (moves : List Move) → IsRun c moves → Few (reached c moves)
  few_after [] run = first
  few_after (Move.Begin p what known ∷ earlier) run =
      let has : Few (reached c earlier) = few_after earlier run.0 in
      let s : State = reached c earlier in
      record {
        coming = λ q. either IsFew (p == q) (begins c.config p what known (s.stand p)) (s.stand q) (few what (s.stand p).begun c.config.per_sender run.1.3, tt) (has.coming q);
        come = has.come;
      }
  few_after (Move.Step p ∷ earlier) run = step (reached c earlier) p (few_after earlier run.0)
  few_after (Move.Take p ∷ earlier) run =
      let has : Few (reached c earlier) = few_after earlier run.0 in
      let s : State = reached c earlier in
      record { coming = λ q. either IsFew (p == q) (rests (s.stand p)) (s.stand q) tt (has.coming q); come = has.come }

pub numbers_few : NumbersOfSends
numbers_few c moves run x = (few_after c moves run).come x
