-- A row of one queue, and an order of one queue, are the same.
use Rattle.std.proofs.Common.{◌≡◌, ℕ, zero, suc, ◌<◌, ◌≤◌, Bool, List, [], ◌∷◌, map, length, refl, sym, ap, subst, ◌∙◌, arith}
use Rattle.std.specs.List.{AllByRecursion}
use Rattle.cc_model.specs.Record.{Record}
use Rattle.cc_model.specs.Items.{accepted, is_shut, handed, handed_to_all}
use Rattle.cc_model.specs.Sequential.{Exactly}
use Rattle.cc_runs.specs.OnChain.{IsThere}
use Rattle.cc_runs.specs.Linearizable.{Effect, replay, AnswersAfter, IsExact, IsOfChain}
use Rattle.cc_row.specs.Names.{Config, Call, Item, Entry, Answer, Chain}
use Rattle.cc_row.specs.Row.{At, items_at, shut_at, taken_at, StartsNext, IsRow}
use Rattle.cc_row.specs.Queues.{AreApart, only, group_on, seen, InOrder}
use Rattle.cc_row.specs.OneQueue.{alone, own_name, IsMadeThere, OneQueueIsARow}
use Rattle.cc_row.proofs.Exact.{Same, Exact, only_else, same, any_taken, chain}
use Rattle.cc_row.proofs.Chains.{chains_are_rows}
use Rattle.cc_row.proofs.Law.{items_few}

module _ (cfg : Config) where
  abbrev one : ℕ → Config
  one q = cfg

  apart : AreApart one own_name
  apart q g h in_g in_h is = is

  only_zero : (order : List Effect) → only 0 (alone order) ≡ order
  only_zero [] = refl
  only_zero (e ∷ order) = ap (λ (l : List Effect). e ∷ l) (only_zero order)

  only_suc : (q : ℕ) (order : List Effect) → only (suc q) (alone order) ≡ []
  only_suc q [] = refl
  only_suc q (e ∷ order) = only_else one (record { at = 0; effect = e }) (alone order) (suc q) (λ is. omega (arith, is)) ∙ only_suc q order

  exact_alone : (order : List Effect) → IsExact cfg order → Exact one (alone order)
  exact_alone order ok zero = subst (λ (l : List Effect). IsExact cfg l) (sym (only_zero order)) ok
  exact_alone order ok (suc q) = subst (λ (l : List Effect). IsExact cfg l) (sym (only_suc q order)) tt

  abbrev shown : List Effect → List At
  shown order = map (seen own_name) (alone order)

  shown_long : (order : List Effect) → length (shown order) ≡ length order
  shown_long [] = refl
  shown_long (e ∷ order) = ap suc (shown_long order)

  first : (g : ℕ) (call : Call) (o : List At) → StartsNext 0 g call o
  first g call o = grind arith

  orderly : (order : List Effect) → InOrder own_name 0 (alone order)
  orderly [] = tt
  orderly (e ∷ order) = (orderly order, omega arith, first (group_on own_name 0 e.chain) e.entry.call (shown order))

  forth : (order : List Effect) → IsExact cfg order → IsRow one 0 (shown order)
  forth order ok = chains_are_rows one 0 (shown order) (chain one own_name apart 0 (alone order) (exact_alone order ok) (orderly order))

  state : (order : List Effect) → IsExact cfg order → Same own_name 0 cfg.groups (replay cfg.groups order) (shown order)
  state order ok = subst (λ (l : List Effect). Same own_name 0 cfg.groups (replay cfg.groups l) (shown order)) (only_zero order) (same one own_name apart (alone order) (exact_alone order ok) 0)

  -- there is room, whatever all groups took
  any_room : (items : List Item) (shut : Bool) (taken all other : ℕ) (call : Call) (a : Answer) → length items < cfg.capacity → Exactly cfg items shut taken all call a → Exactly cfg items shut taken other call a
  any_room items shut taken all other call a room h = grind arith

  module _ (h : Record) (o : List At) (s : Same own_name 0 cfg.groups h o) (room : length (items_at 0 o) < cfg.capacity) where
    moved : (t u all : ℕ) (call : Call) (a : Answer) → u ≡ t → Exactly cfg (items_at 0 o) (shut_at 0 o) t all call a → Exactly cfg (accepted h) (is_shut h) u (handed_to_all h) call a
    moved t u all call a p e =
        subst (λ (z : Type 0). z) (λ i. Exactly cfg (sym s.items i) (sym s.shut i) (sym p i) (handed_to_all h) call a) (any_room (items_at 0 o) (shut_at 0 o) t all (handed_to_all h) call a room e)

    answers : (x : Chain) (e : Entry) (a : Answer) (all : ℕ) → IsThere cfg x → IsOfChain cfg x e → Exactly cfg (items_at 0 o) (shut_at 0 o) (taken_at 0 (group_on own_name 0 x) o) all e.call a → AnswersAfter cfg h x e.call a
    answers Chain.Send e a all there mine exact =
        moved 0 0 all e.call a refl (any_taken one own_name apart cfg e.pass (items_at 0 o) (shut_at 0 o) (taken_at 0 0 o) 0 all e.call a mine exact)
    answers (Chain.Take g) e a all there mine exact = moved (taken_at 0 g o) (length (handed h g)) all e.call a (s.taken g there) exact

  back : (order : List Effect) → AllByRecursion (IsMadeThere cfg) order → length order ≤ cfg.capacity → IsRow one 0 (shown order) → IsExact cfg order
  back [] made room row = tt
  back (e ∷ order) made room row =
      let ok : IsExact cfg order = back order made.1 (omega (arith, room)) row.0 in
      let few : length (items_at 0 (shown order)) < cfg.capacity = omega (arith, room, items_few 0 (shown order), shown_long order) in
      (ok, made.0.0, made.0.1, answers (replay cfg.groups order) (shown order) (state order ok) few e.chain e.entry e.answer row.3.0 made.0.0 made.0.1 row.3.1)

pub one_queue : OneQueueIsARow
one_queue = record {
  back = λ cfg order made room row. back cfg order made room row;
  forth = λ cfg order ok. forth cfg order ok;
}
