-- A row of exact queues whose items are let in by the rules is one queue with the bound.
use Rattle.std.proofs.Common.{◌≡◌, ℕ, ◌-◌, ◌≤◌, List, [], ◌∷◌, map, length, refl, sym, ap, subst, arith}
use Rattle.cc_model.specs.Record.{Record}
use Rattle.cc_model.specs.Items.{handed, handed_to_all}
use Rattle.cc_runs.proofs.LinkedList.Sides.{smallest, smallest_least, smallest_is}
use Rattle.cc_runs.proofs.ListRuns.Least.{least_of_groups}
use Rattle.cc_runs.proofs.Linear.Replay.{replay_groups}
use Rattle.cc_row.specs.Names.{Config}
use Rattle.cc_model.specs.Sequential.{Exactly}
use Rattle.cc_row.specs.Row.{At, items_at, shut_at, taken_at, StartsLate, IsRow}
use Rattle.cc_row.specs.Queues.{AtQueue, AreApart, only, group_on, seen, InOrder}
use Rattle.cc_row.specs.OneQueue.{own_name}
use Rattle.cc_row.specs.Bound.{at_queues, IsSlowest, IsLetIn, IsFullRow, IsBoundedRow}
use Rattle.cc_row.specs.BoundQueues.{RowEffect, effects_in, calls_in, AreLetIn, AreAlike, BoundedQueuesAreOne}
use Rattle.cc_row.proofs.Exact.{Same, Exact, after, exact_before, exact_now, same, exactly_at, chain}
use Rattle.cc_row.proofs.Chains.{chains_are_rows}
use Rattle.cc_row.proofs.Bound.{bounded_rows}

pub shown_is : (order : List RowEffect) → at_queues (calls_in order) ≡ map (seen own_name) (effects_in order)
shown_is [] = refl
shown_is (RowEffect.At e ∷ earlier) = ap (λ (l : List At). seen own_name e ∷ l) (shown_is earlier)
shown_is (RowEffect.Refused s n body ∷ earlier) = shown_is earlier

pub long : (l : List RowEffect) → length (calls_in l) ≡ length l
long [] = refl
long (RowEffect.At e ∷ l) = omega (arith, long l)
long (RowEffect.Refused s n body ∷ l) = omega (arith, long l)

module _ (cfg : ℕ → Config) (one : Config) (alike : AreAlike cfg one) where
  apart : AreApart cfg own_name
  apart q g h in_g in_h is = is

  -- what all groups were handed is what the slowest took
  slowest_is : (q : ℕ) (h : Record) (o : List At) → length h.takes ≡ (cfg q).groups → Same own_name q (cfg q).groups h o → IsSlowest one.groups (λ g. taken_at q g o) (handed_to_all h)
  slowest_is q h o many state =
      let m : ℕ = one.groups - 1 in
      let each : ℕ → ℕ = λ g. length (handed h g) in
      let least : smallest m each ≡ handed_to_all h = least_of_groups h m each (omega (arith, many, alike.groups q, alike.some)) (λ y. refl) in
      let is : (k : ℕ) × (k ≤ m) × (each k ≡ smallest m each) = smallest_is m each in
      record {
        least = λ g inside. omega (arith, least, smallest_least m each g (omega (arith, inside)), state.taken g (omega (arith, inside, alike.groups q)));
        group = is.0;
        inside = omega (arith, is.1, alike.some);
        is = omega (arith, least, is.2, state.taken is.0 (omega (arith, is.1, alike.groups q, alike.some)));
      }

  pub bounded : (last : ℕ) (order : List RowEffect) → Exact cfg (effects_in order) → InOrder own_name last (effects_in order) → AreLetIn one.groups one.capacity last order → IsBoundedRow cfg one.groups one.capacity last (calls_in order)
  bounded last [] exact orderly lets = tt
  bounded last (RowEffect.Refused s n body ∷ earlier) exact orderly lets = (bounded last earlier exact orderly lets.0, subst (λ (l : List At). IsFullRow one.groups one.capacity last l) (sym (shown_is earlier)) lets.1)
  bounded last (RowEffect.At e ∷ earlier) exact orderly lets =
      let order : List AtQueue = effects_in earlier in
      let o : List At = map (seen own_name) order in
      let before : Exact cfg order = exact_before cfg e order exact in
      let now = exact_now cfg e order exact in
      let row : IsRow cfg last (map (seen own_name) (e ∷ order)) = chains_are_rows cfg last (map (seen own_name) (e ∷ order)) (chain cfg own_name apart last (e ∷ order) exact orderly) in
      let state : Same own_name e.at (cfg e.at).groups (after cfg e.at order) o = same cfg own_name apart order before e.at in
      subst (λ (l : List At). IsBoundedRow cfg one.groups one.capacity last (calls_in earlier) × (e.at ≤ last) × StartsLate e.at (group_on own_name e.at e.effect.chain) e.effect.entry.call l × IsLetIn one.groups one.capacity last e.at e.effect.answer l
      × ((all : ℕ) × IsSlowest one.groups (λ g. taken_at e.at g l) all × Exactly (cfg e.at) (items_at e.at l) (shut_at e.at l) (taken_at e.at (group_on own_name e.at e.effect.chain) l) all e.effect.entry.call e.effect.answer)) (sym (shown_is earlier)) (
        bounded last earlier before orderly.0 lets.0,
        orderly.1,
        row.2,
        lets.1,
        (
          handed_to_all (after cfg e.at order),
          slowest_is e.at (after cfg e.at order) o (replay_groups (cfg e.at).groups (only e.at order)) state,
          exactly_at cfg own_name apart e.at (after cfg e.at order) o state e.effect.chain e.effect.entry e.effect.answer now.1 now.2 now.3,
        ),
      )

pub bounded_queues : BoundedQueuesAreOne
bounded_queues cfg one last order alike exact orderly lets life =
    bounded_rows cfg one one.groups last (calls_in order) alike.capacity (bounded cfg one alike last order exact orderly lets) (omega (arith, long order, life))
