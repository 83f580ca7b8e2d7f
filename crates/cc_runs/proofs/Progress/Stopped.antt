-- Passes that stop in their calls: they stop no call before these, and from their turn on those behind.
use Rattle.std.proofs.Common.{◌≡◌, ◌≢◌, ℕ, ◌+◌, ◌<◌, ◌≤◌, Bool, true, false, List, [], ◌∷◌, ◌++◌, length, Ok, refl, ap, subst, arith, append_assoc, inl, inr, zero, suc, sym, ◌∙◌}
use Rattle.std.proofs.lemmas.Bool.{cases_eq, eqb-false}
use Rattle.cc_model.specs.Config.{config_fault}
use Rattle.cc_runs.specs.Names.{Setting, Chain, Stand, Phase, Move}
use Rattle.cc_runs.specs.State.{State}
use Rattle.cc_runs.specs.Run.{reached, IsRun}
use Rattle.cc_runs.specs.Passes.{pass_of, by}
use Rattle.cc_runs.specs.Turns.{IsAmong, IsTurn}
use Rattle.cc_runs.specs.Ahead.{entering_left}
use Rattle.cc_runs.specs.Progress.{calls_after, answers_after, moves_in, AreRounds, IsAmongOthers, NoneBeforeStops, ThoseBehindStop}
use Rattle.cc_runs.proofs.Passes.{others_move, moved_apart}
use Rattle.cc_runs.proofs.RunPrefixes.{prefixes_begin}
use Rattle.cc_runs.proofs.Chains.View.{members, pass_on, post_of, post_at}
use Rattle.cc_runs.proofs.Chains.Registers.{IsChain, answers_on}
use Rattle.cc_runs.proofs.Chains.Ties.{ghost_of, Holds}
use Rattle.cc_runs.proofs.Progress.Among.{among_at}
use Rattle.cc_runs.proofs.Progress.Combiner.{phase_at}
use Rattle.cc_runs.proofs.Progress.Laws.{holds_after, keeps_answers}
use Rattle.cc_runs.proofs.Progress.Nearer.{turn_among}
use Rattle.cc_runs.proofs.Progress.Rounds.{few_later, nearer, among_back, each_call_is_answered}

-- ---- those before

module _ (c : Setting) (checked : config_fault c.config ≡ Ok tt) (x : Chain) (ok : IsChain c x) (stopped : ℕ → Bool) (k : ℕ) (seen : List Move) (few : k ≤ calls_after c x seen) (none : (n : ℕ) → n < members c x → stopped n ≡ true → IsAmong c x k (reached c seen) n → ⊥) where
  -- a pass that has stopped isn't in one of these calls later either
  rounds_of_all : (rounds : List (List Move)) → IsRun c (moves_in rounds ++ seen) → AreRounds (IsAmongOthers stopped c x k) c x seen rounds → AreRounds (IsAmong c x k) c x seen rounds
  rounds_of_all [] run fair = tt
  rounds_of_all (now ∷ earlier) run fair =
      let before : IsRun c (moves_in earlier ++ seen) = (prefixes_begin c now (moves_in earlier ++ seen) (subst (IsRun c) (append_assoc now (moves_in earlier) seen) run)).0 in
      (rounds_of_all earlier before fair.0, λ n inside among. by_case (stopped n) n refl inside before among (fair.1 n inside))
    where
      by_case : (b : Bool) (n : ℕ) → stopped n ≡ b → n < members c x → IsRun c (moves_in earlier ++ seen) → IsAmong c x k (reached c (moves_in earlier ++ seen)) n → (IsAmongOthers stopped c x k (reached c (moves_in earlier ++ seen)) n → by (pass_on c x n) now ≢ []) → by (pass_on c x n) now ≢ []
      by_case true n is inside before among moves = absurd (none n inside is (among_back c checked x ok k n inside (moves_in earlier) seen before few among))
      by_case false n is inside before among moves = moves (among, is)

pub none_before_stops : NoneBeforeStops
none_before_stops c seen rounds checked run x ok stopped k few none fair many = each_call_is_answered c seen rounds checked run x ok k few (rounds_of_all c checked x ok stopped k seen few none rounds run fair) many

-- ---- those behind

enters_rank : (x : Chain) (own : ℕ) (at : Phase) → 0 < entering_left at → (post_of x own at).rank ≡ 3
enters_rank x own at some = grind arith

-- a call that isn't linked has no answer
unlinked : (c : Setting) (x : Chain) (s : State) (w : Holds c x s) (k n : ℕ) → n < members c x → 0 < entering_left (phase_at c x s n) → IsAmong c x k s n → length (answers_on x s.history) < k
unlinked c x s w k n inside some among =
    let three : (post_at x (s.stand (pass_on c x n))).rank ≡ 3 = enters_rank x (s.stand (pass_on c x n)).node (phase_at c x s n) some in
    let at = among_at c x s w k n inside among in
    let low : (ghost_of w).marked ≤ (ghost_of w).at n = w.inv.passes.early n inside three in
    grind (arith, at.1, w.inv.serving.free_answers, served (pred (ghost_of w).server), is_pred (ghost_of w).server)
  where
    pred : ℕ → ℕ
    pred zero = 0
    pred (suc m) = m

    is_pred : (m : ℕ) → m ≢ 0 → m ≡ pred m + 1
    is_pred zero ne = absurd (ne refl)
    is_pred (suc m) ne = omega arith

    served : (q : ℕ) → (ghost_of w).server ≡ q + 1 → (post_at x (s.stand (pass_on c x n))).rank ≡ 3 → (ghost_of w).at n < k → (ghost_of w).marked ≤ (ghost_of w).at n → length (answers_on x s.history) < k
    served q is three less low = elim (cases_eq (post_at x (s.stand (pass_on c x q))).stage 2) [
      | inr other ↦ omega (arith, less, low, w.inv.serving.undecided q is other)
      | inl two ↦
          let apart : (ghost_of w).at n ≢ (ghost_of w).marked = λ same.
          let its : (ghost_of w).pass_of (ghost_of w).marked ≡ n = ap (ghost_of w).pass_of (sym same) ∙ w.inv.passes.at_is n inside (omega (arith, three)) in
          let linked : 4 ≤ (post_at x (s.stand (pass_on c x n))).rank = subst (λ (z : ℕ). 4 ≤ (post_at x (s.stand (pass_on c x z))).rank) its (w.inv.serving.serving_linked q is (omega (arith, two)) (omega (arith, two))) in
          absurd (omega (arith, three, linked)) in
          omega (arith, less, low, apart, w.inv.serving.decided q is two)
    ]

pub those_behind_stop : ThoseBehindStop
those_behind_stop c later seen checked run x ok k n few inside unanswered turn none = (on later run none).1
  where
    on : (later : List Move) → IsRun c (later ++ seen) → by (pass_on c x n) later ≡ [] → IsTurn c x k (reached c (later ++ seen)) n × (answers_after c x (later ++ seen) < k)
    on [] run none = (turn, unanswered)
    on (m ∷ later) run none =
        let others = others_move (pass_on c x n) m later none in
        let ne : pass_of m ≢ pass_on c x n = eqb-false (pass_of m) (pass_on c x n) others.0 in
        let so_far = on later run.0 others.1 in
        let few2 : k ≤ calls_after c x (later ++ seen) = few_later c checked x ok k later seen run.0 few in
        let turn2 : IsTurn c x k (reached c (m ∷ later ++ seen)) n = (nearer c checked x ok k (later ++ seen) run.0 few2 m run.1).stays n inside ne so_far.0 in (
          turn2,
          elim (cases_eq (entering_left (phase_at c x (reached c (later ++ seen)) n)) 0) [
            | inl no_entry ↦ omega (arith, so_far.1, keeps_answers c (later ++ seen) checked run.0 x ok k few2 m run.1 n inside ne so_far.0 no_entry)
            | inr enters ↦
                let w : Holds c x (reached c (m ∷ later ++ seen)) = holds_after c checked x ok (m ∷ later ++ seen) run in
                let still : entering_left (phase_at c x (reached c (m ∷ later ++ seen)) n) ≡ entering_left (phase_at c x (reached c (later ++ seen)) n) = ap (λ (z : Stand). entering_left z.phase) (moved_apart c (reached c (later ++ seen)) m (pass_on c x n) ne) in
                unlinked c x (reached c (m ∷ later ++ seen)) w k n inside (omega (arith, still, enters)) (turn_among c x k (reached c (m ∷ later ++ seen)) w n inside turn2)
          ],
        )
