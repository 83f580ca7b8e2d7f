-- Each call that the history has of a pass out of its chain has its answer.
use Rattle.std.proofs.Common.{◌≡◌, ℕ, ◌<◌, ◌≤◌, Bool, true, ap, sym, ◌∙◌, subst, arith, inl, inr, length}
use Rattle.std.specs.List.{AllByRecursion}
use Rattle.std.proofs.lemmas.Bool.{cases_lt, cases_eq, true≢false}
use Rattle.cc_model.specs.Items.{HasAnswer, is_pass, calls_of}
use Rattle.cc_runs.specs.Names.{Pass, Entry, Setting, Chain}
use Rattle.cc_runs.specs.State.{State, chain_of, pass_at}
use Rattle.cc_runs.specs.Run.{reached}
use Rattle.cc_runs.specs.ChainLaws.{CallsEndAnswered}
use Rattle.cc_runs.proofs.Ranges.{InRange, in_range}
use Rattle.cc_runs.proofs.ChainLaws.{out_rank}
use Rattle.cc_runs.proofs.ChainRuns.{not_other}
use Rattle.cc_runs.proofs.Chains.View.{members, pass_on, post_at}
use Rattle.cc_runs.proofs.Chains.Registers.{calls_on, answers_on, call_at}
use Rattle.cc_runs.proofs.Chains.Ties.{ghost_of, Holds}
use Rattle.cc_runs.proofs.Chains.Last.{chosen, all_chosen}
use Rattle.cc_runs.proofs.Chains.Others.{IsOn}
use Rattle.cc_runs.proofs.Chains.Serving.{Chains, chains_hold, chain_is, on_chain}
use Rattle.cc_runs.proofs.Chains.ReadAnswers.{NotOther, named, name_is, other_name, calls_one}

-- pass n of the chain, out of it: the calls that aren't marked are of passes in the chain
module _ (c : Setting) (x : Chain) (s : State) (w : Holds c x s) (n : ℕ) (out : (post_at x (s.stand (pass_on c x n))).rank ≤ 2) where
  abbrev is_its : Entry → Bool
  is_its e = is_pass (named c x n) e.pass

  pub marked : (j : ℕ) → j < length (calls_on x s.history) → is_its (call_at (calls_on x s.history) j) ≡ true → j < (ghost_of w).marked
  marked j less is = elim (cases_lt j (ghost_of w).marked) [
    | inl before ↦ before
    | inr late ↦
        let below : j < (ghost_of w).calls = omega (arith, less) in
        let rank : 3 ≤ (post_at x (s.stand (pass_on c x ((ghost_of w).pass_of j)))).rank = w.inv.calls.open_low j (omega (arith, late)) below in
        let theirs : is_its (call_at (calls_on x s.history) j) ≡ is_pass (named c x n) (named c x ((ghost_of w).pass_of j)) = ap (is_pass (named c x n)) ((w.ties.entered j below).pass_is ∙ name_is c x ((ghost_of w).pass_of j) (w.ties.pass_in j below)) in
        absurd (elim (cases_eq ((ghost_of w).pass_of j) n) [
          | inl same ↦ let low : 3 ≤ (post_at x (s.stand (pass_on c x n))).rank = subst (λ (q : ℕ). 3 ≤ (post_at x (s.stand (pass_on c x q))).rank) same rank in omega (arith, low, out)
          | inr ne ↦ true≢false (sym is ∙ theirs ∙ other_name c x n ((ghost_of w).pass_of j) ne)
        ])
  ]

  early : (j : ℕ) → j < length (calls_on x s.history) → is_its (call_at (calls_on x s.history) j) ≡ true → j < length (answers_on x s.history)
  early j less is = omega (arith, marked j less is, w.inv.calls.in_order)

  all_answered : n < members c x → NotOther c x s.history → AllByRecursion HasAnswer (calls_of (pass_at c.config (pass_on c x n)) s.history)
  all_answered inside none =
      let are : calls_of (pass_at c.config (pass_on c x n)) s.history ≡ chosen is_its (calls_on x s.history) (answers_on x s.history) = ap (λ (z : Pass). calls_of z s.history) (name_is c x n inside) ∙ calls_one c x s.history n inside none in
      subst (AllByRecursion HasAnswer) (sym are) (all_chosen HasAnswer is_its (calls_on x s.history) (answers_on x s.history) (λ j less inside its. tt) (λ j less out its. absurd (omega (arith, out, early j less its))))

pub calls_end : CallsEndAnswered
calls_end c checked moves run p less out =
    let r : InRange c.config = in_range c.config checked in
    let x : Chain = chain_of c.config p in
    let s : State = reached c moves in
    let k : Chains c s = chains_hold c r.bound.0 moves run in
    let on : IsOn c x p = on_chain c p less in
    let low : (post_at x (s.stand (pass_on c x on.number))).rank ≤ 2 = subst (λ (q : ℕ). (post_at x (s.stand q)).rank ≤ 2) on.pass_is (out_rank x (s.stand p).node (s.stand p).phase out) in
    subst (λ (q : ℕ). AllByRecursion HasAnswer (calls_of (pass_at c.config q) s.history)) (sym on.pass_is) (all_answered c x s (k.holds x (chain_is c p less)) on.number low on.inside (not_other c r.bound.0 moves run x))
