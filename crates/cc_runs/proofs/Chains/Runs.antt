-- The facts of a chain after every run.
use Rattle.std.proofs.Common.{◌≡◌, ◌≢◌, ◌⊎◌, ℕ, ◌<◌, ◌≤◌, refl, ap, sym, subst, arith, inl, inr, List, [], ◌∷◌}
use Rattle.cc_runs.specs.Names.{Call, Setting, Chain, Stand, Phase, Event, Move}
use Rattle.cc_runs.specs.State.{State, chain_of}
use Rattle.cc_runs.specs.Lines.{event_at}
use Rattle.cc_runs.specs.Step.{stepped_from, stepped}
use Rattle.cc_runs.specs.Run.{May, IsRun, IsOn as CanBeOn, IsIdle, IsFinished, begins, rests, begun_after, number_of, reached, moved}
use Rattle.cc_runs.proofs.Chains.View.{pass_on, post_of, out}
use Rattle.cc_runs.proofs.Chains.Registers.{IsChain}
use Rattle.cc_runs.proofs.Chains.Ties.{Holds}
use Rattle.cc_runs.proofs.Chains.Own as own
use Rattle.cc_runs.proofs.Chains.Others.{IsOn, IsOff, which, other_step, other_put, own_put, put_there}
use Rattle.cc_runs.proofs.Chains.Opening.{opened}

idle_is : (at : Phase) → IsIdle at → at ≡ Phase.Idle
idle_is at a = grind arith

finished_post : (x : Chain) (node : ℕ) (at : Phase) → IsFinished at → post_of x node at ≡ out 0 node
finished_post x node at a = grind arith

number_in : (call : Call) (begun limit : ℕ) → begun_after call begun ≤ limit → number_of call begun ≤ limit
number_in call begun limit less = grind arith

module _ (c : Setting) (x : Chain) (ok : IsChain c x) (some : 0 < c.config.bound) (s : State) (w : Holds c x s) where
  step_own : (p : ℕ) → IsOn c x p → event_at (s.stand p).phase ≢ Event.Idle → Holds c x (stepped c s p)
  step_own p on busy =
      let there : event_at (s.stand (pass_on c x on.number)).phase ≢ Event.Idle = subst (λ (z : ℕ). event_at (s.stand z).phase ≢ Event.Idle) on.pass_is busy in
      let at : Stand = s.stand (pass_on c x on.number) in
      let here : Holds c x (stepped_from c s x (pass_on c x on.number) (s.stand (pass_on c x on.number))) = own.step c some s on.number at.begun at.node x ok on.inside w at.phase refl there in
      subst (λ (y : Chain). Holds c x (stepped_from c s y p (s.stand p))) (sym on.chain_is) (subst (λ (z : ℕ). Holds c x (stepped_from c s x z (s.stand z))) (sym on.pass_is) here)

  step_keeps : (p : ℕ) → IsOn c x p ⊎ IsOff c x p → event_at (s.stand p).phase ≢ Event.Idle → Holds c x (stepped c s p)
  step_keeps p (inl on) busy = step_own p on busy
  step_keeps p (inr off) busy = other_step c x (chain_of c.config p) off.other s p (s.stand p) off.away w

  begin_own : (n : ℕ) (call : Call) (known : ℕ) → CanBeOn c.served x call → IsIdle (s.stand (pass_on c x n)).phase → begun_after call (s.stand (pass_on c x n)).begun ≤ c.config.per_sender →
      Holds c x (put_there s (pass_on c x n) (begins c.config (pass_on c x n) call known (s.stand (pass_on c x n))))
  begin_own n call known can idle limit =
      own_put c x s n (begins c.config (pass_on c x n) call known (s.stand (pass_on c x n))) w (sym (ap (λ (z : Phase). post_of x (s.stand (pass_on c x n)).node z) (idle_is (s.stand (pass_on c x n)).phase idle)))
      record {
        onward = omega arith;
        call = record { pass_is = refl; on = can; number_in = number_in call (s.stand (pass_on c x n)).begun c.config.per_sender limit };
        read = tt;
        ended = λ f. absurd f;
        serves = λ a. tt;
        keep = λ q ne a. (a, refl);
      }

  begin_keeps : (p : ℕ) (call : Call) (known : ℕ) → IsOn c x p ⊎ IsOff c x p → CanBeOn c.served (chain_of c.config p) call → IsIdle (s.stand p).phase → begun_after call (s.stand p).begun ≤ c.config.per_sender →
      Holds c x (put_there s p (begins c.config p call known (s.stand p)))
  begin_keeps p call known (inl on) can idle limit =
      subst (λ (z : ℕ). Holds c x (put_there s z (begins c.config z call known (s.stand z)))) (sym on.pass_is)
      (begin_own on.number call known (subst (λ (y : Chain). CanBeOn c.served y call) on.chain_is can) (subst (λ (z : ℕ). IsIdle (s.stand z).phase) on.pass_is idle)
      (subst (λ (z : ℕ). begun_after call (s.stand z).begun ≤ c.config.per_sender) on.pass_is limit))
  begin_keeps p call known (inr off) can idle limit = other_put c x s p (begins c.config p call known (s.stand p)) off.away w

  take_own : (n : ℕ) → IsFinished (s.stand (pass_on c x n)).phase → Holds c x (put_there s (pass_on c x n) (rests (s.stand (pass_on c x n))))
  take_own n finished =
      own_put c x s n (rests (s.stand (pass_on c x n))) w (sym (finished_post x (s.stand (pass_on c x n)).node (s.stand (pass_on c x n)).phase finished))
      record { onward = omega arith; call = tt; read = tt; ended = λ f. absurd f; serves = λ a. tt; keep = λ q ne a. (a, refl) }

  take_keeps : (p : ℕ) → IsOn c x p ⊎ IsOff c x p → IsFinished (s.stand p).phase → Holds c x (put_there s p (rests (s.stand p)))
  take_keeps p (inl on) finished = subst (λ (z : ℕ). Holds c x (put_there s z (rests (s.stand z)))) (sym on.pass_is) (take_own on.number (subst (λ (z : ℕ). IsFinished (s.stand z).phase) on.pass_is finished))
  take_keeps p (inr off) finished = other_put c x s p (rests (s.stand p)) off.away w

  pub move_keeps : (m : Move) → May c s m → Holds c x (moved c s m)
  move_keeps (Move.Begin p call known) may = begin_keeps p call known (which c x ok p may.0) may.1 may.2 may.3
  move_keeps (Move.Step p) may = step_keeps p (which c x ok p may.0) may.1
  move_keeps (Move.Take p) may = take_keeps p (which c x ok p may.0) may.1

-- the chain after every run
pub chain_holds : (c : Setting) (x : Chain) → IsChain c x → 0 < c.config.bound → (moves : List Move) → IsRun c moves → Holds c x (reached c moves)
chain_holds c x ok some [] run = opened c x ok
chain_holds c x ok some (m ∷ earlier) run = move_keeps c x ok some (reached c earlier) (chain_holds c x ok some earlier run.0) m run.1
