-- The chains over every run: the answer that a call gets, and that each step can be done.
use Rattle.std.proofs.lemmas.Bool.{cases_lt}
use Rattle.std.proofs.Common.{◌≡◌, ℕ, ◌^◌, ◌<◌, refl, ap, sym, ◌∙◌, subst, arith, Some, List, [], ◌∷◌, ◌++◌, length, Ok, false, inl, inr}
use Rattle.std.proofs.lemmas.List.{length-replicate, length-set, get_or_past}
use Rattle.cc_model.specs.Record.{Side, Record, silent}
use Rattle.cc_runs.specs.Words.{groups}
use Rattle.cc_model.specs.Items.{is_pass}
use Rattle.cc_model.specs.Config.{config_fault}
use Rattle.cc_runs.specs.Names.{Pass, Answer, SendAnswer, Setting, Served, Chain, Stand, Phase, Move}
use Rattle.cc_runs.specs.Codes.{ret_of}
use Rattle.cc_runs.specs.State.{State, side, with_side, chain_of, pass_at}
use Rattle.cc_runs.specs.Step.{stepped_from}
use Rattle.cc_runs.specs.Run.{IsRun, reached, passes}
use Rattle.cc_runs.specs.ChainLaws.{IsLastAnswer}
use Rattle.cc_runs.specs.Ready.{IsStepSafe, IsReady}
use Rattle.cc_runs.specs.ChainLaws.{IsEntering, IsLastPending, CallsWaitForTheirLink}
use Rattle.cc_runs.proofs.Chains.Ties.{ghost_of}
use Rattle.cc_runs.proofs.Ranges.{InRange, in_range}
use Rattle.cc_runs.proofs.Counted.{Counts, senders_only}
use Rattle.cc_runs.proofs.CounterRuns.{counter_holds}
use Rattle.cc_runs.proofs.Chains.View.{members, pass_on, post_at, post_of}
use Rattle.cc_runs.proofs.Chains.Opening.{no_calls}
use Rattle.cc_runs.proofs.Chains.Registers.{IsChain, calls_on, answers_on, call_at, answer_at, IsCall, IsChainOf}
use Rattle.cc_runs.proofs.Chains.Others.{IsOther, IsOn, sender_chain}
use Rattle.cc_runs.proofs.Chains.Safe as safe
use Rattle.cc_runs.proofs.Chains.Safe.{IsService}
use Rattle.cc_runs.proofs.Chains.Serving.{Chains, chains_hold, chain_is, on_chain}
use Rattle.cc_runs.proofs.Chains.ReadAnswers.{named, name_is, apart_names, NotOther, HasTold, told_on, open_on}
use Rattle.cc_runs.proofs.Chains.Decoded.{FitsIn, reads_back}

-- a counter has no calls of receivers
pub silent_takes : (c : Setting) → c.served ≡ Served.Counter → (moves : List Move) → IsRun c moves → (g : ℕ) → side (Chain.Take g) (reached c moves).history ≡ silent
silent_takes c counter [] run g = no_calls (groups c.config) (Chain.Take g)
silent_takes c counter (Move.Step p ∷ earlier) run g =
    let less : p < passes c = run.1.0 in
    let sends : chain_of c.config p ≡ Chain.Send = sender_chain c.config p (omega (arith, senders_only c.served c.config counter)) in
    ap (λ (y : Chain). side (Chain.Take g) (stepped_from c (reached c earlier) y p ((reached c earlier).stand p)).history) sends ∙ silent_takes c counter earlier run.0 g
silent_takes c counter (_ ∷ earlier) run g = silent_takes c counter earlier run.0 g

module _ (c : Setting) (s : State) (k : Chains c s) where
  -- of a chain that there is
  of_chain : (x y : Chain) → IsOther x y → IsChain c y → (p j : ℕ) → p < members c x → j < length (calls_on y s.history) → is_pass (named c x p) (call_at (calls_on y s.history) j).pass ≡ false
  of_chain x y o ok p j inside less =
      let below : j < (ghost_of (k.holds y ok)).calls = omega arith in
      let is : IsCall c y ((ghost_of (k.holds y ok)).pass_of j) (call_at (calls_on y s.history) j) = (k.holds y ok).ties.entered j below in
      let within : (ghost_of (k.holds y ok)).pass_of j < members c y = (k.holds y ok).ties.pass_in j below in
      ap (λ (z : Pass). is_pass (named c x p) z) (is.pass_is ∙ name_is c y ((ghost_of (k.holds y ok)).pass_of j) within) ∙ apart_names c x y p ((ghost_of (k.holds y ok)).pass_of j) o inside within

  not_other_by : (what : Served) → c.served ≡ what → (what ≡ Served.Counter → (g : ℕ) → side (Chain.Take g) s.history ≡ silent) → length s.history.takes ≡ groups c.config → (x : Chain) → NotOther c x s.history
  not_other_by what e none many x p inside Chain.Send o j less = of_chain x Chain.Send o tt p j inside less
  not_other_by Served.Counter e none many x p inside (Chain.Take g) o j less = absurd (omega (arith, less, ap (λ (z : Side). length z.calls) (none refl g)))
  not_other_by Served.List e none many x p inside (Chain.Take g) o j less = elim (cases_lt g (groups c.config)) [
    | inl near ↦ of_chain x (Chain.Take g) o (subst (λ (z : Served). IsChainOf z (groups c.config) (Chain.Take g)) (sym e) near) p j inside less
    | inr far ↦ absurd (omega (arith, less, ap (λ (z : Side). length z.calls) (get_or_past s.history.takes g silent (omega (arith, far, many)))))
  ]

-- a side for each group, at all times
pub sides_are : (c : Setting) (moves : List Move) → length (reached c moves).history.takes ≡ groups c.config
sides_are c [] = length-replicate (groups c.config) silent
sides_are c (Move.Step p ∷ earlier) = with_length (chain_of c.config p) (reached c earlier).history _ ∙ sides_are c earlier
  where
    with_length : (y : Chain) (h : Record) (now : Side) → length (with_side y h now).takes ≡ length h.takes
    with_length Chain.Send h now = refl
    with_length (Chain.Take g) h now = length-set h.takes g now
sides_are c (_ ∷ earlier) = sides_are c earlier

pub not_other : (c : Setting) → 0 < c.config.bound → (moves : List Move) → IsRun c moves → (x : Chain) → NotOther c x (reached c moves).history
not_other c some moves run x = not_other_by c (reached c moves) (chains_hold c some moves run) c.served refl (λ e. silent_takes c e moves run) (sides_are c moves) x

-- the answer that a finished call got
pub has_told : (c : Setting) → 0 < c.config.bound → (moves : List Move) → IsRun c moves → (p : ℕ) → p < passes c → (told : Answer) → ((reached c moves).stand p).phase ≡ Phase.Finished told →
    HasTold c (chain_of c.config p) (reached c moves).history (pass_at c.config p) told
has_told c some moves run p less told e =
    let k : Chains c (reached c moves) = chains_hold c some moves run in
    let ok : IsChain c (chain_of c.config p) = chain_is c p less in
    let on : IsOn c (chain_of c.config p) p = on_chain c p less in
    subst (λ (z : ℕ). HasTold c (chain_of c.config p) (reached c moves).history (pass_at c.config z) told) (sym on.pass_is)
    (told_on c (chain_of c.config p) (reached c moves) (k.holds (chain_of c.config p) ok) (not_other c some moves run (chain_of c.config p)) on.number on.inside told
    (ap (λ (z : ℕ). ((reached c moves).stand z).phase) (sym on.pass_is) ∙ e))

entering_rank : (x : Chain) (own : ℕ) (at : Phase) → IsEntering at → (post_of x own at).rank ≡ 3
entering_rank x own at a = grind arith

-- a call that has exchanged and isn't linked is pending
pub calls_wait : CallsWaitForTheirLink
calls_wait c checked moves run p less entering =
    let r : InRange c.config = in_range c.config checked in
    let k : Chains c (reached c moves) = chains_hold c r.bound.0 moves run in
    let on : IsOn c (chain_of c.config p) p = on_chain c p less in
    let rank : (post_at (chain_of c.config p) ((reached c moves).stand (pass_on c (chain_of c.config p) on.number))).rank ≡ 3 =
    ap (λ (z : ℕ). (post_at (chain_of c.config p) ((reached c moves).stand z)).rank) (sym on.pass_is) ∙ entering_rank (chain_of c.config p) ((reached c moves).stand p).node ((reached c moves).stand p).phase entering in
    let ends = open_on c (chain_of c.config p) (reached c moves) (k.holds (chain_of c.config p) (chain_is c p less)) (not_other c r.bound.0 moves run (chain_of c.config p)) on.number on.inside rank in
    subst (λ (z : ℕ). IsLastPending (pass_at c.config z) (reached c moves).history) (sym on.pass_is) record { before = ends.before; entry = _; last = ends.last }

-- a call gets its answer in the history, if the numbers of the answers fit their words
pub last_answer : (c : Setting) → 0 < c.config.bound → (moves : List Move) → IsRun c moves → (p : ℕ) → p < passes c → (told : Answer) → ((reached c moves).stand p).phase ≡ Phase.Finished told →
    ((n : ℕ) → n < length (answers_on (chain_of c.config p) (reached c moves).history) → FitsIn c.served (answer_at (answers_on (chain_of c.config p) (reached c moves).history) n)) →
    IsLastAnswer (pass_at c.config p) (reached c moves).history told
last_answer c some moves run p less told e fits =
    let t : HasTold c (chain_of c.config p) (reached c moves).history (pass_at c.config p) told = has_told c some moves run p less told e in
    let same : answer_at (answers_on (chain_of c.config p) (reached c moves).history) t.number ≡ told =
    sym (t.read ∙ reads_back c.served (chain_of c.config p) (answer_at (answers_on (chain_of c.config p) (reached c moves).history) t.number) t.sided (fits t.number t.within)) in
    record {
      before = t.before;
      entry = call_at (calls_on (chain_of c.config p) (reached c moves).history) t.number;
      last = t.last ∙ ap (λ (z : Answer). t.before ++ (call_at (calls_on (chain_of c.config p) (reached c moves).history) t.number, Some z) ∷ []) same;
    }

fits_counter : (what : Served) → what ≡ Served.Counter → (a : Answer) → FitsIn what a
fits_counter what e a = grind arith

-- for a counter no number is in the way
pub counter_answer : (c : Setting) → c.served ≡ Served.Counter → 0 < c.config.bound → (moves : List Move) → IsRun c moves → (p : ℕ) → p < passes c → (told : Answer) →
    ((reached c moves).stand p).phase ≡ Phase.Finished told → IsLastAnswer (pass_at c.config p) (reached c moves).history told
counter_answer c counter some moves run p less told e = last_answer c some moves run p less told e (λ n within. fits_counter c.served counter _)

-- and the answer is the number of its call among all calls, from 0 on
pub counter_number : (c : Setting) → c.served ≡ Served.Counter → 0 < c.config.bound → (moves : List Move) → IsRun c moves → (p : ℕ) → p < passes c → (told : Answer) →
    ((reached c moves).stand p).phase ≡ Phase.Finished told → (n : ℕ) × (n < length (reached c moves).history.sends.answers) × (told ≡ Answer.Send (SendAnswer.Accepted n))
counter_number c counter some moves run p less told e =
    let sends : chain_of c.config p ≡ Chain.Send = sender_chain c.config p (omega (arith, senders_only c.served c.config counter)) in
    let t : HasTold c Chain.Send (reached c moves).history (pass_at c.config p) told = subst (λ (y : Chain). HasTold c y (reached c moves).history (pass_at c.config p) told) sends (has_told c some moves run p less told e) in
    let k : Counts c (reached c moves) = counter_holds c counter some moves run in
    (t.number, t.within, t.read ∙ reads_back c.served Chain.Send (answer_at (reached c moves).history.sends.answers t.number) t.sided (fits_counter c.served counter (answer_at (reached c moves).history.sends.answers t.number)) ∙ k.kth t.number t.within)

-- each step can be done, if the answers fit their words and each step of a service can be done
pub ready : (c : Setting) → config_fault c.config ≡ Ok tt → (moves : List Move) → IsRun c moves → (p : ℕ) → p < passes c →
    ((n : ℕ) → n < length (answers_on (chain_of c.config p) (reached c moves).history) → ret_of c.served (answer_at (answers_on (chain_of c.config p) (reached c moves).history) n) < 2 ^ 64) →
    (IsService ((reached c moves).stand p).phase → IsStepSafe c (reached c moves) p) → IsReady c (reached c moves) p
ready c checked moves run p less fits served =
    let r : InRange c.config = in_range c.config checked in
    let k : Chains c (reached c moves) = chains_hold c r.bound.0 moves run in
    let ok : IsChain c (chain_of c.config p) = chain_is c p less in
    let on : IsOn c (chain_of c.config p) p = on_chain c p less in
    let at : Stand = (reached c moves).stand p in
    let here : (reached c moves).stand (pass_on c (chain_of c.config p) on.number) ≡ (reached c moves).stand p = ap (reached c moves).stand (sym on.pass_is) in
    record {
      safe = safe.safe_at c (chain_of c.config p) ok r (reached c moves) on.number at.node at.begun on.inside (k.holds (chain_of c.config p) ok) at.phase here fits served;
      unanswered = safe.open_at c (chain_of c.config p) ok r (reached c moves) on.number at.node at.begun on.inside (k.holds (chain_of c.config p) ok) at.phase here;
    }
