-- The clauses refuse these claims.
use Rattle.std.proofs.Common.{◌≡◌, inl, inr, ℕ, ◌+◌, ◌<◌, ◌≤◌, List, [], ◌∷◌, length, Option, Some, None, Ok, sym, ap, subst, arith}
use Rattle.std.specs.List.{AllByRecursion}
use Rattle.cc_model.specs.Items.{accepted, calls_of}
use Rattle.cc_runs.specs.Counts.{counted, mark_of, IsSeen}
use Rattle.cc_runs.specs.ChainLaws.{IsOut}
use Rattle.cc_runs.specs.Run.{passes, reached, history_of}
use Rattle.cc_runs.specs.State.{pass_at}
use Rattle.cc_queue.specs.Counted.{state_seen}
use Rattle.cc_queue.specs.Headline.{history}
use Rattle.cc_queue.specs.Names.{Move}
use Rattle.cc_steps.specs.Seen.{GoesOn}
use Rattle.cc_steps.specs.Walk.{Walk}
use Rattle.cc_passes.specs.Names.{Answer, AnyPass, Body, Count, Entry, SendAnswer}
use Rattle.cc_passes.specs.declared.return_codes.TheConstants.{DONE}
use Rattle.cc_passes.specs.Results.{SendResult}
use Rattle.cc_passes.specs.Calls.{SenderTries}
use Rattle.cc_passes.specs.Looks.{LooksAt}
use Rattle.cc_passes.specs.Passes.{abandoned_of}
use Rattle.cc_passes.specs.Refused.{RefusedClaims}

too_many : (v w : Walk) (found : ℕ) → length (accepted (history w)) < found → LooksAt Count.Accepted (Some (AnyPass.Sender v)) (Some (AnyPass.Sender w)) DONE found → ⊥
too_many v w found more (done, f) = let most = f.sees.counts.most in let is = f.found_is in omega (arith, more, is, most)

forgets : (v w : Walk) (first : List Move) (found p place : ℕ) (e : Entry) → GoesOn first v.seen → p < passes w.setting → IsOut ((reached w.setting first).stand p).phase
    → calls_of (pass_at w.setting.config p) (history_of w.setting first) ≡ (e, Some (Answer.Send (SendAnswer.Accepted place))) ∷ [] → found ≤ place → LooksAt Count.Accepted (Some (AnyPass.Sender v)) (Some (AnyPass.Sender w)) DONE found → ⊥
forgets v w first found p place e on below out is few (done, f) =
    let seen = subst (AllByRecursion (IsSeen (counted (state_seen w)) (mark_of (state_seen w)))) is (f.sees.ended first on p below out) in
    let counts : place < counted (state_seen w) = seen.0 in let same = f.found_is in omega (arith, few, same, counts)

abbrev begun_of : Walk → Option Walk → ℕ
begun_of w None = w.stand.begun
begun_of w (Some v) = v.stand.begun

abbrev begun_by : Walk → Option AnyPass → ℕ
begun_by w (Some (AnyPass.Sender v)) = v.stand.begun
begun_by w _ = w.stand.begun

-- a send that was begun and answered, or was refused
begun_once : (body : Body) (w v : Walk) (told : SendResult) → v.stand.begun ≡ 2 + w.stand.begun → SenderTries (Ok body) w (Some (AnyPass.Sender v)) told → ⊥
begun_once body w v told two (inl (u, begins, turns)) = let b = begins.begun in let a = turns.answered.begun in omega (arith, two, a, b)
begun_once body w v told two (inr (same, is, most)) = let e = ap (λ (o : Option AnyPass). begun_by w o) same in omega (arith, two, e)

given_up_later : (w v : Walk) → v.stand.begun ≡ 1 + w.stand.begun → Some v ≡ abandoned_of (Some (AnyPass.Sender w)) → ⊥
given_up_later w v more is = let same = ap (λ (o : Option Walk). begun_of w o) is in omega (arith, more, same)

pub claims_refused : RefusedClaims
claims_refused = record {
  counts_too_many = too_many;
  forgets_a_send = forgets;
  look_makes_a_call = λ v w found other look. other (ap (λ (x : Walk). x.stand.begun) look.1.sees.met.same);
  busy_pass_looks = λ v new found look. let e = look.1 in omega (arith, e);
  worn_too_early = λ body v less begins. let e = begins.2 in omega (arith, less, e);
  bad_body_is_busy = λ why v new other begins. other (sym begins.1);
  turn_drops_the_call = λ v turns. turns;
  begins_two_sends = begun_once;
  begins_when_given_up = given_up_later;
}
