-- Refused claims: for each kind of mistake a small case, and a claim about it that the clause doesn't admit.
use Rattle.std.specs.Prelude.{◌≡◌, ◌≢◌, ℕ, ◌+◌, ◌<◌, ◌≤◌, List, [], ◌∷◌, length, Option, Some, None, Ok, Err}
use Rattle.cc_model.specs.Items.{accepted, calls_of}
use Rattle.cc_runs.specs.Run.{passes, reached, history_of}
use Rattle.cc_runs.specs.State.{pass_at}
use Rattle.cc_runs.specs.ChainLaws.{IsOut}
use Rattle.cc_queue.specs.Headline.{history}
use Rattle.cc_queue.specs.Names.{Move}
use Rattle.cc_steps.specs.Seen.{GoesOn}
use Rattle.cc_steps.specs.Walk.{Walk}
use Rattle.cc_passes.specs.Names.{Answer, AnyPass, Body, Count, Entry, SendAnswer}
use Rattle.cc_passes.specs.declared.return_codes.TheConstants.{BUSY, DONE, WAITING, WORN}
use Rattle.cc_passes.specs.Results.{SendResult, only}
use Rattle.cc_passes.specs.Calls.{BeginsSend, TriesSend, TurnsSend}
use Rattle.cc_passes.specs.Passes.{abandoned_of}
use Rattle.cc_passes.specs.Looks.{LooksAt}

-- a claim that doesn't hold
abbrev pub Refused : Type 0 → Type 0
Refused claim = claim → ⊥

pub record RefusedClaims : Type 0 where
  -- a look finds more items than were accepted
  pub counts_too_many : (v w : Walk) (found : ℕ) → length (accepted (history w)) < found → Refused (LooksAt Count.Accepted (Some (AnyPass.Sender v)) (Some (AnyPass.Sender w)) DONE found)
  -- a look leaves out a send that was accepted before what the pass had seen when it began to look, and whose pass was at rest then
  pub forgets_a_send : (v w : Walk) (first : List Move) (found p place : ℕ) (e : Entry) → GoesOn first v.seen → p < passes w.setting → IsOut ((reached w.setting first).stand p).phase
      → calls_of (pass_at w.setting.config p) (history_of w.setting first) ≡ (e, Some (Answer.Send (SendAnswer.Accepted place))) ∷ [] → found ≤ place → Refused (LooksAt Count.Accepted (Some (AnyPass.Sender v)) (Some (AnyPass.Sender w)) DONE found)
  -- a look makes a call
  pub look_makes_a_call : (v w : Walk) (found : ℕ) → w.stand.begun ≢ v.stand.begun → Refused (LooksAt Count.Accepted (Some (AnyPass.Sender v)) (Some (AnyPass.Sender w)) DONE found)
  -- a pass that has a call looks
  pub busy_pass_looks : (v : Walk) (new : Option AnyPass) (found : ℕ) → Refused (LooksAt Count.Accepted (Some (AnyPass.Sending v)) new DONE found)
  -- a sender that may begin a send is exhausted
  pub worn_too_early : (body : Body) (v : Walk) → v.stand.begun < v.setting.config.per_sender → Refused (BeginsSend (Ok body) (Some (AnyPass.Sender v)) (Some (AnyPass.Sender v)) WORN)
  -- a body is refused, and the code says that the sender has a call
  pub bad_body_is_busy : (why : ℕ) (v : Walk) (new : Option AnyPass) → why ≢ BUSY → Refused (BeginsSend (Err why) (Some (AnyPass.Sender v)) new BUSY)
  -- a send waits on, and there is no pass any more
  pub turn_drops_the_call : (v : Walk) → Refused (TurnsSend (Some (AnyPass.Sending v)) None (only WAITING))
  -- a send was made by a sender that began two
  pub begins_two_sends : (body : Body) (w v : Walk) (told : SendResult) → v.stand.begun ≡ 2 + w.stand.begun → Refused (TriesSend (Ok body) (Some (AnyPass.Sender w)) (Some (AnyPass.Sender v)) told)
  -- a pass is given up as it was, and it begins a call before
  pub begins_when_given_up : (w v : Walk) → v.stand.begun ≡ 1 + w.stand.begun → Refused (Some v ≡ abandoned_of (Some (AnyPass.Sender w)))
