-- Each step of a pass of the chain keeps what holds of the chain.
use Rattle.std.proofs.Common.{◌≡◌, ◌≢◌, ℕ, suc, ◌<◌, ◌≤◌, refl, ap, sym, ◌∙◌, subst, arith}
use Rattle.cc_runs.specs.Names.{Entry, Answer, Setting, Served, Chain, Event, Job, Counting, Sending, Taking, Phase}
use Rattle.cc_runs.specs.Codes.{request_in, further_words}
use Rattle.cc_runs.specs.State.{State, word_of}
use Rattle.cc_runs.specs.CountLines as count_side
use Rattle.cc_runs.specs.SendLines as send_side
use Rattle.cc_runs.specs.TakeLines as take_side
use Rattle.cc_runs.specs.Lines.{event_at, group_of}
use Rattle.cc_runs.proofs.Bodies.{few_further}
use Rattle.cc_runs.proofs.Chains.View.{members}
use Rattle.cc_runs.proofs.Chains.Sides.{asks_word}
use Rattle.cc_runs.proofs.Chains.Registers.{IsChain, Counts, Sends, Takes, HasSend}
use Rattle.cc_runs.proofs.Chains.Service.{Outcome, FindsRequest, sends, takes, counts, send_tail, send_words, take_tail, take_words, count_tail, count_words}
use Rattle.cc_runs.proofs.Chains.Ties.{Holds}
use Rattle.cc_runs.proofs.Chains.Steps as steps
use Rattle.cc_runs.proofs.Chains.Serve.{At, then, finds, the_call, the_answer, serves_at, request_at, service, write_answer, mark, hand_over}
use Rattle.cc_runs.proofs.Chains.Read as by_side

-- the object that is served, and its place
pub counts_where : (s : Served) (x : Chain) → Counts s x → (s ≡ Served.Counter) × (x ≡ Chain.Send)
counts_where s x a = grind arith

pub sends_where : (s : Served) (x : Chain) (A : Type 0) → Sends s x A → (s ≡ Served.List) × (x ≡ Chain.Send)
sends_where s x A a = grind arith

pub sends_has : (s : Served) (x : Chain) (A : Type 0) → Sends s x A → A
sends_has s x A a = grind arith

pub takes_where : (s : Served) (x : Chain) → Takes s x → (s ≡ Served.List) × (x ≡ Chain.Take (group_of x))
takes_where s x a = grind arith

module _ (c : Setting) (some : 0 < c.config.bound) (s : State) (p begun own : ℕ) where
  count_step : (x : Chain) (ok : IsChain c x) (inside : p < members c x) (w : Holds c x s) (job : Job) (at : Counting) → At c x ok some s p begun own inside w (Phase.Counting job at) →
      Holds c x (then c x ok some s p begun own inside w (Phase.Counting job at))
  count_step x ok inside w job at e =
      let here = counts_where c.served x (serves_at c x ok some s p begun own inside w (Phase.Counting job at) e refl).0 in
      let call : Entry = the_call c x ok some s p begun own inside w in
      let found : ℕ = finds c x ok some s p begun own inside w (Phase.Counting job at) in
      let out : Outcome c.served x job call (Phase.Counting job at) (count_side.goes job at found) (count_side.decides at found) =
      subst (λ (z : Served). Outcome z x job call (Phase.Counting job at) (count_side.goes job at found) (count_side.decides at found)) (sym here.0)
      (subst (λ (y : Chain). Outcome Served.Counter y job call (Phase.Counting job at) (count_side.goes job at found) (count_side.decides at found)) (sym here.1) (counts c job call at found)) in
      service c x ok some s p begun own inside w (Phase.Counting job at) job e refl refl refl out (count_tail c s.mem x job.round.at at) (λ i f. count_words c s.mem x job.round.at i f at)

  finds_request : (ok : IsChain c Chain.Send) (inside : p < members c Chain.Send) (w : Holds c Chain.Send s) (job : Job) (at : Sending) → At c Chain.Send ok some s p begun own inside w (Phase.Sending job at) →
      FindsRequest (the_call c Chain.Send ok some s p begun own inside w) at (s.mem (word_of (send_side.operation c.config job.round.at at)))
  finds_request ok inside w job Sending.ReadTag e = request_at c Chain.Send ok some s p begun own inside w (Phase.Sending job Sending.ReadTag) job 0 e refl (omega arith)
  finds_request ok inside w job (Sending.ReadBody request i) e =
      let call : Entry = the_call c Chain.Send ok some s p begun own inside w in
      let has : HasSend call (the_answer c Chain.Send ok some s p begun own inside w) (Sending.ReadBody request i) = sends_has c.served Chain.Send (HasSend call (the_answer c Chain.Send ok some s p begun own inside w) (Sending.ReadBody request i)) (serves_at c Chain.Send ok some s p begun own inside w (Phase.Sending job (Sending.ReadBody request i)) e refl) in
      let low : i ≤ further_words (request_in call).tag = omega (arith, has.1, ap further_words has.0.0) in
      request_at c Chain.Send ok some s p begun own inside w (Phase.Sending job (Sending.ReadBody request i)) job (suc i) e refl (omega (arith, low)) ∙ asks_word (request_in call) i (omega (arith, low, few_further (request_in call).tag))
  finds_request ok inside w job at e = tt

  send_step : (x : Chain) (ok : IsChain c x) (inside : p < members c x) (w : Holds c x s) (job : Job) (at : Sending) → At c x ok some s p begun own inside w (Phase.Sending job at) →
      Holds c x (then c x ok some s p begun own inside w (Phase.Sending job at))
  send_step Chain.Send ok inside w job at e =
      let call : Entry = the_call c Chain.Send ok some s p begun own inside w in
      let told : Answer = the_answer c Chain.Send ok some s p begun own inside w in
      let here = sends_where c.served Chain.Send (HasSend call told at) (serves_at c Chain.Send ok some s p begun own inside w (Phase.Sending job at) e refl) in
      let found : ℕ = finds c Chain.Send ok some s p begun own inside w (Phase.Sending job at) in
      let out : Outcome c.served Chain.Send job call (Phase.Sending job at) (send_side.goes c.config job at found) (send_side.decides c.config at found) =
      subst (λ (z : Served). Outcome z Chain.Send job call (Phase.Sending job at) (send_side.goes c.config job at found) (send_side.decides c.config at found)) (sym here.0) (sends c job call at found (finds_request ok inside w job at e)) in
      service c Chain.Send ok some s p begun own inside w (Phase.Sending job at) job e refl refl refl out (send_tail c s.mem Chain.Send job.round.at at) (λ i f. send_words c s.mem Chain.Send job.round.at i f at)
  send_step (Chain.Take g) ok inside w job at e =
      let here = sends_where c.served (Chain.Take g) _ (serves_at c (Chain.Take g) ok some s p begun own inside w (Phase.Sending job at) e refl) in absurd (let no : Chain.Take g ≡ Chain.Send = here.1 in cc)

  take_step : (x : Chain) (ok : IsChain c x) (inside : p < members c x) (w : Holds c x s) (job : Job) (at : Taking) → At c x ok some s p begun own inside w (Phase.Taking job at) →
      Holds c x (then c x ok some s p begun own inside w (Phase.Taking job at))
  take_step x ok inside w job at e =
      let here = takes_where c.served x (serves_at c x ok some s p begun own inside w (Phase.Taking job at) e refl) in
      let call : Entry = the_call c x ok some s p begun own inside w in
      let found : ℕ = finds c x ok some s p begun own inside w (Phase.Taking job at) in
      let out : Outcome c.served x job call (Phase.Taking job at) (take_side.goes job at found) (take_side.decides at found) =
      subst (λ (z : Served). Outcome z x job call (Phase.Taking job at) (take_side.goes job at found) (take_side.decides at found)) (sym here.0)
      (subst (λ (y : Chain). Outcome Served.List y job call (Phase.Taking job at) (take_side.goes job at found) (take_side.decides at found)) (sym here.1) (takes c job call (group_of x) at found)) in
      service c x ok some s p begun own inside w (Phase.Taking job at) job e refl refl refl out (take_tail c s.mem x (group_of x) at) (λ i f. take_words c s.mem x (group_of x) i f at)

  pub step : (x : Chain) (ok : IsChain c x) (inside : p < members c x) (w : Holds c x s) (at : Phase) → At c x ok some s p begun own inside w at → event_at at ≢ Event.Idle → Holds c x (then c x ok some s p begun own inside w at)
  step x ok inside w (Phase.ResetNext call) e busy = steps.reset_next c x ok some s p begun own inside w call e
  step x ok inside w (Phase.ResetState call) e busy = steps.reset_state c x ok some s p begun own inside w call e
  step x ok inside w (Phase.Exchange call) e busy = steps.exchange c x ok some s p begun own inside w call e
  step x ok inside w (Phase.WriteTag put request) e busy = by_side.write_tag c some s p begun own x ok inside w put request e
  step x ok inside w (Phase.WriteBody put request i) e busy = by_side.write_body c some s p begun own x ok inside w put request i e
  step x ok inside w (Phase.Link put) e busy = steps.link c x ok some s p begun own inside w put e
  step x ok inside w Phase.ReadState e busy = steps.read_state c x ok some s p begun own inside w e
  step x ok inside w (Phase.ReadNext round) e busy = steps.read_next c x ok some s p begun own inside w round e
  step x ok inside w (Phase.Counting job at) e busy = count_step x ok inside w job at e
  step x ok inside w (Phase.Sending job at) e busy = send_step x ok inside w job at e
  step x ok inside w (Phase.Taking job at) e busy = take_step x ok inside w job at e
  step x ok inside w (Phase.WriteAnswer job told) e busy = write_answer c x ok some s p begun own inside w job told e
  step x ok inside w (Phase.WriteAnswerTag job item) e busy = by_side.write_answer_tag c some s p begun own x ok inside w job item e
  step x ok inside w (Phase.WriteAnswerBody job item i) e busy = by_side.write_answer_body c some s p begun own x ok inside w job item i e
  step x ok inside w (Phase.MarkDone job) e busy = mark c x ok some s p begun own inside w job e
  step x ok inside w (Phase.HandOver at) e busy = hand_over c x ok some s p begun own inside w at e
  step x ok inside w Phase.ReadAnswer e busy = by_side.read_answer c some s p begun own x ok inside w e
  step x ok inside w (Phase.ReadAnswerTag at) e busy = by_side.read_tag c some s p begun own x ok inside w at e
  step x ok inside w (Phase.ReadAnswerBody parcel i) e busy = by_side.read_body c some s p begun own x ok inside w parcel i e
  step x ok inside w _ e busy = absurd (busy refl)
