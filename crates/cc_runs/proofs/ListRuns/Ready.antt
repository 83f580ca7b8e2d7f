-- Each step of a machine whose chains serve the list can be done, and each answer that is taken is the history's.
use Rattle.std.proofs.Common.{◌≡◌, ℕ, ◌^◌, ◌<◌, ◌≤◌, List, length, Ok, refl, sym, ap, ◌∙◌, subst, arith}
use Rattle.std.proofs.lemmas.Option.{slice_get-get_or}
use Rattle.cc_model.specs.Config.{config_fault}
use Rattle.cc_model.specs.Record.{Record}
use Rattle.cc_model.proofs.Fresh.{all_at}
use Rattle.cc_runs.specs.Names.{Config, Answer, Setting, Served, Chain, NodeField, Job, Phase, Sending, Move}
use Rattle.cc_runs.specs.State.{State, chain_of, pass_at}
use Rattle.cc_runs.specs.Ready.{IsSafe, IsReady}
use Rattle.cc_runs.specs.Run.{passes, reached, IsRun}
use Rattle.cc_runs.specs.ChainLaws.{IsLastAnswer}
use Rattle.cc_runs.specs.MachineLaws.{AnswerWithin, IsWithin, StepsAreReady, AnswersAreTold}
use Rattle.cc_runs.proofs.Ranges.{InRange, in_range}
use Rattle.cc_runs.proofs.Chains.View.{members, pass_on}
use Rattle.cc_runs.proofs.Chains.Registers.{IsChain, answers_on, answer_at, no_answer}
use Rattle.cc_runs.proofs.Chains.Others.{IsOn}
use Rattle.cc_runs.proofs.Chains.Serving.{Chains, chains_hold, chain_is, on_chain}
use Rattle.cc_runs.proofs.Chains.Safe as safe
use Rattle.cc_runs.proofs.Chains.Decoded.{Fits, word_fits}
use Rattle.cc_runs.proofs.Chains.Safe.{IsService}
use Rattle.cc_runs.proofs.ChainRuns.{ready, last_answer}
use Rattle.cc_runs.proofs.ListRuns.Facts.{lists}
use Rattle.cc_runs.proofs.ListRuns.Posts.{Well}
use Rattle.cc_runs.proofs.ListRuns.Runs.{AfterRun}
use Rattle.cc_runs.proofs.ListRuns.Safe.{send_safe, take_safe}
use Rattle.cc_runs.proofs.ListRuns.Within.{within}
use Rattle.cc_runs.proofs.ListRuns.Laws.{taker}
use Rattle.cc_runs.proofs.ListRuns.FromChains.{after_runs, chain_facts, of_setting}

answer_fits : (most : ℕ) (a : Answer) → most < 2 ^ 56 → AnswerWithin most a → Fits a
answer_fits most a l w = grind arith

-- every answer of a history fits its words
pub answers_fit : (c : Config) → InRange c → (h : Record) → IsWithin c h → (x : Chain) (n : ℕ) → n < length (answers_on x h) → Fits (answer_at (answers_on x h) n)
answers_fit c fits h w x n l = answer_fits c.life _ (omega (arith, fits.life)) (all_at (AnswerWithin c.life) (answers_on x h) n (answer_at (answers_on x h) n) (w.answers x) (slice_get-get_or (answers_on x h) n no_answer l))

-- ---- the steps of the services

module _ (c : Config) (fits : InRange c) (moves : List Move) (run : IsRun (lists c) moves) (p : ℕ) (less : p < passes (lists c)) where
  abbrev s : State
  s = reached (lists c) moves

  a : AfterRun c moves
  a = after_runs c fits moves run

  abbrev x : Chain
  x = chain_of c p

  -- the node that is served is one of the chain's
  served_node : (job : Job) (service : Sending) → (s.stand p).phase ≡ Phase.Sending job service → job.round.at ≤ members (lists c) x
  served_node job service stands =
      let k : Chains (lists c) s = chains_hold (lists c) (omega (arith, fits.bound)) moves run in
      let ok : IsChain (lists c) x = chain_is (lists c) p less in
      let on : IsOn (lists c) x p = on_chain (lists c) p less in
      let here : s.stand (pass_on (lists c) x on.number) ≡ record { begun = (s.stand p).begun; node = (s.stand p).node; phase = Phase.Sending job service } =
      ap s.stand (sym on.pass_is) ∙ ap (λ (z : Phase). record { begun = (s.stand p).begun; node = (s.stand p).node; phase = z }) stands in
      safe.target_in (lists c) x ok fits s on.number (s.stand p).node (s.stand p).begun on.inside (k.holds x ok) (Phase.Sending job service) here refl

  well_at : (at : Phase) → (s.stand p).phase ≡ at → Well s.history x (pass_at c p) (s.stand p).begun at
  well_at at stands = subst (λ (z : Phase). Well s.history x (pass_at c p) (s.stand p).begun z) stands (a.posts.well p)

  service_safe : (at : Phase) → (s.stand p).phase ≡ at → IsService at → IsSafe (lists c) s x (s.stand p).node at
  service_safe (Phase.Sending job Sending.ReadTag) stands u =
      subst (λ (y : Chain). IsSafe (lists c) s y (s.stand p).node (Phase.Sending job Sending.ReadTag)) (sym (well_at (Phase.Sending job Sending.ReadTag) stands))
      (record { word = safe.node_exists (lists c) Chain.Send tt job.round.at NodeField.Tag refl (subst (λ (y : Chain). job.round.at ≤ members (lists c) y) (well_at (Phase.Sending job Sending.ReadTag) stands) (served_node job Sending.ReadTag stands)); numbers = tt })
  service_safe (Phase.Sending job (Sending.ReadBody request i)) stands u =
      let low = ((chain_facts c fits moves run).read_body p job request i less stands).3 in
      subst (λ (y : Chain). IsSafe (lists c) s y (s.stand p).node (Phase.Sending job (Sending.ReadBody request i))) (sym (well_at (Phase.Sending job (Sending.ReadBody request i)) stands))
      (record { word = safe.node_exists (lists c) Chain.Send tt job.round.at (NodeField.Body i) (safe.four_words i request.tag low) (subst (λ (y : Chain). job.round.at ≤ members (lists c) y) (well_at (Phase.Sending job (Sending.ReadBody request i)) stands) (served_node job (Sending.ReadBody request i) stands)); numbers = tt })
  service_safe (Phase.Sending job service) stands u =
      subst (λ (y : Chain). IsSafe (lists c) s y (s.stand p).node (Phase.Sending job service)) (sym (well_at (Phase.Sending job service) stands)) (send_safe c fits s p a.parts (s.stand p).node job service stands tt)
  service_safe (Phase.Taking job service) stands u =
      let t = taker c moves a p job service stands in
      subst (λ (y : Chain). IsSafe (lists c) s y (s.stand p).node (Phase.Taking job service)) (sym t.chain) (take_safe c fits s p a.parts t.group t.chain t.inside (s.stand p).node job service stands)
  service_safe (Phase.Counting job service) stands u = absurd (well_at (Phase.Counting job service) stands)
  service_safe _ stands u = absurd u

  told_fits : (n : ℕ) → n < length (answers_on x s.history) → Fits (answer_at (answers_on x s.history) n)
  told_fits n l = answers_fit c fits s.history (within c s a) x n l

  ready_here : config_fault c ≡ Ok tt → IsReady (lists c) s p
  ready_here checked = ready (lists c) checked moves run p less (λ n l. word_fits (answer_at (answers_on x s.history) n) (told_fits n l)) (service_safe (s.stand p).phase refl)

  answer_here : (told : Answer) → (s.stand p).phase ≡ Phase.Finished told → IsLastAnswer (pass_at c p) s.history told
  answer_here told is = last_answer (lists c) (omega (arith, fits.bound)) moves run p less told is told_fits

-- ---- for a setting

-- each step of every run can be done
pub list_ready : (c : Setting) → c.served ≡ Served.List → config_fault c.config ≡ Ok tt → (moves : List Move) → IsRun c moves → (p : ℕ) → p < passes c → IsReady c (reached c moves) p
list_ready c serves checked moves run p less =
    of_setting (λ (z : Setting). config_fault z.config ≡ Ok tt → IsRun z moves → p < passes z → IsReady z (reached z moves) p) c serves
    (λ ok r l. ready_here c.config (in_range c.config ok) moves r p l ok) checked run less

-- and a call that is finished got its answer in the history
pub list_answer : (c : Setting) → c.served ≡ Served.List → config_fault c.config ≡ Ok tt → (moves : List Move) → IsRun c moves → (p : ℕ) → p < passes c → (told : Answer) → ((reached c moves).stand p).phase ≡ Phase.Finished told → IsLastAnswer (pass_at c.config p) (reached c moves).history told
list_answer c serves checked moves run p less told is =
    of_setting (λ (z : Setting). config_fault z.config ≡ Ok tt → IsRun z moves → p < passes z → ((reached z moves).stand p).phase ≡ Phase.Finished told → IsLastAnswer (pass_at z.config p) (reached z moves).history told) c serves
    (λ ok r l e. answer_here c.config (in_range c.config ok) moves r p l told e) checked run less is

pub list_steps_ready : StepsAreReady
list_steps_ready c moves serves checked run p less = list_ready c serves checked moves run p less

pub list_answers_told : AnswersAreTold
list_answers_told c moves serves checked run p told less is = list_answer c serves checked moves run p less told is
