-- A combiner that has served nobody yet finds its own node linked; and the answer that a pass reads is that of its last call in the history.
use Rattle.std.proofs.Common.{◌≡◌, ℕ, List, ◌∷◌, ◌++◌, None, sym, ap, ◌∙◌, subst, ◌<◌, refl}
use Rattle.cc_steps.specs.Names.{Move, Setting, Stand, Phase, Served}
use Rattle.cc_runs.specs.State.{chain_of, pass_at, word_of}
use Rattle.cc_runs.specs.Step.{advanced}
use Rattle.cc_runs.specs.Run.{IsRun, history_of}
use Rattle.cc_runs.specs.ChainLaws.{IsLastAnswer}
use Rattle.cc_runs.proofs.ListRuns.Ready.{list_answer}
use Rattle.cc_model.specs.Record.{Record}
use Rattle.cc_steps.specs.Seen.{stand_in, word_in, does_at}
use Rattle.cc_steps.specs.Walk.{IsToldAt, leads_to, Walk, Found, walked_to, LinksOwn}
use Rattle.cc_steps.proofs.Runs.{stepped_stand, taken_history, of_taken}
use Rattle.cc_steps.proofs.StepFacts.{same, number, checked, below, run_then, stands, run_here}
use Rattle.cc_runs.proofs.ChainLaws.{chain_laws}

module _ (v : Walk) (found : ℕ) (w : Walk) (f : Found v None found w) (step : w ≡ walked_to v None found w.seen) where
  abbrev C : Setting
  C = v.setting

  abbrev P : ℕ
  P = v.number

  abbrev Log : List Move
  Log = f.walked.between ++ v.seen

  own_at : (at : Phase) → v.stand.phase ≡ at → LinksOwn at found
  unfolding stand_in word_in
  own_at (Phase.ReadNext round) e = λ none.
      let here : (stand_in C Log P).phase ≡ Phase.ReadNext record { at = round.at; served = 0 } =
      ap (λ (x : Stand). x.phase) (stands v w None found f.walked step) ∙ e ∙ (λ i. Phase.ReadNext record { at = round.at; served = none i }) in
      let law = (chain_laws C (checked v w None found f.walked step) Log (run_here v w None found f.walked step)).own_link P round.at (below v w None found f.walked step) here in
      subst (λ (n : ℕ). 0 < n) (sym (f.found_is ∙ (λ i. word_in C Log (word_of (does_at C P record { begun = v.stand.begun; node = v.stand.node; phase = e i }))))) law
  own_at _ e = tt

  pub own_linked : LinksOwn v.stand.phase found
  own_linked = own_at v.stand.phase refl

  leads : (stand_in C (Move.Step P ∷ Log) P).phase ≡ leads_to v found
  leads =
      ap (λ (x : Stand). x.phase) (stepped_stand C P Log)
      ∙ ap (λ (x : Stand). (advanced C (chain_of C.config P) x (word_in C Log (word_of (does_at C P x)))).phase) (stands v w None found f.walked step)
      ∙ ap (λ (n : ℕ). leads_to v n) (sym f.found_is)

  run_stepped : IsRun C (Move.Step P ∷ Log)
  run_stepped = of_taken C P (Move.Step P ∷ Log) _ (subst (IsRun C) f.walked.seen (run_then v w None found f.walked step))

  told_then : v.setting.served ≡ Served.List → (at : Phase) → (stand_in C (Move.Step P ∷ Log) P).phase ≡ at → IsToldAt w at
  unfolding stand_in
  told_then list (Phase.Finished told) is =
      subst (λ (x : Setting × ℕ × Record). IsLastAnswer (pass_at x.0.config x.1) x.2 told)
      (λ i. (sym (same v w None found f.walked step) i, sym (number v w None found f.walked step) i, (sym (taken_history C P (Move.Step P ∷ Log) (stand_in C (Move.Step P ∷ Log) P).phase) ∙ (λ j. history_of (sym (same v w None found f.walked step) j) (sym f.walked.seen j))) i))
      (list_answer C list (checked v w None found f.walked step) (Move.Step P ∷ Log) run_stepped P (below v w None found f.walked step) told is)
  told_then _ _ is = tt

  pub told_so : v.setting.served ≡ Served.List → IsToldAt w (leads_to v found)
  told_so list = told_then list (leads_to v found) leads
