-- The clauses of a step about the run that its pass has seen: before the step, with others' moves, and after it.
use Rattle.std.proofs.Common.{◌≡◌, ℕ, ◌<◌, List, ◌++◌, Option, Ok, sym, ap, ◌∙◌, subst, arith}
use Rattle.cc_model.specs.Config.{config_fault}
use Rattle.cc_steps.specs.Names.{Call, Move, Setting}
use Rattle.cc_runs.specs.Run.{IsRun, passes}
use Rattle.cc_steps.specs.Seen.{stand_in, begun}
use Rattle.cc_steps.specs.Walk.{Walk, Walked, walked_to, next_stand}
use Rattle.cc_steps.proofs.Runs.{stand-others, of_added}

of_begun : (c : Setting) (p : ℕ) (seen log : List Move) (call : Option Call) → IsRun c (begun c p seen call log) → IsRun c log
of_begun c p seen log call r = grind arith

module _ (v w : Walk) (call : Option Call) (found : ℕ) (k : Walked v call w) (step : w ≡ walked_to v call found w.seen) where
  abbrev pub C : Setting
  C = v.setting

  abbrev pub Log : List Move
  Log = k.between ++ v.seen

  pub same : w.setting ≡ C
  same = ap (λ (x : Walk). x.setting) step

  pub number : w.number ≡ v.number
  number = ap (λ (x : Walk). x.number) step

  pub checked : config_fault C.config ≡ Ok tt
  checked = subst (λ (x : Setting). config_fault x.config ≡ Ok tt) same k.checked

  pub below : v.number < passes C
  below = subst (λ (x : Setting × ℕ). x.1 < passes x.0) (λ i. (same i, number i)) k.below

  pub run_then : IsRun C w.seen
  run_then = subst (λ (x : Setting). IsRun x w.seen) same k.run

  pub run_here : IsRun C Log
  run_here = of_begun C v.number v.seen Log call (of_added C v.number v.seen Log call (subst (IsRun C) k.seen run_then))

  pub stands : stand_in C Log v.number ≡ v.stand
  stands = stand-others C k.between v.seen v.number k.others ∙ sym k.was.0

  pub stands_then : stand_in C w.seen v.number ≡ next_stand v call found
  stands_then = (λ i. stand_in (sym same i) w.seen (sym number i)) ∙ sym k.shows.0 ∙ ap (λ (x : Walk). x.stand) step
