-- One entry of a schedule after another.
use Rattle.std.proofs.Common.{◌≡◌, ◌<◌, ◌≤◌, ℕ, suc, ◌+◌, List, [], ◌∷◌, ◌++◌, length, get_or, take, drop, replicate, sym, ap, ◌∙◌, subst, arith, add-one}
use Rattle.std.proofs.lemmas.Grind.{common_steps}
use Rattle.std.proofs.Math.Seq.{drop-cons}
use Rattle.std.proofs.lemmas.List.{drop_all, length-replicate, get_or-replicate}
use Rattle.cc_play.specs.Names.{Pass, Served, Move}
use Rattle.cc_runs.specs.Run.{reached, IsRun}
use Rattle.cc_machine.specs.Machine.{index_of, IsOpened}
use Rattle.cc_machine.specs.View.{View, state_in}
use Rattle.cc_plan.specs.Plan.{PlanValue}
use Rattle.cc_plan.specs.PlanLaws.{Valid}
use Rattle.cc_play.specs.Schedule.{setting_of, entry, follow, run_of, IsAt}

-- what a slice of a whole list is after a write
pub written_back : (n : ℕ) (xs ys : List ℕ) → length ys ≡ length xs → n ≡ length xs → take n (ys ++ drop (length ys) xs) ≡ ys
written_back n xs ys same all = grind (arith, common_steps)

-- the opening, with a row for each list of calls
pub opened : (plan : PlanValue) (m : View) (begun : List ℕ) (senders receivers : ℕ) → Valid plan → IsOpened Served.List plan.config m → begun ≡ replicate (senders + receivers) 0 → senders ≡ length plan.senders → receivers ≡ length plan.receivers → IsAt plan m begun []
opened plan m begun senders receivers valid h zeros s r = record {
  moves = tt;
  setting = h.setting;
  state = h.state;
  rows = ap length zeros ∙ length-replicate {A = ℕ} (senders + receivers) 0 ∙ (λ i. (s ∙ valid.senders) i + (r ∙ valid.receivers) i);
  counts = λ row within.
      let inside : row < senders + receivers = omega (arith, within, ap length zeros, length-replicate {A = ℕ} (senders + receivers) 0) in
      ap (λ (xs : List ℕ). get_or xs row 0) zeros ∙ get_or-replicate {A = ℕ} (senders + receivers) row 0 0 inside;
}

-- the machine is at a run from which the rest of the schedule leads to the plan's
pub record LeadsOn (plan : PlanValue) (At : List Move → Type 0) (i : ℕ) : Type 0 where
  pub run : List Move
  pub at : At run
  pub leads : follow plan (drop i plan.schedule) run ≡ run_of plan

-- one entry more
pub leads_on : (plan : PlanValue) (At Now : List Move → Type 0) (seen : List (Pass × ℕ)) (i : ℕ) (d : Pass × ℕ) → seen ≡ plan.schedule → i < length seen → LeadsOn plan At i
    → ((run : List Move) → At run → Now (entry plan (get_or seen i d).0 (index_of (setting_of plan) (get_or seen i d).0) (get_or seen i d).1 run)) → LeadsOn plan Now (i + 1)
leads_on plan At Now seen i d same within before now = record {
  run = entry plan (get_or seen i d).0 (index_of (setting_of plan) (get_or seen i d).0) (get_or seen i d).1 before.run;
  at = now before.run before.at;
  leads = ap (λ (n : ℕ). follow plan (drop n plan.schedule) (entry plan (get_or seen i d).0 (index_of (setting_of plan) (get_or seen i d).0) (get_or seen i d).1 before.run)) (add-one i)
      ∙ ap (λ (es : List (Pass × ℕ)). follow plan es before.run) (sym (subst (λ (es : List (Pass × ℕ)). drop i es ≡ get_or seen i d ∷ drop (suc i) es) same (drop-cons seen i d within))) ∙ before.leads;
}

-- the whole schedule
pub ended : (plan : PlanValue) (At : List Move → Type 0) (i : ℕ) → length plan.schedule ≤ i → LeadsOn plan At i → At (run_of plan)
ended plan At i past last = subst At (ap (λ (es : List (Pass × ℕ)). follow plan es last.run) (sym (drop_all i plan.schedule past)) ∙ last.leads) last.at

pub finished : (plan : PlanValue) (m : View) (begun : List ℕ) (i : ℕ) → length plan.schedule ≤ i → LeadsOn plan (IsAt plan m begun) i → (m.setting ≡ setting_of plan) × (state_in m ≡ reached (setting_of plan) (run_of plan)) × IsRun (setting_of plan) (run_of plan)
finished plan m begun i past last = let at = ended plan (IsAt plan m begun) i past last in (at.setting, at.state, at.moves)
