-- What two passes have seen are prefixes of one run, and so are their histories.
use Rattle.std.proofs.Common.{◌≡◌, inl, inr, List, ⊎_elim, sym, subst}
use Rattle.cc_model.specs.Items.{Begins}
use Rattle.cc_queue.specs.Names.{Move, Setting}
use Rattle.cc_runs.specs.Run.{IsRun, history_of}
use Rattle.cc_runs.proofs.RunPrefixes.{prefixes_begin}
use Rattle.cc_steps.specs.Noted.{AreOfOneRun}
use Rattle.cc_steps.specs.Seen.{Later}
use Rattle.cc_steps.specs.Walk.{Walk, IsSound}
use Rattle.cc_queue.specs.Headline.{history}
use Rattle.cc_queue.specs.Met.{SeeOneRun}

begins_later : (c : Setting) (seen log : List Move) → Later seen log → IsRun c log → Begins (history_of c seen) (history_of c log)
begins_later c seen log l run = subst (λ (x : List Move). Begins (history_of c seen) (history_of c x)) (sym l.1) (prefixes_begin c l.0 seen (subst (IsRun c) l.1 run)).1

pub see_one_run : (v w : Walk) → w.setting ≡ v.setting → IsSound v → IsSound w → AreOfOneRun v.seen w.seen → SeeOneRun v w
see_one_run v w same f g one = record {
  run = one;
  histories = ⊎_elim
      (λ (l : Later v.seen w.seen). inl (subst (λ (c : Setting). Begins (history_of c v.seen) (history w)) same (begins_later w.setting v.seen w.seen l g.run)))
      (λ (l : Later w.seen v.seen). inr (subst (λ (c : Setting). Begins (history_of c w.seen) (history v)) (sym same) (begins_later v.setting w.seen v.seen l f.run)))
      one;
}
