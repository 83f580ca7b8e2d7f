-- What a look at the counts of a queue finds.
use Rattle.std.proofs.Common.{◌≡◌, ℕ, ◌<◌, List, [], ◌++◌, refl, sym, ap, ◌∙◌, subst, arith, Ok}
use Rattle.cc_model.specs.Config.{config_fault}
use Rattle.cc_steps.specs.Names.{Object, Word}
use Rattle.cc_runs.specs.Run.{IsRun, reached, history_of, passes}
use Rattle.cc_runs.specs.ChainLaws.{IsOut}
use Rattle.cc_runs.specs.Counts.{counted, counted_for, mark_of, AreSeen}
use Rattle.cc_runs.proofs.Counts.Laws.{counts_are_near, ended_calls_are_seen, looks_find_full, looks_find_none}
use Rattle.cc_queue.specs.Names.{Move, Setting, Served}
use Rattle.cc_steps.specs.Counted.{HasWatched}
use Rattle.cc_steps.specs.Seen.{GoesOn, word_in}
use Rattle.cc_steps.specs.Walk.{Walk, IsSound}
use Rattle.cc_queue.specs.Passes.{HasStopped}
use Rattle.cc_queue.specs.Counted.{in_word, state_seen, Found, LooksAnswerEmpty, LooksAnswerFull, SeesCounts}
use Rattle.cc_queue.proofs.Meetings.{met_stopped}

-- the word that was found, in the state of the run
found_seen : (v : Walk) (object : Object) (found : ℕ) (w : Walk) → HasWatched v object found w → found ≡ (state_seen w).mem (Word.Object object)
unfolding word_in
found_seen v object found w h = h.found_is

-- the calls that had ended in a run from which the pass's run goes on
ended_since : (c : Setting) (first seen : List Move) → GoesOn first seen → c.served ≡ Served.List → config_fault c.config ≡ Ok tt → IsRun c seen
    → (p : ℕ) → p < passes c → IsOut ((reached c first).stand p).phase → AreSeen c.config (counted (reached c seen)) (mark_of (reached c seen)) p (history_of c first)
ended_since c first seen on list checked run p below out =
    let all = ended_calls_are_seen c on.more first list checked (subst (IsRun c) on.is run) p below out in
    subst (λ (l : List Move). AreSeen c.config (counted (reached c l)) (mark_of (reached c l)) p (history_of c first)) (sym on.is) all

-- a pass that looked, and doesn't move; a caller knows it as u
pub found_by : (u v w : Walk) (object : Object) (found : ℕ) → v ≡ u → HasStopped v → HasWatched v object found w → IsSound w → Found (in_word object) u w found
found_by u v w object found is stop h sound =
    let list : w.setting.served ≡ Served.List = ap (λ (x : Walk). x.setting.served) h.same ∙ stop.list in
    subst (λ (x : Walk). Found (in_word object) x w found) is (record {
      sees = record {
        met = met_stopped v v w refl stop (record { same = h.same; onward = h.later; sound = sound });
        counts = counts_are_near w.setting w.seen list sound.checked h.run;
        ended = λ first on p below out. ended_since w.setting first w.seen (h.later first on) list sound.checked h.run p below out;
      };
      found_is = found_seen v object found w h;
    })

-- ---- two looks of one pass, one after the other

-- the run of the second look goes on from that of the first
on_from : (v w : Walk) → SeesCounts v w → GoesOn v.seen w.seen
on_from v w s = s.met.stands.onward v.seen (record { more = []; is = refl })

-- both are runs of one setting
in_one : (v w : Walk) → SeesCounts v w → w.setting ≡ v.setting
in_one v w s = ap (λ (x : Walk). x.setting) s.met.same

run_on : (v w : Walk) (s : SeesCounts v w) → IsRun v.setting ((on_from v w s).more ++ v.seen)
run_on v w s = subst (IsRun v.setting) (on_from v w s).is (subst (λ (c : Setting). IsRun c w.seen) (in_one v w s) s.met.stands.run)

state_on : (v w : Walk) (s : SeesCounts v w) → state_seen w ≡ reached v.setting ((on_from v w s).more ++ v.seen)
state_on v w s = ap (λ (c : Setting). reached c w.seen) (in_one v w s) ∙ ap (reached v.setting) (on_from v w s).is

pub looks_answer_full : LooksAnswerFull
looks_answer_full u v w g accepted taken checked one two below full =
    let s : SeesCounts v w = two.sees in
    let later : taken ≡ counted_for (reached v.setting ((on_from v w s).more ++ v.seen)) g = two.found_is ∙ ap (λ t. counted_for t g) (state_on v w s) in
    let before : accepted ≡ counted (state_seen v) = one.found_is in
    looks_find_full v.setting (on_from v w s).more v.seen checked.list checked.checked (run_on v w s) g below (omega (arith, full, later, before))

pub looks_answer_empty : LooksAnswerEmpty
looks_answer_empty u v w g taken accepted checked one two below none others =
    let s : SeesCounts v w = two.sees in
    let later : accepted ≡ counted (reached v.setting ((on_from v w s).more ++ v.seen)) = two.found_is ∙ ap counted (state_on v w s) in
    let before : taken ≡ counted_for (state_seen v) g = one.found_is in
    looks_find_none v.setting (on_from v w s).more v.seen checked.list checked.checked (run_on v w s) g below (omega (arith, none, later, before))
    (λ k there other. let few = others k there other in let same = ap (λ t. counted_for t k) (state_on v w s) in omega (arith, few, same, before))
