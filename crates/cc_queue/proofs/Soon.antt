-- A call that waits hasn't waited long.
use Rattle.std.proofs.Common.{◌≡◌, ℕ, ◌≤◌, Bool, true, false, not, ◌&&◌, IsTrue, List, ◌∷◌, ◌++◌, length, None, refl, ap, sym, ◌∙◌, subst, arith}
use Rattle.cc_queue.specs.Names.{Setting, Chain, Stand, Phase, Move}
use Rattle.cc_steps.specs.Names.{NodeField, Word}
use Rattle.cc_runs.specs.State.{pass_at, stored, word_of}
use Rattle.cc_runs.specs.Lines.{operation}
use Rattle.cc_runs.specs.OnChain.{IsChain, pass_on, calls_on}
use Rattle.cc_runs.specs.Run.{IsRun, reached, history_of}
use Rattle.cc_runs.specs.Turns.{is_in, has_later, IsAmong, Waits as IsWaiting}
use Rattle.cc_runs.specs.Ahead.{ahead}
use Rattle.cc_runs.specs.Progress.{moves_in}
use Rattle.cc_runs.proofs.Chains.Others.{IsOn}
use Rattle.cc_runs.proofs.Chains.Serving.{chain_is, on_chain}
use Rattle.cc_runs.proofs.Passes.{others_leave}
use Rattle.cc_runs.proofs.RunPrefixes.{prefixes_begin}
use Rattle.cc_runs.proofs.Progress.Laws.{ahead_is_bounded}
use Rattle.cc_runs.proofs.Progress.Rounds.{waits_are_short}
use Rattle.cc_steps.specs.Seen.{stand_in, word_in, taken}
use Rattle.cc_steps.specs.Walk.{Walk, IsSound, Found}
use Rattle.cc_queue.specs.Work.{Waits}
use Rattle.cc_queue.specs.Soon.{chain, exchanged, WaitsBriefly}

both : (a b : Bool) → a ≡ true → b ≡ false → IsTrue (a && not b)
both true false p q = refl
both true true p q = absurd (cc)
both false b p q = absurd (cc)

shown : (w : Walk) → IsSound w → w.stand ≡ (reached w.setting w.seen).stand w.number
unfolding stand_in
shown w s = s.shows.0

-- ---- the state that it has read is still there

taken_words : (c : Setting) (p : ℕ) (at : Phase) (log : List Move) → (reached c (taken p at log)).mem ≡ (reached c log).mem
taken_words c p (Phase.Finished told) log = refl
taken_words c p _ log = refl

-- a state that is read stays
state_stays : (c : Setting) (mem : Word → ℕ) (x : Chain) (at : Stand) → at.phase ≡ Phase.ReadState → stored mem (operation c x at.node at.phase) ≡ mem
state_stays c mem x at reads = ap (λ (z : Phase). stored mem (operation c x at.node z)) reads

read_one : (v w : Walk) → v.stand.phase ≡ Phase.ReadState → Found v None 1 w → (reached v.setting w.seen).mem (Word.Node (chain v) v.stand.node NodeField.State) ≡ 1
unfolding stand_in word_in
read_one v w reads found =
    let log : List Move = found.walked.between ++ v.seen in
    let stand : (reached v.setting (found.walked.between ++ v.seen)).stand v.number ≡ v.stand = (others_leave v.setting found.walked.between v.seen v.number found.walked.others).0 ∙ sym found.walked.was.0 in
    let words : (reached v.setting w.seen).mem ≡ (reached v.setting (found.walked.between ++ v.seen)).mem =
    ap (λ (l : List Move). (reached v.setting l).mem) found.walked.seen
    ∙ taken_words v.setting v.number (stand_in v.setting (Move.Step v.number ∷ (found.walked.between ++ v.seen)) v.number).phase (Move.Step v.number ∷ (found.walked.between ++ v.seen))
    ∙ state_stays v.setting (reached v.setting (found.walked.between ++ v.seen)).mem (chain v) ((reached v.setting (found.walked.between ++ v.seen)).stand v.number) (ap (λ (z : Stand). z.phase) stand ∙ reads) in
    ap (λ (f : Word → ℕ). f (Word.Node (chain v) v.stand.node NodeField.State)) words
    ∙ sym (found.found_is ∙ ap (λ (z : Phase). (reached v.setting (found.walked.between ++ v.seen)).mem (word_of (operation v.setting (chain v) v.stand.node z))) reads)

state_one : (v w : Walk) → v.stand.phase ≡ Phase.ReadState → Waits v w → (reached w.setting w.seen).mem (Word.Node (chain w) w.stand.node NodeField.State) ≡ 1
state_one v w reads e = subst (λ (z : Walk). (reached z.setting z.seen).mem (Word.Node (chain z) z.stand.node NodeField.State) ≡ 1) (sym e.worked) (read_one v w reads e.found)

-- ---- so it waits, and has waited briefly

waits_so : (w : Walk) → IsSound w → w.stand.phase ≡ Phase.ReadState → (reached w.setting w.seen).mem (Word.Node (chain w) w.stand.node NodeField.State) ≡ 1 → WaitsBriefly w
waits_so w s waits one seen rounds is fair none =
    let on : IsOn w.setting (chain w) w.number = on_chain w.setting w.number s.below in
    let ok : IsChain w.setting (chain w) = chain_is w.setting w.number s.below in
    let run : IsRun w.setting (moves_in rounds ++ seen) = subst (IsRun w.setting) is s.run in
    let stand : (reached w.setting (moves_in rounds ++ seen)).stand (pass_on w.setting (chain w) on.number) ≡ w.stand = (λ i. (reached w.setting (sym is i)).stand (sym on.pass_is i)) ∙ sym (shown w s) in
    let later : has_later (pass_at w.setting.config (pass_on w.setting (chain w) on.number)) (exchanged w seen) (calls_on (chain w) (history_of w.setting (moves_in rounds ++ seen))) ≡ false =
    (λ i. has_later (pass_at w.setting.config (sym on.pass_is i)) (exchanged w seen) (calls_on (chain w) (history_of w.setting (sym is i)))) ∙ none in
    let among : IsAmong w.setting (chain w) (exchanged w seen) (reached w.setting (moves_in rounds ++ seen)) on.number =
    both (is_in ((reached w.setting (moves_in rounds ++ seen)).stand (pass_on w.setting (chain w) on.number)).phase)
    (has_later (pass_at w.setting.config (pass_on w.setting (chain w) on.number)) (exchanged w seen) (calls_on (chain w) (history_of w.setting (moves_in rounds ++ seen))))
    (ap (λ (z : Stand). is_in z.phase) stand ∙ ap is_in waits) later in
    let waiting : IsWaiting (reached w.setting (moves_in rounds ++ seen)) (chain w) ((reached w.setting (moves_in rounds ++ seen)).stand (pass_on w.setting (chain w) on.number)) =
    (ap (λ (z : Stand). z.phase) stand ∙ waits, (λ i. (reached w.setting (sym is i)).mem (Word.Node (chain w) (stand i).node NodeField.State)) ∙ one) in
    let few : length rounds ≤ ahead w.setting (chain w) (exchanged w seen) (reached w.setting seen) =
    waits_are_short w.setting seen rounds s.checked run (chain w) ok (exchanged w seen) (omega arith) fair on.number on.inside among waiting in
    omega (arith, few, ahead_is_bounded w.setting seen s.checked (prefixes_begin w.setting (moves_in rounds) seen run).0 (chain w) ok (exchanged w seen))

pub waits_briefly : (v w : Walk) → v.stand.phase ≡ Phase.ReadState → IsSound w → Waits v w → WaitsBriefly w
waits_briefly v w reads s e = waits_so w s (ap (λ (x : Walk). x.stand.phase) e.worked) (state_one v w reads e)
