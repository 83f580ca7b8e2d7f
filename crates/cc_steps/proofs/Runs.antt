-- Runs that go on: others' moves leave a pass at its place, and what one step adds to a run.
use Rattle.std.proofs.Common.{◌≡◌, ◌≢◌, ℕ, ◌<◌, ◌≤◌, Bool, List, [], ◌∷◌, ◌++◌, IsTrue, Option, Some, None, Ok, refl, sym, ap, ◌∙◌, subst, eq-eqb, append_assoc, if◌then◌else◌, arith}
use Rattle.cc_model.specs.Config.{config_fault}
use Rattle.cc_steps.specs.Names.{Call, Move, Setting, Word, Stand, Phase, Event}
use Rattle.cc_runs.specs.Words.{layout_of, exists}
use Rattle.cc_runs.specs.State.{chain_of, pass_at, word_of, stored}
use Rattle.cc_runs.specs.Lines.{event_at}
use Rattle.cc_runs.specs.Step.{advanced}
use Rattle.cc_runs.specs.Ready.{IsSafe, IsPhaseSafe}
use Rattle.cc_runs.specs.CallsMade.{made}
use Rattle.cc_runs.specs.Run.{number_of, IsRun, IsFinished, passes, reached, history_of, begins, rests}
use Rattle.cc_runs.specs.Passes.{by, then_did, kinds}
use Rattle.cc_runs.proofs.RunPrefixes.{prefixes_begin}
use Rattle.cc_runs.proofs.Chains.Frame.{hold_here}
use Rattle.cc_runs.proofs.Passes.{by-other, others_leave}
use Rattle.cc_runs.proofs.AllReady.{each_ready}
use Rattle.cc_steps.specs.Seen.{GoesOn, stand_in, word_in, known_in, begun, entered, taken, rested, settled, added, after_step, does_at, did_in, made_in, with_begun}
use Rattle.cc_steps.specs.Shown.{CanStart}

-- ---- the place of a pass

pub stand-others : (c : Setting) (more seen : List Move) (p : ℕ) → by p more ≡ [] → stand_in c (more ++ seen) p ≡ stand_in c seen p
unfolding stand_in
stand-others c more seen p none = (others_leave c more seen p none).0

-- a begin, if there is one
pub entered_stand : (c : Setting) (p : ℕ) (seen log : List Move) (call : Option Call) → stand_in c (begun c p seen call log) p ≡ entered c p seen call (stand_in c log p)
unfolding stand_in
entered_stand c p seen log None = refl
entered_stand c p seen log (Some call) = hold_here (reached c log).stand p (begins c.config p call (known_in c p seen) ((reached c log).stand p))

pub begun_words : (c : Setting) (p : ℕ) (seen log : List Move) (call : Option Call) → (reached c (begun c p seen call log)).mem ≡ (reached c log).mem
begun_words c p seen log call = grind arith

-- a step
pub stepped_stand : (c : Setting) (p : ℕ) (log : List Move) → stand_in c (Move.Step p ∷ log) p ≡ advanced c (chain_of c.config p) (stand_in c log p) (word_in c log (word_of (does_at c p (stand_in c log p))))
unfolding stand_in word_in
stepped_stand c p log = hold_here (reached c log).stand p _

stepped_words : (c : Setting) (p : ℕ) (log : List Move) → (reached c (Move.Step p ∷ log)).mem ≡ stored (reached c log).mem (does_at c p (stand_in c log p))
unfolding stand_in
stepped_words c p log = refl

-- the answer taken, if there is one
taken_stand : (c : Setting) (p : ℕ) (log : List Move) (at : Phase) → stand_in c (taken p at log) p ≡ rested at (stand_in c log p)
unfolding stand_in
taken_stand c p log (Phase.Finished told) = hold_here (reached c log).stand p (rests ((reached c log).stand p))
taken_stand c p log _ = refl

taken_words : (c : Setting) (p : ℕ) (log : List Move) (at : Phase) → (reached c (taken p at log)).mem ≡ (reached c log).mem
taken_words c p log at = grind arith

pub taken_history : (c : Setting) (p : ℕ) (log : List Move) (at : Phase) → history_of c (taken p at log) ≡ history_of c log
taken_history c p log at = grind arith

-- ---- all of one step on the table

module _ (c : Setting) (p : ℕ) (seen log : List Move) (call : Option Call) where
  abbrev first : List Move
  first = begun c p seen call log

  abbrev at_step : Stand
  at_step = entered c p seen call (stand_in c log p)

  first_found : word_in c first (word_of (does_at c p at_step)) ≡ word_in c log (word_of (does_at c p at_step))
  unfolding word_in
  first_found = ap (λ (m : Word → ℕ). m (word_of (does_at c p at_step))) (begun_words c p seen log call)

  pub added_stand : stand_in c (added c p seen call log) p ≡ after_step c p at_step (word_in c log (word_of (does_at c p at_step)))
  added_stand =
      taken_stand c p (Move.Step p ∷ first) (stand_in c (Move.Step p ∷ first) p).phase
      ∙ ap settled (stepped_stand c p first)
      ∙ ap (λ (at : Stand). settled (advanced c (chain_of c.config p) at (word_in c first (word_of (does_at c p at))))) (entered_stand c p seen log call)
      ∙ ap (λ (n : ℕ). settled (advanced c (chain_of c.config p) at_step n)) first_found

  pub added_words : (reached c (added c p seen call log)).mem ≡ stored (reached c log).mem (does_at c p at_step)
  added_words =
      taken_words c p (Move.Step p ∷ first) (stand_in c (Move.Step p ∷ first) p).phase
      ∙ stepped_words c p first
      ∙ ap (λ (at : Stand). stored (reached c first).mem (does_at c p at)) (entered_stand c p seen log call)
      ∙ ap (λ (m : Word → ℕ). stored m (does_at c p at_step)) (begun_words c p seen log call)

-- ---- what the pass did

pub made-others : (c : Setting) (more seen : List Move) (p : ℕ) → by p more ≡ [] → made_in c (more ++ seen) p ≡ made_in c seen p
unfolding made_in
made-others c more seen p none = (others_leave c more seen p none).1

pub did-others : (c : Setting) (more seen : List Move) (p : ℕ) → by p more ≡ [] → did_in c (more ++ seen) p ≡ did_in c seen p
unfolding did_in
did-others c more seen p none = (others_leave c more seen p none).2

taken_made : (c : Setting) (p : ℕ) (log : List Move) (at : Phase) → made_in c (taken p at log) p ≡ made_in c log p
unfolding made_in
taken_made c p log at = grind arith

taken_did : (c : Setting) (p : ℕ) (log : List Move) (at : Phase) → did_in c (taken p at log) p ≡ did_in c log p
unfolding did_in
taken_did c p log at = grind arith

begun_made : (c : Setting) (p : ℕ) (seen log : List Move) (call : Option Call) → made_in c (begun c p seen call log) p ≡ with_begun c p seen call (stand_in c log p) (made_in c log p)
unfolding made_in stand_in
begun_made c p seen log None = refl
begun_made c p seen log (Some call) =
    ap (λ (b : Bool). if b then made c log p ++ record { pass = pass_at c.config p; call = call; number = number_of call ((reached c log).stand p).begun; known = known_in c p seen } ∷ [] else made c log p) (eq-eqb p p refl)

begun_did : (c : Setting) (p : ℕ) (seen log : List Move) (call : Option Call) → did_in c (begun c p seen call log) p ≡ did_in c log p
unfolding did_in
begun_did c p seen log call = grind arith

step_made : (c : Setting) (p : ℕ) (log : List Move) → made_in c (Move.Step p ∷ log) p ≡ made_in c log p
unfolding made_in
step_made c p log = refl

step_did : (c : Setting) (p : ℕ) (log : List Move) → did_in c (Move.Step p ∷ log) p ≡ then_did (event_at (stand_in c log p).phase) (did_in c log p)
unfolding did_in stand_in
step_did c p log = ap (λ (b : Bool). if b then then_did (event_at (stand_in c log p).phase) (kinds c log p) else kinds c log p) (eq-eqb p p refl)

module _ (c : Setting) (p : ℕ) (seen log : List Move) (call : Option Call) where
  pub added_made : made_in c (added c p seen call log) p ≡ with_begun c p seen call (stand_in c log p) (made_in c log p)
  added_made =
      taken_made c p (Move.Step p ∷ begun c p seen call log) (stand_in c (Move.Step p ∷ begun c p seen call log) p).phase
      ∙ step_made c p (begun c p seen call log) ∙ begun_made c p seen log call

  pub added_did : did_in c (added c p seen call log) p ≡ then_did (event_at (entered c p seen call (stand_in c log p)).phase) (did_in c log p)
  added_did =
      taken_did c p (Move.Step p ∷ begun c p seen call log) (stand_in c (Move.Step p ∷ begun c p seen call log) p).phase
      ∙ step_did c p (begun c p seen call log)
      ∙ (λ i. then_did (event_at (entered_stand c p seen log call i).phase) (begun_did c p seen log call i))

-- its moves are put before the run, and all of them are the pass's own
pub record Own (p : ℕ) (log longer : List Move) : Type 0 where
  pub more : List Move
  pub is : longer ≡ more ++ log
  pub own : (q : ℕ) → p ≢ q → by q more ≡ []

begun_own : (c : Setting) (p : ℕ) (seen log : List Move) (call : Option Call) → Own p log (begun c p seen call log)
begun_own c p seen log None = record { more = []; is = refl; own = λ q ne. refl }
begun_own c p seen log (Some call) = record { more = Move.Begin p call (known_in c p seen) ∷ []; is = refl; own = λ q ne. by-other p q (Move.Begin p call (known_in c p seen)) [] refl ne refl }

step_own : (p : ℕ) (log longer : List Move) → Own p log longer → Own p log (Move.Step p ∷ longer)
step_own p log longer o = record { more = Move.Step p ∷ o.more; is = ap (λ (l : List Move). Move.Step p ∷ l) o.is; own = λ q ne. by-other p q (Move.Step p) o.more refl ne (o.own q ne) }

taken_own : (p : ℕ) (log longer : List Move) (at : Phase) → Own p log longer → Own p log (taken p at longer)
taken_own p log longer (Phase.Finished told) o = record { more = Move.Take p ∷ o.more; is = ap (λ (l : List Move). Move.Take p ∷ l) o.is; own = λ q ne. by-other p q (Move.Take p) o.more refl ne (o.own q ne) }
taken_own p log longer _ o = o

pub added_own : (c : Setting) (p : ℕ) (seen log : List Move) (call : Option Call) → Own p log (added c p seen call log)
added_own c p seen log call = taken_own p log (Move.Step p ∷ begun c p seen call log) _ (step_own p log (begun c p seen call log) (begun_own c p seen log call))

-- ---- the run goes on

pub run_seen : (c : Setting) (more seen : List Move) → IsRun c (more ++ seen) → IsRun c seen
run_seen c more seen r = (prefixes_begin c more seen r).0

taken_run : (c : Setting) (p : ℕ) (log : List Move) (at : Phase) → p < passes c → ((reached c log).stand p).phase ≡ at → IsRun c log → IsRun c (taken p at log)
taken_run c p log (Phase.Finished told) less is r = (r, (less, subst (λ (x : Phase). IsFinished x) (sym is) tt))
taken_run c p log _ less is r = r

begun_run : (c : Setting) (p : ℕ) (seen log : List Move) (call : Option Call) → p < passes c → CanStart c p call ((reached c log).stand p) → IsRun c log → ((known_in c p seen) ≤ known_in c p log) → IsRun c (begun c p seen call log)
begun_run c p seen log call less can r known = grind arith

step_can : (c : Setting) (p : ℕ) (seen log : List Move) (call : Option Call) (at : Stand) → CanStart c p call at → event_at (entered c p seen call at).phase ≢ Event.Idle
step_can c p seen log call at can = grind arith

pub added_run : (c : Setting) (p : ℕ) (seen log : List Move) (call : Option Call) → p < passes c → CanStart c p call (stand_in c log p) → IsRun c log → known_in c p seen ≤ known_in c p log → IsRun c (added c p seen call log) × IsRun c (begun c p seen call log)
unfolding stand_in
added_run c p seen log call less can r known =
    let a : IsRun c (begun c p seen call log) = begun_run c p seen log call less can r known in
    let b : event_at ((reached c (begun c p seen call log)).stand p).phase ≢ Event.Idle =
    subst (λ (at : Stand). event_at at.phase ≢ Event.Idle) (sym (entered_stand c p seen log call)) (step_can c p seen log call ((reached c log).stand p) can) in
    (taken_run c p (Move.Step p ∷ begun c p seen call log) _ less refl (a, (less, b)), a)

-- ---- each step is ready

-- a step of a pass that can do it is safe, also the first one of a call that begins
pub step_safe : (c : Setting) → config_fault c.config ≡ Ok tt → (p : ℕ) (seen log : List Move) (call : Option Call) (at : Stand) → p < passes c → IsRun c (begun c p seen call log) → stand_in c log p ≡ at
    → IsTrue (exists (layout_of c.config) (word_of (does_at c p (entered c p seen call at)))) × IsPhaseSafe c (entered c p seen call at).node (word_in c log (word_of (does_at c p (entered c p seen call at)))) (entered c p seen call at).phase
unfolding stand_in word_in
step_safe c checked p seen log call at less r stands =
    let law = (each_ready c checked (begun c p seen call log) r p less).safe in
    let is : (reached c (begun c p seen call log)).stand p ≡ entered c p seen call at = entered_stand c p seen log call ∙ ap (entered c p seen call) stands in
    let safe : IsSafe c (reached c (begun c p seen call log)) (chain_of c.config p) (entered c p seen call at).node (entered c p seen call at).phase =
    subst (λ (x : Stand). IsSafe c (reached c (begun c p seen call log)) (chain_of c.config p) x.node x.phase) is law in
    (safe.word, subst (λ (m : Word → ℕ). IsPhaseSafe c (entered c p seen call at).node (m (word_of (does_at c p (entered c p seen call at)))) (entered c p seen call at).phase) (begun_words c p seen log call) safe.numbers)

pub of_taken : (c : Setting) (p : ℕ) (log : List Move) (at : Phase) → IsRun c (taken p at log) → IsRun c log
of_taken c p log at r = grind arith

pub of_added : (c : Setting) (p : ℕ) (seen log : List Move) (call : Option Call) → IsRun c (added c p seen call log) → IsRun c (begun c p seen call log)
of_added c p seen log call r = (of_taken c p (Move.Step p ∷ begun c p seen call log) _ r).0

pub later_on : (xs ys zs : List Move) → GoesOn ys zs → GoesOn xs ys → GoesOn xs zs
later_on xs ys zs b a = record { more = b.more ++ a.more; is = b.is ∙ ap (λ (l : List Move). b.more ++ l) a.is ∙ sym (append_assoc b.more a.more xs) }
