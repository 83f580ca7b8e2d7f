-- The passes of the queue keep the finer discipline, so that each of their runs with store buffers is linearizable.
use Rattle.std.proofs.Common.{◌≡◌, ℕ, true, false, refl, ap, sym, ◌∙◌, subst, List, ◌∷◌, Option, None, Ok, arith}
use Rattle.std.specs.Prelude.{nat_lt}
use Rattle.cc_model.specs.Config.{config_fault}
use Rattle.cc_x86.specs.Program as threads
use Rattle.cc_x86.specs.Program.{Turn}
use Rattle.cc_x86.specs.Sequential as atomic
use Rattle.cc_x86.specs.Buffered as buffers
use Rattle.cc_x86.specs.Buffered.{Waiting}
use Rattle.cc_x86.specs.Posted.{AreWaiting, Leads, Opens, Posts, Looks, Writes, Settles, IsOrderly, IsFromStore}
use Rattle.cc_x86.specs.Early.{early, waits_at, waiting, early_turns, early_order, LinearizableWithEarlyStores}
use Rattle.cc_x86.specs.Names.{Setting, Served, Answer, Chain, Word, Stand, Phase, Move}
use Rattle.cc_x86.specs.Threads.{Ask, passes_as_threads, opened, after_at, move_at, moves_of}
use Rattle.cc_x86.specs.OnX86.{MayBegin}
use Rattle.cc_x86.proofs.InTime.{moves_add}
use Rattle.cc_x86.proofs.Stores.{contradiction}
use Rattle.cc_x86.proofs.Posted.{alike_if, order_adds}
use Rattle.cc_x86.proofs.Threads.{IsBusy, busy_next, busy_after, stands_so, may_earlier, keeps}
use Rattle.cc_x86.proofs.Early.Phases.{IsStore}
use Rattle.cc_x86.proofs.Early.Known.{chain, Facts, Invariant, thread_apart}
use Rattle.cc_x86.proofs.Early.Turns.{acting, op_store, store_busy, T}
use Rattle.cc_x86.proofs.Early.Posts.{posts_keep}
use Rattle.cc_x86.proofs.Early.Keeps.{look_acts, write_acts, looks_keep, writes_keep}
use Rattle.cc_x86.proofs.Early.Settles.{settles_keep}
use Rattle.cc_runs.specs.SendLines as send_side
use Rattle.cc_runs.specs.TakeLines as take_side
use Rattle.cc_runs.specs.CountLines as count_side
use Rattle.cc_runs.specs.Lines.{operation}
use Rattle.cc_runs.specs.Step.{advanced}
use Rattle.cc_runs.specs.Run.{passes, reached, IsRun, IsFinished}
use Rattle.cc_runs.specs.MachineLaws.{PreparedAlone, HistoryIsLegal, AnswersAreTold}
use Rattle.cc_runs.specs.ChainLaws.{ChainLawsOfRuns}
use Rattle.cc_runs.specs.NodeLaws.{NodeLawsOfRuns}
use Rattle.cc_runs.specs.Linearizable.{RunsAreLinearizable}

module _ (c : Setting) (asks : ℕ → Ask) where
  -- the state of the atomic machine after turns
  abbrev now : List Turn → threads.State Word Stand
  now ts = atomic.reached (passes_as_threads c asks) (opened c) ts

  is_run : {ts : List Turn} {settled : Word → ℕ} {posted : ℕ → List (Waiting Word)} {busy : Option ℕ} → Leads (T c asks) (early c) waiting (opened c) ts settled posted busy → atomic.IsRun (T c asks) (opened c) ts
  is_run Opens = tt
  is_run (Posts p w v l its agrees is plain) = (is_run l, subst (λ (o : threads.Operation Word). atomic.Acts o) (sym is) tt)
  is_run (Looks {ts} {settled} {posted} p told does l its is look) =
      (is_run l, subst (λ (o : threads.Operation Word). atomic.Acts o) (sym is) (look_acts p ((now ts).own p) (now ts).words (posted p) settled does look))
  is_run (Writes p told does l is write none) = (is_run l, subst (λ (o : threads.Operation Word). atomic.Acts o) (sym is) (write_acts does write))
  is_run (Settles p e newer l is) = is_run l

  module _ (chains : ChainLawsOfRuns) (nodes : NodeLawsOfRuns) (prepared_alone : PreparedAlone) (list : c.served ≡ Served.List) (checked : config_fault c.config ≡ Ok tt) where
    -- what callers begin, they may
    abbrev Begins : List Turn → Type 0
    Begins ts = MayBegin c (moves_of c asks ts)

    pub begins_before : (t : Turn) (ts : List Turn) → Begins (t ∷ ts) → Begins ts
    begins_before t ts may = (may_earlier c asks (move_at asks t ((now ts).own t.thread).phase) (moves_of c asks ts) may).0

    facts : (moves : List Move) → IsRun c moves → Facts c record { words = (reached c moves).mem; own = (reached c moves).stand }
    facts moves run =
        let law = chains c checked moves run in record {
          nodes = nodes c checked moves run;
          one = law.one;
          apart = law.apart;
          own_link = law.own_link;
          alone = prepared_alone c moves list checked run;
        }

    facts_now : (ts : List Turn) → atomic.IsRun (T c asks) (opened c) ts → Begins ts → Facts c (now ts)
    facts_now ts run may =
        let k = keeps c asks ts run may in
        subst (Facts c) (λ i. record { words = k.mem i; own = k.stand i }) (facts (moves_of c asks ts) k.run)

    holds : {ts : List Turn} {settled : Word → ℕ} {posted : ℕ → List (Waiting Word)} {busy : Option ℕ} → Leads (T c asks) (early c) waiting (opened c) ts settled posted busy → Begins ts
        → Invariant c record { r = now ts; settled = settled; posted = posted; busy = busy }
    holds Opens may = record {
      inside = λ p w posts. absurd (contradiction false posts refl);
      known = λ p w posts. absurd (contradiction false posts refl);
      apart = λ p q w posts other. absurd (contradiction false posts refl);
      ends = λ p takes. tt;
    }
    holds (Posts {ts} {settled} {posted} {busy} p w v l its agrees is plain) may =
        let before : Begins ts = begins_before record { thread = p; told = 0 } ts may in
        posts_keep c asks record { r = now ts; settled = settled; posted = posted; busy = busy } (facts_now ts (is_run l) before) (holds l before) p its agrees w v is plain
    holds (Looks {ts} {settled} {posted} {busy} p told does l its is look) may =
        let before : Begins ts = begins_before record { thread = p; told = told } ts may in
        looks_keep c asks record { r = now ts; settled = settled; posted = posted; busy = busy } (facts_now ts (is_run l) before) (holds l before) p its told does is look
    holds (Writes {ts} {settled} {posted} p told does l is write none) may =
        let before : Begins ts = begins_before record { thread = p; told = told } ts may in
        writes_keep c asks record { r = now ts; settled = settled; posted = posted; busy = None } (facts_now ts (is_run l) before) (holds l before) p tt told does is write none
    holds (Settles {ts} {settled} {posted} p e newer l is) may =
        settles_keep c record { r = now ts; settled = settled; posted = posted; busy = None } (holds l may) p e newer refl is

    pub orderly : IsOrderly (T c asks) (early c) waiting (opened c) Begins
    orderly ts settled posted busy l may p its =
        thread_apart c record { r = now ts; settled = settled; posted = posted; busy = busy } (facts_now ts (is_run l) may) (holds l may) p its (nat_lt p (passes c)) refl

  -- ---- the theorem

  waiting_stays : (p begun own : ℕ) (here : Phase) (x : ℕ) → waits_at here x ≡ true → after_at c asks p record { begun = begun; node = own; phase = here } here x ≡ record { begun = begun; node = own; phase = here }
  waiting_stays p begun own here x it = grind arith

  pub are_waiting : AreWaiting (T c asks) waiting
  are_waiting p own x it = waiting_stays p own.begun own.node own.phase x it

  -- no store ends a call
  store_ends : (x : Chain) (begun own : ℕ) (here : Phase) → IsStore (operation c x own here) → IsFinished (advanced c x record { begun = begun; node = own; phase = here } 0).phase → ⊥
  store_ends x begun own here st e = grind arith

  pub finished_looked : (p : ℕ) (own : Stand) (answer : Answer) → own.phase ≡ Phase.Finished answer → IsFromStore (T c asks) p own → ⊥
  finished_looked p own answer e (from, w, v, is, goes_so) =
      let a = acting c asks p from (threads.Store w v) is tt in
      let is_busy : IsBusy from.phase = store_busy c (chain c p) from.node from.phase w v a.1 (stands_so from.phase) in
      let o = op_store (operation c (chain c p) from.node from.phase) w v (sym (busy_next c (chain c p) from.node from.phase is_busy) ∙ a.1) in
      store_ends (chain c p) from.begun from.node from.phase o.0
      (subst (λ (z : Stand). IsFinished z.phase) (sym goes_so ∙ busy_after c asks p from from.phase 0 is_busy) (subst IsFinished (sym e) tt))

pub linearizable_early : ChainLawsOfRuns → NodeLawsOfRuns → PreparedAlone → HistoryIsLegal → AnswersAreTold → RunsAreLinearizable → LinearizableWithEarlyStores
linearizable_early chains nodes prepared legal told linear c asks moves list checked run may =
    let Begins : List Turn → Type 0 = λ ts. MayBegin c (moves_of c asks ts) in
    let k = alike_if Word Stand (passes_as_threads c asks) (early c) waiting (opened c) Begins moves (are_waiting c asks) (begins_before c asks chains nodes prepared list checked) (orderly c asks chains nodes prepared list checked) run may in
    let j = keeps c asks (early_turns c asks moves) k.run may in
    record {
      run = j.run;
      outside = k.outside;
      legal = legal c (early_order c asks moves) list checked j.run;
      told = λ p answer inside e.
          told c (early_order c asks moves) list checked j.run p answer inside
          (ap (λ (f : ℕ → Stand). (f p).phase) j.stand
          ∙ ap (λ (z : Stand). z.phase) (k.own p (k.done p (finished_looked c asks p ((buffers.arrived (passes_as_threads c asks) (early c) (opened c) moves).own p) answer e))) ∙ e);
      linearizable = linear c (early_order c asks moves) list checked j.run;
      in_time = λ later front e.
          let t = order_adds (passes_as_threads c asks) (early c) waiting (opened c) later front in
          let u = moves_add c asks t.0 (early_turns c asks front) in
          (u.0, ap (λ (l : List buffers.Move). early_order c asks l) e ∙ ap (λ (l : List Turn). moves_of c asks l) t.1 ∙ u.1);
    }
