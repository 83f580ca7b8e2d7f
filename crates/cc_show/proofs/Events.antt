-- The events of a run, turn by turn.
use Rattle.std.proofs.Common.{◌≡◌, ◌<◌, ◌≤◌, ℕ, zero, suc, ◌+◌, ◌-◌, List, [], ◌∷◌, ◌++◌, length, get_or, drop, Option, Some, None, refl, sym, ap, ◌∙◌, subst, arith, add-one}
use Rattle.std.proofs.lemmas.List.{length-append}
use Rattle.cc_runs.specs.declared.phase.Kind.{Kind}
use Rattle.cc_runs.specs.declared.phase.Event.{Event}
use Rattle.cc_runs.specs.declared.phase.Phase.{Phase}
use Rattle.cc_runs.specs.declared.run.Move.{Move}
use Rattle.cc_runs.specs.declared.word.Word.{Word}
use Rattle.cc_model.specs.declared.call.Call.{Call}
use Rattle.cc_model.specs.declared.call.Pass.{Pass}
use Rattle.cc_runs.specs.Lines.{event_at}
use Rattle.cc_runs.specs.Run.{reached, IsRun}
use Rattle.cc_machine.specs.Machine.{index_of}
use Rattle.cc_machine.specs.View.{View, state_in}
use Rattle.cc_machine.specs.Reads.{word_in}
use Rattle.cc_machine.proofs.Rows.{inside}
use Rattle.cc_plan.specs.Plan.{PlanValue}
use Rattle.cc_play.specs.Schedule.{setting_of, phase_in, begun_in, next_call, begins_at, begins, steps_at, steps, takes_at, turn, turns, entry, follow, run_of, IsAt, HasTurned, HasEnded}
use Rattle.cc_play.proofs.Followed.{LeadsOn, ended}
use Rattle.cc_play.proofs.Turns.{stays_on}
use Rattle.cc_show.specs.declared.player.ShownEvent.{ShownEvent}
use Rattle.cc_show.specs.Events.{done_at, noted, happened, Stands}
use Rattle.cc_show.proofs.Seen.{seen}

-- a begin is no event, nor is an answer taken; a step is one
begun_none : (plan : PlanValue) (row : ℕ) (at : Phase) (next : Option Call) (known : ℕ) (run : List Move) → happened plan (begins_at row at next known run) ≡ happened plan run
begun_none plan row Phase.Idle (Some call) known run = refl
begun_none plan row Phase.Idle None known run = refl
begun_none plan row _ next known run = refl

taken_none : (plan : PlanValue) (row : ℕ) (at : Phase) (run : List Move) → happened plan (takes_at row at run) ≡ happened plan run
taken_none plan row (Phase.Finished told) run = refl
taken_none plan row _ run = refl

stepped_one : (plan : PlanValue) (row : ℕ) (run : List Move) (e : Event) → e ≡ event_at (phase_in plan run row) → happened plan (steps_at row e run) ≡ noted e (done_at plan run row) (happened plan run)
stepped_one plan row run (Event.Did kind) is = ap (λ (x : Event). noted x (done_at plan run row) (happened plan run)) (sym is)
stepped_one plan row run Event.Idle is = refl

-- a turn
turn_noted : (plan : PlanValue) (who : Pass) (row : ℕ) (run : List Move)
    → happened plan (turn plan who row run) ≡ noted (event_at (phase_in plan (begins plan who row run) row)) (done_at plan (begins plan who row run) row) (happened plan run)
unfolding turn
turn_noted plan who row run =
    let begun : List Move = begins plan who row run in
    taken_none plan row (phase_in plan (steps plan row begun) row) (steps plan row begun) ∙ stepped_one plan row begun (event_at (phase_in plan begun row)) refl
    ∙ ap (λ (events : List ShownEvent). noted (event_at (phase_in plan begun row)) (done_at plan begun row) events) (begun_none plan row (phase_in plan run row) (next_call plan who (begun_in row run)) _ run)

-- ---- an entry

-- these turns led there, of each run that the machine may have been at
pub record HasShown (plan : PlanValue) (who : Pass) (row n : ℕ) (old new : View) (begun_old begun_new : List ℕ) (had events : List ShownEvent) : Type 0 where
  pub on : (run : List Move) → Stands plan old begun_old had run → Stands plan new begun_new events (turns plan who row n run)

module _ (plan : PlanValue) (who : Pass) (row : ℕ) (named : index_of (setting_of plan) who ≡ Some row) where
  pub none_shown : (m : View) (begun : List ℕ) (events : List ShownEvent) → HasShown plan who row 0 m m begun begun events events
  none_shown m begun events = record { on = λ run s. s }

  -- one turn more
  turned_more : (m1 m2 : View) (begun1 begun2 : List ℕ) (events : List ShownEvent) (n : ℕ) (e : Event) (run : List Move) → Stands plan m1 begun1 events (turns plan who row n run)
      → HasTurned plan who row m1 m2 begun1 begun2 e → Stands plan m2 begun2 (noted e (done_at plan (begins plan who row (turns plan who row n run)) row) events) (turns plan who row (suc n) run)
  turned_more m1 m2 begun1 begun2 events n e run s turned =
      let here : List Move = turns plan who row n run in
      let done : Kind → ShownEvent = done_at plan (begins plan who row here) row in
      record {
        at = turned.at here s.at;
        told = ap (noted e done) s.told ∙ ap (λ (x : Event). noted x done (happened plan here)) (turned.told here s.at) ∙ sym (turn_noted plan who row here);
      }

  -- with an event, which was read before and after
  pub one_more : (m m1 m2 : View) (begun begun1 begun2 : List ℕ) (had events events2 : List ShownEvent) (n : ℕ) (kind : Kind) → HasShown plan who row n m m1 begun begun1 had events → HasTurned plan who row m1 m2 begun1 begun2 (Event.Did kind)
      → (word : Word) (before after : ℕ) → events2 ≡ events ++ record { row = row; pass = who; call = get_or begun2 row 0; kind = kind; word = word; before = before; after = after } ∷ []
      → word ≡ word_in m1 row → before ≡ (state_in m1).mem word → after ≡ (state_in m2).mem word → HasShown plan who row (n + 1) m m2 begun begun2 had events2
  one_more m m1 m2 begun begun1 begun2 had events events2 n kind shown turned word before after new word_is before_is after_is = record {
    on = λ run stands.
        let here : List Move = turns plan who row n run in
        let s = shown.on run stands in
        let later : IsAt plan m2 begun2 (turn plan who row here) = turned.at here s.at in
        let within : row < length begun2 = omega (arith, later.rows, inside (setting_of plan) who row named) in
        let is = seen plan who row named m1 m2 begun1 begun2 kind here s.at later within (sym (turned.told here s.at)) (get_or begun2 row 0) word before after refl word_is before_is after_is in
        rw (add-one n) (subst (λ (es : List ShownEvent). Stands plan m2 begun2 es (turns plan who row (suc n) run)) (sym (new ∙ ap (λ (d : ShownEvent). events ++ d ∷ []) is))
        (turned_more m1 m2 begun1 begun2 events n (Event.Did kind) run s turned));
  }

  -- the pass has no event more
  pub no_more : (m m1 m2 : View) (begun begun1 begun2 : List ℕ) (had events : List ShownEvent) (n count : ℕ) → n < count → HasShown plan who row n m m1 begun begun1 had events → HasTurned plan who row m1 m2 begun1 begun2 Event.Idle
      → (run : List Move) → Stands plan m begun had run → Stands plan m2 begun2 events (entry plan who (index_of (setting_of plan) who) count run)
  no_more m m1 m2 begun begun1 begun2 had events n count less shown turned run stands =
      let s = shown.on run stands in
      let now : Stands plan m2 begun2 events (turns plan who row (suc n) run) = turned_more m1 m2 begun1 begun2 events n Event.Idle run s turned in
      let over : HasEnded plan who row (turns plan who row (suc n) run) = turned.ended (turns plan who row n run) s.at refl in
      let rest : suc n + (count - suc n) ≡ count = omega arith in
      let stays : turns plan who row count run ≡ turns plan who row (suc n) run = ap (λ (k : ℕ). turns plan who row k run) (sym rest) ∙ stays_on plan who row named (suc n) (count - suc n) run over in
      rw (named, stays) now

  pub all_shown : (m m1 : View) (begun begun1 : List ℕ) (had events : List ShownEvent) (n count : ℕ) → n ≡ count → HasShown plan who row n m m1 begun begun1 had events
      → (run : List Move) → Stands plan m begun had run → Stands plan m1 begun1 events (entry plan who (index_of (setting_of plan) who) count run)
  all_shown m m1 begun begun1 had events n count last shown run stands = rw (named, ← last) (shown.on run stands)

-- ---- later runs have the events of the earlier ones

noted_grows : (e : Event) (done : Kind → ShownEvent) (events : List ShownEvent) → length events ≤ length (noted e done events)
noted_grows (Event.Did kind) done events = omega (arith, length-append events (done kind ∷ []))
noted_grows Event.Idle done events = omega arith

turn_grows : (plan : PlanValue) (who : Pass) (row : ℕ) (run : List Move) → length (happened plan run) ≤ length (happened plan (turn plan who row run))
turn_grows plan who row run = rw (turn_noted plan who row run) (noted_grows (event_at (phase_in plan (begins plan who row run) row)) (done_at plan (begins plan who row run) row) (happened plan run))

turns_grow : (plan : PlanValue) (who : Pass) (row n : ℕ) (run : List Move) → length (happened plan run) ≤ length (happened plan (turns plan who row n run))
turns_grow plan who row zero run = omega arith
turns_grow plan who row (suc n) run =
    let before : length (happened plan run) ≤ length (happened plan (turns plan who row n run)) = turns_grow plan who row n run in
    let last : length (happened plan (turns plan who row n run)) ≤ length (happened plan (turn plan who row (turns plan who row n run))) = turn_grows plan who row (turns plan who row n run) in
    omega (arith, before, last)

entry_grows : (plan : PlanValue) (who : Pass) (row : Option ℕ) (n : ℕ) (run : List Move) → length (happened plan run) ≤ length (happened plan (entry plan who row n run))
entry_grows plan who (Some row) n run = turns_grow plan who row n run
entry_grows plan who None n run = omega arith

follow_grows : (plan : PlanValue) (entries : List (Pass × ℕ)) (run : List Move) → length (happened plan run) ≤ length (happened plan (follow plan entries run))
follow_grows plan [] run = omega arith
follow_grows plan (e ∷ entries) run =
    let first : length (happened plan run) ≤ length (happened plan (entry plan e.0 (index_of (setting_of plan) e.0) e.1 run)) = entry_grows plan e.0 (index_of (setting_of plan) e.0) e.1 run in
    let rest : length (happened plan (entry plan e.0 (index_of (setting_of plan) e.0) e.1 run)) ≤ length (happened plan (follow plan entries (entry plan e.0 (index_of (setting_of plan) e.0) e.1 run)))
    = follow_grows plan entries (entry plan e.0 (index_of (setting_of plan) e.0) e.1 run) in
    omega (arith, first, rest)

-- more events than a limit on the way to a plan's run
pub too_many : (plan : PlanValue) (m : View) (begun : List ℕ) (events : List ShownEvent) (i limit : ℕ) → LeadsOn plan (Stands plan m begun events) i → limit < length events → limit < length (happened plan (run_of plan))
too_many plan m begun events i limit on many =
    let grown = subst (λ (r : List Move). length (happened plan on.run) ≤ length (happened plan r)) on.leads (follow_grows plan (drop i plan.schedule) on.run) in
    omega (arith, ap length on.at.told, many, grown)

-- all entries were followed
pub all_told : (plan : PlanValue) (m : View) (begun : List ℕ) (events : List ShownEvent) (i : ℕ) → length plan.schedule ≤ i → LeadsOn plan (Stands plan m begun events) i → IsRun (setting_of plan) (run_of plan)
    × (m.setting ≡ setting_of plan)
    × (state_in m ≡ reached (setting_of plan) (run_of plan))
    × (events ≡ happened plan (run_of plan))
all_told plan m begun events i past on = let s = ended plan (Stands plan m begun events) i past on in (s.at.moves, s.at.setting, s.at.state, s.told)
