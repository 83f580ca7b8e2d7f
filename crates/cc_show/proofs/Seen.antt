-- The step of a turn: its word, and its values as they are read before and after the turn.
use Rattle.std.proofs.Common.{◌≡◌, ◌<◌, ℕ, List, ◌∷◌, length, get_or, Option, Some, None, refl, sym, ap, ◌∙◌}
use Rattle.cc_show.specs.Names.{Call, Pass, Phase, Kind, Event, Move, Word}
use Rattle.cc_runs.specs.declared.setting.Setting.{Setting}
use Rattle.cc_runs.specs.declared.phase.Stand.{Stand}
use Rattle.cc_runs.specs.Lines.{event_at, operation}
use Rattle.cc_runs.specs.State.{State, chain_of, word_of}
use Rattle.cc_runs.specs.Run.{reached, begins as begun_stand}
use Rattle.cc_runs.proofs.Chains.Frame.{hold_here}
use Rattle.cc_machine.specs.Machine.{index_of}
use Rattle.cc_machine.specs.View.{View, state_in}
use Rattle.cc_machine.specs.Reads.{word_next, word_in}
use Rattle.cc_machine.proofs.Rows.{named as row_named}
use Rattle.cc_plan.specs.Plan.{PlanValue}
use Rattle.cc_play.specs.Schedule.{setting_of, phase_in, begun_in, next_call, begins_at, begins, steps_at, steps, takes_at, turn, IsAt}
use Rattle.cc_show.specs.Events.{touched, done_at}

-- neither a begin nor an answer that is taken changes a word
begun_mem : (c : Setting) (row : ℕ) (at : Phase) (next : Option Call) (known : ℕ) (run : List Move) → (reached c (begins_at row at next known run)).mem ≡ (reached c run).mem
begun_mem c row Phase.Idle (Some call) known run = refl
begun_mem c row Phase.Idle None known run = refl
begun_mem c row _ next known run = refl

taken_mem : (c : Setting) (row : ℕ) (at : Phase) (run : List Move) → (reached c (takes_at row at run)).mem ≡ (reached c run).mem
taken_mem c row (Phase.Finished told) run = refl
taken_mem c row _ run = refl

-- neither a step nor an answer that is taken begins a call
taken_count : (row : ℕ) (at : Phase) (run : List Move) → begun_in row (takes_at row at run) ≡ begun_in row run
taken_count row (Phase.Finished told) run = refl
taken_count row _ run = refl

stepped_count : (row : ℕ) (e : Event) (run : List Move) → begun_in row (steps_at row e run) ≡ begun_in row run
stepped_count row (Event.Did kind) run = refl
stepped_count row Event.Idle run = refl

-- the word of a turn's event is known before the turn: a call begins with the link of its pass's node
begun_word : (plan : PlanValue) (row : ℕ) (run : List Move) (next : Option Call) (known : ℕ) (kind : Kind) (at : Phase) → at ≡ phase_in plan run row
    → event_at (phase_in plan (begins_at row at next known run) row) ≡ Event.Did kind
    → word_next (setting_of plan) (chain_of plan.config row) ((reached (setting_of plan) run).stand row).node at ≡ touched plan (reached (setting_of plan) (begins_at row at next known run)) row
begun_word plan row run (Some call) known kind Phase.Idle is e =
    let stands = (reached (setting_of plan) run).stand in
    sym (ap (λ (z : Stand). word_of (operation (setting_of plan) (chain_of plan.config row) z.node z.phase)) (hold_here stands row (begun_stand plan.config row call known (stands row))))
begun_word plan row run None known kind Phase.Idle is e = cc (ap event_at is ∙ e)
begun_word plan row run next known kind (Phase.Finished told) is e = cc (ap event_at is ∙ e)
begun_word plan row run next known kind _ is e = ap (λ (p : Phase). word_of (operation (setting_of plan) (chain_of plan.config row) ((reached (setting_of plan) run).stand row).node p)) is

module _ (plan : PlanValue) (who : Pass) (row : ℕ) (named : index_of (setting_of plan) who ≡ Some row) where
  -- what is read before and after a turn is what its step found and left
  pub seen : (m1 m2 : View) (begun1 begun2 : List ℕ) (kind : Kind) (run : List Move) → IsAt plan m1 begun1 run → IsAt plan m2 begun2 (turn plan who row run) → row < length begun2
      → event_at (phase_in plan (begins plan who row run) row) ≡ Event.Did kind → (call : ℕ) (word : Word) (before after : ℕ) → call ≡ get_or begun2 row 0 → word ≡ word_in m1 row
      → before ≡ (state_in m1).mem word → after ≡ (state_in m2).mem word
      → record { row = row; pass = who; call = call; kind = kind; word = word; before = before; after = after } ≡ done_at plan (begins plan who row run) row kind
  unfolding turn
  seen m1 m2 begun1 begun2 kind run at1 at2 within e call word before after call_is word_is before_is after_is = λ i. record {
    row = row;
    pass = sym (row_named (setting_of plan) who row named) i;
    call = same_call i;
    kind = kind;
    word = same_word i;
    before = same_before i;
    after = same_after i;
  }
    where
      c : Setting
      c = setting_of plan

      begun : List Move
      begun = begins plan who row run

      done : List Move
      done = steps plan row begun

      same_call : call ≡ begun_in row begun
      same_call = call_is ∙ at2.counts row within ∙ taken_count row (phase_in plan done row) done ∙ stepped_count row (event_at (phase_in plan begun row)) begun

      same_word : word ≡ touched plan (reached c begun) row
      same_word = word_is
          ∙ ap (λ (k : Setting). word_next k (chain_of k.config row) ((state_in m1).stand row).node ((state_in m1).stand row).phase) at1.setting
          ∙ ap (λ (s : State). word_next c (chain_of plan.config row) (s.stand row).node (s.stand row).phase) at1.state
          ∙ begun_word plan row run (next_call plan who (begun_in row run)) _ kind (phase_in plan run row) refl e

      same_before : before ≡ (reached c begun).mem (touched plan (reached c begun) row)
      same_before = before_is
          ∙ ap (λ (s : State). s.mem word) at1.state
          ∙ sym (ap (λ (mem : Word → ℕ). mem word) (begun_mem c row (phase_in plan run row) (next_call plan who (begun_in row run)) _ run))
          ∙ ap (reached c begun).mem same_word

      same_after : after ≡ (reached c (Move.Step row ∷ begun)).mem (touched plan (reached c begun) row)
      same_after = after_is
          ∙ ap (λ (s : State). s.mem word) at2.state
          ∙ ap (λ (mem : Word → ℕ). mem word) (taken_mem c row (phase_in plan done row) done)
          ∙ ap (λ (x : Event). (reached c (steps_at row x begun)).mem word) e
          ∙ ap (reached c (Move.Step row ∷ begun)).mem same_word
