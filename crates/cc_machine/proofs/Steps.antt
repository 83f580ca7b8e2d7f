-- A row of a table is the step of its phase, once what it found is known.
use Rattle.std.proofs.Common.{◌≡◌, ℕ, None, ap, sym, subst, ◌∙◌, arith}
use Rattle.cc_machine.specs.Names.{Kind, Event, Phase, Word, Board, Stepper}
use Rattle.cc_runs.specs.State.{hold, stored, word_of}
use Rattle.cc_runs.specs.Lines.{event_at, operation, enters, decides}
use Rattle.cc_runs.specs.Step.{advanced}
use Rattle.cc_runs.proofs.Chains.Facts.{noted_none}
use Rattle.cc_machine.specs.BoardSteps.{state_of, stand_of, Keeps, Stepped}

-- what the step of this stepper finds in this phase
abbrev pub found_at : Board → Stepper → Phase → ℕ
found_at b who at = (state_of b).mem (word_of (operation b.setting who.chain who.node at))

-- the step of a service, at its phase of the table, that leads here and puts nothing into the history
pub row : {A : Type 0} (at : A → Phase) {old new : Board} {who : Stepper} {service s : A} {to : Phase} {kind k : Kind} {mem : Word → ℕ} → service ≡ s → kind ≡ k
    → state_of new ≡ record (state_of old) { mem = mem; stand = hold (state_of old).stand who.pass (stand_of who to) } → Keeps old new
    → event_at (at s) ≡ Event.Did k → mem ≡ stored (state_of old).mem (operation old.setting who.chain who.node (at s))
    → stand_of who to ≡ advanced old.setting who.chain (stand_of who (at s)) (found_at old who (at s)) → None ≡ enters (at s) → None ≡ decides old.setting (at s) (found_at old who (at s))
    → Stepped old who (at service) kind new
row at {old} {new} {who} {service} {s} {to} {kind} {k} {mem} same did is keeps event does leads enter decide =
    subst (λ z. Stepped old who (at z) kind new) (sym same) (record {
      kind_is = event ∙ ap Event.Did (sym did);
      state = grind (arith, is, does, leads, enter, decide, noted_none who.chain (state_of old).history);
      keeps = keeps;
    })
