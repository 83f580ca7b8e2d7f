use Rattle.std.proofs.Common.{◌≡◌, ap, ◌<◌, ◌≤◌, List, ℕ, [], true, false, length, refl, sym, subst, ◌∙◌, rules, arith}
use Rattle.cc_log.specs.Lines.{HasLines, IsAhead, held, line_limit, lines_if}
use Rattle.cc_log.proofs.Ahead.{gave_out, held_none, last_given, none_given, not_zero, some_ahead, sound_after, then_has, too_long}
use Rattle.std.proofs.Common.{true≢false}
use Rattle.std.proofs.lemmas.Bool.{eqb-true}
use Rattle.std.specs.Bool.{OnFalse}
use Rattle.cc_log.specs.Answers.{failed_by, failed_reads}
use Rattle.cc_log.specs.Names.{LogFault}
use Rattle.cc_log.proofs.Failed.{failed_on}
use Rattle.cc_log.proofs.lines.Lines.next.Goals as goal
use Rattle.cc_log.proofs.lines.Lines.next.Goals.{else-self-via-then-self+else-is_empty, else-self-via-else-self}

pub returns-then-len-gt-LINE_LIMIT-clause-fault : goal.returns-then-len-gt-LINE_LIMIT-clause-fault
returns-then-len-gt-LINE_LIMIT-clause-fault g c =
    let left = g.R.Source.bytes_left c.loop.source in
    let out = c.in_ok-found.ensures in
    let sound = sound_after c.loop.self c.give_out.new.self left c.loop.invariant.sound out.same.0 out.same.1 out.same.2 out.begins in
    let some = some_ahead c.give_out.new.self left sound in
    let long : line_limit < length c.give_out.new.line.items = search rules in (
      refl,
      refl,
      too_long c.in_ok-found.found c.args.self.now (g.R.Source.bytes_left c.args.source.now) c.give_out.new.line.items some.0
          (then_has c.args.self.now c.loop.self (g.R.Source.bytes_left c.args.source.now) left c.loop.line.items (lines_if c.in_ok-found.found c.give_out.new.line.items some.0) c.loop.invariant.so_far
          (gave_out c.loop.self c.give_out.new.self left c.loop.line.items c.give_out.new.line.items c.in_ok-found.found out.same.2 out.lines some.0 some.1)) long,
    )

pub returns-then-found-clause-line : goal.returns-then-found-clause-line
returns-then-found-clause-line g c = λ after ahead.
    let left = g.R.Source.bytes_left c.loop.source in
    let out = c.in_ok-found.ensures in
    subst (λ b. HasLines c.args.self.now (g.R.Source.bytes_left c.args.source.now) [] (lines_if b c.give_out.new.line.items after)) c.if-found.true
    (then_has c.args.self.now c.loop.self (g.R.Source.bytes_left c.args.source.now) left c.loop.line.items (lines_if c.in_ok-found.found c.give_out.new.line.items after) c.loop.invariant.so_far
    (gave_out c.loop.self c.give_out.new.self left c.loop.line.items c.give_out.new.line.items c.in_ok-found.found out.same.2 out.lines after ahead))

pub returns-then-is_empty-clause-none : goal.returns-then-is_empty-clause-none
returns-then-is_empty-clause-none g c =
    let left = g.R.Source.bytes_left c.loop.source in
    let out = c.in_ok-found.ensures in
    let new = c.give_out.new.self in
    let sound = sound_after c.loop.self new left c.loop.invariant.sound out.same.0 out.same.1 out.same.2 out.begins in
    let empty : new.start ≡ new.end = subst (λ b. OnFalse b (new.start ≡ new.end)) c.if-found.false out.none in
    let zero : c.give_out.new.line.len ≡ 0 = eqb-true c.give_out.new.line.len 0 (sym c.is_empty.ensures ∙ c.if-is_empty.true) in
    none_given c.args.self.now new (g.R.Source.bytes_left c.args.source.now) left c.give_out.new.line.items sound (held_none new.chunk.items new.start new.end empty) c.if-self.true (sym c.give_out.new.line.ok.0 ∙ zero)
    (λ after ahead. subst (λ b. HasLines c.args.self.now (g.R.Source.bytes_left c.args.source.now) [] (lines_if b c.give_out.new.line.items after)) c.if-found.false
    (then_has c.args.self.now c.loop.self (g.R.Source.bytes_left c.args.source.now) left c.loop.line.items (lines_if c.in_ok-found.found c.give_out.new.line.items after) c.loop.invariant.so_far
    (gave_out c.loop.self new left c.loop.line.items c.give_out.new.line.items c.in_ok-found.found out.same.2 out.lines after ahead)))

pub returns-then-self-2-clause-line : goal.returns-then-self-2-clause-line
returns-then-self-2-clause-line g c =
    let left = g.R.Source.bytes_left c.loop.source in
    let out = c.in_ok-found.ensures in
    let new = c.give_out.new.self in
    let empty : new.start ≡ new.end = subst (λ b. OnFalse b (new.start ≡ new.end)) c.if-found.false out.none in
    let passes = λ (after : List ℕ) (ahead : IsAhead new left after). subst (λ b. HasLines c.args.self.now (g.R.Source.bytes_left c.args.source.now) [] (lines_if b c.give_out.new.line.items after)) c.if-found.false
    (then_has c.args.self.now c.loop.self (g.R.Source.bytes_left c.args.source.now) left c.loop.line.items (lines_if c.in_ok-found.found c.give_out.new.line.items after) c.loop.invariant.so_far
    (gave_out c.loop.self new left c.loop.line.items c.give_out.new.line.items c.in_ok-found.found out.same.2 out.lines after ahead)) in
    elim c.else-self.branch [
      | else-self-via-then-self+else-is_empty w ↦
          (let some : 0 < length c.give_out.new.line.items = subst (λ n. 0 < n) c.give_out.new.line.ok.0 (not_zero c.give_out.new.line.len (sym w.is_empty.ensures ∙ w.if-is_empty.false)) in
          last_given c.args.self.now new (g.R.Source.bytes_left c.args.source.now) left c.give_out.new.line.items (held_none new.chunk.items new.start new.end empty) c.if-self-2.true some passes)
      | else-self-via-else-self w ↦ absurd (true≢false (sym c.if-self-2.true ∙ w.if-self.false))
    ]

pub returns-then-found-clause-sound : goal.returns-then-found-clause-sound
returns-then-found-clause-sound g c =
    let out = c.in_ok-found.ensures in
    sound_after c.loop.self c.give_out.new.self (g.R.Source.bytes_left c.loop.source) c.loop.invariant.sound out.same.0 out.same.1 out.same.2 out.begins

pub returns-then-is_empty-clause-sound : goal.returns-then-is_empty-clause-sound
returns-then-is_empty-clause-sound g c =
    let out = c.in_ok-found.ensures in
    sound_after c.loop.self c.give_out.new.self (g.R.Source.bytes_left c.loop.source) c.loop.invariant.sound out.same.0 out.same.1 out.same.2 out.begins

pub returns-then-self-2-clause-sound : goal.returns-then-self-2-clause-sound
returns-then-self-2-clause-sound g c =
    let out = c.in_ok-found.ensures in
    sound_after c.loop.self c.give_out.new.self (g.R.Source.bytes_left c.loop.source) c.loop.invariant.sound out.same.0 out.same.1 out.same.2 out.begins

pub fill-requires-clause-sound : goal.fill-requires-clause-sound
fill-requires-clause-sound g c =
    let out = c.in_ok-found.ensures in
    sound_after c.loop.self c.give_out.new.self (g.R.Source.bytes_left c.loop.source) c.loop.invariant.sound out.same.0 out.same.1 out.same.2 out.begins

pub fill-requires-clause-empty : goal.fill-requires-clause-empty
fill-requires-clause-empty g c = subst (λ b. OnFalse b (c.give_out.new.self.start ≡ c.give_out.new.self.end)) c.if-found.false c.in_ok-found.ensures.none

pub loop-preserved : goal.loop-preserved
loop-preserved g c =
    let left = g.R.Source.bytes_left c.loop.source in
    let out = c.in_ok-found.ensures in
    record {
      failures = search rules;
      sound = c.in_ok-fill.ensures.sound;
      short = search rules;
      so_far = λ after ahead.
          let filled = c.in_ok-fill.ensures.passes c.give_out.new.line.items after ahead in
          then_has c.args.self.now c.loop.self (g.R.Source.bytes_left c.args.source.now) left c.loop.line.items _ c.loop.invariant.so_far
          (let given = subst (λ b. HasLines c.loop.self left c.loop.line.items (lines_if b c.give_out.new.line.items filled.text)) c.if-found.false
          (gave_out c.loop.self c.give_out.new.self left c.loop.line.items c.give_out.new.line.items c.in_ok-found.found out.same.2 out.lines filled.text filled.ahead) in
          record { text = given.text; ahead = given.ahead; lines_are = given.lines_are ∙ filled.lines_are });
    }

pub returns-in_err-found-clause-counted : goal.returns-in_err-found-clause-counted
returns-in_err-found-clause-counted g c =
    let none : failed_reads c.from_residual.result ≡ 0 = failed_on c.from_residual.result LogFault.Memory c.from_residual.ensures.1 in
    let same = c.loop.invariant.failures in
    omega (arith, none, same)

pub returns-in_err-fill-clause-counted : goal.returns-in_err-fill-clause-counted
returns-in_err-fill-clause-counted g c =
    let one : failed_reads c.from_residual-in_err-fill.result ≡ 1 = failed_on c.from_residual-in_err-fill.result c.in_err-fill.field-0.0 c.from_residual-in_err-fill.ensures.1 ∙ ap failed_by c.in_err-fill.ensures.fault in
    let same = c.loop.invariant.failures in
    let more = c.in_err-fill.ensures.failed in
    omega (arith, one, same, more)
