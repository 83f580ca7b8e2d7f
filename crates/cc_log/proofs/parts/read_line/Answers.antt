use Rattle.std.proofs.Common.{◌≡◌, ◌+◌, ◌∙◌, [], Ok, true, false, subst, sym, arith}
use Rattle.std.specs.Bool.{OnFalse, OnTrue}
use Rattle.cc_log.specs.Answers.{failed_reads}
use Rattle.cc_log.specs.Follow.{IsAtEnd, IsOnWay, Reads}
use Rattle.cc_log.specs.Lines.{GivesLine, HasLines}
use Rattle.cc_log.proofs.Failed.{failed_on, none_failed}
use Rattle.cc_log.proofs.Following.{next_long, next_none, next_read, passed, read_refused}
use Rattle.cc_log.proofs.parts.read_line.Goals as goal
use Rattle.cc_log.proofs.parts.read_line.Goals.{then-more+in_ok-add_text, else-more}

pub returns-in_err-more-clause-reads : goal.returns-in_err-more-clause-reads
returns-in_err-more-clause-reads g c = λ options first way.
    let old = g.R.Source.bytes_left c.args.source.now in
    let new = g.R.Source.bytes_left c.next.new.source in
    let fault = c.in_err-more.field-0.0 in
    passed (Reads options first new c.next.new.self c.args.part.now (c.args.number + 1)) c.from_residual.result fault c.from_residual.ensures.1
    (next_long options first old c.args.lines.now c.args.part.now c.args.number way fault c.in_err-more.ensures.fault)

pub returns-in_err-add_text-clause-reads : goal.returns-in_err-add_text-clause-reads
returns-in_err-add_text-clause-reads g c = λ options first way.
    let old = g.R.Source.bytes_left c.args.source.now in
    let new = g.R.Source.bytes_left c.next.new.source in
    let fault = c.in_err-add_text.field-0.0 in
    let gives = subst (λ b. OnTrue b (GivesLine c.args.lines.now c.next.new.self old new c.next.new.line.items)) c.if-more.true c.in_ok-more.ensures.line in
    passed (Reads options first new c.next.new.self c.add_text.new.part (c.args.number + 1)) c.from_residual-in_err-add_text.result fault c.from_residual-in_err-add_text.ensures.1
    (read_refused options first old c.args.lines.now c.args.part.now c.args.number way new c.next.new.self c.in_ok-more.ensures.sound c.next.new.line.items gives fault (c.in_err-add_text.ensures options way.covers.spells))

pub returns-in_err-add_text-clause-failures : goal.returns-in_err-add_text-clause-failures
returns-in_err-add_text-clause-failures g c = λ options first way.
    let fault = c.in_err-add_text.field-0.0 in
    let none : failed_reads c.from_residual-in_err-add_text.result ≡ 0 = failed_on c.from_residual-in_err-add_text.result fault c.from_residual-in_err-add_text.ensures.1 ∙ none_failed fault _ (c.in_err-add_text.ensures options way.covers.spells) in
    let kept = c.in_ok-more.ensures.failures in
    omega (arith, none, kept)

pub returns-clause-reads : goal.returns-clause-reads
returns-clause-reads g c = λ options first way.
    let old = g.R.Source.bytes_left c.args.source.now in
    let new = g.R.Source.bytes_left c.next.new.source in
    elim c.if-more.branch [
      | then-more+in_ok-add_text w ↦
          let gives = subst (λ b. OnTrue b (GivesLine c.args.lines.now c.next.new.self old new c.next.new.line.items)) w.if-more.true c.in_ok-more.ensures.line in
          subst (λ b. Reads options first new c.next.new.self c.if-more.part (c.args.number + 1) (Ok b)) (sym w.if-more.true)
          (subst (λ p. IsOnWay options first new c.next.new.self p (c.args.number + 1)) (sym w.part-is)
          (next_read options first old c.args.lines.now c.args.part.now c.args.number way new c.next.new.self c.in_ok-more.ensures.sound c.next.new.line.items gives w.add_text.new.part (w.in_ok-add_text.ensures options way.covers.spells)))
      | else-more w ↦
          subst (λ b. Reads options first new c.next.new.self c.if-more.part (c.args.number + 1) (Ok b)) (sym w.if-more.false)
          (subst (λ p. IsAtEnd options first p) (sym w.part-is)
          (next_none options first old c.args.lines.now c.args.part.now c.args.number way (subst (λ b. OnFalse b (HasLines c.args.lines.now old [] [])) w.if-more.false c.in_ok-more.ensures.none)))
    ]
