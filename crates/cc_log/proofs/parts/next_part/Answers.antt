use Rattle.std.proofs.Common.{◌+◌, ◌∙◌, subst, sym}
use Rattle.cc_log.specs.Follow.{Begins, Spells, numbered}
use Rattle.cc_log.specs.Names.{LogFault}
use Rattle.cc_log.proofs.Following.{SomeTo, begins_more, begins_refused, begins_without_memory, passed, some_all, some_left}
use Rattle.cc_log.proofs.parts.next_part.Goals as goal
use Rattle.cc_log.proofs.parts.next_part.Goals.{then-is_kept+in_ok-bytes+in_ok-add_text, else-is_kept}

pub returns-in_err-bytes : goal.returns-in_err-bytes
returns-in_err-bytes c = passed (Begins c.args.options (numbered c.args.lines.now)) c.from_residual.result LogFault.Memory c.from_residual.ensures.1 (begins_without_memory c.args.options (numbered c.args.lines.now))

pub returns-in_err-add_text : goal.returns-in_err-add_text
returns-in_err-add_text c =
    let inv = c.loop-line.invariant in
    let fault = c.in_err-add_text.field-0.0 in
    passed (Begins c.args.options (numbered c.args.lines.now)) c.from_residual-in_err-add_text.result fault c.from_residual-in_err-add_text.ensures.1
    (begins_refused c.args.options c.args.lines.now c.loop-line.next c.loop-line.line-index c.line-item.result c.in_ok-bytes.bytes.items c.loop-line-test.true c.line-item.is (c.in_ok-bytes.ensures.items ∙ c.deref.ensures.value) inv.1 fault (c.in_err-add_text.ensures c.args.options inv.0))

pub loop-line-preserved : goal.loop-line-preserved
loop-line-preserved c =
    let inv = c.loop-line.invariant in
    let i = c.loop-line.line-index in
    elim c.if-is_kept.branch [
      | then-is_kept+in_ok-bytes+in_ok-add_text w ↦
          subst (λ next. Spells c.args.options next × SomeTo (numbered c.args.lines.now) (numbered next.lines.items) (i + 1)) (sym w.next-is)
          (begins_more c.args.options c.args.lines.now c.loop-line.next i c.line-item.result w.in_ok-bytes.bytes.items c.loop-line-test.true c.line-item.is (w.in_ok-bytes.ensures.items ∙ w.deref.ensures.value) inv.1 w.add_text.new.part (w.in_ok-add_text.ensures c.args.options inv.0))
      | else-is_kept w ↦
          subst (λ next. Spells c.args.options next × SomeTo (numbered c.args.lines.now) (numbered next.lines.items) (i + 1)) (sym w.next-is)
          (inv.0, some_left (numbered c.args.lines.now) (numbered c.loop-line.next.lines.items) i inv.1)
    ]

pub returns : goal.returns
returns c =
    let inv = c.loop-line.invariant in
    (record { known = inv.0.known; known_is = inv.0.known_is; shows = inv.0.shows }, some_all (numbered c.args.lines.now) (numbered c.loop-line.next.lines.items) c.loop-line.line-index inv.1)
