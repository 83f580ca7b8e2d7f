use Rattle.std.proofs.Common.{◌≡◌, ◌+◌, ◌-◌, ◌∙◌, Err, true, false, refl, subst, sym, arith, true≢false}
use Rattle.cc_log.specs.Answers.{failed_by, failed_reads}
use Rattle.cc_judge.specs.Verdict.{IsVerdict}
use Rattle.cc_log.specs.Follow.{AreSomeOf, Begins, Follows, Spells, numbered}
use Rattle.cc_log.specs.State.{log_view}
use Rattle.cc_log.specs.Names.{Followed, LogFault, Verdict}
use Rattle.cc_log.proofs.Ahead.{held_none}
use Rattle.cc_log.proofs.Failed.{failed_on, none_failed}
use Rattle.cc_log.proofs.Following.{all_refused, at_hand, followed, no_memory, on_way, on_way_at_first, passed, some_refused, way_next}
use Rattle.cc_log.proofs.parts.follow.Goals as goal
use Rattle.cc_log.proofs.parts.follow.Goals.{then-not-more-via-then-not-more, then-not-more-via-else-not-more+then-not-is_clean}

pub returns-in_err-lines-clause-due : goal.returns-in_err-lines-clause-due
returns-in_err-lines-clause-due g c =
    let first = g.R.Source.bytes_left c.args.source.now in
    passed (Follows c.args.options first) c.from_residual.result LogFault.Memory c.from_residual.ensures.1 (no_memory c.args.options first)

pub loop-number-init : goal.loop-number-init
loop-number-init g c =
    let l = c.in_ok-lines.lines in
    let start = c.in_ok-lines.ensures.nothing.0 in
    let end = c.in_ok-lines.ensures.nothing.1 in
    let reads = c.in_ok-lines.ensures.nothing.2 in
    record {
      failures = refl;
      sound = record { begins = omega (arith, start, end); ends = omega (arith, end); has_room = c.in_ok-lines.ensures.chunk; at_end = λ ended. absurd (true≢false (sym ended ∙ reads)) };
      way = on_way_at_first c.args.options (g.R.Source.bytes_left c.args.source.now) l c.empty-part.result c.empty-part.ensures.spells c.empty-part.ensures.none (held_none l.chunk.items l.start l.end (start ∙ sym end));
    }

pub returns-in_err-more-clause-due : goal.returns-in_err-more-clause-due
returns-in_err-more-clause-due g c =
    let first = g.R.Source.bytes_left c.args.source.now in
    passed (Follows c.args.options first) c.from_residual-in_err-more.result c.in_err-more.field-0.0 c.from_residual-in_err-more.ensures.1 (c.in_err-more.ensures.reads c.args.options first c.loop-number.invariant.way)

pub returns-in_err-more-clause-failures : goal.returns-in_err-more-clause-failures
returns-in_err-more-clause-failures g c =
    let first = g.R.Source.bytes_left c.args.source.now in
    let fault = c.in_err-more.field-0.0 in
    let failed : failed_reads c.from_residual-in_err-more.result ≡ failed_by fault = failed_on c.from_residual-in_err-more.result fault c.from_residual-in_err-more.ensures.1 in
    let counted = c.in_err-more.ensures.failures c.args.options first c.loop-number.invariant.way in
    let same = c.loop-number.invariant.failures in
    omega (arith, failed, counted, same)

pub loop-number-preserved-then-not-is_full : goal.loop-number-preserved-then-not-is_full
loop-number-preserved-then-not-is_full g c =
    let first = g.R.Source.bytes_left c.args.source.now in
    let inv = c.loop-number.invariant in
    let counted = c.in_ok-more.ensures.failures c.args.options first inv.way in
    let same = inv.failures in
    record {
      failures = omega (arith, counted, same);
      sound = c.in_ok-more.ensures.sound;
      way = on_way c.args.options first (g.R.Source.bytes_left c.read_line.new.source) c.read_line.new.lines c.read_line.new.part (c.loop-number.number + 1) c.in_ok-more.more c.if-more.true (c.in_ok-more.ensures.reads c.args.options first inv.way);
    }

pub returns-in_err-verdict-clause-due : goal.returns-in_err-verdict-clause-due
returns-in_err-verdict-clause-due g c =
    let o = c.args.options in
    let first = g.R.Source.bytes_left c.args.source.now in
    let part = c.read_line.new.part in
    let fault = c.in_err-verdict.field-0.0 in
    let h = at_hand o first (g.R.Source.bytes_left c.read_line.new.source) c.read_line.new.lines part (c.loop-number.number + 1) c.in_ok-more.more (c.in_ok-more.ensures.reads o first c.loop-number.invariant.way) c.in_ok-more.ensures.sound in
    passed (Follows o first) c.from_residual-in_err-verdict.result fault c.from_residual-in_err-verdict.ensures.1
    (all_refused o first part h.read h.rest h.covers h.input h.has h.lines_are fault (c.in_err-verdict.ensures.due o h.covers.spells))

pub returns-in_err-verdict-clause-failures : goal.returns-in_err-verdict-clause-failures
returns-in_err-verdict-clause-failures g c =
    let o = c.args.options in
    let first = g.R.Source.bytes_left c.args.source.now in
    let fault = c.in_err-verdict.field-0.0 in
    let h = at_hand o first (g.R.Source.bytes_left c.read_line.new.source) c.read_line.new.lines c.read_line.new.part (c.loop-number.number + 1) c.in_ok-more.more (c.in_ok-more.ensures.reads o first c.loop-number.invariant.way) c.in_ok-more.ensures.sound in
    let none : failed_reads c.from_residual-in_err-verdict.result ≡ 0 = failed_on c.from_residual-in_err-verdict.result fault c.from_residual-in_err-verdict.ensures.1 ∙ none_failed fault _ (c.in_err-verdict.ensures.due o h.covers.spells) in
    let counted = c.in_ok-more.ensures.failures o first c.loop-number.invariant.way in
    let same = c.loop-number.invariant.failures in
    omega (arith, none, counted, same)

pub returns-then-not-more-clause-due : goal.returns-then-not-more-clause-due
returns-then-not-more-clause-due g c =
    let o = c.args.options in
    let first = g.R.Source.bytes_left c.args.source.now in
    let part = c.read_line.new.part in
    let h = at_hand o first (g.R.Source.bytes_left c.read_line.new.source) c.read_line.new.lines part (c.loop-number.number + 1) c.in_ok-more.more (c.in_ok-more.ensures.reads o first c.loop-number.invariant.way) c.in_ok-more.ensures.sound in
    let end : c.in_ok-verdict.verdict ≡ Verdict.Clean → c.in_ok-more.more ≡ false = elim c.then-not-more.branch [
      | then-not-more-via-then-not-more w ↦ λ clean. grind (arith, w.if-not-more.true)
      | then-not-more-via-else-not-more+then-not-is_clean w ↦ λ clean. absurd (w.is_clean.ensures.others (grind (arith, w.if-not-is_clean.true)) clean)
    ] in
    let f : Followed = record { log = c.judged.new.part.state.log; verdict = c.in_ok-verdict.verdict; parts = c.saturating_add-parts.result; lines = c.loop-number.number - 1 } in
    followed o first part c.in_ok-more.more f h (c.in_ok-verdict.ensures.due o h.covers.spells) (c.in_ok-verdict.ensures.rules o h.covers.spells) c.in_ok-verdict.ensures.right end

pub returns-then-not-more-clause-rules : goal.returns-then-not-more-clause-rules
returns-then-not-more-clause-rules g c =
    let o = c.args.options in
    let first = g.R.Source.bytes_left c.args.source.now in
    let h = at_hand o first (g.R.Source.bytes_left c.read_line.new.source) c.read_line.new.lines c.read_line.new.part (c.loop-number.number + 1) c.in_ok-more.more (c.in_ok-more.ensures.reads o first c.loop-number.invariant.way) c.in_ok-more.ensures.sound in
    c.in_ok-verdict.ensures.rules o h.covers.spells

pub returns-then-not-more-clause-well : goal.returns-then-not-more-clause-well
returns-then-not-more-clause-well g c =
    let o = c.args.options in
    let first = g.R.Source.bytes_left c.args.source.now in
    let h = at_hand o first (g.R.Source.bytes_left c.read_line.new.source) c.read_line.new.lines c.read_line.new.part (c.loop-number.number + 1) c.in_ok-more.more (c.in_ok-more.ensures.reads o first c.loop-number.invariant.way) c.in_ok-more.ensures.sound in
    c.in_ok-verdict.ensures.well o h.covers.spells

pub returns-then-not-more-clause-failures : goal.returns-then-not-more-clause-failures
returns-then-not-more-clause-failures g c =
    let counted = c.in_ok-more.ensures.failures c.args.options (g.R.Source.bytes_left c.args.source.now) c.loop-number.invariant.way in
    let same = c.loop-number.invariant.failures in
    omega (arith, counted, same)

pub returns-in_err-part-clause-due : goal.returns-in_err-part-clause-due
returns-in_err-part-clause-due g c =
    let o = c.args.options in
    let first = g.R.Source.bytes_left c.args.source.now in
    let part = c.read_line.new.part in
    let fault = c.in_err-part.field-0.0 in
    let h = at_hand o first (g.R.Source.bytes_left c.read_line.new.source) c.read_line.new.lines part (c.loop-number.number + 1) c.in_ok-more.more (c.in_ok-more.ensures.reads o first c.loop-number.invariant.way) c.in_ok-more.ensures.sound in
    let b = subst (λ ls. Begins o (numbered ls.items) (Err fault)) c.in_ok-verdict.ensures.lines c.in_err-part.ensures in
    passed (Follows o first) c.from_residual-in_err-part.result fault c.from_residual-in_err-part.ensures.1
    (some_refused o first part h.read h.rest h.covers h.input h.has h.lines_are fault b.0 b.1 b.2)

pub returns-in_err-part-clause-failures : goal.returns-in_err-part-clause-failures
returns-in_err-part-clause-failures g c =
    let fault = c.in_err-part.field-0.0 in
    let none : failed_reads c.from_residual-in_err-part.result ≡ 0 = failed_on c.from_residual-in_err-part.result fault c.from_residual-in_err-part.ensures.1 ∙ none_failed fault _ c.in_err-part.ensures.2 in
    let counted = c.in_ok-more.ensures.failures c.args.options (g.R.Source.bytes_left c.args.source.now) c.loop-number.invariant.way in
    let same = c.loop-number.invariant.failures in
    omega (arith, none, counted, same)

pub loop-number-preserved : goal.loop-number-preserved
loop-number-preserved g c =
    let o = c.args.options in
    let first = g.R.Source.bytes_left c.args.source.now in
    let left = g.R.Source.bytes_left c.read_line.new.source in
    let inv = c.loop-number.invariant in
    let part = c.read_line.new.part in
    let next = c.in_ok-part.part in
    let log = c.judged.new.part.state.log in
    let counted = c.in_ok-more.ensures.failures o first inv.way in
    let same = inv.failures in
    let on : c.in_ok-more.more ≡ true = grind (arith, c.if-not-more.false) in
    let clean : c.in_ok-verdict.verdict ≡ Verdict.Clean = c.is_clean.ensures.clean (grind (arith, c.if-not-is_clean.false)) in
    let way = on_way o first left c.read_line.new.lines part (c.loop-number.number + 1) c.in_ok-more.more on (c.in_ok-more.ensures.reads o first inv.way) in
    let begun : Spells o next × AreSomeOf (numbered c.judged.new.part.lines.items) (numbered next.lines.items) = c.in_ok-part.ensures in
    record {
      failures = omega (arith, counted, same);
      sound = c.in_ok-more.ensures.sound;
      way = way_next o first left c.read_line.new.lines part next (c.loop-number.number + 1) (log_view log) log.rules way (c.in_ok-verdict.ensures.due o way.covers.spells) (c.in_ok-verdict.ensures.rules o way.covers.spells)
          (subst (IsVerdict log.rules log.calls.items) clean c.in_ok-verdict.ensures.right) begun.0 (subst (λ ls. AreSomeOf (numbered ls.items) (numbered next.lines.items)) c.in_ok-verdict.ensures.lines begun.1);
    }

pub returns-clause-due : goal.returns-clause-due
returns-clause-due g c = no_memory c.args.options (g.R.Source.bytes_left c.args.source.now)
