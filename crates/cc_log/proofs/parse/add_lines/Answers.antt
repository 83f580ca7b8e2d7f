use Rattle.std.proofs.Common.{◌≡◌, ◌∙◌, List, [], ℕ, true, false, Ok, rules, subst, arith}
use Rattle.std.specs.Bool.{OnFalse, OnTrue}
use Rattle.cc_log.specs.Names.{LogFault}
use Rattle.cc_log.specs.Lines.{GivesLine, HasLines}
use Rattle.cc_log.specs.Log.{log_of, with_line}
use Rattle.cc_log.specs.Answers.{Refuses, failed_by, failed_reads}
use Rattle.cc_log.proofs.Failed.{failed_on, none_failed, none_failed_in}
use Rattle.cc_log.proofs.Reading.{at_end, leads_on, line_refused, long_line, no_memory, passed_on}
use Rattle.cc_log.proofs.parse.add_lines.Goals as goal

pub returns-in_err-lines-clause-due : goal.returns-in_err-lines-clause-due
returns-in_err-lines-clause-due g c =
    let left = g.R.Source.bytes_left c.args.source.now in
    passed_on left _ (log_of c.args.state.now.log.options) c.from_residual.result LogFault.Memory c.from_residual.ensures.1 (no_memory left (log_of c.args.state.now.log.options))

pub returns-in_err-next-clause-due : goal.returns-in_err-next-clause-due
returns-in_err-next-clause-due g c =
    let left = g.R.Source.bytes_left c.args.source.now in
    let inv = c.loop-number.invariant in
    passed_on left _ (log_of c.args.state.now.log.options) c.from_residual-in_err-next.result c.in_err-next.field-0.0 c.from_residual-in_err-next.ensures.1
    (long_line left (g.R.Source.bytes_left c.loop-number.source) c.loop-number.lines inv.known c.loop-number.number c.args.state.now.log.options c.in_err-next.field-0.0 c.in_err-next.ensures.fault inv.leads)

pub returns-then-not-branch-clause-due : goal.returns-then-not-branch-clause-due
returns-then-not-branch-clause-due g c =
    let left = g.R.Source.bytes_left c.args.source.now in
    let now = g.R.Source.bytes_left c.loop-number.source in
    let inv = c.loop-number.invariant in
    let off : c.in_ok-next.field-0 ≡ false = grind (arith, c.if-not-branch.true) in
    at_end left now c.loop-number.lines inv.known c.loop-number.number c.args.state.now.log.options _ c.finish.result
    (subst (λ b. OnFalse b (HasLines c.loop-number.lines now [] [])) off c.in_ok-next.ensures.none) inv.leads (c.finish.ensures.due c.args.state.now.log.options inv.known inv.shows)

pub returns-in_err-add_line-clause-due : goal.returns-in_err-add_line-clause-due
returns-in_err-add_line-clause-due g c =
    let left = g.R.Source.bytes_left c.args.source.now in
    let inv = c.loop-number.invariant in
    let old = g.R.Source.bytes_left c.loop-number.source in
    let new = g.R.Source.bytes_left c.next.new.source in
    let on : c.in_ok-next.field-0 ≡ true = grind (arith, c.if-not-branch.false) in
    let gives = subst (λ b. OnTrue b (GivesLine c.loop-number.lines c.next.new.self old new c.next.new.line.items)) on c.in_ok-next.ensures.line in
    passed_on left _ (log_of c.args.state.now.log.options) c.from_residual-in_err-add_line.result c.in_err-add_line.field-0.0 c.from_residual-in_err-add_line.ensures.1
    (line_refused left old new c.loop-number.lines c.next.new.self inv.known c.loop-number.number c.args.state.now.log.options c.next.new.line.items c.in_err-add_line.field-0.0 c.in_ok-next.ensures.sound gives inv.leads
    (subst (λ (t : List ℕ). Refuses c.in_err-add_line.field-0.0 (with_line inv.known c.loop-number.number t)) c.deref.ensures.value (c.in_err-add_line.ensures c.args.state.now.log.options inv.known inv.shows)))

pub loop-number-preserved : goal.loop-number-preserved
loop-number-preserved g c =
    let left = g.R.Source.bytes_left c.args.source.now in
    let inv = c.loop-number.invariant in
    let old = g.R.Source.bytes_left c.loop-number.source in
    let new = g.R.Source.bytes_left c.next.new.source in
    let on : c.in_ok-next.field-0 ≡ true = grind (arith, c.if-not-branch.false) in
    let gives = subst (λ b. OnTrue b (GivesLine c.loop-number.lines c.next.new.self old new c.next.new.line.items)) on c.in_ok-next.ensures.line in
    let step = c.in_ok-add_line.ensures c.args.state.now.log.options inv.known inv.shows in
    record {
      failures = search rules;
      sound = c.in_ok-next.ensures.sound;
      known = step.0;
      shows = step.2;
      leads = leads_on c.args.state.now.log.options left old new c.loop-number.lines c.next.new.self inv.known step.0 c.loop-number.number c.next.new.line.items gives
          (subst (λ (t : List ℕ). with_line inv.known c.loop-number.number t ≡ Ok step.0) c.deref.ensures.value step.1) inv.leads;
    }

pub returns-clause-due : goal.returns-clause-due
returns-clause-due g c = no_memory (g.R.Source.bytes_left c.args.source.now) (log_of c.args.state.now.log.options)

pub returns-in_err-lines-clause-failures : goal.returns-in_err-lines-clause-failures
returns-in_err-lines-clause-failures g c =
    let none : failed_reads c.from_residual.result ≡ 0 = failed_on c.from_residual.result LogFault.Memory c.from_residual.ensures.1 in
    omega (arith, none)

pub returns-in_err-next-clause-failures : goal.returns-in_err-next-clause-failures
returns-in_err-next-clause-failures g c =
    let same = c.loop-number.invariant.failures in
    let counted = c.in_err-next.ensures.counted in
    let failed : failed_reads c.from_residual-in_err-next.result ≡ failed_by c.in_err-next.field-0.0 = failed_on c.from_residual-in_err-next.result c.in_err-next.field-0.0 c.from_residual-in_err-next.ensures.1 in
    omega (arith, same, counted, failed)

pub returns-then-not-branch-clause-failures : goal.returns-then-not-branch-clause-failures
returns-then-not-branch-clause-failures g c =
    let inv = c.loop-number.invariant in
    let none : failed_reads c.finish.result ≡ 0 = none_failed_in _ c.finish.result _ (c.finish.ensures.due c.args.state.now.log.options inv.known inv.shows) in
    let same = inv.failures in
    let kept = c.in_ok-next.ensures.failures in
    omega (arith, none, same, kept)

pub returns-in_err-add_line-clause-failures : goal.returns-in_err-add_line-clause-failures
returns-in_err-add_line-clause-failures g c =
    let inv = c.loop-number.invariant in
    let fault = c.in_err-add_line.field-0.0 in
    let none : failed_reads c.from_residual-in_err-add_line.result ≡ 0 = failed_on c.from_residual-in_err-add_line.result fault c.from_residual-in_err-add_line.ensures.1 ∙ none_failed fault _ (c.in_err-add_line.ensures c.args.state.now.log.options inv.known inv.shows) in
    let same = inv.failures in
    let kept = c.in_ok-next.ensures.failures in
    omega (arith, none, same, kept)
