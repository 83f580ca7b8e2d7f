use Rattle.std.proofs.Common.{rules, map, option_map, string_bytes, refl, ap, sym, inr, ◌∙◌}
use Rattle.clap.specs.Words.{subcommand_of}
use Rattle.cc_line.specs.Program.{program}
use Rattle.cc_line.proofs.Ranges.{in_range}
use Rattle.cc_line.specs.Line.{line_of, line_view}
use Rattle.cc_line.proofs.Words.{its_fault, its_subcommand, no_fault}
use Rattle.cc_line.proofs.asked.asked.Goals as goal

pub returns-in_err-matches-clause-asked : goal.returns-in_err-matches-clause-asked
returns-in_err-matches-clause-asked c =
    let fails = its_fault _ (map string_bytes c.args.words.now) c.in_ok-program.ensures c.in_err-matches.field-0.0 c.in_err-matches.ensures.kinds in search rules

pub returns-in-Ok-clause-asked : goal.returns-in-Ok-clause-asked
returns-in-Ok-clause-asked c =
    let words = map string_bytes c.args.words.now in
    let found = its_subcommand _ words c.in_ok-program.ensures c.in_ok-matches.matches c.in_ok-matches.ensures.matches in
    (no_fault _ words c.in_ok-program.ensures c.in_ok-matches.ensures.kinds, ap line_of (sym found) ∙ sym c.line_in.ensures ∙ ap line_view c.in-Ok.is)

pub returns-clause-asked : goal.returns-clause-asked
returns-clause-asked c =
    let words = map string_bytes c.args.words.now in
    let found = its_subcommand _ words c.in_ok-program.ensures c.in_ok-matches.matches c.in_ok-matches.ensures.matches in
    inr (no_fault _ words c.in_ok-program.ensures c.in_ok-matches.ensures.kinds, (c.in-Err.refusal, ap line_of (sym found) ∙ sym c.line_in.ensures ∙ ap line_view c.in-Err.is, c.in_ok-error_of-in-Err.ensures))

pub returns-in-Ok-clause-ranges : goal.returns-in-Ok-clause-ranges
returns-in-Ok-clause-ranges c =
    let words = map string_bytes c.args.words.now in
    let found = its_subcommand _ words c.in_ok-program.ensures c.in_ok-matches.matches c.in_ok-matches.ensures.matches in
    in_range words (no_fault _ words c.in_ok-program.ensures c.in_ok-matches.ensures.kinds) (subcommand_of program words) refl c.in-Ok.line.task (option_map (λ name. name.now) c.in-Ok.line.file)
    (ap line_of (sym found) ∙ sym c.line_in.ensures ∙ ap line_view c.in-Ok.is)
