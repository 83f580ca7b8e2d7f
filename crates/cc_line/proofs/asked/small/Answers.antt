use Rattle.std.proofs.Common.{◌∙◌, ap}
use Rattle.std.specs.Prelude.{option_and_then}
use Rattle.std.specs.Str.Parse.{ExplainsUnsignedError, HasUnsignedDigitsIfOk, ParsesUnsigned, without_leading_plus}
use Rattle.clap.specs.Words.{found_of, one_text}
use Rattle.clap.proofs.WalkLemmas.{one_text-rows}
use Rattle.cc_line.specs.Number.{number_in}
use Rattle.cc_line.proofs.Clap.Numbers.{found}
use Rattle.cc_line.proofs.asked.small.Goals as goal

pub returns : goal.returns
returns c =
    found 32 (λ bs r. ParsesUnsigned 32 10 bs r × ExplainsUnsignedError 10 bs r × HasUnsignedDigitsIfOk bs r) (λ u x g. g.0) (one_text (found_of c.args.found.now) c.args.option.now) c.get_one.result c.get_one.ensures.none c.get_one.ensures.value
    ∙ ap (option_and_then (λ text. number_in 32 (without_leading_plus text))) (one_text-rows (found_of c.args.found.now) c.args.option.now)
