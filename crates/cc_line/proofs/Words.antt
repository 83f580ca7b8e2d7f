-- What clap finds in the words of a line.
use Rattle.std.proofs.Common.{◌≡◌, ◌∙◌, List, [], true, refl, sym, ap, subst}
use Rattle.clap.specs.Words.{App, HasKind, HasMatchesOf, Text, fault_of, is_simple, is_simple_and_free, subcommand_of, subcommand_rows_of}
use Rattle.clap.specs.declared.error.Error.{Error}
use Rattle.clap.specs.declared.parser.matches.ArgMatches.{ArgMatches}
use Rattle.cc_line.specs.Program.{program}

module _ (a : App) (line : List Text) (is : a ≡ program) where
  pub its_subcommand : (m : ArgMatches) → HasMatchesOf a line m → subcommand_rows_of m ≡ subcommand_of program line
  its_subcommand m matches = (matches (ap is_simple is ∙ refl)).1 ∙ ap (λ (x : App). subcommand_of x line) is

  pub no_fault : (is_simple_and_free a ≡ true → fault_of a line ≡ []) → fault_of program line ≡ []
  no_fault sound = sym (ap (λ (x : App). fault_of x line) is) ∙ sound (ap is_simple_and_free is ∙ refl)

  pub its_fault : (e : Error) → (is_simple_and_free a ≡ true → HasKind (fault_of a line) e) → HasKind (fault_of program line) e
  its_fault e fails = subst (λ (x : App). HasKind (fault_of x line) e) is (fails (ap is_simple_and_free is ∙ refl))
