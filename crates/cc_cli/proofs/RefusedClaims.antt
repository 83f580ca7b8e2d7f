-- The definitions refuse these claims.
use Rattle.std.proofs.Common.{◌≡◌, ◌∙◌, ℕ, List, [], ◌∷◌, Option, Result, Ok, Err, ap, refl, arith, codes}
use Rattle.cc_judge.specs.declared.decide.Verdict.{Verdict}
use Rattle.cc_cli.specs.Judged.{verdict_status}
use Rattle.cc_cli.specs.Refused.{RefusedClaims}
use Rattle.cc_cli.proofs.Hard.{easy}

no_refusal : (verdict : Verdict) → 2 ≡ verdict_status verdict → ⊥
no_refusal Verdict.Clean is = absurd (omega (arith, is))
no_refusal (Verdict.Fault fault) is = absurd (omega (arith, is))
no_refusal (Verdict.Undecided tie) is = absurd (omega (arith, is))

pub claims_refused : RefusedClaims
claims_refused = record {
  log_refused = λ options log due. no_refusal due.1 due.4;
  always_undecided = λ options log none due. (due.5 refl).0 (due.2.ties ∙ none);
  undecided_by_two = λ options log tie skew short one due. easy options.skew due.0 log.calls tie skew short (due.2.ties ∙ one) (due.5 refl);
  marked_without_colours = λ text head is. absurd (cc is);
  dumb_with_colours = λ is. absurd (cc is);
  colours_forbidden = λ is. absurd (cc is);
  log_failure_hidden = λ options left reads fails j. omega (arith, j.failures.counted);
  log_failure_made_up = λ options left reads fails j. omega (arith, j.failures.counted);
}
