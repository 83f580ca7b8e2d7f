use Rattle.std.proofs.Common.{◌≡◌, ◌∙◌, inr, sym, ap, true, false, is_some}
use Rattle.cc_drive.proofs.Crews.{none_of}
use Rattle.cc_drive.proofs.Crewed.{none_due, has_run, ended_with}
use Rattle.cc_drive.proofs.ending.ran_of.Goals as goal

pub unreachable-requires : goal.unreachable-requires
unreachable-requires c =
    let closed : c.is_some-is_closed.result ≡ true = (none_due _ _ _ _ _ _ (sym c.fault_in.ensures ∙ none_of _ c.in_default.not-Some)).3 in
    let both : true ≡ false = sym closed ∙ c.is_some-is_closed.ensures ∙ ap is_some c.in_default-closed.is in absurd (cc both)

pub returns-clause-run : goal.returns-clause-run
returns-clause-run c z setting e = let free = none_of _ c.in_default.not-Some in has_run z c.args.config c.args.refused c.args.sent c.args.closed c.args.taken _ _ (cc) c.in-Some-closed.is setting e

pub returns-in-Some-clause-told : goal.returns-in-Some-clause-told
returns-in-Some-clause-told c z e = inr (ended_with z c.args.config c.args.refused c.args.sent c.args.closed c.args.taken _ (cc) e)

pub returns-clause-free : goal.returns-clause-free
returns-clause-free c = let free = none_due _ _ _ _ _ _ (sym c.fault_in.ensures ∙ none_of _ c.in_default.not-Some) in (sym c.is_some-is_refused.ensures ∙ free.0, free.1, free.2)
