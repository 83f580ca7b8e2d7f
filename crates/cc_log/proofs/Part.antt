-- A log that is a part accuses no correct queue.
use Rattle.std.proofs.Common.{◌≡◌, ◌∙◌, ap, length, subst, sym, true}
use Rattle.cc_judge.specs.Late.{padded}
use Rattle.cc_judge.specs.declared.decide.Verdict.{Verdict}
use Rattle.cc_judge.specs.Verdict.{IsVerdict}
use Rattle.cc_judge.proofs.Weaker.{late_logs_have_no_fault}
use Rattle.cc_log.specs.Log.{bodies_of, calls_of, spelled}
use Rattle.cc_log.specs.Part.{PartsHaveNoFault}

pub parts_have_no_fault : PartsHaveNoFault
parts_have_no_fault options known whole rules calls lacked part weaker sound of_part closes differ is fault verdict =
    let own = calls_of options.skew known.before in
    let items = length (bodies_of known.before) in
    let same : (spelled options known).calls ≡ padded true rules.closes own items = ap (λ b. padded b known.closes own items) part ∙ ap (λ b. padded true b own items) (sym closes) in
    late_logs_have_no_fault whole rules calls own lacked items weaker sound of_part differ is fault (subst (λ cs. IsVerdict rules cs (Verdict.Fault fault)) same verdict)
