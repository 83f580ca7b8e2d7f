use Rattle.std.proofs.Common.{◌∙◌}
use Rattle.cc_drive.proofs.Counted.{answer_of}
use Rattle.cc_drive.proofs.sending.send_body.Goals as goal

pub returns-in-Ok-answer_within-clause-sent : goal.returns-in-Ok-answer_within-clause-sent
returns-in-Ok-answer_within-clause-sent g c =
    let begun = c.in-Ok.ensures.begun in let answer = c.in-Ok-answer_within.ensures.back.answer in
    (answer_of _ _ _ _ _ _ _ begun answer, answer.read.begun ∙ begun.begun, c.in-Ok.ensures.may)
