use Rattle.std.proofs.Common.{sym, ◌∙◌, subst}
use Rattle.cc_queue.specs.Calls.{Completed}
use Rattle.cc_queue.specs.Names.{Answer, Call, SendAnswer}
use Rattle.cc_steps.specs.Noted.{Noted, IsNoteOf}
use Rattle.two_threads.specs.HandedOn.{BeginsWith}
use Rattle.two_threads.proofs.First.{sent_alone}
use Rattle.two_threads.proofs.handed_on.send_first.Goals as goal

pub returns-in-Ok-default-Accepted : goal.returns-in-Ok-default-Accepted
returns-in-Ok-default-Accepted g c =
    let done = subst (λ (x : SendAnswer). Completed c.args.sender (Call.Send c.args.body) (Answer.Send x) c.in-Ok-default-Accepted.sender) c.in-Ok-default-Accepted.field-0-1-is c.in-Ok-default-Accepted.ensures.completed in
    let first = sent_alone c.args.sender c.in-Ok-default-Accepted.sender c.args.body c.in-Ok-default-Accepted.field-0-1-0 c.args.queue.now done c.requires.here c.requires.first c.requires.alone in
    subst (λ (n : Noted). IsNoteOf c.args.queue.now n × BeginsWith n c.args.body) (sym c.note.ensures.noted) ((done.stands.same.0 ∙ c.requires.here.0, done.stands.same.1 ∙ c.requires.here.1), first)
