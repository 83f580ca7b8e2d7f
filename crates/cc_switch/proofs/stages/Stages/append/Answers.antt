use Rattle.std.proofs.Common.{rules, ◌≡◌, ◌+◌, ◌∙◌, ap, ℕ}
use Rattle.cc_switch.proofs.Growing.{appended, one_topic}
use Rattle.cc_switch.proofs.stages.Stages.append.Goals as goal

pub returns-clause-keeps : goal.returns-clause-keeps
returns-clause-keeps c = λ first k.
    let queue : c.replace-before.new.dest.queue ≡ c.args.stage.queue = search rules in
    let base : c.replace-before.new.dest.base ≡ c.args.self.now.last.base + c.args.total = search rules in
    appended first c.args.self.now (record {
      links = c.push_reserved-2.new.self;
      older = c.push_reserved.new.self;
      last = c.replace-before.new.dest;
      ended = c.self.inside.0.1.1.1.0;
      closing = c.self.inside.0.1.1.1.1.0;
    })
    (record { shut = c.args.shut; next = c.note-next.result })
    c.requires.shut (search rules) (search rules) (search rules)
    (queue ∙ one_topic c.args.stage.queue c.in-Some-sender.sender c.note-next.result c.in-Some-sender.ensures.of
    c.note-next.ensures.noted)
    (base ∙ ap (λ (n : ℕ). c.args.self.now.last.base + n) c.requires.total) k
