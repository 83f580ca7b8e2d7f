use Rattle.std.proofs.Common.{rules, arith, ◌≡◌, ◌≤◌, ◌<◌, ◌-◌, ◌∙◌, length, get_or, ℕ, ap}
use Rattle.cc_switch.specs.Begin.{Begin}
use Rattle.cc_switch.specs.Links.{done_by}
use Rattle.cc_switch.proofs.Growing.{at_last, at_older, few_ended}
use Rattle.cc_switch.proofs.stages.Stages.receiver_at.Goals as goal

pub returns-then-at-queues-clause-at : goal.returns-then-at-queues-clause-at
returns-then-at-queues-clause-at c = λ first k.
    let t = c.args.self.now in
    let past : length t.links.items ≤ length (done_by t.ended.items c.args.group) = search rules in
    let p = at_last first t c.args.group past k in
    let queue : c.in_ok-share.share ≡ t.last.queue = search rules in
    let base : c.self.inside.0.1.1.0.base ≡ t.last.base = search rules in
    (few_ended first t c.args.group k, queue ∙ p.1.queue, base ∙ p.1.base)

pub returns-clause-at : goal.returns-clause-at
returns-clause-at c = λ first k.
    let t = c.args.self.now in
    let g = c.args.group in
    let j : ℕ = c.args.at - (length t.links.items - length t.older.items) in
    let under : c.args.at < length t.links.items = search rules in
    let over : length t.links.items - length t.older.items ≤ c.args.at = search rules in
    let few = k.few in
    let inside : j < length t.older.items = omega (arith, under, over, few) in
    let is = c.requires in
    let less : length (done_by t.ended.items g) < length t.links.items = omega (arith, under, is) in
    let low : length t.links.items - length t.older.items ≤ length (done_by t.ended.items g) = omega (arith, over, is)
    in
    let d : Begin = t.last in
    let p = at_older first t g j d less low
    (ap (λ (n : ℕ). n - (length t.links.items - length t.older.items)) c.requires) k in
    let stage : c.index_mut-stage.result.now ≡ get_or t.older.items j d = search rules in
    let queue : c.in_ok-share-2.share ≡ c.index_mut-stage.result.now.queue = search rules in
    let base : c.stage.inside.base ≡ c.index_mut-stage.result.now.base = search rules in (
      few_ended first t g k,
      queue ∙ (ap (λ (b : Begin). b.queue) stage ∙ p.queue),
      base
          ∙ (ap (λ (b : Begin). b.base) stage ∙ p.base),
    )
