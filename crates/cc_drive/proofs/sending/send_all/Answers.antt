use Rattle.std.proofs.Common.{rules, arith, ◌∙◌, ◌++◌, length, refl, sym, ap}
use Rattle.cc_drive.specs.Names.{Call, Point, Turns}
use Rattle.cc_steps.specs.Walk.{Walk}
use Rattle.cc_queue.specs.Headline.{entry_of}
use Rattle.cc_drive.proofs.Gates.{none_asked, send_asked, send_stopped, send_worn}
use Rattle.cc_drive.proofs.Workers.{sending_none, sending_more, sending_still, sent_one, sent_none}
use Rattle.cc_drive.proofs.sending.send_all.Goals as goal

pub loop-accepted-init : goal.loop-accepted-init
loop-accepted-init g c =
    let begun = sym (ap (λ (w : Walk). w.stand.begun) c.requires.0) in (
      search rules,
      sending_none c.args.queue.now c.args.row c.args.job.number c.args.job.pass _ _ c.requires.0 c.requires.1 c.is_sound.ensures.met c.new-kept.ensures,
      none_asked g.G.Gate.tells Point.SendBegun Point.SendAnswered c.args.queue.now c.args.row c.args.job.pass _ c.args.job.gate _ c.requires.0 c.is_sound.ensures.met (ap (λ (t : Turns). t.made) c.new-turns.ensures) refl,
    )

pub loop-accepted-preserved-in-Accepted : goal.loop-accepted-preserved-in-Accepted
loop-accepted-preserved-in-Accepted g c =
    let was = c.loop-accepted.invariant.1 in
    let one = sent_one c.args.job.number c.loop-accepted.begun c.loop-accepted.sender c.body_behind-body.result c.in-Accepted.place _ was.works.named c.loop-accepted.invariant.0.2 c.in-Accepted.is in (
      search rules,
      sending_more _ _ _ _ _ _ _ _ _ c.loop-accepted.accepted _ _ _ was c.in-Answered.ensures.sent.0 c.body_behind-body.ensures c.keep.ensures.whole
          (λ is. c.keep.ensures.kept is ∙ ap (λ l. c.loop-accepted.kept.receipts.items ++ l) (sym one)) (let many = ap length one in omega (arith, many)),
      send_asked g.G.Gate.tells _ _ _ _ _ _ _ _ _ _ _ was.works.back c.in-Answered.ensures.sent.0 c.in-Answered.ensures.asked c.loop-accepted.invariant.2,
    )

pub loop-accepted-preserved : goal.loop-accepted-preserved
loop-accepted-preserved g c =
    let none = sent_none (entry_of c.loop-accepted.sender (Call.Send c.body_behind-body.result)) c.in-Answered.answer c.in_default.not-Accepted in (
      search rules,
      sending_still _ _ _ _ _ _ _ _ _ _ c.loop-accepted.invariant.1 c.in-Answered.ensures.sent.0 c.body_behind-body.ensures none,
      send_asked g.G.Gate.tells _ _ _ _ _ _ _ _ _ _ _ c.loop-accepted.invariant.1.works.back c.in-Answered.ensures.sent.0 c.in-Answered.ensures.asked c.loop-accepted.invariant.2,
    )

pub returns-in-Worn : goal.returns-in-Worn
returns-in-Worn g c =
    let was = c.loop-accepted.invariant in
    let ends = send_worn g.G.Gate.tells c.args.queue.now c.args.brief.items c.args.brief.limit c.args.row c.args.job.number c.loop-accepted.sender c.args.job.gate c.loop-accepted.gate _ _ _ _ _ _ was.1 (search rules) c.in-Worn.ensures.sent.1 c.in-Worn.ensures.asked.0 was.2 (c.abandon.ensures ∙ c.in-Worn.ensures.sent.0) in
    record { gave = (tt, tt, ends.0, search rules, refl); asked = (tt, ends) }

pub returns-in-Limited : goal.returns-in-Limited
returns-in-Limited g c =
    let was = c.loop-accepted.invariant in
    let ends = send_stopped g.G.Gate.tells c.args.queue.now c.args.brief.items c.args.brief.limit c.args.row c.args.job.number c.loop-accepted.sender c.args.job.gate c.loop-accepted.gate _ _ _ _ _ _ _ _ _ was.1 (search rules) c.body_behind-body.ensures (search rules) c.in-Limited.ensures.on c.in-Limited.ensures.asked was.2 c.given_up.ensures in
    record { gave = (tt, tt, ends.0, search rules, refl); asked = (tt, ends) }

pub returns : goal.returns
returns g c =
    let was = c.loop-accepted.invariant in
    record {
      gave = (record { back = was.1.works.back; sends = was.1.sends; bodies = was.1.bodies; all = sym was.1.count ∙ (let low = was.0.4 in search rules) }, was.1.works.kept, tt, search rules, refl);
      asked = ((_, was.2), tt);
    }
