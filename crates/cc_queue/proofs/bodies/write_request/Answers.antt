use Rattle.std.proofs.Common.{◌<◌, ◌≤◌, refl, ap, arith}
use Rattle.cc_queue.specs.Names.{Kind, Phase, Stand}
use Rattle.cc_runs.specs.Codes.{further_words}
use Rattle.cc_queue.specs.Work.{Serves}
use Rattle.cc_queue.proofs.Service.{one_step, serves_none}
use Rattle.cc_queue.proofs.WordByWord.{next_word, past_words, word_step}
use Rattle.cc_queue.proofs.bodies.write_request.Goals as goal

pub loop-done-init : goal.loop-done-init
loop-done-init c =
    let tag = c.write_request.ensures in
    let word = c.write_request-2.ensures in
    let begun : Serves c.args.seat.now (Phase.WriteBody c.args.put c.args.request 0) 0 c.write_request.new.seat =
    one_step _ _ _ Kind.WriteRequest _ _ 0 0 (serves_none c.args.seat.now _ (ap (λ (z : Stand). z.phase) c.requires.at)) tag.step tag.later refl (refl, refl, refl) (λ z. refl) in
    (word_step _ _ _ Kind.WriteRequest _ (Phase.WriteBody c.args.put c.args.request 1) (Phase.Link c.args.put) (Phase.Link c.args.put) (further_words c.args.request.tag) 0 0 begun word.step word.later refl (refl, refl, refl, refl) (λ z. refl) (λ z. refl) (λ z. refl), word.walked.ready)

pub loop-done-preserved : goal.loop-done-preserved
loop-done-preserved c =
    let w = c.write_request-in-loop-done.ensures in
    let less : c.loop-done.done < further_words c.args.request.tag = omega (arith, c.loop-done-test.true, c.further_words-done-end.ensures.words) in
    (next_word _ _ _ Kind.WriteRequest _ _ _ _ _ _ _ 0 c.loop-done.invariant.0 less w.step w.later refl (refl, refl, refl, refl) (λ z. refl) (λ z. refl) (λ z. refl), w.walked.ready)

pub returns-clause-written : goal.returns-clause-written
returns-clause-written c =
    let link = c.link_next.ensures in
    let all : further_words c.args.request.tag ≤ c.loop-done.done = omega (arith, c.loop-done-test.false, c.further_words-done-end.ensures.words) in
    one_step _ _ _ Kind.Link _ _ 0 0 (past_words _ _ _ _ _ _ c.loop-done.invariant.0 all) link.step link.later refl (refl, refl, refl) (λ z. refl)
