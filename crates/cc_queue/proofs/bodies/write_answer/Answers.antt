use Rattle.std.proofs.Common.{◌<◌, ◌≤◌, refl, arith}
use Rattle.cc_queue.specs.Names.{Kind, Phase}
use Rattle.cc_runs.specs.Codes.{further_words, item_in, tag_of}
use Rattle.cc_queue.specs.Work.{Serves}
use Rattle.cc_queue.proofs.Service.{one_step, serves_none}
use Rattle.cc_queue.proofs.WordByWord.{next_word, past_words, word_step}
use Rattle.cc_queue.proofs.bodies.write_answer.Goals as goal

pub loop-done-init : goal.loop-done-init
loop-done-init c =
    let tag = c.write_answer.ensures in
    let word = c.write_answer-2.ensures in
    let item = item_in c.args.item in
    let begun : Serves c.args.seat.now (Phase.WriteAnswerBody c.args.job item 0) 0 c.write_answer.new.seat =
    one_step _ _ _ Kind.WriteAnswer _ _ 0 0 (serves_none c.args.seat.now _ c.requires.at) tag.step tag.later refl (refl, refl, refl) (λ z. refl) in
    (word_step _ _ _ Kind.WriteAnswer _ (Phase.WriteAnswerBody c.args.job item 1) (Phase.MarkDone c.args.job) (Phase.MarkDone c.args.job) (further_words (tag_of item)) 0 0 begun word.step word.later refl (refl, refl, refl, refl) (λ z. refl) (λ z. refl) (λ z. refl), word.walked.ready)

pub loop-done-preserved : goal.loop-done-preserved
loop-done-preserved c =
    let w = c.write_answer-in-loop-done.ensures in
    let less : c.loop-done.done < further_words (tag_of (item_in c.args.item)) = omega (arith, c.loop-done-test.true, c.further_of_item-done-end.ensures.words) in
    (next_word _ _ _ Kind.WriteAnswer _ _ _ _ _ _ _ 0 c.loop-done.invariant.0 less w.step w.later refl (refl, refl, refl, refl) (λ z. refl) (λ z. refl) (λ z. refl), w.walked.ready)

pub returns-clause-written : goal.returns-clause-written
returns-clause-written c =
    let all : further_words (tag_of (item_in c.args.item)) ≤ c.loop-done.done = omega (arith, c.loop-done-test.false, c.further_of_item-done-end.ensures.words) in
    past_words _ _ _ _ _ _ c.loop-done.invariant.0 all
