use Rattle.std.proofs.Common.{◌+◌, ◌<◌, ◌≤◌, refl, arith}
use Rattle.cc_queue.specs.Names.{Kind, Phase, Sending}
use Rattle.cc_runs.specs.Codes.{further_words, no_words, with_word}
use Rattle.cc_queue.specs.Work.{Serves}
use Rattle.cc_queue.proofs.Service.{one_step, serves_none}
use Rattle.cc_queue.proofs.WordByWord.{at_word, past_words, service_word}
use Rattle.cc_queue.proofs.bodies.read_request.Goals as goal

pub loop-done-init : goal.loop-done-init
loop-done-init c =
    let tag = c.read_request-tag in
    let word = c.read_request-first in
    let body = with_word no_words 0 word.result in
    let begun : Serves c.args.seat.now (Phase.Sending c.args.job (Sending.ReadBody record { tag = tag.result; body = no_words } 0)) 0 tag.new.seat =
    one_step _ _ _ Kind.ReadRequest _ _ 0 tag.result (serves_none c.args.seat.now _ c.requires.at) tag.ensures.step tag.ensures.later refl (refl, refl, refl) (λ z. refl) in
    rw c.one-body.ensures (service_word (λ x. Phase.Sending c.args.job x) _ _ _ Kind.ReadRequest _ (Sending.ReadBody record { tag = tag.result; body = body } 1) (Sending.ReadShut record { tag = tag.result; body = body }) (further_words tag.result) 0 word.result begun word.ensures.step word.ensures.later refl (refl, refl, refl, refl) (λ z. refl) (λ x z. refl), word.ensures.found.walked.ready)

pub loop-done-preserved : goal.loop-done-preserved
loop-done-preserved c =
    let tag = c.read_request-tag.result in
    let word = c.read_request-found in
    let index = c.loop-done.done + 1 in
    let body = with_word c.loop-done.body index word.result in
    let less : c.loop-done.done < further_words tag = omega (arith, c.loop-done-test.true, c.further_words-done-end.ensures.words) in
    rw c.with_word-body.ensures (service_word (λ x. Phase.Sending c.args.job x) _ _ _ Kind.ReadRequest _ (Sending.ReadBody record { tag = tag; body = body } (index + 1)) (Sending.ReadShut record { tag = tag; body = body }) (further_words tag) index word.result (at_word _ _ _ _ _ _ c.loop-done.invariant.0 less) word.ensures.step word.ensures.later refl (refl, refl, refl, refl) (λ z. refl) (λ x z. refl), word.ensures.found.walked.ready)

pub returns-clause-read : goal.returns-clause-read
returns-clause-read c =
    let all : further_words c.read_request-tag.result ≤ c.loop-done.done = omega (arith, c.loop-done-test.false, c.further_words-done-end.ensures.words) in
    past_words _ _ _ _ _ _ c.loop-done.invariant.0 all
