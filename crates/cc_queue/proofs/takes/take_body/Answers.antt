use Rattle.std.proofs.Common.{◌+◌, ◌<◌, ◌≤◌, refl, ap, arith}
use Rattle.cc_queue.specs.Names.{Kind, Phase, Taking}
use Rattle.cc_runs.specs.Codes.{further_words, no_words, parcel, with_read}
use Rattle.cc_steps.specs.Walk.{Walk}
use Rattle.cc_queue.proofs.Service.{serves_none, still_here, then_serves}
use Rattle.cc_queue.proofs.WordByWord.{at_word, past_words, service_word}
use Rattle.cc_queue.proofs.takes.take_body.Goals as goal

pub loop-done-init : goal.loop-done-init
loop-done-init c =
    let head = c.args.head in
    let word = c.read_item-first in
    let read = with_read (parcel head.taken c.args.tag no_words) 0 word.result in
    rw c.one-body.ensures (service_word (λ x. Phase.Taking c.args.job x) _ _ _ Kind.ReadItem _ (Taking.ReadItemBody head.dummy head.node read 1) (Taking.WriteHead head.dummy head.node read) (further_words c.args.tag) 0 word.result (serves_none c.args.seat.now _ c.requires.at) word.ensures.step word.ensures.later refl (refl, refl, refl, refl) (λ z. refl) (λ x z. refl), word.ensures.found.walked.ready)

pub loop-done-preserved : goal.loop-done-preserved
loop-done-preserved c =
    let head = c.args.head in
    let word = c.read_item-found in
    let index = c.loop-done.done + 1 in
    let read = with_read (parcel head.taken c.args.tag c.loop-done.body) index word.result in
    let less : c.loop-done.done < further_words c.args.tag = omega (arith, c.loop-done-test.true, c.further_words-done-end.ensures.words) in
    rw c.with_word-body.ensures (service_word (λ x. Phase.Taking c.args.job x) _ _ _ Kind.ReadItem _ (Taking.ReadItemBody head.dummy head.node read (index + 1)) (Taking.WriteHead head.dummy head.node read) (further_words c.args.tag) index word.result (at_word _ _ _ _ _ _ c.loop-done.invariant.0 less) word.ensures.step word.ensures.later refl (refl, refl, refl, refl) (λ z. refl) (λ x z. refl), word.ensures.found.walked.ready)

pub hand_out-requires : goal.hand_out-requires
hand_out-requires c =
    let all : further_words c.args.tag ≤ c.loop-done.done = omega (arith, c.loop-done-test.false, c.further_words-done-end.ensures.words) in
    let part = past_words _ _ _ _ _ _ c.loop-done.invariant.0 all in
    record {
      here = still_here _ _ c.args.seat.now _ _ _ c.requires.here part;
      takes = c.requires.takes;
      at = ap (λ (z : Walk). z.stand.phase) part.worked;
      ready = c.loop-done.invariant.1;
    }

pub returns : goal.returns
returns c =
    let all : further_words c.args.tag ≤ c.loop-done.done = omega (arith, c.loop-done-test.false, c.further_words-done-end.ensures.words) in
    then_serves c.args.seat.now _ _ _ _ 0 0 0 (past_words _ _ _ _ _ _ c.loop-done.invariant.0 all) c.hand_out.ensures (omega arith)
