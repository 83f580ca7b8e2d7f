use Rattle.std.proofs.Common.{◌+◌, ◌<◌, ◌≤◌, refl, ap, arith}
use Rattle.cc_queue.specs.Names.{Kind, Phase, Sending}
use Rattle.cc_runs.specs.Codes.{further_words}
use Rattle.cc_steps.specs.Walk.{Walk}
use Rattle.cc_queue.specs.Work.{Serves}
use Rattle.cc_queue.proofs.Service.{one_step, serves_none, still_here, then_serves}
use Rattle.cc_queue.proofs.WordByWord.{at_word, past_words, service_word}
use Rattle.cc_queue.proofs.sends.prepare.Goals as goal

pub loop-done-init : goal.loop-done-init
loop-done-init c =
    let v = c.args.seat.now in
    let passed = c.reset_list_node.ensures in
    let next = c.reset_list_node-2.ensures in
    let tag = c.write_item.ensures in
    let word = c.write_item-2.ensures in
    let at_next : Serves v (Phase.Sending c.args.job (Sending.ResetItemNext c.args.parcel c.args.node)) 0 c.reset_list_node.new.seat =
    one_step _ _ _ Kind.ResetListNode _ _ 0 0 (serves_none v _ c.requires.at) passed.step passed.later refl (refl, refl, refl) (λ z. refl) in
    let at_tag : Serves v (Phase.Sending c.args.job (Sending.WriteItemTag c.args.parcel c.args.node)) 0 c.reset_list_node-2.new.seat =
    one_step _ _ _ Kind.ResetListNode _ _ 0 0 at_next next.step next.later refl (refl, refl, refl) (λ z. refl) in
    let at_body : Serves v (Phase.Sending c.args.job (Sending.WriteItemBody c.args.parcel c.args.node 0)) 0 c.write_item.new.seat =
    one_step _ _ _ Kind.WriteItem _ _ 0 0 at_tag tag.step tag.later refl (refl, refl, refl) (λ z. refl) in
    (service_word (λ x. Phase.Sending c.args.job x) _ _ _ Kind.WriteItem _ (Sending.WriteItemBody c.args.parcel c.args.node 1) (Sending.ReadLast c.args.parcel.place c.args.node) (further_words c.args.parcel.tag) 0 0 at_body word.step word.later refl (refl, refl, refl, refl) (λ z. refl) (λ x z. refl), word.walked.ready)

pub loop-done-preserved : goal.loop-done-preserved
loop-done-preserved c =
    let word = c.write_item-in-loop-done.ensures in
    let index = c.loop-done.done + 1 in
    let less : c.loop-done.done < further_words c.args.parcel.tag = omega (arith, c.loop-done-test.true, c.further_words-done-end.ensures.words) in
    (service_word (λ x. Phase.Sending c.args.job x) _ _ _ Kind.WriteItem _ (Sending.WriteItemBody c.args.parcel c.args.node (index + 1)) (Sending.ReadLast c.args.parcel.place c.args.node) (further_words c.args.parcel.tag) index 0 (at_word _ _ _ _ _ _ c.loop-done.invariant.0 less) word.step word.later refl (refl, refl, refl, refl) (λ z. refl) (λ x z. refl), word.walked.ready)

pub append-requires : goal.append-requires
append-requires c =
    let all : further_words c.args.parcel.tag ≤ c.loop-done.done = omega (arith, c.loop-done-test.false, c.further_words-done-end.ensures.words) in
    let part = past_words _ _ _ _ _ _ c.loop-done.invariant.0 all in
    record { here = still_here _ _ c.args.seat.now _ _ _ c.requires.here part; at = ap (λ (z : Walk). z.stand.phase) part.worked }

pub returns : goal.returns
returns c =
    let all : further_words c.args.parcel.tag ≤ c.loop-done.done = omega (arith, c.loop-done-test.false, c.further_words-done-end.ensures.words) in
    then_serves c.args.seat.now _ _ _ _ 0 0 0 (past_words _ _ _ _ _ _ c.loop-done.invariant.0 all) c.append.ensures (omega arith)
