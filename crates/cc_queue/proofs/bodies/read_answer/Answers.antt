use Rattle.std.proofs.Common.{◌<◌, refl, ap, ◌∙◌, arith}
use Rattle.cc_queue.specs.Names.{Kind}
use Rattle.cc_runs.specs.Codes.{further_words}
use Rattle.cc_steps.specs.Walk.{Walk}
use Rattle.cc_queue.proofs.WordByWord.{at_word, next_word}
use Rattle.cc_queue.proofs.bodies.read_answer.Goals as goal

pub loop-done-preserved : goal.loop-done-preserved
loop-done-preserved c =
    let e = c.read_answer-found.ensures in
    let less : c.loop-done.done < further_words c.read_answer-tag.result = omega (arith, c.loop-done-test.true, c.further_words-done-end.ensures.words) in
    let at = (at_word _ _ _ _ _ _ c.loop-done.invariant.0 less).worked in
    let told = e.told (ap (λ (z : Walk). z.setting.served) at ∙ c.requires.here.list) in
    rw c.with_word-body.ensures (next_word _ _ _ Kind.ReadAnswer _ _ _ _ _ _ _ _ c.loop-done.invariant.0 less e.step e.later refl (refl, refl, refl, refl) (λ z. refl) (λ z. refl) (λ z. refl), rw (ap (λ (z : Walk). z.stand.phase) at) at told)
