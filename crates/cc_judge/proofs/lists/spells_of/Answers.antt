use Rattle.std.proofs.Common.{rules}
use Rattle.std.proofs.lemmas.List.Sorted.{IsNonDecreasingBy-from_sort_by_key}
use Rattle.cc_judge.specs.Names.{Spell}
use Rattle.cc_judge.proofs.Sweeping.{spells_skip, spells_more, spells_sorted}
use Rattle.cc_judge.proofs.lists.spells_of.Goals as goal
use Rattle.cc_judge.proofs.lists.spells_of.Goals.{in-Some+in_ok-push, in_default}

pub loop-send-preserved : goal.loop-send-preserved
loop-send-preserved c = λ log written at.
    elim c.match-spell_at.branch [
      | in-Some+in_ok-push w ↦ rw w.list-is (rw w.in_ok-push.ensures.items (spells_more log c.args.calls.now c.loop-send.list.items c.loop-send.send w.in-Some.spell (w.in-Some.ensures log written at) (c.loop-send.invariant log written at)))
      | in_default w ↦ rw w.list-is (spells_skip log c.args.calls.now c.loop-send.list.items c.loop-send.send (w.in_default.ensures log written at) (c.loop-send.invariant log written at))
    ]

pub returns : goal.returns
returns c = λ log written at. spells_sorted log c.args.calls.now c.loop-send.list.items _ c.loop-send.send c.loop-send-test.false c.in_ok-sort_by_key.ensures.permutation (IsNonDecreasingBy-from_sort_by_key (λ (x : Spell). x.from) _ c.in_ok-sort_by_key.ensures.sorted (λ a r q k. search rules)) (c.loop-send.invariant log written at)
