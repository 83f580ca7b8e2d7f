use Rattle.std.proofs.Common.{rules, arith}
use Rattle.std.specs.Arc.{arc_value}
use Rattle.cc_switch.specs.Links.{GoesOnFrom}
use Rattle.cc_switch.proofs.Growing.{few_ended}
use Rattle.cc_switch.proofs.Onward.{seen_on, still_at}
use Rattle.cc_switch.proofs.GoingOver.{has_over}
use Rattle.cc_switch.proofs.receiving.take_on.Goals as goal

pub next_receiver-next-requires : goal.next_receiver-next-requires
next_receiver-next-requires c = record {
  over = has_over c.over.inside.group (arc_value c.position.inside.row) c.deref.result.now c.deref.ensures
      c.position.inside.look c.in-Ok.taken.0 c.in-Ok.taken.1 c.position.inside.number
      c.position.inside.base c.position.inside.queue c.over.inside.receiver c.over.inside.total
      (search rules) c.in-Ok.ensures.taken (search rules) (search rules) (search rules) (search rules);
}

pub put_back-position-requires-2-clause-at : goal.put_back-position-requires-2-clause-at
put_back-position-requires-2-clause-at c =
    let key = (arc_value c.position.inside.row).key in
    let over = c.next_receiver-next.ensures.moves.over in
    let low = over.few in
    let high = few_ended key c.next_receiver-next.new.stages c.over.inside.group over.keeps in
    still_at key c.next_receiver-next.new.stages c.drained-drained.new.self c.position.inside.number
    c.position.inside.base c.position.inside.queue (c.drained-drained.ensures.keeps key over.keeps)
    c.drained-drained.ensures.links (omega (arith, low, high)) over.queue_is over.base_is

pub returns-in-Some : goal.returns-in-Some
returns-in-Some c =
    let on : GoesOnFrom c.position.inside.look.seen c.put_back-position.result.seen =
    seen_on c.position.inside.look.seen c.put_back-position.result.seen c.in-Ok.taken.1
    c.next_receiver-next.new.stages c.drained-drained.new.self c.in-Ok.ensures.taken.goes_on
    c.next_receiver-next.ensures.moves.onward c.drained-drained.ensures.links c.drained-drained.ensures.ended
    c.put_back-position.ensures.seen in
    record {
      group = search rules;
      row = search rules;
      seen = search rules;
      later = search rules;
      above = search rules;
    }

pub returns-then-last : goal.returns-then-last
returns-then-last c =
    let on : GoesOnFrom c.position.inside.look.seen c.put_back-position-2.result.seen =
    seen_on c.position.inside.look.seen c.put_back-position-2.result.seen c.in-Ok.taken.1
    c.next_receiver-next.new.stages c.drained-drained.new.self c.in-Ok.ensures.taken.goes_on
    c.next_receiver-next.ensures.moves.onward c.drained-drained.ensures.links c.drained-drained.ensures.ended
    c.put_back-position-2.ensures.seen in (
      record {
        group = search rules;
        row = search rules;
        seen = search rules;
        number = search rules;
        base = search rules;
        total = search rules;
        met = search rules;
      },
      search rules,
    )

pub returns : goal.returns
returns c =
    let on : GoesOnFrom c.position.inside.look.seen c.put_back-position-2.result.seen =
    seen_on c.position.inside.look.seen c.put_back-position-2.result.seen c.in-Ok.taken.1
    c.next_receiver-next.new.stages c.drained-drained.new.self c.in-Ok.ensures.taken.goes_on
    c.next_receiver-next.ensures.moves.onward c.drained-drained.ensures.links c.drained-drained.ensures.ended
    c.put_back-position-2.ensures.seen in
    record {
      group = search rules;
      row = search rules;
      seen = search rules;
      number = search rules;
      base = search rules;
      total = search rules;
      met = search rules;
    }
