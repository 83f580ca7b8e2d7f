use Rattle.std.proofs.Common.{rules}
use Rattle.std.specs.Arc.{arc_value}
use Rattle.cc_switch.specs.Links.{GoesOnFrom}
use Rattle.cc_switch.proofs.Onward.{has_left, seen_on}
use Rattle.cc_switch.proofs.going.go_on.Goals as goal

pub next_sender-next-requires : goal.next_sender-next-requires
next_sender-next-requires c = record {
  left = has_left (arc_value c.position.inside.row) c.deref.result.now c.deref.ensures c.position.inside.look
      c.in-Ok.taken.0 c.in-Ok.taken.1 c.position.inside.number
      c.position.inside.base c.position.inside.queue c.left.inside.sender c.left.inside.total
      (search rules) c.in-Ok.ensures.taken (search rules) (search rules);
}

pub returns-in-Some-Ok : goal.returns-in-Some-Ok
returns-in-Some-Ok c =
    let on : GoesOnFrom c.position.inside.look.seen c.put_back-position.result.seen =
    seen_on c.position.inside.look.seen c.put_back-position.result.seen c.in-Ok.taken.1
    c.next_sender-next.new.stages c.drained-drained.new.self c.in-Ok.ensures.taken.goes_on
    c.next_sender-next.ensures.moves.onward c.drained-drained.ensures.links c.drained-drained.ensures.ended
    c.put_back-position.ensures.seen in
    record {
      group = search rules;
      row = search rules;
      seen = search rules;
      later = search rules;
      above = search rules;
    }

pub returns : goal.returns
returns c =
    let on : GoesOnFrom c.position.inside.look.seen c.put_back-position-2.result.seen =
    seen_on c.position.inside.look.seen c.put_back-position-2.result.seen c.in-Ok.taken.1
    c.next_sender-next.new.stages c.drained-drained.new.self c.in-Ok.ensures.taken.goes_on
    c.next_sender-next.ensures.moves.onward c.drained-drained.ensures.links c.drained-drained.ensures.ended
    c.put_back-position-2.ensures.seen in
    record {
      group = search rules;
      row = search rules;
      seen = search rules;
      number = search rules;
      base = search rules;
      total = search rules;
      met = search rules;
    }
