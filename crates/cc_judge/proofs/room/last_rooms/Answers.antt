use Rattle.std.proofs.Common.{◌≡◌, ◌∙◌, List, Some, refl, ap, sym, subst, rules, length, arith, length-append}
use Rattle.std.specs.List.{slice_get}
use Rattle.std.proofs.lemmas.Option.{slice_get_read}
use Rattle.cc_judge.specs.Room.{AreLastRooms, AreTimes}
use Rattle.cc_judge.specs.Names.{Call}
use Rattle.cc_judge.proofs.Rooms.{last_more, rooms_more}
use Rattle.cc_judge.proofs.room.last_rooms.Goals as goal

pub loop-at-preserved : goal.loop-at-preserved
loop-at-preserved c =
    let inv = c.loop-at.invariant in
    let pushed = c.in_ok-push.ensures.items in
    let entry = c.index.result.now in
    let less = c.loop-at-test.true in
    let size = c.len-at-end.ensures in
    let here : slice_get c.args.begins.now.items c.loop-at.at ≡ Some entry = slice_get_read c.args.begins.now.items (length c.args.begins.now.items) c.loop-at.at entry refl (search (rules, less, size)) (search (rules, c.index.ensures)) in
    let last = λ (calls : List Call) (t : AreTimes calls c.args.begins.now.items c.args.ends.now.items). last_more calls c.args.begins.now.items c.args.number c.loop-at.at entry.0 entry.1 t.begun.sorted here c.loop-at.last c.later_room-last.result c.may_hold-holds.result
    c.later_room-last.ensures.now c.later_room-last.ensures.before (c.may_hold-holds.ensures.enough calls t) (c.may_hold-holds.ensures.fewer calls t) (inv.last calls t) in
    record {
      long = ap length pushed ∙ simp length-append (omega (arith, inv.long));
      last = last;
      rooms = λ calls t. subst (AreLastRooms calls c.args.begins.now.items c.args.number) (sym pushed) (rooms_more calls c.args.begins.now.items c.args.number c.loop-at.at c.loop-at.rooms.items c.later_room-last.result inv.long (inv.rooms calls t) (last calls t));
    }
