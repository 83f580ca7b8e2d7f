use Rattle.std.proofs.Common.{arith}
use Rattle.std.proofs.Math.ListN.{get_or-map}
use Rattle.std.proofs.lemmas.List.{length-map}
use Rattle.cc_model.specs.Record.{silent}
use Rattle.cc_model.specs.HistoryRoom.{SideRoom, lists}
use Rattle.cc_report.proofs.Lines.{one_more}
use Rattle.cc_report.proofs.report.write_groups.Goals as goal

pub loop-group-preserved : goal.loop-group-preserved
loop-group-preserved g c =
    let groups = c.args.history.now.takes in
    let all_groups = length-map groups (λ (s : SideRoom). s.lists) in
    let side = get_or-map (λ (s : SideRoom). s.lists) groups c.loop-group.group (record { lists = silent; room = 0 }) in
    one_more _ (lists c.args.history.now).takes _ _ _ c.loop-group.group silent (omega (arith, all_groups)) c.loop-group.invariant
    (rw side (rw (c.caller_in-caller.ensures, c.calls.ensures, c.answers.ensures, c.takes-takes.ensures) at c.write_lines.ensures))
