use Rattle.std.proofs.Common.{arith, below_more}
use Rattle.std.proofs.lemmas.List.{length-map}
use Rattle.cc_model.specs.HistoryRoom.{SideRoom}
use Rattle.cc_play.proofs.play.audit_of.Goals as goal

pub loop-group-preserved : goal.loop-group-preserved
loop-group-preserved c = below_more _ _ c.loop-group.invariant (rw c.in_default.is at c.in_ok-verdict.ensures)

pub returns : goal.returns
returns c = λ g within. c.loop-group.invariant g (omega (arith, length-map c.args.history.now.takes (λ (s : SideRoom). s.lists)))
