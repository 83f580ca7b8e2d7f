use Rattle.std.proofs.Common.{refl}
use Rattle.cc_machine.specs.Names.{Phase}
use Rattle.cc_machine.proofs.Steps.{row}
use Rattle.cc_machine.proofs.board.Board.send.Goals as goal

pub returns-in-ReadTag : goal.returns-in-ReadTag
returns-in-ReadTag c =
    let e = c.loads.ensures in row (Phase.Sending c.args.job) c.in-ReadTag.is e.kind e.state e.keeps refl refl (cc (c.load.ensures, c.none.ensures)) refl refl

pub returns-in-ReadLastToClose : goal.returns-in-ReadLastToClose
returns-in-ReadLastToClose c =
    let e = c.loads-in-ReadLastToClose.ensures in row (Phase.Sending c.args.job) c.in-ReadLastToClose.is e.kind e.state e.keeps refl refl (cc c.load-in-ReadLastToClose.ensures) refl refl

pub returns-in-ReadCursor : goal.returns-in-ReadCursor
returns-in-ReadCursor c =
    let e = c.loads-in-ReadCursor.ensures in row (Phase.Sending c.args.job) c.in-ReadCursor.is e.kind e.state e.keeps refl refl (cc c.load-in-ReadCursor.ensures) refl refl

pub returns-in-ReadLast : goal.returns-in-ReadLast
returns-in-ReadLast c =
    let e = c.loads-in-ReadLast.ensures in row (Phase.Sending c.args.job) c.in-ReadLast.is e.kind e.state e.keeps refl refl (cc c.load-in-ReadLast.ensures) refl refl

pub returns-in-WriteLastMark : goal.returns-in-WriteLastMark
returns-in-WriteLastMark c =
    let e = c.stores-in-WriteLastMark.ensures in row (Phase.Sending c.args.job) c.in-WriteLastMark.is e.kind e.state e.keeps refl refl refl refl refl

pub returns-in-WriteShut : goal.returns-in-WriteShut
returns-in-WriteShut c =
    let e = c.stores-in-WriteShut.ensures in row (Phase.Sending c.args.job) c.in-WriteShut.is e.kind e.state e.keeps refl refl refl refl refl

pub returns-in-ResetPassed : goal.returns-in-ResetPassed
returns-in-ResetPassed c =
    let e = c.stores-in-ResetPassed.ensures in row (Phase.Sending c.args.job) c.in-ResetPassed.is e.kind e.state e.keeps refl refl refl refl refl

pub returns-in-ResetItemNext : goal.returns-in-ResetItemNext
returns-in-ResetItemNext c =
    let e = c.stores-in-ResetItemNext.ensures in row (Phase.Sending c.args.job) c.in-ResetItemNext.is e.kind e.state e.keeps refl refl refl refl refl

pub returns-in-WriteItemTag : goal.returns-in-WriteItemTag
returns-in-WriteItemTag c =
    let e = c.stores-in-WriteItemTag.ensures in row (Phase.Sending c.args.job) c.in-WriteItemTag.is e.kind e.state e.keeps refl refl refl refl refl

pub returns-in-WriteLast : goal.returns-in-WriteLast
returns-in-WriteLast c =
    let e = c.stores-in-WriteLast.ensures in row (Phase.Sending c.args.job) c.in-WriteLast.is e.kind e.state e.keeps refl refl refl refl refl

pub returns-in-WriteCount : goal.returns-in-WriteCount
returns-in-WriteCount c =
    let e = c.stores-in-WriteCount.ensures in row (Phase.Sending c.args.job) c.in-WriteCount.is e.kind e.state e.keeps refl refl refl refl refl
