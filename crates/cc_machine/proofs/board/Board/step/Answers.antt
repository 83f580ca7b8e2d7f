use Rattle.std.proofs.Common.{refl}
use Rattle.cc_machine.specs.Names.{Phase}
use Rattle.cc_machine.proofs.Steps.{row}
use Rattle.cc_machine.proofs.board.Board.step.Goals as goal

pub returns-in-ResetNext-clause-some : goal.returns-in-ResetNext-clause-some
returns-in-ResetNext-clause-some c =
    let e = c.stores-kind.ensures in row (λ (at : Phase). at) c.in-ResetNext.is e.kind e.state e.keeps refl refl refl refl refl

pub returns-in-ResetState-clause-some : goal.returns-in-ResetState-clause-some
returns-in-ResetState-clause-some c =
    let e = c.stores-kind-in-ResetState.ensures in row (λ (at : Phase). at) c.in-ResetState.is e.kind e.state e.keeps refl refl refl refl refl

pub returns-in-WriteTag-clause-some : goal.returns-in-WriteTag-clause-some
returns-in-WriteTag-clause-some c =
    let e = c.stores-kind-in-WriteTag.ensures in row (λ (at : Phase). at) c.in-WriteTag.is e.kind e.state e.keeps refl refl refl refl refl

pub returns-in-HandOver-clause-some : goal.returns-in-HandOver-clause-some
returns-in-HandOver-clause-some c =
    let e = c.stores-kind-in-HandOver.ensures in row (λ (at : Phase). at) c.in-HandOver.is e.kind e.state e.keeps refl refl refl refl refl

pub returns-in-ReadState-clause-some : goal.returns-in-ReadState-clause-some
returns-in-ReadState-clause-some c =
    let e = c.loads-kind.ensures in row (λ (at : Phase). at) c.in-ReadState.is e.kind e.state e.keeps refl refl (cc (c.load-state.ensures, c.after_state.ensures)) refl refl

pub returns-in-ReadNext-clause-some : goal.returns-in-ReadNext-clause-some
returns-in-ReadNext-clause-some c =
    let e = c.loads-kind-in-ReadNext.ensures in row (λ (at : Phase). at) c.in-ReadNext.is e.kind e.state e.keeps refl refl (cc (c.load-next.ensures, c.after_next.ensures)) refl refl

pub returns-in-ReadAnswer-clause-some : goal.returns-in-ReadAnswer-clause-some
returns-in-ReadAnswer-clause-some c =
    let e = c.loads-kind-in-ReadAnswer.ensures in row (λ (at : Phase). at) c.in-ReadAnswer.is e.kind e.state e.keeps refl refl (cc (c.load-ret.ensures, c.after_ret.ensures)) refl refl

pub returns-in-ReadAnswerTag-clause-some : goal.returns-in-ReadAnswerTag-clause-some
returns-in-ReadAnswerTag-clause-some c =
    let e = c.loads-kind-in-ReadAnswerTag.ensures in row (λ (at : Phase). at) c.in-ReadAnswerTag.is e.kind e.state e.keeps refl refl (cc (c.load.ensures, c.none.ensures)) refl refl

pub returns-in-ReadAnswerBody-clause-some : goal.returns-in-ReadAnswerBody-clause-some
returns-in-ReadAnswerBody-clause-some c =
    let e = c.loads-kind-in-ReadAnswerBody.ensures in row (λ (at : Phase). at) c.in-ReadAnswerBody.is e.kind e.state e.keeps refl refl (cc (c.load-found.ensures, c.with_word.ensures, c.after_body.ensures)) refl refl
