use Rattle.std.proofs.Common.{ℕ, ◌+◌, ap, refl, arith}
use Rattle.std.proofs.lemmas.Grind.{common_steps}
use Rattle.cc_machine.specs.Names.{Phase, Word, Object}
use Rattle.cc_machine.specs.BoardSteps.{state_of}
use Rattle.cc_runs.specs.Words.{put}
use Rattle.cc_machine.proofs.Steps.{row}
use Rattle.cc_machine.proofs.board.Board.take.Goals as goal

pub returns-in-ReadHead : goal.returns-in-ReadHead
returns-in-ReadHead c =
    let e = c.loads.ensures in row (Phase.Taking c.args.job) c.in-ReadHead.is e.kind e.state e.keeps refl refl (cc (c.load.ensures, c.group.ensures)) refl refl

pub returns-in-ReadTaken : goal.returns-in-ReadTaken
returns-in-ReadTaken c =
    let e = c.loads-in-ReadTaken.ensures in row (Phase.Taking c.args.job) c.in-ReadTaken.is e.kind e.state e.keeps refl refl (cc (c.load-in-ReadTaken.ensures, c.group-2.ensures)) refl refl

pub returns-else-next-eq0 : goal.returns-else-next-eq0
returns-else-next-eq0 c =
    let e = c.loads-in-ReadDummyNext.ensures in row (Phase.Taking c.args.job) c.in-ReadDummyNext.is e.kind e.state e.keeps refl refl (grind (arith, common_steps, c.load-next.ensures, c.if-next-eq0.false)) refl (grind (arith, common_steps, c.load-next.ensures, c.if-next-eq0.false))

pub returns-in-WriteHead : goal.returns-in-WriteHead
returns-in-WriteHead c =
    let e = c.stores.ensures in row (Phase.Taking c.args.job) c.in-WriteHead.is e.kind e.state e.keeps refl (ap (λ (g : ℕ). put (state_of c.args.self.now).mem (Word.Object (Object.Head g)) (c.in-WriteHead.node + 1)) c.group.ensures) refl refl refl

pub returns-in-WriteTaken : goal.returns-in-WriteTaken
returns-in-WriteTaken c =
    let e = c.stores-in-WriteTaken.ensures in row (Phase.Taking c.args.job) c.in-WriteTaken.is e.kind e.state e.keeps refl (ap (λ (g : ℕ). put (state_of c.args.self.now).mem (Word.Object (Object.Taken g)) (c.in-WriteTaken.parcel.place + 1)) c.group-2.ensures) refl refl refl

pub returns-then-index-further_words : goal.returns-then-index-further_words
returns-then-index-further_words c =
    let e = c.loads-then-index-further_words.ensures in row (Phase.Taking c.args.job) c.in-ReadItemBody.is e.kind e.state e.keeps refl refl (grind (arith, common_steps, c.load-found.ensures, c.with_word.ensures, c.further_words.ensures.words, c.if-index-further_words.true)) refl refl

pub returns-else-index-further_words : goal.returns-else-index-further_words
returns-else-index-further_words c =
    let e = c.loads-in-ReadItemBody.ensures in row (Phase.Taking c.args.job) c.in-ReadItemBody.is e.kind e.state e.keeps refl refl (grind (arith, common_steps, c.load-found.ensures, c.with_word.ensures, c.further_words.ensures.words, c.if-index-further_words.false)) refl refl
