use Rattle.std.proofs.Common.{rules, refl, ap, subst}
use Rattle.cc_drive.specs.Names.{Answer, Pass, Point, TakeAnswer, Turns}
use Rattle.cc_runs.specs.ChainLaws.{IsLastAnswer}
use Rattle.cc_queue.specs.Headline.{name, history}
use Rattle.cc_queue.specs.Receipts.{got}
use Rattle.cc_drive.proofs.Gates.{none_asked, take_asked_on, take_none_left, take_stopped}
use Rattle.cc_drive.proofs.Workers.{working_none, taken_one, taken_none}
use Rattle.cc_drive.proofs.receiving.take_all.Goals as goal

pub loop-turns-init : goal.loop-turns-init
loop-turns-init g c = (
  search rules,
  working_none got c.args.queue.now c.args.row (Pass.Receiver c.args.job.number) c.args.job.pass _ _ c.requires.0 c.requires.1 c.is_sound.ensures.met c.new-kept.ensures,
  none_asked g.G.Gate.tells Point.TakeBegun Point.TakeAnswered c.args.queue.now c.args.row c.args.job.pass _ c.args.job.gate _ c.requires.0 c.is_sound.ensures.met (ap (λ (t : Turns). t.made) c.new-turns.ensures) refl,
)

pub returns-in-Ended : goal.returns-in-Ended
returns-in-Ended g c =
    let was = c.loop-turns.invariant in
    let last = taken_none _ _ _ _ _ _ _ _ was.1 c.in-Ok.ensures.taken (search rules) in
    let ended = subst (λ (a : TakeAnswer). IsLastAnswer (name c.in-Ok.after) (history c.in-Ok.after) (Answer.Take a)) c.in-Ended.is c.in-Ok.ensures.taken.last in
    record {
      gave = (record { back = last.back; total = c.in-Ended.total; ended = ended }, last.kept, tt, search rules, refl);
      asked = ((_, take_asked_on g.G.Gate.tells _ _ _ _ _ _ _ _ _ _ was.1.back c.in-Ok.ensures.taken c.in-Ok.ensures.asked was.2), tt);
    }

pub returns-in-Err : goal.returns-in-Err
returns-in-Err g c =
    let was = c.loop-turns.invariant in
    let ends = take_stopped g.G.Gate.tells c.args.queue.now c.args.brief.items c.args.brief.limit c.args.row c.args.job.number c.loop-turns.receiver c.args.job.gate c.loop-turns.gate _ _ _ _ _ _ _ was.1 (search rules) c.in-Err.ensures.on c.in-Err.ensures.asked was.2 c.given_up.ensures in
    record { gave = (tt, tt, ends.0, search rules, refl); asked = (tt, ends) }

pub returns : goal.returns
returns g c =
    let was = c.loop-turns.invariant in
    let ends = take_none_left g.G.Gate.tells c.args.queue.now c.args.brief.items c.args.brief.limit c.args.row c.args.job.number c.loop-turns.receiver c.args.job.gate c.loop-turns.gate _ _ _ c.loop-turns.turns.made was.1 (search rules) was.2 c.abandon.ensures in
    record { gave = (tt, tt, ends.0, search rules, refl); asked = (tt, ends) }

pub loop-turns-preserved-in-Got : goal.loop-turns-preserved-in-Got
loop-turns-preserved-in-Got g c =
    let was = c.loop-turns.invariant in (
      search rules,
      taken_one _ _ _ _ _ _ _ _ _ _ _ was.1 c.in-Ok.ensures.taken c.in-Got.is c.keep.ensures.whole c.keep.ensures.kept,
      take_asked_on g.G.Gate.tells _ _ _ _ _ _ _ _ _ _ was.1.back c.in-Ok.ensures.taken c.in-Ok.ensures.asked was.2,
    )

pub loop-turns-preserved : goal.loop-turns-preserved
loop-turns-preserved g c =
    let was = c.loop-turns.invariant in (
      search rules,
      taken_none _ _ _ _ _ _ _ _ was.1 c.in-Ok.ensures.taken (search rules),
      take_asked_on g.G.Gate.tells _ _ _ _ _ _ _ _ _ _ was.1.back c.in-Ok.ensures.taken c.in-Ok.ensures.asked was.2,
    )
