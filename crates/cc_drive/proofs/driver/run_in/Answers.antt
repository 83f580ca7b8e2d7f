use Rattle.std.proofs.Common.{ap}
use Rattle.std.proofs.lemmas.Result.{MatchResult-from_both}
use Rattle.cc_drive.specs.Names.{Brief, Setting}
use Rattle.cc_drive.proofs.Asked.{sent_limited, were_asked}
use Rattle.cc_drive.proofs.Crewed.{are_of, has_ended}
use Rattle.cc_drive.proofs.driver.run_in.Goals as goal

pub close_behind-sent-requires-clause-senders : goal.close_behind-sent-requires-clause-senders
close_behind-sent-requires-clause-senders g c =
    let crew = c.join_senders-sent.ensures.back c.args.queue.now (record { items = c.args.config.items; limit = c.args.config.limit }) c.start_all-sending.ensures.promised in
    are_of c.args.queue.now c.args.config.items c.args.config.limit crew.workers _ crew.gave crew.back

pub returns-clause-run : goal.returns-clause-run
returns-clause-run g c =
    let brief : Brief = record { items = c.args.config.items; limit = c.args.config.limit } in
    let ready = c.requires.ready in
    let ended = has_ended c.args.queue.now c.args.config _ _ _ _ _ _ _ _ _ _ ready.closer ready.count_senders ready.count_receivers c.start_all-taking.ensures.started c.start_all-sending.ensures.started
    (c.close_behind-sent.ensures.closed _ (c.join_senders-sent.ensures.back c.args.queue.now brief c.start_all-sending.ensures.promised)) (c.join_receivers-taken.ensures.back c.args.queue.now brief c.start_all-taking.ensures.promised) in
    MatchResult-from_both c.ran_of.result _ _ (c.ran_of.ensures.run c.args.queue.now (ap (λ (s : Setting). s.config) ready.queue.setting) ended) (c.ran_of.ensures.told c.args.queue.now ended)

pub returns-clause-asked : goal.returns-clause-asked
returns-clause-asked g c =
    let brief : Brief = record { items = c.args.config.items; limit = c.args.config.limit } in
    let ready = c.requires.ready in
    were_asked g.G.Gate.tells c.args.queue.now c.args.config c.args.workers _ _ _ _ _ _ c.ran_of.result ready (sent_limited _ _ _ _ _ c.close_behind-sent.ensures.limited c.ran_of.ensures.free) c.start_all-taking.ensures.started c.start_all-sending.ensures.started
    (c.join_senders-sent.ensures.asked c.args.queue.now brief _ c.start_all-sending.ensures.workers) (c.join_receivers-taken.ensures.asked c.args.queue.now brief _ c.start_all-taking.ensures.workers)
