use Rattle.std.proofs.Common.{rules, ◌≡◌, length}
use Rattle.cc_queue.specs.Receipts.{got}
use Rattle.cc_tests.proofs.Rounds.{have_kept, all_back}
use Rattle.cc_tests.proofs.on_threads.take_side.Goals as goal

pub returns-clause-kept : goal.returns-clause-kept
returns-clause-kept g c =
    let long : length c.in-Ok.ends.items ≡ length c.args.receivers.items = search rules in
    have_kept got (λ k. k.items) c.args.queue.now (c.args.queue.now.setting.config.senders) c.in-Ok.ends.items _ _
    (all_back got (λ k. k.items) c.args.queue.now (c.args.queue.now.setting.config.senders) c.args.receivers.items c.in-Ok.ends.items c.requires.row long (λ k d less. let it = (c.in-Ok.ensures.each k d less).1 in (it.job, it.job_read, it.call.met)))
    c.apart.ensures.passes c.apart.ensures.receipts
