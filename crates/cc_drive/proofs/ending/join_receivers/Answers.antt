use Rattle.std.proofs.Common.{rules, ◌+◌}
use Rattle.cc_drive.specs.Back.{ReceiverGave, TakesByGate}
use Rattle.cc_steps.specs.Walk.{Walk}
use Rattle.cc_drive.specs.declared.jobs.WorkerJob.{WorkerJob}
use Rattle.cc_drive.proofs.Crewed.{crew_by}
use Rattle.cc_drive.proofs.Rows.{with_map}
use Rattle.cc_drive.proofs.ending.join_receivers.Goals as goal

pub returns-clause-back : goal.returns-clause-back
returns-clause-back g c z b promised =
    crew_by {J = WorkerJob Walk g.row.G.Denot} (ReceiverGave z b.limit) (λ n j d. TakesByGate g.G.Gate.tells j.gate z b.limit n d) (c.args.senders + 1) c.args.senders _ _ _ _ c.gather.ensures.gathered (c.join_all-done.ensures.gives z b (c.args.senders + 1) promised) (search rules)

pub returns-clause-asked : goal.returns-clause-asked
returns-clause-asked g c z b jobs promised = record {
  workers = c.join_all-done.result.items;
  many = search rules;
  missing = c.gather.ensures.gathered.missing;
  asked = with_map (λ j. j.gate) (λ n d j. ReceiverGave z b.limit n d × TakesByGate g.G.Gate.tells j.gate z b.limit n d) (λ n d h. ReceiverGave z b.limit n d × TakesByGate g.G.Gate.tells h z b.limit n d) (c.args.senders + 1) _ _ (λ k d j h. h) (c.join_all-done.ensures.by_worker z b (c.args.senders + 1) jobs promised);
}
