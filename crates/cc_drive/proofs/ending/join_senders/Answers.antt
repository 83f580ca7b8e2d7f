use Rattle.std.proofs.Common.{rules}
use Rattle.cc_drive.specs.Back.{SenderGave, SendsByGate}
use Rattle.cc_steps.specs.Walk.{Walk}
use Rattle.cc_drive.specs.declared.jobs.WorkerJob.{WorkerJob}
use Rattle.cc_drive.proofs.Crewed.{crew_by}
use Rattle.cc_drive.proofs.Rows.{with_map}
use Rattle.cc_drive.proofs.ending.join_senders.Goals as goal

pub returns-clause-back : goal.returns-clause-back
returns-clause-back g c z b promised =
    crew_by {J = WorkerJob Walk g.row.G.Denot} (SenderGave z b.items b.limit) (λ n j d. SendsByGate g.G.Gate.tells j.gate z b.items b.limit n d) 0 0 _ _ _ _ c.gather.ensures.gathered (c.join_all-done.ensures.gives z b 0 promised) (search rules)

pub returns-clause-asked : goal.returns-clause-asked
returns-clause-asked g c z b jobs promised = record {
  workers = c.join_all-done.result.items;
  many = search rules;
  missing = c.gather.ensures.gathered.missing;
  asked = with_map (λ j. j.gate) (λ n d j. SenderGave z b.items b.limit n d × SendsByGate g.G.Gate.tells j.gate z b.items b.limit n d) (λ n d h. SenderGave z b.items b.limit n d × SendsByGate g.G.Gate.tells h z b.items b.limit n d) 0 _ _ (λ k d j h. h) (c.join_all-done.ensures.by_worker z b 0 jobs promised);
}
