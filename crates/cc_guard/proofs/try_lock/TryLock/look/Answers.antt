use Rattle.std.proofs.Common.{rules}
use Rattle.cc_guard.proofs.Steps.{looks}
use Rattle.cc_guard.proofs.try_lock.TryLock.look.Goals as goal

pub load_new_seat-seat-requires : goal.load_new_seat-seat-requires
load_new_seat-seat-requires g c = let shared = c.self.inside.table.shared in (
  search rules,
  looks g.C.Kept.grows g.C.Kept.same g.C.Kept.onward g.C.Kept.start shared.key g.C.Kept.log
      g.C.Kept.holds shared.table_id.slots,
)
