use Rattle.std.proofs.Common.{rules, Some}
use Rattle.cc_guard.proofs.Steps.{grabs}
use Rattle.cc_guard.proofs.try_lock.TryLock.take.Goals as goal

pub compare_exchange-requires : goal.compare_exchange-requires
compare_exchange-requires g c = let seat = c.look.inside.seat in let shared = c.self.inside.table.shared in (
  search rules,
  search rules,
  grabs g.C.Kept.grows g.C.Kept.same g.C.Kept.onward g.C.Kept.start shared.key
      g.C.Kept.log g.C.Kept.holds shared.table_id.slots seat.id seat.me (search rules) (search rules),
)

pub exchange-requires : goal.exchange-requires
exchange-requires g c = let t = c.compare_exchange.ensures.2.hit (search rules) in
    (search rules, (Some t.value, search rules))
