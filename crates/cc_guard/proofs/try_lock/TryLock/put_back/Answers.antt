use Rattle.std.proofs.Common.{rules, sym, subst, ℕ}
use Rattle.atomic_table.specs.Table.{Allows}
use Rattle.cc_guard.specs.Guard.{Guarded, released}
use Rattle.atomic_table.specs.Table.{step}
use mathlib.Core.Option.{none}
use Rattle.cc_guard.proofs.Steps.{releases}
use Rattle.cc_guard.proofs.try_lock.TryLock.put_back.Goals as goal

pub store-requires : goal.store-requires
store-requires g c = let seat = c.exchange.new.seat in let shared = c.self.inside.table.shared in (
  search rules,
  search rules,
  subst (λ (n : ℕ). Allows (Guarded g.C.Kept.grows g.C.Kept.log g.C.Kept.holds shared.key) n seat.id seat.me 0
      (λ _. 0) (λ _. released g.C.Kept.log (step n 0 0 0 none) seat.me 0)) (sym c.self.invariant.slots)
      (releases g.C.Kept.grows g.C.Kept.same g.C.Kept.onward g.C.Kept.start shared.key g.C.Kept.log g.C.Kept.holds seat.id
      seat.me c.args.value (search rules) (search rules) (search rules) (search rules) (search rules)),
)
