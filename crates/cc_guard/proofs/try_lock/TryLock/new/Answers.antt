use Rattle.std.proofs.Common.{rules, ◌≡◌, ◌∷◌, [], List, Option, Some, subst, sym, false}
use Rattle.atomic_table.specs.Table.{opening}
use Rattle.cc_guard.specs.Guard.{Guarded, sight}
use Rattle.cc_guard.proofs.Steps.{opens}
use Rattle.cc_guard.proofs.try_lock.TryLock.new.Goals as goal

pub new-requires : goal.new-requires
new-requires g c = let is : c.push_reserved.new.self.items ≡ Some c.args.value ∷ [] = search rules in
    subst (λ (l : List (Option g.row.T.Denot)). Guarded g.C.Kept.grows g.C.Kept.log g.C.Kept.holds c.args.key.now
    (opening (0 ∷ []) l (sight c.args.key.now g.C.Kept.start false))) (sym is)
    (opens g.C.Kept.grows g.C.Kept.same g.C.Kept.onward g.C.Kept.start c.args.key.now g.C.Kept.log g.C.Kept.holds
    c.args.value c.requires.begins c.requires.holds)
