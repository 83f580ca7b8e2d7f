use Rattle.std.specs.Prelude.{◌≡◌, ◌++◌, map}
use Rattle.std.specs.Vec.Iter.{into_iter_items}
use Rattle.cc_tests.proofs.on_threads.apart.Given as goal

abbrev pub invariant-loop-pass : goal.invariant-loop-pass
invariant-loop-pass g l =
    (l.passes.items ++ map (λ e. e.0) (into_iter_items l.pass-iterator) ≡ map (λ e. e.0) l.fn.ends.items)
    × (map (λ k. k.items) l.kept.items ++ map (λ e. e.1.items) (into_iter_items l.pass-iterator) ≡ map (λ e. e.1.items) l.fn.ends.items)
