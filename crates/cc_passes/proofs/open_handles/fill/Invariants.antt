use Rattle.std.proofs.Common.{◌≡◌, ◌+◌, ◌++◌, length, map, take, Some}
use Rattle.cc_passes.proofs.open_handles.fill.Given as goal

abbrev pub invariant-loop-at : goal.invariant-loop-at
invariant-loop-at l =
    (length l.all.items + l.at ≡ length l.handles) × (map (λ h. h.boxed.value) (take l.at l.handles) ++ map (λ b. Some b.value) l.all.items ≡ map (λ b. Some b.value) l.fn.all.items)
