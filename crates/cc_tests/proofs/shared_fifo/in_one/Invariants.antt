use Rattle.std.specs.Prelude.{◌≡◌, map, take}
use Rattle.cc_drive.specs.Crew.{in_turn}
use Rattle.cc_tests.proofs.shared_fifo.in_one.Given as goal

abbrev pub invariant-loop-list : goal.invariant-loop-list
invariant-loop-list g l = l.all.items ≡ in_turn (map (λ k. k.items) (take l.list-index l.fn.lists))
