use Rattle.std.specs.Prelude.{◌≡◌, ◌+◌, ◌++◌, map, length, vec_len}
use Rattle.std.specs.Vec.Iter.{into_iter_items, into_iter_len}
use Rattle.cc_drive.specs.Row.{InRow}
use Rattle.cc_drive.proofs.jobs.deal.Given as goal

abbrev pub invariant-loop-pass : goal.invariant-loop-pass
invariant-loop-pass g l =
    ((l.number ≡ 1 + length l.jobs.items)
    × (vec_len l.jobs + into_iter_len l.pass-iterator ≡ vec_len l.fn.passes)
    × (vec_len l.gates + vec_len l.jobs ≡ vec_len l.fn.gates))
    × (map (λ j. j.pass) l.jobs.items ++ into_iter_items l.pass-iterator ≡ l.fn.passes.items)
    × InRow (λ n j. j.number ≡ n) 1 l.jobs.items
    × (map (λ j. j.gate) l.jobs.items ++ l.gates.items ≡ l.fn.gates.items)
