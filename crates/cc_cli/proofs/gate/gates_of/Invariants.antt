use Rattle.std.specs.Prelude.{◌≡◌, vec_len}
use Rattle.cc_cli.proofs.gate.gates_of.Given as goal

abbrev pub invariant-loop : goal.invariant-loop
invariant-loop g l = vec_len l.gates ≡ l.counter
