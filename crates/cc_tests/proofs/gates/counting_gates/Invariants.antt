use Rattle.std.specs.Prelude.{◌≡◌, vec_len}
use Rattle.cc_tests.proofs.gates.counting_gates.Given as goal

abbrev pub invariant-loop : goal.invariant-loop
invariant-loop l = vec_len l.gates ≡ l.counter
