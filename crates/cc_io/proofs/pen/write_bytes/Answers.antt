use Rattle.std.proofs.Common.{◌≡◌, ◌++◌, ◌∙◌, ◌-◌, List, ℕ, take, drop, length, arith}
use Rattle.std.proofs.lemmas.Bool.Decides.{nat_tests}
use Rattle.std.proofs.lemmas.Grind.{common_steps}
use Rattle.std.proofs.KnownBytes.{Appends-trans}
use Rattle.cc_io.proofs.pen.write_bytes.Goals as goal

-- the part taken, and the part after it
cut : (done rest : List ℕ) (n : ℕ) → done ++ rest ≡ (done ++ take n rest) ++ take (length rest - n) (drop n rest)
cut done rest n = grind (arith, common_steps)

pub loop-rest-preserved : goal.loop-rest-preserved
loop-rest-preserved g c =
    let now = c.loop-rest.invariant in
    let n = c.in-Ok.n in
    let rest = c.loop-rest.rest.now in (
      now.0 ++ take n rest,
      now.1 ∙ cut now.0 rest n,
      Appends-trans _ _ _ now.0 (take n rest) now.2 c.in-Ok.ensures.bytes,
      grind (arith, nat_tests, c.in-Ok.ensures.failures),
    )
