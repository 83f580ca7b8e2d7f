-- A call that begins after the queue before its own was closed, or ended, begins after all before it were.
use Rattle.std.proofs.Common.{◌≡◌, ℕ, zero, suc, ◌<◌, true, false, List, [], ◌∷◌, refl, arith}
use Rattle.cc_row.specs.Names.{Config, Call}
use Rattle.cc_row.specs.Row.{At, shut_at, ended_at, StartsLate, StartsNext, IsRow, ChainsAreRows}
use Rattle.cc_row.proofs.Order.{clash, untouched}

abbrev InTurn : List At → Type 0
InTurn o = (j k g : ℕ) → j < k → ended_at k g o ≡ true → ended_at j g o ≡ true

in_turn_more : (cfg : ℕ → Config) (last : ℕ) (e : At) (o : List At) → IsRow cfg last (e ∷ o) → InTurn o → InTurn (e ∷ o)
in_turn_more cfg last e o row before j k g less is = grind (arith, before j k g less, row)

in_turn : (cfg : ℕ → Config) (last : ℕ) (o : List At) → IsRow cfg last o → InTurn o
in_turn cfg last [] row = λ j k g less is. clash false is refl
in_turn cfg last (e ∷ o) row = in_turn_more cfg last e o row (in_turn cfg last o row.0)

module _ (cfg : ℕ → Config) (last : ℕ) (o : List At) (row : IsRow cfg last o) where
  all_shut : (q : ℕ) → ((k : ℕ) → suc k ≡ q → shut_at k o ≡ true) → (k : ℕ) → k < q → shut_at k o ≡ true
  all_shut zero next k less = absurd (omega (arith, less))
  all_shut (suc q) next k less = grind (arith, next, untouched cfg last o row k q)

  all_ended : (q g : ℕ) → ((k : ℕ) → suc k ≡ q → ended_at k g o ≡ true) → (k : ℕ) → k < q → ended_at k g o ≡ true
  all_ended zero g next k less = absurd (omega (arith, less))
  all_ended (suc q) g next k less = grind (arith, next, in_turn cfg last o row k q g)

  late : (q g : ℕ) (call : Call) → StartsNext q g call o → StartsLate q g call o
  late q g Call.Take next = all_ended q g next
  late q g _ next = all_shut q next

pub chains_are_rows : ChainsAreRows
chains_are_rows cfg last [] chain = tt
chains_are_rows cfg last (e ∷ o) chain =
    let row : IsRow cfg last o = chains_are_rows cfg last o chain.0 in
    (row, chain.1, late cfg last o row e.queue e.group e.call chain.2, chain.3)
