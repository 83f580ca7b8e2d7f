-- What holds after each order of a row: later queues are untouched until earlier ones are shut, and later ones untaken by a group
-- until it found the earlier ones ended.
use Rattle.std.proofs.Common.{◌≡◌, ℕ, ◌<◌, Bool, true, false, List, [], ◌∷◌, length, refl, sym, ◌∙◌, arith, append-nil}
use Rattle.std.proofs.lemmas.Option.{slice_get_within}
use Rattle.cc_row.specs.Names.{Config}
use Rattle.cc_row.specs.Row.{At, items_at, shut_at, taken_at, ended_at, IsRow}

pub clash : {X : Type 0} (b : Bool) → b ≡ true → b ≡ false → X
clash {X} b so off = let wrong : true ≡ false = sym so ∙ off in absurd (cc)

-- ---- the three laws

abbrev pub Untouched : List At → Type 0
Untouched o = (q k : ℕ) → q < k → shut_at q o ≡ false → (items_at k o ≡ []) × (shut_at k o ≡ false)

abbrev pub Untaken : List At → Type 0
Untaken o = (q k g : ℕ) → q < k → ended_at q g o ≡ false → taken_at k g o ≡ 0

abbrev pub Finished : List At → Type 0
Finished o = (q g : ℕ) → ended_at q g o ≡ true → (shut_at q o ≡ true) × (taken_at q g o ≡ length (items_at q o))

module _ (cfg : ℕ → Config) (last : ℕ) where
  untouched_more : (e : At) (o : List At) → IsRow cfg last (e ∷ o) → Untouched o → Untouched (e ∷ o)
  untouched_more e o row before q k less is = grind (arith, append-nil, before q k less, row)

  pub untouched : (o : List At) → IsRow cfg last o → Untouched o
  untouched [] row = λ q k less is. (refl, refl)
  untouched (e ∷ o) row = untouched_more e o row (untouched o row.0)

  untaken_more : (e : At) (o : List At) → IsRow cfg last (e ∷ o) → Untaken o → Untaken (e ∷ o)
  untaken_more e o row before q k g less is = grind (arith, append-nil, before q k g less, row)

  pub untaken : (o : List At) → IsRow cfg last o → Untaken o
  untaken [] row = λ q k g less is. refl
  untaken (e ∷ o) row = untaken_more e o row (untaken o row.0)

  finished_more : (e : At) (o : List At) → IsRow cfg last (e ∷ o) → Finished o → Finished (e ∷ o)
  finished_more e o row before q g is = grind (arith, append-nil, before q g, row, slice_get_within)

  pub finished : (o : List At) → IsRow cfg last o → Finished o
  finished [] row = λ q g is. clash false is refl
  finished (e ∷ o) row = finished_more e o row (finished o row.0)
