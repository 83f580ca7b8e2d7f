-- A body is that of its words.
use Rattle.std.proofs.Common.{◌≡◌, ◌≤◌, [], ◌∷◌, length, refl, arith}
use Rattle.cc_model.specs.Names.{Body, Words}
use Rattle.cc_model.specs.Body.{in_all, words_of, body_of, IsWhole, IsBody}

-- one word at least, and four at most
few_in : (w : Words) → IsWhole w → (1 ≤ length (in_all w)) × (length (in_all w) ≤ 4)
few_in (Words.One words) whole = (omega (arith, whole), omega (arith, whole))
few_in (Words.Two words) whole = (omega (arith, whole), omega (arith, whole))
few_in (Words.Three words) whole = (omega (arith, whole), omega (arith, whole))
few_in (Words.Four words) whole = (omega (arith, whole), omega (arith, whole))

pub few_words : (b : Body) → IsBody b → (1 ≤ length (words_of b)) × (length (words_of b) ≤ 4)
few_words b whole = few_in b.words whole

of_all : (w : Words) → IsWhole w → body_of (in_all w) ≡ record { words = w }
of_all (Words.One (a ∷ [])) whole = refl
of_all (Words.Two (a ∷ b ∷ [])) whole = refl
of_all (Words.Three (a ∷ b ∷ c ∷ [])) whole = refl
of_all (Words.Four (a ∷ b ∷ c ∷ d ∷ [])) whole = refl
of_all (Words.One []) whole = absurd (omega (arith, whole))
of_all (Words.One (_ ∷ _ ∷ more)) whole = absurd (omega (arith, whole))
of_all (Words.Two []) whole = absurd (omega (arith, whole))
of_all (Words.Two (_ ∷ [])) whole = absurd (omega (arith, whole))
of_all (Words.Two (_ ∷ _ ∷ _ ∷ more)) whole = absurd (omega (arith, whole))
of_all (Words.Three []) whole = absurd (omega (arith, whole))
of_all (Words.Three (_ ∷ [])) whole = absurd (omega (arith, whole))
of_all (Words.Three (_ ∷ _ ∷ [])) whole = absurd (omega (arith, whole))
of_all (Words.Three (_ ∷ _ ∷ _ ∷ _ ∷ more)) whole = absurd (omega (arith, whole))
of_all (Words.Four []) whole = absurd (omega (arith, whole))
of_all (Words.Four (_ ∷ [])) whole = absurd (omega (arith, whole))
of_all (Words.Four (_ ∷ _ ∷ [])) whole = absurd (omega (arith, whole))
of_all (Words.Four (_ ∷ _ ∷ _ ∷ [])) whole = absurd (omega (arith, whole))
of_all (Words.Four (_ ∷ _ ∷ _ ∷ _ ∷ _ ∷ more)) whole = absurd (omega (arith, whole))

pub of_its_words : (b : Body) → IsBody b → body_of (words_of b) ≡ b
of_its_words b whole = of_all b.words whole
