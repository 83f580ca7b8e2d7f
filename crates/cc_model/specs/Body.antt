-- The words of a body.
use Rattle.std.specs.Prelude.{◌≡◌, ℕ, List, [], ◌∷◌, length, ◌-◌, ⊤}
use Rattle.cc_model.specs.Names.{Body, Words, Call}

-- the words of each form
abbrev pub in_all : Words → List ℕ
in_all (Words.One words) = words
in_all (Words.Two words) = words
in_all (Words.Three words) = words
in_all (Words.Four words) = words

-- its words
abbrev pub words_of : Body → List ℕ
words_of b = in_all b.words

-- how many of them follow the first
abbrev pub further_of : Body → ℕ
further_of b = length (words_of b) - 1

-- as many as its form says
abbrev pub IsWhole : Words → Type 0
IsWhole (Words.One words) = length words ≡ 1
IsWhole (Words.Two words) = length words ≡ 2
IsWhole (Words.Three words) = length words ≡ 3
IsWhole (Words.Four words) = length words ≡ 4

-- so a body has one to four words, and no other body has the same
abbrev pub IsBody : Body → Type 0
IsBody b = IsWhole b.words

-- what a call sends is a body
abbrev pub HasBody : Call → Type 0
HasBody (Call.Send b) = IsBody b
HasBody _ = ⊤

-- the body of these words: of none and of more than four it isn't one
abbrev pub body_of : List ℕ → Body
body_of (a ∷ []) = record { words = Words.One (a ∷ []) }
body_of (a ∷ b ∷ []) = record { words = Words.Two (a ∷ b ∷ []) }
body_of (a ∷ b ∷ c ∷ []) = record { words = Words.Three (a ∷ b ∷ c ∷ []) }
body_of words = record { words = Words.Four words }
