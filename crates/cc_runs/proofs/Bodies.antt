-- A body is that of its tag and its words.
use Rattle.std.proofs.Common.{◌≡◌, ℕ, zero, suc, ◌+◌, ◌-◌, ◌*◌, ◌/◌, ◌%◌, ◌^◌, ◌<◌, ◌≤◌, List, length, ap, ◌∙◌, arith, [], ◌∷◌, refl}
use Rattle.cc_model.specs.Body.{IsBody, further_of, words_of, body_of}
use Rattle.cc_model.proofs.Bodies.{few_words, of_its_words}
use Rattle.cc_runs.specs.Names.{Body, BodyWords, Parcel}
use Rattle.cc_runs.specs.Codes.{word, further_words, item_in, tag_of, body_words, packed, tag_sender, tag_number, slots, words_in, body_in}

-- at most three words come after the first
pub few_behind : (b : Body) → IsBody b → further_of b ≤ 3
few_behind b whole = omega (arith, (few_words b whole).1)

-- a body of its words
words_back : (xs : List ℕ) → 1 ≤ length xs → length xs ≤ 4 → body_in (length xs - 1) (slots xs) ≡ body_of xs
words_back [] some few = absurd (omega (arith, some))
words_back (_ ∷ _ ∷ _ ∷ _ ∷ _ ∷ more) some few = absurd (omega (arith, few))
words_back _ some few = refl

body_back : (b : Body) → IsBody b → body_in (further_of b) (words_in b) ≡ b
body_back b whole = words_back (words_of b) (few_words b whole).0 (few_words b whole).1 ∙ of_its_words b whole

-- what is made of words is a body
pub body_made : (n : ℕ) (words : BodyWords) → IsBody (body_in n words)
body_made n words = grind arith

-- the same words make the same body
pub body_same : (n : ℕ) (v w : BodyWords) → n ≤ 3 → ((j : ℕ) → j ≤ n → word v j ≡ word w j) → body_in n v ≡ body_in n w
body_same zero v w few same = λ i. body_in zero (record { first = same 0 (omega arith) i; second = 0; third = 0; fourth = 0 })
body_same (suc zero) v w few same = λ i. body_in 1 (record { first = same 0 (omega arith) i; second = same 1 (omega arith) i; third = 0; fourth = 0 })
body_same (suc (suc zero)) v w few same = λ i. body_in 2 (record { first = same 0 (omega arith) i; second = same 1 (omega arith) i; third = same 2 (omega arith) i; fourth = 0 })
body_same (suc (suc (suc zero))) v w few same = λ i. body_in 3 (record { first = same 0 (omega arith) i; second = same 1 (omega arith) i; third = same 2 (omega arith) i; fourth = same 3 (omega arith) i })
body_same (suc (suc (suc (suc n)))) v w few same = absurd (omega (arith, few))

-- ---- the number of words that a tag has

by_parts : (n s number : ℕ) → n ≤ 3 → number < 2 ^ 32 → (n * 2 ^ 48 + (s % 2 ^ 16 * 2 ^ 32 + number)) / 2 ^ 48 % 4 ≡ n
by_parts n s number few less = omega (arith, few, less)

pub further_told : (s number : ℕ) (b : Body) → number < 2 ^ 32 → IsBody b → further_words (packed s number b) ≡ further_of b
further_told s number b less whole = by_parts (further_of b) s number (few_behind b whole) less

pub sender_told : (s number : ℕ) (b : Body) → s < 2 ^ 16 → number < 2 ^ 32 → tag_sender (packed s number b) ≡ s
sender_told s number b few less = omega (arith, few, less)

pub number_told : (s number : ℕ) (b : Body) → number < 2 ^ 32 → tag_number (packed s number b) ≡ number
number_told s number b less = omega (arith, less)

pub body_told : (s number : ℕ) (b : Body) → number < 2 ^ 32 → IsBody b → body_in (further_words (packed s number b)) (words_in b) ≡ b
body_told s number b less whole = ap (λ (n : ℕ). body_in n (words_in b)) (further_told s number b less whole) ∙ body_back b whole

-- ---- an item that was made of words

-- it has as many as the tag says
further_in : (n : ℕ) (words : BodyWords) → n ≤ 3 → further_of (body_in n words) ≡ n
further_in n words few = grind arith

word_in : (n : ℕ) (words : BodyWords) (i : ℕ) → n ≤ 3 → i ≤ n → word (words_in (body_in n words)) i ≡ word words i
word_in n words i few low = grind arith

of_three_parts : (tag further : ℕ) → further ≡ tag / 2 ^ 48 % 4 → further * 2 ^ 48 + (tag / 2 ^ 32 % 2 ^ 16 % 2 ^ 16 * 2 ^ 32 + tag % 2 ^ 32) ≡ tag % 2 ^ 50
of_three_parts tag further is = omega (arith, is)

pub few_further : (tag : ℕ) → further_words tag ≤ 3
few_further tag = omega arith

-- its tag is the one that it was made of, as far as that says something
pub tag_cut : (p : Parcel) → tag_of (item_in p) ≡ p.tag % 2 ^ 50
tag_cut p = of_three_parts p.tag _ (further_in (further_words p.tag) p.body (few_further p.tag))

pub further_same : (p : Parcel) → further_words (tag_of (item_in p)) ≡ further_words p.tag
further_same p = ap further_words (tag_cut p) ∙ cut p.tag
  where
    cut : (tag : ℕ) → further_words (tag % 2 ^ 50) ≡ further_words tag
    cut tag = omega arith

-- and so are its words
pub word_same : (p : Parcel) (i : ℕ) → i ≤ further_words (tag_of (item_in p)) → word (body_words (item_in p)) i ≡ word p.body i
word_same p i low = word_in (further_words p.tag) p.body i (few_further p.tag) (omega (arith, low, further_same p))
