-- The words of a body, read one by one.
use Rattle.std.proofs.Common.{◌≡◌, ◌≢◌, ℕ, ◌<◌, ◌≤◌, refl, ap, ◌∙◌, arith, Bool, true, false, nat_lt, cond}
use Rattle.std.proofs.lemmas.Bool.{ltb-true, ltb-false}
use Rattle.cc_runs.specs.Names.{Body, Item, BodyWords, Parcel}
use Rattle.cc_runs.specs.Codes.{word, with_word, further_words, tag_sender, tag_number, item_in, item_of, behind}
use Rattle.cc_runs.proofs.Bodies.{body_same, few_further}

-- the word that was read
word_here : (body : BodyWords) (i value : ℕ) → i ≤ 3 → word (with_word body i value) i ≡ value
word_here body i value most = grind arith

-- and each other one
word_other : (body : BodyWords) (i value j : ℕ) → j ≢ i → word (with_word body i value) j ≡ word body j
word_other body i value j ne = grind arith

-- the first words are these, and so is the next one
pub next_word : (body : BodyWords) (words : ℕ → ℕ) (i value : ℕ) → i ≤ 3 → value ≡ words i → ((j : ℕ) → j < i → word body j ≡ words j) → (j : ℕ) → j ≤ i → word (with_word body i value) j ≡ words j
next_word body words i value most is front j low =
    grind (arith, word_here body i value most, word_other body i value j, front j)

-- an item is given by its place, its tag and its words
pub one_item : (p : Parcel) {place tag : ℕ} (body : BodyWords) → p.place ≡ place → p.tag ≡ tag → ((j : ℕ) → j ≤ further_words p.tag → word p.body j ≡ word body j) → item_in p ≡ item_of place tag body
one_item p {place} {tag} body place_is tag_is words =
    ap (λ (b : Body). by p.place p.tag b) (body_same (further_words p.tag) p.body body (few_further p.tag) words)
    ∙ (λ i. item_of (place_is i) (tag_is i) body)
  where
    by : ℕ → ℕ → Body → Item
    by place tag body = record { place = place; sender = tag_sender tag; number = tag_number tag; body = body }

-- the facts at the next word, and at the place after the last one
pub behind_word : {A : Type 0} (P : A → Type 0) (further i : ℕ) (next on : A) → (i < further → P next) → (further ≤ i → P on) → P (behind further i next on)
behind_word {A} P further i next on more last = by_case (nat_lt i further) refl
  where
    by_case : (b : Bool) → nat_lt i further ≡ b → P (cond b next on)
    by_case true is = more (ltb-true i further is)
    by_case false is = last (ltb-false i further is)
