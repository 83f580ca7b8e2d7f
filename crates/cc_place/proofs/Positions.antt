-- The line and the column after one byte more.
use Rattle.std.proofs.Common.{◌≡◌, ℕ, ◌+◌, ◌++◌, ◌<◌, ◌≤◌, ◌||◌, Bool, true, false, List, [], ◌∷◌, length, take, get_or, if◌then◌else◌, refl, ap, ◌∙◌, arith}
use Rattle.std.proofs.lemmas.List.{take_more}
use Rattle.std.specs.List.{list_any}
use Rattle.cc_place.specs.Position.{begins_character, column_after, count, is_line_feed, last_line, line_after}

abbrev pub one : Bool → ℕ
one b = if b then 1 else 0

pub count_push : (test : ℕ → Bool) (bytes : List ℕ) (byte : ℕ) → count test (bytes ++ byte ∷ []) ≡ count test bytes + one (test byte)
count_push test [] byte = omega arith
count_push test (b ∷ bytes) byte = let more = count_push test bytes byte in omega (arith, more)

or_true : (b : Bool) → (b || true) ≡ true
or_true true = refl
or_true false = refl

or_false : (b : Bool) → (b || false) ≡ b
or_false true = refl
or_false false = refl

grouped : (a b c : Bool) → (a || (b || c)) ≡ ((a || b) || c)
grouped true b c = refl
grouped false b c = refl

any_push : (test : ℕ → Bool) (bytes : List ℕ) (byte : ℕ) → list_any test (bytes ++ byte ∷ []) ≡ (list_any test bytes || test byte)
any_push test [] byte = or_false (test byte)
any_push test (b ∷ bytes) byte = ap (λ x. test b || x) (any_push test bytes byte) ∙ grouped (test b) (list_any test bytes) (test byte)

pub last_of_feed : (bytes : List ℕ) (byte : ℕ) → is_line_feed byte ≡ true → last_line (bytes ++ byte ∷ []) ≡ []
last_of_feed [] byte is = ap (λ x. if x || false then [] else byte ∷ []) is
last_of_feed (b ∷ bytes) byte is =
    ap (λ x. if x then last_line (bytes ++ byte ∷ []) else b ∷ (bytes ++ byte ∷ [])) (any_push is_line_feed (b ∷ bytes) byte ∙ ap (λ x. list_any is_line_feed (b ∷ bytes) || x) is ∙ or_true (list_any is_line_feed (b ∷ bytes)))
    ∙ last_of_feed bytes byte is

last_by : (x : Bool) (bytes : List ℕ) (b byte : ℕ) → last_line (bytes ++ byte ∷ []) ≡ last_line bytes ++ byte ∷ [] → (if x then last_line (bytes ++ byte ∷ []) else b ∷ (bytes ++ byte ∷ [])) ≡ (if x then last_line bytes else b ∷ bytes) ++ byte ∷ []
last_by true bytes b byte more = more
last_by false bytes b byte more = refl

pub last_of_other : (bytes : List ℕ) (byte : ℕ) → is_line_feed byte ≡ false → last_line (bytes ++ byte ∷ []) ≡ last_line bytes ++ byte ∷ []
last_of_other [] byte is = ap (λ x. if x || false then [] else byte ∷ []) is
last_of_other (b ∷ bytes) byte is =
    ap (λ x. if x then last_line (bytes ++ byte ∷ []) else b ∷ (bytes ++ byte ∷ [])) (any_push is_line_feed (b ∷ bytes) byte ∙ ap (λ x. list_any is_line_feed (b ∷ bytes) || x) is ∙ or_false (list_any is_line_feed (b ∷ bytes)))
    ∙ last_by (list_any is_line_feed (b ∷ bytes)) bytes b byte (last_of_other bytes byte is)

pub line_push : (front : List ℕ) (byte : ℕ) → line_after (front ++ byte ∷ []) ≡ line_after front + one (is_line_feed byte)
line_push front byte = omega (arith, count_push is_line_feed front byte)

column_by : (x : Bool) (front : List ℕ) (byte : ℕ) → is_line_feed byte ≡ x → column_after (front ++ byte ∷ []) ≡ (if x then 1 else column_after front + one (begins_character byte))
column_by true front byte is = ap (λ l. count begins_character l + 1) (last_of_feed front byte is)
column_by false front byte is =
    let counted = count_push begins_character (last_line front) byte in
    ap (λ l. count begins_character l + 1) (last_of_other front byte is) ∙ omega (arith, counted)

pub column_push : (front : List ℕ) (byte : ℕ) → column_after (front ++ byte ∷ []) ≡ (if is_line_feed byte then 1 else column_after front + one (begins_character byte))
column_push front byte = column_by (is_line_feed byte) front byte refl

pub line_more : (front : List ℕ) (i d : ℕ) → i < length front → line_after (take (i + 1) front) ≡ line_after (take i front) + one (is_line_feed (get_or front i d))
line_more front i d within = ap line_after (take_more front i d within) ∙ line_push (take i front) (get_or front i d)

pub column_more : (front : List ℕ) (i d : ℕ) → i < length front → column_after (take (i + 1) front) ≡ (if is_line_feed (get_or front i d) then 1 else column_after (take i front) + one (begins_character (get_or front i d)))
column_more front i d within = ap column_after (take_more front i d within) ∙ column_push (take i front) (get_or front i d)

-- ---- both stay small

pub one_few : (b : Bool) → one b ≤ 1
one_few true = omega arith
one_few false = omega arith

pub column_few : (x y : Bool) (n m : ℕ) → n ≤ m → (if x then 1 else n + one y) ≤ m + 1
column_few true y n m less = omega arith
column_few false y n m less = omega (arith, one_few y)
