-- The items of the first queues of a row in one list, and how many of them a group was handed.
use Rattle.std.proofs.Common.{◌≡◌, inl, inr, ℕ, zero, suc, ◌+◌, ◌<◌, ◌≤◌, List, [], ◌∷◌, ◌++◌, map, length, Some, refl, sym, ap, ◌∙◌, arith, append-nil, append_assoc, length-append}
use Rattle.std.proofs.lemmas.Bool.{cases_eq}
use Rattle.std.proofs.lemmas.List.{length-map, map-append}
use Rattle.std.specs.List.{slice_get}
use Rattle.cc_row.specs.Names.{Item}
use Rattle.cc_model.specs.Items.{handed_item}
use Rattle.cc_row.specs.Row.{At, new_of, items_at, taken_at, before, moved}
use Rattle.cc_row.specs.Bound.{taken_before}
use Rattle.cc_row.proofs.States.{items_here, items_else, items_none, taken_other, taken_none, taken_here, taken_else}

abbrev pub row_items : ℕ → List At → List Item
row_items zero o = []
row_items (suc q) o = row_items q o ++ map (moved (before q o)) (items_at q o)

pub length_row : (n : ℕ) (o : List At) → length (row_items n o) ≡ before n o
length_row zero o = refl
length_row (suc q) o = simp (length-append, length-map) (omega (arith, length_row q o))

-- ---- equal queues

pub same_before : (n : ℕ) (a b : List At) → ((k : ℕ) → k < n → items_at k a ≡ items_at k b) → before n a ≡ before n b
same_before zero a b same = refl
same_before (suc q) a b same = omega (arith, same_before q a b (λ k less. same k (omega (arith, less))), ap length (same q (omega arith)))

pub same_row : (n : ℕ) (a b : List At) → ((k : ℕ) → k < n → items_at k a ≡ items_at k b) → row_items n a ≡ row_items n b
same_row zero a b same = refl
same_row (suc q) a b same =
    let front : row_items q a ≡ row_items q b = same_row q a b (λ k less. same k (omega (arith, less))) in
    let base : before q a ≡ before q b = same_before q a b (λ k less. same k (omega (arith, less))) in
    let here = same q (omega arith) in λ i. front i ++ map (moved (base i)) (here i)

pub same_taken : (n g : ℕ) (a b : List At) → ((k : ℕ) → k < n → taken_at k g a ≡ taken_at k g b) → taken_before n g a ≡ taken_before n g b
same_taken zero g a b same = refl
same_taken (suc q) g a b same = omega (arith, same_taken q g a b (λ k less. same k (omega (arith, less))), same q (omega arith))

-- ---- queues that a group has emptied, and queues beyond

pub all_taken : (n g : ℕ) (o : List At) → ((k : ℕ) → k < n → taken_at k g o ≡ length (items_at k o)) → taken_before n g o ≡ before n o
all_taken zero g o all = refl
all_taken (suc q) g o all = omega (arith, all_taken q g o (λ k less. all k (omega (arith, less))), all q (omega arith))

pub rest_row : (n q : ℕ) (o : List At) → q < n → ((k : ℕ) → q < k → items_at k o ≡ []) → row_items n o ≡ row_items (suc q) o
rest_row zero q o less none = absurd (omega (arith, less))
rest_row (suc n) q o less none = grind (arith, append-nil, none, λ (more : q < n). rest_row n q o more none)

pub rest_taken : (n q g : ℕ) (o : List At) → q < n → ((k : ℕ) → q < k → taken_at k g o ≡ 0) → taken_before n g o ≡ taken_before (suc q) g o
rest_taken zero q g o less none = absurd (omega (arith, less))
rest_taken (suc n) q g o less none = grind (arith, none, λ (more : q < n). rest_taken n q g o more none)

pub front_row : (n q : ℕ) (o : List At) → q < n → (more : List Item) × (row_items n o ≡ row_items (suc q) o ++ more)
front_row zero q o less = absurd (omega (arith, less))
front_row (suc n) q o less = elim (cases_eq n q) [
  | inl is ↦ ([], ap (λ (z : ℕ). row_items (suc z) o) is ∙ sym (append-nil (row_items (suc q) o)))
  | inr differ ↦
      let inner : (more : List Item) × (row_items n o ≡ row_items (suc q) o ++ more) = front_row n q o (omega (arith, less, differ)) in
      let last : List Item = map (moved (before n o)) (items_at n o) in
      (inner.0 ++ last, ap (λ (l : List Item). l ++ last) inner.1 ∙ append_assoc (row_items (suc q) o) inner.0 last)
]

-- ---- one more call

pub none_row : (n : ℕ) (e : At) (o : List At) → new_of e ≡ [] → row_items n (e ∷ o) ≡ row_items n o
none_row n e o none = same_row n (e ∷ o) o (λ k less. items_none e o k none)

pub none_taken : (n g : ℕ) (e : At) (o : List At) → handed_item e.answer ≡ [] → taken_before n g (e ∷ o) ≡ taken_before n g o
none_taken n g e o none = same_taken n g (e ∷ o) o (λ k less. taken_none e o k g none)

pub other_taken : (n g : ℕ) (e : At) (o : List At) → (e.group ≡ g → ⊥) → taken_before n g (e ∷ o) ≡ taken_before n g o
other_taken n g e o differ = same_taken n g (e ∷ o) o (λ k less. taken_other e o k g differ)

pub add_row : (n : ℕ) (e : At) (o : List At) → e.queue < n → ((k : ℕ) → e.queue < k → items_at k o ≡ []) → row_items n (e ∷ o) ≡ row_items n o ++ map (moved (before e.queue o)) (new_of e)
add_row n e o less none =
    let q : ℕ = e.queue in
    let apart : (k : ℕ) → k < e.queue → items_at k (e ∷ o) ≡ items_at k o = λ k lower. items_else e o k (λ at. omega (arith, at, lower)) in
    let front : row_items e.queue (e ∷ o) ≡ row_items e.queue o = same_row e.queue (e ∷ o) o apart in
    let base : before e.queue (e ∷ o) ≡ before e.queue o = same_before e.queue (e ∷ o) o apart in
    let here : items_at e.queue (e ∷ o) ≡ items_at e.queue o ++ new_of e = items_here e o e.queue refl in
    let f : Item → Item = moved (before e.queue o) in
    rest_row n e.queue (e ∷ o) less (λ k beyond. items_else e o k (λ at. omega (arith, at, beyond)) ∙ none k beyond)
    ∙ (λ i. front i ++ map (moved (base i)) (here i))
    ∙ ap (λ (l : List Item). row_items e.queue o ++ l) (map-append f (items_at e.queue o) (new_of e))
    ∙ sym (append_assoc (row_items e.queue o) (map f (items_at e.queue o)) (map f (new_of e)))
    ∙ ap (λ (l : List Item). l ++ map f (new_of e)) (sym (rest_row n e.queue o less none))

pub add_taken : (n g : ℕ) (e : At) (o : List At) → e.queue < n → e.group ≡ g → taken_before n g (e ∷ o) ≡ taken_before n g o + length (handed_item e.answer)
add_taken zero g e o less mine = absurd (omega (arith, less))
add_taken (suc n) g e o less mine = elim (cases_eq e.queue n) [
  | inl at ↦ omega (arith, taken_here e o n g at mine, same_taken n g (e ∷ o) o (λ k lower. taken_else e o k g (λ is. omega (arith, is, at, lower))))
  | inr differ ↦ omega (arith, taken_else e o n g differ, add_taken n g e o (omega (arith, less, differ)) mine)
]

-- ---- elements

pub get_right : {X : Type 0} (xs ys : List X) (k j : ℕ) (z : X) → k ≡ length xs + j → slice_get ys j ≡ Some z → slice_get (xs ++ ys) k ≡ Some z
get_right {X} [] ys k j z at is = ap (λ (n : ℕ). slice_get ys n) (omega (arith, at)) ∙ is
get_right {X} (x ∷ xs) ys zero j z at is = absurd (omega (arith, at))
get_right {X} (x ∷ xs) ys (suc k) j z at is = get_right xs ys k j z (omega (arith, at)) is

pub get_map : {X Y : Type 0} (f : X → Y) (xs : List X) (k : ℕ) (z : X) → slice_get xs k ≡ Some z → slice_get (map f xs) k ≡ Some (f z)
get_map {X} {Y} f [] k z is = absurd (cc)
get_map {X} {Y} f (x ∷ xs) zero z is = let same : x ≡ z = cc in ap (λ (y : X). Some (f y)) same
get_map {X} {Y} f (x ∷ xs) (suc k) z is = get_map f xs k z is

-- ---- numbers that grow

pub grows : (f : ℕ → ℕ) → ((k : ℕ) → f k ≤ f (suc k)) → (n m : ℕ) → n ≤ m → f n ≤ f m
grows f step n zero less = let none : n ≡ 0 = omega (arith, less) in omega (arith, ap f none)
grows f step n (suc m) less = elim (cases_eq n (suc m)) [
  | inl is ↦ omega (arith, ap f is)
  | inr other ↦ omega (arith, grows f step n m (omega (arith, less, other)), step m)
]
