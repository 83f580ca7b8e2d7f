-- Elements that leave a row in front, and come at its end.
use Rattle.std.proofs.Common.{◌≡◌, ℕ, ◌+◌, ◌<◌, List, [], ◌∷◌, ◌++◌, length, refl, sym, ap, ◌∙◌, subst, arith, map, append_assoc, length-append}
use Rattle.std.specs.List.{remove, slice_index_or}
use Rattle.std.proofs.lemmas.List.{map-append}
use Rattle.cc_drive.specs.Row.{InRow, InRowWith}

-- without the first one the others are such ones of their places
pub row_rest : {A : Type 0} (Is : ℕ → A → Type 0) (n : ℕ) (xs rest : List A) (x : A) → xs ≡ x ∷ rest → InRow Is n xs → InRow Is (n + 1) rest
row_rest Is n xs rest x front row = (subst (InRow Is n) front row).1

-- one more at the end
row_end : {A : Type 0} (Is : ℕ → A → Type 0) (n m : ℕ) (xs : List A) (x : A) → m ≡ n + length xs → InRow Is n xs → Is m x → InRow Is n (xs ++ x ∷ [])
row_end Is n m [] x at row is = (let e : m ≡ n = omega (arith, at) in subst (λ (k : ℕ). Is k x) e is, tt)
row_end Is n m (y ∷ xs) x at row is = (row.0, row_end Is (n + 1) m xs x (omega (arith, at)) row.1 is)

pub row_push : {A : Type 0} (Is : ℕ → A → Type 0) (n m : ℕ) (xs new : List A) (x : A) → new ≡ xs ++ x ∷ [] → m ≡ n + length xs → InRow Is n xs → Is m x → InRow Is n new
row_push Is n m xs new x end at row is = subst (InRow Is n) (sym end) (row_end Is n m xs x at row is)

pub one_longer : {A : Type 0} (xs new : List A) (x : A) → new ≡ xs ++ x ∷ [] → length new ≡ length xs + 1
one_longer xs new x end = ap length end ∙ length-append xs (x ∷ [])

-- what the elements of a row promise is kept one by one: none yet
pub none_kept : {A B : Type 0} (Is : ℕ → A → Type 0) (Gives : ℕ → B → Type 0) (n : ℕ) (all left : List A) (done : List B) → left ≡ all → done ≡ [] → InRow Is n all → InRow Is (n + length done) left × InRow Gives n done
none_kept Is Gives n all left done same none row =
    let empty : length done ≡ 0 = ap length none in
    let at : n ≡ n + length done = omega (arith, empty) in
    (subst (λ (k : ℕ). InRow Is k left) at (subst (InRow Is n) (sym same) row), subst (InRow Gives n) (sym none) tt)

pub one_kept : {A B : Type 0} (Is : ℕ → A → Type 0) (Gives : ℕ → B → Type 0) (n : ℕ) (left rest : List A) (done more : List B) (x : A) (y : B) → left ≡ x ∷ rest → more ≡ done ++ y ∷ [] → (Is (n + length done) x → Gives (n + length done) y) → InRow Is (n + length done) left × InRow Gives n done → InRow Is (n + length more) rest × InRow Gives n more
one_kept Is Gives n left rest done more x y front end kept was =
    let row = subst (InRow Is (n + length done)) front was.0 in
    let at : n + length done + 1 ≡ n + length more = omega (arith, one_longer done more y end) in
    (subst (λ (k : ℕ). InRow Is k rest) at row.1, row_push Gives n (n + length done) done more y end refl was.1 (kept row.0))

-- one goes over from the beginning of a list to the end of another
pub dealt_over : {A B : Type 0} (of : A → B) (xs new : List A) (x : A) (ys rest all : List B) (y : B) → ys ≡ y ∷ rest → new ≡ xs ++ x ∷ [] → of x ≡ y → map of xs ++ ys ≡ all → map of new ++ rest ≡ all
dealt_over of xs new x ys rest all y front end same was =
    ap (λ l. map of l ++ rest) end ∙ ap (λ l. l ++ rest) (map-append of xs (x ∷ [])) ∙ append_assoc (map of xs) (of x ∷ []) rest ∙ ap (λ z. map of xs ++ z ∷ rest) same ∙ ap (λ l. map of xs ++ l) (sym front) ∙ was

-- the first one of a list is taken out
pub taken_first : {A : Type 0} (xs new : List A) (x : A) → x ≡ slice_index_or xs 0 x → new ≡ remove xs 0 → 0 < length xs → xs ≡ x ∷ new
taken_first [] new x is left some = absurd (omega (arith, some))
taken_first (y ∷ xs) new x is left some = ap (λ z. z ∷ xs) (sym is) ∙ ap (λ l. x ∷ l) (sym left)

-- ---- rows with another list

with_end : {A B : Type 0} (Is : ℕ → A → B → Type 0) (n m : ℕ) (xs : List A) (ys : List B) (x : A) (y : B) → m ≡ n + length xs → length ys ≡ length xs → InRowWith Is n xs ys → Is m x y → InRowWith Is n (xs ++ x ∷ []) (ys ++ y ∷ [])
with_end Is n m [] [] x y at same row is = (let e : m ≡ n = omega (arith, at) in subst (λ (k : ℕ). Is k x y) e is, tt)
with_end Is n m [] (b ∷ ys) x y at same row is = absurd (omega (arith, same))
with_end Is n m (a ∷ xs) [] x y at same row is = absurd row
with_end Is n m (a ∷ xs) (b ∷ ys) x y at same row is = (row.0, with_end Is (n + 1) m xs ys x y (omega (arith, at)) (omega (arith, same)) row.1 is)

with_longer : {A B : Type 0} (Is : ℕ → A → B → Type 0) (n : ℕ) (xs : List A) (ys more : List B) → InRowWith Is n xs ys → InRowWith Is n xs (ys ++ more)
with_longer Is n [] ys more row = tt
with_longer Is n (x ∷ xs) [] more row = absurd row
with_longer Is n (x ∷ xs) (y ∷ ys) more row = (row.0, with_longer Is (n + 1) xs ys more row.1)

-- the same row with a part of each element of the other list
pub with_map : {A B C : Type 0} (of : B → C) (Is : ℕ → A → B → Type 0) (By : ℕ → A → C → Type 0) (n : ℕ) (xs : List A) (ys : List B) → ((k : ℕ) (x : A) (y : B) → Is k x y → By k x (of y)) → InRowWith Is n xs ys → InRowWith By n xs (map of ys)
with_map of Is By n [] ys weaker row = tt
with_map of Is By n (x ∷ xs) [] weaker row = absurd row
with_map of Is By n (x ∷ xs) (y ∷ ys) weaker row = (weaker n x y row.0, with_map of Is By (n + 1) xs ys weaker row.1)

-- a row that grows with the elements that leave another list in front
pub record Paired {A C : Type 0} (Is : ℕ → A → C → Type 0) (n : ℕ) (left : List C) (done : List A) (all : List C) : Type 0 where
  pub before : List C
  pub are : before ++ left ≡ all
  pub many : length before ≡ length done
  pub row : InRowWith Is n done before

pub paired_first : {A C : Type 0} (Is : ℕ → A → C → Type 0) (n : ℕ) (left all : List C) (done : List A) → left ≡ all → done ≡ [] → Paired Is n left done all
paired_first {A} Is n left all done same none = record { before = []; are = same; many = sym (ap length none); row = subst (λ (xs : List A). InRowWith Is n xs []) (sym none) tt }

pub paired_next : {A C : Type 0} (Is : ℕ → A → C → Type 0) (n : ℕ) (left rest all : List C) (done more : List A) (x : A) (y : C) → left ≡ y ∷ rest → more ≡ done ++ x ∷ [] → Is (n + length done) x y → Paired Is n left done all → Paired Is n rest more all
paired_next {A} Is n left rest all done more x y front end is p =
    let one = one_longer done more x end in
    let other = one_longer p.before (p.before ++ y ∷ []) y refl in
    let many = p.many in record {
      before = p.before ++ y ∷ [];
      are = append_assoc p.before (y ∷ []) rest ∙ ap (λ l. p.before ++ l) (sym front) ∙ p.are;
      many = omega (arith, one, other, many);
      row = subst (λ (xs : List A). InRowWith Is n xs (p.before ++ y ∷ [])) (sym end) (with_end Is n (n + length done) done p.before x y refl p.many p.row is);
    }

pub paired_last : {A C : Type 0} (Is : ℕ → A → C → Type 0) (n : ℕ) (left all : List C) (done : List A) → Paired Is n left done all → InRowWith Is n done all
paired_last Is n left all done p = subst (InRowWith Is n done) p.are (with_longer Is n done p.before left p.row)

-- what such a row promises is kept one by one
abbrev pub Halfway : {A B C : Type 0} → (ℕ → A → C → Type 0) → (ℕ → B → C → Type 0) → ℕ → List A → List B → List C → Type 0
Halfway {A} {B} {C} Is Gives n left done all = (after : List C) × InRowWith Is (n + length done) left after × Paired Gives n after done all

pub halfway_first : {A B C : Type 0} (Is : ℕ → A → C → Type 0) (Gives : ℕ → B → C → Type 0) (n : ℕ) (left first : List A) (done : List B) (all : List C) → left ≡ first → done ≡ [] → InRowWith Is n first all → Halfway Is Gives n left done all
halfway_first {A} Is Gives n left first done all same none row =
    let empty : length done ≡ 0 = ap length none in
    let at : n ≡ n + length done = omega (arith, empty) in
    (all, subst (λ (k : ℕ). InRowWith Is k left all) at (subst (λ (xs : List A). InRowWith Is n xs all) (sym same) row), paired_first Gives n all all done refl none)

pub halfway_next : {A B C : Type 0} (Is : ℕ → A → C → Type 0) (Gives : ℕ → B → C → Type 0) (n : ℕ) (left rest : List A) (done more : List B) (all : List C) (x : A) (y : B) → left ≡ x ∷ rest → more ≡ done ++ y ∷ [] → ((z : C) → Is (n + length done) x z → Gives (n + length done) y z) → Halfway Is Gives n left done all → Halfway Is Gives n rest more all
halfway_next {A} {B} {C} Is Gives n left rest done more all x y front end kept was = by was.0 (subst (λ (xs : List A). InRowWith Is (n + length done) xs was.0) front was.1) was.2
  where
    by : (after : List C) → InRowWith Is (n + length done) (x ∷ rest) after → Paired Gives n after done all → Halfway Is Gives n rest more all
    by [] row p = absurd row
    by (z ∷ after) row p =
        let one = one_longer done more y end in
        let at : n + length done + 1 ≡ n + length more = omega (arith, one) in
        (after, subst (λ (k : ℕ). InRowWith Is k rest after) at row.1, paired_next Gives n (z ∷ after) after all done more y z refl end (kept z row.0) p)

pub halfway_last : {A B C : Type 0} (Is : ℕ → A → C → Type 0) (Gives : ℕ → B → C → Type 0) (n : ℕ) (left : List A) (done : List B) (all : List C) → Halfway Is Gives n left done all → InRowWith Gives n done all
halfway_last Is Gives n left done all h = paired_last Gives n h.0 all done h.2
