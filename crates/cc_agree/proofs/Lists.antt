-- Lists that end alike, elements of lists, and chosen elements.
use Rattle.std.proofs.Common.{◌≡◌, ◌⊎◌, ℕ, zero, suc, ◌+◌, ◌<◌, ◌≤◌, Bool, true, false, cond, List, [], ◌∷◌, ◌++◌, length, Option, Some, None, inl, inr, refl, sym, ap, ◌∙◌, arith, length-append}
use Rattle.std.proofs.lemmas.Bool.{cases_lt}
use Rattle.std.proofs.lemmas.List.Elements.{filter-append}
use Rattle.std.specs.List.{slice_get, filter}
use Rattle.cc_runs.proofs.Chains.Last.{chosen}
use Rattle.cc_agree.specs.Names.{Entry, Answer}

-- ---- lists that end alike

-- of two ends of one list the shorter is an end of the longer
pub two_ends : {X : Type 0} (a b c d : List X) → a ++ b ≡ c ++ d → length b ≤ length d → (mid : List X) × (d ≡ mid ++ b)
two_ends {X} a b [] d e less = (a, sym e)
two_ends {X} [] b (y ∷ c) d e less = absurd (omega (arith, less, ap length e, length-append (y ∷ c) d))
two_ends {X} (x ∷ a) b (y ∷ c) d e less = let rest : a ++ b ≡ c ++ d = cc in two_ends a b c d rest less

-- a front of the list that reaches past the element at the end of `front`, or doesn't
pub long_front : {X : Type 0} (some more front rest : List X) (x : X) → some ++ more ≡ front ++ x ∷ rest → length front < length some → (back : List X) × (some ≡ front ++ x ∷ back)
long_front {X} [] more front rest x e long = absurd (omega (arith, long))
long_front {X} (y ∷ some) more [] rest x e long = let same : y ≡ x = cc in (some, ap (λ (z : X). z ∷ some) same)
long_front {X} (y ∷ some) more (z ∷ front) rest x e long =
    let same : y ≡ z = cc in
    let tail : some ++ more ≡ front ++ x ∷ rest = cc in
    let back : (back : List X) × (some ≡ front ++ x ∷ back) = long_front some more front rest x tail (omega (arith, long)) in
    (back.0, λ i. same i ∷ back.1 i)

pub short_front : {X : Type 0} (some more front rest : List X) → some ++ more ≡ front ++ rest → length some ≤ length front → (back : List X) × (front ≡ some ++ back)
short_front {X} [] more front rest e short = (front, refl)
short_front {X} (y ∷ some) more [] rest e short = absurd (omega (arith, short))
short_front {X} (y ∷ some) more (z ∷ front) rest e short =
    let same : y ≡ z = cc in
    let tail : some ++ more ≡ front ++ rest = cc in
    let back : (back : List X) × (front ≡ some ++ back) = short_front some more front rest tail (omega (arith, short)) in
    (back.0, λ i. sym same i ∷ back.1 i)

-- ---- elements

pub get_append : {X : Type 0} (xs ys : List X) (k : ℕ) (z : X) → slice_get (xs ++ ys) k ≡ Some z → (slice_get xs k ≡ Some z) ⊎ ((j : ℕ) × (k ≡ length xs + j) × (slice_get ys j ≡ Some z))
get_append {X} [] ys k z is = inr (k, omega arith, is)
get_append {X} (x ∷ xs) ys zero z is = inl is
get_append {X} (x ∷ xs) ys (suc k) z is = elim (get_append xs ys k z is) [ inl here ↦ inl here | inr there ↦ inr (there.0, omega (arith, there.1), there.2) ]

pub get_snoc : {X : Type 0} (xs : List X) (y : X) (k : ℕ) (z : X) → slice_get (xs ++ y ∷ []) k ≡ Some z → (slice_get xs k ≡ Some z) ⊎ ((k ≡ length xs) × (y ≡ z))
get_snoc {X} xs y k z is = elim (get_append xs (y ∷ []) k z is) [ inl here ↦ inl here | inr there ↦ inr (by_place there.0 there.1 there.2) ]
  where
    by_place : (j : ℕ) → k ≡ length xs + j → slice_get (y ∷ []) j ≡ Some z → (k ≡ length xs) × (y ≡ z)
    by_place zero at got = (omega (arith, at), cc)
    by_place (suc j) at got = absurd (cc)

pub get_middle : {X : Type 0} (xs : List X) (y : X) (ys : List X) → slice_get (xs ++ y ∷ ys) (length xs) ≡ Some y
get_middle {X} [] y ys = refl
get_middle {X} (x ∷ xs) y ys = get_middle xs y ys

-- two parts of one list that are equally long
pub same_split : {X : Type 0} (a b c d : List X) (x y : X) → a ++ x ∷ b ≡ c ++ y ∷ d → length a ≡ length c → (a ≡ c) × (x ≡ y)
same_split {X} [] b [] d x y e same = (refl, cc)
same_split {X} [] b (z ∷ c) d x y e same = absurd (omega (arith, same))
same_split {X} (z ∷ a) b [] d x y e same = absurd (omega (arith, same))
same_split {X} (z ∷ a) b (w ∷ c) d x y e same =
    let head : z ≡ w = cc in
    let tail : a ++ x ∷ b ≡ c ++ y ∷ d = cc in
    let rest : (a ≡ c) × (x ≡ y) = same_split a b c d x y tail (omega (arith, same)) in
    (λ i. head i ∷ rest.0 i, rest.1)

-- both parts of a pair
pub first_same : {X Y : Type 0} (a b : X) (x y : Y) → ◌≡◌ {A = Option (X × Y)} (Some (a, x)) (Some (b, y)) → a ≡ b
first_same {X} {Y} a b x y is = let pair : ◌≡◌ {A = X × Y} (a, x) (b, y) = cc in ap (λ (z : X × Y). z.0) pair

pub second_same : {X Y : Type 0} (a b : X) (x y : Y) → ◌≡◌ {A = Option (X × Y)} (Some (a, x)) (Some (b, y)) → x ≡ y
second_same {X} {Y} a b x y is = let pair : ◌≡◌ {A = X × Y} (a, x) (b, y) = cc in ap (λ (z : X × Y). z.1) pair

-- ---- chosen elements

abbrev pub count : (Entry → Bool) → List Entry → ℕ
count f calls = length (filter f calls)

pub count_append : (f : Entry → Bool) (xs ys : List Entry) → count f (xs ++ ys) ≡ count f xs + count f ys
count_append f xs ys = ap length (filter-append f xs ys) ∙ length-append (filter f xs) (filter f ys)

pub count_one : (f : Entry → Bool) (e : Entry) (rest : List Entry) → f e ≡ true → count f (e ∷ rest) ≡ suc (count f rest)
count_one f e rest its = ap (λ (b : Bool). length (cond b (e ∷ filter f rest) (filter f rest))) its

pub count_middle : (f : Entry → Bool) (front : List Entry) (e : Entry) (rest : List Entry) → f e ≡ true → count f front + 1 ≤ count f (front ++ e ∷ rest)
count_middle f front e rest its = omega (arith, count_append f front (e ∷ rest), count_one f e rest its)

abbrev Told : Type 0
Told = Entry × Option Answer

pub length-chosen : (f : Entry → Bool) (calls : List Entry) (answers : List Answer) → length (chosen f calls answers) ≡ count f calls
length-chosen f [] answers = refl
length-chosen f (e ∷ calls) [] = by (f e) (length-chosen f calls [])
  where
    by : (b : Bool) → length (chosen f calls []) ≡ count f calls → length (cond b ((e, None) ∷ chosen f calls []) (chosen f calls [])) ≡ length (cond b (e ∷ filter f calls) (filter f calls))
    by true same = omega (arith, same)
    by false same = same
length-chosen f (e ∷ calls) (a ∷ answers) = by (f e) (length-chosen f calls answers)
  where
    by : (b : Bool) → length (chosen f calls answers) ≡ count f calls → length (cond b ((e, Some a) ∷ chosen f calls answers) (chosen f calls answers)) ≡ length (cond b (e ∷ filter f calls) (filter f calls))
    by true same = omega (arith, same)
    by false same = same

-- the chosen call after those of `front`, with its answer
pub nth_chosen : (f : Entry → Bool) (front : List Entry) (e : Entry) (rest : List Entry) (answers : List Answer) → f e ≡ true → slice_get (chosen f (front ++ e ∷ rest) answers) (count f front) ≡ Some (e, slice_get answers (length front))
nth_chosen f [] e rest [] its = ap (λ (b : Bool). slice_get (cond b ((e, None) ∷ chosen f rest []) (chosen f rest [])) 0) its
nth_chosen f [] e rest (a ∷ answers) its = ap (λ (b : Bool). slice_get (cond b ((e, Some a) ∷ chosen f rest answers) (chosen f rest answers)) 0) its
nth_chosen f (d ∷ front) e rest [] its = by (f d) (nth_chosen f front e rest [] its)
  where
    by : (b : Bool) → slice_get (chosen f (front ++ e ∷ rest) []) (count f front) ≡ Some (e, None)
        → slice_get (cond b ((d, None) ∷ chosen f (front ++ e ∷ rest) []) (chosen f (front ++ e ∷ rest) [])) (length (cond b (d ∷ filter f front) (filter f front))) ≡ Some (e, None)
    by true same = same
    by false same = same
nth_chosen f (d ∷ front) e rest (a ∷ answers) its = by (f d) (nth_chosen f front e rest answers its)
  where
    by : (b : Bool) → slice_get (chosen f (front ++ e ∷ rest) answers) (count f front) ≡ Some (e, slice_get answers (length front))
        → slice_get (cond b ((d, Some a) ∷ chosen f (front ++ e ∷ rest) answers) (chosen f (front ++ e ∷ rest) answers)) (length (cond b (d ∷ filter f front) (filter f front))) ≡ Some (e, slice_get answers (length front))
    by true same = same
    by false same = same

-- and the other way round
pub record Nth (f : Entry → Bool) (calls : List Entry) (answers : List Answer) (n : ℕ) (e : Entry) (told : Answer) : Type 0 where
  pub front : List Entry
  pub rest : List Entry
  pub split : calls ≡ front ++ e ∷ rest
  pub its : f e ≡ true
  pub nth : count f front ≡ n
  pub answer : slice_get answers (length front) ≡ Some told

nth_later : (f : Entry → Bool) (d : Entry) (calls : List Entry) (answers later : List Answer) (m n : ℕ) (e : Entry) (told : Answer) → ((k : ℕ) → slice_get answers k ≡ Some told → slice_get later (suc k) ≡ Some told) → (b : Bool) → f d ≡ b → n ≡ m + cond b 1 0
    → Nth f calls answers m e told → Nth f (d ∷ calls) later n e told
nth_later f d calls answers later m n e told shift b is sum w = record {
  front = d ∷ w.front;
  rest = w.rest;
  split = ap (λ (l : List Entry). d ∷ l) w.split;
  its = w.its;
  nth = by b is sum;
  answer = shift (length w.front) w.answer;
}
  where
    by : (b : Bool) → f d ≡ b → n ≡ m + cond b 1 0 → count f (d ∷ w.front) ≡ n
    by true is sum = omega (arith, count_one f d w.front is, w.nth, sum)
    by false is sum = ap (λ (c : Bool). length (cond c (d ∷ filter f w.front) (filter f w.front))) is ∙ w.nth ∙ omega (arith, sum)

pub chosen_nth : (f : Entry → Bool) (calls : List Entry) (answers : List Answer) (n : ℕ) (e : Entry) (told : Answer) → slice_get (chosen f calls answers) n ≡ Some (e, Some told) → Nth f calls answers n e told
chosen_nth f [] answers n e told is = absurd (cc)
chosen_nth f (d ∷ calls) [] n e told is = by (f d) refl n is (λ m. chosen_nth f calls [] m e told)
  where
    by : (b : Bool) → f d ≡ b → (k : ℕ) → slice_get (cond b ((d, None) ∷ chosen f calls []) (chosen f calls [])) k ≡ Some (e, Some told)
        → ((m : ℕ) → slice_get (chosen f calls []) m ≡ Some (e, Some told) → Nth f calls [] m e told) → Nth f (d ∷ calls) [] k e told
    by true its zero got rec = let no : None ≡ Some told = second_same d e None (Some told) got in absurd (cc)
    by true its (suc k) got rec = nth_later f d calls [] [] k (suc k) e told (λ j z. absurd (cc)) true its (omega arith) (rec k got)
    by false its k got rec = nth_later f d calls [] [] k k e told (λ j z. absurd (cc)) false its (omega arith) (rec k got)
chosen_nth f (d ∷ calls) (a ∷ answers) n e told is = by (f d) refl n is (λ m. chosen_nth f calls answers m e told)
  where
    by : (b : Bool) → f d ≡ b → (k : ℕ) → slice_get (cond b ((d, Some a) ∷ chosen f calls answers) (chosen f calls answers)) k ≡ Some (e, Some told)
        → ((m : ℕ) → slice_get (chosen f calls answers) m ≡ Some (e, Some told) → Nth f calls answers m e told) → Nth f (d ∷ calls) (a ∷ answers) k e told
    by true its zero got rec =
        let same : d ≡ e = first_same d e (Some a) (Some told) got in
        let answer : Some a ≡ Some told = second_same d e (Some a) (Some told) got in
        record { front = []; rest = calls; split = ap (λ (z : Entry). z ∷ calls) same; its = ap f (sym same) ∙ its; nth = refl; answer = answer }
    by true its (suc k) got rec = nth_later f d calls answers (a ∷ answers) k (suc k) e told (λ j z. z) true its (omega arith) (rec k got)
    by false its k got rec = nth_later f d calls answers (a ∷ answers) k k e told (λ j z. z) false its (omega arith) (rec k got)

-- ---- the call after `front`, in a list that begins with some of the calls

module _ (f : Entry → Bool) (some more front rest : List Entry) (e : Entry) (split : some ++ more ≡ front ++ e ∷ rest) (its : f e ≡ true) where
  -- if no more are chosen than in `front`, the call isn't there
  pub not_yet : count f some ≤ count f front → length some ≤ length front
  not_yet few = elim (cases_lt (length front) (length some)) [
    | inl long ↦
        let back : (back : List Entry) × (some ≡ front ++ e ∷ back) = long_front some more front rest e split long in
        absurd (omega (arith, few, count_middle f front e back.0 its, ap (count f) back.1))
    | inr short ↦ short
  ]

  -- the last of the chosen is the call, if they are one more
  pub its_answer : (answers : List Answer) (before : List Told) (entry : Entry) (told : Answer) → chosen f some answers ≡ before ++ (entry, Some told) ∷ [] → length before ≡ count f front → slice_get answers (length front) ≡ Some told
  its_answer answers before entry told last many = elim (cases_lt (length front) (length some)) [
    | inl long ↦
        let back : (back : List Entry) × (some ≡ front ++ e ∷ back) = long_front some more front rest e split long in
        let here : slice_get (chosen f some answers) (count f front) ≡ Some (e, slice_get answers (length front)) = ap (λ (l : List Entry). slice_get (chosen f l answers) (count f front)) back.1 ∙ nth_chosen f front e back.0 answers its in
        let there : slice_get (chosen f some answers) (count f front) ≡ Some (entry, Some told) = ap (λ (l : List Told). slice_get l (count f front)) last ∙ ap (λ (n : ℕ). slice_get (before ++ (entry, Some told) ∷ []) n) (sym many) ∙ get_middle before (entry, Some told) [] in
        second_same e entry (slice_get answers (length front)) (Some told) (sym here ∙ there)
    | inr short ↦
        let back : (back : List Entry) × (front ≡ some ++ back) = short_front some more front (e ∷ rest) split short in
        absurd (omega (arith, many, ap length last, length-append before ((entry, Some told) ∷ []), length-chosen f some answers, ap (count f) back.1, count_append f some back.0))
  ]
