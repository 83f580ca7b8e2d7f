-- The texts of a list's elements, written one after another.
use Rattle.std.proofs.Common.{◌≡◌, ◌<◌, ◌≤◌, ◌+◌, ℕ, List, [], ◌++◌, length, get_or, drop, refl, sym, ap, ◌∙◌, subst, append_assoc, append-nil, add-one, drop-cons}
use Rattle.std.proofs.lemmas.List.{drop_all}
use Rattle.cc_io.specs.Written.{Desk, Pens}
use Rattle.cc_io.proofs.Writing.{then, still}
use Rattle.cc_report.specs.Report.{texts}

-- the pen went on by the texts of the elements before place i
pub record UpTo {A : Type 0} (old new : Desk) (text : ℕ → A → List ℕ) (xs : List A) (i : ℕ) : Type 0 where
  pub so_far : List ℕ
  pub pens : Pens old new so_far
  pub whole : texts text 0 xs ≡ so_far ++ texts text i (drop i xs)

module _ {A : Type 0} (text : ℕ → A → List ℕ) (xs : List A) where
  -- before the first
  pub none : (old : Desk) → UpTo old old text xs 0
  none old = record { so_far = []; pens = still old; whole = refl }

  -- the texts from a place are that of its element, and those from the next place
  from_place : (i : ℕ) (x : A) → i < length xs → texts text i (drop i xs) ≡ text i (get_or xs i x) ++ texts text (i + 1) (drop (i + 1) xs)
  from_place i x within =
      ap (texts text i) (drop-cons xs i x within) ∙ ap (λ (k : ℕ). text i (get_or xs i x) ++ texts text (i + 1) (drop k xs)) (sym (add-one i))

  -- one element more
  pub one_more : (old mid new : Desk) (i : ℕ) (x : A) → i < length xs → UpTo old mid text xs i → Pens mid new (text i (get_or xs i x)) → UpTo old new text xs (i + 1)
  one_more old mid new i x within before pens = record {
    so_far = before.so_far ++ text i (get_or xs i x);
    pens = then before.pens pens;
    whole = before.whole ∙ ap (λ (rest : List ℕ). before.so_far ++ rest) (from_place i x within)
        ∙ sym (append_assoc before.so_far (text i (get_or xs i x)) (texts text (i + 1) (drop (i + 1) xs)));
  }

  -- after the last
  pub all : (old new : Desk) (i : ℕ) → length xs ≤ i → UpTo old new text xs i → Pens old new (texts text 0 xs)
  all old new i past done =
      let ends : texts text 0 xs ≡ done.so_far = done.whole ∙ ap (λ (rest : List A). done.so_far ++ texts text i rest) (drop_all i xs past) ∙ append-nil done.so_far in
      subst (Pens old new) (sym ends) done.pens
