-- An option with a default has a row in the matches.
use Rattle.std.proofs.Common.{◌≡◌, ◌∙◌, ◌||◌, ◌++◌, Bool, true, false, List, [], ◌∷◌, Some, refl, sym, ap, subst, true≢false}
use Rattle.std.specs.Prelude.{find, fold, if◌then◌else◌}
use Rattle.std.specs.List.{list_any}
use Rattle.std.specs.Str.{bytes_eq}
use Rattle.std.proofs.lemmas.Slice.Eq.{bytes_eq-Decides}
use Rattle.clap.specs.Walk.{Row, Rule, Text, arg_by_id, at_row, default_rows, has_row, is_empty, reading_by, stronger, with_default}
use Rattle.clap.specs.declared.parser.matches.ValueSource.{ValueSource}
use Rattle.cc_line.proofs.Clap.Passed.{some_is}

has_appended : (p : Row → Bool) (r x : Row) (rs : List Row) → p x ≡ p r → list_any p ((x ∷ []) ++ rs) ≡ list_any p (r ∷ rs)
has_appended p r x rs same = ap (λ b. b || list_any p rs) same

module _ (id : Text) (change : Row → Row) (missing : List Row) (keeps : (r : Row) → (change r).id ≡ r.id) where
  keeps_row : (other : Text) (rows : List Row) → has_row other rows ≡ true → has_row other (at_row id (λ r. change r ∷ []) missing rows) ≡ true
  keeps_row other [] h = absurd (true≢false (sym h))
  keeps_row other (r ∷ rs) h = by (bytes_eq r.id id) refl (bytes_eq r.id other) refl (keeps_row other rs)
    where
      by : (b : Bool) → bytes_eq r.id id ≡ b → (o : Bool) → bytes_eq r.id other ≡ o → (has_row other rs ≡ true → has_row other (at_row id (λ r. change r ∷ []) missing rs) ≡ true)
          → has_row other (at_row id (λ r. change r ∷ []) missing (r ∷ rs)) ≡ true
      by true e o f rest = rw e (has_appended (λ x. bytes_eq x.id other) r (change r) rs (ap (λ (t : Text). bytes_eq t other) (keeps r)) ∙ h)
      by false e true f rest = rw (e, f) refl
      by false e false f rest = rw (e, f) (rest (rw f at h))

  makes_row : (rows : List Row) → has_row id missing ≡ true → has_row id (at_row id (λ r. change r ∷ []) missing rows) ≡ true
  makes_row [] m = m
  makes_row (r ∷ rs) m = by (bytes_eq r.id id) refl (makes_row rs m)
    where
      by : (b : Bool) → bytes_eq r.id id ≡ b → has_row id (at_row id (λ r. change r ∷ []) missing rs) ≡ true → has_row id (at_row id (λ r. change r ∷ []) missing (r ∷ rs)) ≡ true
      by true e rest = rw e (has_appended (λ x. bytes_eq x.id id) r (change r) rs (ap (λ (t : Text). bytes_eq t id) (keeps r)) ∙ ap (λ b. b || list_any (λ x. bytes_eq x.id id) rs) e)
      by false e rest = rw e (ap (λ b. b || has_row id (at_row id (λ r. change r ∷ []) missing rs)) e ∙ rest)

default_keeps : (a : Rule) (id : Text) (rows : List Row) → has_row id rows ≡ true → has_row id (with_default rows a) ≡ true
default_keeps a id rows h = by (has_row a.id rows) a.defaults
  where
    by : (b : Bool) (defaults : List Text) → has_row id (if b then rows else default_rows a.id (reading_by a) defaults rows) ≡ true
    by true defaults = h
    by false [] = h
    by false (v ∷ vs) = keeps_row a.id (λ r. record r { values = r.values ++ (v ∷ vs); source = Some (stronger r.source ValueSource.DefaultValue) }) _ (λ r. refl) id rows h

default_makes : (a : Rule) (rows : List Row) → is_empty a.defaults ≡ false → has_row a.id (with_default rows a) ≡ true
default_makes a rows some = by (has_row a.id rows) refl a.defaults some
  where
    by : (b : Bool) → has_row a.id rows ≡ b → (defaults : List Text) → is_empty defaults ≡ false → has_row a.id (if b then rows else default_rows a.id (reading_by a) defaults rows) ≡ true
    by true e defaults some = e
    by false e [] some = absurd (true≢false some)
    by false e (v ∷ vs) some = makes_row a.id (λ r. record r { values = r.values ++ (v ∷ vs); source = Some (stronger r.source ValueSource.DefaultValue) }) _ (λ r. refl) rows (rw ((bytes_eq-Decides a.id a.id).1 refl) refl)

defaults_keep : (rules : List Rule) (id : Text) (rows : List Row) → has_row id rows ≡ true → has_row id (fold with_default rows rules) ≡ true
defaults_keep [] id rows h = h
defaults_keep (a ∷ rest) id rows h = defaults_keep rest id (with_default rows a) (default_keeps a id rows h)

pub defaults_make : (rules : List Rule) (id : Text) (a : Rule) (rows : List Row) → arg_by_id rules id ≡ Some a → is_empty a.defaults ≡ false → has_row id (fold with_default rows rules) ≡ true
defaults_make [] id a rows is some = absurd (cc is)
defaults_make (x ∷ rest) id a rows is some = by (bytes_eq x.id id) refl (λ later. defaults_make rest id a (with_default rows x) later some)
  where
    by : (b : Bool) → bytes_eq x.id id ≡ b → (arg_by_id rest id ≡ Some a → has_row id (fold with_default (with_default rows x) rest) ≡ true) → has_row id (fold with_default rows (x ∷ rest)) ≡ true
    by true e more =
        let same : x ≡ a = some_is x a (rw e at is) in
        let own : has_row x.id (with_default rows x) ≡ true = default_makes x rows (ap (λ (r : Rule). is_empty r.defaults) same ∙ some) in
        defaults_keep rest id (with_default rows x) (subst (λ (t : Text). has_row t (with_default rows x) ≡ true) ((bytes_eq-Decides x.id id).0 e) own)
    by false e more = more (rw e at is)

pub row_found : (id : Text) (rows : List Row) → has_row id rows ≡ true → (r : Row) × (find (λ r. bytes_eq r.id id) rows ≡ Some r)
row_found id [] h = absurd (true≢false (sym h))
row_found id (r ∷ rs) h = by (bytes_eq r.id id) refl (row_found id rs)
  where
    by : (b : Bool) → bytes_eq r.id id ≡ b → (has_row id rs ≡ true → (x : Row) × (find (λ r. bytes_eq r.id id) rs ≡ Some x)) → (x : Row) × (find (λ r. bytes_eq r.id id) (r ∷ rs) ≡ Some x)
    by true e later = (r, rw e refl)
    by false e later = let got = later (rw e at h) in (got.0, rw e got.1)
