-- The number that is read for an option, and that it lies in the range of the option if nothing is wrong with the words.
use Rattle.std.proofs.Common.{◌≡◌, ◌∙◌, ◌^◌, ℕ, Bool, true, false, List, [], ◌∷◌, length, Option, Some, None, Result, Ok, Err, refl, sym, ap, ◌<◌, ◌≤◌, option_map, subst, arith, pos}
use Rattle.std.specs.Prelude.{nat_lt, option_and_then, find, if◌then◌else◌, slice_get}
use Rattle.std.specs.List.{list_all}
use Rattle.std.specs.Char.{digit_value}
use Rattle.std.specs.Str.Parse.{AllDigits, ParsesUnsigned, digits_value, without_leading_plus}
use Rattle.std.proofs.lemmas.Bool.{lt-ltb, ltb-true}
use Rattle.clap.specs.Words.{ReadsOne, Text}
use Rattle.clap.proofs.WalkLemmas.{both}
use Rattle.cc_line.specs.Number.{is_number, number_in, number_of}
use Rattle.std.specs.Str.{bytes_eq}
use Rattle.std.proofs.lemmas.Slice.Eq.{bytes_eq-Decides}
use Rattle.clap.specs.Lexer.{without_minus}
use Rattle.clap.specs.Facts.{parser_of_value, unwrap_or_range}
use Rattle.clap.specs.Kinds.{value_kinds}
use Rattle.clap.specs.Faults.{values_fault}
use Rattle.clap.specs.Values.{read_as}
use Rattle.clap.specs.ValueTests.{accepts}
use Rattle.clap.specs.Walk.{Row, Rule, arg_by_id, has_row, one_of, reading_by, row_text}
use Rattle.clap.specs.declared.builder.value_parser.Reading.{Reading}
use Rattle.clap.specs.declared.builder.value_parser.ValueParser.{ValueParser}
use Rattle.clap.specs.declared.error.kind.ErrorKind.{ErrorKind}
use Rattle.clap.proofs.CallerReads.{signed_reads}
use Rattle.clap.proofs.ValueTestLemmas.{accepts-Accepts}
use Rattle.cc_line.proofs.Clap.Defaults.{row_found}
use Rattle.cc_line.proofs.Clap.Passed.{AreSome, Each, Fits, find_each, or_nil, some_is}

-- ---- reading a number

pub digits_pass : (ds : List ℕ) → AllDigits 10 ds → list_all (λ d. nat_lt (digit_value d) 10) ds ≡ true
digits_pass [] h = refl
digits_pass (d ∷ ds) h = rw (lt-ltb (digit_value d) 10 h.0) (digits_pass ds h.1)

pub digits_from : (ds : List ℕ) → list_all (λ d. nat_lt (digit_value d) 10) ds ≡ true → AllDigits 10 ds
digits_from [] e = tt
digits_from (d ∷ ds) e = let parts = both _ _ e in (ltb-true _ _ parts.0, digits_from ds parts.1)

module _ (bits : ℕ) (E : Type 0) (text : Text) where
  is_read : (n : ℕ) → ParsesUnsigned {E = E} bits 10 text (Ok n) → Some n ≡ number_in bits (without_leading_plus text)
  is_read n h =
      let ds = without_leading_plus text in
      ap Some h.1 ∙ sym (rw (lt-ltb 0 (length ds) h.0.0.0, digits_pass ds h.0.0.1, lt-ltb (digits_value 10 ds) (2 ^ bits) h.0.1) refl)

  is_none : (e : E) → ParsesUnsigned bits 10 text (Err e) → None ≡ number_in bits (without_leading_plus text)
  is_none e h = by (is_number bits (without_leading_plus text)) refl
    where
      by : (b : Bool) → is_number bits (without_leading_plus text) ≡ b → None ≡ number_in bits (without_leading_plus text)
      by false t = rw t refl
      by true t =
          let outer = both _ _ t in
          let inner = both _ _ outer.0 in
          absurd (h ((ltb-true _ _ inner.0, digits_from (without_leading_plus text) inner.1), ltb-true _ _ outer.1))

module _ (bits : ℕ) {E : Type 0} (G : Text → Result ℕ E → Type 0) (only : (u : Text) (x : Result ℕ E) → G u x → ParsesUnsigned bits 10 u x) where
  read : (text : Text) (r : Option ℕ) → ReadsOne G text r → r ≡ number_in bits (without_leading_plus text)
  read text (Some n) h = is_read bits E text n (only text (Ok n) h)
  read text None h = is_none bits E text h.0 (only text (Err h.0) h.1)

  pub found : (o : Option Text) (r : Option ℕ) → (o ≡ None → r ≡ None) → ((t : Text) → o ≡ Some t → ReadsOne G t r) → r ≡ option_and_then (λ text. number_in bits (without_leading_plus text)) o
  found None r none some = none refl
  found (Some t) r none some = read t r (some t refl)

parses : (bits n : ℕ) (E : Type 0) (text : Text) → number_in bits (without_leading_plus text) ≡ Some n → ParsesUnsigned {E = E} bits 10 text (Ok n)
parses bits n E text is = by (is_number bits (without_leading_plus text)) refl
  where
    by : (b : Bool) → is_number bits (without_leading_plus text) ≡ b → ParsesUnsigned {E = E} bits 10 text (Ok n)
    by true e =
        let outer = both _ _ e in
        let inner = both _ _ outer.0 in
        let same : digits_value 10 (without_leading_plus text) ≡ n = some_is _ n (rw e at is) in
        (((ltb-true _ _ inner.0, digits_from (without_leading_plus text) inner.1), ltb-true _ _ outer.1), sym same)
    by false e = let bad : None ≡ Some n = rw e at is in absurd (cc bad)

no_number : (bits : ℕ) (E : Type 0) (e : E) (text : Text) → number_in bits (without_leading_plus text) ≡ None → ParsesUnsigned {E = E} bits 10 text (Err e)
no_number bits E e text is h =
    let ds = without_leading_plus text in
    let found : number_in bits ds ≡ Some (digits_value 10 ds) = rw (lt-ltb 0 (length ds) h.0.0, digits_pass ds h.0.1, lt-ltb (digits_value 10 ds) (2 ^ bits) h.1) refl in
    let bad : None ≡ Some (digits_value 10 ds) = sym is ∙ found in absurd (cc bad)

accepted : (b : Bool) (kind : ErrorKind) → (if b then [] else kind ∷ []) ≡ [] → b ≡ true
accepted true kind e = refl
accepted false kind e = absurd (cc e)

-- ---- what a search finds

find_true : {X : Type 0} (p : X → Bool) (xs : List X) (x : X) → find p xs ≡ Some x → p x ≡ true
find_true p [] x is = absurd (cc is)
find_true p (y ∷ ys) x is = by (p y) refl (λ later. find_true p ys x later)
  where
    by : (b : Bool) → p y ≡ b → (find p ys ≡ Some x → p x ≡ true) → p x ≡ true
    by true e rest = subst (λ z. p z ≡ true) (some_is y x (rw e at is)) e
    by false e rest = rest (rw e at is)

-- ---- the number of an option, if there is one, and that of an option with a default

-- the number is there, and in its range
abbrev pub IsIn : (low high : ℕ) → Option ℕ → Type 0
IsIn low high number = (n : ℕ) × (number ≡ Some n) × (low ≤ n) × (n ≤ high)

reads_one : (bits : ℕ) (text : Text) (r : Option ℕ) → number_in bits (without_leading_plus text) ≡ r → ReadsOne (λ u x. ParsesUnsigned {E = Bool} bits 10 u x) text r
reads_one bits text (Some n) is = parses bits n Bool text is
reads_one bits text None is = (true, no_number bits Bool true text is)

module _ (c : List Rule) (rows : List Row) (each : Each (Fits c) rows) (id : Text) (a : Rule) (is : arg_by_id c id ≡ Some a) (bits n : ℕ) where
  abbrev Reads : Type 0
  Reads = (v : Text) × (accepts a.ignore_case (parser_of_value a.parser) v ≡ true) × (number_in bits (without_leading_plus (read_as (reading_by a) v)) ≡ Some n)

  of_values : (vs : List Text) (how : Reading) → how ≡ reading_by a → values_fault a vs ≡ [] → option_and_then (λ text. number_in bits (without_leading_plus text)) (option_map (read_as how) (slice_get vs 0)) ≡ Some n → Reads
  of_values [] how e f g = absurd (cc g)
  of_values (v ∷ vs) how e f g = (v, accepted _ _ (or_nil (value_kinds a.ignore_case (parser_of_value a.parser) v) _ f).0, subst (λ (w : Reading). number_in bits (without_leading_plus (read_as w v)) ≡ Some n) e g)

  of_row : (o : Option Row) → find (λ r. bytes_eq r.id id) rows ≡ o → option_and_then (λ text. number_in bits (without_leading_plus text)) (option_and_then row_text o) ≡ Some n → Reads
  of_row None found e = absurd (cc e)
  of_row (Some r) found e =
      let fits = find_each (Fits c) (λ r. bytes_eq r.id id) rows each r found in
      let key : r.id ≡ id = (bytes_eq-Decides r.id id).0 (find_true (λ r. bytes_eq r.id id) rows r found) in
      let same : fits.0 ≡ a = some_is fits.0 a (sym fits.1 ∙ ap (arg_by_id c) key ∙ is) in
      of_values r.values r.reading (fits.3 ∙ ap reading_by same) (subst (λ (x : Rule). values_fault x r.values ≡ []) same fits.2) e

  reads : number_of bits id rows ≡ Some n → Reads
  reads e = of_row (find (λ r. bytes_eq r.id id) rows) refl e

  module _ (low high : ℕ) (number : number_of bits id rows ≡ Some n) where
    pub small_if : a.parser ≡ Some (ValueParser.Signed (pos low) (pos high)) → high < 2 ^ bits → (low ≤ n) × (n ≤ high)
    small_if parser fits =
        let r = reads number in
        let ok : accepts a.ignore_case (ValueParser.Signed (pos low) (pos high)) r.0 ≡ true = subst (λ o. accepts a.ignore_case (parser_of_value o) r.0 ≡ true) parser r.1 in
        let got = signed_reads Bool (λ u x. ParsesUnsigned {E = Bool} bits 10 u x) bits low high r.0 (Some n)
        (parses bits n Bool (without_minus r.0) (subst (λ o. number_in bits (without_leading_plus (read_as (reading_by (record a { parser = o })) r.0)) ≡ Some n) parser r.2)) (λ u x g. g) fits (accepts-Accepts a.ignore_case (ValueParser.Signed (pos low) (pos high)) r.0 ok) in
        let same : n ≡ got.0 = some_is n got.0 got.1 in
        let least = got.2 in
        let most = got.3 in
        (omega (arith, same, least), omega (arith, same, most))

module _ (c : List Rule) (rows : List Row) (each : Each (Fits c) rows) (id : Text) (a : Rule) (is : arg_by_id c id ≡ Some a) (wants : nat_lt 0 (unwrap_or_range a.range).start_inclusive ≡ true) (there : has_row id rows ≡ true) where
  abbrev Value : Option Text → Type 0
  Value found = (v : Text) × (accepts a.ignore_case (parser_of_value a.parser) v ≡ true) × (found ≡ Some (read_as (reading_by a) v))

  value_in : (vs : List Text) (how : Reading) → how ≡ reading_by a → values_fault a vs ≡ [] → 0 < length vs → Value (option_map (read_as how) (slice_get vs 0))
  value_in [] how e f some = absurd (omega (arith, some))
  value_in (v ∷ vs) how e f some = (v, accepted _ _ (or_nil (value_kinds a.ignore_case (parser_of_value a.parser) v) _ f).0, ap (λ (w : Reading). Some (read_as w v)) e)

  value : Value (one_of id rows)
  value =
      let found = row_found id rows there in
      let r = found.0 in
      let fits = find_each (Fits c) (λ r. bytes_eq r.id id) rows each r found.1 in
      let key : r.id ≡ id = (bytes_eq-Decides r.id id).0 (find_true (λ r. bytes_eq r.id id) rows r found.1) in
      let same : fits.0 ≡ a = some_is fits.0 a (sym fits.1 ∙ ap (arg_by_id c) key ∙ is) in
      let v = value_in r.values r.reading (fits.3 ∙ ap reading_by same) (subst (λ (x : Rule). values_fault x r.values ≡ []) same fits.2) (subst (λ (x : Rule). AreSome x r.values) same fits.4 wants) in
      (v.0, v.1, ap (λ o. option_and_then row_text o) found.1 ∙ v.2)

  pub small_in : (bits low high : ℕ) → a.parser ≡ Some (ValueParser.Signed (pos low) (pos high)) → high < 2 ^ bits → IsIn low high (number_of bits id rows)
  small_in bits low high parser fits =
      let text = without_minus value.0 in
      let found : one_of id rows ≡ Some text = value.2 ∙ ap (λ o. Some (read_as (reading_by (record a { parser = o })) value.0)) parser in
      let ok : accepts a.ignore_case (ValueParser.Signed (pos low) (pos high)) value.0 ≡ true = subst (λ o. accepts a.ignore_case (parser_of_value o) value.0 ≡ true) parser value.1 in
      let got = signed_reads Bool (λ u x. ParsesUnsigned {E = Bool} bits 10 u x) bits low high value.0 (number_in bits (without_leading_plus text)) (reads_one bits text _ refl) (λ u x g. g) fits
      (accepts-Accepts a.ignore_case (ValueParser.Signed (pos low) (pos high)) value.0 ok) in
      (got.0, ap (option_and_then (λ t. number_in bits (without_leading_plus t))) found ∙ got.1, got.2, got.3)

  pub large_in : (low high : ℕ) → a.parser ≡ Some (ValueParser.Unsigned low high) → IsIn low high (number_of 64 id rows)
  large_in low high parser =
      let ds = without_leading_plus value.0 in
      let found : one_of id rows ≡ Some value.0 = value.2 ∙ ap (λ o. Some (read_as (reading_by (record a { parser = o })) value.0)) parser in
      let ok : accepts a.ignore_case (ValueParser.Unsigned low high) value.0 ≡ true = subst (λ o. accepts a.ignore_case (parser_of_value o) value.0 ≡ true) parser value.1 in
      let h = accepts-Accepts a.ignore_case (ValueParser.Unsigned low high) value.0 ok in
      let number : number_in 64 ds ≡ Some (digits_value 10 ds) = rw (lt-ltb 0 (length ds) h.0.0, digits_pass ds h.0.1, lt-ltb (digits_value 10 ds) (2 ^ 64) h.1) refl in
      (digits_value 10 ds, ap (option_and_then (λ t. number_in 64 (without_leading_plus t))) found ∙ number, h.2, h.3)
