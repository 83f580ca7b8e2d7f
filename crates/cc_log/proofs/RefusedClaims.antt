-- The definitions refuse these claims.
use Rattle.std.proofs.Common.{◌≡◌, ◌∙◌, ℕ, zero, suc, Bool, false, List, [], ◌∷◌, Some, Result, Ok, Err, refl, sym, ap, arith, codes}
use Rattle.std.specs.List.{slice_get}
use Rattle.cc_judge.proofs.Listing.{some_is}
use Rattle.cc_log.specs.Follow.{ArePartOf, HasLine, NumberedLine, as_late, part_of, with_part}
use Rattle.cc_log.specs.Log.{Known, Refusal, Spelled, ◌>>=◌, at_first, bad_line, if_some, with_line}
use Rattle.cc_log.specs.Names.{LineFault, Options}
use Rattle.cc_log.specs.Refused.{RefusedClaims}

-- whether closes are judged then
abbrev closes_in : Result Known Refusal → Bool
closes_in (Ok known) = known.closes
closes_in (Err refusal) = false

-- the one line of a log that begins as an array
array_line : (t : NumberedLine) (place : ℕ) → slice_get (codes "[" ∷ []) place ≡ Some t.1 → t.1 ≡ codes "["
array_line t zero is = sym (some_is (codes "[") t.1 is)
array_line t (suc place) is = absurd (cc is)

-- a part with it spells no log
array_refused : (options : Options) (part : List NumberedLine) (log : Spelled) → ArePartOf (codes "[" ∷ []) part → HasLine part 0 → part_of options part ≡ Ok log → ⊥
array_refused options [] log of_log has is = absurd (cc has.line_is)
array_refused options (t ∷ rest) log of_log has is =
    let first = of_log.each 0 t refl in
    let refused : part_of options (t ∷ rest) ≡ Err (bad_line t.0 LineFault.Array) = ap (λ l. (with_line (at_first options.window) t.0 l >>= (λ next. with_part next rest)) >>= (λ known. if_some options (as_late known))) (array_line t first.place first.line_is) in
    absurd (cc (sym refused ∙ is))

pub claims_refused : RefusedClaims
claims_refused = record {
  end_before_begin = λ claim. absurd (cc claim);
  item_numbered_anew = λ claim. absurd (cc claim);
  key_twice = λ claim. absurd (cc claim);
  colon_in_a_text = λ claim. absurd (cc claim);
  tie_lost = λ claim. absurd (cc claim);
  skewed_tie_lost = λ claim. absurd (cc claim);
  early_is_whole = λ claim. absurd (cc claim);
  goes_on_after_end = λ claim. absurd (cc claim);
  close_outside_lost = λ window e claim. let lost = ap closes_in claim in absurd (cc lost);
  clean_unread = λ options f is claim. let part = claim.clean is 0 (codes "[") refl in array_refused options part.part part.log part.of_log part.has part.log_is;
  items_lost = λ calls ties place item sent well. let less = well.below.sent place item sent in absurd (omega (arith, less));
}
