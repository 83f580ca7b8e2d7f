-- Following a log: what a part is, from line to line and from part to part.
use Rattle.std.proofs.Common.{◌≡◌, ◌<◌, ◌+◌, ◌++◌, ◌⊎◌, inl, inr, ℕ, zero, suc, Bool, true, false, List, [], ◌∷◌, length, length-append, get_or, option_map, Option, Some, Result, Ok, Err, refl, sym, ap, subst, ◌∙◌, append_assoc, append-nil, arith}
use Rattle.std.specs.List.{slice_get}
use Rattle.std.specs.Result.{IsErrAnd}
use Rattle.std.proofs.lemmas.List.{map-append}
use Rattle.std.proofs.lemmas.Option.{slice_get-get_or, slice_get-map, slice_get_within}
use Rattle.cc_judge.specs.Verdict.{IsVerdict}
use Rattle.cc_judge.specs.declared.log.Rules.{Rules}
use Rattle.cc_judge.proofs.Listing.{last_pushed, pushed_at}
use Rattle.cc_log.specs.Answers.{Gives, IsLongLine, Refuses}
use Rattle.cc_log.specs.Follow.{AreInCleanParts, AreSomeOf, ArePartOf, Begins, Covers, Follows, Grows, HasLine, HasRefusedPart, HasRules, IsAtEnd, IsInCleanPart, IsLineOf, IsOnWay, Leads, NumberedLine, Reads, RefusesPart, Spells, as_late, numbered, part_of, with_part}
use Rattle.cc_log.specs.Lines.{GivesLine, HasInput, HasLines, IsAhead, IsSound, IsTooLong, held, lines_of}
use Rattle.cc_log.specs.Log.{Known, Refusal, Spelled, ◌>>=◌, at_first, bad_line, if_some, with_line}
use Rattle.cc_log.specs.Names.{Followed, LineFault, LogFault, Options, Part, State, Text, Verdict}
use Rattle.cc_log.specs.State.{IsStep, Shows, log_view}
use Rattle.cc_log.specs.declared.lines.Lines.{Lines}
use Rattle.cc_log.proofs.Ahead.{some_ahead, some_input}
use Rattle.cc_log.proofs.Reading.{long_refused}
use Rattle.cc_log.proofs.Steps.{refused_first}

-- a fault that was passed on
pub passed : {A : Type 0} (P : Result A LogFault → Type 0) (result : Result A LogFault) (fault : LogFault) → IsErrAnd result (λ f. f ≡ fault) → P (Err fault) → P result
passed P (Ok x) fault h p = absurd h
passed P (Err f) fault h p = subst (λ x. P (Err x)) (sym h) p

pub gives_on : {A V : Type 0} (value : A → V) (due : Result V Refusal) (result : Result A LogFault) (fault : LogFault) → IsErrAnd result (λ f. f ≡ fault) → Refuses fault due → Gives value result due
gives_on value due result fault h refuses = passed (λ r. Gives value r due) result fault h refuses

-- ---- a part with one more line

again : {A : Type 0} (r : Result A Refusal) → (r >>= (λ x. Ok x)) ≡ r
again (Ok x) = refl
again (Err e) = refl

more_if : (r : Result Known Refusal) (part : List NumberedLine) (t : NumberedLine) (known : Known) → (r >>= (λ n. with_part n part)) ≡ Ok known
    → ((n : Known) → with_part n part ≡ Ok known → with_part n (part ++ t ∷ []) ≡ with_line known t.0 t.1) → (r >>= (λ n. with_part n (part ++ t ∷ []))) ≡ with_line known t.0 t.1
more_if (Ok n) part t known is rest = rest n is
more_if (Err e) part t known is rest = absurd (cc is)

with_more : (first known : Known) (part : List NumberedLine) (t : NumberedLine) → with_part first part ≡ Ok known → with_part first (part ++ t ∷ []) ≡ with_line known t.0 t.1
with_more first known [] t is = again (with_line first t.0 t.1) ∙ ap (λ k. with_line k t.0 t.1) (cc is)
with_more first known (p ∷ part) t is = more_if (with_line first p.0 p.1) part t known is (λ n here. with_more n known part t here)

refused_more : (options : Options) (known : Known) (part : List NumberedLine) (t : NumberedLine) (fault : LogFault) → with_part (at_first options.window) part ≡ Ok known → Refuses fault (with_line known t.0 t.1) → Refuses fault (part_of options (part ++ t ∷ []))
refused_more options known part t fault is refuses =
    refused_first fault (with_part (at_first options.window) (part ++ t ∷ [])) (λ k. if_some options (as_late k)) (subst (Refuses fault) (sym (with_more (at_first options.window) known part t is)) refuses)

-- a line was added, or is refused
pub grown : (options : Options) (old new : Part) (text : Text) (result : Result (Unit {0}) LogFault) → (spells : Spells options old) → IsStep options (with_line spells.known text.number text.bytes.items) result new.state
    → new.lines.items ≡ old.lines.items ++ text ∷ [] → Grows options old new (text.number, text.bytes.items) result
grown options old new text (Ok done) spells step lines =
    let longer : numbered new.lines.items ≡ numbered old.lines.items ++ (text.number, text.bytes.items) ∷ [] = ap numbered lines ∙ map-append (λ (t : Text). (t.number, t.bytes.items)) old.lines.items (text ∷ []) in
    let next : with_part (at_first options.window) (numbered new.lines.items) ≡ Ok step.0 = ap (with_part (at_first options.window)) longer ∙ with_more (at_first options.window) spells.known (numbered old.lines.items) (text.number, text.bytes.items) spells.known_is ∙ step.1 in
    (record { known = step.0; known_is = next; shows = step.2 }, longer)
grown options old new text (Err fault) spells step lines = refused_more options spells.known (numbered old.lines.items) (text.number, text.bytes.items) fault spells.known_is step

pub not_grown : (options : Options) (old new : Part) (text : Text) (fault : LogFault) → (spells : Spells options old) → Refuses fault (with_line spells.known text.number text.bytes.items) → Grows options old new (text.number, text.bytes.items) (Err fault)
not_grown options old new text fault spells refuses = refused_more options spells.known (numbered old.lines.items) (text.number, text.bytes.items) fault spells.known_is refuses

-- ---- some lines of a part

module _ (all : List NumberedLine) where
  -- the same of the elements before a place
  pub record SomeTo (some : List NumberedLine) (upto : ℕ) : Type 0 where
    pub each : (k : ℕ) (t : NumberedLine) → slice_get some k ≡ Some t → (i : ℕ) × (i < upto) × (slice_get all i ≡ Some t)
    pub in_order : (j k : ℕ) (t u : NumberedLine) → j < k → slice_get some j ≡ Some t → slice_get some k ≡ Some u → (h i : ℕ) × (h < i) × (i < upto) × (slice_get all h ≡ Some t) × (slice_get all i ≡ Some u)

  pub some_none : SomeTo [] 0
  some_none = record { each = λ k t is. absurd (cc is); in_order = λ j k t u less is_t is_u. absurd (cc is_t) }

  pub some_left : (some : List NumberedLine) (i : ℕ) → SomeTo some i → SomeTo some (i + 1)
  some_left some i to = record {
    each = λ k t is. (let e = to.each k t is in let less = e.1 in (e.0, omega (arith, less), e.2));
    in_order = λ j k t u less is_t is_u. (let e = to.in_order j k t u less is_t is_u in let within = e.3 in (e.0, e.1, e.2, omega (arith, within), e.4, e.5));
  }

  pub some_kept : (some : List NumberedLine) (x : NumberedLine) (i : ℕ) → slice_get all i ≡ Some x → SomeTo some i → SomeTo (some ++ x ∷ []) (i + 1)
  some_kept some x i x_is to = record { each = each; in_order = in_order }
    where
      each : (k : ℕ) (t : NumberedLine) → slice_get (some ++ x ∷ []) k ≡ Some t → (h : ℕ) × (h < i + 1) × (slice_get all h ≡ Some t)
      each k t is = elim (pushed_at some x t k is) [
        | inl had ↦ (let e = to.each k t had in let less = e.1 in (e.0, omega (arith, less), e.2))
        | inr last ↦ (i, omega arith, x_is ∙ ap Some (sym last.1))
      ]

      in_order : (j k : ℕ) (t u : NumberedLine) → j < k → slice_get (some ++ x ∷ []) j ≡ Some t → slice_get (some ++ x ∷ []) k ≡ Some u → (h l : ℕ) × (h < l) × (l < i + 1) × (slice_get all h ≡ Some t) × (slice_get all l ≡ Some u)
      in_order j k t u less is_t is_u = elim (pushed_at some x u k is_u) [
        | inl had ↦ elim (pushed_at some x t j is_t) [
          | inl old ↦ (let e = to.in_order j k t u less old had in let within = e.3 in (e.0, e.1, e.2, omega (arith, within), e.4, e.5))
          | inr last ↦ (let within = slice_get_within some k u had in let at = last.0 in absurd (omega (arith, less, within, at)))
        ]
        | inr last ↦ elim (pushed_at some x t j is_t) [
          | inl old ↦ (let e = to.each j t old in (e.0, i, e.1, omega arith, e.2, x_is ∙ ap Some (sym last.1)))
          | inr two ↦ (let at = last.0 in let also = two.0 in absurd (omega (arith, less, at, also)))
        ]
      ]

  pub some_all : (some : List NumberedLine) (i : ℕ) → SomeTo some i → AreSomeOf all some
  some_all some i to = record {
    each = λ k t is. (let e = to.each k t is in (e.0, e.2));
    in_order = λ j k t u less is_t is_u. (let e = to.in_order j k t u less is_t is_u in (e.0, e.1, e.2, e.4, e.5));
  }

pub part_of_some : (lines : List (List ℕ)) (all some : List NumberedLine) → ArePartOf lines all → AreSomeOf all some → ArePartOf lines some
part_of_some lines all some of_log are = record {
  each = λ k t is. (let e = are.each k t is in of_log.each e.0 t e.1);
  in_order = λ j k t u less is_t is_u. (let e = are.in_order j k t u less is_t is_u in of_log.in_order e.0 e.1 t u e.2 e.3 e.4);
}

-- ---- longer logs

at_append : {X : Type 0} (xs ys : List X) (k : ℕ) (x : X) → slice_get xs k ≡ Some x → slice_get (xs ++ ys) k ≡ Some x
at_append [] ys k x is = absurd (cc is)
at_append (y ∷ xs) ys zero x is = is
at_append (y ∷ xs) ys (suc k) x is = at_append xs ys k x is

part_longer : (lines more : List (List ℕ)) (part : List NumberedLine) → ArePartOf lines part → ArePartOf (lines ++ more) part
part_longer lines more part of_log = record {
  each = λ k t is. (let e = of_log.each k t is in record { place = e.place; number = e.number; line_is = at_append lines more e.place t.1 e.line_is });
  in_order = of_log.in_order;
}

clean_longer : (options : Options) (lines more : List (List ℕ)) (place : ℕ) → IsInCleanPart options lines place → IsInCleanPart options (lines ++ more) place
clean_longer options lines more place clean = record {
  part = clean.part;
  of_log = part_longer lines more clean.part clean.of_log;
  has = clean.has;
  log = clean.log;
  log_is = clean.log_is;
  rules = clean.rules;
  has_rules = clean.has_rules;
  clean = clean.clean;
}

-- a log and a part of it with one more line
part_grown : (read : List (List ℕ)) (line : List ℕ) (part : List NumberedLine) (number : ℕ) → number ≡ length read + 1 → ArePartOf read part → ArePartOf (read ++ line ∷ []) (part ++ (number, line) ∷ [])
part_grown read line part number count of_log = record { each = each; in_order = in_order }
  where
    here : IsLineOf (read ++ line ∷ []) (number, line)
    here = record { place = length read; number = count; line_is = last_pushed read line }

    longer : ArePartOf (read ++ line ∷ []) part
    longer = part_longer read (line ∷ []) part of_log

    each : (k : ℕ) (t : NumberedLine) → slice_get (part ++ (number, line) ∷ []) k ≡ Some t → IsLineOf (read ++ line ∷ []) t
    each k t is = elim (pushed_at part (number, line) t k is) [
      | inl had ↦ longer.each k t had
      | inr last ↦ subst (IsLineOf (read ++ line ∷ [])) (sym last.1) here
    ]

    below : (j : ℕ) (t : NumberedLine) → slice_get part j ≡ Some t → t.0 < number
    below j t is =
        let e = of_log.each j t is in
        let within = slice_get_within read e.place t.1 e.line_is in
        let at = e.number in
        omega (arith, within, at, count)

    in_order : (j k : ℕ) (t u : NumberedLine) → j < k → slice_get (part ++ (number, line) ∷ []) j ≡ Some t → slice_get (part ++ (number, line) ∷ []) k ≡ Some u → t.0 < u.0
    in_order j k t u less is_t is_u = elim (pushed_at part (number, line) u k is_u) [
      | inl had ↦ elim (pushed_at part (number, line) t j is_t) [
        | inl old ↦ of_log.in_order j k t u less old had
        | inr last ↦ (let within = slice_get_within part k u had in let at = last.0 in absurd (omega (arith, less, within, at)))
      ]
      | inr last ↦ elim (pushed_at part (number, line) t j is_t) [
        | inl old ↦ subst (λ (v : NumberedLine). t.0 < v.0) (sym last.1) (below j t old)
        | inr two ↦ (let at = last.0 in let also = two.0 in absurd (omega (arith, less, at, also)))
      ]
    ]

-- ---- from line to line

pub on_way_at_first : (options : Options) (first : Option (List ℕ)) (l : Lines) (part : Part) → Spells options part → part.lines.items ≡ [] → held l ≡ [] → IsOnWay options first first l part 1
on_way_at_first options first l part spells none nothing = record {
  read = [];
  count = refl;
  leads = λ after ahead. record { input = after; has = subst (HasInput first) (sym (ahead.text_is ∙ ap (λ h. h ++ ahead.rest) nothing)) ahead.in_source; lines_are = refl };
  covers = record {
    spells = spells;
    of_log = subst (λ ts. ArePartOf [] (numbered ts)) (sym none) (record { each = λ k t is. absurd (cc is); in_order = λ j k t u less is_t is_u. absurd (cc is_t) });
    others = λ place line is. absurd (cc is);
  };
}

leads_more : (first left_old left_new : Option (List ℕ)) (old new : Lines) (read : List (List ℕ)) (line : List ℕ) → GivesLine old new left_old left_new line → ((after : List ℕ) → IsAhead old left_old after → Leads first read after)
    → (after : List ℕ) → IsAhead new left_new after → Leads first (read ++ line ∷ []) after
leads_more first left_old left_new old new read line gives leads after ahead =
    let h = gives after ahead in
    let before = leads h.text h.ahead in
    record { input = before.input; has = before.has; lines_are = before.lines_are ∙ ap (λ ls. read ++ ls) h.lines_are ∙ sym (append_assoc read (line ∷ []) (lines_of after)) }

covers_more : (options : Options) (old new : Part) (read : List (List ℕ)) (line : List ℕ) (number : ℕ) → number ≡ length read + 1 → Covers options old read → Spells options new → numbered new.lines.items ≡ numbered old.lines.items ++ (number, line) ∷ []
    → Covers options new (read ++ line ∷ [])
covers_more options old new read line number count covers spells longer = record {
  spells = spells;
  of_log = subst (ArePartOf (read ++ line ∷ [])) (sym longer) (part_grown read line (numbered old.lines.items) number count covers.of_log);
  others = others;
}
  where
    has_more : (place : ℕ) → HasLine (numbered old.lines.items) place → HasLine (numbered new.lines.items) place
    has_more place has = record { at = has.at; line = has.line; line_is = ap (λ ts. slice_get ts has.at) longer ∙ at_append (numbered old.lines.items) ((number, line) ∷ []) has.at has.line has.line_is; number = has.number }

    has_last : (place : ℕ) → place ≡ length read → HasLine (numbered new.lines.items) place
    has_last place at = record { at = length (numbered old.lines.items); line = (number, line); line_is = ap (λ ts. slice_get ts (length (numbered old.lines.items))) longer ∙ last_pushed (numbered old.lines.items) (number, line); number = count ∙ ap (λ n. n + 1) (sym at) }

    others : (place : ℕ) (l : List ℕ) → slice_get (read ++ line ∷ []) place ≡ Some l → HasLine (numbered new.lines.items) place ⊎ IsInCleanPart options (read ++ line ∷ []) place
    others place l is = elim (pushed_at read line l place is) [
      | inl had ↦ elim (covers.others place l had) [
        | inl has ↦ inl (has_more place has)
        | inr clean ↦ inr (clean_longer options read (line ∷ []) place clean)
      ]
      | inr last ↦ inl (has_last place last.0)
    ]

-- ---- refusals

-- what a part is refused for is no failed read
refused_part : (options : Options) (first : Option (List ℕ)) (fault : LogFault) → (input : List ℕ) × HasInput first input × HasRefusedPart options (lines_of input) fault → RefusesPart options first fault
refused_part options first (LogFault.Line line fault) h = h
refused_part options first (LogFault.Key line key) h = h
refused_part options first (LogFault.Clash line fault last) h = h
refused_part options first (LogFault.SentTwice one two item) h = h
refused_part options first LogFault.Empty h = h
refused_part options first LogFault.Read h = tt
refused_part options first LogFault.Memory h = h

pub no_memory : (options : Options) (first : Option (List ℕ)) → RefusesPart options first LogFault.Memory
no_memory options first =
    let i = some_input first in
    (i.0, i.1, record { part = []; of_log = record { each = λ k t is. absurd (cc is); in_order = λ j k t u less is_t is_u. absurd (cc is_t) }; refuses = tt })

-- some lines of a part are refused
module _ (options : Options) (first : Option (List ℕ)) (part : Part) (read rest : List (List ℕ)) (covers : Covers options part read) (input : List ℕ) (has : HasInput first input) (lines_are : lines_of input ≡ read ++ rest) (fault : LogFault) where
  pub some_refused : (some : List NumberedLine) → AreSomeOf (numbered part.lines.items) some → Refuses fault (part_of options some) → RefusesPart options first fault
  some_refused some are refuses =
      refused_part options first fault (input, has, record { part = some; of_log = subst (λ ls. ArePartOf ls some) (sym lines_are) (part_longer read rest some (part_of_some read (numbered part.lines.items) some covers.of_log are)); refuses = refuses })

  pub all_refused : Refuses fault (part_of options (numbered part.lines.items)) → RefusesPart options first fault
  all_refused refuses =
      refused_part options first fault (input, has, record { part = numbered part.lines.items; of_log = subst (λ ls. ArePartOf ls (numbered part.lines.items)) (sym lines_are) (part_longer read rest (numbered part.lines.items) covers.of_log); refuses = refuses })

-- ---- the next line

module _ (options : Options) (first left : Option (List ℕ)) (l : Lines) (part : Part) (number : ℕ) (way : IsOnWay options first left l part number) where
  -- it is refused
  next_refused : (line : List ℕ) (rest : List (List ℕ)) (fault : LogFault) → HasLines l left [] (line ∷ rest) → Refuses fault (part_of options (numbered part.lines.items ++ (number, line) ∷ [])) → RefusesPart options first fault
  next_refused line rest fault has refuses =
      let h = way.leads has.text has.ahead in
      let lines_are : lines_of h.input ≡ (way.read ++ line ∷ []) ++ rest = h.lines_are ∙ ap (λ ls. way.read ++ ls) has.lines_are ∙ sym (append_assoc way.read (line ∷ []) rest) in
      let longer = part_grown way.read line (numbered part.lines.items) number way.count way.covers.of_log in
      refused_part options first fault (
        h.input,
        h.has,
        record {
          part = numbered part.lines.items ++ (number, line) ∷ [];
          of_log = subst (λ ls. ArePartOf ls (numbered part.lines.items ++ (number, line) ∷ [])) (sym lines_are) (part_longer (way.read ++ line ∷ []) rest (numbered part.lines.items ++ (number, line) ∷ []) longer);
          refuses = refuses;
        },
      )

  -- it is too long
  pub next_long : (fault : LogFault) → IsLongLine number (IsTooLong l left) fault → RefusesPart options first fault
  next_long (LogFault.Line line fault) long =
      let t = long.2 in
      let due = long_refused way.covers.spells.known number t.line t.long ∙ ap (λ n. Err (bad_line n LineFault.TooLong)) (sym long.0) ∙ ap (λ f. Err (bad_line line f)) (sym long.1) in
      next_refused t.line t.rest (LogFault.Line line fault) t.has_lines (refused_more options way.covers.spells.known (numbered part.lines.items) (number, t.line) (LogFault.Line line fault) way.covers.spells.known_is due)
  next_long (LogFault.Key line key) long = absurd long
  next_long (LogFault.Clash line fault last) long = absurd long
  next_long (LogFault.SentTwice one two item) long = absurd long
  next_long LogFault.Empty long = absurd long
  next_long LogFault.Read long = tt
  next_long LogFault.Memory long = no_memory options first

  -- there is none
  pub next_none : HasLines l left [] [] → IsAtEnd options first part
  next_none none =
      let h = way.leads none.text none.ahead in
      let lines_are : lines_of h.input ≡ way.read = h.lines_are ∙ ap (λ ls. way.read ++ ls) none.lines_are ∙ append-nil way.read in
      record { input = h.input; has = h.has; covers = subst (Covers options part) (sym lines_are) way.covers }

  -- it was read
  module _ (left_new : Option (List ℕ)) (l_new : Lines) (sound : IsSound l_new left_new) (line : List ℕ) (gives : GivesLine l l_new left left_new line) where
    pub next_read : (new : Part) → Spells options new × (numbered new.lines.items ≡ numbered part.lines.items ++ (number, line) ∷ []) → IsOnWay options first left_new l_new new (number + 1)
    next_read new grows = record {
      read = way.read ++ line ∷ [];
      count = (let longer = length-append way.read (line ∷ []) in let count = way.count in omega (arith, longer, count));
      leads = leads_more first left left_new l l_new way.read line gives way.leads;
      covers = covers_more options part new way.read line number way.count way.covers grows.0 grows.1;
    }

    pub read_refused : (fault : LogFault) → Refuses fault (part_of options (numbered part.lines.items ++ (number, line) ∷ [])) → RefusesPart options first fault
    read_refused fault refuses = let some = some_ahead l_new left_new sound in next_refused line (lines_of some.0) fault (gives some.0 some.1) refuses

-- ---- a part at hand

pub record IsAtHand (options : Options) (first : Option (List ℕ)) (part : Part) (more : Bool) : Type 0 where
  pub input : List ℕ
  pub has : HasInput first input
  pub read : List (List ℕ)
  pub rest : List (List ℕ)
  pub lines_are : lines_of input ≡ read ++ rest
  pub covers : Covers options part read
  pub at_end : more ≡ false → rest ≡ []

pub at_hand : (options : Options) (first left : Option (List ℕ)) (l : Lines) (part : Part) (number : ℕ) (more : Bool) → Reads options first left l part number (Ok more) → IsSound l left → IsAtHand options first part more
at_hand options first left l part number true way sound =
    let some = some_ahead l left sound in
    let h = way.leads some.0 some.1 in
    record { input = h.input; has = h.has; read = way.read; rest = lines_of some.0; lines_are = h.lines_are; covers = way.covers; at_end = λ is. absurd (cc is) }
at_hand options first left l part number false end sound =
    record { input = end.input; has = end.has; read = lines_of end.input; rest = []; lines_are = sym (append-nil (lines_of end.input)); covers = end.covers; at_end = λ is. refl }

pub on_way : (options : Options) (first left : Option (List ℕ)) (l : Lines) (part : Part) (number : ℕ) (more : Bool) → more ≡ true → Reads options first left l part number (Ok more) → IsOnWay options first left l part number
on_way options first left l part number true is way = way
on_way options first left l part number false is end = absurd (cc is)

-- it was judged
module _ (options : Options) (part : Part) (read : List (List ℕ)) (covers : Covers options part read) (log : Spelled) (rules : Rules) (log_is : part_of options (numbered part.lines.items) ≡ Ok log) (has_rules : HasRules options log rules) (clean : IsVerdict rules log.calls Verdict.Clean) where
  in_clean_part : (place : ℕ) → HasLine (numbered part.lines.items) place ⊎ IsInCleanPart options read place → IsInCleanPart options read place
  in_clean_part place (inl has) = record { part = numbered part.lines.items; of_log = covers.of_log; has = has; log = log; log_is = log_is; rules = rules; has_rules = has_rules; clean = clean }
  in_clean_part place (inr clean) = clean

  pub all_clean : AreInCleanParts options read
  all_clean place line is = in_clean_part place (covers.others place line is)

  pub covers_next : (next : Part) → Spells options next → AreSomeOf (numbered part.lines.items) (numbered next.lines.items) → Covers options next read
  covers_next next spells some = record { spells = spells; of_log = part_of_some read (numbered part.lines.items) (numbered next.lines.items) covers.of_log some; others = λ place line is. inr (all_clean place line is) }

pub followed : (options : Options) (first : Option (List ℕ)) (part : Part) (more : Bool) (f : Followed) → IsAtHand options first part more → part_of options (numbered part.lines.items) ≡ Ok (log_view f.log) → HasRules options (log_view f.log) f.log.rules
    → IsVerdict f.log.rules f.log.calls.items f.verdict → (f.verdict ≡ Verdict.Clean → more ≡ false) → Follows options first (Ok f)
followed options first part more f hand log_is has_rules right end = (
  hand.input,
  hand.has,
  record {
    part = numbered part.lines.items;
    of_log = subst (λ ls. ArePartOf ls (numbered part.lines.items)) (sym hand.lines_are) (part_longer hand.read hand.rest (numbered part.lines.items) hand.covers.of_log);
    log_is = log_is;
    clean = λ is.
        let whole : lines_of hand.input ≡ hand.read = hand.lines_are ∙ ap (λ ls. hand.read ++ ls) (hand.at_end (end is)) ∙ append-nil hand.read in
        subst (AreInCleanParts options) (sym whole) (all_clean options part hand.read hand.covers (log_view f.log) f.log.rules log_is has_rules (subst (IsVerdict f.log.rules f.log.calls.items) is right));
  },
)

-- ---- the state of a part as that of a log that begins late

pub shows_late : (options : Options) (s : State) (known : Known) → Shows options s known → Shows options (record s { late = true }) (as_late known)
shows_late options s known shows = record {
  options_is = shows.options_is;
  window = shows.window;
  capacity = shows.capacity;
  late = refl;
  ends = shows.ends;
  bodies = shows.bodies;
  senders = shows.senders;
  lasts = shows.lasts;
  calls = shows.calls;
  lines = shows.lines;
  ties = shows.ties;
  closes = shows.closes;
  fair = shows.fair;
}

pub part_given : (options : Options) (part : Part) (spells : Spells options part) → part_of options (numbered part.lines.items) ≡ if_some options (as_late spells.known)
part_given options part spells = ap (λ r. r >>= (λ known. if_some options (as_late known))) spells.known_is

-- ---- the next part

numbered_at : (lines : List Text) (i : ℕ) (t : Text) → i < length lines → t ≡ get_or lines i t → slice_get (numbered lines) i ≡ Some (t.number, t.bytes.items)
numbered_at lines i t below is = slice_get-map (λ (u : Text). (u.number, u.bytes.items)) lines i ∙ ap (option_map (λ (u : Text). (u.number, u.bytes.items))) (slice_get-get_or lines i t below ∙ ap Some (sym is))

pub begins_without_memory : (options : Options) (lines : List NumberedLine) → Begins options lines (Err LogFault.Memory)
begins_without_memory options lines = ([], some_all lines [] 0 (some_none lines), tt)

module _ (options : Options) (lines : List Text) (next : Part) (i : ℕ) (t : Text) (bytes : List ℕ) (below : i < length lines) (is : t ≡ get_or lines i t) (same : bytes ≡ t.bytes.items) (to : SomeTo (numbered lines) (numbered next.lines.items) i) where
  longer : SomeTo (numbered lines) (numbered next.lines.items ++ (t.number, bytes) ∷ []) (i + 1)
  longer = some_kept (numbered lines) (numbered next.lines.items) (t.number, bytes) i (numbered_at lines i t below is ∙ ap (λ b. Some (t.number, b)) (sym same)) to

  pub begins_more : (new : Part) → Spells options new × (numbered new.lines.items ≡ numbered next.lines.items ++ (t.number, bytes) ∷ []) → Spells options new × SomeTo (numbered lines) (numbered new.lines.items) (i + 1)
  begins_more new grows = (grows.0, subst (λ ts. SomeTo (numbered lines) ts (i + 1)) (sym grows.1) longer)

  pub begins_refused : (fault : LogFault) → Refuses fault (part_of options (numbered next.lines.items ++ (t.number, bytes) ∷ [])) → Begins options (numbered lines) (Err fault)
  begins_refused fault refuses = (numbered next.lines.items ++ (t.number, bytes) ∷ [], some_all (numbered lines) (numbered next.lines.items ++ (t.number, bytes) ∷ []) (i + 1) longer, refuses)

pub way_next : (options : Options) (first left : Option (List ℕ)) (l : Lines) (part next : Part) (number : ℕ) (log : Spelled) (rules : Rules) → IsOnWay options first left l part number → part_of options (numbered part.lines.items) ≡ Ok log → HasRules options log rules
    → IsVerdict rules log.calls Verdict.Clean → Spells options next → AreSomeOf (numbered part.lines.items) (numbered next.lines.items) → IsOnWay options first left l next number
way_next options first left l part next number log rules way log_is has_rules clean spells some =
    record { read = way.read; count = way.count; leads = way.leads; covers = covers_next options part way.read way.covers log rules log_is has_rules clean next spells some }
