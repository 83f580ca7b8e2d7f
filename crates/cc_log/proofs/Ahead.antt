-- Reading an input piece by piece.
use Rattle.std.proofs.Common.{◌≡◌, ◌≤◌, ◌<◌, ◌++◌, ◌+◌, ◌-◌, ℕ, zero, suc, Bool, true, false, List, [], ◌∷◌, length, take, drop, slice_index, slice_range, Option, Some, None, refl, sym, ap, subst, ◌∙◌, if◌then◌else◌, nat_eq, true≢false, append_assoc, append-nil, arith, length-append}
use Rattle.std.proofs.lemmas.Bool.{eqb-true, eq-eqb}
use Rattle.std.proofs.lemmas.List.{drop-drop, drop-take, take-append-le, take-take}
use Rattle.std.specs.Io.KnownBytes.{Consumes, IsAtEnd}
use Rattle.cc_log.specs.Lines.{HasInput, HasLines, HasNoNewline, IsAhead, IsSound, IsTooLong, Passes, held, line_limit, lines_after, lines_if, lines_of}
use Rattle.cc_log.specs.declared.lines.Lines.{Lines}

-- there is some input
pub some_input : (left : Option (List ℕ)) → (input : List ℕ) × HasInput left input
some_input None = ([], tt)
some_input (Some bytes) = (bytes, refl)

-- nothing is to come of a source that has ended
pub ended_input : (left : Option (List ℕ)) → IsAtEnd left → HasInput left []
ended_input None h = tt
ended_input (Some bytes) h = sym h

-- what was read comes before what is left
pub before_left : (old new : Option (List ℕ)) (bytes rest : List ℕ) → Consumes old new bytes → HasInput new rest → HasInput old (bytes ++ rest)
before_left None new bytes rest h k = tt
before_left (Some xs) None bytes rest h k = absurd h
before_left (Some xs) (Some ys) bytes rest h k = ap (λ l. bytes ++ l) k ∙ sym h

-- a source at whose end nothing was read had nothing
pub had_nothing : (old new : Option (List ℕ)) → Consumes old new [] → IsAtEnd new → HasInput old []
had_nothing old new h k = before_left old new [] [] h (ended_input new k)

-- a first line that has begun
pub record Begins (begun : List ℕ) (lines : List (List ℕ)) : Type 0 where
  pub line : List ℕ
  pub more : List (List ℕ)
  pub lines_are : lines ≡ line ∷ more
  pub longer : length begun ≤ length line

-- what has begun is the first line's front
begins_if : (b : Bool) (begun : List ℕ) (x : ℕ) (rest : List ℕ) → Begins (begun ++ x ∷ []) (lines_after (begun ++ x ∷ []) rest) → Begins begun (if b then begun ∷ lines_after [] rest else lines_after (begun ++ x ∷ []) rest)
begins_if true begun x rest h = record { line = begun; more = lines_after [] rest; lines_are = refl; longer = omega arith }
begins_if false begun x rest h = record { line = h.line; more = h.more; lines_are = h.lines_are; longer = (let e = length-append begun (x ∷ []) in let l = h.longer in omega (arith, e, l)) }

pub begins : (begun rest : List ℕ) → 0 < length begun → Begins begun (lines_after begun rest)
begins [] [] h = absurd (omega (arith, h))
begins (b ∷ begun) [] h = record { line = b ∷ begun; more = []; lines_are = refl; longer = omega arith }
begins begun (x ∷ rest) h = begins_if (nat_eq x 10) begun x rest (begins (begun ++ x ∷ []) rest (let e = length-append begun (x ∷ []) in omega (arith, e)))

-- ---- pieces of a line

-- bytes without a newline are of the line that has begun
plain_if : (b : Bool) (x : ℕ) (begun xs rest : List ℕ) → nat_eq x 10 ≡ b → (x ≡ 10 → ⊥) → lines_after (begun ++ x ∷ []) (xs ++ rest) ≡ lines_after (begun ++ x ∷ xs) rest
    → (if b then begun ∷ lines_after [] (xs ++ rest) else lines_after (begun ++ x ∷ []) (xs ++ rest)) ≡ lines_after (begun ++ x ∷ xs) rest
plain_if true x begun xs rest is h k = absurd (h (eqb-true x 10 is))
plain_if false x begun xs rest is h k = k

pub plain : (xs begun rest : List ℕ) → HasNoNewline xs → lines_after begun (xs ++ rest) ≡ lines_after (begun ++ xs) rest
plain [] begun rest h = ap (λ l. lines_after l rest) (sym (append-nil begun))
plain (x ∷ xs) begun rest h =
    plain_if (nat_eq x 10) x begun xs rest refl (h 0 (omega arith))
    (plain xs (begun ++ x ∷ []) rest (λ k below. h (suc k) (omega (arith, below))) ∙ ap (λ l. lines_after l rest) (append_assoc begun (x ∷ []) xs))

-- a newline ends the line
found_if : (b : Bool) (x p : ℕ) (begun xs rest : List ℕ) → nat_eq x 10 ≡ b → (x ≡ 10 → ⊥) → lines_after (begun ++ x ∷ []) (xs ++ rest) ≡ (begun ++ x ∷ take p xs) ∷ lines_after [] (drop (suc p) xs ++ rest)
    → (if b then begun ∷ lines_after [] (xs ++ rest) else lines_after (begun ++ x ∷ []) (xs ++ rest)) ≡ (begun ++ x ∷ take p xs) ∷ lines_after [] (drop (suc p) xs ++ rest)
found_if true x p begun xs rest is h k = absurd (h (eqb-true x 10 is))
found_if false x p begun xs rest is h k = k

here_if : (b : Bool) (x : ℕ) (begun xs rest : List ℕ) → nat_eq x 10 ≡ b → x ≡ 10 → (if b then begun ∷ lines_after [] (xs ++ rest) else lines_after (begun ++ x ∷ []) (xs ++ rest)) ≡ begun ∷ lines_after [] (xs ++ rest)
here_if true x begun xs rest is h = refl
here_if false x begun xs rest is h = absurd (true≢false (sym (eq-eqb x 10 h) ∙ is))

pub found : (xs : List ℕ) (p : ℕ) (begun rest : List ℕ) → p < length xs → slice_index xs p ≡ 10 → ((k : ℕ) → k < p → slice_index xs k ≡ 10 → ⊥)
    → lines_after begun (xs ++ rest) ≡ (begun ++ take p xs) ∷ lines_after [] (drop (suc p) xs ++ rest)
found [] p begun rest within newline first = absurd (omega (arith, within))
found (x ∷ xs) zero begun rest within newline first = here_if (nat_eq x 10) x begun xs rest refl newline ∙ ap (λ l. l ∷ lines_after [] (xs ++ rest)) (sym (append-nil begun))
found (x ∷ xs) (suc p) begun rest within newline first =
    found_if (nat_eq x 10) x p begun xs rest refl (first 0 (omega arith))
    (found xs p (begun ++ x ∷ []) rest (omega (arith, within)) newline (λ k below. first (suc k) (omega (arith, below)))
    ∙ ap (λ l. l ∷ lines_after [] (drop (suc p) xs ++ rest)) (append_assoc begun (x ∷ []) (take p xs)))

-- ---- what is held

-- the bytes after the newline of those that are held
pub held_after : (bytes : List ℕ) (start end p : ℕ) → start ≤ end → p < end - start → slice_range bytes (start + (p + 1)) end ≡ drop (suc p) (slice_range bytes start end)
held_after bytes start end p begins within =
    let n : end - start ≡ suc p + (end - (start + (p + 1))) = omega (arith, begins, within) in
    ap (λ l. take (end - (start + (p + 1))) l) (ap (λ k. drop k bytes) (let e : start + (p + 1) ≡ start + suc p = omega arith in e) ∙ sym (drop-drop (suc p) start bytes))
    ∙ sym (drop-take (suc p) (end - (start + (p + 1))) (drop start bytes))
    ∙ ap (λ k. drop (suc p) (take k (drop start bytes))) (sym n)

pub held_none : (bytes : List ℕ) (start end : ℕ) → start ≡ end → slice_range bytes start end ≡ []
held_none bytes start end same = ap (λ n. take n (drop start bytes)) (let e : end - start ≡ 0 = omega (arith, same) in e)

-- ---- one step

-- bytes were given out
pub gave_out : (old new : Lines) (left : Option (List ℕ)) (begun_old begun_new : List ℕ) (is_found : Bool) → new.ended ≡ old.ended
    → ((rest : List ℕ) → lines_after begun_old (held old ++ rest) ≡ lines_if is_found begun_new (held new ++ rest))
    → (after : List ℕ) → IsAhead new left after → HasLines old left begun_old (lines_if is_found begun_new after)
gave_out old new left begun_old begun_new is_found same lines after ahead = record {
  text = held old ++ ahead.rest;
  ahead = record { rest = ahead.rest; text_is = refl; in_source = ahead.in_source; at_end = λ ended. ahead.at_end (same ∙ ended) };
  lines_are = lines ahead.rest ∙ ap (λ text. lines_if is_found begun_new text) (sym ahead.text_is);
}

-- bytes were read, of which nothing was held
pub filled : (old new : Lines) (left_old left_new : Option (List ℕ)) (bytes : List ℕ) → held old ≡ [] → old.ended ≡ false → held new ≡ bytes → Consumes left_old left_new bytes
    → (begun : List ℕ) → Passes old new left_old left_new begun begun
filled old new left_old left_new bytes none reads has consumes begun = λ after ahead. record {
  text = after;
  ahead = record {
    rest = after;
    text_is = sym (ap (λ l. l ++ after) none);
    in_source = subst (HasInput left_old) (sym (ahead.text_is ∙ ap (λ l. l ++ ahead.rest) has)) (before_left left_old left_new bytes ahead.rest consumes ahead.in_source);
    at_end = λ ended. absurd (true≢false (sym ended ∙ reads));
  };
  lines_are = refl;
}

-- one step after another
pub then_has : (old new : Lines) (left_old left_new : Option (List ℕ)) (begun : List ℕ) (lines : List (List ℕ)) → Passes old new left_old left_new [] begun → HasLines new left_new begun lines → HasLines old left_old [] lines
then_has old new left_old left_new begun lines passes h =
    let before = passes h.text h.ahead in
    record { text = before.text; ahead = before.ahead; lines_are = before.lines_are ∙ h.lines_are }

pub same_pass : (l : Lines) (left : Option (List ℕ)) (begun : List ℕ) → begun ≡ [] → Passes l l left left [] begun
same_pass l left begun none = λ after ahead. record { text = after; ahead = ahead; lines_are = ap (λ b. lines_after b after) (sym none) }

-- some text is to come
some_rest : (b : Bool) (left : Option (List ℕ)) → (b ≡ true → IsAtEnd left) → (rest : List ℕ) × HasInput left rest × (b ≡ true → rest ≡ [])
some_rest true left at_end = ([], ended_input left (at_end refl), λ e. refl)
some_rest false left at_end = let i = some_input left in (i.0, i.1, λ e. absurd (true≢false (sym e)))

pub some_ahead : (l : Lines) (left : Option (List ℕ)) → IsSound l left → (text : List ℕ) × IsAhead l left text
some_ahead l left sound = let r = some_rest l.ended left sound.at_end in (held l ++ r.0, record { rest = r.0; text_is = refl; in_source = r.1; at_end = r.2 })

-- nothing is to come of a source that has ended, if nothing is held
pub none_ahead : (l : Lines) (left : Option (List ℕ)) → IsSound l left → held l ≡ [] → l.ended ≡ true → IsAhead l left []
none_ahead l left sound none ended = record { rest = []; text_is = sym (ap (λ h. h ++ []) none); in_source = ended_input left (sound.at_end ended); at_end = λ e. refl }

pub only_none_ahead : (l : Lines) (left : Option (List ℕ)) (text : List ℕ) → held l ≡ [] → l.ended ≡ true → IsAhead l left text → text ≡ []
only_none_ahead l left text none ended ahead = ahead.text_is ∙ ap (λ h. h ++ ahead.rest) none ∙ ahead.at_end ended

-- a line that is too long already
pub too_long : (is_found : Bool) (l : Lines) (left : Option (List ℕ)) (begun after : List ℕ) → HasLines l left [] (lines_if is_found begun after) → line_limit < length begun → IsTooLong l left
too_long true l left begun after h long = record { line = begun; rest = lines_of after; has_lines = h; long = long }
too_long false l left begun after h long =
    let b = begins begun after (omega (arith, long)) in
    record { line = b.line; rest = b.more; has_lines = record { text = h.text; ahead = h.ahead; lines_are = h.lines_are ∙ b.lines_are }; long = (let longer = b.longer in omega (arith, long, longer)) }

-- what is held after a chunk was read anew
pub refilled : (n m : ℕ) (buffer old : List ℕ) → n ≤ length buffer → n ≤ m → slice_range (take m (buffer ++ old)) 0 n ≡ take n buffer
refilled n m buffer old short fits =
    ap (λ k. take k (take m (buffer ++ old))) (let e : n - 0 ≡ n = omega arith in e)
    ∙ take-take n m (buffer ++ old) fits
    ∙ take-append-le n buffer old short

-- the chunk stays the same
pub sound_after : (old new : Lines) (left : Option (List ℕ)) → IsSound old left → new.chunk ≡ old.chunk → new.end ≡ old.end → new.ended ≡ old.ended → new.start ≤ new.end → IsSound new left
sound_after old new left sound chunk end ended begins =
    let items : length new.chunk.items ≡ length old.chunk.items = ap (λ c. length c.items) chunk in
    record {
      begins = begins;
      ends = (let e = sound.ends in omega (arith, e, end, items));
      has_room = (let e = sound.has_room in omega (arith, e, items));
      at_end = λ is. sound.at_end (sym ended ∙ is);
    }

-- at the end of the input the line that has begun is the last one, unless it is empty
pub last_given : (a b : Lines) (left_a left_b : Option (List ℕ)) (begun : List ℕ) → held b ≡ [] → b.ended ≡ true → 0 < length begun
    → ((after : List ℕ) → IsAhead b left_b after → HasLines a left_a [] (lines_after begun after)) → (after : List ℕ) → IsAhead b left_b after → HasLines a left_a [] (begun ∷ lines_of after)
last_given a b left_a left_b [] none ended some passes after ahead = absurd (omega (arith, some))
last_given a b left_a left_b (x ∷ begun) none ended some passes after ahead =
    let empty = only_none_ahead b left_b after none ended ahead in
    subst (λ t. HasLines a left_a [] ((x ∷ begun) ∷ lines_of t)) (sym empty) (subst (λ t. HasLines a left_a [] (lines_after (x ∷ begun) t)) empty (passes after ahead))

pub none_given : (a b : Lines) (left_a left_b : Option (List ℕ)) (begun : List ℕ) → IsSound b left_b → held b ≡ [] → b.ended ≡ true → length begun ≡ 0
    → ((after : List ℕ) → IsAhead b left_b after → HasLines a left_a [] (lines_after begun after)) → HasLines a left_a [] []
none_given a b left_a left_b [] sound none ended length_zero passes = passes [] (none_ahead b left_b sound none ended)
none_given a b left_a left_b (x ∷ begun) sound none ended length_zero passes = absurd (omega (arith, length_zero))

pub not_zero : (n : ℕ) → nat_eq n 0 ≡ false → 0 < n
not_zero zero h = absurd (true≢false h)
not_zero (suc n) h = omega arith
