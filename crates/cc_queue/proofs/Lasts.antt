-- The passes of a queue at the end, live ones and those that were given up, and their receipts.
use Rattle.std.proofs.Common.{◌≡◌, ℕ, zero, suc, ◌-◌, ◌*◌, List, [], ◌∷◌, ◌++◌, map, length, take, drop, get_or, IsPermutation, refl, sym, ap, ◌∙◌, subst, arith, append-nil, append_assoc}
use Rattle.std.proofs.lemmas.List.{take-append-drop, take-map, drop-map}
use Rattle.std.proofs.lemmas.List.Sorted.{IsPermutation-refl, IsPermutation-trans, IsPermutation-append_left, IsPermutation-append_right, IsPermutation-append_comm}
use Rattle.std.specs.List.{All}
use Rattle.cc_model.specs.Record.{Record}
use Rattle.cc_model.specs.Items.{calls_of}
use Rattle.cc_queue.specs.Names.{Config, Phase}
use Rattle.cc_runs.specs.Words.{groups}
use Rattle.cc_steps.specs.Topic.{Topic}
use Rattle.cc_steps.specs.Walk.{Walk}
use Rattle.cc_queue.specs.Headline.{StandsInOne, IsAtRest, name, history}
use Rattle.cc_queue.specs.Receipts.{Last, Live, Gone, Row, AreAll, AreInRow, IsOneOf, HasEnded, HasJustItsCalls, walk_at, in_group, told_of, left_of, told_in, left_in, receipts_in, receipts_by, receipts_told, receipts_left}
use Rattle.cc_queue.proofs.OnItsSide.{Told}

-- ---- what holds of all live passes and of all that were given up

one_of : (P : Walk → Type 0) (live gone : List Walk) (p : Last) → All P live → All P gone → IsOneOf live gone p → P (walk_at p)
one_of P live gone (Live w) a b is = subst P (is.3 ∙ is.4) (a is.0 is.1 is.2)
one_of P live gone (Gone w) a b is = subst P (is.3 ∙ is.4) (b is.0 is.1 is.2)

on_walks : (P : Walk → Type 0) (ps : List Last) → All (λ p. P (walk_at p)) ps → All P (map walk_at ps)
on_walks P [] all k d less = absurd (omega (arith, less))
on_walks P (p ∷ ps) all zero d less = all 0 p (omega arith)
on_walks P (p ∷ ps) all (suc k) d less = on_walks P ps (λ j e l. all (suc j) e (omega (arith, l))) k d (omega (arith, less))

pub all_walks : (P : Walk → Type 0) (live gone : List Walk) (ps : List Last) → All P live → All P gone → All (IsOneOf live gone) ps → All P (map walk_at ps)
all_walks P live gone ps a b from = on_walks P ps (λ k d less. one_of P live gone (get_or ps k d) a b (from k d less))

-- it has come to its end
abbrev pub AtEnd : Last → Type 0
AtEnd (Live w) = IsAtRest w
AtEnd (Gone w) = HasEnded w

pub at_end : (live gone : List Walk) (p : Last) → All IsAtRest live → All HasEnded gone → IsOneOf live gone p → AtEnd p
at_end live gone (Live w) a b is = subst IsAtRest (is.3 ∙ is.4) (a is.0 is.1 is.2)
at_end live gone (Gone w) a b is = subst HasEnded (is.3 ∙ is.4) (b is.0 is.1 is.2)

stands_at : (p : Last) → AtEnd p → StandsInOne (walk_at p) [] (walk_at p)
stands_at (Live w) e = e.stands
stands_at (Gone w) e = e.stands

pub all_stand : (live gone : List Walk) (ps : List Last) → All IsAtRest live → All HasEnded gone → All (IsOneOf live gone) ps → All (λ w. StandsInOne w [] w) (map walk_at ps)
all_stand live gone ps a b from = on_walks (λ w. StandsInOne w [] w) ps (λ k d less. stands_at (get_or ps k d) (at_end live gone (get_or ps k d) a b (from k d less)))

just_its : (h : Record) (p : Last) → history (walk_at p) ≡ h → AtEnd p → HasJustItsCalls h p
just_its h (Live w) same e = subst (λ (x : Record). HasJustItsCalls x (Live w)) same (record { made = e.stands.calls_are; answered = e.answered })
just_its h (Gone w) same e = subst (λ (x : Record). HasJustItsCalls x (Gone w)) same (record { made = e.stands.calls_are; answered = e.answered })

off_walks : (P : Walk → Type 0) (ps : List Last) → All P (map walk_at ps) → All (λ p. P (walk_at p)) ps
off_walks P [] all k d less = absurd (omega (arith, less))
off_walks P (p ∷ ps) all zero d less = all 0 (walk_at p) (omega arith)
off_walks P (p ∷ ps) all (suc k) d less = off_walks P ps (λ j e l. all (suc j) e (omega (arith, l))) k d (omega (arith, less))

-- if all have seen this history
pub all_just : (h : Record) (live gone : List Walk) (ps : List Last) → All (λ w. history w ≡ h) (map walk_at ps) → All IsAtRest live → All HasEnded gone → All (IsOneOf live gone) ps → All (HasJustItsCalls h) ps
all_just h live gone ps seen a b from k d less =
    let p : Last = get_or ps k d in
    just_its h p (off_walks (λ w. history w ≡ h) ps seen k d less) (at_end live gone p a b (from k d less))

-- ---- receipts that are held, and those that are left

told_left : (at : Phase) (calls : List Told) → told_of at calls ++ left_of at calls ≡ calls
told_left Phase.Idle calls = append-nil calls
told_left at calls = take-append-drop (length calls - 1) calls

in_two : {X : Type 0} (receipts : Told → List X) (xs ys : List Told) → receipts_in receipts (xs ++ ys) ≡ receipts_in receipts xs ++ receipts_in receipts ys
in_two receipts [] ys = refl
in_two receipts (x ∷ xs) ys = ap (λ l. receipts x ++ l) (in_two receipts xs ys) ∙ sym (append_assoc (receipts x) (receipts_in receipts xs) (receipts_in receipts ys))

its_receipts : {X : Type 0} (receipts : Told → List X) (p : Last) → receipts_in receipts (calls_of (name (walk_at p)) (history (walk_at p))) ≡ receipts_in receipts (told_in (history (walk_at p)) p) ++ receipts_in receipts (left_in (history (walk_at p)) p)
its_receipts receipts (Live w) = sym (append-nil (receipts_in receipts (calls_of (name w) (history w))))
its_receipts receipts (Gone w) =
    let calls : List Told = calls_of (name w) (history w) in
    ap (receipts_in receipts) (sym (told_left w.stand.phase calls)) ∙ in_two receipts (told_of w.stand.phase calls) (left_of w.stand.phase calls)

interchange : {X : Type 0} (a t b l : List X) → IsPermutation ((a ++ t) ++ (b ++ l)) ((a ++ b) ++ (t ++ l))
interchange a t b l =
    let inner : IsPermutation ((t ++ b) ++ l) ((b ++ t) ++ l) = IsPermutation-append_left l (t ++ b) (b ++ t) (IsPermutation-append_comm t b) in
    let moved : IsPermutation (t ++ (b ++ l)) (b ++ (t ++ l)) = subst (λ (y : List _ × List _). IsPermutation y.0 y.1) (λ i. (append_assoc t b l i, append_assoc b t l i)) inner in
    subst (λ (y : List _ × List _). IsPermutation y.0 y.1) (λ i. (sym (append_assoc a t (b ++ l)) i, sym (append_assoc a b (t ++ l)) i))
    (IsPermutation-append_right a (t ++ (b ++ l)) (b ++ (t ++ l)) moved)

pub told_and_left : {X : Type 0} (receipts : Told → List X) (ps : List Last) → IsPermutation (receipts_told receipts ps ++ receipts_left receipts ps) (receipts_by receipts (map walk_at ps))
told_and_left receipts [] = IsPermutation-refl []
told_and_left {X} receipts (p ∷ ps) =
    let a : List X = receipts_in receipts (told_in (history (walk_at p)) p) in
    let b : List X = receipts_in receipts (left_in (history (walk_at p)) p) in
    let t : List X = receipts_told receipts ps in
    let l : List X = receipts_left receipts ps in
    let rest : List X = receipts_by receipts (map walk_at ps) in
    subst (λ (w : List X). IsPermutation ((a ++ t) ++ (b ++ l)) (w ++ rest)) (sym (its_receipts receipts p))
    (IsPermutation-trans ((a ++ t) ++ (b ++ l)) ((a ++ b) ++ (t ++ l)) ((a ++ b) ++ rest) (interchange a t b l) (IsPermutation-append_right (a ++ b) (t ++ l) rest (told_and_left receipts ps)))

-- ---- a group

pub group_of_map : {X Y : Type 0} (f : X → Y) (c : Config) (g : ℕ) (xs : List X) → in_group c g (map f xs) ≡ map f (in_group c g xs)
group_of_map f c g xs =
    let i : ℕ = (g - 1) * c.receivers in
    let j : ℕ = g * c.receivers in
    ap (take (j - i)) (drop-map f i xs) ∙ take-map f (j - i) (drop i xs)

-- ---- if none was abandoned

pub live_walks : (ws : List Walk) → map walk_at (map Live ws) ≡ ws
live_walks [] = refl
live_walks (w ∷ ws) = ap (λ (l : List Walk). w ∷ l) (live_walks ws)

pub live_told : {X : Type 0} (receipts : Told → List X) (ws : List Walk) → receipts_told receipts (map Live ws) ≡ receipts_by receipts ws
live_told receipts [] = refl
live_told receipts (w ∷ ws) = ap (λ l. receipts_in receipts (calls_of (name w) (history w)) ++ l) (live_told receipts ws)

pub none_left : {X : Type 0} (receipts : Told → List X) (ws : List Walk) → receipts_left receipts (map Live ws) ≡ []
none_left receipts [] = refl
none_left receipts (w ∷ ws) = none_left receipts ws

one_more_live : (w : Walk) (ws gone : List Walk) (p : Last) → IsOneOf ws gone p → IsOneOf (w ∷ ws) gone p
one_more_live w ws gone (Live v) is = let less = is.2 in (suc is.0, is.1, omega (arith, less), is.3, is.4)
one_more_live w ws gone (Gone v) is = is

live_from : (ws gone : List Walk) → All (IsOneOf ws gone) (map Live ws)
live_from [] gone k d less = absurd (omega (arith, less))
live_from (w ∷ ws) gone zero d less = (0, w, omega arith, refl, refl)
live_from (w ∷ ws) gone (suc k) d less = one_more_live w ws gone (get_or (map Live ws) k d) (live_from ws gone k d (omega (arith, less)))

-- the row of live passes alone
abbrev pub live_row : List Walk → List Walk → Row
live_row senders receivers = record { senders = map Live senders; receivers = map Live receivers }

pub all_live : (z : Topic) (senders receivers gone : List Walk) → AreInRow z 0 z.setting.config.senders senders → AreInRow z z.setting.config.senders (groups z.setting.config * z.setting.config.receivers) receivers → AreAll z (live_row senders receivers) senders receivers gone
all_live z senders receivers gone s r = record {
  senders_are = subst (AreInRow z 0 z.setting.config.senders) (sym (live_walks senders)) s;
  receivers_are = subst (AreInRow z z.setting.config.senders (groups z.setting.config * z.setting.config.receivers)) (sym (live_walks receivers)) r;
  senders_from = live_from senders gone;
  receivers_from = live_from receivers gone;
}
