-- The answers of a pass stay with its calls, as it makes more of them and as it meets others.
use Rattle.std.proofs.Common.{◌≡◌, ℕ, suc, ◌+◌, Bool, true, false, List, [], ◌∷◌, ◌++◌, map, length, Some, None, refl, sym, ap, ◌∙◌, subst, arith, append-nil, length-append}
use Rattle.std.specs.List.{AllByRecursion}
use Rattle.cc_model.specs.Record.{Side, Record, of_group}
use Rattle.cc_model.specs.Items.{HasAnswer, SideBegins, Begins, calls_of, is_pass}
use Rattle.cc_model.specs.Legal.{Legal}
use Rattle.cc_drive.specs.Names.{Config, Pass, Entry, Answer, Setting}
use Rattle.cc_runs.specs.ChainLaws.{IsLastAnswer}
use Rattle.cc_runs.specs.State.{pass_at}
use Rattle.cc_steps.specs.Walk.{Walk}
use Rattle.cc_queue.specs.Headline.{StandsInOne, name, history}
use Rattle.cc_queue.proofs.AnswerKinds.{all_last, last_is}
use Rattle.cc_model.specs.After.{side_of}
use Rattle.cc_queue.proofs.OnItsSide.{its, kept, on_its_side, side_begins}
use Rattle.cc_drive.specs.Back.{calls}
pub use Rattle.cc_queue.proofs.OnItsSide.{Told}

-- a call has no answer
abbrev Waits : Told → Type 0
Waits (e, None) = Unit {0}
Waits (e, Some a) = ⊥

-- ---- answers belong to the first calls

all_wait : (p : Pass) (calls : List Entry) → AllByRecursion Waits (its p calls [])
all_wait p [] = tt
all_wait p (c ∷ calls) = go (is_pass p c.pass) (all_wait p calls)
  where
    go : (b : Bool) → AllByRecursion Waits (its p calls []) → AllByRecursion Waits (kept b (c, None) (its p calls []))
    go true rest = (tt, rest)
    go false rest = rest

waits_not : (z : Told) → HasAnswer z → Waits z → ⊥
waits_not (e, None) has waits = has
waits_not (e, Some a) has waits = waits

-- if the last call has its answer, each has
all_have : (p : Pass) (calls : List Entry) (answers : List Answer) (before : List Told) (last : Told) → HasAnswer last → its p calls answers ≡ before ++ last ∷ [] → AllByRecursion HasAnswer (its p calls answers)
all_have p [] answers before last has e = tt
all_have p (c ∷ calls) [] before last has e = absurd (waits_not last has (all_last Waits before last (subst (AllByRecursion Waits) e (all_wait p (c ∷ calls)))))
all_have p (c ∷ calls) (a ∷ answers) before last has e = go (is_pass p c.pass) before e (λ b e'. all_have p calls answers b last has e')
  where
    go : (b : Bool) (before : List Told) → kept b (c, Some a) (its p calls answers) ≡ before ++ last ∷ [] → ((before : List Told) → its p calls answers ≡ before ++ last ∷ [] → AllByRecursion HasAnswer (its p calls answers)) → AllByRecursion HasAnswer (kept b (c, Some a) (its p calls answers))
    go true [] e k = let none : its p calls answers ≡ [] = cc in (tt, subst (AllByRecursion HasAnswer) (sym none) tt)
    go true (x ∷ before) e k = let rest : its p calls answers ≡ before ++ last ∷ [] = cc in (tt, k before rest)
    go false before e k = k before e

-- ---- they stay as calls and answers come after them

abbrev Front : List Told → List Told → Type 0
Front xs ys = (rest : List Told) × (ys ≡ xs ++ rest)

front_kept : (b : Bool) (z : Told) (xs ys : List Told) → Front xs ys → Front (kept b z xs) (kept b z ys)
front_kept true z xs ys f = (f.0, ap (λ (l : List Told). z ∷ l) f.1)
front_kept false z xs ys f = f

front_skips : (b : Bool) (c : Entry) (y : Told) (xs ys : List Told) → AllByRecursion HasAnswer (kept b (c, None) xs) → (AllByRecursion HasAnswer xs → Front xs ys) → Front (kept b (c, None) xs) (kept b y ys)
front_skips true c y xs ys all k = absurd all.0
front_skips false c y xs ys all k = k all

all_tail : (b : Bool) (z : Told) (xs : List Told) → AllByRecursion HasAnswer (kept b z xs) → AllByRecursion HasAnswer xs
all_tail true z xs all = all.1
all_tail false z xs all = all

stays : (p : Pass) (calls more : List Entry) (answers later : List Answer) → AllByRecursion HasAnswer (its p calls answers) → Front (its p calls answers) (its p (calls ++ more) (answers ++ later))
stays p [] more answers later all = (its p more (answers ++ later), refl)
stays p (c ∷ calls) more (a ∷ answers) later all =
    front_kept (is_pass p c.pass) (c, Some a) (its p calls answers) (its p (calls ++ more) (answers ++ later)) (stays p calls more answers later (all_tail (is_pass p c.pass) (c, Some a) (its p calls answers) all))
stays p (c ∷ calls) more [] [] all =
    front_skips (is_pass p c.pass) c (c, None) (its p calls []) (its p (calls ++ more) []) all (λ rest. stays p calls more [] [] rest)
stays p (c ∷ calls) more [] (y ∷ later) all =
    front_skips (is_pass p c.pass) c (c, Some y) (its p calls []) (its p (calls ++ more) later) all (λ rest. stays p calls more [] later rest)

-- a pass's calls stay, with their answers, in each history that begins so
all_stay : (cfg cfg' : Config) (h h' : Record) (p : Pass) → cfg' ≡ cfg → Legal cfg h → Legal cfg' h' → Begins h h' → AllByRecursion HasAnswer (calls_of p h) → Front (calls_of p h) (calls_of p h')
all_stay cfg cfg' h h' p same l l' b all =
    let s : Side = side_of cfg p h in
    let more : SideBegins s (side_of cfg p h') = side_begins cfg p h h' b in
    let valid : Legal cfg h' = subst (λ (c : Config). Legal c h') same l' in
    let f = stays p s.calls more.calls.0 s.answers more.answers.0 (subst (AllByRecursion HasAnswer) (on_its_side cfg h p l) all) in (
      f.0,
      on_its_side cfg h' p valid ∙ (λ i. its p (more.calls.1 i) (more.answers.1 i)) ∙ f.1 ∙ ap (λ (xs : List Told). xs ++ f.0) (sym (on_its_side cfg h p l)),
    )

-- a list that is one longer ends with its last call
one_more : (zs rest before : List Told) (last : Told) → zs ++ rest ≡ before ++ last ∷ [] → length rest ≡ 1 → rest ≡ last ∷ []
one_more zs [] before last e one = absurd (omega (arith, one))
one_more zs (x ∷ []) before last e one = ap (λ (y : Told). y ∷ []) (last_is zs before x last e)
one_more zs (x ∷ y ∷ rest) before last e one = absurd (omega (arith, one))

next_told : (zs calls before : List Told) (last : Told) → Front zs calls → calls ≡ before ++ last ∷ [] → length calls ≡ length zs + 1 → calls ≡ zs ++ last ∷ []
next_told zs calls before last f e one =
    f.1 ∙ ap (λ (l : List Told). zs ++ l) (one_more zs f.0 before last (sym f.1 ∙ e) (let n : length calls ≡ length zs + length f.0 = ap length f.1 ∙ length-append zs f.0 in omega (arith, n, one)))

-- ---- one pass, from what it had seen to what it has

begins_self : (h : Record) → Begins h h
begins_self h = record { sends = same h.sends; takes = λ g. same (of_group h g); groups = refl }
  where
    same : (s : Side) → SideBegins s s
    same s = record { calls = ([], sym (append-nil s.calls)); answers = ([], sym (append-nil s.answers)) }

pub stands_self : (v w : Walk) (more : List Entry) → StandsInOne v more w → StandsInOne w [] w
stands_self v w more s = record { same = (refl, refl, refl); run = s.run; onward = λ first k. k; begins = begins_self (history w); legal = s.legal; fifo = s.fifo; linearizable = s.linearizable; made = sym (append-nil w.made); calls_are = s.calls_are }

pub same_name : (v w : Walk) (calls : List Entry) → StandsInOne v calls w → name w ≡ name v
same_name v w calls s = λ i. pass_at (s.same.1 i).config (s.same.2 i)

front : (v w : Walk) (more : List Entry) → StandsInOne v [] v → AllByRecursion HasAnswer (calls v) → StandsInOne v more w → Front (calls v) (calls w)
front v w more sv all sw =
    let f = all_stay v.setting.config w.setting.config (history v) (history w) (name v) (ap (λ (z : Setting). z.config) sw.same.1) sv.legal sw.legal sw.begins all in
    (f.0, ap (λ (p : Pass). calls_of p (history w)) (same_name v w more sw) ∙ f.1)

length_entries : (zs : List Told) → length (map (λ (z : Told). z.0) zs) ≡ length zs
length_entries [] = refl
length_entries (z ∷ zs) = ap suc (length_entries zs)

pub nil_of : (zs : List Told) → map (λ (z : Told). z.0) zs ≡ [] → zs ≡ []
nil_of [] e = refl
nil_of (z ∷ zs) e = absurd (let n : length (map (λ (y : Told). y.0) (z ∷ zs)) ≡ 0 = ap length e in omega (arith, n))

-- as many calls as it made
count : (v w : Walk) (more : List Entry) → StandsInOne v [] v → StandsInOne v more w → length (calls w) ≡ length (calls v) + length more
count v w more sv sw =
    sym (length_entries (calls w)) ∙ ap length (sw.calls_are ∙ sw.made) ∙ length-append v.made more ∙ ap (λ (n : ℕ). n + length more) (ap length (sym (sv.made ∙ append-nil v.made) ∙ sym sv.calls_are) ∙ length_entries (calls v))

-- a pass that did nothing holds the calls that it held
only_front : (zs rest : List Told) → length (zs ++ rest) ≡ length zs + 0 → zs ++ rest ≡ zs
only_front zs [] e = append-nil zs
only_front zs (z ∷ rest) e = absurd (omega (arith, e, length-append zs (z ∷ rest)))

pub calls_stay : (v w : Walk) → StandsInOne v [] v → AllByRecursion HasAnswer (calls v) → StandsInOne v [] w → calls w ≡ calls v
calls_stay v w sv all sw =
    let f = front v w [] sv all sw in
    f.1 ∙ only_front (calls v) f.0 (ap length (sym f.1) ∙ count v w [] sv sw)

last_entry : (zs : List Told) (z : Told) → map (λ (y : Told). y.0) (zs ++ z ∷ []) ≡ map (λ (y : Told). y.0) zs ++ z.0 ∷ []
last_entry [] z = refl
last_entry (y ∷ zs) z = ap (λ (l : List Entry). y.0 ∷ l) (last_entry zs z)

-- and one that made a call which was answered holds that too
pub calls_more : (v w : Walk) (e : Entry) (told : Answer) → StandsInOne v [] v → AllByRecursion HasAnswer (calls v) → StandsInOne v (e ∷ []) w → IsLastAnswer (name w) (history w) told → calls w ≡ calls v ++ (e, Some told) ∷ []
calls_more v w e told sv all sw k =
    let same : k.entry ≡ e = last_is (map (λ (z : Told). z.0) k.before) v.made k.entry e (sym (last_entry k.before (k.entry, Some told)) ∙ ap (map (λ (z : Told). z.0)) (sym k.last) ∙ sw.calls_are ∙ sw.made) in
    next_told (calls v) (calls w) k.before (e, Some told) (front v w (e ∷ []) sv all sw) (k.last ∙ (λ i. k.before ++ (same i, Some told) ∷ [])) (count v w (e ∷ []) sv sw)

-- if its last call has its answer, each of its calls has
pub each_answered : (v w : Walk) (more : List Entry) (told : Answer) → StandsInOne v more w → IsLastAnswer (name w) (history w) told → AllByRecursion HasAnswer (calls w)
each_answered v w more told s k =
    let on : calls w ≡ its (name w) (side_of w.setting.config (name w) (history w)).calls (side_of w.setting.config (name w) (history w)).answers = on_its_side w.setting.config (history w) (name w) s.legal in
    let side : Side = side_of w.setting.config (name w) (history w) in
    subst (AllByRecursion HasAnswer) (sym on) (all_have (name w) side.calls side.answers k.before (k.entry, Some told) tt (sym on ∙ k.last))
