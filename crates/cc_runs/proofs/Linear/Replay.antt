-- The history of calls that take effect one after another.
use Rattle.std.proofs.Common.{◌≡◌, ℕ, ◌+◌, ◌<◌, ◌≤◌, Bool, false, ◌||◌, List, [], ◌∷◌, ◌++◌, length, Some, refl, sym, ap, ◌∙◌, subst, arith, append-nil, length-append}
use Rattle.std.proofs.lemmas.List.{length-set, length-replicate}
use Rattle.std.specs.List.{slice_get, list_any}
use Rattle.cc_model.specs.Record.{Side, Record, empty, of_group}
use Rattle.cc_model.specs.Items.{IsPrefix, accepted, accepted_by, accepted_item, is_shut, shuts, handed, handed_by, handed_to_all}
use Rattle.cc_model.proofs.Grows.{any-append}
use Rattle.cc_runs.specs.Names.{Config, Call, Entry, Item, Answer, SendAnswer, Chain}
use Rattle.cc_runs.specs.State.{noted}
use Rattle.cc_runs.proofs.Chains.Opening.{no_calls}
use Rattle.cc_runs.proofs.ListRuns.Decided.{group_mine, group_other}
use Rattle.cc_runs.proofs.ListRuns.Least.{least_of_groups}
use Rattle.cc_model.specs.Sequential.{Exactly}
use Rattle.cc_runs.specs.Linearizable.{Effect, replay, handed_on, AnswersAfter}

-- ---- prefixes

-- the next element
pub front_next : {X : Type 0} (xs ys : List X) (n : ℕ) (x : X) → IsPrefix xs ys → n ≡ length xs → slice_get ys n ≡ Some x → IsPrefix (xs ++ x ∷ []) ys
front_next {X} xs ys n x f is got = by_rest xs f.0 x (ap (λ (k : ℕ). slice_get (xs ++ f.0) k) (sym is) ∙ ap (λ (l : List X). slice_get l n) (sym f.1) ∙ got) f.1
  where
    at_end : (xs rest : List X) (x : X) → slice_get (xs ++ rest) (length xs) ≡ Some x → IsPrefix (xs ++ x ∷ []) (xs ++ rest)
    at_end [] [] x e = absurd (cc)
    at_end [] (y ∷ rest) x e = let same : y ≡ x = cc in (rest, ap (λ (z : X). z ∷ rest) same)
    at_end (y ∷ xs) rest x e = let more : IsPrefix (xs ++ x ∷ []) (xs ++ rest) = at_end xs rest x e in (more.0, ap (λ (l : List X). y ∷ l) more.1)

    by_rest : (xs rest : List X) (x : X) → slice_get (xs ++ rest) (length xs) ≡ Some x → ys ≡ xs ++ rest → IsPrefix (xs ++ x ∷ []) ys
    by_rest xs rest x e is = subst (λ (l : List X). IsPrefix (xs ++ x ∷ []) l) (sym is) (at_end xs rest x e)

pub prefix_length : {X : Type 0} (xs ys : List X) → IsPrefix xs ys → length xs ≤ length ys
prefix_length xs ys f = omega (arith, ap length f.1, length-append xs f.0)

pub front_same : {X : Type 0} (xs ys : List X) → IsPrefix xs ys → length ys ≤ length xs → ys ≡ xs
front_same {X} xs ys f less = f.1 ∙ by_rest f.0 (omega (arith, ap length f.1, length-append xs f.0, less))
  where
    by_rest : (rest : List X) → length rest ≡ 0 → xs ++ rest ≡ xs
    by_rest [] e = append-nil xs
    by_rest (x ∷ rest) e = absurd (omega (arith, e))

-- ---- the sides

noted_groups : (x : Chain) (h : Record) (e : Entry) (a : Answer) → length (noted x h (Some e) (Some a)).takes ≡ length h.takes
noted_groups Chain.Send h e a = refl
noted_groups (Chain.Take g) h e a = length-set h.takes g _

pub replay_groups : (n : ℕ) (es : List Effect) → length (replay n es).takes ≡ n
replay_groups n [] = length-replicate _ _
replay_groups n (e ∷ es) = noted_groups e.chain (replay n es) e.entry e.answer ∙ replay_groups n es

-- as many answers as calls
abbrev pub Even : Record → Type 0
Even h = (length h.sends.calls ≡ length h.sends.answers) × ((g : ℕ) → g < length h.takes → length (of_group h g).calls ≡ length (of_group h g).answers)

one_more : {X Y : Type 0} (xs : List X) (ys : List Y) (x : X) (y : Y) → length xs ≡ length ys → length (xs ++ x ∷ []) ≡ length (ys ++ y ∷ [])
one_more xs ys x y e = omega (arith, e, length-append xs (x ∷ []), length-append ys (y ∷ []))

noted_even : (x : Chain) (h : Record) (e : Entry) (a : Answer) → Even h → Even (noted x h (Some e) (Some a))
noted_even Chain.Send h e a z = (one_more h.sends.calls h.sends.answers e a z.0, z.1)
noted_even (Chain.Take x) h e a z = (
  z.0,
  λ g l.
      let inside : g < length h.takes = omega (arith, l, length-set h.takes x (record { calls = (of_group h x).calls ++ e ∷ []; answers = (of_group h x).answers ++ a ∷ [] })) in
      grind (arith, group_mine, one_more, z.1 x, group_other, z.1 g inside),
)

empty_even : (n : ℕ) → Even (empty n)
empty_even n = (refl, λ g l. subst (λ (s : Side). length s.calls ≡ length s.answers) (sym (no_calls n (Chain.Take g))) refl)

pub replay_even : (n : ℕ) (es : List Effect) → Even (replay n es)
replay_even n [] = empty_even n
replay_even n (e ∷ es) = noted_even e.chain (replay n es) e.entry e.answer (replay_even n es)

-- ---- answers of histories that accepted and handed out the same

abbrev count_to : Record → ℕ → ℕ
count_to h g = length (handed h g)

pub record Alike (h r : Record) : Type 0 where
  pub items : accepted r ≡ accepted h
  pub shut : is_shut r ≡ is_shut h
  pub handed_is : (g : ℕ) → handed r g ≡ handed h g
  pub to_all : handed_to_all r ≡ handed_to_all h

pub answers_alike : (c : Config) (h r : Record) → Alike h r → (x : Chain) (k : Call) (a : Answer) → AnswersAfter c h x k a → AnswersAfter c r x k a
answers_alike c h r s x k a e = subst (λ (t : Type 0). t) (sym (λ i. Exactly c (s.items i) (s.shut i) (same_on x i) (s.to_all i) k a)) e
  where
    same_on : (y : Chain) → handed_on y r ≡ handed_on y h
    same_on Chain.Send = refl
    same_on (Chain.Take g) = ap length (s.handed_is g)

-- with as many groups, the least handed out is of what each was handed
pub same_least : (h r : Record) (m : ℕ) → length h.takes ≡ m + 1 → length r.takes ≡ m + 1 → ((g : ℕ) → handed r g ≡ handed h g) → handed_to_all r ≡ handed_to_all h
same_least h r m hn rn same =
    sym (least_of_groups r m (count_to h) rn (λ g. ap length (sym (same g)))) ∙ least_of_groups h m (count_to h) hn (λ g. refl)

-- ---- the effects of a run, at its end and at each moment before

-- the takes of each group took effect as they are answered; of the sends some may have that will be answered
pub record Timed (h r : Record) : Type 0 where
  pub send_calls : IsPrefix r.sends.calls h.sends.calls
  pub send_answers : IsPrefix h.sends.answers r.sends.answers
  pub take_calls : (g : ℕ) → IsPrefix (of_group r g).calls (of_group h g).calls
  pub take_answers : (g : ℕ) → (of_group r g).answers ≡ (of_group h g).answers

-- calls after the last answer accept nothing
pub accepted_by_calls : (answers : List Answer) (calls rest : List Entry) → length calls ≡ length answers → accepted_by (calls ++ rest) answers ≡ accepted_by calls answers
accepted_by_calls [] [] [] e = refl
accepted_by_calls [] [] (d ∷ rest) e = refl
accepted_by_calls [] (d ∷ calls) rest e = absurd (omega (arith, e))
accepted_by_calls (a ∷ answers) [] rest e = absurd (omega (arith, e))
accepted_by_calls (a ∷ answers) (d ∷ calls) rest e = ap (λ (l : List Item). accepted_item d a ++ l) (accepted_by_calls answers calls rest (omega (arith, e)))

-- if no send did that isn't answered, all is alike
pub timed_alike : (m : ℕ) (h r : Record) → Timed h r → length r.sends.answers ≤ length h.sends.answers → length r.sends.calls ≡ length r.sends.answers
    → length h.takes ≡ m + 1 → length r.takes ≡ m + 1 → Alike h r
timed_alike m h r t less even hn rn =
    let answers : r.sends.answers ≡ h.sends.answers = front_same h.sends.answers r.sends.answers t.send_answers less in
    let hands : (g : ℕ) → handed r g ≡ handed h g = λ g. ap handed_by (t.take_answers g) in
    record {
      items =
          ap (λ (l : List Answer). accepted_by r.sends.calls l) answers
          ∙ sym (accepted_by_calls h.sends.answers r.sends.calls t.send_calls.0 (omega (arith, even, ap length answers)))
          ∙ ap (λ (l : List Entry). accepted_by l h.sends.answers) (sym t.send_calls.1);
      shut = ap (list_any shuts) answers;
      handed_is = hands;
      to_all = same_least h r m hn rn hands;
    }

-- ---- a send that is Full changes nothing

abbrev pub full : Answer
full = Answer.Send SendAnswer.Full

abbrev pub with_full : Record → Entry → Record
with_full r e = noted Chain.Send r (Some e) (Some full)

pub full_alike : (r : Record) (m : ℕ) (e : Entry) → length r.sends.calls ≡ length r.sends.answers → length r.takes ≡ m + 1 → Alike r (with_full r e)
full_alike r m e even rn = record {
  items = by_answers r.sends.answers r.sends.calls e even;
  shut = any-append shuts r.sends.answers (full ∷ []) ∙ or_false (list_any shuts r.sends.answers);
  handed_is = λ g. refl;
  to_all = same_least r (with_full r e) m rn rn (λ g. refl);
}
  where
    or_false : (b : Bool) → b || (false || false) ≡ b
    or_false b = grind arith

    by_answers : (answers : List Answer) (calls : List Entry) (e : Entry) → length calls ≡ length answers → accepted_by (calls ++ e ∷ []) (answers ++ full ∷ []) ≡ accepted_by calls answers
    by_answers [] [] e is = refl
    by_answers [] (d ∷ calls) e is = absurd (omega (arith, is))
    by_answers (a ∷ answers) [] e is = absurd (omega (arith, is))
    by_answers (a ∷ answers) (d ∷ calls) e is = ap (λ (l : List Item). accepted_item d a ++ l) (by_answers answers calls e (omega (arith, is)))
