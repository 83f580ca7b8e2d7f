-- In a legal history each answer is one of its call's own kind.
use Rattle.std.proofs.Common.{suc, get_or, inl, inr, ◌≡◌, ℕ, ◌+◌, Bool, true, false, ◌||◌, List, [], ◌∷◌, ◌++◌, map, length, Option, Some, None, if◌then◌else◌, refl, sym, ap, ◌∙◌, subst, arith, length-append}
use Rattle.std.specs.List.{flat_map, AllByRecursion, filter}
use Rattle.cc_model.specs.Record.{Side, Record, silent, of_group}
use Rattle.std.proofs.lemmas.Bool.{cases_lt}
use Rattle.std.proofs.lemmas.List.{get_or_past}
use Rattle.cc_model.specs.Items.{all_answered, answered, calls_of, is_pass, accepted, accepted_item, shuts, is_shut, handed_item}
use Rattle.cc_model.specs.Legal.{Legal, SendSideAnswer, SendSideAnswers, TakeSideAnswer, TakeSideAnswers, IsReceivers}
use Rattle.cc_queue.specs.Names.{Config, Call, Pass, Item, Entry, Answer, SendAnswer, CloseAnswer}
use Rattle.cc_runs.specs.ChainLaws.{IsLastAnswer}
use Rattle.cc_queue.specs.Passes.{MadeLast, IsSend, IsClose}
use Rattle.cc_queue.specs.Codes.{IsSendAnswer, IsCloseAnswer}

-- the answer is one that such a call may get
abbrev Suits : Call → Answer → Type 0
Suits (Call.Send body) (Answer.Send a) = Unit {0}
Suits Call.Close (Answer.Close a) = Unit {0}
Suits Call.Take (Answer.Take a) = Unit {0}
Suits _ _ = ⊥

abbrev SuitsIt : Entry × Option Answer → Type 0
SuitsIt (e, None) = Unit {0}
SuitsIt (e, Some a) = Suits e.call a

-- ---- each answer of a side

e_suits : (cfg : Config) (count : ℕ) (shut : Bool) (known : ℕ) (c : Call) (a : Answer) → SendSideAnswer cfg count shut known c a → Suits c a
e_suits cfg count true known (Call.Send body) (Answer.Send SendAnswer.Closed) k = tt
e_suits cfg count true known Call.Close (Answer.Close (CloseAnswer.Already total)) k = tt
e_suits cfg count false known Call.Close (Answer.Close (CloseAnswer.Shut total)) k = tt
e_suits cfg count false known (Call.Send body) (Answer.Send SendAnswer.Spent) k = tt
e_suits cfg count false known (Call.Send body) (Answer.Send (SendAnswer.Accepted place)) k = tt
e_suits cfg count false known (Call.Send body) (Answer.Send SendAnswer.Full) k = tt
e_suits cfg count shut known c a k = absurd k

e_all : (cfg : Config) (count : ℕ) (shut : Bool) (calls : List Entry) (answers : List Answer) → SendSideAnswers cfg count shut calls answers → AllByRecursion SuitsIt (answered calls answers)
e_all cfg count shut [] answers k = tt
e_all cfg count shut (e ∷ calls) [] k = (tt, e_all cfg count shut calls [] tt)
e_all cfg count shut (e ∷ calls) (a ∷ answers) k = (e_suits cfg count shut e.known e.call a k.0, e_all cfg (count + length (accepted_item e a)) (shut || shuts a) calls answers k.1)

d_suits : (cfg : Config) (g : ℕ) (items : List Item) (shut : Bool) (count known : ℕ) (p : Pass) (c : Call) (a : Answer) → IsReceivers cfg g p c → TakeSideAnswer items shut count known a → Suits c a
d_suits cfg g items shut count known (Pass.Receiver r) Call.Take (Answer.Take a) is k = tt
d_suits cfg g items shut count known (Pass.Receiver r) Call.Take (Answer.Send a) is k = absurd k
d_suits cfg g items shut count known (Pass.Receiver r) Call.Take (Answer.Close a) is k = absurd k
d_suits cfg g items shut count known p c a is k = absurd is

d_all : (cfg : Config) (g : ℕ) (items : List Item) (shut : Bool) (count : ℕ) (calls : List Entry) (answers : List Answer) → AllByRecursion (λ c. IsReceivers cfg g c.pass c.call) calls → TakeSideAnswers items shut count calls answers → AllByRecursion SuitsIt (answered calls answers)
d_all cfg g items shut count [] answers r k = tt
d_all cfg g items shut count (e ∷ calls) [] r k = (tt, d_all cfg g items shut count calls [] r.1 tt)
d_all cfg g items shut count (e ∷ calls) (a ∷ answers) r k = (d_suits cfg g items shut count e.known e.pass e.call a r.0 k.0, d_all cfg g items shut (count + length (handed_item a)) calls answers r.1 k.1)

-- ---- lists

pub all_both : {X : Type 0} (P : X → Type 0) (xs ys : List X) → AllByRecursion P xs → AllByRecursion P ys → AllByRecursion P (xs ++ ys)
all_both P [] ys a b = b
all_both P (x ∷ xs) ys a b = (a.0, all_both P xs ys a.1 b)

all_filter : {X : Type 0} (P : X → Type 0) (f : X → Bool) (xs : List X) → AllByRecursion P xs → AllByRecursion P (filter f xs)
all_filter P f [] a = tt
all_filter P f (x ∷ xs) a = kept (f x) (all_filter P f xs a.1)
  where
    kept : (b : Bool) → AllByRecursion P (filter f xs) → AllByRecursion P (if b then x ∷ filter f xs else filter f xs)
    kept true rest = (a.0, rest)
    kept false rest = rest

pub all_last : {X : Type 0} (P : X → Type 0) (xs : List X) (x : X) → AllByRecursion P (xs ++ x ∷ []) → P x
all_last P [] x a = a.0
all_last P (y ∷ xs) x a = all_last P xs x a.1

pub last_is : {X : Type 0} (xs ys : List X) (x y : X) → xs ++ x ∷ [] ≡ ys ++ y ∷ [] → x ≡ y
last_is [] [] x y e = cc
last_is [] (z ∷ ys) x y e = absurd (omega (arith, ap length e, length-append ys (y ∷ [])))
last_is (z ∷ xs) [] x y e = absurd (omega (arith, ap length e, length-append xs (x ∷ [])))
last_is (z ∷ xs) (w ∷ ys) x y e = let rest : xs ++ x ∷ [] ≡ ys ++ y ∷ [] = cc in last_is xs ys x y rest

-- ---- the last call of a pass

-- of the sides of all groups
all_sides : (P : Entry × Option Answer → Type 0) (sides : List Side) → ((k : ℕ) → AllByRecursion P (answered (get_or sides k silent).calls (get_or sides k silent).answers)) → AllByRecursion P (flat_map (λ side. answered side.calls side.answers) sides)
all_sides P [] each = tt
all_sides P (s ∷ sides) each = all_both P (answered s.calls s.answers) (flat_map (λ side. answered side.calls side.answers) sides) (each 0) (all_sides P sides (λ k. each (suc k)))

-- a group's, if there is none the empty one
side_suits : (cfg : Config) (h : Record) → Legal cfg h → (g : ℕ) → AllByRecursion SuitsIt (answered (of_group h g).calls (of_group h g).answers)
side_suits cfg h l g = elim (cases_lt g cfg.groups) [
  | inl inside ↦ d_all cfg g (accepted h) (is_shut h) 0 (of_group h g).calls (of_group h g).answers (l.takes g inside).receivers (l.takes g inside).answers
  | inr far ↦ subst (λ (s : Side). AllByRecursion SuitsIt (answered s.calls s.answers)) (sym (get_or_past h.takes g silent (omega (arith, far, l.groups)))) tt
]

all_suit : (cfg : Config) (h : Record) (who : Pass) → Legal cfg h → AllByRecursion SuitsIt (calls_of who h)
all_suit cfg h who l =
    all_filter SuitsIt (λ c. is_pass who c.0.pass) (all_answered h)
    (all_both SuitsIt (answered h.sends.calls h.sends.answers) (flat_map (λ side. answered side.calls side.answers) h.takes) (e_all cfg 0 false h.sends.calls h.sends.answers l.answers)
    (all_sides SuitsIt h.takes (side_suits cfg h l)))

pub map_last : {X Y : Type 0} (f : X → Y) (xs : List X) (x : X) → map f (xs ++ x ∷ []) ≡ map f xs ++ f x ∷ []
map_last f [] x = refl
map_last f (y ∷ xs) x = λ i. f y ∷ map_last f xs x i

suits_last : (cfg : Config) (h : Record) (who : Pass) (told : Answer) (made : List Entry) (Is : Call → Type 0) → Legal cfg h → map (λ z. z.0) (calls_of who h) ≡ made → IsLastAnswer who h told → (m : MadeLast Is made) → Suits m.entry.call told
suits_last cfg h who told made Is l calls k m =
    let same : k.entry ≡ m.entry = last_is (map (λ z. z.0) k.before) m.before k.entry m.entry (sym (map_last (λ z. z.0) k.before (k.entry, Some told)) ∙ ap (map (λ z. z.0)) (sym k.last) ∙ calls ∙ m.last) in
    subst (λ (e : Entry). Suits e.call told) same (all_last SuitsIt k.before (k.entry, Some told) (subst (AllByRecursion SuitsIt) k.last (all_suit cfg h who l)))

send_kind : (c : Call) (told : Answer) → IsSend c → Suits c told → IsSendAnswer told
send_kind (Call.Send body) (Answer.Send a) is s = tt
send_kind (Call.Send body) (Answer.Close a) is s = absurd s
send_kind (Call.Send body) (Answer.Take a) is s = absurd s
send_kind c told is s = absurd is

close_kind : (c : Call) (told : Answer) → IsClose c → Suits c told → IsCloseAnswer told
close_kind Call.Close (Answer.Close a) is s = tt
close_kind Call.Close (Answer.Send a) is s = absurd s
close_kind Call.Close (Answer.Take a) is s = absurd s
close_kind c told is s = absurd is

-- a send is answered as a send
pub send_answered : (cfg : Config) (h : Record) (who : Pass) (told : Answer) (made : List Entry) → Legal cfg h → map (λ z. z.0) (calls_of who h) ≡ made → IsLastAnswer who h told → MadeLast IsSend made → IsSendAnswer told
send_answered cfg h who told made l calls k m = send_kind m.entry.call told m.is (suits_last cfg h who told made IsSend l calls k m)

-- and a close as a close
pub close_answered : (cfg : Config) (h : Record) (who : Pass) (told : Answer) (made : List Entry) → Legal cfg h → map (λ z. z.0) (calls_of who h) ≡ made → IsLastAnswer who h told → MadeLast IsClose made → IsCloseAnswer told
close_answered cfg h who told made l calls k m = close_kind m.entry.call told m.is (suits_last cfg h who told made IsClose l calls k m)
