-- A close that was answered shuts its queue, which accepts nothing more.
use Rattle.std.proofs.Common.{get_or, inl, inr, ◌≡◌, ◌⊎◌, ℕ, suc, ◌+◌, Bool, true, false, ◌||◌, List, [], ◌∷◌, length}
use Rattle.std.proofs.Common.{Option, Some, None, if◌then◌else◌, refl, sym, ◌∙◌, subst, arith, length-append}
use Rattle.std.specs.List.{flat_map, AllByRecursion, filter, list_any}
use Rattle.std.proofs.lemmas.Bool.{cases_lt}
use Rattle.std.proofs.lemmas.List.{get_or_past}
use Rattle.cc_model.specs.Record.{Side, Record, silent, of_group}
use Rattle.cc_model.specs.Items.{all_answered, answered, is_pass, accepted, accepted_by, accepted_item, shuts, is_shut}
use Rattle.cc_model.specs.Items.{handed_item}
use Rattle.cc_model.specs.Legal.{Legal, SendSideAnswer, SendSideAnswers, TakeSideAnswer, TakeSideAnswers}
use Rattle.cc_queue.specs.Names.{Config, Call, Pass, Item, Entry, Answer, SendAnswer, CloseAnswer}
use Rattle.cc_queue.proofs.AnswerKinds.{all_both, all_last}
use Rattle.cc_queue.specs.Headline.{StandsInOne, name, history}
use Rattle.cc_runs.specs.ChainLaws.{IsLastAnswer}
use Rattle.cc_steps.specs.Topic.{Topic}
use Rattle.cc_steps.specs.Walk.{Walk, IsOf}
use Rattle.cc_switch.specs.Closing.{TellsClosed, HasClosed, KnowsShut}

-- one of these answers is that of such a close
abbrev HasClose : ℕ → List Answer → Type 0
HasClose total [] = ⊥
HasClose total (a ∷ rest) = TellsClosed total a ⊎ HasClose total rest

-- ---- of the senders' side

none_item : (cfg : Config) (n known : ℕ) (c : Entry) (call : Call) (a : Answer) → SendSideAnswer cfg n true known call a
    → length (accepted_item c a) ≡ 0
none_item cfg n known c (Call.Send body) (Answer.Send (SendAnswer.Accepted place)) k = absurd k
none_item cfg n known c Call.Close (Answer.Send (SendAnswer.Accepted place)) k = absurd k
none_item cfg n known c Call.Take (Answer.Send (SendAnswer.Accepted place)) k = absurd k
none_item cfg n known c call (Answer.Send SendAnswer.Full) k = refl
none_item cfg n known c call (Answer.Send SendAnswer.Closed) k = refl
none_item cfg n known c call (Answer.Send SendAnswer.Spent) k = refl
none_item cfg n known c call (Answer.Close a) k = refl
none_item cfg n known c call (Answer.Take a) k = refl

pub none_after : (cfg : Config) (n : ℕ) (calls : List Entry) (answers : List Answer)
    → SendSideAnswers cfg n true calls answers → length (accepted_by calls answers) ≡ 0
none_after cfg n [] answers k = refl
none_after cfg n (c ∷ calls) [] k = refl
none_after cfg n (c ∷ calls) (a ∷ answers) k =
    let now = none_item cfg n c.known c c.call a k.0 in
    let rest = none_after cfg (n + length (accepted_item c a)) calls answers k.1 in
    omega (arith, now, rest, length-append (accepted_item c a) (accepted_by calls answers))

-- what the answer of a close says
told_close : (cfg : Config) (n : ℕ) (shut : Bool) (known total : ℕ) (c : Entry) (call : Call) (a : Answer)
    → SendSideAnswer cfg n shut known call a → TellsClosed total a → (shut || shuts a ≡ true) × (n ≡ total)
    × (length (accepted_item c a) ≡ 0)
told_close cfg n true known total c Call.Close (Answer.Close (CloseAnswer.Already t)) k is = (refl, sym k ∙ is, refl)
told_close cfg n false known total c Call.Close (Answer.Close (CloseAnswer.Shut t)) k is = (refl, sym k ∙ is, refl)
told_close cfg n true known total c Call.Close (Answer.Close (CloseAnswer.Shut t)) k is = absurd k
told_close cfg n false known total c Call.Close (Answer.Close (CloseAnswer.Already t)) k is = absurd k
told_close cfg n true known total c (Call.Send body) (Answer.Close a) k is = absurd k
told_close cfg n false known total c (Call.Send body) (Answer.Close a) k is = absurd k
told_close cfg n true known total c Call.Take (Answer.Close a) k is = absurd k
told_close cfg n false known total c Call.Take (Answer.Close a) k is = absurd k
told_close cfg n shut known total c call (Answer.Send a) k is = absurd is
told_close cfg n shut known total c call (Answer.Take a) k is = absurd is

or_left : (a b : Bool) → a ≡ true → a || b ≡ true
or_left true b is = refl
or_left false b is = absurd (true_is_not is)
  where
    true_is_not : false ≡ true → ⊥
    true_is_not e = cc

pub or_both : (a b c : Bool) → (a || b) || c ≡ true → a || (b || c) ≡ true
or_both true b c is = refl
or_both false b c is = is

shut_by : (cfg : Config) (n total : ℕ) (shut : Bool) (calls : List Entry) (answers : List Answer)
    → SendSideAnswers cfg n shut calls answers → HasClose total answers
    → (shut || list_any shuts answers ≡ true) × (n + length (accepted_by calls answers) ≡ total)
shut_by cfg n total shut calls [] k has = absurd has
shut_by cfg n total shut [] (a ∷ answers) k has = absurd k
shut_by cfg n total shut (c ∷ calls) (a ∷ answers) k (inl is) =
    let now = told_close cfg n shut c.known total c c.call a k.0 is in
    let rest = none_after cfg (n + length (accepted_item c a)) calls answers
    (subst (λ (b : Bool). SendSideAnswers cfg (n + length (accepted_item c a)) b calls answers) now.0 k.1) in (
      or_both shut (shuts a) (list_any shuts answers) (or_left (shut || shuts a) (list_any shuts answers) now.0),
      omega (arith, now.1, now.2, rest, length-append (accepted_item c a) (accepted_by calls answers)),
    )
shut_by cfg n total shut (c ∷ calls) (a ∷ answers) k (inr later) =
    let rest = shut_by cfg (n + length (accepted_item c a)) total (shut || shuts a) calls answers k.1 later in (
      or_both shut (shuts a) (list_any shuts answers) rest.0,
      omega (arith, rest.1, length-append (accepted_item c a) (accepted_by calls answers)),
    )

-- ---- of all sides

-- if a call was answered as such a close, some answer of these is that of such a close
abbrev Shows : ℕ → List Answer → Entry × Option Answer → Type 0
Shows total answers (e, None) = Unit {0}
Shows total answers (e, Some a) = TellsClosed total a → HasClose total answers

all_sends : (total : ℕ) (calls : List Entry) (whole : List Answer) (answers : List Answer)
    → (HasClose total answers → HasClose total whole) → AllByRecursion (Shows total whole) (answered calls answers)
all_sends total [] whole answers into = tt
all_sends total (c ∷ calls) whole [] into = (tt, all_sends total calls whole [] into)
all_sends total (c ∷ calls) whole (a ∷ answers) into =
    ((λ is. into (inl is)), all_sends total calls whole answers (λ has. into (inr has)))

no_take : (total : ℕ) (items : List Item) (shut : Bool) (count known : ℕ) (a : Answer)
    → TakeSideAnswer items shut count known a → TellsClosed total a → ⊥
no_take total items shut count known (Answer.Close a) k is = k
no_take total items shut count known (Answer.Send a) k is = is
no_take total items shut count known (Answer.Take a) k is = is

all_takes : (total : ℕ) (whole : List Answer) (items : List Item) (shut : Bool) (count : ℕ) (calls : List Entry)
    (answers : List Answer) → TakeSideAnswers items shut count calls answers
    → AllByRecursion (Shows total whole) (answered calls answers)
all_takes total whole items shut count [] answers k = tt
all_takes total whole items shut count (c ∷ calls) [] k = (tt, all_takes total whole items shut count calls [] tt)
all_takes total whole items shut count (c ∷ calls) (a ∷ answers) k = (
  (λ is. absurd (no_take total items shut count c.known a k.0 is)),
  all_takes total whole items shut (count + length (handed_item a)) calls answers k.1,
)

pub all_filter : {X : Type 0} (P : X → Type 0) (f : X → Bool) (xs : List X) → AllByRecursion P xs
    → AllByRecursion P (filter f xs)
all_filter P f [] a = tt
all_filter P f (x ∷ xs) a = kept (f x) (all_filter P f xs a.1)
  where
    kept : (b : Bool) → AllByRecursion P (filter f xs) → AllByRecursion P (if b then x ∷ filter f xs else filter f xs)
    kept true rest = (a.0, rest)
    kept false rest = rest

pub all_sides : (P : Entry × Option Answer → Type 0) (sides : List Side)
    → ((k : ℕ) → AllByRecursion P (answered (get_or sides k silent).calls (get_or sides k silent).answers))
    → AllByRecursion P (flat_map (λ side. answered side.calls side.answers) sides)
all_sides P [] each = tt
all_sides P (s ∷ sides) each = all_both P (answered s.calls s.answers)
    (flat_map (λ side. answered side.calls side.answers) sides) (each 0) (all_sides P sides (λ k. each (suc k)))

side_shows : (cfg : Config) (h : Record) (total : ℕ) → Legal cfg h → (g : ℕ)
    → AllByRecursion (Shows total h.sends.answers) (answered (of_group h g).calls (of_group h g).answers)
side_shows cfg h total l g = elim (cases_lt g cfg.groups) [
  | inl inside ↦ all_takes total h.sends.answers (accepted h) (is_shut h) 0 (of_group h g).calls (of_group h g).answers
      (l.takes g inside).answers
  | inr far ↦ subst (λ (s : Side). AllByRecursion (Shows total h.sends.answers) (answered s.calls s.answers))
      (sym (get_or_past h.takes g silent (omega (arith, far, l.groups)))) tt
]

has_close : (cfg : Config) (h : Record) (who : Pass) (total : ℕ) (told : Answer) → Legal cfg h → IsLastAnswer who h told
    → TellsClosed total told → HasClose total h.sends.answers
has_close cfg h who total told l k is =
    all_last (Shows total h.sends.answers) k.before (k.entry, Some told)
    (subst (AllByRecursion (Shows total h.sends.answers)) k.last
    (all_filter (Shows total h.sends.answers) (λ c. is_pass who c.0.pass) (all_answered h)
    (all_both (Shows total h.sends.answers) (answered h.sends.calls h.sends.answers)
    (flat_map (λ side. answered side.calls side.answers) h.takes)
    (all_sends total h.sends.calls h.sends.answers h.sends.answers (λ has. has))
    (all_sides (Shows total h.sends.answers) h.takes (side_shows cfg h total l))))) is

from_none : (n total : ℕ) → 0 + n ≡ total → n ≡ total
from_none n total is = omega (arith, is)

pub knows_shut : (z : Topic) (w : Walk) (total : ℕ) → IsOf z w → StandsInOne w [] w → HasClosed w total
    → KnowsShut z w total
knows_shut z w total here stands has =
    let by = shut_by w.setting.config 0 total false (history w).sends.calls (history w).sends.answers
    stands.legal.answers (has_close w.setting.config (history w) (name w) total has.0 stands.legal has.1 has.2) in
    record {
      shut = record { of = here; run = stands.run; legal = stands.legal; shut = by.0 };
      total_is = from_none _ _ by.1;
    }
