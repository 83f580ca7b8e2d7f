-- A take that was answered Ended: the queue is shut, and its group was handed all.
use Rattle.std.proofs.Common.{inl, inr, ◌≡◌, ◌⊎◌, ℕ, ◌+◌, ◌<◌, ◌≤◌, Bool, true, false, List}
use Rattle.std.proofs.Common.{[], ◌∷◌, ◌++◌, length, Option, Some, None, refl, sym, ap, subst, arith}
use Rattle.std.proofs.Common.{length-append, rules, if◌then◌else◌}
use Rattle.std.specs.List.{flat_map, AllByRecursion, filter}
use Rattle.std.proofs.lemmas.Bool.{cases_lt, cases_eq}
use Rattle.std.proofs.lemmas.List.{get_or_past}
use Rattle.cc_model.specs.Record.{Side, Record, silent, of_group}
use Rattle.cc_model.specs.Items.{all_answered, answered, is_pass, accepted, accepted_item, is_shut, handed}
use Rattle.cc_model.specs.Items.{handed_by, handed_item}
use Rattle.cc_model.specs.Legal.{Legal, SendSideAnswer, SendSideAnswers, TakeSideAnswers, IsReceivers}
use Rattle.cc_model.specs.Config.{group_of}
use Rattle.cc_queue.specs.Group.{Ranked, IsGroupOf}
use Rattle.cc_queue.specs.Names.{Config, Call, Pass, Item, Entry, Answer, TakeAnswer}
use Rattle.cc_queue.proofs.AnswerKinds.{all_both, all_last}
use Rattle.cc_queue.specs.Headline.{StandsInOne, name, history}
use Rattle.cc_runs.specs.ChainLaws.{IsLastAnswer}
use Rattle.cc_steps.specs.Topic.{Topic}
use Rattle.cc_steps.specs.Walk.{Walk, IsOf}
use Rattle.cc_switch.specs.Closing.{HasEnded, KnowsEnded}
use Rattle.cc_switch.proofs.Closed.{all_sides}
use Rattle.cc_switch.proofs.Frozen.{knows_still}
use Rattle.cc_switch.specs.Closing.{KnowsShut}
use Rattle.cc_queue.specs.Met.{HasMet}
use Rattle.cc_model.proofs.Grows.{handed_by-append}

-- the answer is this
abbrev Ends : ℕ → Answer → Type 0
Ends total (Answer.Take (TakeAnswer.Ended t)) = t ≡ total
Ends total _ = ⊥

abbrev HasEnd : ℕ → List Answer → Type 0
HasEnd total [] = ⊥
HasEnd total (a ∷ rest) = Ends total a ⊎ HasEnd total rest

ended_by : (items : List Item) (shut : Bool) (n total : ℕ) (calls : List Entry) (answers : List Answer)
    → TakeSideAnswers items shut n calls answers → HasEnd total answers
    → (shut ≡ true) × (length items ≡ total) × (length items ≤ n + length (handed_by answers))
ended_by items shut n total calls [] k has = absurd has
ended_by items shut n total [] (a ∷ answers) k has = absurd k
ended_by items shut n total (c ∷ calls) (Answer.Take (TakeAnswer.Ended t) ∷ answers) k (inl is) =
    (k.0.0, (let m = k.0.1 in let l = k.0.2 in omega (arith, m, l, is)), (let l = k.0.2 in omega (arith, l)))
ended_by items shut n total (c ∷ calls) (Answer.Take (TakeAnswer.Got item) ∷ answers) k (inl is) = absurd is
ended_by items shut n total (c ∷ calls) (Answer.Take TakeAnswer.Empty ∷ answers) k (inl is) = absurd is
ended_by items shut n total (c ∷ calls) (Answer.Send a ∷ answers) k (inl is) = absurd is
ended_by items shut n total (c ∷ calls) (Answer.Close a ∷ answers) k (inl is) = absurd is
ended_by items shut n total (c ∷ calls) (a ∷ answers) k (inr later) =
    let rest = ended_by items shut (n + length (handed_item a)) total calls answers k.1 later in let few = rest.2 in
    (rest.0, rest.1, omega (arith, few, length-append (handed_item a) (handed_by answers)))

-- if a call of this pass was answered so, some answer of these is that
abbrev Shows : Pass → ℕ → List Answer → Entry × Option Answer → Type 0
Shows who total answers (e, None) = Unit {0}
Shows who total answers (e, Some a) = is_pass who e.pass ≡ true → Ends total a → HasEnd total answers

own_takes : (who : Pass) (total : ℕ) (calls : List Entry) (whole : List Answer) (answers : List Answer)
    → (HasEnd total answers → HasEnd total whole) → AllByRecursion (Shows who total whole) (answered calls answers)
own_takes who total [] whole answers into = tt
own_takes who total (c ∷ calls) whole [] into = (tt, own_takes who total calls whole [] into)
own_takes who total (c ∷ calls) whole (a ∷ answers) into =
    ((λ mine is. into (inl is)), own_takes who total calls whole answers (λ has. into (inr has)))

no_end : (cfg : Config) (n : ℕ) (shut : Bool) (known total : ℕ) (call : Call) (a : Answer)
    → SendSideAnswer cfg n shut known call a → Ends total a → ⊥
no_end cfg n shut known total call (Answer.Send a) k is = is
no_end cfg n shut known total call (Answer.Close a) k is = is
no_end cfg n true known total (Call.Send body) (Answer.Take a) k is = k
no_end cfg n true known total Call.Close (Answer.Take a) k is = k
no_end cfg n true known total Call.Take (Answer.Take a) k is = k
no_end cfg n false known total (Call.Send body) (Answer.Take a) k is = k
no_end cfg n false known total Call.Close (Answer.Take a) k is = k
no_end cfg n false known total Call.Take (Answer.Take a) k is = k

no_sends : (who : Pass) (cfg : Config) (n : ℕ) (shut : Bool) (total : ℕ) (whole : List Answer) (calls : List Entry)
    (answers : List Answer) → SendSideAnswers cfg n shut calls answers
    → AllByRecursion (Shows who total whole) (answered calls answers)
no_sends who cfg n shut total whole [] answers k = tt
no_sends who cfg n shut total whole (c ∷ calls) [] k = (tt, no_sends who cfg n shut total whole calls [] tt)
no_sends who cfg n shut total whole (c ∷ calls) (a ∷ answers) k = (
  (λ mine is. absurd (no_end cfg n shut c.known total c.call a k.0 is)),
  no_sends who cfg (n + length (accepted_item c a)) _ total whole calls answers k.1,
)

-- a receiver of one group makes no call of another group
stranger : (cfg : Config) (who p : Pass) (call : Call) (g k : ℕ) → IsGroupOf cfg who (g + 1) → (k ≡ g → ⊥)
    → IsReceivers cfg k p call → is_pass who p ≡ true → ⊥
stranger cfg (Pass.Sender s) p call g k of other is mine = of
stranger cfg (Pass.Receiver n) (Pass.Sender m) call g k of other is mine = is
stranger cfg (Pass.Receiver n) (Pass.Receiver m) (Call.Send body) g k of other is mine = is
stranger cfg (Pass.Receiver n) (Pass.Receiver m) Call.Close g k of other is mine = is
stranger cfg (Pass.Receiver n) (Pass.Receiver m) Call.Take g k of other is mine =
    let same : n ≡ m = search rules in
    let one = ap (group_of cfg) same in let its = is.2 in
    other (omega (arith, of, one, its))

others : (cfg : Config) (who : Pass) (g k total : ℕ) (whole : List Answer) → IsGroupOf cfg who (g + 1)
    → (k ≡ g → ⊥) → (calls : List Entry) (answers : List Answer)
    → AllByRecursion (λ c. IsReceivers cfg k c.pass c.call) calls
    → AllByRecursion (Shows who total whole) (answered calls answers)
others cfg who g k total whole of other [] answers are = tt
others cfg who g k total whole of other (c ∷ calls) [] are =
    (tt, others cfg who g k total whole of other calls [] are.1)
others cfg who g k total whole of other (c ∷ calls) (a ∷ answers) are = (
  (λ mine is. absurd (stranger cfg who c.pass c.call g k of other are.0 mine)),
  others cfg who g k total whole of other calls answers are.1,
)

side_shows : (cfg : Config) (h : Record) (who : Pass) (g total : ℕ) → IsGroupOf cfg who (g + 1) → Legal cfg h → (k : ℕ)
    → AllByRecursion (Shows who total (of_group h g).answers) (answered (of_group h k).calls (of_group h k).answers)
side_shows cfg h who g total of l k = elim (cases_eq k g) [
  | inl same ↦ subst (λ (j : ℕ). AllByRecursion (Shows who total (of_group h g).answers)
      (answered (of_group h j).calls (of_group h j).answers)) (sym same)
      (own_takes who total (of_group h g).calls (of_group h g).answers (of_group h g).answers (λ has. has))
  | inr other ↦ elim (cases_lt k cfg.groups) [
    | inl inside ↦ others cfg who g k total (of_group h g).answers of other (of_group h k).calls
        (of_group h k).answers
        (l.takes k inside).receivers
    | inr far ↦ subst (λ (s : Side). AllByRecursion (Shows who total (of_group h g).answers)
        (answered s.calls s.answers)) (sym (get_or_past h.takes k silent (omega (arith, far, l.groups)))) tt
  ]
]

-- of the calls that a filter keeps, the filter holds
kept_all : {X : Type 0} (P : X → Type 0) (f : X → Bool) (Q : X → Type 0) → ((x : X) → f x ≡ true → Q x → P x)
    → (xs : List X) → AllByRecursion Q xs → AllByRecursion P (filter f xs)
kept_all P f Q step [] a = tt
kept_all {X} P f Q step (x ∷ xs) a = kept (f x) (step x) (kept_all P f Q step xs a.1)
  where
    kept : (b : Bool) → (b ≡ true → Q x → P x) → AllByRecursion P (filter f xs)
        → AllByRecursion P (if b then x ∷ filter f xs else filter f xs)
    kept true holds rest = (holds refl a.0, rest)
    kept false holds rest = rest

-- the call has no answer, or some answer of these is such an end if its own is
abbrev Tells : ℕ → List Answer → Entry × Option Answer → Type 0
Tells total answers (e, None) = Unit {0}
Tells total answers (e, Some a) = Ends total a → HasEnd total answers

told_here : (who : Pass) (total : ℕ) (whole : List Answer) (x : Entry × Option Answer) → is_pass who x.0.pass ≡ true
    → Shows who total whole x → Tells total whole x
told_here who total whole (e, None) mine is = tt
told_here who total whole (e, Some a) mine is = is mine

has_end : (cfg : Config) (h : Record) (who : Pass) (g total : ℕ) → IsGroupOf cfg who (g + 1) → Legal cfg h
    → IsLastAnswer who h (Answer.Take (TakeAnswer.Ended total)) → HasEnd total (of_group h g).answers
has_end cfg h who g total of l k =
    let whole : List Answer = (of_group h g).answers in
    all_last (Tells total whole) k.before (k.entry, Some (Answer.Take (TakeAnswer.Ended total)))
    (subst (AllByRecursion (Tells total whole)) k.last
    (kept_all (Tells total whole) (λ c. is_pass who c.0.pass) (Shows who total whole) (told_here who total whole)
    (all_answered h)
    (all_both (Shows who total whole) (answered h.sends.calls h.sends.answers)
    (flat_map (λ side. answered side.calls side.answers) h.takes)
    (no_sends who cfg 0 false total whole h.sends.calls h.sends.answers l.answers)
    (all_sides (Shows who total whole) h.takes (side_shows cfg h who g total of l))))) refl

-- a receiver of a group shows that there is the group
has_group : (cfg : Config) (h : Record) (g total : ℕ) → Legal cfg h → HasEnd total (of_group h g).answers
    → g < cfg.groups
has_group cfg h g total l has = elim (cases_lt g cfg.groups) [
  | inl inside ↦ inside
  | inr far ↦ absurd (subst (λ (s : Side). HasEnd total s.answers)
      (get_or_past h.takes g silent (omega (arith, far, l.groups))) has)
]

pub knows_ended : (g : ℕ) (z : Topic) (w : Walk) (total : ℕ) → IsOf z w → Ranked w (g + 1) → StandsInOne w [] w
    → HasEnded w total → KnowsEnded g z w total
knows_ended g z w total here ranked stands has =
    let cfg : Config = w.setting.config in
    let end = has_end cfg (history w) (name w) g total ranked stands.legal has in
    let inside = has_group cfg (history w) g total stands.legal end in
    let legal = stands.legal.takes g inside in
    let by = ended_by (accepted (history w)) (is_shut (history w)) 0 total (of_group (history w) g).calls
    (of_group (history w) g).answers legal.answers end in
    let few = legal.within in let all = by.2 in
    record {
      ended = record {
        shut = record { of = here; run = stands.run; legal = stands.legal; shut = by.0 };
        has = inside;
        all = omega (arith, few, all);
      };
      total_is = by.1;
    }

pub as_shut : (g : ℕ) (z : Topic) (w : Walk) (total : ℕ) → KnowsEnded g z w total → KnowsShut z w total
as_shut g z w total k = record { shut = k.ended.shut; total_is = k.total_is }

-- a pass knows of the end still when it has seen more
pub ended_still : (g : ℕ) (v w : Walk) (z : Topic) (total : ℕ) → KnowsEnded g z v total → HasMet v w
    → KnowsEnded g z w total
ended_still g v w z total k met =
    let still = knows_still v w z total (as_shut g z v total k) met in
    let inside : g < w.setting.config.groups =
    subst (λ (n : ℕ). g < n) (ap (λ (x : Walk). x.setting.config.groups) (sym met.same)) k.ended.has in
    let within = (met.stands.legal.takes g inside).within in
    let more = (met.stands.begins.takes g).answers in
    let grown : length (handed (history w) g) ≡ length (handed_by ((of_group (history v) g).answers ++ more.0)) =
    ap (λ (l : List Answer). length (handed_by l)) more.1 in
    let split = ap length (handed_by-append (of_group (history v) g).answers more.0) in
    let long = length-append (handed_by (of_group (history v) g).answers) (handed_by more.0) in
    let before = k.ended.all in let was = k.total_is in let is = still.total_is in
    record {
      ended = record {
        shut = still.shut;
        has = inside;
        all = omega (arith, within, grown, split, long, before, was, is);
      };
      total_is = still.total_is;
    }
