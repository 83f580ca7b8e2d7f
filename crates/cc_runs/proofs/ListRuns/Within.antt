-- No number of an answer is greater than the number of items that may ever be accepted.
use Rattle.std.proofs.Common.{◌≡◌, ℕ, ◌+◌, ◌<◌, ◌≤◌, List, [], ◌∷◌, length, Bool, false, ◌||◌, Some, Ok, sym, ap, subst, ◌∙◌, arith, length-append}
use Rattle.std.proofs.lemmas.Option.{slice_get_within}
use Rattle.std.specs.List.{AllByRecursion, slice_get}
use Rattle.cc_model.specs.Config.{config_fault}
use Rattle.cc_model.specs.Items.{accepted, accepted_by, accepted_item, shuts, is_shut, handed_item}
use Rattle.cc_model.specs.Legal.{SendSideAnswer, SendSideAnswers, TakeSideAnswer, TakeSideAnswers}
use Rattle.cc_runs.specs.Names.{Config, Call, Entry, Item, Answer, Setting, Chain}
use Rattle.cc_runs.specs.Codes.{item_of}
use Rattle.cc_model.specs.Record.{of_group}
use Rattle.cc_runs.specs.OnChain.{IsTellable, answers_on}
use Rattle.cc_runs.specs.State.{State}
use Rattle.cc_runs.specs.Run.{reached, history_of, IsRun}
use Rattle.cc_runs.specs.MachineLaws.{AnswerWithin, IsWithin, NumbersStayWithin}
use Rattle.cc_model.specs.Body.{IsBody}
use Rattle.cc_runs.specs.Codes.{further_words}
use Rattle.cc_runs.proofs.Bodies.{body_made}
use Rattle.cc_runs.proofs.Ranges.{in_range}
use Rattle.cc_runs.proofs.ListRuns.Ties.{body_at}
use Rattle.cc_runs.proofs.ListRuns.Facts.{lists}
use Rattle.cc_runs.proofs.ListRuns.Invariant.{ghosts_at}
use Rattle.cc_runs.proofs.ListRuns.Runs.{Whole}
use Rattle.cc_runs.proofs.ListRuns.FromChains.{after_runs, of_setting}

e_within : (c : Config) (n : ℕ) (shut : Bool) (known : ℕ) (k : Call) (a : Answer) → SendSideAnswer c n shut known k a → n ≤ c.life → AnswerWithin c.life a
e_within c n shut known k a h l = grind arith

all_e_within : (c : Config) (n : ℕ) (shut : Bool) (calls : List Entry) (answers : List Answer) → SendSideAnswers c n shut calls answers → n + length (accepted_by calls answers) ≤ c.life → AllByRecursion (AnswerWithin c.life) answers
all_e_within c n shut calls [] h l = tt
all_e_within c n shut [] (a ∷ answers) h l = absurd h
all_e_within c n shut (e ∷ calls) (a ∷ answers) h l = (
  e_within c n shut e.known e.call a h.0 (omega (arith, l)),
  all_e_within c (n + length (accepted_item e a)) (shut || shuts a) calls answers h.1 (omega (arith, l, length-append (accepted_item e a) (accepted_by calls answers))),
)

-- the items
abbrev Small : List Item → Type 0
Small items = (i : ℕ) (x : Item) → slice_get items i ≡ Some x → IsTellable x

d_within : (items : List Item) (shut : Bool) (n known : ℕ) (a : Answer) (most : ℕ) → TakeSideAnswer items shut n known a → Small items → length items ≤ most → AnswerWithin most a
d_within items shut n known a most h small l = grind (arith, slice_get_within)

all_d_within : (items : List Item) (shut : Bool) (n : ℕ) (calls : List Entry) (answers : List Answer) (most : ℕ) → TakeSideAnswers items shut n calls answers → Small items → length items ≤ most → AllByRecursion (AnswerWithin most) answers
all_d_within items shut n calls [] most h small l = tt
all_d_within items shut n [] (a ∷ answers) most h small l = absurd h
all_d_within items shut n (e ∷ calls) (a ∷ answers) most h small l = (d_within items shut n e.known a most h.0 small l, all_d_within items shut (n + length (handed_item a)) calls answers most h.1 small l)

pub within : (c : Config) (s : State) {nodes : List ℕ} → Whole c s nodes → IsWithin c s.history
within c s {nodes} w =
    let k = w.parts in
    let life : length (accepted s.history) ≤ c.life = omega (arith, k.list.branch.life_in) in
    record {
      life = life;
      answers = by_chain life;
    }
  where
    small : Small (accepted s.history)
    small i x is =
        let low : i < (ghosts_at c s w.parts).accepted = omega (arith, slice_get_within (accepted s.history) i x is) in
        let at : Some x ≡ Some (item_of i (w.parts.kept.items i 0) (body_at (w.parts.kept.items i))) = sym is ∙ w.parts.ties.items_are i low in
        let same : x ≡ item_of i (w.parts.kept.items i 0) (body_at (w.parts.kept.items i)) = cc in
        record {
          sender = omega (arith, ap (λ (y : Item). y.sender) same);
          number = omega (arith, ap (λ (y : Item). y.number) same);
          body = subst (λ (y : Item). IsBody y.body) (sym same) (body_made (further_words (w.parts.kept.items i 0)) (body_at (w.parts.kept.items i)));
        }

    by_chain : length (accepted s.history) ≤ c.life → (x : Chain) → AllByRecursion (AnswerWithin c.life) (answers_on x s.history)
    by_chain life Chain.Send = all_e_within c 0 false s.history.sends.calls s.history.sends.answers w.parts.ties.legal.sends (omega (arith, life))
    by_chain life (Chain.Take y) = all_d_within (accepted s.history) (is_shut s.history) 0 (of_group s.history y).calls (of_group s.history y).answers c.life (w.parts.ties.legal.takes y) small life

pub numbers_stay_within : NumbersStayWithin
numbers_stay_within c moves serves checked run =
    of_setting (λ (z : Setting). config_fault z.config ≡ Ok tt → IsRun z moves → IsWithin z.config (history_of z moves)) c serves
    (λ ok r. within c.config (reached (lists c.config) moves) (after_runs c.config (in_range c.config ok) moves r)) checked run
