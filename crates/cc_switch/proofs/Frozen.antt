-- A queue that was shut accepts nothing more.
use Rattle.std.proofs.Common.{◌≡◌, ℕ, ◌+◌, Bool, true, false, ◌||◌, List, [], ◌∷◌, ◌++◌, length, refl, sym, ap, ◌∙◌}
use Rattle.std.proofs.Common.{subst, arith, length-append}
use Rattle.std.specs.List.{list_any}
use Rattle.cc_model.specs.Record.{Record}
use Rattle.cc_model.specs.Items.{accepted, accepted_by, accepted_item, shuts, is_shut}
use Rattle.cc_model.specs.Legal.{Legal, SendSideAnswers}
use Rattle.cc_model.specs.Fresh.{GoesOn}
use Rattle.cc_queue.specs.Names.{Config, Entry, Answer}
use Rattle.cc_queue.specs.Headline.{history}
use Rattle.cc_queue.specs.Noted.{HasHeeded, noted_history}
use Rattle.cc_queue.proofs.Heeded.{noted_goes_on}
use Rattle.cc_steps.specs.Topic.{Topic}
use Rattle.cc_steps.specs.Noted.{Noted}
use Rattle.cc_steps.specs.Walk.{Walk}
use Rattle.cc_switch.specs.Links.{IsShutBy, total_of}
use Rattle.cc_switch.specs.Closing.{KnowsShut}
use Rattle.cc_queue.specs.Met.{HasMet}
use Rattle.cc_steps.specs.Noted.{noted_by}
use Rattle.cc_model.proofs.Grows.{any-append}
use Rattle.cc_switch.proofs.Closed.{none_after}

or_false : (b : Bool) → b || false ≡ b
or_false true = refl
or_false false = refl

or_moved : (a b c : Bool) → (a || b) || c ≡ a || (b || c)
or_moved true b c = refl
or_moved false b c = refl

none_of : (cs : List Entry) → length (accepted_by cs []) ≡ 0
none_of [] = refl
none_of (c ∷ cs) = refl

none_more : (cfg : Config) (n : ℕ) (shut : Bool) (calls more : List Entry) (answers rest : List Answer)
    → SendSideAnswers cfg n shut calls answers → SendSideAnswers cfg n shut (calls ++ more) (answers ++ rest)
    → shut || list_any shuts answers ≡ true → length (accepted_by (calls ++ more) (answers ++ rest)) ≡ length
    (accepted_by calls answers)
none_more cfg n shut calls more [] rest h k closed = none_after cfg n (calls ++ more) rest
    (subst (λ (b : Bool). SendSideAnswers cfg n b (calls ++ more) rest) (sym (or_false shut) ∙ closed) k)
    ∙ sym (none_of calls)
none_more cfg n shut [] more (a ∷ answers) rest h k closed = absurd h
none_more cfg n shut (c ∷ calls) more (a ∷ answers) rest h k closed =
    let same = none_more cfg (n + length (accepted_item c a)) (shut || shuts a) calls more answers rest h.1 k.1
    (or_moved shut (shuts a) (list_any shuts answers) ∙ closed) in
    omega (
      arith,
      same,
      length-append (accepted_item c a) (accepted_by calls answers),
      length-append (accepted_item c a) (accepted_by (calls ++ more) (answers ++ rest)),
    )

pub frozen : (cfg : Config) (h later : Record) → GoesOn cfg h later → is_shut h ≡ true
    → length (accepted later) ≡ length (accepted h)
frozen cfg h later on closed =
    let calls = h.sends.calls ++ on.begins.sends.calls.0 in
    let answers = h.sends.answers ++ on.begins.sends.answers.0 in
    let legal : SendSideAnswers cfg 0 false calls answers =
    subst (λ (z : List Entry × List Answer). SendSideAnswers cfg 0 false z.0 z.1)
    (λ i. (on.begins.sends.calls.1 i, on.begins.sends.answers.1 i)) on.later_legal.answers in
    ap (λ (z : List Entry × List Answer). length (accepted_by z.0 z.1))
    (λ i. (on.begins.sends.calls.1 i, on.begins.sends.answers.1 i))
    ∙ none_more cfg 0 false h.sends.calls on.begins.sends.calls.0 h.sends.answers on.begins.sends.answers.0
    on.legal.answers legal closed

or_true : (b : Bool) → true || b ≡ true
or_true b = refl

still_shut : (cfg : Config) (h later : Record) → GoesOn cfg h later → is_shut h ≡ true → is_shut later ≡ true
still_shut cfg h later on closed =
    ap (list_any shuts) on.begins.sends.answers.1 ∙ (any-append shuts h.sends.answers on.begins.sends.answers.0
    ∙ ap (λ (b : Bool). b || list_any shuts on.begins.sends.answers.0) closed)

met_on : (v w : Walk) (z : Topic) → IsShutBy z (noted_by v) → HasMet v w
    → GoesOn v.setting.config (history v) (history w)
met_on v w z is met = record {
  legal = is.legal;
  later_legal = subst (λ (c : Config). Legal c (history w)) (ap (λ (x : Walk). x.setting.config) met.same)
      met.stands.legal;
  begins = met.stands.begins;
}

-- a pass that knows of the close knows of it still when it has seen more
pub knows_still : (v w : Walk) (z : Topic) (total : ℕ) → KnowsShut z v total → HasMet v w → KnowsShut z w total
knows_still v w z total k met = let on = met_on v w z k.shut met in record {
  shut = record {
    of = (ap (λ (x : Walk). x.table_id) met.same ∙ k.shut.of.0, ap (λ (x : Walk). x.setting) met.same ∙ k.shut.of.1);
    run = met.stands.run;
    legal = met.stands.legal;
    shut = still_shut v.setting.config (history v) (history w) on k.shut.shut;
  };
  total_is = frozen v.setting.config (history v) (history w) on k.shut.shut ∙ k.total_is;
}

-- what was noted of the close is what the pass knows
pub one_total : (v w : Walk) (z : Topic) (total : ℕ) (n : Noted) → KnowsShut z v total → HasMet v w → HasHeeded n w
    → IsShutBy z n → total_of n ≡ total
one_total v w z total n k met heeded is =
    sym (frozen w.setting.config (noted_history n) (history w) (noted_goes_on n w heeded) is.shut)
    ∙ (knows_still v w z total k met).total_is
