-- A history with one more answer.
use Rattle.std.proofs.Common.{◌≡◌, ◌≢◌, ◌<◌, ◌≤◌, ◌+◌, ℕ, List, [], ◌∷◌, ◌++◌, length, Bool, true, false, ◌||◌, Some, ap, ◌∙◌, append-nil, zero-add, arith}
use Rattle.std.proofs.lemmas.List.{get_or-set_same, get_or-set_other}
use Rattle.std.specs.List.{slice_get}
use Rattle.cc_model.specs.Record.{Side, Record, silent, of_group, with_answer, with_sends, with_takes}
use Rattle.cc_model.specs.Items.{accepted, accepted_item, is_shut, shuts, handed, handed_by, handed_item}
use Rattle.cc_model.specs.Legal.{SendSideAnswer, SendSideAnswers, TakeSideAnswer, TakeSideAnswers}
use Rattle.cc_runs.specs.Names.{Config, Call, Entry, Item, Answer}
use Rattle.cc_model.proofs.Grows.{any-append, accepted_more, e_answer_more, d_answer_more, d_items_more, handed_by-append}

-- the answers of all sides are legal
pub record LegalSoFar (c : Config) (h : Record) : Type 0 where
  pub sends : SendSideAnswers c 0 false h.sends.calls h.sends.answers
  pub takes : (y : ℕ) → TakeSideAnswers (accepted h) (is_shut h) 0 (of_group h y).calls (of_group h y).answers

-- no more answers than calls
pub few_answers : (c : Config) (n : ℕ) (shut : Bool) (calls : List Entry) (answers : List Answer) → SendSideAnswers c n shut calls answers → length answers ≤ length calls
few_answers c n shut calls [] h = omega arith
few_answers c n shut [] (a ∷ answers) h = absurd h
few_answers c n shut (e ∷ calls) (a ∷ answers) h = omega (arith, few_answers c (n + length (accepted_item e a)) (shut || shuts a) calls answers h.1)

-- once shut, no answer accepts
closed_item : (c : Config) (n known : ℕ) (k : Call) (e : Entry) (a : Answer) → SendSideAnswer c n true known k a → accepted_item e a ≡ []
closed_item c n known k e a h = grind arith

closed_none : (c : Config) (n known : ℕ) (k : Call) (e : Entry) (a : Answer) (shut : Bool) → SendSideAnswer c n shut known k a → shut ≡ true → accepted_item e a ≡ []
closed_none c n known k e a true h is = closed_item c n known k e a h
closed_none c n known k e a false h is = cc

-- ---- the first call of a sender that has no answer gets one

-- a history with that answer
abbrev pub told_send : Record → Answer → Record
told_send h a = with_sends h (with_answer h.sends a)

module _ (c : Config) (h : Record) (legal : LegalSoFar c h) (e : Entry) (a : Answer) (is : slice_get h.sends.calls (length h.sends.answers) ≡ Some e) where
  pub e_accepted : accepted (told_send h a) ≡ accepted h ++ accepted_item e a
  e_accepted = accepted_more h.sends.calls h.sends.answers e a is

  pub e_shut : is_shut (told_send h a) ≡ is_shut h || (shuts a || false)
  e_shut = any-append shuts h.sends.answers (a ∷ [])

  pub e_decided : SendSideAnswer c (length (accepted h)) (is_shut h) e.known e.call a → LegalSoFar c (told_send h a)
  e_decided fits = record {
    sends = e_answer_more c 0 false h.sends.calls h.sends.answers e a legal.sends is (rw zero-add fits);
    takes = λ y.
        let takes : TakeSideAnswers (accepted h ++ accepted_item e a) (is_shut h || (shuts a || false)) 0 (of_group h y).calls (of_group h y).answers =
        d_items_more (accepted h) (accepted_item e a) (is_shut h) (shuts a || false) 0 (of_group h y).calls (of_group h y).answers (closed_none c (length (accepted h)) e.known e.call e a (is_shut h) fits) (legal.takes y) in
        rw (e_accepted, e_shut) takes;
  }

-- ---- the first take of a group that has no answer gets one

-- a history with another side of a group
pub group_mine : (h : Record) (y : ℕ) (now : Side) → y < length h.takes → of_group (with_takes h y now) y ≡ now
group_mine h y now inside = get_or-set_same h.takes y now silent inside

pub group_other : (h : Record) (y x : ℕ) (now : Side) → x ≢ y → of_group (with_takes h y now) x ≡ of_group h x
group_other h y x now ne = get_or-set_other h.takes y x now silent ne

-- a history with that answer
abbrev pub told_take : Record → ℕ → Answer → Record
told_take h y a = with_takes h y (with_answer (of_group h y) a)

module _ (c : Config) (h : Record) (legal : LegalSoFar c h) (y : ℕ) (inside : y < length h.takes) (e : Entry) (a : Answer) (is : slice_get (of_group h y).calls (length (of_group h y).answers) ≡ Some e) where
  pub d_handed : handed (told_take h y a) y ≡ handed h y ++ handed_item a
  d_handed =
      ap (λ (s : Side). handed_by s.answers) (group_mine h y (with_answer (of_group h y) a) inside)
      ∙ handed_by-append (of_group h y).answers (a ∷ []) ∙ ap (λ (l : List Item). handed h y ++ l) (append-nil (handed_item a))

  pub d_others : (x : ℕ) → x ≢ y → handed (told_take h y a) x ≡ handed h x
  d_others x ne = ap (λ (s : Side). handed_by s.answers) (group_other h y x (with_answer (of_group h y) a) ne)

  pub d_decided : TakeSideAnswer (accepted h) (is_shut h) (length (handed h y)) e.known a → LegalSoFar c (told_take h y a)
  d_decided fits = record {
    sends = legal.sends;
    takes = λ x. grind (arith, group_mine, mine, group_other, legal.takes x);
  }
    where
      Takes : ℕ → Side → Type 0
      Takes x s = TakeSideAnswers (accepted h) (is_shut h) 0 s.calls s.answers

      mine : TakeSideAnswers (accepted h) (is_shut h) 0 (of_group h y).calls ((of_group h y).answers ++ a ∷ [])
      mine = d_answer_more (accepted h) (is_shut h) 0 (of_group h y).calls (of_group h y).answers e a (legal.takes y) is (rw zero-add fits)
