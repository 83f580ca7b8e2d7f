-- The joined history of a row is legal.
use Rattle.std.proofs.Common.{◌≡◌, ℕ, zero, suc, ◌+◌, ◌<◌, ◌≤◌, Bool, true, false, ◌||◌, List, [], ◌∷◌, ◌++◌, map}
use Rattle.std.proofs.Common.{length, Option, Some, None, slice_get, refl, sym, ap, ◌∙◌, subst, arith, length-append}
use Rattle.std.proofs.Common.{append-nil, append_assoc, ⊎_elim}
use Rattle.std.specs.List.{AllByRecursion}
use Rattle.std.proofs.lemmas.List.{length-map}
use Rattle.cc_model.specs.Record.{Record, of_group}
use Rattle.cc_model.specs.Items.{IsPrefix, accepted, accepted_by, accepted_item, shuts, is_shut, handed}
use Rattle.cc_model.specs.Items.{handed_by, handed_item}
use Rattle.cc_model.specs.Legal.{Legal, SendSideAnswer, SendSideAnswers, TakeSideAnswer, TakeSideAnswers, IsSenders}
use Rattle.cc_model.proofs.Prefixes.{map-append}
use Rattle.cc_model.proofs.InOrder.{handed_front}
use Rattle.cc_joined.specs.Names.{Config, Pass, Call, Item, Entry, Answer, SendAnswer, CloseAnswer, TakeAnswer}
use Rattle.cc_joined.specs.Joined.{moved, moved_entry, reported, add_call, add_answer, calls_in, answers_in, count_of}
use Rattle.cc_joined.specs.Joined.{row_calls, row_answers, row_items, IsLegalOf, AreShut, HasGroup, AreShutFor}
use Rattle.cc_joined.specs.Joined.{AreLegalShut}
use Rattle.cc_joined.specs.Joined.{JoinedSendsAreLegal, JoinedTakesAreLegal, IsSilent, GoesInOrder, IsRow, sends_of}
use Rattle.cc_joined.specs.Joined.{takes_of, JoinedIsLegal, JoinedHandsInOrder, JoinedAccepts}

pub plus_none : (n : ℕ) → n + 0 ≡ n
plus_none n = omega arith

-- ---- the senders' side of a queue before the last one

-- nothing more is accepted: the answer stays within the row
pub stays : (wide : Config) (rc : List Entry) (ra : List Answer) (m : ℕ) → SendSideAnswers wide (m + 0) false rc ra
    → SendSideAnswers wide m false rc ra
stays wide rc ra m r = subst (λ (k : ℕ). SendSideAnswers wide k false rc ra) (plus_none m) r

on : (wide : Config) (rc : List Entry) (ra : List Answer) (b : Bool) (m : ℕ) → SendSideAnswers wide (m + 0) b rc ra
    → SendSideAnswers wide m b rc ra
on wide rc ra b m r = subst (λ (x : ℕ). SendSideAnswers wide x b rc ra) (plus_none m) r

abbrev entry : Pass → Call → ℕ → ℕ → Entry
entry pass call number known = record { pass = pass; call = call; number = number; known = known }

not_close : (cfg : Config) (n known place : ℕ) (b : Bool)
    → SendSideAnswer cfg n b known Call.Close (Answer.Send (SendAnswer.Accepted place)) → ⊥
not_close cfg n known place true k = k
not_close cfg n known place false k = k

not_take : (cfg : Config) (n known : ℕ) (t : TakeAnswer) (b : Bool) (call : Call)
    → SendSideAnswer cfg n b known call (Answer.Take t) → ⊥
not_take cfg n known t true (Call.Send body) k = k
not_take cfg n known t true Call.Close k = k
not_take cfg n known t true Call.Take k = k
not_take cfg n known t false (Call.Send body) k = k
not_take cfg n known t false Call.Close k = k
not_take cfg n known t false Call.Take k = k

module _ (wide cfg : Config) (base : ℕ) where
  -- one call, before the others
  abbrev One : (n : ℕ) → Entry → Answer → List Entry → List Answer → Type 0
  One n c a rc ra = base + n + length (accepted_item c a) ≤ wide.life
      → SendSideAnswers wide (base + n + length (accepted_item c a)) false rc ra
      → SendSideAnswers wide (base + n) false (add_call (moved_entry base c) (reported base false a) rc)
      (add_answer (reported base false a) ra)

  early_one : (n : ℕ) (b : Bool) (pass : Pass) (call : Call) (number known : ℕ) (a : Answer) → IsSenders cfg pass call
      → SendSideAnswer cfg n b known call a → (rc : List Entry) (ra : List Answer)
      → One n (entry pass call number known) a rc ra
  early_one n false (Pass.Sender s) (Call.Send body) number known (Answer.Send (SendAnswer.Accepted place)) is k rc ra
      few rest = (((λ e. absurd (omega (arith, few, e))), ap (λ (p : ℕ). base + p) k.1), rest)
  early_one n true (Pass.Sender s) (Call.Send body) number known (Answer.Send (SendAnswer.Accepted place)) is k rc ra
      few rest = absurd k
  early_one n b (Pass.Sender s) Call.Close number known (Answer.Send (SendAnswer.Accepted place)) is k rc ra few rest =
      absurd (not_close cfg n known place b k)
  early_one n b (Pass.Sender s) Call.Take number known a is k rc ra few rest = absurd is
  early_one n b (Pass.Receiver r) call number known a is k rc ra few rest = absurd is
  early_one n b (Pass.Sender s) call number known (Answer.Send SendAnswer.Full) is k rc ra few rest =
      stays wide rc ra (base + n) rest
  early_one n b (Pass.Sender s) call number known (Answer.Send SendAnswer.Closed) is k rc ra few rest =
      stays wide rc ra (base + n) rest
  early_one n b (Pass.Sender s) call number known (Answer.Send SendAnswer.Spent) is k rc ra few rest =
      stays wide rc ra (base + n) rest
  early_one n b (Pass.Sender s) call number known (Answer.Close (CloseAnswer.Shut t)) is k rc ra few rest =
      stays wide rc ra (base + n) rest
  early_one n b (Pass.Sender s) call number known (Answer.Close (CloseAnswer.Already t)) is k rc ra few rest =
      stays wide rc ra (base + n) rest
  early_one n b (Pass.Sender s) call number known (Answer.Take t) is k rc ra few rest =
      absurd (not_take cfg n known t b call k)

  pub early_step : (n : ℕ) (b : Bool) (c : Entry) (a : Answer) → IsSenders cfg c.pass c.call
      → SendSideAnswer cfg n b c.known c.call a → (rc : List Entry) (ra : List Answer) → One n c a rc ra
  early_step n b c a is k rc ra = early_one n b c.pass c.call c.number c.known a is k rc ra

  pub add_on_calls : (c : Entry) (o : Option Answer) (xs ys : List Entry)
      → add_call c o xs ++ ys ≡ add_call c o (xs ++ ys)
  add_on_calls c None xs ys = refl
  add_on_calls c (Some a) xs ys = refl

  pub add_on_answers : (o : Option Answer) (xs ys : List Answer) → add_answer o xs ++ ys ≡ add_answer o (xs ++ ys)
  add_on_answers None xs ys = refl
  add_on_answers (Some a) xs ys = refl

  early_sends : (n : ℕ) (b : Bool) (calls : List Entry) (answers : List Answer) (rc : List Entry) (ra : List Answer)
      → AllByRecursion (λ c. IsSenders cfg c.pass c.call) calls → SendSideAnswers cfg n b calls answers
      → base + n + length (accepted_by calls answers) ≤ wide.life
      → SendSideAnswers wide (base + n + length (accepted_by calls answers)) false rc ra
      → SendSideAnswers wide (base + n) false (calls_in base false calls answers ++ rc)
      (answers_in base false calls answers ++ ra)
  early_sends n b [] [] rc ra are k few rest = stays wide rc ra (base + n) rest
  early_sends n b [] (a ∷ answers) rc ra are k few rest = absurd k
  early_sends n b (c ∷ calls) [] rc ra are k few rest = stays wide rc ra (base + n) rest
  early_sends n b (c ∷ calls) (a ∷ answers) rc ra are k few rest =
      let more = length-append (accepted_item c a) (accepted_by calls answers) in
      let m : ℕ = n + length (accepted_item c a) in
      let cs : List Entry = calls_in base false calls answers ++ rc in
      let as' : List Answer = answers_in base false calls answers ++ ra in
      let later : SendSideAnswers wide (base + m) false cs as' =
      early_sends m (b || shuts a) calls answers rc ra are.1 k.1 (omega (arith, few, more))
      (subst (λ (x : ℕ). SendSideAnswers wide x false rc ra) (omega (arith, more)) rest) in
      let one = early_step n b c a are.0 k.0 cs as' (omega (arith, few, more))
      (subst (λ (x : ℕ). SendSideAnswers wide x false cs as') (omega arith) later) in
      subst (λ (z : List Entry × List Answer). SendSideAnswers wide (base + n) false z.0 z.1)
      (λ i. (
        sym (add_on_calls (moved_entry base c) (reported base false a) (calls_in base false calls answers) rc)
            i,
        sym (add_on_answers (reported base false a) (answers_in base false calls answers) ra) i,
      )) one

  -- ---- the senders' side of the last queue

  last_one : (n : ℕ) (b : Bool) (pass : Pass) (call : Call) (number known : ℕ) (a : Answer) → IsSenders cfg pass call
      → SendSideAnswer cfg n b known call a → (rc : List Entry) (ra : List Answer)
      → base + n + length (accepted_item (entry pass call number known) a) ≤ wide.life
      → SendSideAnswers wide (base + n + length (accepted_item (entry pass call number known) a)) (b || shuts a) rc
      ra
      → SendSideAnswers wide (base + n) b (add_call (moved_entry base (entry pass call number known))
      (reported base true a) rc) (add_answer (reported base true a) ra)
  last_one n false (Pass.Sender s) (Call.Send body) number known (Answer.Send (SendAnswer.Accepted place)) is k rc ra
      few rest = (((λ e. absurd (omega (arith, few, e))), ap (λ (p : ℕ). base + p) k.1), rest)
  last_one n true (Pass.Sender s) (Call.Send body) number known (Answer.Send (SendAnswer.Accepted place)) is k rc ra few
      rest = absurd k
  last_one n b (Pass.Sender s) Call.Close number known (Answer.Send (SendAnswer.Accepted place)) is k rc ra few rest =
      absurd (not_close cfg n known place b k)
  last_one n b (Pass.Sender s) Call.Take number known a is k rc ra few rest = absurd is
  last_one n b (Pass.Receiver r) call number known a is k rc ra few rest = absurd is
  last_one n true (Pass.Sender s) call number known (Answer.Send SendAnswer.Full) is k rc ra few rest =
      on wide rc ra true (base + n) rest
  last_one n false (Pass.Sender s) call number known (Answer.Send SendAnswer.Full) is k rc ra few rest =
      on wide rc ra false (base + n) rest
  last_one n true (Pass.Sender s) call number known (Answer.Send SendAnswer.Spent) is k rc ra few rest =
      on wide rc ra true (base + n) rest
  last_one n false (Pass.Sender s) call number known (Answer.Send SendAnswer.Spent) is k rc ra few rest =
      on wide rc ra false (base + n) rest
  last_one n true (Pass.Sender s) (Call.Send body) number known (Answer.Send SendAnswer.Closed) is k rc ra few rest =
      (tt, rest)
  last_one n false (Pass.Sender s) (Call.Send body) number known (Answer.Send SendAnswer.Closed) is k rc ra few rest =
      absurd k
  last_one n true (Pass.Sender s) Call.Close number known (Answer.Send SendAnswer.Closed) is k rc ra few rest = absurd k
  last_one n false (Pass.Sender s) Call.Close number known (Answer.Send SendAnswer.Closed) is k rc ra few rest =
      absurd k
  last_one n false (Pass.Sender s) Call.Close number known (Answer.Close (CloseAnswer.Shut t)) is k rc ra few rest =
      (ap (λ (p : ℕ). base + p) k, rest)
  last_one n true (Pass.Sender s) Call.Close number known (Answer.Close (CloseAnswer.Shut t)) is k rc ra few rest =
      absurd k
  last_one n false (Pass.Sender s) (Call.Send body) number known (Answer.Close (CloseAnswer.Shut t)) is k rc ra few
      rest = absurd k
  last_one n true (Pass.Sender s) (Call.Send body) number known (Answer.Close (CloseAnswer.Shut t)) is k rc ra few
      rest = absurd k
  last_one n false (Pass.Sender s) Call.Close number known (Answer.Close (CloseAnswer.Already t)) is k rc ra few rest =
      absurd k
  last_one n true (Pass.Sender s) Call.Close number known (Answer.Close (CloseAnswer.Already t)) is k rc ra few rest =
      (ap (λ (p : ℕ). base + p) k, rest)
  last_one n false (Pass.Sender s) (Call.Send body) number known (Answer.Close (CloseAnswer.Already t)) is k rc ra few
      rest = absurd k
  last_one n true (Pass.Sender s) (Call.Send body) number known (Answer.Close (CloseAnswer.Already t)) is k rc ra few
      rest = absurd k
  last_one n b (Pass.Sender s) call number known (Answer.Take t) is k rc ra few rest =
      absurd (not_take cfg n known t b call k)

  pub last_step : (n : ℕ) (b : Bool) (c : Entry) (a : Answer) → IsSenders cfg c.pass c.call
      → SendSideAnswer cfg n b c.known c.call a → (rc : List Entry) (ra : List Answer)
      → base + n + length (accepted_item c a) ≤ wide.life
      → SendSideAnswers wide (base + n + length (accepted_item c a)) (b || shuts a) rc ra
      → SendSideAnswers wide (base + n) b (add_call (moved_entry base c) (reported base true a) rc)
      (add_answer (reported base true a) ra)
  last_step n b c a is k rc ra few rest = last_one n b c.pass c.call c.number c.known a is k rc ra few rest

  last_sends : (n : ℕ) (b : Bool) (calls : List Entry) (answers : List Answer)
      → AllByRecursion (λ c. IsSenders cfg c.pass c.call) calls → SendSideAnswers cfg n b calls answers
      → base + n + length (accepted_by calls answers) ≤ wide.life
      → SendSideAnswers wide (base + n) b (calls_in base true calls answers) (answers_in base true calls answers)
  last_sends n b [] [] are k few = tt
  last_sends n b [] (a ∷ answers) are k few = absurd k
  last_sends n b (c ∷ calls) [] are k few = tt
  last_sends n b (c ∷ calls) (a ∷ answers) are k few =
      let more = length-append (accepted_item c a) (accepted_by calls answers) in
      let m : ℕ = n + length (accepted_item c a) in
      let later : SendSideAnswers wide (base + m) (b || shuts a) (calls_in base true calls answers)
      (answers_in base true calls answers) = last_sends m (b || shuts a) calls answers are.1 k.1
      (omega (arith, few, more)) in
      last_step n b c a are.0 k.0 (calls_in base true calls answers) (answers_in base true calls answers)
      (omega (arith, few, more))
      (subst (λ (x : ℕ). SendSideAnswers wide x (b || shuts a) (calls_in base true calls answers)
      (answers_in base true calls answers)) (omega arith) later)

-- ---- the senders' side of a row

row_sends : (wide cfg : Config) (base : ℕ) (early : List Record) (last : Record) → AreLegalShut early → Legal cfg last
    → base + count_of early + length (accepted last) ≤ wide.life
    → SendSideAnswers wide base false (row_calls sends_of base early last) (row_answers sends_of base early last)
row_sends wide cfg base [] last are l few =
    subst (λ (x : ℕ). SendSideAnswers wide x false (row_calls sends_of base [] last)
    (row_answers sends_of base [] last)) (plus_none base) (last_sends wide cfg base 0 false last.sends.calls
    last.sends.answers l.senders l.answers (omega (arith, few)))
row_sends wide cfg base (h ∷ early) last are l few =
    let rest = row_sends wide cfg (base + length (accepted h)) early last are.2 l (omega (arith, few)) in
    let m : ℕ = base + length (accepted h) in
    subst (λ (x : ℕ). SendSideAnswers wide x false (row_calls sends_of base (h ∷ early) last)
    (row_answers sends_of base (h ∷ early) last)) (plus_none base)
    (early_sends wide are.0.0 base 0 false h.sends.calls h.sends.answers (row_calls sends_of m early last)
    (row_answers sends_of m early last) are.0.1.senders are.0.1.answers (omega (arith, few))
    (subst (λ (x : ℕ). SendSideAnswers wide x false (row_calls sends_of m early last)
    (row_answers sends_of m early last)) (omega arith) rest))

-- ---- its items

module _ (base : ℕ) where
  pub item_one : (is_last : Bool) (pass : Pass) (call : Call) (number known : ℕ) (a : Answer) (rc : List Entry)
      (ra : List Answer)
      → accepted_by (add_call (moved_entry base (entry pass call number known)) (reported base is_last a) rc)
      (add_answer (reported base is_last a) ra) ≡ map (moved base)
      (accepted_item (entry pass call number known) a) ++ accepted_by rc ra
  item_one is_last (Pass.Sender s) (Call.Send body) number known (Answer.Send (SendAnswer.Accepted place)) rc ra = refl
  item_one is_last (Pass.Sender s) Call.Close number known (Answer.Send (SendAnswer.Accepted place)) rc ra = refl
  item_one is_last (Pass.Sender s) Call.Take number known (Answer.Send (SendAnswer.Accepted place)) rc ra = refl
  item_one is_last (Pass.Receiver s) call number known (Answer.Send (SendAnswer.Accepted place)) rc ra = refl
  item_one is_last pass call number known (Answer.Send SendAnswer.Full) rc ra = refl
  item_one is_last pass call number known (Answer.Send SendAnswer.Spent) rc ra = refl
  item_one true pass call number known (Answer.Send SendAnswer.Closed) rc ra = refl
  item_one false pass call number known (Answer.Send SendAnswer.Closed) rc ra = refl
  item_one true pass call number known (Answer.Close (CloseAnswer.Shut t)) rc ra = refl
  item_one true pass call number known (Answer.Close (CloseAnswer.Already t)) rc ra = refl
  item_one false pass call number known (Answer.Close t) rc ra = refl
  item_one is_last pass call number known (Answer.Take (TakeAnswer.Got item)) rc ra = refl
  item_one is_last pass call number known (Answer.Take TakeAnswer.Empty) rc ra = refl
  item_one true pass call number known (Answer.Take (TakeAnswer.Ended t)) rc ra = refl
  item_one false pass call number known (Answer.Take (TakeAnswer.Ended t)) rc ra = refl

  items_in : (is_last : Bool) (calls : List Entry) (answers : List Answer) (rc : List Entry) (ra : List Answer)
      → accepted_by (calls_in base is_last calls answers ++ rc) (answers_in base is_last calls answers ++ ra) ≡ map
      (moved base) (accepted_by calls answers) ++ accepted_by rc ra
  items_in is_last [] answers rc ra = refl
  items_in is_last (c ∷ calls) [] rc ra = refl
  items_in is_last (c ∷ calls) (a ∷ answers) rc ra =
      let cs : List Entry = calls_in base is_last calls answers in
      let as' : List Answer = answers_in base is_last calls answers in
      ap (λ (z : List Entry × List Answer). accepted_by z.0 z.1)
      (λ i. (
        added_calls (moved_entry base c) (reported base is_last a) cs rc i,
        added_answers (reported base is_last a) as' ra i,
      ))
      ∙ (item_one is_last c.pass c.call c.number c.known a (cs ++ rc) (as' ++ ra)
      ∙ (ap (λ (l : List Item). map (moved base) (accepted_item c a) ++ l) (items_in is_last calls answers rc ra)
      ∙ (sym (append_assoc (map (moved base) (accepted_item c a)) (map (moved base) (accepted_by calls answers))
      (accepted_by rc ra))
      ∙ ap (λ (l : List Item). l ++ accepted_by rc ra)
      (sym (map-append (moved base) (accepted_item c a) (accepted_by calls answers))))))
    where
      added_calls : (e : Entry) (o : Option Answer) (xs ys : List Entry)
          → add_call e o xs ++ ys ≡ add_call e o (xs ++ ys)
      added_calls e None xs ys = refl
      added_calls e (Some x) xs ys = refl

      added_answers : (o : Option Answer) (xs ys : List Answer) → add_answer o xs ++ ys ≡ add_answer o (xs ++ ys)
      added_answers None xs ys = refl
      added_answers (Some x) xs ys = refl

row_accepts : (base : ℕ) (early : List Record) (last : Record)
    → accepted_by (row_calls sends_of base early last) (row_answers sends_of base early last) ≡ row_items base early
    last
row_accepts base [] last =
    let cs : List Entry = calls_in base true last.sends.calls last.sends.answers in
    let as' : List Answer = answers_in base true last.sends.calls last.sends.answers in
    ap (λ (z : List Entry × List Answer). accepted_by z.0 z.1) (λ i. (sym (append-nil cs) i, sym (append-nil as') i))
    ∙ (items_in base true last.sends.calls last.sends.answers [] [] ∙ append-nil (map (moved base) (accepted last)))
row_accepts base (h ∷ early) last =
    let m : ℕ = base + length (accepted h) in
    items_in base false h.sends.calls h.sends.answers (row_calls sends_of m early last)
    (row_answers sends_of m early last) ∙ ap (λ (l : List Item). map (moved base) (accepted h) ++ l)
    (row_accepts m early last)

-- ---- the side of a group

-- each item of the rest is an item of the row, at its place
abbrev Holds : (items : List Item) (base : ℕ) → List Item → Type 0
Holds items base rest = (p : ℕ) (x : Item) → slice_get rest p ≡ Some x → slice_get items (base + p) ≡ Some x

get_front : (f : Item → Item) (xs ys : List Item) (p : ℕ) (x : Item) → slice_get xs p ≡ Some x
    → slice_get (map f xs ++ ys) p ≡ Some (f x)
get_front f [] ys p x is = absurd (none_some is)
  where
    none_some : {X : Type 0} {y : X} → ◌≡◌ {A = Option X} None (Some y) → ⊥
    none_some e = cc
get_front f (z ∷ xs) ys zero x is = ap (λ (o : Option Item). mapped o) is
  where
    mapped : Option Item → Option Item
    mapped None = None
    mapped (Some y) = Some (f y)
get_front f (z ∷ xs) ys (suc p) x is = get_front f xs ys p x is

get_behind : (xs ys : List Item) (p : ℕ) → slice_get (xs ++ ys) (length xs + p) ≡ slice_get ys p
get_behind [] ys p = ap (λ (n : ℕ). slice_get ys n) (none_before p)
  where
    none_before : (p : ℕ) → 0 + p ≡ p
    none_before p = omega arith
get_behind (x ∷ xs) ys p = ap (λ (n : ℕ). slice_get (x ∷ (xs ++ ys)) n) (one_more (length xs) p) ∙ get_behind xs ys p
  where
    one_more : (n p : ℕ) → suc n + p ≡ suc (n + p)
    one_more n p = omega arith

module _ (items : List Item) (shut : Bool) (base : ℕ) where
  -- the items of this queue are those of the row from its base on
  abbrev Lies : List Item → Type 0
  Lies own = (p : ℕ) (x : Item) → slice_get own p ≡ Some x → slice_get items (base + p) ≡ Some (moved base x)

  on_takes : (rc : List Entry) (ra : List Answer) (m : ℕ) → TakeSideAnswers items shut (m + 0) rc ra
      → TakeSideAnswers items shut m rc ra
  on_takes rc ra m r = subst (λ (x : ℕ). TakeSideAnswers items shut x rc ra) (plus_none m) r

  take_one : (own : List Item) (sh : Bool) (n : ℕ) → Lies own → (c : Entry) (a : Answer)
      → TakeSideAnswer own sh n c.known a → (rc : List Entry) (ra : List Answer)
      → TakeSideAnswers items shut (base + n + length (handed_item a)) rc ra
      → TakeSideAnswers items shut (base + n) (add_call (moved_entry base c) (reported base false a) rc)
      (add_answer (reported base false a) ra)
  take_one own sh n lies c (Answer.Take (TakeAnswer.Got item)) k rc ra rest =
      ((lies n item k.0, ap (λ (p : ℕ). base + p) k.1), rest)
  take_one own sh n lies c (Answer.Take TakeAnswer.Empty) k rc ra rest = (omega (arith, k), rest)
  take_one own sh n lies c (Answer.Take (TakeAnswer.Ended t)) k rc ra rest = on_takes rc ra (base + n) rest
  take_one own sh n lies c (Answer.Send a) k rc ra rest = absurd k
  take_one own sh n lies c (Answer.Close a) k rc ra rest = absurd k

  early_takes : (own : List Item) (sh : Bool) → Lies own → (n : ℕ) (calls : List Entry) (answers : List Answer)
      → TakeSideAnswers own sh n calls answers → (rc : List Entry) (ra : List Answer)
      → TakeSideAnswers items shut (base + n + length (handed_by answers)) rc ra
      → TakeSideAnswers items shut (base + n) (calls_in base false calls answers ++ rc)
      (answers_in base false calls answers ++ ra)
  early_takes own sh lies n [] [] k rc ra rest = on_takes rc ra (base + n) rest
  early_takes own sh lies n [] (a ∷ answers) k rc ra rest = absurd k
  early_takes own sh lies n (c ∷ calls) [] k rc ra rest = on_takes rc ra (base + n) rest
  early_takes own sh lies n (c ∷ calls) (a ∷ answers) k rc ra rest =
      let more = length-append (handed_item a) (handed_by answers) in
      let m : ℕ = n + length (handed_item a) in
      let cs : List Entry = calls_in base false calls answers ++ rc in
      let as' : List Answer = answers_in base false calls answers ++ ra in
      let later : TakeSideAnswers items shut (base + m) cs as' = early_takes own sh lies m calls answers k.1 rc ra
      (subst (λ (x : ℕ). TakeSideAnswers items shut x rc ra) (omega (arith, more)) rest) in
      let one = take_one own sh n lies c a k.0 cs as' (subst (λ (x : ℕ). TakeSideAnswers items shut x cs as')
      (omega arith) later) in
      subst (λ (z : List Entry × List Answer). TakeSideAnswers items shut (base + n) z.0 z.1)
      (λ i. (
        back_calls (moved_entry base c) (reported base false a) (calls_in base false calls answers) rc i,
        back_answers (reported base false a) (answers_in base false calls answers) ra i,
      )) one
    where
      back_calls : (e : Entry) (o : Option Answer) (xs ys : List Entry)
          → add_call e o (xs ++ ys) ≡ add_call e o xs ++ ys
      back_calls e None xs ys = refl
      back_calls e (Some x) xs ys = refl

      back_answers : (o : Option Answer) (xs ys : List Answer) → add_answer o (xs ++ ys) ≡ add_answer o xs ++ ys
      back_answers None xs ys = refl
      back_answers (Some x) xs ys = refl

  last_take : (own : List Item) (n : ℕ) → Lies own → length items ≡ base + length own → (c : Entry) (a : Answer)
      → TakeSideAnswer own shut n c.known a → (rc : List Entry) (ra : List Answer)
      → TakeSideAnswers items shut (base + n + length (handed_item a)) rc ra
      → TakeSideAnswers items shut (base + n) (add_call (moved_entry base c) (reported base true a) rc)
      (add_answer (reported base true a) ra)
  last_take own n lies long c (Answer.Take (TakeAnswer.Got item)) k rc ra rest =
      ((lies n item k.0, ap (λ (p : ℕ). base + p) k.1), rest)
  last_take own n lies long c (Answer.Take TakeAnswer.Empty) k rc ra rest = (omega (arith, k), rest)
  last_take own n lies long c (Answer.Take (TakeAnswer.Ended t)) k rc ra rest =
      ((k.0, ap (λ (p : ℕ). base + p) k.1, ap (λ (p : ℕ). base + p) k.2 ∙ sym long), rest)
  last_take own n lies long c (Answer.Send a) k rc ra rest = absurd k
  last_take own n lies long c (Answer.Close a) k rc ra rest = absurd k

  last_takes : (own : List Item) → Lies own → length items ≡ base + length own
      → (n : ℕ) (calls : List Entry) (answers : List Answer) → TakeSideAnswers own shut n calls answers
      → TakeSideAnswers items shut (base + n) (calls_in base true calls answers) (answers_in base true calls answers)
  last_takes own lies long n [] [] k = tt
  last_takes own lies long n [] (a ∷ answers) k = absurd k
  last_takes own lies long n (c ∷ calls) [] k = tt
  last_takes own lies long n (c ∷ calls) (a ∷ answers) k =
      let m : ℕ = n + length (handed_item a) in
      let later : TakeSideAnswers items shut (base + m) (calls_in base true calls answers)
      (answers_in base true calls answers) = last_takes own lies long m calls answers k.1 in
      last_take own n lies long c a k.0 (calls_in base true calls answers) (answers_in base true calls answers)
      (subst (λ (x : ℕ). TakeSideAnswers items shut x (calls_in base true calls answers)
      (answers_in base true calls answers)) (omega arith) later)

no_answers : (base : ℕ) (b : Bool) (calls : List Entry) (answers : List Answer) → answers ≡ []
    → answers_in base b calls answers ≡ []
no_answers base b calls answers is = ap (answers_in base b calls) is ∙ none calls
  where
    none : (calls : List Entry) → answers_in base b calls [] ≡ []
    none [] = refl
    none (c ∷ calls) = refl

silent : (g base : ℕ) (early : List Record) (last : Record) → IsSilent g early last
    → row_answers (takes_of g) base early last ≡ []
silent g base [] last is = no_answers base true (of_group last g).calls (of_group last g).answers is
silent g base (h ∷ early) last is =
    ap (λ (l : List Answer). l ++ row_answers (takes_of g) (base + length (accepted h)) early last)
    (no_answers base false (of_group h g).calls (of_group h g).answers is.0)
    ∙ silent g (base + length (accepted h)) early last is.1

row_takes : (items : List Item) (g base : ℕ) (early : List Record) (last : Record)
    → AreShutFor g early → HasGroup g last → GoesInOrder g early last
    → Holds items base (row_items base early last) → length items ≡ base + length (row_items base early last)
    → TakeSideAnswers items (is_shut last) base (row_calls (takes_of g) base early last)
    (row_answers (takes_of g) base early last)
row_takes items g base [] last are l goes holds long =
    let legal = l.legal.takes g l.has in
    subst (λ (x : ℕ). TakeSideAnswers items (is_shut last) x (row_calls (takes_of g) base [] last)
    (row_answers (takes_of g) base [] last)) (plus_none base)
    (last_takes items (is_shut last) base (accepted last)
    (λ p x is. holds p (moved base x) (subst (λ (l : List Item). slice_get l p ≡ Some (moved base x))
    (append-nil (map (moved base) (accepted last))) (get_front (moved base) (accepted last) [] p x is)))
    (long ∙ ap (λ (n : ℕ). base + n) (length-map (accepted last) (moved base))) 0 (of_group last g).calls
    (of_group last g).answers legal.answers)
row_takes items g base (h ∷ early) last are l goes holds long =
    let m : ℕ = base + length (accepted h) in
    let legal = are.0.legal.takes g are.0.has in
    let rest : List Item = row_items m early last in
    let own_long = length-append (map (moved base) (accepted h)) rest in
    let own_map = length-map (accepted h) (moved base) in
    let cs : List Entry = row_calls (takes_of g) m early last in
    let as' : List Answer = row_answers (takes_of g) m early last in
    let further : TakeSideAnswers items (is_shut last) (base + 0 + length (handed h g)) cs as' = ⊎_elim
    (λ t. subst (λ (x : ℕ). TakeSideAnswers items (is_shut last) x cs as') (let e = t.0 in omega (arith, e))
    (row_takes items g m early last are.2 l t.1
    (λ p x is. subst (λ (k : ℕ). slice_get items k ≡ Some x) (omega (arith, own_map))
    (holds (length (map (moved base) (accepted h)) + p) x (get_behind (map (moved base) (accepted h)) rest p
    ∙ is)))
    (omega (arith, long, own_long, own_map))))
    (λ none. subst (λ (l : List Answer). TakeSideAnswers items (is_shut last) (base + 0 + length (handed h g)) cs l)
    (sym (silent g m early last none)) tt)
    goes in
    subst (λ (x : ℕ). TakeSideAnswers items (is_shut last) x (row_calls (takes_of g) base (h ∷ early) last)
    (row_answers (takes_of g) base (h ∷ early) last)) (plus_none base)
    (early_takes items (is_shut last) base (accepted h) (is_shut h)
    (λ p x is. holds p (moved base x) (get_front (moved base) (accepted h) rest p x is)) 0 (of_group h g).calls
    (of_group h g).answers legal.answers cs as' further)

-- ---- the laws

from_zero : (items : List Item) → Holds items 0 items
from_zero items p x is = subst (λ (k : ℕ). slice_get items k ≡ Some x) (same p) is
  where
    same : (p : ℕ) → p ≡ 0 + p
    same p = omega arith

-- a history of that many groups has each of them
has_group : (groups g : ℕ) (h : Record) → g < groups → IsLegalOf groups h → HasGroup g h
has_group groups g h few l = record { config = l.config; legal = l.legal; has = omega (arith, few, l.groups_are) }

have_group : (groups g : ℕ) (early : List Record) → g < groups → AreShut groups early → AreShutFor g early
have_group groups g [] few are = tt
have_group groups g (h ∷ early) few are =
    (has_group groups g h few are.0, are.1, have_group groups g early few are.2)

takes_at : (groups : ℕ) (early : List Record) (last : Record) → IsRow groups early last → (g : ℕ) → g < groups
    → TakeSideAnswers (row_items 0 early last) (is_shut last) 0 (row_calls (takes_of g) 0 early last)
    (row_answers (takes_of g) 0 early last)
takes_at groups early last row g few = row_takes (row_items 0 early last) g 0 early last
    (have_group groups g early few row.shut) (has_group groups g last few row.last_legal)
    (row.in_order g few) (from_zero (row_items 0 early last)) (omega arith)

pub are_legal : (groups : ℕ) (early : List Record) → AreShut groups early → AreLegalShut early
are_legal groups [] are = tt
are_legal groups (h ∷ early) are = ((are.0.config, are.0.legal), are.1, are_legal groups early are.2)

pub joined_sends : JoinedSendsAreLegal
joined_sends wide cfg early last are l few = row_sends wide cfg 0 early last are l (omega (arith, few))

pub joined_takes : JoinedTakesAreLegal
joined_takes g early last are l goes =
    let takes = row_takes (row_items 0 early last) g 0 early last are l goes
    (from_zero (row_items 0 early last)) (omega arith) in (
      takes,
      handed_front (row_items 0 early last) (is_shut last) 0 (row_calls (takes_of g) 0 early last)
          (row_answers (takes_of g) 0 early last) takes,
    )

-- of a row of that many groups
pub group_takes : (groups g : ℕ) (early : List Record) (last : Record) → g < groups → AreShut groups early
    → IsLegalOf groups last → GoesInOrder g early last
    → TakeSideAnswers (row_items 0 early last) (is_shut last) 0 (row_calls (takes_of g) 0 early last)
    (row_answers (takes_of g) 0 early last)
    × IsPrefix (handed_by (row_answers (takes_of g) 0 early last)) (row_items 0 early last)
group_takes groups g early last few are l goes =
    joined_takes g early last (have_group groups g early few are) (has_group groups g last few l) goes

pub joined_is_legal : JoinedIsLegal
joined_is_legal groups wide early last row few = record {
  sends = row_sends wide row.last_legal.config 0 early last (are_legal groups early row.shut) row.last_legal.legal
      (omega (arith, few));
  takes = takes_at groups early last row;
}

pub joined_hands_in_order : JoinedHandsInOrder
joined_hands_in_order groups early last row g few = handed_front (row_items 0 early last) (is_shut last) 0
    (row_calls (takes_of g) 0 early last) (row_answers (takes_of g) 0 early last) (takes_at groups early last row g few)

pub joined_accepts : JoinedAccepts
joined_accepts groups early last row = row_accepts 0 early last
