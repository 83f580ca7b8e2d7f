-- The joined history of a row with a bound is that of one queue with this capacity.
use Rattle.std.proofs.Common.{◌≡◌, inl, inr, ℕ, ◌+◌, ◌<◌, ◌≤◌, Bool, true, false, ◌||◌, List, [], ◌∷◌, ◌++◌, map}
use Rattle.std.proofs.Common.{length, Option, Some, None, refl, sym, ap, ◌∙◌, subst, arith, length-append, append-nil}
use Rattle.std.proofs.Common.{append_assoc, ⊎_elim}
use Rattle.std.specs.List.{AllByRecursion}
use Rattle.std.proofs.lemmas.List.{length-map}
use Rattle.cc_model.specs.Record.{Record, of_group}
use Rattle.cc_model.specs.Items.{accepted, accepted_by, accepted_item, shuts, is_shut, handed, handed_by, handed_item}
use Rattle.cc_model.specs.Legal.{SendSideAnswer, SendSideAnswers, TakeSideAnswer, TakeSideAnswers, IsSenders}
use Rattle.cc_model.proofs.Prefixes.{map-append}
use Rattle.cc_joined.specs.Names.{Config, Pass, Call, Item, Entry, Answer, SendAnswer, TakeAnswer}
use Rattle.cc_joined.specs.Joined.{moved, moved_entry, reported, add_call, add_answer, answers_in, count_of}
use Rattle.cc_joined.specs.Joined.{row_answers, row_items, IsLegalOf, AreShut, takes_of}
use Rattle.cc_joined.specs.Bounded.{told, sends_in, told_in, bound_calls, bound_answers, IsBoundedOf, AreBounded}
use Rattle.cc_joined.specs.Bounded.{handed_of, HasRoom, BoundedIsLegal, BoundedSendsAreLegal, BoundedHasRoom}
use Rattle.cc_joined.specs.Bounded.{FullOfTheLastIsRight, HandedAreCounted, WaitingIsEnough}
use Rattle.cc_joined.proofs.Joined.{plus_none, stays, early_step, last_step, add_on_calls, add_on_answers, item_one}
use Rattle.cc_joined.proofs.Joined.{group_takes}

-- ---- the sends

module _ (one cfg : Config) (base : ℕ) (same : cfg.capacity ≡ one.capacity) where
  abbrev entry : Pass → Call → ℕ → ℕ → Entry
  entry pass call number known = record { pass = pass; call = call; number = number; known = known }

  full : (n : ℕ) (b : Bool) (pass : Pass) (call : Call) (number known : ℕ) → IsSenders cfg pass call
      → SendSideAnswer cfg n b known call (Answer.Send SendAnswer.Full) → (rc : List Entry) (ra : List Answer)
      → base + n < one.life → SendSideAnswers one (base + n + 0) b rc ra
      → (b ≡ false) × SendSideAnswers one (base + n) b (moved_entry base (entry pass call number known) ∷ rc)
      (Answer.Send SendAnswer.Full ∷ ra)
  full n false (Pass.Sender s) (Call.Send body) number known is k rc ra few rest = let within = k.1 in
      (refl, (((λ e. absurd (omega (arith, few, e))), omega (arith, within, same)), rest))
  full n true (Pass.Sender s) (Call.Send body) number known is k rc ra few rest = absurd k
  full n false (Pass.Sender s) Call.Close number known is k rc ra few rest = absurd k
  full n true (Pass.Sender s) Call.Close number known is k rc ra few rest = absurd k
  full n b (Pass.Sender s) Call.Take number known is k rc ra few rest = absurd is
  full n b (Pass.Receiver r) call number known is k rc ra few rest = absurd is

  -- of a queue before the last one, or of the last one
  full_early : (n : ℕ) (b : Bool) (pass : Pass) (call : Call) (number known : ℕ) → IsSenders cfg pass call
      → SendSideAnswer cfg n b known call (Answer.Send SendAnswer.Full) → (rc : List Entry) (ra : List Answer)
      → base + n < one.life → SendSideAnswers one (base + n + 0) false rc ra
      → SendSideAnswers one (base + n) false (moved_entry base (entry pass call number known) ∷ rc)
      (Answer.Send SendAnswer.Full ∷ ra)
  full_early n false (Pass.Sender s) (Call.Send body) number known is k rc ra few rest = let within = k.1 in
      (((λ e. absurd (omega (arith, few, e))), omega (arith, within, same)), rest)
  full_early n true (Pass.Sender s) (Call.Send body) number known is k rc ra few rest = absurd k
  full_early n false (Pass.Sender s) Call.Close number known is k rc ra few rest = absurd k
  full_early n true (Pass.Sender s) Call.Close number known is k rc ra few rest = absurd k
  full_early n b (Pass.Sender s) Call.Take number known is k rc ra few rest = absurd is
  full_early n b (Pass.Receiver r) call number known is k rc ra few rest = absurd is

  early_told : (n : ℕ) (b : Bool) (c : Entry) (a : Answer) → IsSenders cfg c.pass c.call
      → SendSideAnswer cfg n b c.known c.call a → (rc : List Entry) (ra : List Answer)
      → base + n + length (accepted_item c a) < one.life
      → SendSideAnswers one (base + n + length (accepted_item c a)) false rc ra
      → SendSideAnswers one (base + n) false (add_call (moved_entry base c) (told base false a) rc)
      (add_answer (told base false a) ra)
  early_told n b c (Answer.Send SendAnswer.Full) is k rc ra few rest = full_early n b c.pass c.call c.number c.known is
      k rc ra (omega (arith, few)) rest
  early_told n b c (Answer.Send (SendAnswer.Accepted place)) is k rc ra few rest = early_step one cfg base n b c
      (Answer.Send (SendAnswer.Accepted place)) is k rc ra (omega (arith, few)) rest
  early_told n b c (Answer.Send SendAnswer.Closed) is k rc ra few rest = early_step one cfg base n b c
      (Answer.Send SendAnswer.Closed) is k rc ra (omega (arith, few)) rest
  early_told n b c (Answer.Send SendAnswer.Spent) is k rc ra few rest = early_step one cfg base n b c
      (Answer.Send SendAnswer.Spent) is k rc ra (omega (arith, few)) rest
  early_told n b c (Answer.Close a) is k rc ra few rest = early_step one cfg base n b c (Answer.Close a) is k rc ra
      (omega (arith, few)) rest
  early_told n b c (Answer.Take a) is k rc ra few rest = early_step one cfg base n b c (Answer.Take a) is k rc ra
      (omega (arith, few)) rest

  last_told : (n : ℕ) (b : Bool) (c : Entry) (a : Answer) → IsSenders cfg c.pass c.call
      → SendSideAnswer cfg n b c.known c.call a → (rc : List Entry) (ra : List Answer)
      → base + n + length (accepted_item c a) < one.life
      → SendSideAnswers one (base + n + length (accepted_item c a)) (b || shuts a) rc ra
      → SendSideAnswers one (base + n) b (add_call (moved_entry base c) (told base true a) rc)
      (add_answer (told base true a) ra)
  last_told n true c (Answer.Send SendAnswer.Full) is k rc ra few rest =
      (full n true c.pass c.call c.number c.known is k rc ra (omega (arith, few)) rest).1
  last_told n false c (Answer.Send SendAnswer.Full) is k rc ra few rest =
      (full n false c.pass c.call c.number c.known is k rc ra (omega (arith, few)) rest).1
  last_told n b c (Answer.Send (SendAnswer.Accepted place)) is k rc ra few rest = last_step one cfg base n b c
      (Answer.Send (SendAnswer.Accepted place)) is k rc ra (omega (arith, few)) rest
  last_told n b c (Answer.Send SendAnswer.Closed) is k rc ra few rest = last_step one cfg base n b c
      (Answer.Send SendAnswer.Closed) is k rc ra (omega (arith, few)) rest
  last_told n b c (Answer.Send SendAnswer.Spent) is k rc ra few rest = last_step one cfg base n b c
      (Answer.Send SendAnswer.Spent) is k rc ra (omega (arith, few)) rest
  last_told n b c (Answer.Close a) is k rc ra few rest = last_step one cfg base n b c (Answer.Close a) is k rc ra
      (omega (arith, few)) rest
  last_told n b c (Answer.Take a) is k rc ra few rest = last_step one cfg base n b c (Answer.Take a) is k rc ra
      (omega (arith, few)) rest

  early_sends : (n : ℕ) (b : Bool) (calls : List Entry) (answers : List Answer) (rc : List Entry) (ra : List Answer)
      → AllByRecursion (λ c. IsSenders cfg c.pass c.call) calls → SendSideAnswers cfg n b calls answers
      → base + n + length (accepted_by calls answers) < one.life
      → SendSideAnswers one (base + n + length (accepted_by calls answers)) false rc ra
      → SendSideAnswers one (base + n) false (sends_in base false calls answers ++ rc)
      (told_in base false calls answers ++ ra)
  early_sends n b [] [] rc ra are k few rest = stays one rc ra (base + n) rest
  early_sends n b [] (a ∷ answers) rc ra are k few rest = absurd k
  early_sends n b (c ∷ calls) [] rc ra are k few rest = stays one rc ra (base + n) rest
  early_sends n b (c ∷ calls) (a ∷ answers) rc ra are k few rest =
      let more = length-append (accepted_item c a) (accepted_by calls answers) in
      let m : ℕ = n + length (accepted_item c a) in
      let cs : List Entry = sends_in base false calls answers ++ rc in
      let as' : List Answer = told_in base false calls answers ++ ra in
      let later : SendSideAnswers one (base + m) false cs as' =
      early_sends m (b || shuts a) calls answers rc ra are.1 k.1 (omega (arith, few, more))
      (subst (λ (x : ℕ). SendSideAnswers one x false rc ra) (omega (arith, more)) rest) in
      let one_more = early_told n b c a are.0 k.0 cs as' (omega (arith, few, more))
      (subst (λ (x : ℕ). SendSideAnswers one x false cs as') (omega arith) later) in
      subst (λ (z : List Entry × List Answer). SendSideAnswers one (base + n) false z.0 z.1)
      (λ i. (
        sym (add_on_calls one cfg base (moved_entry base c) (told base false a)
            (sends_in base false calls answers) rc) i,
        sym (add_on_answers one cfg base (told base false a) (told_in base false calls answers) ra) i,
      )) one_more

  last_sends : (n : ℕ) (b : Bool) (calls : List Entry) (answers : List Answer)
      → AllByRecursion (λ c. IsSenders cfg c.pass c.call) calls → SendSideAnswers cfg n b calls answers
      → base + n + length (accepted_by calls answers) < one.life
      → SendSideAnswers one (base + n) b (sends_in base true calls answers) (told_in base true calls answers)
  last_sends n b [] [] are k few = tt
  last_sends n b [] (a ∷ answers) are k few = absurd k
  last_sends n b (c ∷ calls) [] are k few = tt
  last_sends n b (c ∷ calls) (a ∷ answers) are k few =
      let more = length-append (accepted_item c a) (accepted_by calls answers) in
      let m : ℕ = n + length (accepted_item c a) in
      let later : SendSideAnswers one (base + m) (b || shuts a) (sends_in base true calls answers)
      (told_in base true calls answers) = last_sends m (b || shuts a) calls answers are.1 k.1
      (omega (arith, few, more)) in
      last_told n b c a are.0 k.0 (sends_in base true calls answers) (told_in base true calls answers)
      (omega (arith, few, more))
      (subst (λ (x : ℕ). SendSideAnswers one x (b || shuts a) (sends_in base true calls answers)
      (told_in base true calls answers)) (omega arith) later)

row_sends : (groups : ℕ) (one : Config) (base : ℕ) (early : List Record) (last : Record)
    → AreBounded groups one.capacity early → IsBoundedOf groups one.capacity last
    → base + count_of early + length (accepted last) < one.life
    → SendSideAnswers one base false (bound_calls base early last) (bound_answers base early last)
row_sends groups one base [] last are l few =
    subst (λ (x : ℕ). SendSideAnswers one x false (bound_calls base [] last) (bound_answers base [] last))
    (plus_none base)
    (last_sends one l.of.config base l.capacity_is 0 false last.sends.calls last.sends.answers l.of.legal.senders
    l.of.legal.answers (omega (arith, few)))
row_sends groups one base (h ∷ early) last are l few =
    let m : ℕ = base + length (accepted h) in
    let rest = row_sends groups one m early last are.2 l (omega (arith, few)) in
    subst (λ (x : ℕ). SendSideAnswers one x false (bound_calls base (h ∷ early) last)
    (bound_answers base (h ∷ early) last)) (plus_none base)
    (early_sends one are.0.of.config base are.0.capacity_is 0 false h.sends.calls h.sends.answers
    (bound_calls m early last) (bound_answers m early last) are.0.of.legal.senders are.0.of.legal.answers
    (omega (arith, few))
    (subst (λ (x : ℕ). SendSideAnswers one x false (bound_calls m early last) (bound_answers m early last))
    (omega arith) rest))

-- ---- their items

added_calls : (e : Entry) (o : Option Answer) (xs ys : List Entry) → add_call e o xs ++ ys ≡ add_call e o (xs ++ ys)
added_calls e None xs ys = refl
added_calls e (Some x) xs ys = refl

added_answers : (o : Option Answer) (xs ys : List Answer) → add_answer o xs ++ ys ≡ add_answer o (xs ++ ys)
added_answers None xs ys = refl
added_answers (Some x) xs ys = refl

module _ (base : ℕ) where
  told_item : (is_last : Bool) (c : Entry) (a : Answer) (rc : List Entry) (ra : List Answer)
      → accepted_by (add_call (moved_entry base c) (told base is_last a) rc) (add_answer (told base is_last a) ra) ≡ map
      (moved base) (accepted_item c a) ++ accepted_by rc ra
  told_item is_last c (Answer.Send SendAnswer.Full) rc ra = refl
  told_item is_last c (Answer.Send (SendAnswer.Accepted place)) rc ra = item_one base is_last c.pass c.call c.number
      c.known (Answer.Send (SendAnswer.Accepted place)) rc ra
  told_item is_last c (Answer.Send SendAnswer.Closed) rc ra = item_one base is_last c.pass c.call c.number c.known
      (Answer.Send SendAnswer.Closed) rc ra
  told_item is_last c (Answer.Send SendAnswer.Spent) rc ra = item_one base is_last c.pass c.call c.number c.known
      (Answer.Send SendAnswer.Spent) rc ra
  told_item is_last c (Answer.Close a) rc ra = item_one base is_last c.pass c.call c.number c.known (Answer.Close a) rc
      ra
  told_item is_last c (Answer.Take a) rc ra = item_one base is_last c.pass c.call c.number c.known (Answer.Take a) rc ra

  items_in : (is_last : Bool) (calls : List Entry) (answers : List Answer) (rc : List Entry) (ra : List Answer)
      → accepted_by (sends_in base is_last calls answers ++ rc) (told_in base is_last calls answers ++ ra) ≡ map
      (moved base) (accepted_by calls answers) ++ accepted_by rc ra
  items_in is_last [] answers rc ra = refl
  items_in is_last (c ∷ calls) [] rc ra = refl
  items_in is_last (c ∷ calls) (a ∷ answers) rc ra =
      let cs : List Entry = sends_in base is_last calls answers in
      let as' : List Answer = told_in base is_last calls answers in
      ap (λ (z : List Entry × List Answer). accepted_by z.0 z.1)
      (λ i. (
        added_calls (moved_entry base c) (told base is_last a) cs rc i,
        added_answers (told base is_last a) as' ra i,
      ))
      ∙ (told_item is_last c a (cs ++ rc) (as' ++ ra)
      ∙ (ap (λ (l : List Item). map (moved base) (accepted_item c a) ++ l) (items_in is_last calls answers rc ra)
      ∙ (sym (append_assoc (map (moved base) (accepted_item c a)) (map (moved base) (accepted_by calls answers))
      (accepted_by rc ra))
      ∙ ap (λ (l : List Item). l ++ accepted_by rc ra)
      (sym (map-append (moved base) (accepted_item c a) (accepted_by calls answers))))))

row_accepts : (base : ℕ) (early : List Record) (last : Record)
    → accepted_by (bound_calls base early last) (bound_answers base early last) ≡ row_items base early last
row_accepts base [] last =
    let cs : List Entry = sends_in base true last.sends.calls last.sends.answers in
    let as' : List Answer = told_in base true last.sends.calls last.sends.answers in
    ap (λ (z : List Entry × List Answer). accepted_by z.0 z.1) (λ i. (sym (append-nil cs) i, sym (append-nil as') i))
    ∙ (items_in base true last.sends.calls last.sends.answers [] [] ∙ append-nil (map (moved base) (accepted last)))
row_accepts base (h ∷ early) last =
    let m : ℕ = base + length (accepted h) in
    items_in base false h.sends.calls h.sends.answers (bound_calls m early last) (bound_answers m early last)
    ∙ ap (λ (l : List Item). map (moved base) (accepted h) ++ l) (row_accepts m early last)

items_count : (base : ℕ) (early : List Record) (last : Record)
    → length (row_items base early last) ≡ count_of early + length (accepted last)
items_count base [] last = let own = length-map (accepted last) (moved base) in omega (arith, own)
items_count base (h ∷ early) last =
    let m : ℕ = base + length (accepted h) in
    let parts = length-append (map (moved base) (accepted h)) (row_items m early last) in
    let own = length-map (accepted h) (moved base) in let rest = items_count m early last in
    omega (arith, parts, own, rest)

-- ---- what was handed out

module _ (base : ℕ) (own : List Item) (sh : Bool) where
  handed_one : (is_last : Bool) (n known : ℕ) (a : Answer) → TakeSideAnswer own sh n known a → (ra : List Answer)
      → length (handed_by (add_answer (reported base is_last a) ra)) ≡ length (handed_item a) + length (handed_by ra)
  handed_one is_last n known (Answer.Take (TakeAnswer.Got item)) k ra = omega arith
  handed_one is_last n known (Answer.Take TakeAnswer.Empty) k ra = omega arith
  handed_one true n known (Answer.Take (TakeAnswer.Ended t)) k ra = omega arith
  handed_one false n known (Answer.Take (TakeAnswer.Ended t)) k ra = omega arith
  handed_one is_last n known (Answer.Send a) k ra = absurd k
  handed_one is_last n known (Answer.Close a) k ra = absurd k

  handed_in : (is_last : Bool) (n : ℕ) (calls : List Entry) (answers : List Answer)
      → TakeSideAnswers own sh n calls answers → (ra : List Answer)
      → length (handed_by (answers_in base is_last calls answers ++ ra)) ≡ length (handed_by answers) + length
      (handed_by ra)
  handed_in is_last n [] [] k ra = omega arith
  handed_in is_last n [] (a ∷ answers) k ra = absurd k
  handed_in is_last n (c ∷ calls) [] k ra = omega arith
  handed_in is_last n (c ∷ calls) (a ∷ answers) k ra =
      let as' : List Answer = answers_in base is_last calls answers in
      let first = ap (λ (l : List Answer). length (handed_by l)) (added_answers (reported base is_last a) as' ra) in
      let then' = handed_one is_last n c.known a k.0 (as' ++ ra) in
      let rest = handed_in is_last (n + length (handed_item a)) calls answers k.1 ra in
      let parts = length-append (handed_item a) (handed_by answers) in
      omega (arith, first, then', rest, parts)

row_handed : (groups g base : ℕ) (early : List Record) (last : Record) → g < groups → AreShut groups early
    → IsLegalOf groups last
    → length (handed_by (row_answers (takes_of g) base early last)) ≡ handed_of g early last
row_handed groups g base [] last few are l =
    let legal = l.legal.takes g (omega (arith, few, l.groups_are)) in
    let as' : List Answer = answers_in base true (of_group last g).calls (of_group last g).answers in
    let none = ap (λ (x : List Answer). length (handed_by x)) (append-nil as') in
    let own = handed_in base (accepted last) (is_shut last) true 0 (of_group last g).calls (of_group last g).answers
    legal.answers [] in
    omega (arith, none, own)
row_handed groups g base (h ∷ early) last few are l =
    let m : ℕ = base + length (accepted h) in
    let legal = are.0.legal.takes g (omega (arith, few, are.0.groups_are)) in
    let own = handed_in base (accepted h) (is_shut h) false 0 (of_group h g).calls (of_group h g).answers legal.answers
    (row_answers (takes_of g) m early last) in
    let rest = row_handed groups g m early last few are.2 l in
    omega (arith, own, rest)

-- ---- the room

row_room : (groups bound g : ℕ) (early : List Record) (last : Record) → g < groups → AreBounded groups bound early
    → IsBoundedOf groups bound last → HasRoom bound g early last
    → count_of early + length (accepted last) ≤ handed_of g early last + bound
row_room groups bound g [] last few are l room =
    let legal = l.of.legal.takes g (omega (arith, few, l.of.groups_are)) in let r = legal.room in
    let c = l.capacity_is in
    omega (arith, r, c)
row_room groups bound g (h ∷ early) last few are l room = ⊎_elim
    (λ t. let all = t.0 in let rest = row_room groups bound g early last few are.2 l t.1 in omega (arith, all, rest))
    (λ fits. omega (arith, fits))
    room

are_shut : (groups bound : ℕ) (early : List Record) → AreBounded groups bound early → AreShut groups early
are_shut groups bound [] are = tt
are_shut groups bound (h ∷ early) are = (are.0.of, are.1, are_shut groups bound early are.2)

-- ---- the laws

pub bounded_sends : BoundedSendsAreLegal
bounded_sends groups one early last are l few = row_sends groups one 0 early last are l (omega (arith, few))

pub bounded_room : BoundedHasRoom
bounded_room groups bound g early last few are l goes room =
    let items = items_count 0 early last in
    let out = row_handed groups g 0 early last few (are_shut groups bound early are) l.of in
    let fits = row_room groups bound g early last few are l room in
    omega (arith, items, out, fits)

pub bounded_is_legal : BoundedIsLegal
bounded_is_legal groups one early last row few =
    let shut = are_shut groups one.capacity early row.shut in
    record {
      sends = row_sends groups one 0 early last row.shut row.last_legal (omega (arith, few));
      items = row_accepts 0 early last;
      takes = λ g inside. (group_takes groups g early last inside shut row.last_legal.of (row.in_order g inside)).0;
      fifo = λ g inside. (group_takes groups g early last inside shut row.last_legal.of (row.in_order g inside)).1;
      room = λ g inside. bounded_room groups one.capacity g early last inside row.shut row.last_legal
          (row.in_order g inside) (row.room g inside);
    }

pub handed_counted : HandedAreCounted
handed_counted groups g early last few are l = row_handed groups g 0 early last few are l

no_more_handed : (groups g : ℕ) (early : List Record) (last : Record) → g < groups → AreShut groups early
    → handed_of g early last ≤ count_of early + length (handed last g)
no_more_handed groups g [] last few are = omega arith
no_more_handed groups g (h ∷ early) last few are =
    let legal = are.0.legal.takes g (omega (arith, few, are.0.groups_are)) in let own = legal.within in
    let rest = no_more_handed groups g early last few are.2 in
    omega (arith, own, rest)

pub full_right : FullOfTheLastIsRight
full_right groups bound g early last few are is_full = let most = no_more_handed groups g early last few are in
    omega (arith, most, is_full)

pub waiting_enough : WaitingIsEnough
waiting_enough groups bound g [] last few are waits = tt
waiting_enough groups bound g (h ∷ early) last few are waits = ⊎_elim
    (λ t. inl (t.0, waiting_enough groups bound g early last few are.2 t.1))
    (λ none. let legal = are.0.of.legal.takes g (omega (arith, few, are.0.of.groups_are)) in let r = legal.room in
    let c = are.0.capacity_is in inr (omega (arith, none, r, c)))
    waits
