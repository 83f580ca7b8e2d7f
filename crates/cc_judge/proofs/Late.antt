-- A log that begins late has a legal order if the log has one that it is a part of: from that order the calls go that the log lacks,
-- but those of items of the log, which are among the calls that a late log may lack.
use Rattle.std.proofs.Common.{◌≡◌, ◌≢◌, ℕ, ◌<◌, ◌≤◌, ◌+◌, ◌⊎◌, inl, inr, Bool, true, false, ◌||◌, List, [], ◌∷◌, ◌++◌, length, Option, Some, None, IsSome, refl, sym, ap, ◌∙◌, subst, arith, length-append}
use Rattle.std.specs.Prelude.{unwrap_or, replicate}
use Rattle.std.specs.List.{slice_get}
use Rattle.std.proofs.lemmas.Bool.{cases_lt}
use Rattle.std.proofs.lemmas.List.{append-nil}
use Rattle.std.proofs.lemmas.Option.{slice_get_within}
use Rattle.cc_judge.specs.Names.{Act, Call, Rules, Step}
use Rattle.cc_judge.specs.Order.{Allows, Closes, Does, IsCall, IsOfLog, IsOnce, IsOrder, IsRun, IsWhole, MayHaveDone, RespectsLines, RespectsRealTime, closed_after}
use Rattle.cc_judge.specs.Faults.{Did, Differ}
use Rattle.cc_judge.specs.Late.{AreOfPart, IsSound, LateLogsAreLinearizable, early, early_close, lacking, mark_sent, mark_taken, padded, padding, sent_items, taken_items}
use Rattle.cc_judge.proofs.Places.{In, Before, before_first, before_second, in_at, at_in, at_before, before_at}
use Rattle.cc_judge.proofs.Turns.{nat_cases}
use Rattle.cc_judge.proofs.Orders.{apart, in_log, in_time, one_send, one_take, runs, sent_in_log, step_of, took_in_log}
use Rattle.cc_judge.proofs.Marks.{IsEarly, get_behind, get_front, get_split, get_within, is_some_true, lacks, lacks_at, lacks_rises, marked, marks_sent, marks_taken, none_is_marked, none_marked, only_marked, padding_early}
use Rattle.cc_judge.proofs.Calls.{end_cases, none_some}

-- ---- a list of steps of which some go to other places, and some aren't kept

abbrev put : Option ℕ → (act : Act) → List Step → List Step
put None act rest = rest
put (Some place) act rest = record { place = place; act = act } ∷ rest

abbrev moved : (f : Step → Option ℕ) → List Step → List Step
moved f [] = []
moved f (s ∷ steps) = put (f s) s.act (moved f steps)

-- a step that was kept, before it was
record Origin (f : Step → Option ℕ) (steps : List Step) (s : Step) : Type 0 where
  step : Step
  within : In step steps
  goes : f step ≡ Some s.place
  act_is : s.act ≡ step.act

put_in : (o : Option ℕ) (act : Act) (rest : List Step) (s : Step) → In s (put o act rest) → ((o ≡ Some s.place) × (s.act ≡ act)) ⊎ In s rest
put_in o act rest s within = grind arith

origin : (f : Step → Option ℕ) (steps : List Step) (s : Step) → In s (moved f steps) → Origin f steps s
origin f [] s within = absurd within
origin f (x ∷ steps) s within = elim (put_in (f x) x.act (moved f steps) s within) [
  | inl here ↦ record { step = x; within = inl refl; goes = here.0; act_is = here.1 }
  | inr later ↦ let o = origin f steps s later in record { step = o.step; within = inr o.within; goes = o.goes; act_is = o.act_is }
]

-- two steps that were kept, before they were
record Origins (f : Step → Option ℕ) (steps : List Step) (s t : Step) : Type 0 where
  one : Step
  other : Step
  before : Before one other steps
  one_goes : f one ≡ Some s.place
  other_goes : f other ≡ Some t.place

put_before : (o : Option ℕ) (act : Act) (rest : List Step) (s t : Step) → Before s t (put o act rest) → ((o ≡ Some s.place) × In t rest) ⊎ Before s t rest
put_before o act rest s t first = grind arith

origins : (f : Step → Option ℕ) (steps : List Step) (s t : Step) → Before s t (moved f steps) → Origins f steps s t
origins f [] s t first = absurd first
origins f (x ∷ steps) s t first = elim (put_before (f x) x.act (moved f steps) s t first) [
  | inl here ↦ let o = origin f steps t here.1 in record { one = x; other = o.step; before = inl (refl, o.within); one_goes = here.0; other_goes = o.goes }
  | inr later ↦ let o = origins f steps s t later in record { one = o.one; other = o.other; before = inr o.before; one_goes = o.one_goes; other_goes = o.other_goes }
]

in_put : (o : Option ℕ) (act : Act) (rest : List Step) (s : Step) → In s rest → In s (put o act rest)
in_put o act rest s within = grind arith

here_put : (o : Option ℕ) (act : Act) (rest : List Step) (q : ℕ) → o ≡ Some q → In (record { place = q; act = act }) (put o act rest)
here_put o act rest q is = subst (λ (x : Option ℕ). In (record { place = q; act = act }) (put x act rest)) (sym is) (inl refl)

-- a step that goes to a place is there
in_moved : (f : Step → Option ℕ) (steps : List Step) (t : Step) (q : ℕ) → In t steps → f t ≡ Some q → In (record { place = q; act = t.act }) (moved f steps)
in_moved f [] t q within is = absurd within
in_moved f (x ∷ steps) t q (inl here) is = subst (λ (y : Step). In (record { place = q; act = y.act }) (put (f x) x.act (moved f steps))) here (here_put (f x) x.act (moved f steps) q (ap f here ∙ is))
in_moved f (x ∷ steps) t q (inr later) is = in_put (f x) x.act (moved f steps) (record { place = q; act = t.act }) (in_moved f steps t q later is)

-- ---- the queue with some of its items alone

-- the act sends the item or takes it
abbrev Moves : Act → ℕ → Type 0
Moves act x = (act ≡ Act.Send x) ⊎ (act ≡ Act.Took x)

abbrev add_if : Bool → ℕ → List ℕ → List ℕ
add_if true x rest = x ∷ rest
add_if false x rest = rest

abbrev only : (ℕ → Bool) → List ℕ → List ℕ
only k [] = []
only k (x ∷ xs) = add_if (k x) x (only k xs)

add_more : (b : Bool) (x : ℕ) (rest more : List ℕ) → add_if b x (rest ++ more) ≡ add_if b x rest ++ more
add_more b x rest more = grind arith

only_snoc : (k : ℕ → Bool) (xs : List ℕ) (x : ℕ) → only k (xs ++ x ∷ []) ≡ only k xs ++ add_if (k x) x []
only_snoc k [] x = refl
only_snoc k (y ∷ xs) x = ap (add_if (k y) y) (only_snoc k xs x) ∙ add_more (k y) y (only k xs) (add_if (k x) x [])

-- a call with an item that counts does the same with the items that count alone
does_kept : (k : ℕ → Bool) (held next : List ℕ) (act : Act) → Does None held act next → ((x : ℕ) → Moves act x → k x ≡ true) → Does None (only k held) act (only k next)
does_kept k held next act does counts = grind (arith, only_snoc, append-nil)

-- and any other call changes nothing of these
does_nothing : (k : ℕ → Bool) (held next : List ℕ) (act : Act) → Does None held act next → ((x : ℕ) → Moves act x → k x ≡ false) → only k next ≡ only k held
does_nothing k held next act does counts = grind (arith, only_snoc, append-nil)

-- of the items that count all steps are kept, and of the others none
record Sorts (f : Step → Option ℕ) (k : ℕ → Bool) : Type 0 where
  stays : (s : Step) (q x : ℕ) → f s ≡ Some q → Moves s.act x → k x ≡ true
  goes : (s : Step) (x : ℕ) → f s ≡ None → Moves s.act x → k x ≡ false

moved_run : (f : Step → Option ℕ) (k : ℕ → Bool) → Sorts f k → (steps : List Step) (held : List ℕ) → IsRun None held steps → IsRun None (only k held) (moved f steps)
moved_run f k sorts [] held run = tt
moved_run f k sorts (s ∷ steps) held run = elim (end_cases (f s)) [
  | inr none ↦
      let same : only k run.0 ≡ only k held = does_nothing k held run.0 s.act run.1 (λ x moves. sorts.goes s x none moves) in
      subst (λ (o : Option ℕ). IsRun None (only k held) (put o s.act (moved f steps))) (sym none) (subst (λ (l : List ℕ). IsRun None l (moved f steps)) same (moved_run f k sorts steps run.0 run.2))
  | inl some ↦
      subst (λ (o : Option ℕ). IsRun None (only k held) (put o s.act (moved f steps))) (sym some.1)
      (only k run.0, does_kept k held run.0 s.act run.1 (λ x moves. sorts.stays s some.0 x some.1 moves), moved_run f k sorts steps run.0 run.2)
]

-- ---- the first close

abbrev if_close : Act → (place : ℕ) → Option ℕ → Option ℕ
if_close Act.Close place later = Some place
if_close _ place later = later

abbrev first_close : List Step → Option ℕ
first_close [] = None
first_close (s ∷ steps) = if_close s.act s.place (first_close steps)

close_or_not : (act : Act) → (act ≡ Act.Close) ⊎ (act ≢ Act.Close)
close_or_not act = grind arith

-- another call doesn't close the queue
no_close : (act : Act) → act ≢ Act.Close → (closed : Bool) (place : ℕ) (later : Option ℕ) → (closed_after closed act ≡ closed) × (if_close act place later ≡ later)
no_close act not closed place later = grind arith

put_closes : (o : Option ℕ) (closed : Bool) (act : Act) (rest : List Step) → Allows closed act → Closes (closed_after closed act) rest → (o ≡ None → closed_after closed act ≡ closed) → Closes closed (put o act rest)
put_closes o closed act rest allows closes same = grind arith

-- a queue that is closed stays so; one that isn't is closed by a step that is kept
moved_closes : (f : Step → Option ℕ) (first : Option ℕ) → ((s : Step) → f s ≡ None → s.act ≡ Act.Close → first ≡ Some s.place → ⊥)
    → (steps : List Step) (closed : Bool) → Closes closed steps → (closed ≡ true) ⊎ (first_close steps ≡ first) → Closes closed (moved f steps)
moved_closes f first keeps [] closed closes either = tt
moved_closes f first keeps (s ∷ steps) closed closes either = elim (close_or_not s.act) [
  | inl close ↦
      let shut : closed_after closed s.act ≡ true = ap (closed_after closed) close in
      put_closes (f s) closed s.act (moved f steps) closes.0 (moved_closes f first keeps steps (closed_after closed s.act) closes.1 (inl shut))
      (λ none. elim either [
        | inl was ↦ shut ∙ sym was
        | inr is ↦ absurd (keeps s none close (sym is ∙ ap (λ (a : Act). if_close a s.place (first_close steps)) close))
      ])
  | inr other ↦
      let same = no_close s.act other closed s.place (first_close steps) in
      put_closes (f s) closed s.act (moved f steps) closes.0
      (moved_closes f first keeps steps (closed_after closed s.act) closes.1 (elim either [ inl was ↦ inl (same.0 ∙ was) | inr is ↦ inr (sym same.1 ∙ is) ]))
      (λ none. same.0)
]

-- ---- where each step goes

abbrev counts : (calls : List Call) (items x : ℕ) → Bool
counts calls items x = unwrap_or (slice_get (sent_items items calls) x) false || unwrap_or (slice_get (taken_items items calls) x) false

abbrev pads : (calls : List Call) (items x : ℕ) → List Call
pads calls items x = padding (sent_items items calls) (taken_items items calls) x

abbrev spot : (calls : List Call) (items x : ℕ) → ℕ
spot calls items x = length calls + length (pads calls items x)

abbrev when : Bool → ℕ → Option ℕ
when true q = Some q
when false q = None

abbrev own : (calls : List Call) (items : ℕ) → Act → (place : ℕ) → Option ℕ
own calls items (Act.Send x) place = when (counts calls items x) place
own calls items (Act.Took x) place = when (counts calls items x) place
own calls items _ place = Some place

abbrev if_same : {P Q : Type 0} → P ⊎ Q → ℕ → Option ℕ
if_same (inl same) q = Some q
if_same (inr other) q = None

abbrev if_first : Option ℕ → (place q : ℕ) → Option ℕ
if_first None place q = None
if_first (Some p) place q = if_same (nat_cases p place) q

abbrev of_lacked : (calls : List Call) (items : ℕ) (first : Option ℕ) → Act → (place : ℕ) → Option ℕ
of_lacked calls items first (Act.Send x) place = when (counts calls items x) (spot calls items x)
of_lacked calls items first (Act.Took x) place = when (counts calls items x) (spot calls items x)
of_lacked calls items first Act.Close place = if_first first place (spot calls items items)
of_lacked calls items first _ place = None

abbrev fate_by : (calls : List Call) (items : ℕ) (first : Option ℕ) (s : Step) → (s.place < length calls) ⊎ (length calls ≤ s.place) → Option ℕ
fate_by calls items first s (inl mine) = own calls items s.act s.place
fate_by calls items first s (inr lacked) = of_lacked calls items first s.act s.place

abbrev fate : (calls : List Call) (items : ℕ) (first : Option ℕ) → Step → Option ℕ
fate calls items first s = fate_by calls items first s (cases_lt s.place (length calls))

-- the step is one of a call of the log
record Mine (calls : List Call) (s : Step) (q : ℕ) : Type 0 where
  mine : s.place < length calls
  same : q ≡ s.place

-- the step is one of a call that the log lacks, of an item that counts
record Item (calls : List Call) (items : ℕ) (s : Step) (q : ℕ) : Type 0 where
  lacked : length calls ≤ s.place
  item : ℕ
  moves : Moves s.act item
  counted : counts calls items item ≡ true
  spot_is : q ≡ spot calls items item

-- the step is the first close, and the log lacks it
record Shut (calls : List Call) (items : ℕ) (first : Option ℕ) (s : Step) (q : ℕ) : Type 0 where
  lacked : length calls ≤ s.place
  close : s.act ≡ Act.Close
  first_is : first ≡ Some s.place
  spot_is : q ≡ spot calls items items

goes_by : (calls : List Call) (items : ℕ) (first : Option ℕ) (s : Step) (q : ℕ) (d : (s.place < length calls) ⊎ (length calls ≤ s.place)) → fate_by calls items first s d ≡ Some q
    → Mine calls s q ⊎ Item calls items s q ⊎ Shut calls items first s q
goes_by calls items first s q d is = grind arith

goes : (calls : List Call) (items : ℕ) (first : Option ℕ) (s : Step) (q : ℕ) → fate calls items first s ≡ Some q → Mine calls s q ⊎ Item calls items s q ⊎ Shut calls items first s q
goes calls items first s q is = goes_by calls items first s q (cases_lt s.place (length calls)) is

sorts : (calls : List Call) (items : ℕ) (first : Option ℕ) → Sorts (fate calls items first) (counts calls items)
sorts calls items first = grind arith

-- the first close is kept
keeps_close : (calls : List Call) (items : ℕ) (first : Option ℕ) (s : Step) → fate calls items first s ≡ None → s.act ≡ Act.Close → first ≡ Some s.place → ⊥
keeps_close calls items first s is close at = grind arith

-- a step of the log with an item that counts, or none, is kept as it is
keeps_own : (calls : List Call) (items : ℕ) (first : Option ℕ) (s : Step) → s.place < length calls → ((x : ℕ) → Moves s.act x → counts calls items x ≡ true) → fate calls items first s ≡ Some s.place
keeps_own calls items first s less counted = grind arith

-- ---- the calls of the log

-- the part of a log with a legal order
record Part (whole part : Rules) (calls lacked : List Call) (items : ℕ) (order : List Step) : Type 0 where
  sound : IsSound calls items
  rules : AreOfPart whole part calls
  differ : Differ (calls ++ lacked)
  is : IsOrder whole (calls ++ lacked) order

did_front : (calls lacked : List Call) (p : ℕ) (act : Act) → Did calls p act → Did (calls ++ lacked) p act
did_front calls lacked p act d = record { call = d.call; call_is = get_front calls lacked p d.call d.call_is; act_is = d.act_is }

did_within : (calls lacked : List Call) (p : ℕ) (act : Act) → Did (calls ++ lacked) p act → p < length calls → Did calls p act
did_within calls lacked p act d less = record { call = d.call; call_is = get_within calls lacked p d.call d.call_is less; act_is = d.act_is }

did_below : (calls : List Call) (p : ℕ) (act : Act) → Did calls p act → p < length calls
did_below calls p act d = slice_get_within calls p d.call d.call_is

abbrev is_sent : (calls : List Call) (items x : ℕ) → Bool
is_sent calls items x = unwrap_or (slice_get (sent_items items calls) x) false

abbrev is_taken : (calls : List Call) (items x : ℕ) → Bool
is_taken calls items x = unwrap_or (slice_get (taken_items items calls) x) false

sent_mark : (calls : List Call) (items p x : ℕ) → IsSound calls items → Did calls p (Act.Send x) → is_sent calls items x ≡ true
sent_mark calls items p x sound d =
    ap (λ (o : Option Bool). unwrap_or o false) (marked mark_sent Act.Send marks_sent calls (replicate items false) p x d.call false (none_marked items x (sound.sent p x d)) d.call_is d.act_is)

taken_mark : (calls : List Call) (items p x : ℕ) → IsSound calls items → Did calls p (Act.Took x) → is_taken calls items x ≡ true
taken_mark calls items p x sound d =
    ap (λ (o : Option Bool). unwrap_or o false) (marked mark_taken Act.Took marks_taken calls (replicate items false) p x d.call false (none_marked items x (sound.took p x d)) d.call_is d.act_is)

sender : (calls : List Call) (items x : ℕ) → is_sent calls items x ≡ true → (p : ℕ) × Did calls p (Act.Send x)
sender calls items x is = elim (only_marked mark_sent Act.Send marks_sent calls (replicate items false) x (is_some_true (slice_get (sent_items items calls) x) is)) [
  | inl was ↦ absurd (none_is_marked items x was)
  | inr r ↦ (r.0, record { call = r.1; call_is = r.2; act_is = r.3 })
]

taker : (calls : List Call) (items x : ℕ) → is_taken calls items x ≡ true → (p : ℕ) × Did calls p (Act.Took x)
taker calls items x is = elim (only_marked mark_taken Act.Took marks_taken calls (replicate items false) x (is_some_true (slice_get (taken_items items calls) x) is)) [
  | inl was ↦ absurd (none_is_marked items x was)
  | inr r ↦ (r.0, record { call = r.1; call_is = r.2; act_is = r.3 })
]

true_or_false : (b : Bool) → (b ≡ true) ⊎ (b ≡ false)
true_or_false b = grind arith

or_left : (a b : Bool) → a ≡ true → (a || b) ≡ true
or_left a b is = ap (λ (c : Bool). c || b) is

or_right : (a b : Bool) → b ≡ true → (a || b) ≡ true
or_right a b is = grind arith

or_second : (a b : Bool) → (a || b) ≡ true → a ≡ false → b ≡ true
or_second a b is not = grind arith

or_first : (a b : Bool) → (a || b) ≡ true → b ≡ false → a ≡ true
or_first a b is not = grind arith

not_both : (b : Bool) → b ≡ true → b ≡ false → ⊥
not_both b is_so is_not = grind arith

-- ---- steps that go to other places

abbrev first_if : Bool → List Step → Option ℕ
first_if true order = first_close order
first_if false order = None

first_some : (b : Bool) (order : List Step) (p : ℕ) → first_if b order ≡ Some p → b ≡ true
first_some b order p is = grind arith

abbrev goes_to : Rules → List Call → (items : ℕ) → List Step → Step → Option ℕ
goes_to part calls items order s = fate calls items (first_if part.closes order) s

-- what a late log may lack of the item of such a step
record Lacks (calls : List Call) (items : ℕ) (s : Step) (x : ℕ) : Type 0 where
  act : Act
  is : lacks (sent_items items calls) (taken_items items calls) x ≡ early act ∷ []
  may : MayHaveDone act s.act
  below : x < items

lacks_by : (a b c d : Bool) (x : ℕ) → a ≡ c → b ≡ d → lacking a b x ≡ lacking c d x
lacks_by a b c d x one other = ap (λ (y : Bool). lacking y b x) one ∙ ap (λ (y : Bool). lacking c y x) other

sent_lacked : (whole part : Rules) (calls lacked : List Call) (items : ℕ) (order : List Step) → Part whole part calls lacked items order → (s : Step) (x : ℕ) → In s order → length calls ≤ s.place → s.act ≡ Act.Send x → is_sent calls items x ≡ false
sent_lacked whole part calls lacked items order g s x within behind act = elim (true_or_false (is_sent calls items x)) [
  | inr is_not ↦ is_not
  | inl is_so ↦
      let d = sender calls items x is_so in
      let same : d.0 ≡ s.place = g.differ x d.0 s.place (did_front calls lacked d.0 (Act.Send x) d.1) (sent_in_log whole (calls ++ lacked) order g.is s x within act) in
      absurd (omega (arith, same, did_below calls d.0 (Act.Send x) d.1, behind))
]

took_lacked : (whole part : Rules) (calls lacked : List Call) (items : ℕ) (order : List Step) → Part whole part calls lacked items order → (s : Step) (x : ℕ) → In s order → length calls ≤ s.place → s.act ≡ Act.Took x → is_taken calls items x ≡ false
took_lacked whole part calls lacked items order g s x within behind act = elim (true_or_false (is_taken calls items x)) [
  | inr is_not ↦ is_not
  | inl is_so ↦
      let d = taker calls items x is_so in
      let t = step_of whole (calls ++ lacked) order g.is d.0 d.1.call (Act.Took x) (get_front calls lacked d.0 d.1.call d.1.call_is) d.1.act_is (λ e. cc) (g.sound.returned d.0 x d.1) in
      let one : t.step ≡ s = one_take whole (calls ++ lacked) order g.is g.differ x t.step s t.within within t.act_is act in
      let same : d.0 ≡ s.place = sym t.place_is ∙ ap (λ (y : Step). y.place) one in
      absurd (omega (arith, same, did_below calls d.0 (Act.Took x) d.1, behind))
]

lacks_of : (whole part : Rules) (calls lacked : List Call) (items : ℕ) (order : List Step) → Part whole part calls lacked items order → (s : Step) (x : ℕ) → In s order → length calls ≤ s.place → Moves s.act x → counts calls items x ≡ true → Lacks calls items s x
lacks_of whole part calls lacked items order g s x within behind (inl act) counted =
    let is_not = sent_lacked whole part calls lacked items order g s x within behind act in
    let is_so = or_second (is_sent calls items x) (is_taken calls items x) counted is_not in
    let d = taker calls items x is_so in
    record {
      act = Act.Send x;
      is = lacks_by (is_sent calls items x) (is_taken calls items x) false true x is_not is_so;
      may = subst (MayHaveDone (Act.Send x)) (sym act) refl;
      below = g.sound.took d.0 x d.1;
    }
lacks_of whole part calls lacked items order g s x within behind (inr act) counted =
    let is_not = took_lacked whole part calls lacked items order g s x within behind act in
    let is_so = or_first (is_sent calls items x) (is_taken calls items x) counted is_not in
    let d = sender calls items x is_so in
    record {
      act = Act.Taking;
      is = lacks_by (is_sent calls items x) (is_taken calls items x) true false x is_so is_not;
      may = subst (MayHaveDone Act.Taking) (sym act) tt;
      below = g.sound.sent d.0 x d.1;
    }

-- two steps that the log lacks aren't of one item
items_apart : (whole part : Rules) (calls lacked : List Call) (items : ℕ) (order : List Step) → Part whole part calls lacked items order → (s t : Step) (x : ℕ) → Before s t order
    → length calls ≤ s.place → length calls ≤ t.place → counts calls items x ≡ true → Moves s.act x → Moves t.act x → ⊥
items_apart whole part calls lacked items order g s t x first one other counted (inl a) (inl b) = one_send whole (calls ++ lacked) order g.is g.differ x s t first a b
items_apart whole part calls lacked items order g s t x first one other counted (inr a) (inr b) =
    apart whole (calls ++ lacked) order g.is s t first (ap (λ (y : Step). y.place) (one_take whole (calls ++ lacked) order g.is g.differ x s t (before_first s t order first) (before_second s t order first) a b))
items_apart whole part calls lacked items order g s t x first one other counted (inl a) (inr b) =
    let is_not = sent_lacked whole part calls lacked items order g s x (before_first s t order first) one a in
    not_both (is_taken calls items x) (or_second (is_sent calls items x) (is_taken calls items x) counted is_not) (took_lacked whole part calls lacked items order g t x (before_second s t order first) other b)
items_apart whole part calls lacked items order g s t x first one other counted (inr a) (inl b) =
    let is_not = sent_lacked whole part calls lacked items order g t x (before_second s t order first) other b in
    not_both (is_taken calls items x) (or_second (is_sent calls items x) (is_taken calls items x) counted is_not) (took_lacked whole part calls lacked items order g s x (before_first s t order first) one a)

spot_rises : (whole part : Rules) (calls lacked : List Call) (items : ℕ) (order : List Step) → Part whole part calls lacked items order → (s : Step) (x y : ℕ) → In s order → length calls ≤ s.place → Moves s.act x → counts calls items x ≡ true
    → x < y → length (pads calls items x) < length (pads calls items y)
spot_rises whole part calls lacked items order g s x y within behind moves counted less =
    let l = lacks_of whole part calls lacked items order g s x within behind moves counted in
    lacks_rises (sent_items items calls) (taken_items items calls) y x (early l.act) less l.is

-- two steps go to two places
fates_apart : (whole part : Rules) (calls lacked : List Call) (items : ℕ) (order : List Step) → Part whole part calls lacked items order → (s t : Step) (q r : ℕ) → Before s t order
    → goes_to part calls items order s ≡ Some q → goes_to part calls items order t ≡ Some r → q ≡ r → ⊥
fates_apart whole part calls lacked items order g s t q r first s_goes t_goes same = by (goes calls items (first_if part.closes order) s q s_goes) (goes calls items (first_if part.closes order) t r t_goes)
  where
    differ_items : (a : Item calls items s q) (b : Item calls items t r) → (a.item < b.item) ⊎ (b.item ≤ a.item) → (b.item < a.item) ⊎ (a.item ≤ b.item) → ⊥
    differ_items a b (inl less) other =
        let h = spot_rises whole part calls lacked items order g s a.item b.item (before_first s t order first) a.lacked a.moves a.counted less in
        let one = a.spot_is in
        let two = b.spot_is in
        omega (arith, h, one, two, same)
    differ_items a b (inr low) (inl less) =
        let h = spot_rises whole part calls lacked items order g t b.item a.item (before_second s t order first) b.lacked b.moves b.counted less in
        let one = a.spot_is in
        let two = b.spot_is in
        omega (arith, h, one, two, same)
    differ_items a b (inr low) (inr high) =
        let e : b.item ≡ a.item = omega (arith, low, high) in
        items_apart whole part calls lacked items order g s t a.item first a.lacked b.lacked a.counted a.moves (subst (Moves t.act) e b.moves)

    item_shut : (u : Step) (x p : ℕ) → In u order → length calls ≤ u.place → Moves u.act x → counts calls items x ≡ true → p ≡ spot calls items x → p ≡ spot calls items items → ⊥
    item_shut u x p within behind moves counted one two =
        let l = lacks_of whole part calls lacked items order g u x within behind moves counted in
        let h = spot_rises whole part calls lacked items order g u x items within behind moves counted l.below in
        omega (arith, h, one, two)

    by : Mine calls s q ⊎ Item calls items s q ⊎ Shut calls items (first_if part.closes order) s q → Mine calls t r ⊎ Item calls items t r ⊎ Shut calls items (first_if part.closes order) t r → ⊥
    by (inl a) (inl b) = apart whole (calls ++ lacked) order g.is s t first (sym a.same ∙ same ∙ b.same)
    by (inl a) (inr (inl b)) = let less = a.mine in let one = a.same in let two = b.spot_is in omega (arith, less, one, two, same)
    by (inl a) (inr (inr b)) = let less = a.mine in let one = a.same in let two = b.spot_is in omega (arith, less, one, two, same)
    by (inr (inl a)) (inl b) = let less = b.mine in let one = b.same in let two = a.spot_is in omega (arith, less, one, two, same)
    by (inr (inr a)) (inl b) = let less = b.mine in let one = b.same in let two = a.spot_is in omega (arith, less, one, two, same)
    by (inr (inl a)) (inr (inl b)) = differ_items a b (cases_lt a.item b.item) (cases_lt b.item a.item)
    by (inr (inl a)) (inr (inr b)) = item_shut s a.item q (before_first s t order first) a.lacked a.moves a.counted a.spot_is (same ∙ b.spot_is)
    by (inr (inr a)) (inr (inl b)) = item_shut t b.item r (before_second s t order first) b.lacked b.moves b.counted b.spot_is (sym same ∙ a.spot_is)
    by (inr (inr a)) (inr (inr b)) =
        let one : s.place ≡ t.place = cc in
        apart whole (calls ++ lacked) order g.is s t first one

-- a step that goes to the place of a call of the log is of that call
goes_own : (calls : List Call) (items : ℕ) (first : Option ℕ) (s : Step) (q : ℕ) → fate calls items first s ≡ Some q → q < length calls → s.place ≡ q
goes_own calls items first s q is less = grind arith

-- ---- the calls that a late log may lack

close_early : (b : Bool) (j : ℕ) (c : Call) → slice_get (early_close b) j ≡ Some c → IsEarly c
close_early b j c is = grind arith

padded_split : (closes : Bool) (calls : List Call) (items p : ℕ) (c : Call) → slice_get (padded true closes calls items) p ≡ Some c → (slice_get calls p ≡ Some c) ⊎ IsEarly c
padded_split closes calls items p c is = elim (get_split (calls ++ pads calls items items) (early_close closes) p c is) [
  | inr behind ↦ inr (close_early closes behind.0 c behind.2)
  | inl front ↦ elim (get_split calls (pads calls items items) p c front) [
    | inl mine ↦ inl mine
    | inr behind ↦ inr (padding_early (sent_items items calls) (taken_items items calls) items behind.0 c behind.2)
  ]
]

padded_front : (closes : Bool) (calls : List Call) (items p : ℕ) (c : Call) → slice_get calls p ≡ Some c → slice_get (padded true closes calls items) p ≡ Some c
padded_front closes calls items p c is = get_front (calls ++ pads calls items items) (early_close closes) p c (get_front calls (pads calls items items) p c is)

padded_item : (closes : Bool) (calls : List Call) (items x : ℕ) (c : Call) → x < items → lacks (sent_items items calls) (taken_items items calls) x ≡ c ∷ [] → slice_get (padded true closes calls items) (spot calls items x) ≡ Some c
padded_item closes calls items x c less is =
    get_front (calls ++ pads calls items items) (early_close closes) (spot calls items x) c
    (get_behind calls (pads calls items items) (length (pads calls items x)) ∙ lacks_at (sent_items items calls) (taken_items items calls) items x c less is)

padded_close : (closes : Bool) (calls : List Call) (items : ℕ) → closes ≡ true → slice_get (padded true closes calls items) (spot calls items items) ≡ Some (early Act.Close)
padded_close closes calls items is_so =
    let all = calls ++ pads calls items items in
    let at : spot calls items items ≡ length all + 0 = omega (arith, length-append calls (pads calls items items)) in
    ap (slice_get (padded true closes calls items)) at ∙ get_behind all (early_close closes) 0 ∙ ap (λ (b : Bool). slice_get (early_close b) 0) is_so

-- ---- the order

of_log : (whole part : Rules) (calls lacked : List Call) (items : ℕ) (order : List Step) → Part whole part calls lacked items order → IsOfLog (padded true part.closes calls items) (moved (goes_to part calls items order) order)
of_log whole part calls lacked items order g k s is =
    let o = origin (goes_to part calls items order) order s (in_at s (moved (goes_to part calls items order) order) k is) in
    by o (goes calls items (first_if part.closes order) o.step s.place o.goes)
  where
    by : (o : Origin (goes_to part calls items order) order s) → Mine calls o.step s.place ⊎ Item calls items o.step s.place ⊎ Shut calls items (first_if part.closes order) o.step s.place → IsCall (padded true part.closes calls items) s
    by o (inl a) =
        let i = in_log whole (calls ++ lacked) order g.is o.step o.within in
        let there : slice_get calls o.step.place ≡ Some i.call = get_within calls lacked o.step.place i.call i.call_is a.mine in
        record {
          call = i.call;
          call_is = ap (slice_get (padded true part.closes calls items)) a.same ∙ padded_front part.closes calls items o.step.place i.call there;
          may = subst (MayHaveDone i.call.act) (sym o.act_is) i.may;
        }
    by o (inr (inl a)) =
        let l = lacks_of whole part calls lacked items order g o.step a.item o.within a.lacked a.moves a.counted in
        record {
          call = early l.act;
          call_is = ap (slice_get (padded true part.closes calls items)) a.spot_is ∙ padded_item part.closes calls items a.item (early l.act) l.below l.is;
          may = subst (MayHaveDone l.act) (sym o.act_is) l.may;
        }
    by o (inr (inr a)) = record {
      call = early Act.Close;
      call_is = ap (slice_get (padded true part.closes calls items)) a.spot_is ∙ padded_close part.closes calls items (first_some part.closes order o.step.place a.first_is);
      may = sym (o.act_is ∙ a.close);
    }

once : (whole part : Rules) (calls lacked : List Call) (items : ℕ) (order : List Step) → Part whole part calls lacked items order → IsOnce (moved (goes_to part calls items order) order)
once whole part calls lacked items order g j k s t less s_is t_is same =
    let o = origins (goes_to part calls items order) order s t (before_at s t (moved (goes_to part calls items order) order) j k less s_is t_is) in
    fates_apart whole part calls lacked items order g o.one o.other s.place t.place o.before o.one_goes o.other_goes same

-- the item of a step of a call that returned counts
own_counts : (whole part : Rules) (calls lacked : List Call) (items : ℕ) (order : List Step) → Part whole part calls lacked items order → (s : Step) (c : Call) → In s order → slice_get calls s.place ≡ Some c → IsSome c.end
    → (x : ℕ) → Moves s.act x → counts calls items x ≡ true
own_counts whole part calls lacked items order g s c within at ended x (inl act) =
    let d = sent_in_log whole (calls ++ lacked) order g.is s x within act in
    or_left (is_sent calls items x) (is_taken calls items x) (sent_mark calls items s.place x g.sound (did_within calls lacked s.place (Act.Send x) d (slice_get_within calls s.place c at)))
own_counts whole part calls lacked items order g s c within at ended x (inr act) = elim (took_in_log whole (calls ++ lacked) order g.is s x within act) [
  | inl took ↦ or_right (is_sent calls items x) (is_taken calls items x) (taken_mark calls items s.place x g.sound (did_within calls lacked s.place (Act.Took x) took (slice_get_within calls s.place c at)))
  | inr taking ↦
      let d = did_within calls lacked s.place Act.Taking taking (slice_get_within calls s.place c at) in
      let one : d.call ≡ c = cc in
      absurd (none_some c.end (sym (ap (λ (y : Call). y.end) one) ∙ g.sound.waits s.place d) ended)
]

all_kept : (whole part : Rules) (calls lacked : List Call) (items : ℕ) (order : List Step) → Part whole part calls lacked items order → IsWhole (padded true part.closes calls items) (moved (goes_to part calls items order) order)
all_kept whole part calls lacked items order g place c is ended = elim (padded_split part.closes calls items place c is) [
  | inr late ↦ absurd (none_some c.end late.1 ended)
  | inl mine ↦
      let h = g.is.whole place c (get_front calls lacked place c mine) ended in
      let within = in_at h.step order h.at h.step_is in
      let there : slice_get calls h.step.place ≡ Some c = ap (slice_get calls) h.place_is ∙ mine in
      let stays = keeps_own calls items (first_if part.closes order) h.step (slice_get_within calls h.step.place c there) (own_counts whole part calls lacked items order g h.step c within there ended) in
      let at = at_in (record { place = h.step.place; act = h.step.act }) (moved (goes_to part calls items order) order) (in_moved (goes_to part calls items order) order h.step h.step.place within stays) in
      record { at = at.0; step = record { place = h.step.place; act = h.step.act }; step_is = at.1; place_is = h.place_is }
]

timely : (whole part : Rules) (calls lacked : List Call) (items : ℕ) (order : List Step) → Part whole part calls lacked items order → RespectsRealTime (padded true part.closes calls items) (moved (goes_to part calls items order) order)
timely whole part calls lacked items order g j k s t less s_is t_is ends =
    let o = origins (goes_to part calls items order) order s t (before_at s t (moved (goes_to part calls items order) order) j k less s_is t_is) in
    by o (padded_split part.closes calls items t.place ends.one ends.one_is) (padded_split part.closes calls items s.place ends.other ends.other_is)
  where
    by : Origins (goes_to part calls items order) order s t → (slice_get calls t.place ≡ Some ends.one) ⊎ IsEarly ends.one → (slice_get calls s.place ≡ Some ends.other) ⊎ IsEarly ends.other → ⊥
    by o (inr a) b = let both : None ≡ Some ends.end = sym a.1 ∙ ends.ended in cc
    by o (inl a) (inr b) = let zero_is = b.0 in let before = ends.before in omega (arith, zero_is, before)
    by o (inl a) (inl b) =
        let one : o.one.place ≡ s.place = goes_own calls items (first_if part.closes order) o.one s.place o.one_goes (slice_get_within calls s.place ends.other b) in
        let other : o.other.place ≡ t.place = goes_own calls items (first_if part.closes order) o.other t.place o.other_goes (slice_get_within calls t.place ends.one a) in
        in_time whole (calls ++ lacked) order g.is o.one o.other o.before (record {
          one = ends.one;
          other = ends.other;
          end = ends.end;
          one_is = get_front calls lacked o.other.place ends.one (ap (slice_get calls) other ∙ a);
          other_is = get_front calls lacked o.one.place ends.other (ap (slice_get calls) one ∙ b);
          ended = ends.ended;
          before = ends.before;
        })

in_line : (whole part : Rules) (calls lacked : List Call) (items : ℕ) (order : List Step) → Part whole part calls lacked items order → RespectsLines part.ties.items (moved (goes_to part calls items order) order)
in_line whole part calls lacked items order g i tie tie_is j k s t less s_is t_is later earlier =
    let o = origins (goes_to part calls items order) order s t (before_at s t (moved (goes_to part calls items order) order) j k less s_is t_is) in
    let l = g.rules.later i tie tie_is in
    let e = g.rules.earlier i tie tie_is in
    let one : o.one.place ≡ s.place = goes_own calls items (first_if part.closes order) o.one s.place o.one_goes (omega (arith, l, later)) in
    let other : o.other.place ≡ t.place = goes_own calls items (first_if part.closes order) o.other t.place o.other_goes (omega (arith, e, earlier)) in
    let r = g.rules.ties i tie tie_is in
    let at = at_before o.one o.other order o.before in
    g.is.in_line r.0 tie r.1 at.0 at.1 o.one o.other at.2 at.3 at.4 (one ∙ later) (other ∙ earlier)

late_order : (whole part : Rules) (calls lacked : List Call) (items : ℕ) (order : List Step) → Part whole part calls lacked items order → IsOrder part (padded true part.closes calls items) (moved (goes_to part calls items order) order)
late_order whole part calls lacked items order g = record {
  each = of_log whole part calls lacked items order g;
  once = once whole part calls lacked items order g;
  whole = all_kept whole part calls lacked items order g;
  in_time = timely whole part calls lacked items order g;
  in_line = in_line whole part calls lacked items order g;
  legal =
      subst (λ (capacity : Option ℕ). IsRun capacity [] (moved (goes_to part calls items order) order)) (sym g.rules.capacity)
      (moved_run (goes_to part calls items order) (counts calls items) (sorts calls items (first_if part.closes order)) order [] (runs whole (calls ++ lacked) order g.is));
  closing = λ closes.
      moved_closes (goes_to part calls items order) (first_if part.closes order) (keeps_close calls items (first_if part.closes order)) order false (g.is.closing (g.rules.closes closes))
      (inr (sym (ap (λ (b : Bool). first_if b order) closes)));
}

pub late_logs_are_linearizable : LateLogsAreLinearizable
late_logs_are_linearizable whole part calls lacked items sound rules differ is =
    (moved (goes_to part calls items is.0) is.0, late_order whole part calls lacked items is.0 (record { sound = sound; rules = rules; differ = differ; is = is.1 }))
