-- The calls of a log that was read are well-formed, and their items differ and are below their number.
use Rattle.std.proofs.Common.{◌≡◌, ◌≢◌, ◌<◌, ◌≤◌, ◌+◌, ◌-◌, ◌^◌, ◌++◌, ◌||◌, ◌⊎◌, inl, inr, ℕ, zero, suc, min, Bool, true, false, not, cond, if◌then◌else◌, List, [], ◌∷◌, length, Option, Some, None, IsSome, rules, option_map, unwrap_or, Result, Ok, Err, refl, sym, ap, subst, ◌∙◌, arith}
use Rattle.std.specs.Prelude.{replicate}
use Rattle.std.specs.List.{list_any, position_or_len, slice_get}
use Rattle.std.proofs.lemmas.Option.{slice_get_within}
use Rattle.indexmap.specs.IndexSet.{insert_key}
use Rattle.cc_judge.specs.Faults.{Did, Differ}
use Rattle.cc_judge.specs.Faultless.{IsWritten}
use Rattle.cc_judge.specs.Late.{early, early_close, lacking, mark_sent, padded, padding, sent_items, taken_items}
use Rattle.cc_judge.specs.Verdict.{AreBelow}
use Rattle.cc_judge.proofs.Listing.{at_pushed, last_pushed, pushed_at, some_is}
use Rattle.cc_judge.proofs.Marks.{get_split, marked, marks_sent, none_marked}
use Rattle.cc_log.specs.Names.{Act, Call, Line, Said, Tie}
use Rattle.cc_log.specs.Line.{Body}
use Rattle.cc_log.specs.Log.{Entry, Refusal, act_of, bodies_of, call_of, calls_of, differs, item_in, item_of, last_of, same_body, sender_of, sends, ties_of, unsent, with_item}
use Rattle.cc_log.specs.Written.{AreFair, AreTied, Fits, IsFair, IsWellFormed}
use Rattle.cc_log.proofs.Table.{one_body}
use Rattle.cc_log.proofs.Tied.{are_tied, new_of, one_of, still_tied}

-- ---- each call

-- a call ended no earlier than it began, and has an end if its act shows one
abbrev FitsAct : (end : Option ℕ) → Act → Type 0
FitsAct end (Act.Took item) = IsSome end
FitsAct end Act.Taking = end ≡ None
FitsAct end Act.Ended = IsSome end
FitsAct end _ = Unit {0}

record IsRight (c : Call) : Type 0 where
  timed : (e : ℕ) → c.end ≡ Some e → c.begin ≤ e
  fits : FitsAct c.end c.act

wider : (skew begin e t : ℕ) → begin < 2 ^ 64 → begin ≤ e → min (e + skew) (2 ^ 64 - 1) ≡ t → begin - skew ≤ t
wider skew begin e t low up is = omega arith

timed_by : (skew begin : ℕ) (end : Option ℕ) (t : ℕ) → begin < 2 ^ 64 → ((e : ℕ) → end ≡ Some e → begin ≤ e) → option_map (λ e. min (e + skew) (2 ^ 64 - 1)) end ≡ Some t → begin - skew ≤ t
timed_by skew begin None t low timed is = absurd (cc is)
timed_by skew begin (Some e) t low timed is = wider skew begin e t low (timed e refl) (some_is (min (e + skew) (2 ^ 64 - 1)) t is)

still_some : (skew : ℕ) (end : Option ℕ) → IsSome end → IsSome (option_map (λ e. min (e + skew) (2 ^ 64 - 1)) end)
still_some skew None some = some
still_some skew (Some e) some = some

fits_by : (skew : ℕ) (bodies : List Body) (end : Option ℕ) (said : Said) → Fits end said → FitsAct (option_map (λ e. min (e + skew) (2 ^ 64 - 1)) end) (act_of bodies said)
fits_by skew bodies end (Said.Send body) fits = tt
fits_by skew bodies end (Said.Took body) fits = still_some skew end fits
fits_by skew bodies end Said.FoundNone fits = tt
fits_by skew bodies end Said.Taking fits = ap (option_map (λ e. min (e + skew) (2 ^ 64 - 1))) fits
fits_by skew bodies end (Said.Full body) fits = tt
fits_by skew bodies end (Said.Closed body) fits = tt
fits_by skew bodies end Said.Ended fits = still_some skew end fits
fits_by skew bodies end Said.Close fits = tt

right_call : (skew : ℕ) (bodies : List Body) (line : Line) → IsFair line → IsRight (call_of skew bodies line)
right_call skew bodies line fair = record {
  timed = λ e is. timed_by skew line.begin line.end e fair.low fair.timed is;
  fits = fits_by skew bodies line.end line.said fair.fits;
}

right_calls : (skew : ℕ) (before : List Entry) → AreFair before → (p : ℕ) (c : Call) → slice_get (calls_of skew before) p ≡ Some c → IsRight c
right_calls skew [] fair p c is = absurd (cc is)
right_calls skew (e ∷ before) fair p c is = elim (pushed_at (calls_of skew before) (call_of skew (bodies_of before) e.line) c p is) [
  | inl had ↦ right_calls skew before fair.2 p c had
  | inr last ↦ subst IsRight (sym last.1) (right_call skew (bodies_of before) e.line fair.0)
]

written : (calls : List Call) → ((p : ℕ) (c : Call) → slice_get calls p ≡ Some c → IsRight c) → IsWritten calls
written calls right = record {
  timed = λ p c e is some. (right p c is).timed e some;
  waits = λ q d. subst (FitsAct d.call.end) d.act_is (right q d.call d.call_is).fits;
  took = λ q item d. subst (FitsAct d.call.end) d.act_is (right q d.call d.call_is).fits;
  ended = λ q d. subst (FitsAct d.call.end) d.act_is (right q d.call d.call_is).fits;
}

-- ---- items

onward : {X : Type 0} (x : X) (xs : List X) (n : ℕ) → slice_get (x ∷ xs) (1 + n) ≡ slice_get xs n
onward x xs n = ap (slice_get (x ∷ xs)) (let e : 1 + n ≡ suc n = omega arith in e)

module _ {K : Type 0} (eq : K → K → Bool) (sound : (x y : K) → eq x y ≡ true → x ≡ y) (k : K) where
  -- the key is at its place once it is inserted
  placed : (ks : List K) → slice_get (insert_key eq ks k) (position_or_len (eq k) ks) ≡ Some k
  placed [] = refl
  placed (x ∷ xs) = by (eq k x) (list_any (eq k) xs) refl refl (placed xs)
    where
      by : (b c : Bool) → eq k x ≡ b → list_any (eq k) xs ≡ c → slice_get (if c then xs else xs ++ k ∷ []) (position_or_len (eq k) xs) ≡ Some k
          → slice_get (if b || c then x ∷ xs else (x ∷ xs) ++ k ∷ []) (cond (not b) (1 + position_or_len (eq k) xs) 0) ≡ Some k
      by true c same any rest = ap Some (sym (sound k x same))
      by false true same any rest = onward x xs (position_or_len (eq k) xs) ∙ rest
      by false false same any rest = onward x (xs ++ k ∷ []) (position_or_len (eq k) xs) ∙ rest

  -- what is at its place is the key
  found : (ks : List K) (y : K) → slice_get ks (position_or_len (eq k) ks) ≡ Some y → k ≡ y
  found [] y is = absurd (cc is)
  found (x ∷ xs) y is = by (eq k x) refl (found xs y) is
    where
      by : (b : Bool) → eq k x ≡ b → (slice_get xs (position_or_len (eq k) xs) ≡ Some y → k ≡ y) → slice_get (x ∷ xs) (cond (not b) (1 + position_or_len (eq k) xs) 0) ≡ Some y → k ≡ y
      by true same later here = sound k x same ∙ some_is x y here
      by false same later rest = later (sym (onward x xs (position_or_len (eq k) xs)) ∙ rest)

-- an item keeps its body
kept : (bodies : List Body) (o : Option Body) (item : ℕ) (body : Body) → slice_get bodies item ≡ Some body → slice_get (with_item bodies o) item ≡ Some body
kept bodies None item body is = is
kept bodies (Some more) item body is = by (list_any (same_body more) bodies)
  where
    by : (b : Bool) → slice_get (if b then bodies else bodies ++ more ∷ []) item ≡ Some body
    by true = is
    by false = at_pushed bodies more body item is

-- the body that a call sent or took
record Sent (bodies : List Body) (said : Said) (item : ℕ) : Type 0 where
  body : Body
  said_is : said ≡ Said.Send body
  item_is : item_of bodies body ≡ item

sent_body : (bodies : List Body) (said : Said) (item : ℕ) → act_of bodies said ≡ Act.Send item → Sent bodies said item
sent_body bodies (Said.Send body) item is = record { body = body; said_is = refl; item_is = cc }
sent_body bodies (Said.Took body) item is = absurd (cc is)
sent_body bodies Said.FoundNone item is = absurd (cc is)
sent_body bodies Said.Taking item is = absurd (cc is)
sent_body bodies (Said.Full body) item is = absurd (cc is)
sent_body bodies (Said.Closed body) item is = absurd (cc is)
sent_body bodies Said.Ended item is = absurd (cc is)
sent_body bodies Said.Close item is = absurd (cc is)

took_body : (bodies : List Body) (said : Said) (item : ℕ) → act_of bodies said ≡ Act.Took item → (body : Body) × (said ≡ Said.Took body) × (item_of bodies body ≡ item)
took_body bodies (Said.Send body) item is = absurd (cc is)
took_body bodies (Said.Took body) item is = (body, refl, cc)
took_body bodies Said.FoundNone item is = absurd (cc is)
took_body bodies Said.Taking item is = absurd (cc is)
took_body bodies (Said.Full body) item is = absurd (cc is)
took_body bodies (Said.Closed body) item is = absurd (cc is)
took_body bodies Said.Ended item is = absurd (cc is)
took_body bodies Said.Close item is = absurd (cc is)

-- the item of a body that came in
came : (bodies : List Body) (o : Option Body) (body : Body) (item : ℕ) → o ≡ Some body → item_of bodies body ≡ item → slice_get (with_item bodies o) item ≡ Some body
came bodies o body item is at =
    subst (λ (n : ℕ). slice_get (with_item bodies o) n ≡ Some body) at
    (subst (λ (b : Option Body). slice_get (with_item bodies b) (item_of bodies body) ≡ Some body) (sym is) (placed same_body one_body body bodies))

-- the call did this before one more came, or it is that one
abbrev Earlier : (skew : ℕ) (e : Entry) (before : List Entry) (p : ℕ) → Act → Type 0
Earlier skew e before p act = Did (calls_of skew before) p act ⊎ ((p ≡ length (calls_of skew before)) × (act_of (bodies_of before) e.line.said ≡ act))

earlier : (skew : ℕ) (e : Entry) (before : List Entry) (p : ℕ) (act : Act) → Did (calls_of skew (e ∷ before)) p act → Earlier skew e before p act
earlier skew e before p act d = elim (pushed_at (calls_of skew before) (call_of skew (bodies_of before) e.line) d.call p d.call_is) [
  | inl had ↦ inl (record { call = d.call; call_is = had; act_is = d.act_is })
  | inr last ↦ inr (last.0, sym (ap (λ (c : Call). c.act) last.1) ∙ d.act_is)
]

-- ---- each item that was sent or taken is one of the bodies; one that was sent has a sender

still_sent : (b : Bool) (number : ℕ) (o : Option ℕ) → IsSome o → IsSome (if b then Some number else o)
still_sent true number o some = refl
still_sent false number o some = some

same_refl : (body : Body) → same_body body body ≡ true
same_refl body = search rules

now_sent : (body : Body) (number : ℕ) (o : Option ℕ) → IsSome (if same_body body body then Some number else o)
now_sent body number o = subst (λ (b : Bool). IsSome (if b then Some number else o)) (sym (same_refl body)) refl

record OfSend (before : List Entry) (item : ℕ) : Type 0 where
  body : Body
  at : slice_get (bodies_of before) item ≡ Some body
  sender : IsSome (sender_of body before)

of_send : (skew : ℕ) (before : List Entry) (p item : ℕ) → Did (calls_of skew before) p (Act.Send item) → OfSend before item
of_send skew [] p item d = let none = d.call_is in absurd (cc none)
of_send skew (e ∷ before) p item d = by (of_send skew before p item) (earlier skew e before p (Act.Send item) d)
  where
    by : (Did (calls_of skew before) p (Act.Send item) → OfSend before item) → Earlier skew e before p (Act.Send item) → OfSend (e ∷ before) item
    by of (inl had) =
        let o = of had in
        record { body = o.body; at = kept (bodies_of before) (item_in e.line.said) item o.body o.at; sender = still_sent (sends o.body e.line.said) e.number (sender_of o.body before) o.sender }
    by of (inr last) =
        let s = sent_body (bodies_of before) e.line.said item last.1 in
        record {
          body = s.body;
          at = came (bodies_of before) (item_in e.line.said) s.body item (ap item_in s.said_is) s.item_is;
          sender = subst (λ (said : Said). IsSome (if sends s.body said then Some e.number else sender_of s.body before)) (sym s.said_is) (now_sent s.body e.number (sender_of s.body before));
        }

of_take : (skew : ℕ) (before : List Entry) (p item : ℕ) → Did (calls_of skew before) p (Act.Took item) → (body : Body) × (slice_get (bodies_of before) item ≡ Some body)
of_take skew [] p item d = let none = d.call_is in absurd (cc none)
of_take skew (e ∷ before) p item d = by (of_take skew before p item) (earlier skew e before p (Act.Took item) d)
  where
    by : (Did (calls_of skew before) p (Act.Took item) → (body : Body) × (slice_get (bodies_of before) item ≡ Some body)) → Earlier skew e before p (Act.Took item) → (body : Body) × (slice_get (bodies_of (e ∷ before)) item ≡ Some body)
    by of (inl had) = let o = of had in (o.0, kept (bodies_of before) (item_in e.line.said) item o.0 o.1)
    by of (inr last) = let s = took_body (bodies_of before) e.line.said item last.1 in (s.0, came (bodies_of before) (item_in e.line.said) s.0 item (ap item_in s.1) s.2)

below : (skew : ℕ) (before : List Entry) → AreBelow (calls_of skew before) (length (bodies_of before))
below skew before = record {
  sent = λ p item d. let o = of_send skew before p item d in slice_get_within (bodies_of before) item o.body o.at;
  took = λ p item d. let o = of_take skew before p item d in slice_get_within (bodies_of before) item o.0 o.1;
}

-- ---- no item is sent twice

refused : (number : ℕ) (o : Option ℕ) → IsSome o → unsent number o ≡ Ok tt → ⊥
refused number None some is = absurd (cc some)
refused number (Some line) some is = cc

-- the item of a call of a body that has no sender isn't that of an earlier send
clash : (skew : ℕ) (e : Entry) (before : List Entry) (p item : ℕ) → differs e.number e.line.said (λ body. sender_of body before) ≡ Ok tt
    → Did (calls_of skew before) p (Act.Send item) → act_of (bodies_of before) e.line.said ≡ Act.Send item → ⊥
clash skew e before p item differ d new =
    let o = of_send skew before p item d in
    let s = sent_body (bodies_of before) e.line.said item new in
    let same : s.body ≡ o.body = found same_body one_body s.body (bodies_of before) o.body (ap (slice_get (bodies_of before)) s.item_is ∙ o.at) in
    refused e.number (sender_of s.body before) (subst (λ (body : Body). IsSome (sender_of body before)) (sym same) o.sender)
    (subst (λ (said : Said). differs e.number said (λ body. sender_of body before) ≡ Ok tt) s.said_is differ)

differ : (skew : ℕ) (before : List Entry) → AreFair before → Differ (calls_of skew before)
differ skew [] fair item i j one other = let none = one.call_is in absurd (cc none)
differ skew (e ∷ before) fair item i j one other = by (differ skew before fair.2 item i j) (earlier skew e before i (Act.Send item) one) (earlier skew e before j (Act.Send item) other)
  where
    new : differs e.number e.line.said (λ body. sender_of body before) ≡ Ok tt
    new = new_of e (last_of e.thread before) (λ body. sender_of body before) fair.1

    by : (Did (calls_of skew before) i (Act.Send item) → Did (calls_of skew before) j (Act.Send item) → i ≡ j) → Earlier skew e before i (Act.Send item) → Earlier skew e before j (Act.Send item) → i ≡ j
    by old (inl a) (inl b) = old a b
    by old (inl a) (inr b) = absurd (clash skew e before i item new a b.1)
    by old (inr a) (inl b) = absurd (clash skew e before j item new b a.1)
    by old (inr a) (inr b) = a.0 ∙ sym b.0

-- ---- with the calls that a part may lack

record IsLacking (c : Call) : Type 0 where
  right : IsRight c
  no_take : (item : ℕ) → c.act ≡ Act.Took item → ⊥

lacking_is : (item : ℕ) (a b : Bool) (k : ℕ) (c : Call) → slice_get (lacking a b item) k ≡ Some c → IsLacking c
lacking_is item false true k c is =
    subst IsLacking (one_of (early (Act.Send item)) c k is).1 (record { right = record { timed = λ e some. absurd (cc some); fits = tt }; no_take = λ other took. absurd (cc took) })
lacking_is item true false k c is =
    subst IsLacking (one_of (early Act.Taking) c k is).1 (record { right = record { timed = λ e some. absurd (cc some); fits = refl }; no_take = λ other took. absurd (cc took) })
lacking_is item false false k c is = absurd (cc is)
lacking_is item true true k c is = absurd (cc is)

padding_is : (sent taken : List Bool) (n k : ℕ) (c : Call) → slice_get (padding sent taken n) k ≡ Some c → IsLacking c
padding_is sent taken zero k c is = absurd (cc is)
padding_is sent taken (suc n) k c is = elim (get_split (padding sent taken n) (lacking (unwrap_or (slice_get sent n) false) (unwrap_or (slice_get taken n) false) n) k c is) [
  | inl front ↦ padding_is sent taken n k c front
  | inr behind ↦ lacking_is n (unwrap_or (slice_get sent n) false) (unwrap_or (slice_get taken n) false) behind.0 c behind.2
]

close_is : (b : Bool) (k : ℕ) (c : Call) → slice_get (early_close b) k ≡ Some c → (c ≡ early Act.Close) × IsLacking c
close_is false k c is = absurd (cc is)
close_is true k c is =
    let same = (one_of (early Act.Close) c k is).1 in
    (sym same, subst IsLacking same (record { right = record { timed = λ e some. absurd (cc some); fits = tt }; no_take = λ other took. absurd (cc took) }))

-- the sends among them, by their places
lacking_send : (n item : ℕ) (a b : Bool) (k : ℕ) (c : Call) → slice_get (lacking a b n) k ≡ Some c → c.act ≡ Act.Send item → (k ≡ 0) × (n ≡ item) × (a ≡ false)
lacking_send n item false true k c is act =
    let o = one_of (early (Act.Send n)) c k is in
    let same : Act.Send n ≡ Act.Send item = ap (λ (d : Call). d.act) o.1 ∙ act in
    (o.0, cc same, refl)
lacking_send n item true false k c is act =
    let o = one_of (early Act.Taking) c k is in
    let same : Act.Taking ≡ Act.Send item = ap (λ (d : Call). d.act) o.1 ∙ act in
    absurd (cc same)
lacking_send n item false false k c is act = absurd (cc is)
lacking_send n item true true k c is act = absurd (cc is)

padding_send : (sent taken : List Bool) (n item k : ℕ) (c : Call) → slice_get (padding sent taken n) k ≡ Some c → c.act ≡ Act.Send item
    → (k ≡ length (padding sent taken item)) × (item < n) × (unwrap_or (slice_get sent item) false ≡ false)
padding_send sent taken zero item k c is act = absurd (cc is)
padding_send sent taken (suc n) item k c is act = elim (get_split (padding sent taken n) (lacking (unwrap_or (slice_get sent n) false) (unwrap_or (slice_get taken n) false) n) k c is) [
  | inl front ↦ let h = padding_send sent taken n item k c front act in (h.0, (let less = h.1 in omega (arith, less)), h.2)
  | inr behind ↦
      let l = lacking_send n item (unwrap_or (slice_get sent n) false) (unwrap_or (slice_get taken n) false) behind.0 c behind.2 act in
      let first = l.0 in
      let at = behind.1 in
      let here : k ≡ length (padding sent taken n) = omega (arith, first, at) in
      (here ∙ ap (λ (i : ℕ). length (padding sent taken i)) l.1, (let same = l.1 in omega (arith, same)), ap (λ (i : ℕ). unwrap_or (slice_get sent i) false) (sym l.1) ∙ l.2)
]

-- the calls of a log with those that it may lack
abbrev Padding : List Call → (items n : ℕ) → List Call
Padding calls items n = padding (sent_items items calls) (taken_items items calls) n

padded_is : (closes : Bool) (calls : List Call) (items p : ℕ) (c : Call) → slice_get (padded true closes calls items) p ≡ Some c → (slice_get calls p ≡ Some c) ⊎ IsLacking c
padded_is closes calls items p c is = elim (get_split (calls ++ Padding calls items items) (early_close closes) p c is) [
  | inr behind ↦ inr (close_is closes behind.0 c behind.2).1
  | inl front ↦ elim (get_split calls (Padding calls items items) p c front) [
    | inl mine ↦ inl mine
    | inr behind ↦ inr (padding_is (sent_items items calls) (taken_items items calls) items behind.0 c behind.2)
  ]
]

-- a send of the log, or one that it may lack
abbrev OrLacking : List Call → (items p item : ℕ) → Type 0
OrLacking calls items p item =
    Did calls p (Act.Send item) ⊎ ((p ≡ length calls + length (Padding calls items item)) × (item < items) × (unwrap_or (slice_get (sent_items items calls) item) false ≡ false))

padded_send : (closes : Bool) (calls : List Call) (items p item : ℕ) → Did (padded true closes calls items) p (Act.Send item) → OrLacking calls items p item
padded_send closes calls items p item d = elim (get_split (calls ++ Padding calls items items) (early_close closes) p d.call d.call_is) [
  | inr behind ↦
      let same : Act.Close ≡ Act.Send item = sym (ap (λ (c : Call). c.act) (close_is closes behind.0 d.call behind.2).0) ∙ d.act_is in
      absurd (cc same)
  | inl front ↦ elim (get_split calls (Padding calls items items) p d.call front) [
    | inl mine ↦ inl (record { call = d.call; call_is = mine; act_is = d.act_is })
    | inr behind ↦
        let h = padding_send (sent_items items calls) (taken_items items calls) items item behind.0 d.call behind.2 d.act_is in
        inr (behind.1 ∙ ap (λ (k : ℕ). length calls + k) h.0, h.1, h.2)
  ]
]

-- the item of a send is marked
sent_marked : (calls : List Call) (items p item : ℕ) → item < items → Did calls p (Act.Send item) → unwrap_or (slice_get (sent_items items calls) item) false ≡ true
sent_marked calls items p item less d = ap (λ (o : Option Bool). unwrap_or o false) (marked mark_sent Act.Send marks_sent calls (replicate items false) p item d.call false (none_marked items item less) d.call_is d.act_is)

module _ (skew : ℕ) (calls : List Call) (items : ℕ) (ties : List Tie) (closes : Bool) (right : (p : ℕ) (c : Call) → slice_get calls p ≡ Some c → IsRight c) (well : IsWellFormed skew calls items ties) where
  padded_right : (p : ℕ) (c : Call) → slice_get (padded true closes calls items) p ≡ Some c → IsRight c
  padded_right p c is = elim (padded_is closes calls items p c is) [ inl mine ↦ right p c mine | inr lacking ↦ lacking.right ]

  both_marked : (p item : ℕ) → Did calls p (Act.Send item) → unwrap_or (slice_get (sent_items items calls) item) false ≡ false → ⊥
  both_marked p item d off = let on = sent_marked calls items p item (well.below.sent p item d) d in let no : true ≡ false = sym on ∙ off in absurd (cc no)

  padded_differ : Differ (padded true closes calls items)
  padded_differ item i j one other = by (padded_send closes calls items i item one) (padded_send closes calls items j item other)
    where
      by : OrLacking calls items i item → OrLacking calls items j item → i ≡ j
      by (inl a) (inl b) = well.differ item i j a b
      by (inl a) (inr b) = absurd (both_marked i item a b.2)
      by (inr a) (inl b) = absurd (both_marked j item b a.2)
      by (inr a) (inr b) = a.0 ∙ sym b.0

  padded_well : IsWellFormed skew (padded true closes calls items) items ties
  padded_well = record {
    written = written (padded true closes calls items) padded_right;
    differ = padded_differ;
    below = record {
      sent = λ p item d. elim (padded_send closes calls items p item d) [ inl mine ↦ well.below.sent p item mine | inr lacking ↦ lacking.1 ];
      took = λ p item d. elim (padded_is closes calls items p d.call d.call_is) [
        | inl mine ↦ well.below.took p item (record { call = d.call; call_is = mine; act_is = d.act_is })
        | inr lacking ↦ absurd (lacking.no_take item d.act_is)
      ];
    };
    tied = λ i tie is. still_tied skew (calls ++ Padding calls items items) (early_close closes) tie (still_tied skew calls (Padding calls items items) tie (well.tied i tie is));
  }

-- ---- the log

well_formed : (skew : ℕ) (before : List Entry) → AreFair before → IsWellFormed skew (calls_of skew before) (length (bodies_of before)) (ties_of skew before)
well_formed skew before fair = record { written = written (calls_of skew before) (right_calls skew before fair); differ = differ skew before fair; below = below skew before; tied = are_tied skew before fair }

pub log_well_formed : (part closes : Bool) (skew : ℕ) (before : List Entry) → AreFair before → IsWellFormed skew (padded part closes (calls_of skew before) (length (bodies_of before))) (length (bodies_of before)) (ties_of skew before)
log_well_formed false closes skew before fair = well_formed skew before fair
log_well_formed true closes skew before fair = padded_well skew (calls_of skew before) (length (bodies_of before)) (ties_of skew before) closes (right_calls skew before fair) (well_formed skew before fair)
