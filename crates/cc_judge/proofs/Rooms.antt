-- How many items may be in the queue at a time, by the numbers of sends and takes.
use Rattle.std.proofs.Common.{◌≡◌, ℕ, suc, ◌+◌, ◌<◌, ◌≤◌, inl, inr, Bool, true, false, List, [], ◌∷◌, ◌++◌, length, Option, Some, None, refl, sym, ap, ◌∙◌, subst, arith}
use Rattle.std.specs.List.{slice_get}
use Rattle.std.proofs.lemmas.Bool.{cases_lt}
use Rattle.std.proofs.lemmas.Option.{slice_get_within}
use Rattle.cc_judge.specs.Names.{Act, Call, Rooms, Rules}
use Rattle.cc_judge.specs.Checks.{IsFullCall}
use Rattle.cc_judge.specs.Counts.{AreFirst, AreSorted, HasTimes, Upto}
use Rattle.cc_judge.specs.Faultless.{NoFault}
use Rattle.cc_judge.specs.Faults.{Did, Differ, FewerAt, In, NotFull, Returned}
use Rattle.cc_judge.specs.Room.{AreLastRooms, AreRooms, AreTimes, FewerIn, FullsArePossible, HasBegun, IsLast, IsLastRoom, IsRoomIn, WasTaken}
use Rattle.cc_judge.proofs.Counting.{Counted}
use Rattle.cc_judge.proofs.Fewer.{Rest, fits, rest_of}
use Rattle.cc_judge.proofs.Listing.{pushed_at, rises, some_is, first_is}
use Rattle.cc_judge.proofs.Turns.{nat_cases}
use Rattle.cc_judge.proofs.Calls.{sent_one}

-- the item that a call sent or took
abbrev item_in : Act → ℕ
item_in (Act.Send item) = item
item_in (Act.Took item) = item
item_in _ = 0

abbrev item_of : Option Call → ℕ
item_of None = 0
item_of (Some call) = item_in call.act

abbrev items_of : List Call → List ℕ → List ℕ
items_of calls [] = []
items_of calls (p ∷ ps) = item_of (slice_get calls p) ∷ items_of calls ps

items_length : (calls : List Call) (ps : List ℕ) → length (items_of calls ps) ≡ length ps
items_length calls [] = refl
items_length calls (p ∷ ps) = ap suc (items_length calls ps)

item_in_items : (calls : List Call) (ps : List ℕ) (p : ℕ) → In p ps → In (item_of (slice_get calls p)) (items_of calls ps)
item_in_items calls [] p within = absurd within
item_in_items calls (q ∷ ps) p (inl here) = inl (ap (λ (x : ℕ). item_of (slice_get calls x)) here)
item_in_items calls (q ∷ ps) p (inr later) = inr (item_in_items calls ps p later)

item_did : (calls : List Call) (p : ℕ) (act : Act) → Did calls p act → item_of (slice_get calls p) ≡ item_in act
item_did calls p act d = ap item_of d.call_is ∙ ap item_in d.act_is

-- ---- as many items may be in the queue, or fewer

module _ (calls : List Call) (begins ends : List (ℕ × ℕ)) (t : AreTimes calls begins ends) (begun gone number time : ℕ) (b : Counted (HasBegun calls time) begun) (g : Counted (WasTaken calls time) gone) where
  inside : Rest b.places g.places
  inside = rest_of b.places g.places g.are.once (λ p within. b.are.all p (t.after time p (g.are.each p within)))

  pub enough : number + gone ≤ begun → FewerAt calls number time → ⊥
  enough le f =
      let once = inside.once b.are.once in
      let few = fits (λ send item. Did calls send (Act.Send item)) inside.rest f.may once.0 (λ send within. let s = b.are.each send (inside.each send within) in (
        s.0,
        (s.1, elim (f.others send s.0 s.1 s.2) [ inl has ↦ has | inr out ↦ absurd (once.1 send within (g.are.all send (s.0, out.0, s.1, out.1, out.2))) ]),
      )) (λ s u item one other. t.differ item s u one other) in
      omega (arith, few, f.fewer, inside.long, b.long, g.long, le)

  pub fewer : begun < number + gone → FewerAt calls number time
  fewer less = record {
    may = items_of calls inside.rest;
    fewer = omega (arith, less, inside.long, b.long, g.long, items_length calls inside.rest);
    others = λ send item d by. elim (inside.all send (b.are.all send (item, d, by))) [
      | inl taken ↦ let k = g.are.each send taken in inr (k.1, subst (λ (x : ℕ). Returned calls k.1 (Act.Took x)) (sent_one calls send k.0 item k.2 d) k.3, k.4)
      | inr had ↦ inl (subst (λ (x : ℕ). In x (items_of calls inside.rest)) (item_did calls send (Act.Send item) d) (item_in_items calls inside.rest send had))
    ];
  }

-- ---- the last time at which as many items may be in the queue

module _ (calls : List Call) (begins : List (ℕ × ℕ)) (number at begin send : ℕ) (up : AreSorted begins) (here : slice_get begins at ≡ Some (begin, send)) where
  -- fewer may be then
  still : (last : Option ℕ) → FewerAt calls number begin → IsLastRoom calls begins number at last → IsLastRoom calls begins number (at + 1) last
  still None few was = λ k t other less is. elim (nat_cases k at) [
    | inl same ↦ subst (FewerAt calls number) (first_is (begin, send) (t, other) (sym here ∙ ap (slice_get begins) (sym same) ∙ is)) few
    | inr apart ↦ was k t other (omega (arith, less, apart)) is
  ]
  still (Some time) few was = record {
    enough = was.enough;
    place = was.place;
    send = was.send;
    place_is = was.place_is;
    before = let less = was.before in omega (arith, less);
    later = λ k t other less is after. elim (nat_cases k at) [
      | inl same ↦ subst (FewerAt calls number) (first_is (begin, send) (t, other) (sym here ∙ ap (slice_get begins) (sym same) ∙ is)) few
      | inr apart ↦ was.later k t other (omega (arith, less, apart)) is after
    ];
  }

  -- as many may
  anew : (FewerAt calls number begin → ⊥) → IsLastRoom calls begins number (at + 1) (Some begin)
  anew much = record {
    enough = much;
    place = at;
    send = send;
    place_is = here;
    before = omega arith;
    later = λ k t other less is after. let le = rises (λ (x : ℕ × ℕ). x.0) begins k at (t, other) (begin, send) up (omega (arith, less)) is here in absurd (omega (arith, le, after));
  }

  pub last_more : (last next : Option ℕ) (holds : Bool) → (holds ≡ true → next ≡ Some begin) → (holds ≡ false → next ≡ last) → (holds ≡ true → FewerAt calls number begin → ⊥) → (holds ≡ false → FewerAt calls number begin)
      → IsLastRoom calls begins number at last → IsLastRoom calls begins number (at + 1) next
  last_more last next true now before much few was = subst (IsLastRoom calls begins number (at + 1)) (sym (now refl)) (anew (much refl))
  last_more last next false now before much few was = subst (IsLastRoom calls begins number (at + 1)) (sym (before refl)) (still last (few refl) was)

pub rooms_more : (calls : List Call) (begins : List (ℕ × ℕ)) (number at : ℕ) (rooms : List (Option ℕ)) (last : Option ℕ) → length rooms ≡ at → AreLastRooms calls begins number rooms → IsLastRoom calls begins number (at + 1) last
    → AreLastRooms calls begins number (rooms ++ last ∷ [])
rooms_more calls begins number at rooms last long were is k o got = elim (pushed_at rooms last o k got) [
  | inl had ↦ were k o had
  | inr new ↦
      let first = new.0 in
      let same : at + 1 ≡ suc k = omega (arith, first, long) in
      subst (λ (n : ℕ). IsLastRoom calls begins number n o) same (subst (IsLastRoom calls begins number (at + 1)) (sym new.1) is)
]

-- ---- the times of a log

pub times_of : (rules : Rules) (calls : List Call) (begins ends : List (ℕ × ℕ)) → Differ calls → NoFault rules calls → HasTimes (Upto (HasBegun calls)) begins → HasTimes (WasTaken calls) ends → AreTimes calls begins ends
times_of rules calls begins ends differ fine begun taken = record {
  differ = differ;
  after = λ time send w.
      let e = w.4 in
      let did : Did calls w.1 (Act.Took w.0) = record { call = e.call; call_is = e.call_is; act_is = ap (λ (c : Call). c.act) (some_is e.call w.3.call (sym e.call_is ∙ w.3.call_is)) ∙ w.3.act_is } in
      elim (cases_lt e.end w.2.call.begin) [
        | inl less ↦ absurd (fine.after send w.1 w.0 w.2 did (record { one = e.call; other = w.2.call; end = e.end; one_is = e.call_is; other_is = w.2.call_is; ended = e.ended; before = less }))
        | inr up ↦ let by = e.by in (w.0, w.2, record { call = w.2.call; call_is = w.2.call_is; by = omega (arith, up, by) })
      ];
  begun = begun;
  taken = taken;
}

-- ---- whether fewer may be at each time of a call

module _ (calls : List Call) (begins ends : List (ℕ × ℕ)) (number begin end n : ℕ) (t : AreTimes calls begins ends) (first : AreFirst begins n (suc end)) where
  -- a send that began by the end is one of the first of the list
  listed : (send item : ℕ) (one : Call) → slice_get calls send ≡ Some one → one.act ≡ Act.Send item → one.begin ≤ end → (k : ℕ) × (k < n) × (slice_get begins k ≡ Some (one.begin, send))
  listed send item one is act upto =
      let a = t.begun.all send (suc one.begin) (item, record { call = one; call_is = is; act_is = act }, record { call = one; call_is = is; by = omega arith }) in
      let b = (t.begun.each a.0 a.1 send a.2).0 (suc a.1) (omega arith) in
      let by = b.2.by in
      let begin = ap (λ (c : Call). c.begin) (some_is b.2.call one (sym b.2.call_is ∙ is)) in
      let less = a.3 in
      let at : a.1 ≡ one.begin = omega (arith, by, begin, less) in
      let here : slice_get begins a.0 ≡ Some (one.begin, send) = a.2 ∙ ap (λ (x : ℕ). Some (x, send)) at in
      (a.0, first.rest a.0 one.begin send here (omega (arith, upto)), here)

  -- there is no time at which as many may be, or the last one is before the begin
  pub fewer_none : FewerAt calls number begin → IsLastRoom calls begins number n None → FewerIn calls number begin end
  fewer_none few none = record {
    at_begin = few;
    at_sends = λ send item one is act from upto. let l = listed send item one is act upto in none l.0 one.begin send l.1 l.2;
  }

  pub fewer_before : (time : ℕ) → time < begin → FewerAt calls number begin → IsLast calls begins number n time → FewerIn calls number begin end
  fewer_before time less few last = record {
    at_begin = few;
    at_sends = λ send item one is act from upto. let l = listed send item one is act upto in last.later l.0 one.begin send l.1 l.2 (omega (arith, less, from));
  }

  -- it is one of the call's
  pub as_many_within : (time : ℕ) → begin ≤ time → IsLast calls begins number n time → FewerIn calls number begin end → ⊥
  as_many_within time from last few =
      let since = t.begun.each last.place time last.send last.place_is in
      let b = since.0 (suc time) (omega arith) in
      let by = b.2.by in
      let less = since.1 (suc b.1.call.begin) (b.0, b.1, record { call = b.1.call; call_is = b.1.call_is; by = omega arith }) in
      let same = ap (λ (c : Call). c.begin) (some_is b.1.call b.2.call (sym b.1.call_is ∙ b.2.call_is)) in
      let is : b.1.call.begin ≡ time = omega (arith, by, less, same) in
      let early = first.first last.place time last.send last.before last.place_is in
      last.enough (subst (FewerAt calls number) is (few.at_sends last.send b.0 b.1.call b.1.call_is b.1.act_is (omega (arith, from, is)) (omega (arith, early, is))))

-- a call that found the queue full
pub not_full_so : (rules : Rules) (calls : List Call) (place number begin end : ℕ) → rules.capacity ≡ Some number → IsFullCall calls place begin end → FewerIn calls number begin end → NotFull rules calls place
not_full_so rules calls place number begin end capacity full few = record { capacity = number; capacity_is = capacity; begin = begin; end = end; full = full; at_begin = few.at_begin; at_sends = few.at_sends }

pub fewer_so : (rules : Rules) (calls : List Call) (place number begin end : ℕ) → rules.capacity ≡ Some number → IsFullCall calls place begin end → NotFull rules calls place → FewerIn calls number begin end
fewer_so rules calls place number begin end capacity full nf =
    let size : nf.capacity ≡ number = some_is nf.capacity number (sym nf.capacity_is ∙ capacity) in
    let same : nf.full.0 ≡ full.0 = some_is nf.full.0 full.0 (sym nf.full.1 ∙ full.1) in
    let begins : nf.begin ≡ begin = sym nf.full.3 ∙ ap (λ (c : Call). c.begin) same ∙ full.3 in
    let ends : nf.end ≡ end = some_is nf.end end (sym nf.full.4 ∙ ap (λ (c : Call). c.end) same ∙ full.4) in
    subst (λ (m : ℕ). FewerIn calls m begin end) size (subst (λ (b : ℕ). FewerIn calls nf.capacity b end) begins (subst (FewerIn calls nf.capacity nf.begin) ends
    (record { at_begin = nf.at_begin; at_sends = nf.at_sends })))

-- none so far, and so none of all
pub none_full : (rules : Rules) (calls : List Call) (i : ℕ) → length calls ≤ i → ((place : ℕ) → place < i → NotFull rules calls place → ⊥) → FullsArePossible rules calls
none_full rules calls i end none place nf = let within = slice_get_within calls place nf.full.0 nf.full.1 in none place (omega (arith, within, end)) nf

-- the last of the times of so many sends
pub some_room : (calls : List Call) (r : Rooms) (n time : ℕ) (last : Option ℕ) → AreRooms calls r → AreFirst r.begins.items n (suc time) → IsRoomIn r.last.items n (Some last) → (x : ℕ) × AreFirst r.begins.items x (suc time) × IsLastRoom calls r.begins.items r.number x last
some_room calls r n time last rooms first is = (n, first, subst (λ (m : ℕ). IsLastRoom calls r.begins.items r.number m last) is.1 (rooms.last is.0 last is.2))

pub no_room : (calls : List Call) (r : Rooms) (n time : ℕ) → AreRooms calls r → AreFirst r.begins.items n (suc time) → IsRoomIn r.last.items n None → (x : ℕ) × AreFirst r.begins.items x (suc time) × IsLastRoom calls r.begins.items r.number x None
no_room calls r n time rooms first (inl empty) = (n, first, λ k at send less is. absurd (omega (arith, empty, less)))
no_room calls r n time rooms first (inr past) = let long = rooms.long in let within = first.within in absurd (omega (arith, past, long, within))
