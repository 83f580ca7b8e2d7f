-- How many items are in the queue for certain: exactly when they are more than a number.
use Rattle.std.proofs.Common.{◌≡◌, ℕ, zero, suc, ◌+◌, ◌-◌, ◌<◌, ◌≤◌, ◌⊎◌, inl, inr, Bool, true, false, List, [], ◌∷◌, ◌++◌, length, length-append, Option, Some, None, refl, sym, ap, ◌∙◌, subst, arith}
use Rattle.std.specs.List.{slice_get}
use Rattle.std.proofs.lemmas.Bool.{cases_lt}
use Rattle.std.proofs.lemmas.Option.{slice_get_within}
use Rattle.cc_judge.specs.Names.{Act, Call, Crowd, Held, Index, Known, Rules}
use Rattle.cc_judge.specs.Counts.{HasTimes, IsLeftBy, Since, Upto, WaitsBy, AreFirst}
use Rattle.cc_judge.specs.Faults.{BeganAfter, BeganBy, Did, In, MoreAt, TooMany}
use Rattle.cc_judge.specs.Faultless.{IsWritten}
use Rattle.cc_judge.specs.Sweeps.{IsShutAt}
use Rattle.cc_judge.specs.Table.{IsIndex}
use Rattle.cc_judge.specs.Room.{AreAll, AreHeld, HasSent, IsCrowd, IsKnown, ItemsFit, MayBeGone, Remains, RemainsIf}
use Rattle.cc_judge.proofs.Counting.{Counted, counted}
use Rattle.cc_judge.proofs.Fewer.{Rest, are_in, fits, in_or_not, rest_of, some_or_none, split}
use Rattle.cc_judge.proofs.Listing.{some_is}
use Rattle.cc_judge.proofs.NoOrder.{differ}
use Rattle.cc_judge.proofs.Sweeping.{returned_take, took_one}
use Rattle.cc_judge.proofs.Turns.{nat_cases}
use Rattle.cc_judge.proofs.Calls.{sent_one, took_item}

in_front : (xs ys : List ℕ) (x : ℕ) → In x xs → In x (xs ++ ys)
in_front [] ys x within = absurd within
in_front (y ∷ xs) ys x (inl here) = inl here
in_front (y ∷ xs) ys x (inr later) = inr (in_front xs ys x later)

in_behind : (xs ys : List ℕ) (x : ℕ) → In x ys → In x (xs ++ ys)
in_behind [] ys x within = within
in_behind (y ∷ xs) ys x within = inr (in_behind xs ys x within)

module _ (rules : Rules) (calls : List Call) (h : Held) (is : AreHeld rules calls h) (number time : ℕ) where
  -- a call began by the time, or after it
  when : (take : ℕ) (c : Call) → slice_get calls take ≡ Some c → BeganBy calls take time ⊎ BeganAfter calls take time
  when take c at = elim (cases_lt time c.begin) [
    | inl after ↦ inr (record { call = c; call_is = at; after = after })
    | inr by ↦ inl (record { call = c; call_is = at; by = by })
  ]

  not_both : (take : ℕ) → BeganBy calls take time → BeganAfter calls take time → ⊥
  not_both take b a =
      let same : b.call ≡ a.call = some_is b.call a.call (sym b.call_is ∙ a.call_is) in
      let by : a.call.begin ≤ time = subst (λ (c : Call). c.begin ≤ time) same b.by in
      let after = a.after in
      omega (arith, by, after)

  -- an item that is left was sent, and isn't gone
  left_sent : (send : ℕ) → IsLeftBy rules calls (suc time) send → HasSent calls (suc time) send
  left_sent send l = elim l.sent_by.done [
    | inl ended ↦ (l.item, l.sent_by.sent, ended)
    | inr out ↦ absurd (cc (is.opened, out.judged))
  ]

  left_there : (send : ℕ) → IsLeftBy rules calls (suc time) send → MayBeGone calls time send → ⊥
  left_there send l g = l.untaken g.1 (subst (λ (x : ℕ). Did calls g.1 (Act.Took x)) (sent_one calls send g.0 l.item g.2 l.sent_by.sent) g.4)

  gone_sent : (send : ℕ) → MayBeGone calls time send → HasSent calls (suc time) send
  gone_sent send g = (g.0, g.2, g.3)

  -- ---- more items are there than the number

  -- an item that was sent is gone, or remains, or is left
  where_is : (send : ℕ) → HasSent calls (suc time) send → (MayBeGone calls time send → ⊥) → Remains calls time false send ⊎ IsLeftBy rules calls (suc time) send
  where_is send s there = elim (is.taken s.0) [
    | inl t ↦ inl (record {
      sent = s;
      there = there;
      counts = inr (
        time + t.1.call.begin,
        (
          s.0,
          t.0,
          s.1,
          record { call = s.2.call; call_is = s.2.call_is; end = s.2.end; ended = s.2.ended; by = let by = s.2.by in omega (arith, by) },
          t.1,
          record { call = t.1.call; call_is = t.1.call_is; by = omega arith },
        ),
      );
    })
    | inr none ↦ inr (record { item = s.0; sent_by = record { sent = s.1; done = inl s.2 }; untaken = none })
  ]

  pub more_so : (left : Bool) (sends takes : List ℕ) → AreAll (Remains calls time left) sends → number + length takes < length sends → (left ≡ true → (take : ℕ) → WaitsBy calls time take → In take takes) → MoreAt calls sends number time
  more_so left sends takes are more waits = record {
    apart = are.once;
    each = λ send within. (are.each send within).sent;
    takes = takes;
    more = more;
    others = λ send item take within did may.
        let r = are.each send within in
        elim may [
          | inl took ↦ elim (when take took.call took.call_is) [
            | inr after ↦ inr after
            | inl by ↦ absurd (r.there (item, take, did, r.sent.2, took, by))
          ]
          | inr taking ↦ elim r.counts [
            | inl on ↦ elim (when take taking.0.call taking.0.call_is) [ inr after ↦ inr after | inl by ↦ inl (waits on take (taking.0, by)) ]
            | inr g ↦
                let same = sent_one calls send g.1.0 item g.1.2 did in
                absurd (taking.1 g.1.1 (returned_take calls g.1.1 item is.written (subst (λ (x : ℕ). Did calls g.1.1 (Act.Took x)) same g.1.4)))
          ]
        ];
  }

  module _ (s g : ℕ) (first_sent : AreFirst h.sent.items s (suc time)) (first_gone : AreFirst h.gone.items g (suc time)) where
    sent : Counted (HasSent calls (suc time)) s
    sent = counted (HasSent calls) h.sent.items s (suc time) is.sent first_sent

    gone : Counted (MayBeGone calls time) g
    gone = counted (Upto (MayBeGone calls)) h.gone.items g (suc time) is.gone first_gone

    left_by : (l : ℕ) → AreFirst h.left.items l (suc time) → Counted (IsLeftBy rules calls (suc time)) l
    left_by l first = counted (IsLeftBy rules calls) h.left.items l (suc time) is.left first

    waiting_by : (w : ℕ) → AreFirst h.waits.items w (suc time) → Counted (WaitsBy calls time) w
    waiting_by w first = counted (Upto (WaitsBy calls)) h.waits.items w (suc time) is.waits first

    pub more_taken : (l : ℕ) → AreFirst h.left.items l (suc time) → number + l < s - g → (sends : List ℕ) → AreAll (Remains calls time false) sends → MoreAt calls sends number time
    more_taken l first_left more sends are =
        let left = left_by l first_left in
        let all = sends ++ (left.places ++ gone.places) in
        let fit = are_in sent.places all sent.are.once (λ p within. elim (in_or_not p gone.places) [
          | inl out ↦ in_behind sends (left.places ++ gone.places) p (in_behind left.places gone.places p out)
          | inr there ↦ elim (where_is p (sent.are.each p within) (λ h. there (gone.are.all p h))) [
            | inl remains ↦ in_front sends (left.places ++ gone.places) p (are.all p remains)
            | inr is_left ↦ in_behind sends (left.places ++ gone.places) p (in_front left.places gone.places p (left.are.all p is_left))
          ]
        ]) in
        let sum = length-append sends (left.places ++ gone.places) in
        let other = length-append left.places gone.places in
        more_so false sends [] are (omega (arith, fit, sum, other, more, sent.long, gone.long, left.long)) (λ off. cc (off))

    pub more_left : (w : ℕ) → AreFirst h.waits.items w (suc time) → number + w < s - g → (sends : List ℕ) → AreAll (Remains calls time true) sends → MoreAt calls sends number time
    more_left w first_waits more sends are =
        let waits = waiting_by w first_waits in
        let fit = are_in sent.places (sends ++ gone.places) sent.are.once (λ p within. elim (in_or_not p gone.places) [
          | inl out ↦ in_behind sends gone.places p out
          | inr there ↦ in_front sends gone.places p (are.all p (record { sent = sent.are.each p within; there = λ h. there (gone.are.all p h); counts = inl refl }))
        ]) in
        let sum = length-append sends gone.places in
        more_so true sends waits.places are (omega (arith, fit, sum, more, sent.long, gone.long, waits.long)) (λ on take waiting. waits.are.all take waiting)

    -- ---- and only then

    inside : Rest sent.places gone.places
    inside = rest_of sent.places gone.places gone.are.once (λ p within. sent.are.all p (gone_sent p (gone.are.each p within)))

    stays : (send : ℕ) → HasSent calls (suc time) send → (MayBeGone calls time send → ⊥) → In send inside.rest
    stays send h there = elim (inside.all send (sent.are.all send h)) [ inl out ↦ absurd (there (gone.are.each send out)) | inr in_it ↦ in_it ]

    abbrev GoesBy : ℕ → ℕ → Type 0
    GoesBy send take = (item : ℕ) × Did calls send (Act.Send item) × Did calls take (Act.Took item)

    own : (one other take : ℕ) → GoesBy one take → GoesBy other take → one ≡ other
    own one other take a b = is.differ b.0 one other (subst (λ (x : ℕ). Did calls one (Act.Send x)) (took_item calls take a.0 b.0 a.2 b.2) a.1) b.1

    pub only_so : (l w : ℕ) → AreFirst h.left.items l (suc time) → AreFirst h.waits.items w (suc time) → (sends : List ℕ) → MoreAt calls sends number time → (number + l < s - g) ⊎ (number + w < s - g)
    only_so l w first_left first_waits sends m =
        let left = left_by l first_left in
        let waits = waiting_by w first_waits in
        let parts = split (λ p. MayBeGone calls time p) (λ p. MayBeGone calls time p → ⊥) sends m.apart (λ p within. elim (in_or_not p gone.places) [ inl out ↦ inl (gone.are.each p out) | inr there ↦ inr (λ h. there (gone.are.all p h)) ]) in
        let goes : (p : ℕ) → In p parts.ones → (take : ℕ) × (GoesBy p take × In take m.takes) = λ p within.
        let one = parts.each_one p within in
        let g = one.1 in
        elim (m.others p g.0 g.1 one.0 g.2 (inl g.4)) [ inl has ↦ (g.1, ((g.0, g.2, g.4), has)) | inr after ↦ absurd (not_both g.1 g.5 after) ] in
        elim (some_or_none (IsLeftBy rules calls (suc time)) (λ p. IsLeftBy rules calls (suc time) p → ⊥) parts.others (λ p within. elim (in_or_not p left.places) [ inl it ↦ inl (left.are.each p it) | inr out ↦ inr (λ h. out (left.are.all p h)) ])) [
          | inl some ↦
              let of = parts.each_other some.0 some.1 in
              let taken : (q : ℕ) → In q waits.places → In q m.takes = λ q within.
              let q_waits = waits.are.each q within in
              elim (m.others some.0 some.2.item q of.0 some.2.sent_by.sent (inr (q_waits.0, λ i r. some.2.untaken i (record { call = r.call; call_is = r.call_is; act_is = r.act_is })))) [ inl has ↦ has | inr after ↦ absurd (not_both q q_waits.1 after) ] in
              let free = rest_of m.takes waits.places waits.are.once taken in
              let few = fits GoesBy parts.ones free.rest parts.once.0 (λ p within. let t = goes p within in elim (free.all t.0 t.1.1) [
                | inr has ↦ (t.0, (t.1.0, has))
                | inl waiting ↦ absurd (cc ((waits.are.each t.0 waiting).0.call_is, (waits.are.each t.0 waiting).0.act_is, t.1.0.2.call_is, t.1.0.2.act_is))
              ]) own in
              let fit = are_in parts.others inside.rest parts.once.1 (λ p within. let o = parts.each_other p within in stays p (m.each p o.0) o.1) in
              inr (omega (arith, few, fit, m.more, parts.long, free.long, inside.long, sent.long, gone.long, waits.long))
          | inr none ↦
              let outer = rest_of inside.rest left.places left.are.once (λ p within. let it = left.are.each p within in stays p (left_sent p it) (left_there p it)) in
              let few = fits GoesBy parts.ones m.takes parts.once.0 goes own in
              let fit = are_in parts.others outer.rest parts.once.1 (λ p within. let o = parts.each_other p within in elim (outer.all p (stays p (m.each p o.0) o.1)) [
                | inr has ↦ has
                | inl it ↦ absurd (none p within (left.are.each p it))
              ]) in
              inl (omega (arith, few, fit, m.more, parts.long, outer.long, inside.long, sent.long, gone.long, left.long))
        ]

-- ---- at any time

-- a send that had ended by a time ended then, or before
ended_at : (calls : List Call) (list : List (ℕ × ℕ)) (time send : ℕ) → HasTimes (HasSent calls) list → HasSent calls (suc time) send → ((k : ℕ) × (slice_get list k ≡ Some (time, send))) ⊎ HasSent calls time send
ended_at calls list time send l sent =
    let a = l.all send (suc time) sent in
    let less = a.3 in
    elim (nat_cases a.1 time) [
      | inl same ↦ inl (a.0, a.2 ∙ ap (λ (t : ℕ). Some (t, send)) same)
      | inr other ↦ inr ((l.each a.0 a.1 send a.2).0 time (omega (arith, less, other)))
    ]

-- too many at a time are too many at the end of a send
pub at_end : (calls : List Call) (list : List (ℕ × ℕ)) (number time : ℕ) (sends : List ℕ) → HasTimes (HasSent calls) list → MoreAt calls sends number time → (k end send : ℕ) × (slice_get list k ≡ Some (end, send)) × MoreAt calls sends number end
at_end calls list number zero sends l m = elim (some_or_none (λ s. (k : ℕ) × (slice_get list k ≡ Some (0, s))) (HasSent calls 0) sends (λ s within. ended_at calls list 0 s l (m.each s within))) [
  | inl some ↦ (some.2.0, 0, some.0, some.2.1, m)
  | inr none ↦
      let few = are_in sends [] m.apart (λ s within. let by = (none s within).2.by in absurd (omega (arith, by))) in
      let more = m.more in
      absurd (omega (arith, few, more))
]
at_end calls list number (suc t) sends l m = elim (some_or_none (λ s. (k : ℕ) × (slice_get list k ≡ Some (suc t, s))) (HasSent calls (suc t)) sends (λ s within. ended_at calls list (suc t) s l (m.each s within))) [
  | inl some ↦ (some.2.0, suc t, some.0, some.2.1, m)
  | inr sent ↦ at_end calls list number t sends l (record {
    apart = m.apart;
    each = sent;
    takes = m.takes;
    more = m.more;
    others = λ send item take within did may. elim (m.others send item take within did may) [
      | inl has ↦ inl has
      | inr late ↦ let after = late.after in inr (record { call = late.call; call_is = late.call_is; after = omega (arith, after) })
    ];
  })
]

-- ---- as it is found

-- whether the item of a send remains, by the times from which on it was sent, and may be gone
module _ (calls : List Call) (time : ℕ) (left : Bool) (send : ℕ) where
  pub not_sent : Since (HasSent calls) send None → Remains calls time left send → ⊥
  not_sent none r = none (suc time) r.sent

  module _ (end : ℕ) (sent : Since (HasSent calls) send (Some end)) where
    pub not_yet : (so : Bool) → (so ≡ true → end ≤ time) → time < end → RemainsIf calls time left send so
    not_yet true by early = let le = by refl in absurd (omega (arith, early, le))
    not_yet false by early = λ r. let late = sent.1 (suc time) r.sent in omega (arith, late, early)

    pub until_gone : (from : ℕ) (so : Bool) → Since (Upto (MayBeGone calls)) send (Some from) → end ≤ time → (so ≡ true → time < from) → (so ≡ false → from ≤ time) → RemainsIf calls time left send so
    until_gone from true gone by before after = record {
      sent = sent.0 (suc time) (omega (arith, by));
      there = λ g. let late = gone.1 (suc time) g in let less = before refl in omega (arith, late, less);
      counts = inr (from, gone.0 (suc from) (omega arith));
    }
    until_gone from false gone by before after = λ r. let le = after refl in r.there (gone.0 (suc time) (omega (arith, le)))

    pub if_left : (so : Bool) → left ≡ so → Since (Upto (MayBeGone calls)) send None → end ≤ time → RemainsIf calls time left send so
    if_left true is none by = record { sent = sent.0 (suc time) (omega (arith, by)); there = none (suc time); counts = inl is }
    if_left false is none by = λ r. elim r.counts [ inl on ↦ cc (is, on) | inr gone ↦ none (suc gone.0) gone.1 ]

pub within : (calls : List Call) (time : ℕ) (left : Bool) (send : ℕ) → Remains calls time left send → send < length calls
within calls time left send r = slice_get_within calls send r.sent.1.call r.sent.1.call_is

-- the log as if closes weren't judged
abbrev pub opened : Rules → Rules
opened rules = record rules { closes = false }

pub at_open : (rules : Rules) (calls : List Call) → IsShutAt (opened rules) calls None
at_open rules calls judged = cc (judged)

-- lists that are right if the queue is open
abbrev Finds : List Call → Known → List (ℕ × ℕ) → Type 0
Finds calls what list = (rules : Rules) → IsShutAt rules calls None → HasTimes (IsKnown rules calls what) list

pub held_by : (rules : Rules) (calls : List Call) (index : Index) (h : Held) → IsIndex calls index → IsWritten calls → Finds calls Known.Sent h.sent.items → Finds calls Known.Gone h.gone.items → Finds calls Known.Left h.left.items → Finds calls Known.Waits h.waits.items → AreHeld (opened rules) calls h
held_by rules calls index h indexed written a b c d =
    let at = at_open rules calls in
    record {
      opened = refl;
      written = written;
      differ = differ calls index.sends.items indexed.sends;
      once = took_one calls index indexed;
      taken = λ item. taken_in item (slice_get index.takes.items item) refl;
      sent = a (opened rules) at;
      gone = b (opened rules) at;
      left = c (opened rules) at;
      waits = d (opened rules) at;
    }
  where
    taken_in : (item : ℕ) (o : Option (Option ℕ)) → slice_get index.takes.items item ≡ o → ((take : ℕ) × Did calls take (Act.Took item)) ⊎ ((take : ℕ) → Did calls take (Act.Took item) → ⊥)
    taken_in item (Some (Some take)) is = inl (take, indexed.takes.each take item is)
    taken_in item (Some None) is = inr (λ take d. let both : Some (Some take) ≡ Some None = sym (indexed.takes.all take item d) ∙ is in cc)
    taken_in item None is = inr (λ take d. let both : Some (Some take) ≡ None = sym (indexed.takes.all take item d) ∙ is in absurd (cc (both)))

-- the send ended then
pub many_so : (rules : Rules) (calls : List Call) (h : Held) (number : ℕ) (c : Crowd) (sends : List ℕ) → rules.capacity ≡ Some number → AreHeld (opened rules) calls h → IsCrowd h number c → AreAll (Remains calls c.time c.left) sends → TooMany rules calls c.call sends
many_so rules calls h number c sends capacity held crowd are =
    let since = held.sent.each crowd.at c.time c.call crowd.at_is in
    let s = since.0 (suc c.time) (omega arith) in
    let by = s.2.by in
    let less = since.1 (suc s.2.end) (s.0, s.1, record { call = s.2.call; call_is = s.2.call_is; end = s.2.end; ended = s.2.ended; by = omega arith }) in
    let same : s.2.end ≡ c.time = omega (arith, by, less) in
    record { capacity = number; capacity_is = capacity; end = c.time; ended = (s.2.call, s.2.call_is, s.2.ended ∙ ap Some same); held = crowd.more (opened rules) calls held sends are }

pub fit_so : (rules : Rules) (calls : List Call) (h : Held) (number : ℕ) → rules.capacity ≡ Some number → AreHeld (opened rules) calls h → ((time : ℕ) (sends : List ℕ) → MoreAt calls sends number time → ⊥) → ItemsFit rules calls
fit_so rules calls h number capacity held none other time sends is m = none time sends (subst (λ (n : ℕ). MoreAt calls sends n time) (some_is other number (sym is ∙ capacity)) m)

-- at the end of one send more it isn't so
pub on_crowd : (h : Held) (number at : ℕ) (x : ℕ × ℕ) → slice_get h.sent.items at ≡ Some x → ((rules : Rules) (calls : List Call) → AreHeld rules calls h → (sends : List ℕ) → MoreAt calls sends number x.0 → ⊥)
    → ((k time send : ℕ) → k < at → slice_get h.sent.items k ≡ Some (time, send) → (rules : Rules) (calls : List Call) → AreHeld rules calls h → (sends : List ℕ) → MoreAt calls sends number time → ⊥)
    → (k time send : ℕ) → k < at + 1 → slice_get h.sent.items k ≡ Some (time, send) → (rules : Rules) (calls : List Call) → AreHeld rules calls h → (sends : List ℕ) → MoreAt calls sends number time → ⊥
on_crowd h number at x here none so_far k time send below is rules calls held sends m = elim (nat_cases k at) [
  | inr other ↦ so_far k time send (omega (arith, below, other)) is rules calls held sends m
  | inl same ↦ none rules calls held sends (subst (λ (y : ℕ × ℕ). MoreAt calls sends number y.0) (some_is (time, send) x (sym is ∙ ap (slice_get h.sent.items) same ∙ here)) m)
]
