-- What is known of a call from a time on.
use Rattle.std.proofs.Common.{◌≡◌, ℕ, zero, suc, ◌<◌, inl, inr, List, length, max, Option, Some, None, IsSome, IfSome, IfNone, refl, sym, ap, ◌∙◌, subst, arith}
use Rattle.std.specs.List.{slice_get}
use Rattle.std.proofs.lemmas.Option.{slice_get_within}
use Rattle.cc_judge.specs.Names.{Act, Call, Index, Known, Rules}
use Rattle.cc_judge.specs.Counts.{AreSorted, HasTimes, Since, Upto}
use Rattle.cc_judge.specs.Faults.{Did}
use Rattle.cc_judge.specs.Table.{IsIndex}
use Rattle.cc_judge.specs.Room.{IsKnown, IsTakeOf, MayBeGone, WasTaken}
use Rattle.cc_judge.proofs.Listing.{ListOf, some_is}
use Rattle.cc_judge.proofs.Sweeping.{since_upto, took_one}
use Rattle.cc_judge.proofs.Calls.{sent_one}

-- it is known of a call of the log
within : (rules : Rules) (calls : List Call) (what : Known) (time place : ℕ) → IsKnown rules calls what time place → place < length calls
within rules calls Known.Left time place k = slice_get_within calls place k.sent_by.sent.call k.sent_by.sent.call_is
within rules calls Known.Waits zero place k = absurd k
within rules calls Known.Waits (suc time) place k = slice_get_within calls place k.0.call k.0.call_is
within rules calls Known.Begun zero place k = absurd k
within rules calls Known.Begun (suc time) place k = slice_get_within calls place k.1.call k.1.call_is
within rules calls Known.Taken time place k = slice_get_within calls place k.2.call k.2.call_is
within rules calls Known.Sent time place k = slice_get_within calls place k.1.call k.1.call_is
within rules calls Known.Gone zero place k = absurd k
within rules calls Known.Gone (suc time) place k = slice_get_within calls place k.2.call k.2.call_is

pub has_times : (rules : Rules) (calls : List Call) (what : Known) (list : List (ℕ × ℕ)) → ListOf (Since (IsKnown rules calls what)) list (length calls) → AreSorted list → HasTimes (IsKnown rules calls what) list
has_times rules calls what list l sorted = record {
  each = λ k t y is. l.each k t y is;
  all = λ y later known. elim (l.all y (within rules calls what later y known)) [
    | inl none ↦ absurd (none later known)
    | inr had ↦ (had.0, had.1, had.2, (l.each had.0 had.1 y had.2).1 later known)
  ];
  apart = λ j k t u y j_is k_is. l.apart j k t u y j_is k_is;
  sorted = sorted;
}

-- ---- sends

pub take_some : (calls : List Call) (index : Index) (item place : ℕ) (found : Option Call) → IsIndex calls index → slice_get index.takes.items item ≡ Some (Some place) → IfSome found (λ call. slice_get calls place ≡ Some call) → IfNone found (slice_get calls place ≡ None) → IsTakeOf calls item found
take_some calls index item place None indexed tabled some none =
    let d = indexed.takes.each place item tabled in
    let both : Some d.call ≡ None = sym d.call_is ∙ none in
    absurd (cc (both))
take_some calls index item place (Some call) indexed tabled some none =
    let d = indexed.takes.each place item tabled in
    (place, d, some_is d.call call (sym d.call_is ∙ some), λ other took. took_one calls index indexed item other place took d)

-- a send and the call that took its item
module _ (calls : List Call) (place item : ℕ) (sent : Did calls place (Act.Send item)) where
  item_is : (other : ℕ) → Did calls place (Act.Send other) → other ≡ item
  item_is other d = sent_one calls place other item d sent

  pub untaken : IsTakeOf calls item None → (time : ℕ) → WasTaken calls time place → ⊥
  untaken none time w = none w.1 (subst (λ (x : ℕ). Did calls w.1 (Act.Took x)) (item_is w.0 w.2) (record { call = w.3.call; call_is = w.3.call_is; act_is = w.3.act_is }))

  pub never_gone : IsTakeOf calls item None → (time : ℕ) → MayBeGone calls time place → ⊥
  never_gone none time g = none g.1 (subst (λ (x : ℕ). Did calls g.1 (Act.Took x)) (item_is g.0 g.2) g.4)

  module _ (take : Call) (is : IsTakeOf calls item (Some take)) where
    -- the take of the send is this call
    this : (other at : ℕ) (c : Call) → Did calls place (Act.Send other) → slice_get calls at ≡ Some c → c.act ≡ Act.Took other → c ≡ take
    this other at c d at_is act =
        let same = is.3 at (record { call = c; call_is = at_is; act_is = act ∙ ap Act.Took (item_is other d) }) in
        some_is c is.1.call (sym at_is ∙ ap (slice_get calls) same ∙ is.1.call_is) ∙ is.2

    pub taken_at : (end : Option ℕ) → take.end ≡ end → Since (WasTaken calls) place end
    taken_at None ends = λ time w.
        let same = this w.0 w.1 w.3.call w.2 w.3.call_is w.3.act_is in
        let none : IsSome {T = ℕ} None = subst IsSome (ap (λ (c : Call). c.end) same ∙ ends) w.3.ended in
        absurd (cc none)
    taken_at (Some end) ends = (
      λ time less. (
        item,
        is.0,
        sent,
        record { call = is.1.call; call_is = is.1.call_is; act_is = is.1.act_is; ended = subst IsSome (sym (ap (λ (c : Call). c.end) is.2 ∙ ends)) refl },
        record { call = is.1.call; call_is = is.1.call_is; end = end; ended = ap (λ (c : Call). c.end) is.2 ∙ ends; by = less },
      ),
      λ time w.
          let one = some_is w.4.call w.3.call (sym w.4.call_is ∙ w.3.call_is) ∙ this w.0 w.1 w.3.call w.2 w.3.call_is w.3.act_is in
          let same = some_is w.4.end end (sym w.4.ended ∙ ap (λ (c : Call). c.end) one ∙ ends) in
          let by = w.4.by in
          omega (arith, by, same),
    )

    pub gone_at : (end from : ℕ) → sent.call.end ≡ Some end → from ≡ max end take.begin → Since (Upto (MayBeGone calls)) place (Some from)
    gone_at end from ends most = since_upto (MayBeGone calls) place from (λ time le. (
      item,
      is.0,
      sent,
      record { call = sent.call; call_is = sent.call_is; end = end; ended = ends; by = omega (arith, le, most) },
      is.1,
      record { call = is.1.call; call_is = is.1.call_is; by = let begin = ap (λ (c : Call). c.begin) is.2 in omega (arith, le, most, begin) },
    )) (λ time g.
        let end_is = some_is g.3.end end (sym g.3.ended ∙ ap (λ (c : Call). c.end) (some_is g.3.call sent.call (sym g.3.call_is ∙ sent.call_is)) ∙ ends) in
        let begin = ap (λ (c : Call). c.begin) (some_is g.5.call g.4.call (sym g.5.call_is ∙ g.4.call_is) ∙ this g.0 g.1 g.4.call g.2 g.4.call_is g.4.act_is) in
        let one = g.3.by in
        let other = g.5.by in
        omega (arith, one, other, end_is, begin, most))
