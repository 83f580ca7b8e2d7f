-- What is found in the sorted calls of a log is a fault of it, or the log has none.
use Rattle.std.proofs.Common.{◌≡◌, ◌≢◌, ℕ, suc, ◌+◌, ◌<◌, ◌≤◌, ◌⊎◌, inl, inr, Bool, true, false, not, List, [], ◌∷◌, ◌++◌, length, Option, Some, None, IsSome, IfSome, IfNone, is_some, IsPermutation, refl, sym, ap, ◌∙◌, subst, arith}
use Rattle.std.specs.List.{slice_get}
use Rattle.cc_judge.specs.Names.{Act, Call, Kind, Rules, Index, Lists, Shut, Spell, Stay}
use Rattle.cc_judge.specs.Order.{EndsBefore}
use Rattle.cc_judge.specs.Faults.{Did, Differ, NeverSent, TakenTwice, Passed, WasClosed, WasOpen, ClosedEarly, BeganBy, BeganAfter}
use Rattle.cc_judge.specs.Table.{IsIndex, Twice}
use Rattle.cc_judge.specs.Counts.{SentBy, MoreLeft, AreEnough, IsInside, TookOver, LeftBehind, NeverEmpty, EndedWithItems}
use Rattle.cc_judge.specs.Faultless.{IsWritten, NoFault}
use Rattle.cc_judge.specs.Sweeps.{IsShut, IsOpen, IsShutAt, AreLists, IsSpell, IsLatest, IsPassedLast, AreTaken, WasSent, KeepsClosed, IsPair, KeepsTurn, KeepTurns, IsNone, HasMoment, HasEnd, MayBeEmpty, EmptyAt, HasEndedIf, IsWrittenCall, IsOfLefts}
use Rattle.std.proofs.lemmas.Bool.{cases_lt}
use Rattle.std.proofs.lemmas.Option.{slice_get_within}
use Rattle.std.proofs.lemmas.List.Sorted.{Contains-permutation, IsPermutation-sym}
use Rattle.cc_judge.specs.Verdict.{IsOvertaken, IsUntaken, AreUntaken, IsStay, AreStays}
use Rattle.cc_judge.proofs.Listing.{some_is, pushed_at, contains_at, at_contains}
use Rattle.cc_judge.proofs.Sweeping.{passed_by}
use Rattle.cc_judge.proofs.Calls.{is_some_of, some_end, took_item}
use Rattle.cc_judge.proofs.Turns.{less_or, one_at}

-- ---- closes

pub closed_early_so : (rules : Rules) (calls : List Call) (s : Shut) → IsWritten calls → IsShut rules calls s → ((p : ℕ) → Did calls p Act.Close → BeganAfter calls p s.time) → ClosedEarly rules calls s.call
closed_early_so rules calls s written shut after = elim shut.was_closed.shows [
  | inl close ↦
      let r = shut.was_closed.returned in
      let b = after s.call (record { call = r.call; call_is = r.call_is; act_is = r.act_is ∙ close }) in
      let le = written.timed s.call b.call s.time b.call_is (ap (λ (c : Call). c.end) (one_at calls s.call b.call shut.ends.0 b.call_is shut.ends.1) ∙ shut.ends.2) in
      let late = b.after in
      absurd (omega (arith, le, late))
  | inr answered ↦ record {
    judged = shut.judged;
    act = shut.was_closed.act;
    answered = answered;
    returned = shut.was_closed.returned;
    later = λ close did. let b = after close did in record { one = shut.ends.0; other = b.call; end = s.time; one_is = shut.ends.1; other_is = b.call_is; ended = shut.ends.2; before = b.after };
  }
]

pub keeps_unshut : (rules : Rules) (calls : List Call) → IsOpen rules calls → KeepsClosed rules calls
keeps_unshut rules calls none = record {
  still_open = λ judged closed send was_closed was_open before. none judged closed was_closed;
  closed = λ judged call was_closed. absurd (none judged call was_closed);
}

pub keeps_shut : (rules : Rules) (calls : List Call) (s : Shut) (close : ℕ) → IsShut rules calls s → Did calls close Act.Close → BeganBy calls close s.time → ((p : ℕ) → WasOpen calls p → BeganAfter calls p s.time → ⊥) → KeepsClosed rules calls
keeps_shut rules calls s close shut did begun none = record {
  still_open = λ judged closed send was_closed was_open before.
      let le = shut.first closed before.end was_closed (before.one, before.one_is, before.ended) in
      let less = before.before in
      none send was_open (record { call = before.other; call_is = before.other_is; after = omega (arith, le, less) });
  closed = λ judged call was_closed. (
    close,
    did,
    λ before.
        let le = shut.first call before.end was_closed (before.one, before.one_is, before.ended) in
        let less = before.before in
        let by = begun.by in
        let same = ap (λ (c : Call). c.begin) (one_at calls close before.other begun.call before.other_is begun.call_is) in
        omega (arith, le, less, by, same),
  );
}

-- ---- items that were taken

module _ (rules : Rules) (calls : List Call) (written : IsWritten calls) (later_send later_take begin end : ℕ) (pair : IsPair calls later_send later_take begin end) where
  pub took_over_so : (lists : Lists) (s : Spell) → KeepsClosed rules calls → IsPassedLast rules calls lists begin end s → TookOver calls s.send s.take later_send later_take
  took_over_so lists s keeps last =
      let spell = last.spell in
      let less = last.later in
      let begins = spell.begins in
      record {
        earlier = passed_by calls s.send s.take spell.item written spell.sent spell.took;
        later = later;
        sent_first = first (spell.after begin last.before);
        apart = λ same.
            let here = ap (λ (c : Call). c.begin) (one_at calls later_take pair.took.call spell.took.call pair.took.call_is (ap (slice_get calls) same ∙ spell.took.call_is)) in
            let timed = written.timed later_take pair.took.call end pair.took.call_is pair.ends in
            omega (arith, less, begins, here, timed);
        taken_last = record { one = pair.took.call; other = spell.took.call; end = end; one_is = pair.took.call_is; other_is = spell.took.call_is; ended = pair.ends; before = omega (arith, less, begins) };
      }
    where
      later : Passed calls later_send later_take
      later = passed_by calls later_send later_take pair.item written pair.sent pair.took

      first : SentBy rules calls s.send last.spell.item begin → EndsBefore calls s.send later_send
      first sent = elim sent.done [
        | inl ended ↦ let by = ended.by in let same = pair.begins in record { one = ended.call; other = pair.sent.call; end = ended.end; one_is = ended.call_is; other_is = pair.sent.call_is; ended = ended.ended; before = omega (arith, by, same) }
        | inr out ↦
            let by = out.by.by in
            let same = pair.begins in
            absurd (keeps.still_open out.judged out.closed later_send out.was_closed (inr (pair.item, inr (later_take, later))) (record { one = out.by.call; other = pair.sent.call; end = out.by.end; one_is = out.by.call_is; other_is = pair.sent.call_is; ended = out.by.ended; before = omega (arith, by, same) }))
      ]

  pub left_behind_so : MoreLeft rules calls begin end → LeftBehind rules calls later_send later_take
  left_behind_so more = record { item = pair.item; sent = pair.sent; took = pair.took; end = end; ended = pair.ends; left = subst (λ (n : ℕ). MoreLeft rules calls n end) (sym pair.begins) more }

  pub left_stay_so : (stay : Stay) → IsOfLefts stay → IsStay calls stay → MoreLeft rules calls begin end → IsOvertaken rules calls stay later_send later_take
  left_stay_so (Stay.Taken send take closed) is here more = absurd is
  left_stay_so (Stay.Left sends others next closed) is here more = (left_behind_so more, here)

-- ---- takes that found none

pub never_empty_so : (rules : Rules) (calls : List Call) (place begin end : ℕ) → IsWritten calls → IsNone calls place begin end → ((time : ℕ) → begin ≤ time → time ≤ end → IsInside rules calls time time) → NeverEmpty rules calls place
never_empty_so rules calls place begin end written none inside = record {
  act = none.call.act;
  finds_none = none.finds_none;
  begin = begin;
  end = end;
  found_none = record { did = record { call = none.call; call_is = none.call_is; act_is = refl }; begin_is = none.begins; end_is = none.ends };
  timed = let le = written.timed place none.call end none.call_is none.ends in let same = none.begins in omega (arith, le, same);
  inside = inside;
}

pub ended_items_so : (rules : Rules) (calls : List Call) (place begin end : ℕ) → rules.closes ≡ true → Did calls place Act.Ended → IsNone calls place begin end → IsInside rules calls (suc end) end → EndedWithItems rules calls place
ended_items_so rules calls place begin end judged did none inside =
    let same = one_at calls place did.call none.call did.call_is none.call_is in
    record {
      judged = judged;
      begin = begin;
      end = end;
      found_none = record { did = did; begin_is = ap (λ (c : Call). c.begin) same ∙ none.begins; end_is = ap (λ (c : Call). c.end) same ∙ none.ends };
      inside = inside;
    }

-- an `ended` take that returned shows that the queue was closed
pub ended_shows : (calls : List Call) (place end : ℕ) (d : Did calls place Act.Ended) → d.call.end ≡ Some end → WasClosed calls place
ended_shows calls place end d ends = record { act = Act.Ended; shows = inr (inr refl); returned = record { call = d.call; call_is = d.call_is; act_is = d.act_is; ended = is_some_of d.call.end end ends } }

pub is_none_of : (calls : List Call) (place end : ℕ) (d : Did calls place Act.Ended) → d.call.end ≡ Some end → IsNone calls place d.call.begin end
is_none_of calls place end d ends = record { call = d.call; call_is = d.call_is; finds_none = inr d.act_is; begins = refl; ends = ends }

-- ---- what was found

pub when_none : {X : Type 0} (P : Type 0) (found : Option X) → is_some found ≡ false → IfNone found P → P
when_none P None none p = p
when_none P (Some x) none p = absurd (cc (none))

pub when_both : {X : Type 0} (P Q : X → Type 0) (found : Option X) → is_some found ≡ true → IfSome found P → IfSome found Q → (x : X) × P x × Q x
when_both P Q None some p q = absurd (cc (some))
when_both P Q (Some x) some p q = (x, p, q)

pub was_sent : (calls : List Call) (take one other : ℕ) → Did calls take (Act.Took one) → Did calls take (Act.Took other) → WasSent calls take one → WasSent calls take other
was_sent calls take one other d e = subst (WasSent calls take) (took_item calls take one other d e)

-- a take of this item, of whose send the index has no place, took no item that was sent
pub unsent : (calls : List Call) (index : Index) (send take one other : ℕ) → IsIndex calls index → Did calls take (Act.Took one) → ((place : ℕ) → slice_get index.sends.items one ≢ Some (Some place)) → Did calls send (Act.Send other) → Did calls take (Act.Took other) → ⊥
unsent calls index send take one other indexed d none s e = none send (ap (slice_get index.sends.items) (took_item calls take one other d e) ∙ indexed.sends.all send other s)

-- the times of a pair follow from its take
pub same_pair : (rules : Rules) (calls : List Call) (index : Index) (s s2 t t2 b b2 e e2 : ℕ) → IsIndex calls index → t ≡ t2 → IsPair calls s t b e → IsPair calls s2 t2 b2 e2 → KeepsTurn rules calls b e → KeepsTurn rules calls b2 e2
same_pair rules calls index s s2 t t2 b b2 e e2 indexed same p q keeps =
    let took : Did calls t2 (Act.Took p.item) = subst (λ (k : ℕ). Did calls k (Act.Took p.item)) same p.took in
    let items = took_item calls t2 p.item q.item took q.took in
    let sent : Did calls s (Act.Send q.item) = subst (λ (n : ℕ). Did calls s (Act.Send n)) items p.sent in
    let both : Some (Some s) ≡ Some (Some s2) = sym (indexed.sends.all s q.item sent) ∙ indexed.sends.all s2 q.item q.sent in
    let sends : s ≡ s2 = cc in
    let begins : b ≡ b2 = sym p.begins ∙ ap (λ (c : Call). c.begin) (one_at calls s2 p.sent.call q.sent.call (sym (ap (slice_get calls) sends) ∙ p.sent.call_is) q.sent.call_is) ∙ q.begins in
    let ended : Some e ≡ Some e2 = sym p.ends ∙ ap (λ (c : Call). c.end) (one_at calls t2 p.took.call q.took.call (sym (ap (slice_get calls) same) ∙ p.took.call_is) q.took.call_is) ∙ q.ends in
    let ends : e ≡ e2 = cc in
    subst (λ (x : ℕ × ℕ). KeepsTurn rules calls x.0 x.1) (λ i. (begins i, ends i)) keeps

-- ---- sends that found the queue open

pub open_taken : (calls : List Call) (index : Index) (send item : ℕ) (call : Call) (found : Option ℕ) → IsIndex calls index → IsWritten calls → slice_get calls send ≡ Some call → call.act ≡ Act.Send item → IfSome found (λ place. slice_get index.takes.items item ≡ Some (Some place)) → IsSome found → WasOpen calls send
open_taken calls index send item call None indexed written is act has some = absurd (cc (some))
open_taken calls index send item call (Some take) indexed written is act has some = inr (item, inr (take, passed_by calls send take item written (record { call = call; call_is = is; act_is = act }) (indexed.takes.each take item has)))

pub not_open : (calls : List Call) (index : Index) (send item : ℕ) (call : Call) (found : Option ℕ) → IsIndex calls index → slice_get calls send ≡ Some call → call.act ≡ Act.Send item → call.end ≡ None → IfNone found ((place : ℕ) → slice_get index.takes.items item ≢ Some (Some place)) → is_some found ≡ false → WasOpen calls send → ⊥
not_open calls index send item call (Some take) indexed is act ends none not_some was_open = cc (not_some)
not_open calls index send item call None indexed is act ends none not_some (inl full) =
    let both : Act.Send item ≡ Act.Full = sym act ∙ ap (λ (c : Call). c.act) (one_at calls send call full.call is full.call_is) ∙ full.act_is in
    cc
not_open calls index send item call None indexed is act ends none not_some (inr (other, inl sent)) =
    let same = one_at calls send call sent.call is sent.call_is in
    let e = some_end sent.call.end sent.ended in
    let both : None ≡ Some e.0 = sym ends ∙ ap (λ (c : Call). c.end) same ∙ e.1 in
    cc
not_open calls index send item call None indexed is act ends none not_some (inr (other, inr (take, passed))) =
    let same : Act.Send item ≡ Act.Send passed.item = sym act ∙ ap (λ (c : Call). c.act) (one_at calls send call passed.sent.call is passed.sent.call_is) ∙ passed.sent.act_is in
    let items : item ≡ passed.item = cc in
    none take (ap (slice_get index.takes.items) items ∙ indexed.takes.all take passed.item (record { call = passed.took.call; call_is = passed.took.call_is; act_is = passed.took.act_is }))

-- ---- times of takes that found none

pub never_at : (rules : Rules) (calls : List Call) (begin end : ℕ) (found : Option ℕ) (none : Bool) → is_some found ≡ not none → none ≡ true → EmptyAt rules calls begin end found → (time : ℕ) → begin ≤ time → time ≤ end → IsInside rules calls time time
never_at rules calls begin end None none is so all = all
never_at rules calls begin end (Some time) true is so all = absurd (cc (is))
never_at rules calls begin end (Some time) false is so all = absurd (cc (so))

same_none : (calls : List Call) (place begin end b e : ℕ) → IsNone calls place begin end → IsNone calls place b e → (begin ≡ b) × (end ≡ e)
same_none calls place begin end b e n m =
    let same = one_at calls place n.call m.call n.call_is m.call_is in
    let ends : Some end ≡ Some e = sym n.ends ∙ ap (λ (c : Call). c.end) same ∙ m.ends in
    (sym n.begins ∙ ap (λ (c : Call). c.begin) same ∙ m.begins, some_is end e ends)

pub has_moment : (rules : Rules) (calls : List Call) (place begin end : ℕ) (found : Option ℕ) (none : Bool) → is_some found ≡ not none → none ≡ false → IsNone calls place begin end → EmptyAt rules calls begin end found → HasMoment rules calls place
has_moment rules calls place begin end None true is so here at b e there = absurd (cc (so))
has_moment rules calls place begin end None false is so here at b e there = absurd (cc (is))
has_moment rules calls place begin end (Some time) none is so here at b e there =
    let same = same_none calls place begin end b e here there in
    (time, subst (λ (n : ℕ). n ≤ time) same.0 at.0, subst (λ (n : ℕ). time ≤ n) same.1 at.1, at.2, at.3)

pub is_judged : (rules : Rules) (calls : List Call) (shut : Option Shut) → is_some shut ≡ true → IsShutAt rules calls shut → rules.closes ≡ true
is_judged rules calls None some at = absurd (cc (some))
is_judged rules calls (Some s) some at = at.judged

pub unshut : (rules : Rules) (calls : List Call) (shut : Option Shut) → is_some shut ≡ false → IsShutAt rules calls shut → IsOpen rules calls
unshut rules calls None none at = at
unshut rules calls (Some s) none at = absurd (cc (none))

pub inside_if : (rules : Rules) (calls : List Call) (end : ℕ) (gone : Bool) → not gone ≡ true → HasEndedIf rules calls end gone → IsInside rules calls (suc end) end
inside_if rules calls end true so at = absurd (cc (so))
inside_if rules calls end false so at = at

pub has_end : (rules : Rules) (calls : List Call) (place begin end : ℕ) (gone : Bool) → not gone ≡ false → IsNone calls place begin end → HasEndedIf rules calls end gone → HasEnd rules calls place
has_end rules calls place begin end true so none at judged e d ends = subst (λ (n : ℕ). AreTaken rules calls (suc n) n × AreEnough rules calls (suc n) n) (same_none calls place begin end d.call.begin e none (is_none_of calls place e d ends)).1 at
has_end rules calls place begin end false so none at judged e d ends = absurd (cc (so))

-- ---- stays that a fault shows

-- of the first items this one was sent last that was sent before the one time and taken after the other
pub record PassedTo (rules : Rules) (calls : List Call) (spells : List Spell) (begin end upto : ℕ) (s : Spell) : Type 0 where
  pub spell : IsSpell rules calls s
  pub before : s.from < begin
  pub later : end < s.until
  pub last : (k : ℕ) (t : Spell) → k < upto → slice_get spells k ≡ Some t → t.from < begin → end < t.until → t.from ≤ s.from

pub passed_first : (rules : Rules) (calls : List Call) (spells : List Spell) (begin end : ℕ) (s : Spell) → IsSpell rules calls s → s.from < begin → end < s.until → PassedTo rules calls spells begin end 0 s
passed_first rules calls spells begin end s spell before later = record { spell = spell; before = before; later = later; last = λ k t less. absurd (omega (arith, less)) }

pub passed_more : (rules : Rules) (calls : List Call) (lists : Lists) (begin end i : ℕ) (last other s : Spell) → AreLists rules calls lists → slice_get lists.spells.items i ≡ Some other → ((s ≡ last) ⊎ ((s ≡ other) × (other.from < begin) × (end < other.until))) → last.from ≤ s.from → (other.from < begin → end < other.until → other.from ≤ s.from) → PassedTo rules calls lists.spells.items begin end i last → PassedTo rules calls lists.spells.items begin end (i + 1) s
passed_more rules calls lists begin end i last other s l other_is either most too so_far = elim either [
  | inl same ↦ record {
    spell = subst (IsSpell rules calls) (sym same) so_far.spell;
    before = subst (λ (x : Spell). x.from < begin) (sym same) so_far.before;
    later = subst (λ (x : Spell). end < x.until) (sym same) so_far.later;
    last = upto;
  }
  | inr same ↦ record {
    spell = subst (IsSpell rules calls) (sym same.0) (l.spells.each i other other_is);
    before = subst (λ (x : Spell). x.from < begin) (sym same.0) same.1;
    later = subst (λ (x : Spell). end < x.until) (sym same.0) same.2;
    last = upto;
  }
]
  where
    upto : (k : ℕ) (t : Spell) → k < i + 1 → slice_get lists.spells.items k ≡ Some t → t.from < begin → end < t.until → t.from ≤ s.from
    upto k t below is before later = elim (cases_lt k i) [
      | inl less ↦ let le = so_far.last k t less is before later in omega (arith, le, most)
      | inr not_less ↦
          let here : k ≡ i = omega (arith, below, not_less) in
          let one : t ≡ other = some_is t other (sym is ∙ ap (slice_get lists.spells.items) here ∙ other_is) in
          subst (λ (x : Spell). x.from ≤ s.from) (sym one) (too (subst (λ (x : Spell). x.from < begin) one before) (subst (λ (x : Spell). end < x.until) one later))
    ]

pub passed_kept : (rules : Rules) (calls : List Call) (lists : Lists) (begin end i : ℕ) (passed last : Spell) → IsSpell rules calls passed → passed.from < begin → end < passed.until → last.from < passed.from → length lists.spells.items ≤ i → PassedTo rules calls lists.spells.items begin end i last → IsPassedLast rules calls lists begin end passed
passed_kept rules calls lists begin end i passed last spell before later less past so_far = record {
  spell = spell;
  before = before;
  later = later;
  last = λ k t is early late. let within = slice_get_within lists.spells.items k t is in let le = so_far.last k t (omega (arith, within, past)) is early late in omega (arith, le, less);
}

pub passed_end : (rules : Rules) (calls : List Call) (lists : Lists) (begin end i : ℕ) (s : Spell) → length lists.spells.items ≤ i → PassedTo rules calls lists.spells.items begin end i s → IsPassedLast rules calls lists begin end s
passed_end rules calls lists begin end i s past so_far = record {
  spell = so_far.spell;
  before = so_far.before;
  later = so_far.later;
  last = λ k t is. let within = slice_get_within lists.spells.items k t is in so_far.last k t (omega (arith, within, past)) is;
}

pub untaken_more : (rules : Rules) (calls : List Call) (lists : Lists) (sends : List ℕ) (at : ℕ) (x : ℕ × ℕ) → AreLists rules calls lists → slice_get lists.lefts.items at ≡ Some x → AreUntaken calls sends → AreUntaken calls (sends ++ x.1 ∷ [])
untaken_more rules calls lists sends at x l is so_far k other other_is = elim (pushed_at sends x.1 other k other_is) [
  | inl had ↦ so_far k other had
  | inr last ↦
      let left = (l.lefts.each at x.0 x.1 is).0 (suc x.0) (omega (arith)) in
      subst (IsUntaken calls) (sym last.1) (record { item = left.item; sent = left.sent_by.sent; untaken = left.untaken })
]

pub untaken_sorted : (calls : List Call) (sends sorted : List ℕ) → IsPermutation sends sorted → AreUntaken calls sends → AreUntaken calls sorted
untaken_sorted calls sends sorted moved each k send is =
    let was = contains_at sends send (Contains-permutation sorted sends send (IsPermutation-sym sends sorted moved) (at_contains sorted send k is)) in
    each was.0 send was.1

pub spell_stay : (rules : Rules) (calls : List Call) (s : Spell) → IsWritten calls → IsSpell rules calls s → Passed calls s.send s.take
spell_stay rules calls s written spell = passed_by calls s.send s.take spell.item written spell.sent spell.took

pub latest_spell : (rules : Rules) (calls : List Call) (time : ℕ) (found : Option Spell) → IsLatest rules calls time found → IfSome found (IsSpell rules calls)
latest_spell rules calls time None last = tt
latest_spell rules calls time (Some s) last = last.spell

pub first_stays : (calls : List Call) → AreStays calls []
first_stays calls k s is = absurd (cc (is))

pub stays_more : (calls : List Call) (stays : List Stay) (s : Stay) → IsStay calls s → AreStays calls stays → AreStays calls (stays ++ s ∷ [])
stays_more calls stays s here so_far k other is = elim (pushed_at stays s other k is) [
  | inl had ↦ so_far k other had
  | inr last ↦ subst (IsStay calls) (sym last.1) here
]

-- ---- no fault

module _ (rules : Rules) (calls : List Call) (index : Index) (indexed : IsIndex calls index) (written : IsWritten calls) (sent : (take item : ℕ) → Did calls take (Act.Took item) → WasSent calls take item) (keeps : KeepsClosed rules calls) (turns : KeepTurns rules calls) (may : (place : ℕ) → MayBeEmpty rules calls place) where
  pair_of : (send take item end : ℕ) (s : Did calls send (Act.Send item)) (t : Did calls take (Act.Took item)) → t.call.end ≡ Some end → IsPair calls send take s.call.begin end
  pair_of send take item end s t ends = record { item = item; sent = s; took = t; begins = refl; ends = ends }

  in_turn : (s1 t1 s2 t2 one other : ℕ) → Did calls s1 (Act.Send one) → Did calls t1 (Act.Took one) → Did calls s2 (Act.Send other) → Did calls t2 (Act.Took other) → EndsBefore calls s1 s2 → EndsBefore calls t2 t1 → ⊥
  in_turn s1 t1 s2 t2 one other d1 e1 d2 e2 before behind =
      let ends = sym (ap (λ (c : Call). c.end) (one_at calls t2 behind.one e2.call behind.one_is e2.call_is)) ∙ behind.ended in
      let begins = ap (λ (c : Call). c.begin) (one_at calls s2 before.other d2.call before.other_is d2.call_is) in
      let takes = ap (λ (c : Call). c.begin) (one_at calls t1 behind.other e1.call behind.other_is e1.call_is) in
      let less = before.before in
      let by = (turns s2 t2 d2.call.begin behind.end (pair_of s2 t2 other behind.end d2 e2 ends)).0 s1 t1 one (record { sent = d1; done = inl (record { call = before.one; call_is = before.one_is; end = before.end; ended = before.ended; by = omega (arith, less, begins) }) }) e1 in
      let late = behind.before in
      omega (arith, by, late, takes)

  shut_out : (call e : ℕ) (d : Did calls call Act.Ended) → rules.closes ≡ true → d.call.end ≡ Some e → (take item : ℕ) (t : Did calls take (Act.Took item)) → AreTaken rules calls (suc e) e → t.call.begin ≤ e
  shut_out call e d judged ends take item t taken =
      let w = sent take item t in
      taken w.0 take item (record { sent = w.1; done = inr (record { judged = judged; accepted = inr (take, passed_by calls w.0 take item written w.1 t); closed = call; was_closed = ended_shows calls call e d ends; by = record { call = d.call; call_is = d.call_is; end = e; ended = ends; by = omega arith } }) }) t

  pub no_fault : NoFault rules calls
  no_fault = record {
    sent = λ take item t. let w = sent take item t in (w.0, w.1);
    once = λ item t u a b. let both : Some (Some t) ≡ Some (Some u) = sym (indexed.takes.all t item a) ∙ indexed.takes.all u item b in cc;
    after = λ send take item s t before.
        let w = sent take item t in
        let both : Some (Some send) ≡ Some (Some w.0) = sym (indexed.sends.all send item s) ∙ indexed.sends.all w.0 item w.1 in
        let same : send ≡ w.0 = cc in
        w.2 (subst (EndsBefore calls take) same before);
    in_turn = in_turn;
    enough = λ s2 t2 other e s t ends. (turns s2 t2 s.call.begin e (pair_of s2 t2 other e s t ends)).1;
    empty = λ call c e is none ends. let m = (may call).moment c.begin e (record { call = c; call_is = is; finds_none = none; begins = refl; ends = ends }) in (m.0, m.1, m.2, m.3, m.4);
    ended = λ judged call e d ends. let h = (may call).ended judged e d ends in ((λ take item t. shut_out call e d judged ends take item t h.0), h.1);
    still_open = keeps.still_open;
    closed = keeps.closed;
  }

-- ---- one call after another

-- what holds of the calls so far, and of the next one, holds of all up to it
pub one_more : (P : ℕ → Type 0) (i : ℕ) → ((k : ℕ) → k < i → P k) → P i → (k : ℕ) → k < i + 1 → P k
one_more P i so_far here k below = elim (less_or k i below) [ inl less ↦ so_far k less | inr same ↦ subst P (sym same) here ]

pub within : (calls : List Call) (act : Act) (i k : ℕ) → length calls ≤ i → Did calls k act → k < i
within calls act i k end did = let less = slice_get_within calls k did.call did.call_is in omega (arith, less, end)

pub within_open : (calls : List Call) (i k time : ℕ) → length calls ≤ i → BeganAfter calls k time → k < i
within_open calls i k time end b = let less = slice_get_within calls k b.call b.call_is in omega (arith, less, end)

-- ---- well-formed calls

pub written_all : (calls : List Call) (i : ℕ) → length calls ≤ i → ((k : ℕ) (c : Call) → k < i → slice_get calls k ≡ Some c → IsWrittenCall c) → IsWritten calls
written_all calls i end each = record {
  timed = λ p c e is ends. (each p c (upto p c is) is).timed e ends;
  waits = λ q d. (each q d.call (upto q d.call d.call_is) d.call_is).waits d.act_is;
  took = λ q item d. (each q d.call (upto q d.call d.call_is) d.call_is).took item d.act_is;
  ended = λ q d. (each q d.call (upto q d.call d.call_is) d.call_is).ended d.act_is;
}
  where
    upto : (k : ℕ) (c : Call) → slice_get calls k ≡ Some c → k < i
    upto k c is = let less = slice_get_within calls k c is in omega (arith, less, end)

pub written_one : (calls : List Call) (place : ℕ) (c : Call) → slice_get calls place ≡ Some c → IsWritten calls → IsWrittenCall c
written_one calls place c is written = record {
  timed = λ e ends. written.timed place c e is ends;
  waits = λ act. written.waits place (record { call = c; call_is = is; act_is = act });
  took = λ item act. written.took place item (record { call = c; call_is = is; act_is = act });
  ended = λ act. written.ended place (record { call = c; call_is = is; act_is = act });
}

-- ---- the index

pub taken_twice_so : (calls : List Call) (first second : ℕ) → IsWritten calls → Twice calls Kind.Take first second → TakenTwice calls first second
taken_twice_so calls first second written t = record {
  item = t.item;
  apart = t.apart;
  took = record { call = t.one.call; call_is = t.one.call_is; act_is = t.one.act_is; ended = written.took first t.item t.one };
  took_again = record { call = t.other.call; call_is = t.other.call_is; act_is = t.other.act_is; ended = written.took second t.item t.other };
}

-- no call sent an item that is past all that were sent
pub never_past : (calls : List Call) (items take : ℕ) → IsWritten calls → ((place item : ℕ) → Did calls place (Act.Send item) → item < items) → ((item : ℕ) × Did calls take (Act.Took item)) → ((item : ℕ) → Did calls take (Act.Took item) → items ≤ item) → NeverSent calls take
never_past calls items take written below (item, did) past = record {
  item = item;
  took = record { call = did.call; call_is = did.call_is; act_is = did.act_is; ended = written.took take item did };
  none = λ i sent. let less = below i item sent in let le = past item did in omega (arith, less, le);
}

-- no two sends of one item
pub not_twice : (calls : List Call) (first second : ℕ) → Differ calls → Twice calls Kind.Send first second → ⊥
not_twice calls first second differ t = t.apart (differ t.item first second t.one t.other)

pub within_none : (calls : List Call) (i k begin end : ℕ) → length calls ≤ i → IsNone calls k begin end → k < i
within_none calls i k begin end past none = let less = slice_get_within calls k none.call none.call_is in omega (arith, less, past)
