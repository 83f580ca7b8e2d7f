-- The sorted calls of a log, and what is found in them.
use Rattle.std.proofs.Common.{◌≡◌, ◌≢◌, ℕ, zero, suc, ◌+◌, ◌-◌, ◌<◌, ◌≤◌, ◌⊎◌, inl, inr, Bool, true, false, List, [], ◌∷◌, ◌++◌, length, get_or, Option, Some, None, IsPermutation, refl, sym, ap, ◌∙◌, subst, arith}
use Rattle.std.specs.List.{slice_get}
use Rattle.std.specs.List.Sorted.{IsNonDecreasingBy}
use Rattle.std.proofs.lemmas.Bool.{cases_lt}
use Rattle.std.proofs.lemmas.List.Sorted.{Contains-permutation, IsPermutation-sym}
use Rattle.std.proofs.lemmas.Option.{get_or_from_slice_get, slice_get-get_or, slice_get_within}
use Rattle.std.proofs.lemmas.List.{length_push}
use Rattle.cc_judge.specs.Names.{Act, Call, Rules, Index, Lists, Reach, Shut, Spell}
use Rattle.cc_judge.specs.Faults.{Did, Returned, Passed, WasAccepted, WasClosed, EndedBy}
use Rattle.cc_judge.specs.Table.{IsIndex}
use Rattle.cc_judge.specs.Counts.{SentBy, IsShutOut, IsLeftBy, MoreLeft, AreEnough, StayedOn, IsInside, AreFirst, AreSorted, Since, Upto}
use Rattle.cc_judge.specs.Faultless.{IsWritten}
use Rattle.cc_judge.specs.Sweeps.{EndsAt, IsOpen, IsShutAt, IsSooner, IsDone, IsDoneBy, IsSpell, IsSpellOf, SpellAt, AreSpells, IsLater, AreLists, IsLatestIn, IsLast, IsLatest, AreEnoughIf, AreTaken, LeftsReach, Reaches, HasEndedIf}
use Rattle.cc_judge.proofs.Counting.{counts_are_right}
use Rattle.cc_judge.proofs.Listing.{some_is, contains_at, at_contains, pushed_at, at_pushed, last_pushed, rises}
use Rattle.cc_judge.proofs.Calls.{is_some_of, some_end, sent_one}
use Rattle.cc_judge.proofs.Turns.{less_or}

-- ---- when the queue was closed

-- of the calls so far that show the queue closed this one ended first
abbrev pub ShutTo : List Call → Option Shut → (upto : ℕ) → Type 0
ShutTo calls None upto = (call : ℕ) → call < upto → WasClosed calls call → ⊥
ShutTo calls (Some s) upto = WasClosed calls s.call × EndsAt calls s.call s.time × ((call time : ℕ) → call < upto → WasClosed calls call → EndsAt calls call time → s.time ≤ time)

pub one_end : (calls : List Call) (place t u : ℕ) → EndsAt calls place t → EndsAt calls place u → t ≡ u
one_end calls place t u a b =
    let same : a.0 ≡ b.0 = some_is a.0 b.0 (sym a.1 ∙ b.1) in
    some_is t u (sym a.2 ∙ ap (λ (c : Call). c.end) same ∙ b.2)

pub shut_skip : (calls : List Call) (first : Option Shut) (i : ℕ) → (WasClosed calls i → ⊥) → ShutTo calls first i → ShutTo calls first (i + 1)
shut_skip calls None i none so_far = λ call below closed. elim (less_or call i below) [
  | inl less ↦ so_far call less closed
  | inr here ↦ none (subst (WasClosed calls) here closed)
]
shut_skip calls (Some s) i none so_far = (
  so_far.0,
  so_far.1,
  λ call time below closed ends. elim (less_or call i below) [
    | inl less ↦ so_far.2 call time less closed ends
    | inr here ↦ absurd (none (subst (WasClosed calls) here closed))
  ],
)

pub shut_more : (calls : List Call) (first : Option Shut) (i : ℕ) (other s : Shut) → other.call ≡ i → WasClosed calls i → EndsAt calls i other.time → IsSooner first other s → ShutTo calls first i → ShutTo calls (Some s) (i + 1)
shut_more calls None i other s at closed ends is so_far =
    subst (λ (x : Shut). ShutTo calls (Some x) (i + 1)) (sym is) (
      subst (WasClosed calls) (sym at) closed,
      subst (λ (n : ℕ). EndsAt calls n other.time) (sym at) ends,
      λ call time below shown ended. elim (less_or call i below) [
        | inl less ↦ absurd (so_far call less shown)
        | inr here ↦ let same = one_end calls i other.time time ends (subst (λ (n : ℕ). EndsAt calls n time) here ended) in omega (arith, same)
      ],
    )
shut_more calls (Some one) i other s at closed ends (inl is) so_far =
    subst (λ (x : Shut). ShutTo calls (Some x) (i + 1)) (sym is.0) (
      so_far.0,
      so_far.1,
      λ call time below shown ended. elim (less_or call i below) [
        | inl less ↦ so_far.2 call time less shown ended
        | inr here ↦ let same = one_end calls i other.time time ends (subst (λ (n : ℕ). EndsAt calls n time) here ended) in let le = is.1 in omega (arith, same, le)
      ],
    )
shut_more calls (Some one) i other s at closed ends (inr is) so_far =
    subst (λ (x : Shut). ShutTo calls (Some x) (i + 1)) (sym is.0) (
      subst (WasClosed calls) (sym at) closed,
      subst (λ (n : ℕ). EndsAt calls n other.time) (sym at) ends,
      λ call time below shown ended. elim (less_or call i below) [
        | inl less ↦ let had = so_far.2 call time less shown ended in let le = is.1 in omega (arith, had, le)
        | inr here ↦ let same = one_end calls i other.time time ends (subst (λ (n : ℕ). EndsAt calls n time) here ended) in omega (arith, same)
      ],
    )

pub shut_end : (rules : Rules) (calls : List Call) (first : Option Shut) (i : ℕ) → rules.closes ≡ true → length calls ≤ i → ShutTo calls first i → IsShutAt rules calls first
shut_end rules calls None i judged end so_far = λ _ call closed. let within = slice_get_within calls call closed.returned.call closed.returned.call_is in so_far call (omega (arith, within, end)) closed
shut_end rules calls (Some s) i judged end so_far = record {
  judged = judged;
  was_closed = so_far.0;
  ends = so_far.1;
  first = λ call time closed ends. let within = slice_get_within calls call closed.returned.call closed.returned.call_is in so_far.2 call time (omega (arith, within, end)) closed ends;
}

-- ---- sends whose items are left

-- the call at this place ended at a time before another
ended_by : (calls : List Call) (place end later : ℕ) → EndsAt calls place end → end < later → EndedBy calls place later
ended_by calls place end later at less = record { call = at.0; call_is = at.1; end = end; ended = at.2; by = less }

-- a send that was accepted was done at the time that is taken
pub done_after : (rules : Rules) (calls : List Call) (shut : Option Shut) (send item end time : ℕ) → IsShutAt rules calls shut → Did calls send (Act.Send item) → WasAccepted calls send item → EndsAt calls send end → IsDone end shut time → (later : ℕ) → time < later → SentBy rules calls send item later
done_after rules calls None send item end time unshut sent accepted ends is later less = record { sent = sent; done = inl (ended_by calls send end later ends (omega (arith, is, less))) }
done_after rules calls (Some s) send item end time shut sent accepted ends (inl is) later less = let same = is.0 in record { sent = sent; done = inl (ended_by calls send end later ends (omega (arith, same, less))) }
done_after rules calls (Some s) send item end time shut sent accepted ends (inr is) later less = let same = is.0 in record {
  sent = sent;
  done = inr (record { judged = shut.judged; accepted = accepted; closed = s.call; was_closed = shut.was_closed; by = ended_by calls s.call s.time later shut.ends (omega (arith, same, less)) });
}

-- and before a time by which it was done
pub done_before : (rules : Rules) (calls : List Call) (shut : Option Shut) (send item end time : ℕ) → IsShutAt rules calls shut → EndsAt calls send end → IsDone end shut time → (later : ℕ) → SentBy rules calls send item later → time < later
done_before rules calls shut send item end time at ends is later sent = elim sent.done [
  | inl ended ↦ let same = one_end calls send ended.end end (ended.call, ended.call_is, ended.ended) ends in let by = ended.by in let le = done_le shut is in omega (arith, same, by, le)
  | inr out ↦ out_before shut at is out
]
  where
    done_le : (shut : Option Shut) → IsDone end shut time → time ≤ end
    done_le None same = omega (arith, same)
    done_le (Some s) (inl r) = let same = r.0 in omega (arith, same)
    done_le (Some s) (inr r) = let same = r.0 in let le = r.1 in omega (arith, same, le)

    out_before : (shut : Option Shut) → IsShutAt rules calls shut → IsDone end shut time → IsShutOut rules calls send item later → time < later
    out_before None unshut is out = absurd (unshut out.judged out.closed out.was_closed)
    out_before (Some s) shut is out =
        let le = shut.first out.closed out.by.end out.was_closed (out.by.call, out.by.call_is, out.by.ended) in
        let by = out.by.by in
        elim is [
          | inl r ↦ let same = r.0 in let end_le = r.1 in omega (arith, same, end_le, le, by)
          | inr r ↦ let same = r.0 in omega (arith, same, le, by)
        ]

-- a send whose item is left returned
pub left_ended : (rules : Rules) (calls : List Call) (later place : ℕ) → IsLeftBy rules calls later place → (end : ℕ) × EndsAt calls place end
left_ended rules calls later place left = elim left.sent_by.done [
  | inl ended ↦ (ended.end, (ended.call, ended.call_is, ended.ended))
  | inr out ↦ elim out.accepted [
    | inl returned ↦ let e = some_end returned.call.end returned.ended in (e.0, (returned.call, returned.call_is, e.1))
    | inr taken ↦
        let did : Did calls place (Act.Send left.item) = left.sent_by.sent in
        let p = taken.1 in
        absurd (left.untaken taken.0 (record { call = p.took.call; call_is = p.took.call_is; act_is = p.took.act_is ∙ ap Act.Took (sent_one calls place p.item left.item p.sent did) }))
  ]
]

pub left_none : (rules : Rules) (calls : List Call) (place : ℕ) → ((item end : ℕ) (call : Call) → slice_get calls place ≡ Some call → call.act ≡ Act.Send item → call.end ≡ Some end → ((take : ℕ) → Did calls take (Act.Took item) → ⊥) → ⊥) → Since (IsLeftBy rules calls) place None
left_none rules calls place none later left =
    let e = left_ended rules calls later place left in
    let sent = left.sent_by.sent in
    let same : e.1.0 ≡ sent.call = some_is e.1.0 sent.call (sym e.1.1 ∙ sent.call_is) in
    none left.item e.0 sent.call sent.call_is sent.act_is (sym (ap (λ (c : Call). c.end) same) ∙ e.1.2) left.untaken

pub left_some : (rules : Rules) (calls : List Call) (shut : Option Shut) (place item end time : ℕ) (call : Call) → IsShutAt rules calls shut → slice_get calls place ≡ Some call → call.act ≡ Act.Send item → call.end ≡ Some end → ((take : ℕ) → Did calls take (Act.Took item) → ⊥) → IsDone end shut time → Since (IsLeftBy rules calls) place (Some time)
left_some rules calls shut place item end time call at is act ends untaken done =
    let sent : Did calls place (Act.Send item) = record { call = call; call_is = is; act_is = act } in
    let ended : EndsAt calls place end = (call, is, ends) in (
      λ later less. record { item = item; sent_by = done_after rules calls shut place item end time at sent (inl (record { call = call; call_is = is; act_is = act; ended = is_some_of call.end end ends })) ended done later less; untaken = untaken },
      λ later left. done_before rules calls shut place left.item end time at ended done later left.sent_by,
    )

pub untaken_by : (calls : List Call) (index : Index) (item : ℕ) → IsIndex calls index → ((place : ℕ) → slice_get index.takes.items item ≢ Some (Some place)) → (take : ℕ) → Did calls take (Act.Took item) → ⊥
untaken_by calls index item indexed none take took = none take (indexed.takes.all take item took)

pub taken_left : (calls : List Call) (index : Index) (send take item other : ℕ) → IsIndex calls index → Act.Send item ≡ Act.Send other → slice_get index.takes.items other ≡ Some (Some take) → ((t : ℕ) → Did calls t (Act.Took item) → ⊥) → ⊥
taken_left calls index send take item other indexed both tabled untaken = let same : item ≡ other = cc in untaken take (subst (λ (n : ℕ). Did calls take (Act.Took n)) (sym same) (indexed.takes.each take other tabled))

-- what holds by a time and later holds before a later one
pub since_upto : (P : (time place : ℕ) → Type 0) (place from : ℕ) → ((time : ℕ) → from ≤ time → P time place) → ((time : ℕ) → P time place → from ≤ time) → Since (Upto P) place (Some from)
since_upto P place from after before = (after_of, before_of)
  where
    after_of : (time : ℕ) → from < time → Upto P time place
    after_of zero less = absurd (omega (arith, less))
    after_of (suc time) less = after time (omega (arith, less))

    before_of : (time : ℕ) → Upto P time place → from < time
    before_of zero none = absurd none
    before_of (suc time) holds = let le = before time holds in omega (arith, le)

pub upto_none : (P : (time place : ℕ) → Type 0) (place : ℕ) → ((time : ℕ) → P time place → ⊥) → Since (Upto P) place None
upto_none P place none zero holds = holds
upto_none P place none (suc time) holds = none time holds

-- ---- items that were taken

pub took_one : (calls : List Call) (index : Index) → IsIndex calls index → (item t u : ℕ) → Did calls t (Act.Took item) → Did calls u (Act.Took item) → t ≡ u
took_one calls index indexed item t u a b =
    let both : Some (Some t) ≡ Some (Some u) = sym (indexed.takes.all t item a) ∙ indexed.takes.all u item b in
    cc

pub returned_take : (calls : List Call) (take item : ℕ) → IsWritten calls → Did calls take (Act.Took item) → Returned calls take (Act.Took item)
returned_take calls take item written took = record { call = took.call; call_is = took.call_is; act_is = took.act_is; ended = written.took take item took }

pub passed_by : (calls : List Call) (send take item : ℕ) → IsWritten calls → Did calls send (Act.Send item) → Did calls take (Act.Took item) → Passed calls send take
passed_by calls send take item written sent took = record { item = item; sent = sent; took = returned_take calls take item written took }

-- no spell: the send hasn't returned, and the queue was never closed
pub never_done : (rules : Rules) (calls : List Call) (send item time : ℕ) (call : Call) → slice_get calls send ≡ Some call → call.end ≡ None → IsOpen rules calls → SentBy rules calls send item time → ⊥
never_done rules calls send item time call is ends unshut sent = elim sent.done [
  | inl ended ↦
      let same : ended.call ≡ call = some_is ended.call call (sym ended.call_is ∙ is) in
      let both : Some ended.end ≡ None = sym ended.ended ∙ ap (λ (c : Call). c.end) same ∙ ends in
      cc
  | inr out ↦ unshut out.judged out.closed out.was_closed
]

pub spell_some : (rules : Rules) (calls : List Call) (index : Index) (shut : Option Shut) (send item take from : ℕ) (sent take_call : Call) → IsIndex calls index → IsWritten calls → IsShutAt rules calls shut → slice_get calls send ≡ Some sent → sent.act ≡ Act.Send item → slice_get index.takes.items item ≡ Some (Some take) → slice_get calls take ≡ Some take_call → IsDoneBy sent.end shut (Some from) → IsSpell rules calls (record { from = from; until = take_call.begin; send = send; take = take })
spell_some rules calls index shut send item take from sent take_call indexed written at is act tabled take_is done = record {
  item = item;
  sent = did;
  took = took;
  begins = ap (λ (c : Call). c.begin) (some_is took.call take_call (sym took.call_is ∙ take_is));
  after = λ time less. after_of sent.end refl done time less;
  by = λ other time by. before_of sent.end refl done other time by;
  only = λ other t took_too sent_too.
      let same : t ≡ take = took_one calls index indexed item t take (subst (λ (n : ℕ). Did calls t (Act.Took n)) (sent_one calls send other item sent_too did) took_too) took in
      ap (λ (c : Call). c.begin) (some_is took_too.call take_call (sym took_too.call_is ∙ ap (slice_get calls) same ∙ take_is));
}
  where
    did : Did calls send (Act.Send item)
    did = record { call = sent; call_is = is; act_is = act }

    took : Did calls take (Act.Took item)
    took = indexed.takes.each take item tabled

    accepted : WasAccepted calls send item
    accepted = inr (take, passed_by calls send take item written did took)

    after_of : (end : Option ℕ) → sent.end ≡ end → IsDoneBy end shut (Some from) → (time : ℕ) → from < time → SentBy rules calls send item time
    after_of None ends done time less = shut_after shut at done time less
      where
        shut_after : (shut : Option Shut) → IsShutAt rules calls shut → IsDoneBy None shut (Some from) → (time : ℕ) → from < time → SentBy rules calls send item time
        shut_after None unshut done time less = cc (done)
        shut_after (Some s) shown done time less =
            let same : from ≡ s.time = some_is from s.time done in
            record { sent = did; done = inr (record { judged = shown.judged; accepted = accepted; closed = s.call; was_closed = shown.was_closed; by = ended_by calls s.call s.time time shown.ends (omega (arith, same, less)) }) }
    after_of (Some end) ends done time less = done_after rules calls shut send item end from at did accepted (sent, is, ends) done time less

    before_of : (end : Option ℕ) → sent.end ≡ end → IsDoneBy end shut (Some from) → (other time : ℕ) → SentBy rules calls send other time → from < time
    before_of None ends done other time by = shut_before shut at done
      where
        shut_before : (shut : Option Shut) → IsShutAt rules calls shut → IsDoneBy None shut (Some from) → from < time
        shut_before None unshut done = cc (done)
        shut_before (Some s) shown done =
            let same : from ≡ s.time = some_is from s.time done in
            elim by.done [
              | inl ended ↦
                  let here : ended.call ≡ sent = some_is ended.call sent (sym ended.call_is ∙ is) in
                  let both : Some ended.end ≡ None = sym ended.ended ∙ ap (λ (c : Call). c.end) here ∙ ends in
                  cc
              | inr out ↦
                  let le = shown.first out.closed out.by.end out.was_closed (out.by.call, out.by.call_is, out.by.ended) in
                  let less = out.by.by in
                  omega (arith, same, le, less)
            ]
    before_of (Some end) ends done other time by = done_before rules calls shut send other end from at (sent, is, ends) done time by

-- the list has the items of the sends so far
pub record SpellsTo (rules : Rules) (calls : List Call) (spells : List Spell) (upto : ℕ) : Type 0 where
  pub each : (k : ℕ) (s : Spell) → slice_get spells k ≡ Some s → IsSpell rules calls s
  pub all : (send : ℕ) → send < upto → SpellAt rules calls send None ⊎ ((k : ℕ) × (s : Spell) × (slice_get spells k ≡ Some s) × (s.send ≡ send))

pub spells_skip : (rules : Rules) (calls : List Call) (spells : List Spell) (i : ℕ) → SpellAt rules calls i None → SpellsTo rules calls spells i → SpellsTo rules calls spells (i + 1)
spells_skip rules calls spells i none so_far = record {
  each = so_far.each;
  all = λ send below. elim (less_or send i below) [
    | inl less ↦ so_far.all send less
    | inr here ↦ inl (subst (λ (n : ℕ). SpellAt rules calls n None) (sym here) none)
  ];
}

pub spells_more : (rules : Rules) (calls : List Call) (spells : List Spell) (i : ℕ) (s : Spell) → SpellAt rules calls i (Some s) → SpellsTo rules calls spells i → SpellsTo rules calls (spells ++ s ∷ []) (i + 1)
spells_more rules calls spells i s some so_far = record {
  each = λ k t is. elim (pushed_at spells s t k is) [
    | inl had ↦ so_far.each k t had
    | inr last ↦ subst (IsSpell rules calls) (sym last.1) some.1
  ];
  all = λ send below. elim (less_or send i below) [
    | inl less ↦ elim (so_far.all send less) [ inl none ↦ inl none | inr had ↦ inr (had.0, had.1, at_pushed spells s had.1 had.0 had.2, had.3) ]
    | inr here ↦ inr (length spells, s, last_pushed spells s, some.0 ∙ sym here)
  ];
}

pub spells_sorted : (rules : Rules) (calls : List Call) (spells sorted : List Spell) (i : ℕ) → length calls ≤ i → IsPermutation spells sorted → IsNonDecreasingBy (λ (s : Spell). s.from) sorted → SpellsTo rules calls spells i → AreSpells rules calls sorted
spells_sorted rules calls spells sorted i end same up so_far =
    let back = IsPermutation-sym spells sorted same in
    record {
      each = λ k s is. let had = contains_at spells s (Contains-permutation sorted spells s back (at_contains sorted s k is)) in so_far.each had.0 s had.1;
      all = λ send take item time sent took.
          let within = slice_get_within calls send sent.sent.call sent.sent.call_is in
          elim (so_far.all send (omega (arith, within, end))) [
            | inl none ↦ absurd (none item take time sent took)
            | inr had ↦ let at = contains_at sorted had.1 (Contains-permutation spells sorted had.1 same (at_contains spells had.1 had.0 had.2)) in (at.0, had.1, at.1, had.3)
          ];
      sorted = up;
    }

-- ---- the one that was taken last

-- of each of the first items the one that was taken last of those up to it
pub record LatestTo (spells latest : List Spell) (best : Option Spell) (upto : ℕ) : Type 0 where
  pub as_many : length latest ≡ upto
  pub best_is : (s : Spell) → best ≡ Some s → (j : ℕ) × (j < upto) × (slice_get spells j ≡ Some s)
  pub best_most : (j : ℕ) (t : Spell) → j < upto → slice_get spells j ≡ Some t → (s : Spell) × (best ≡ Some s) × (t.until ≤ s.until)
  pub each : (k : ℕ) (s : Spell) → slice_get latest k ≡ Some s → (j : ℕ) × (j ≤ k) × (slice_get spells j ≡ Some s)
  pub most : (j k : ℕ) (s t : Spell) → j ≤ k → slice_get latest k ≡ Some s → slice_get spells j ≡ Some t → t.until ≤ s.until

pub latest_more : (spells latest : List Spell) (best : Option Spell) (i : ℕ) (other s : Spell) → slice_get spells i ≡ Some other → IsLater best other s → LatestTo spells latest best i → LatestTo spells (latest ++ s ∷ []) (Some s) (i + 1)
latest_more spells latest best i other s here is so_far = record {
  as_many = length_push latest s ∙ ap (λ (n : ℕ). n + 1) so_far.as_many;
  best_is = λ t same. let e = some_is s t same in let at = from_where in (at.0, at.1, at.2 ∙ ap Some e);
  best_most = λ j t below t_is. (s, refl, up_to j t below t_is);
  each = λ k t t_is. elim (pushed_at latest s t k t_is) [
    | inl had ↦ so_far.each k t had
    | inr last ↦ let at = from_where in let at_less = at.1 in let many = so_far.as_many in let k_is = last.0 in (at.0, omega (arith, at_less, many, k_is), at.2 ∙ ap Some (sym last.1))
  ];
  most = λ j k t u le t_is u_is. elim (pushed_at latest s t k t_is) [
    | inl had ↦ so_far.most j k t u le had u_is
    | inr last ↦ let many = so_far.as_many in let k_is = last.0 in
        let bound = up_to j u (omega (arith, le, many, k_is)) u_is in
        subst (λ (x : Spell). u.until ≤ x.until) (sym last.1) bound
  ];
}
  where
    from_where : (j : ℕ) × (j < i + 1) × (slice_get spells j ≡ Some s)
    from_where = elim is.one [
      | inl same ↦ (i, omega arith, here ∙ ap Some (sym same))
      | inr had ↦ let at = so_far.best_is s had in let less = at.1 in (at.0, omega (arith, less), at.2)
    ]

    up_to : (j : ℕ) (t : Spell) → j < i + 1 → slice_get spells j ≡ Some t → t.until ≤ s.until
    up_to j t below t_is = elim (less_or j i below) [
      | inl less ↦ let b = so_far.best_most j t less t_is in let le = b.2 in let more = is.best_too b.0 b.1 in omega (arith, le, more)
      | inr at ↦ let same : t ≡ other = some_is t other (sym t_is ∙ ap (slice_get spells) at ∙ here) in subst (λ (x : Spell). x.until ≤ s.until) (sym same) is.most
    ]

-- the first items are those whose sends were done before a time: of these it was taken last
pub latest_is : (rules : Rules) (calls : List Call) (lists : Lists) (number time : ℕ) (found : Option Spell) → AreLists rules calls lists → ((k : ℕ) (s : Spell) → k < number → slice_get lists.spells.items k ≡ Some s → s.from < time) → ((k : ℕ) (s : Spell) → slice_get lists.spells.items k ≡ Some s → s.from < time → k < number) → number ≤ length lists.spells.items → IsLatestIn lists.latest.items number found → IsLatest rules calls time found
latest_is rules calls lists number time None l first rest within none = λ send take item sent took.
    let at = l.spells.all send take item time sent took in
    let by = (l.spells.each at.0 at.1 at.2).by item time (subst (λ (n : ℕ). SentBy rules calls n item time) (sym at.3) sent) in
    let less = rest at.0 at.1 at.2 by in
    let many = l.latest.as_many in
    elim none [ inl zero_is ↦ absurd (omega (arith, less, zero_is)) | inr past ↦ absurd (omega (arith, within, many, past)) ]
latest_is rules calls lists number time (Some s) l first rest within (k, count, is) =
    let at = l.latest.each k s is in
    let le = at.1 in
    record {
      spell = l.spells.each at.0 s at.2;
      before = first at.0 s (omega (arith, le, count)) at.2;
      last = λ send take item sent took.
          let has = l.spells.all send take item time sent (record { call = took.call; call_is = took.call_is; act_is = took.act_is }) in
          let spell = l.spells.each has.0 has.1 has.2 in
          let sent_here : SentBy rules calls has.1.send item time = subst (λ (n : ℕ). SentBy rules calls n item time) (sym has.3) sent in
          let less = rest has.0 has.1 has.2 (spell.by item time sent_here) in
          let most = l.latest.most has.0 k s has.1 (omega (arith, less, count)) is has.2 in
          let begins = spell.only item take took sent_here.sent in
          omega (arith, most, begins);
    }

pub none_taken : (rules : Rules) (calls : List Call) (sent began : ℕ) → IsLatest rules calls sent None → AreTaken rules calls sent began
none_taken rules calls sent began none send take item by took = absurd (none send take item by (record { call = took.call; call_is = took.call_is; act_is = took.act_is }))

-- ---- enough takes

pub enough_so : (rules : Rules) (calls : List Call) (lists : Lists) (left wait sent began : ℕ) (few : Bool) → AreLists rules calls lists → (AreSorted lists.lefts.items → AreFirst lists.lefts.items left sent) → (AreSorted lists.waits.items → AreFirst lists.waits.items wait (suc began)) → (few ≡ true → left ≤ wait) → (few ≡ false → wait < left) → AreEnoughIf rules calls sent began few
enough_so rules calls lists left wait sent began true l lefts waits few more = counts_are_right.enough rules calls lists.lefts.items lists.waits.items left wait sent began l.lefts l.waits (lefts l.lefts.sorted) (waits l.waits.sorted) (few refl)
enough_so rules calls lists left wait sent began false l lefts waits few more = counts_are_right.more rules calls lists.lefts.items lists.waits.items left wait sent began l.lefts l.waits (lefts l.lefts.sorted) (waits l.waits.sorted) (more refl)

-- ---- how long items stay

sorted_tail : (x : ℕ × ℕ) (xs : List (ℕ × ℕ)) → AreSorted (x ∷ xs) → AreSorted xs
sorted_tail x xs up i j d le within = up (suc i) (suc j) d (omega (arith, le)) (omega (arith, within))

-- the first elements of a sorted list are those below a time
first_exists : (xs : List (ℕ × ℕ)) (time : ℕ) → AreSorted xs → (n : ℕ) × AreFirst xs n time
first_exists [] time up = (0, record { within = omega arith; first = λ k t y less is. absurd (omega (arith, less)); rest = λ k t y is less. cc (is) })
first_exists (x ∷ xs) time up = elim (cases_lt x.0 time) [
  | inr late ↦ (
    0,
    record {
      within = omega arith;
      first = λ k t y less is. absurd (omega (arith, less));
      rest = λ k t y is less. let rise = rises (λ (x : ℕ × ℕ). x.0) (x ∷ xs) 0 k x (t, y) up (omega arith) refl is in absurd (omega (arith, rise, less, late));
    },
  )
  | inl early ↦ let r = first_exists xs time (sorted_tail x xs up) in let within = r.1.within in (
    suc r.0,
    record {
      within = omega (arith, within);
      first = λ k t y less is. first_of r.0 r.1 early k t y less is;
      rest = λ k t y is less. rest_of r.0 r.1 k t y is less;
    },
  )
]
  where
    first_of : (n : ℕ) → AreFirst xs n time → x.0 < time → (k t y : ℕ) → k < suc n → slice_get (x ∷ xs) k ≡ Some (t, y) → t < time
    first_of n f early zero t y less is = let same = ap (λ (p : ℕ × ℕ). p.0) (some_is x (t, y) is) in omega (arith, same, early)
    first_of n f early (suc k) t y less is = f.first k t y (omega (arith, less)) is

    rest_of : (n : ℕ) → AreFirst xs n time → (k t y : ℕ) → slice_get (x ∷ xs) k ≡ Some (t, y) → t < time → k < suc n
    rest_of n f zero t y is less = omega arith
    rest_of n f (suc k) t y is less = let lower = f.rest k t y is less in omega (arith, lower)

-- what is left at a time is left later, and if of the takes no more than `few` begin by then
more_later : (rules : Rules) (calls : List Call) (lists : Lists) (left time later : ℕ) → AreLists rules calls lists → AreFirst lists.lefts.items left time → time ≤ later → ((n : ℕ) → AreFirst lists.waits.items n (suc later) → n < left) → MoreLeft rules calls later later
more_later rules calls lists left time later l lefts le few =
    let l_count = first_exists lists.lefts.items later l.lefts.sorted in
    let w_count = first_exists lists.waits.items (suc later) l.waits.sorted in
    let less = few w_count.0 w_count.1 in
    let most : left ≤ l_count.0 = grows l_count.0 l_count.1 in
    counts_are_right.more rules calls lists.lefts.items lists.waits.items l_count.0 w_count.0 later later l.lefts l.waits l_count.1 w_count.1 (omega (arith, less, most))
  where
    grows : (n : ℕ) → AreFirst lists.lefts.items n later → left ≤ n
    grows n f = elim (cases_lt n left) [
      | inr not_less ↦ omega (arith, not_less)
      | inl less ↦
          let within = lefts.within in
          let at = get_or lists.lefts.items n (0, 0) in
          let is = slice_get-get_or lists.lefts.items n (0, 0) (omega (arith, less, within)) in
          let early = lefts.first n at.0 at.1 less is in
          let lower = f.rest n at.0 at.1 is (omega (arith, early, le)) in
          absurd (omega (arith, lower))
    ]

pub left_until : (rules : Rules) (calls : List Call) (lists : Lists) (left wait time next place : ℕ) → AreLists rules calls lists → (AreSorted lists.lefts.items → AreFirst lists.lefts.items left time) → wait < left → slice_get lists.waits.items (left - 1) ≡ Some (next, place) → (later : ℕ) → time ≤ later → later < next → MoreLeft rules calls later later
left_until rules calls lists left wait time next place l lefts more is later le less = more_later rules calls lists left time later l (lefts l.lefts.sorted) le (λ n f. elim (cases_lt n left) [
  | inl lower ↦ lower
  | inr not_lower ↦ let early = f.first (left - 1) next place (omega (arith, not_lower, more)) is in absurd (omega (arith, early, less))
])

pub left_forever : (rules : Rules) (calls : List Call) (lists : Lists) (left wait time : ℕ) → AreLists rules calls lists → (AreSorted lists.lefts.items → AreFirst lists.lefts.items left time) → wait < left → length lists.waits.items ≤ left - 1 → (later : ℕ) → time ≤ later → MoreLeft rules calls later later
left_forever rules calls lists left wait time l lefts more past later le = more_later rules calls lists left time later l (lefts l.lefts.sorted) le (λ n f. let within = f.within in omega (arith, within, past, more))

-- a take that begun by the time is one of the first
pub begun_first : (rules : Rules) (calls : List Call) (lists : Lists) (left wait time next place : ℕ) → AreLists rules calls lists → (AreSorted lists.waits.items → AreFirst lists.waits.items wait (suc time)) → wait < left → slice_get lists.waits.items (left - 1) ≡ Some (next, place) → next ≤ time → ⊥
begun_first rules calls lists left wait time next place l waits more is le = let lower = (waits l.waits.sorted).rest (left - 1) next place is (omega (arith, le)) in omega (arith, lower, more)

-- an item that was taken stays until its take begins
pub stayed_on : (rules : Rules) (calls : List Call) (sent began : ℕ) (s : Spell) → IsWritten calls → IsSpell rules calls s → s.from < sent → began < s.until → StayedOn rules calls sent began
stayed_on rules calls sent began s written spell before after =
    let begins = spell.begins in
    record {
      send = s.send;
      take = s.take;
      item = spell.item;
      sent_by = spell.after sent before;
      took = returned_take calls s.take spell.item written spell.took;
      later = record { call = spell.took.call; call_is = spell.took.call_is; after = omega (arith, begins, after) };
    }

pub stays_until : (rules : Rules) (calls : List Call) (time : ℕ) (s : Spell) → IsWritten calls → IsLast rules calls time s → (later : ℕ) → time ≤ later → later < s.until → IsInside rules calls later later
stays_until rules calls time s written last later le less = inl (stayed_on rules calls later later s written last.spell (let before = last.before in omega (arith, before, le)) less)

-- of none of those that were taken last a later one begins
pub taken_by_then : (rules : Rules) (calls : List Call) (sent began : ℕ) (s : Spell) → IsLast rules calls sent s → s.until ≤ began → AreTaken rules calls sent began
taken_by_then rules calls sent began s last le send take item by took = let until = last.last send take item by took in omega (arith, until, le)

-- ---- where a binary search ends

pub first_of_point : (xs : List (ℕ × ℕ)) (number time : ℕ) → number ≤ length xs → ((k : ℕ) (d : ℕ × ℕ) → 0 ≤ k → k < number → (get_or xs k d).0 < time) → ((k : ℕ) (d : ℕ × ℕ) → number ≤ k → k < length xs → (get_or xs k d).0 < time → ⊥) → AreFirst xs number time
first_of_point xs number time within first rest = record {
  within = within;
  first = λ k at place less is. let early = first k (at, place) (omega arith) less in let same = ap (λ (x : ℕ × ℕ). x.0) (get_or_from_slice_get xs k (at, place) (at, place) is) in omega (arith, early, same);
  rest = λ k at place is early. elim (cases_lt k number) [
    | inl less ↦ less
    | inr not_less ↦
        let same = ap (λ (x : ℕ × ℕ). x.0) (get_or_from_slice_get xs k (at, place) (at, place) is) in
        absurd (rest k (at, place) (omega (arith, not_less)) (slice_get_within xs k (at, place) is) (omega (arith, early, same)))
  ];
}

pub latest_of_point : (rules : Rules) (calls : List Call) (lists : Lists) (xs : List Spell) (number time : ℕ) (found : Option Spell) → xs ≡ lists.spells.items → AreLists rules calls lists → number ≤ length xs → ((k : ℕ) (d : Spell) → 0 ≤ k → k < number → (get_or xs k d).from < time) → ((k : ℕ) (d : Spell) → number ≤ k → k < length xs → (get_or xs k d).from < time → ⊥) → IsLatestIn lists.latest.items number found → IsLatest rules calls time found
latest_of_point rules calls lists xs number time found same l within first rest is = latest_is rules calls lists number time found l
    (λ k s less s_is. let early = first k s (omega arith) less in let here = ap (λ (x : Spell). x.from) (get_or_from_slice_get xs k s s (at k s s_is)) in omega (arith, early, here))
    (λ k s s_is early. elim (cases_lt k number) [
      | inl less ↦ less
      | inr not_less ↦
          let here = ap (λ (x : Spell). x.from) (get_or_from_slice_get xs k s s (at k s s_is)) in
          absurd (rest k s (omega (arith, not_less)) (slice_get_within xs k s (at k s s_is)) (omega (arith, early, here)))
    ])
    (subst (λ (ys : List Spell). number ≤ length ys) same within) is
  where
    at : (k : ℕ) (s : Spell) → slice_get lists.spells.items k ≡ Some s → slice_get xs k ≡ Some s
    at k s s_is = ap (λ (ys : List Spell). slice_get ys k) same ∙ s_is

pub lefts_enough : (rules : Rules) (calls : List Call) (lists : Lists) (left wait time : ℕ) → AreLists rules calls lists → (AreSorted lists.lefts.items → AreFirst lists.lefts.items left time) → (AreSorted lists.waits.items → AreFirst lists.waits.items wait (suc time)) → left ≤ wait → AreEnough rules calls time time
lefts_enough rules calls lists left wait time l lefts waits few = counts_are_right.enough rules calls lists.lefts.items lists.waits.items left wait time time l.lefts l.waits (lefts l.lefts.sorted) (waits l.waits.sorted) few

-- with the items that are left too
pub reach_taken : (rules : Rules) (calls : List Call) (time : ℕ) (s : Spell) (reach : Reach) → IsLast rules calls time s → s.until ≤ time → LeftsReach rules calls time reach → Reaches rules calls time reach
reach_taken rules calls time s Reach.Free last le reached = (taken_by_then rules calls time time s last le, reached)
reach_taken rules calls time s (Reach.Until next) last le reached = λ later from less. inr (reached later from less)
reach_taken rules calls time s Reach.Forever last le reached = λ later from. inr (reached later from)

pub reach_none : (rules : Rules) (calls : List Call) (time : ℕ) (reach : Reach) → IsLatest rules calls time None → LeftsReach rules calls time reach → Reaches rules calls time reach
reach_none rules calls time Reach.Free none reached = (λ send take item by took. absurd (none send take item by (record { call = took.call; call_is = took.call_is; act_is = took.act_is })), reached)
reach_none rules calls time (Reach.Until next) none reached = λ later from less. inr (reached later from less)
reach_none rules calls time Reach.Forever none reached = λ later from. inr (reached later from)

-- ---- at the end of a take

pub ended_inside : (rules : Rules) (calls : List Call) (lists : Lists) (end : ℕ) (s : Spell) → AreLists rules calls lists → IsLast rules calls (suc end) s → end < s.until → IsInside rules calls (suc end) end
ended_inside rules calls lists end s l last less = inl (stayed_on rules calls (suc end) end s l.written last.spell last.before less)

pub ended_taken : (rules : Rules) (calls : List Call) (end : ℕ) (s : Spell) (few : Bool) → IsLast rules calls (suc end) s → s.until ≤ end → AreEnoughIf rules calls (suc end) end few → HasEndedIf rules calls end few
ended_taken rules calls end s true last le enough = (taken_by_then rules calls (suc end) end s last le, enough)
ended_taken rules calls end s false last le more = inr more

pub ended_none : (rules : Rules) (calls : List Call) (end : ℕ) (few : Bool) → IsLatest rules calls (suc end) None → AreEnoughIf rules calls (suc end) end few → HasEndedIf rules calls end few
ended_none rules calls end true none enough = (λ send take item by took. absurd (none send take item by (record { call = took.call; call_is = took.call_is; act_is = took.act_is })), enough)
ended_none rules calls end false none more = inr more

-- ---- the spell of a send

pub spell_untaken : (rules : Rules) (calls : List Call) (index : Index) (send item : ℕ) (call : Call) → IsIndex calls index → slice_get calls send ≡ Some call → call.act ≡ Act.Send item → ((place : ℕ) → slice_get index.takes.items item ≢ Some (Some place)) → SpellAt rules calls send None
spell_untaken rules calls index send item call indexed is act none other take time sent took =
    let same : other ≡ item = sent_one calls send other item sent.sent (record { call = call; call_is = is; act_is = act }) in
    none take (indexed.takes.all take item (subst (λ (n : ℕ). Did calls take (Act.Took n)) same took))

pub spell_found : (rules : Rules) (calls : List Call) (index : Index) (shut : Option Shut) (send item take : ℕ) (call : Call) (done : Option ℕ) (found : Option Spell) → IsIndex calls index → IsWritten calls → IsShutAt rules calls shut → slice_get calls send ≡ Some call → call.act ≡ Act.Send item → slice_get index.takes.items item ≡ Some (Some take) → IsDoneBy call.end shut done → IsSpellOf calls done send take found → SpellAt rules calls send found
spell_found rules calls index shut send item take call done None indexed written at is act tabled is_done (inl none) = λ other t time sent took. not_done rules calls shut send other time call at is (subst (IsDoneBy call.end shut) none is_done) sent
  where
    not_done : (rules : Rules) (calls : List Call) (shut : Option Shut) (send item time : ℕ) (call : Call) → IsShutAt rules calls shut → slice_get calls send ≡ Some call → IsDoneBy call.end shut None → SentBy rules calls send item time → ⊥
    not_done rules calls shut send item time call at is none sent = by_end call.end refl shut at none
      where
        by_end : (end : Option ℕ) → call.end ≡ end → (shut : Option Shut) → IsShutAt rules calls shut → IsDoneBy end shut None → ⊥
        by_end None ends None at none = never_done rules calls send item time call is ends at sent
        by_end None ends (Some s) at none = cc (none)
        by_end (Some e) ends shut at none = none
spell_found rules calls index shut send item take call done None indexed written at is act tabled is_done (inr none) =
    let t = indexed.takes.each take item tabled in
    let both : Some t.call ≡ None = sym t.call_is ∙ none in
    absurd (cc (both))
spell_found rules calls index shut send item take call done (Some s) indexed written at is act tabled is_done of =
    let spell = spell_some rules calls index shut send item take s.from call of.0 indexed written at is act tabled of.2 (subst (IsDoneBy call.end shut) of.1 is_done) in
    (of.4, subst (IsSpell rules calls) (spell_is s of.0 of.3 of.4 of.5) spell)
  where
    spell_is : (s : Spell) (one : Call) → s.until ≡ one.begin → s.send ≡ send → s.take ≡ take → record { from = s.from; until = one.begin; send = send; take = take } ≡ s
    spell_is s one until send_is take_is = λ k. record { from = s.from; until = sym until k; send = sym send_is k; take = sym take_is k }
