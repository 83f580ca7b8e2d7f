-- A log that is cut between calls that only their lines order: how the parts of times are found, and what holds of the cut log.
use Rattle.std.proofs.Common.{◌≡◌, ◌≢◌, ℕ, ◌+◌, ◌*◌, ◌<◌, ◌≤◌, ◌⊎◌, inl, inr, Bool, true, false, List, [], ◌∷◌, ◌++◌, length, Option, Some, None, refl, sym, ap, ◌∙◌, subst, arith}
use Rattle.std.specs.List.{slice_get, slice_set}
use Rattle.std.proofs.lemmas.Bool.{cases_lt}
use Rattle.std.proofs.lemmas.Option.{slice_get_within}
use Rattle.std.proofs.lemmas.List.{length_push}
use Rattle.cc_judge.specs.Names.{Call, Fault, Rules, Tie, Verdict}
use Rattle.cc_judge.specs.Order.{IsLinearizable, of_any_capacity}
use Rattle.cc_judge.specs.Room.{KeepsRoom}
use Rattle.cc_judge.specs.Faults.{Differ}
use Rattle.cc_judge.specs.Faultless.{IsWritten, NoFault}
use Rattle.cc_judge.specs.Counts.{AreSorted}
use Rattle.cc_judge.specs.Cuts.{IsEarlier, IsLater, MeetAt, AreLone, AreMeetings, AreApart, AreShort, MayBeCut, AreMarked, AreEach, CutBy, CutCall, IsCut, AreWithoutTies, begin_part, end_part, place_of}
use Rattle.cc_judge.specs.Verdict.{StandsFirst, IsVerdict}
use Rattle.cc_judge.proofs.Turns.{nat_cases, set_at, set_elsewhere, one_at, less_or, slice_has}
use Rattle.cc_judge.proofs.Cuts.{cut_logs_are_exact, cut_timed, finer_differ, finer_written, untimed}
use Rattle.cc_judge.specs.Splits.{IsClean, IsFiner, IsTimed}
use Rattle.cc_judge.specs.Until.{HaveEnded}
use Rattle.cc_judge.proofs.Listing.{ListOf, rises, at_pushed, last_pushed, first_is, second_is}
use Rattle.cc_judge.proofs.Until.{no_first, none_until, until_end}
use Rattle.cc_judge.proofs.Faultless.{faultless_logs_have_orders}
use Rattle.cc_judge.proofs.Calls.{end_cases, is_some_of, none_some, one_end}

-- ---- a sorted list of times

abbrev pub ApartTo : List (ℕ × ℕ) → ℕ → Type 0
ApartTo list i = (j k time x y : ℕ) → j < i → k < i → slice_get list j ≡ Some (time, x) → slice_get list k ≡ Some (time, y) → j ≡ k

-- two entries, one behind the other
module _ (list : List (ℕ × ℕ)) (l p : ℕ) (next : l + 1 ≡ p) (e f : ℕ × ℕ) (e_is : slice_get list l ≡ Some e) (f_is : slice_get list p ≡ Some f) where
  -- a time that isn't the one before it is past all before
  past_all : (j time x y : ℕ) → AreSorted list → e.0 ≢ time → j < p → slice_get list j ≡ Some (time, x) → slice_get list p ≡ Some (time, y) → ⊥
  past_all j time x y sorted new less j_is i_is =
      let low : time ≤ e.0 = rises (λ (e : ℕ × ℕ). e.0) list j l (time, x) e sorted (omega (arith, less, next)) j_is e_is in
      let high : e.0 ≤ time = rises (λ (e : ℕ × ℕ). e.0) list l p e (time, y) sorted (omega (arith, next)) e_is i_is in
      new (omega (arith, low, high))

  pub apart_more : AreSorted list → e.0 ≢ f.0 → ApartTo list p → ApartTo list (p + 1)
  apart_more sorted new so_far j k t y z below under j_is k_is = elim (less_or k p under) [
    | inl before ↦ elim (less_or j p below) [
      | inl too ↦ so_far j k t y z too before j_is k_is
      | inr at ↦ absurd (clash k t z y before k_is (sym (ap (slice_get list) at) ∙ j_is))
    ]
    | inr at ↦ elim (less_or j p below) [
      | inl before ↦ absurd (clash j t y z before j_is (sym (ap (slice_get list) at) ∙ k_is))
      | inr too ↦ too ∙ sym at
    ]
  ]
    where
      clash : (j t y z : ℕ) → j < p → slice_get list j ≡ Some (t, y) → slice_get list p ≡ Some (t, z) → ⊥
      clash j t y z before j_is i_is = past_all j t y z sorted (subst (λ (n : ℕ). e.0 ≢ n) (first_is f (t, z) (sym f_is ∙ i_is)) new) before j_is i_is

  pub not_apart : e.0 ≡ f.0 → AreApart list → ⊥
  not_apart same apart =
      let clash = apart l p f.0 e.1 f.1 (subst (λ (n : ℕ). slice_get list l ≡ Some (n, e.1)) same e_is) f_is in
      omega (arith, clash, next)

pub apart_all : (list : List (ℕ × ℕ)) (i : ℕ) → length list ≤ i → ApartTo list i → AreApart list
apart_all list i end so_far j k time x y j_is k_is = so_far j k time x y (let less = slice_get_within list j (time, x) j_is in omega (arith, less, end)) (let less = slice_get_within list k (time, y) k_is in omega (arith, less, end)) j_is k_is

-- ---- the times at which calls meet

abbrev pub MeetsAt : List Call → List Tie → ℕ → Option ℕ → Type 0
MeetsAt calls ties i None = ⊥
MeetsAt calls ties i (Some time) = (tie : Tie) × (slice_get ties i ≡ Some tie) × (tie.earlier ≢ tie.later) × MeetAt calls tie time

pub are_meetings : (calls : List Call) (ties : List Tie) (list : List (ℕ × ℕ)) → AreSorted list → ListOf (MeetsAt calls ties) list (length ties) → AreMeetings calls ties list
are_meetings calls ties list sorted of = record {
  sorted = sorted;
  each = λ k time i is. let m = of.each k time i is in (m.0, m.1, m.3);
  all = λ i tie is. elim (of.all i (slice_get_within ties i tie is)) [
    | inl none ↦ absurd none
    | inr at ↦
        let m = of.each at.0 at.1 i at.2 in
        let both : Some m.0 ≡ Some tie = sym m.1 ∙ is in
        let same : m.0 ≡ tie = cc in
        (subst (λ (t : Tie). t.earlier ≢ t.later) same m.2, at.0, at.1, at.2, subst (λ (t : Tie). MeetAt calls t at.1) same m.3)
  ];
  once = of.apart;
}

pub may_be_cut : (calls : List Call) (ties : List Tie) (list : List (ℕ × ℕ)) → AreShort calls → AreMeetings calls ties list → AreApart list → MayBeCut calls ties
may_be_cut calls ties list short m apart = record {
  short = short;
  meet = λ i tie is. let a = m.all i tie is in (a.0, a.2, a.4);
  alone = λ i j time tie other i_is j_is one two.
      let a = m.all i tie i_is in
      let b = m.all j other j_is in
      let at = one_time calls tie a.2 time a.4 one in
      let too = one_time calls other b.2 time b.4 two in
      let at_is : slice_get list a.1 ≡ Some (time, i) = a.3 ∙ ap (λ (n : ℕ). Some (n, i)) at in
      let too_is : slice_get list b.1 ≡ Some (time, j) = b.3 ∙ ap (λ (n : ℕ). Some (n, j)) too in
      let same = apart a.1 b.1 time i j at_is too_is in
      second_is (time, i) (time, j) (sym at_is ∙ ap (slice_get list) same ∙ too_is);
}
  where
    one_time : (calls : List Call) (tie : Tie) (t u : ℕ) → MeetAt calls tie t → MeetAt calls tie u → t ≡ u
    one_time calls tie t u m n = sym m.begins ∙ ap (λ (c : Call). c.begin) (one_at calls tie.later m.other n.other m.other_is n.other_is) ∙ n.begins

pub must_be_apart : (calls : List Call) (ties : List Tie) (list : List (ℕ × ℕ)) → AreMeetings calls ties list → MayBeCut calls ties → AreApart list
must_be_apart calls ties list m may j k time x y j_is k_is =
    let a = m.each j time x j_is in
    let b = m.each k time y k_is in
    let same = may.alone x y time a.0 b.0 a.1 b.1 a.2 b.2 in
    m.once j k time time y (j_is ∙ ap (λ (n : ℕ). Some (time, n)) same) k_is

-- ---- marks

pub record MarkedTo (ties : List Tie) (later : Bool) (marks : List Bool) (upto : ℕ) : Type 0 where
  pub marked : (place : ℕ) → slice_get marks place ≡ Some true → (i : ℕ) × (tie : Tie) × (slice_get ties i ≡ Some tie) × (place_of later tie ≡ place)
  pub others : (place i : ℕ) (tie : Tie) → i < upto → slice_get marks place ≡ Some false → slice_get ties i ≡ Some tie → place_of later tie ≢ place

pub marks_all : (ties : List Tie) (later : Bool) (marks : List Bool) (i : ℕ) → length ties ≤ i → MarkedTo ties later marks i → AreMarked ties later marks
marks_all ties later marks i end so_far = record {
  marked = so_far.marked;
  others = λ place k tie is tie_is. so_far.others place k tie (let less = slice_get_within ties k tie tie_is in omega (arith, less, end)) is tie_is;
}

pub mark_out : (ties : List Tie) (later : Bool) (marks : List Bool) (i : ℕ) (tie : Tie) → slice_get ties i ≡ Some tie → length marks ≤ place_of later tie → MarkedTo ties later marks i → MarkedTo ties later marks (i + 1)
mark_out ties later marks i tie is out so_far = record {
  marked = so_far.marked;
  others = λ place k other below no k_is. elim (less_or k i below) [
    | inl less ↦ so_far.others place k other less no k_is
    | inr here ↦ λ at.
        let within = slice_get_within marks place false no in
        let both : Some other ≡ Some tie = sym k_is ∙ ap (slice_get ties) here ∙ is in
        let same : other ≡ tie = cc in
        let place_is : place_of later tie ≡ place = ap (place_of later) (sym same) ∙ at in
        omega (arith, within, out, place_is)
  ];
}

pub mark_in : (ties : List Tie) (later : Bool) (marks : List Bool) (i : ℕ) (tie : Tie) → slice_get ties i ≡ Some tie → (had : Bool) → slice_get marks (place_of later tie) ≡ Some had → MarkedTo ties later marks i → MarkedTo ties later (slice_set marks (place_of later tie) true) (i + 1)
mark_in ties later marks i tie is had had_is so_far = record {
  marked = λ place yes. elim (nat_cases (place_of later tie) place) [
    | inl here ↦ (i, tie, is, here)
    | inr other ↦ so_far.marked place (sym (set_elsewhere marks (place_of later tie) place true (λ same. other (sym same))) ∙ yes)
  ];
  others = λ place k other below no k_is at. elim (nat_cases (place_of later tie) place) [
    | inl here ↦
        let both : Some true ≡ Some false = sym (set_at marks (place_of later tie) had true had_is) ∙ ap (slice_get (slice_set marks (place_of later tie) true)) here ∙ no in
        absurd (cc (both))
    | inr apart ↦ elim (less_or k i below) [
      | inl less ↦ so_far.others place k other less (sym (set_elsewhere marks (place_of later tie) place true (λ same. apart (sym same))) ∙ no) k_is at
      | inr here ↦
          let both : Some other ≡ Some tie = sym k_is ∙ ap (slice_get ties) here ∙ is in
          let same : other ≡ tie = cc in
          apart (ap (place_of later) (sym same) ∙ at)
    ]
  ];
}

pub lone : (calls : List Call) (ties : List Tie) → MayBeCut calls ties → AreLone calls ties
lone calls ties may = record {
  meet = λ i tie is. let m = may.meet i tie is in (m.1, m.2);
  lone = λ i j time tie other i_is j_is one two.
      let same = may.alone i j time tie other i_is j_is one two in
      let both : Some tie ≡ Some other = sym i_is ∙ ap (slice_get ties) same ∙ j_is in
      let ties_are : tie ≡ other = cc in
      (ap (λ (t : Tie). t.earlier) ties_are, ap (λ (t : Tie). t.later) ties_are);
}

-- ---- the cut calls

pub record EachTo (Relates : (place : ℕ) → (whole part : Call) → Type 0) (calls others : List Call) (upto : ℕ) : Type 0 where
  pub long : length others ≡ upto
  pub each : (k : ℕ) (c : Call) → k < upto → slice_get calls k ≡ Some c → (d : Call) × (slice_get others k ≡ Some d) × Relates k c d

pub cut_so : (ties : List Tie) (place : ℕ) (earlier later : List Bool) (e l : Bool) (c d : Call) → AreMarked ties false earlier → AreMarked ties true later → slice_get earlier place ≡ Some e → slice_get later place ≡ Some l → CutBy e l c d → CutCall ties place c d
cut_so ties place earlier later e l c d early late e_is l_is by = record {
  act = by.act;
  begin = begins l l_is by.begin;
  open_end = by.open_end;
  end = λ time is. ends e e_is time (by.end time is);
}
  where
    begins : (l : Bool) → slice_get later place ≡ Some l → d.begin ≡ 4 * c.begin + begin_part l → (IsLater ties place × (d.begin ≡ 4 * c.begin + 2)) ⊎ ((IsLater ties place → ⊥) × (d.begin ≡ 4 * c.begin))
    begins true is at = inl (late.marked place is, at)
    begins false is at = inr (λ x. late.others place x.0 x.1 is x.2 x.3, omega (arith, at))

    ends : (e : Bool) → slice_get earlier place ≡ Some e → (time : ℕ) → d.end ≡ Some (4 * time + end_part e) → (IsEarlier ties place × (d.end ≡ Some (4 * time + 1))) ⊎ ((IsEarlier ties place → ⊥) × (d.end ≡ Some (4 * time + 3)))
    ends true is time at = inl (early.marked place is, at)
    ends false is time at = inr (λ x. early.others place x.0 x.1 is x.2 x.3, at)

pub each_more : (Relates : (place : ℕ) → (whole part : Call) → Type 0) (calls cut : List Call) (i : ℕ) (c d : Call) → slice_get calls i ≡ Some c → Relates i c d → EachTo Relates calls cut i → EachTo Relates calls (cut ++ d ∷ []) (i + 1)
each_more Relates calls cut i c d is so so_far = record {
  long = length_push cut d ∙ omega (arith, so_far.long);
  each = λ k x below k_is. elim (less_or k i below) [
    | inl less ↦ let had = so_far.each k x less k_is in (had.0, at_pushed cut d had.0 k had.1, had.2)
    | inr here ↦ (
      d,
      ap (slice_get (cut ++ d ∷ [])) (here ∙ sym so_far.long) ∙ last_pushed cut d,
      subst (λ (n : ℕ). Relates n x d) (sym here) (subst (λ (y : Call). Relates i y d) (one_at calls i c x is (sym (ap (slice_get calls) here) ∙ k_is)) so),
    )
  ];
}

pub are_each : (Relates : (place : ℕ) → (whole part : Call) → Type 0) (calls cut : List Call) (i : ℕ) → i ≡ length calls → EachTo Relates calls cut i → AreEach Relates calls cut
are_each Relates calls cut i end so_far = record {
  there = λ k c is. so_far.each k c (let less = slice_get_within calls k c is in omega (arith, less, end)) is;
  back = λ k d is.
      let less = slice_get_within cut k d is in
      let long = so_far.long in
      let c = slice_has calls k (omega (arith, less, long, end)) in
      let had = so_far.each k c.0 (omega (arith, less, long)) c.1 in
      (c.0, c.1, subst (Relates k c.0) (one_at cut k had.0 d had.1 is) had.2);
}

-- ---- what holds of the cut log

module _ (ties : List Tie) (calls cut : List Call) (may : MayBeCut calls ties) (k : IsCut ties calls cut) where
  pub cut_finer : IsFiner calls cut
  cut_finer = (cut_timed ties calls cut (lone calls ties may) k).finer

  -- a call doesn't meet itself
  not_both : (place time : ℕ) (c : Call) → slice_get calls place ≡ Some c → c.begin ≡ time → c.end ≡ Some time → IsEarlier ties place → IsLater ties place → ⊥
  not_both place time c is begins ends (i, one, one_is, earlier) (j, other, other_is, later) =
      let m = may.meet i one one_is in
      let n = may.meet j other other_is in
      let first = one_at calls place m.2.one c (ap (slice_get calls) (sym earlier) ∙ m.2.one_is) is in
      let second = one_at calls place n.2.other c (ap (slice_get calls) (sym later) ∙ n.2.other_is) is in
      let m_time : m.1 ≡ time = one_end c.end m.1 time (ap (λ (x : Call). x.end) (sym first) ∙ m.2.ends) ends in
      let n_time : n.1 ≡ time = sym n.2.begins ∙ ap (λ (x : Call). x.begin) second ∙ begins in
      let same = may.alone i j time one other one_is other_is (subst (MeetAt calls one) m_time m.2) (subst (MeetAt calls other) n_time n.2) in
      let both : Some one ≡ Some other = sym one_is ∙ ap (slice_get ties) same ∙ other_is in
      let ties_are : one ≡ other = cc in
      m.0 (earlier ∙ sym later ∙ sym (ap (λ (t : Tie). t.later) ties_are))

  timed_cut : (place : ℕ) (c d : Call) (e : ℕ) → slice_get calls place ≡ Some c → CutCall ties place c d → ((f : ℕ) → c.end ≡ Some f → c.begin ≤ f) → d.end ≡ Some e → d.begin ≤ e
  timed_cut place c d e is so timed ends = elim (end_cases c.end) [
    | inr open_end ↦ absurd (none_some d.end (so.open_end open_end) (is_some_of d.end e ends))
    | inl f ↦
        let le = timed f.0 f.1 in
        elim (so.end f.0 f.1) [
          | inr free ↦ let e_is = one_end d.end e (4 * f.0 + 3) ends free.1 in elim so.begin [ inl late ↦ let b_is = late.1 in omega (arith, le, e_is, b_is) | inr first ↦ let b_is = first.1 in omega (arith, le, e_is, b_is) ]
          | inl tied ↦ let e_is = one_end d.end e (4 * f.0 + 1) ends tied.1 in elim so.begin [
            | inr first ↦ let b_is = first.1 in omega (arith, le, e_is, b_is)
            | inl late ↦ let b_is = late.1 in elim (cases_lt c.begin f.0) [
              | inl less ↦ omega (arith, less, e_is, b_is)
              | inr not_less ↦ let same : c.begin ≡ f.0 = omega (arith, le, not_less) in absurd (not_both place f.0 c is same f.1 tied.0 late.0)
            ]
          ]
        ]
  ]

  pub written_cut : IsWritten calls → IsWritten cut
  written_cut written = finer_written calls cut cut_finer written (λ place d e is ends. let c = k.back place d is in timed_cut place c.0 d e c.1 c.2 (λ f f_is. written.timed place c.0 f c.1 f_is) ends)

-- ---- verdicts

pub fault_so : (rules : Rules) (calls : List Call) (fault : Fault) → Differ calls → StandsFirst rules calls fault → IsVerdict rules calls (Verdict.Fault fault)
fault_so rules calls fault differ s = (inl s, no_first rules calls fault differ s)

-- a log without a legal order is so until its last end
pub none_until_end : (rules : Rules) (calls : List Call) (time : ℕ) → IsWritten calls → Differ calls → NoFault rules calls → HaveEnded time calls → (IsLinearizable rules calls → ⊥) → StandsFirst rules calls Fault.NoOrder
none_until_end rules calls time written differ fine ended none =
    let k = until_end time calls ended in
    record { time = time; part = calls; part_is = k; stands = none; first = λ ties earlier less. none_until rules calls calls time differ written k fine ties earlier (omega (arith, less)) }

-- a log that is clean once it is cut
pub clean_evenly : (rules plain : Rules) (calls cut : List Call) → AreWithoutTies rules plain → Differ calls → IsTimed rules.ties.items calls cut → IsWritten cut → NoFault plain cut × KeepsRoom plain cut → IsClean rules calls
clean_evenly rules plain calls cut same differ timed written fine = record {
  plain = plain;
  same = same;
  cut = cut;
  timed = timed;
  order = faultless_logs_have_orders plain cut same.none (finer_differ calls cut timed.finer differ) written fine.0;
  keeps = fine.1;
}

pub clean_verdict : (rules : Rules) (calls : List Call) → IsClean rules calls → IsVerdict rules calls Verdict.Clean
clean_verdict rules calls c = (
  untimed (of_any_capacity rules) (of_any_capacity c.plain) calls c.cut (record { capacity = refl; closes = c.same.closes; none = c.same.none }) c.timed c.order,
  inr (record { plain = c.plain; same = c.same; cut = c.cut; timed = c.timed; keeps = c.keeps }),
)

module _ (rules plain : Rules) (calls cut : List Call) (differ : Differ calls) (written : IsWritten calls) (may : MayBeCut calls rules.ties.items) (k : IsCut rules.ties.items calls cut) (same : AreWithoutTies rules plain) where
  pub cut_fault : (fault : Fault) → StandsFirst plain cut fault → IsVerdict rules calls (Verdict.Fault fault)
  cut_fault fault stands = (
    inr (record { plain = plain; same = same; cut = cut; may = may; cut_is = k; stands = stands }),
    λ order. no_first plain cut fault (finer_differ calls cut (cut_finer rules.ties.items calls cut may k) differ) stands (cut_logs_are_exact.exact rules plain calls cut same (lone calls rules.ties.items may) k order),
  )

  pub cut_clean : NoFault plain cut × KeepsRoom plain cut → IsVerdict rules calls Verdict.Clean
  cut_clean fine = clean_verdict rules calls (clean_evenly rules plain calls cut same differ (cut_timed rules.ties.items calls cut (lone calls rules.ties.items may) k) (written_cut rules.ties.items calls cut may k written) fine)
