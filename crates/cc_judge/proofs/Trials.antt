-- What the search for an order keeps from one cut to the next.
use Rattle.std.proofs.Common.{◌≡◌, ℕ, zero, suc, ◌+◌, ◌-◌, ◌*◌, ◌/◌, ◌<◌, ◌≤◌, ◌⊎◌, inl, inr, List, [], ◌∷◌, ◌++◌, length, Option, Some, None, IsSome, refl, sym, ap, ◌∙◌, subst, arith}
use Rattle.std.specs.List.{slice_get}
use Rattle.std.proofs.Math.Nat.{div-mul-le_self, mul-le-mul_left, mul-le-mul_right}
use Rattle.std.proofs.lemmas.Nat.{le-div}
use Rattle.std.proofs.lemmas.Bool.{cases_lt}
use Rattle.std.proofs.lemmas.Option.{slice_get_within}
use Rattle.std.proofs.lemmas.List.{length_push}
use Rattle.cc_judge.specs.Names.{Call, Explored, Rules, Tie}
use Rattle.cc_judge.specs.Order.{EndsBefore, IsLinearizable}
use Rattle.cc_judge.specs.Faults.{Differ}
use Rattle.cc_judge.specs.Faultless.{IsWritten, NoFault}
use Rattle.cc_judge.specs.Room.{KeepsRoom}
use Rattle.cc_judge.specs.Cuts.{AreEach}
use Rattle.cc_judge.specs.Splits.{AllTouch, AreLeft, AreOpen, AreTiesLeft, DoTouch, EndsInParts, HaveRoom, IsBegunBefore, IsClean, IsExplored, IsExploredAt, IsFiner, IsInParts, IsSplit, IsTieOf, MaySplit, NoneAt, spend}
use Rattle.cc_judge.proofs.Listing.{at_pushed, last_pushed, pushed_at}
use Rattle.cc_judge.proofs.Faultless.{faultless_logs_have_orders}
use Rattle.cc_judge.proofs.Splits.{split_finer, split_before, splits_are_exact}
use Rattle.cc_judge.proofs.Calls.{end_cases, is_some_of, none_some, one_end}
use Rattle.cc_judge.proofs.Turns.{one_at, less_or, slice_has}

-- ---- times in parts

module _ (first parts : ℕ) (positive : 0 < parts) where
  later_part : (e b x y : ℕ) → x / parts + first ≤ e → e < b → b ≤ y / parts + first → x < y
  later_part e b x y ends less begins = elim (cases_lt x y) [
    | inl before ↦ before
    | inr not_before ↦
        let low = div-mul-le_self y parts in
        let le = le-div (y / parts) x parts positive (omega (arith, low, not_before)) in
        absurd (omega (arith, ends, less, begins, le))
  ]

  part_of : (e p : Option ℕ) (n : ℕ) → EndsInParts first parts e p → e ≡ Some n → (m : ℕ) × (p ≡ Some m) × (m / parts + first ≤ n)
  part_of (Some e) (Some p) n by is = let same : e ≡ n = cc in (p, refl, omega (arith, by, same))
  part_of (Some e) None n by is = absurd by
  part_of None p n by is = absurd (cc (is))

  end_of : (e p : Option ℕ) → EndsInParts first parts e p → IsSome p → IsSome e
  end_of (Some e) p by some = refl
  end_of None (Some p) by some = absurd by
  end_of None None by some = some

  pub parts_finer : (calls cut : List Call) → length calls ≡ length cut → ((k : ℕ) (c d : Call) → k < length calls → slice_get calls k ≡ Some c → slice_get cut k ≡ Some d → IsInParts first parts c d) → IsFiner calls cut
  parts_finer calls cut long each = record {
    there = λ p c is.
        let less = slice_get_within calls p c is in
        let d = slice_has cut p (omega (arith, less, long)) in
        let i = each p c d.0 less is d.1 in
        (d.0, d.1, i.act, λ some. elim (end_cases c.end) [ inr none ↦ absurd (none_some c.end none some) | inl e ↦ let m = part_of c.end d.0.end e.0 i.end e.1 in is_some_of d.0.end m.0 m.1 ]);
    back = λ p d is.
        let less = slice_get_within cut p d is in
        let c = slice_has calls p (omega (arith, less, long)) in
        let i = each p c.0 d (omega (arith, less, long)) c.1 is in
        (c.0, c.1, i.act, end_of c.0.end d.end i.end);
    before = λ a b e.
        let lower = slice_get_within calls a e.one e.one_is in
        let upper = slice_get_within calls b e.other e.other_is in
        let one = slice_has cut a (omega (arith, lower, long)) in
        let other = slice_has cut b (omega (arith, upper, long)) in
        let i = each a e.one one.0 lower e.one_is one.1 in
        let j = each b e.other other.0 upper e.other_is other.1 in
        let m = part_of e.one.end one.0.end e.end i.end e.ended in
        record { one = one.0; other = other.0; end = m.0; one_is = one.1; other_is = other.1; ended = m.1; before = later_part e.end e.other.begin m.0 other.0.begin m.2 e.before j.begin };
  }

pub parts_more : (first parts : ℕ) (calls cut : List Call) (place : ℕ) (x y : Call) → slice_get calls place ≡ Some x → slice_get cut place ≡ Some y → IsInParts first parts x y → ((k : ℕ) (c d : Call) → k < place → slice_get calls k ≡ Some c → slice_get cut k ≡ Some d → IsInParts first parts c d) → (k : ℕ) (c d : Call) → k < place + 1 → slice_get calls k ≡ Some c → slice_get cut k ≡ Some d → IsInParts first parts c d
parts_more first parts calls cut place x y x_is y_is is so_far k c d below c_is d_is = elim (less_or k place below) [
  | inl less ↦ so_far k c d less c_is d_is
  | inr here ↦
      let one = one_at calls place x c x_is (ap (slice_get calls) (sym here) ∙ c_is) in
      let other = one_at cut place y d y_is (ap (slice_get cut) (sym here) ∙ d_is) in
      subst (λ (e : Call). IsInParts first parts e d) one (subst (IsInParts first parts x) other is)
]

-- ---- ties that are left

pub record LeftTo (ties : List Tie) (cut : List Call) (rest : List Tie) (upto : ℕ) : Type 0 where
  pub of : (i : ℕ) (tie : Tie) → slice_get rest i ≡ Some tie → IsTieOf ties tie
  pub all : (i : ℕ) (tie : Tie) → i < upto → slice_get ties i ≡ Some tie → EndsBefore cut tie.earlier tie.later ⊎ IsTieOf rest tie
  pub still : AreOpen rest cut
  pub few : length rest ≤ upto
  pub fewer : (i : ℕ) (tie : Tie) → i < upto → slice_get ties i ≡ Some tie → EndsBefore cut tie.earlier tie.later → length rest < upto

pub none_left : (ties : List Tie) (cut : List Call) → LeftTo ties cut [] 0
none_left ties cut = record { of = λ i tie is. absurd (cc (is)); all = λ i tie less. absurd (omega (arith, less)); still = λ i tie is. absurd (cc (is)); few = omega arith; fewer = λ i tie less. absurd (omega (arith, less)) }

module _ (ties : List Tie) (cut : List Call) (rest : List Tie) (upto : ℕ) (tie : Tie) (is : slice_get ties upto ≡ Some tie) (so_far : LeftTo ties cut rest upto) where
  pub is_left : (EndsBefore cut tie.earlier tie.later → ⊥) → LeftTo ties cut (rest ++ tie ∷ []) (upto + 1)
  is_left not_before = record {
    of = λ i t at. elim (pushed_at rest tie t i at) [ inl had ↦ so_far.of i t had | inr last ↦ (upto, is ∙ ap Some (sym last.1)) ];
    all = λ i t below at. elim (less_or i upto below) [
      | inl less ↦ elim (so_far.all i t less at) [ inl before ↦ inl before | inr had ↦ inr (had.0, at_pushed rest tie t had.0 had.1) ]
      | inr here ↦ inr (length rest, last_pushed rest tie ∙ ap Some (one_at ties upto tie t is (ap (slice_get ties) (sym here) ∙ at)))
    ];
    still = λ i t at before. elim (pushed_at rest tie t i at) [ inl had ↦ so_far.still i t had before | inr last ↦ not_before (subst (λ (x : Tie). EndsBefore cut x.earlier x.later) last.1 before) ];
    few = let long = length_push rest tie in let few = so_far.few in omega (arith, long, few);
    fewer = λ i t below at before. elim (less_or i upto below) [
      | inl less ↦ let long = length_push rest tie in let fewer = so_far.fewer i t less at before in omega (arith, long, fewer)
      | inr here ↦ absurd (not_before (subst (λ (x : Tie). EndsBefore cut x.earlier x.later) (one_at ties upto t tie (ap (slice_get ties) (sym here) ∙ at) is) before))
    ];
  }

  pub is_timed : EndsBefore cut tie.earlier tie.later → LeftTo ties cut rest (upto + 1)
  is_timed before = record {
    of = so_far.of;
    all = λ i t below at. elim (less_or i upto below) [
      | inl less ↦ so_far.all i t less at
      | inr here ↦ inl (subst (λ (x : Tie). EndsBefore cut x.earlier x.later) (one_at ties upto tie t is (ap (slice_get ties) (sym here) ∙ at)) before)
    ];
    still = so_far.still;
    few = let few = so_far.few in omega (arith, few);
    fewer = λ i t below at b. let few = so_far.few in omega (arith, few);
  }

pub all_left : (ties : List Tie) (cut : List Call) (rest : List Tie) (upto : ℕ) → length ties ≡ upto → LeftTo ties cut rest upto → AreTiesLeft ties cut rest
all_left ties cut rest upto end l = record {
  of = l.of;
  all = λ i tie is. let less = slice_get_within ties i tie is in l.all i tie (omega (arith, less, end)) is;
  still = l.still;
  fewer = λ i tie is before. let less = slice_get_within ties i tie is in let f = l.fewer i tie (omega (arith, less, end)) is before in omega (arith, f, end);
}

pub touch_more : (calls : List Call) (ties : List Tie) (i : ℕ) (tie : Tie) → slice_get ties i ≡ Some tie → DoTouch calls tie → ((k : ℕ) (t : Tie) → k < i → slice_get ties k ≡ Some t → DoTouch calls t) → (k : ℕ) (t : Tie) → k < i + 1 → slice_get ties k ≡ Some t → DoTouch calls t
touch_more calls ties i tie is touch so_far k t below at = elim (less_or k i below) [
  | inl less ↦ so_far k t less at
  | inr here ↦ subst (DoTouch calls) (one_at ties i tie t is (ap (slice_get ties) (sym here) ∙ at)) touch
]

-- ---- one cut

module _ (rules rest : Rules) (calls cut : List Call) (tie : Tie) (time : ℕ) (at : IsTieOf rules.ties.items tie) (touch : AllTouch calls rules.ties.items) (may : MaySplit calls tie time) (k : IsSplit tie time calls cut) where
  pub before_now : EndsBefore cut tie.earlier tie.later
  before_now = let t = touch at.0 tie at.1 in split_before calls cut tie time may k t.one t.one_is (is_some_of t.one.end t.end t.ended)

  pub touch_now : AreLeft rules rest cut → AreOpen rest.ties.items cut → AllTouch cut rest.ties.items
  touch_now l still i t is =
      let f = split_finer calls cut tie time may k in
      let r = l.of i t is in
      let had = touch r.0 t r.1 in
      let one = f.there t.earlier had.one had.one_is in
      let other = f.there t.later had.other had.other_is in
      elim (end_cases one.0.end) [
        | inr none ↦ absurd (none_some one.0.end none (one.3 (is_some_of had.one.end had.end had.ended)))
        | inl e ↦ record {
          apart = had.apart;
          one = one.0;
          other = other.0;
          one_is = one.1;
          other_is = other.1;
          end = e.0;
          ended = e.1;
          touch = elim (cases_lt e.0 other.0.begin) [
            | inl less ↦ absurd (still i t is (record { one = one.0; other = other.0; end = e.0; one_is = one.1; other_is = other.1; ended = e.1; before = less }))
            | inr not_less ↦ not_less
          ];
        }
      ]

  pub clean_before : AreLeft rules rest cut → IsClean rest cut → IsClean rules calls
  clean_before l c =
      let f = split_finer calls cut tie time may k in
      record {
        plain = c.plain;
        same = record { capacity = c.same.capacity ∙ l.capacity; closes = c.same.closes ∙ l.closes; none = c.same.none };
        cut = c.cut;
        timed = record {
          finer = record {
            there = λ p x is.
                let d = f.there p x is in
                let e = c.timed.finer.there p d.0 d.1 in
                (e.0, e.1, e.2 ∙ d.2, λ some. e.3 (d.3 some));
            back = λ p e is.
                let d = c.timed.finer.back p e is in
                let x = f.back p d.0 d.1 in
                (x.0, x.1, d.2 ∙ x.2, λ some. x.3 (d.3 some));
            before = λ a b e. c.timed.finer.before a b (f.before a b e);
          };
          timed = λ i t is. elim (l.all i t is) [ inl before ↦ c.timed.finer.before t.earlier t.later before | inr r ↦ c.timed.timed r.0 t r.1 ];
        };
        order = c.order;
        keeps = c.keeps;
      }

  pub explored_at : AreLeft rules rest cut → (found : Explored) → IsExplored rest cut found → IsExploredAt rules calls tie time found
  explored_at l Explored.Clean is = clean_before l is
  explored_at l Explored.NoOrder is = record { rest = rest; cut = cut; split = k; left = l; none = is }
  explored_at l (Explored.Stuck stuck) is = tt

  pub room_now : (more fewer : ℕ) → fewer < more → time + more < 9223372036854775808 → HaveRoom more calls → HaveRoom fewer cut
  room_now more fewer less short room p d is =
      let c = k.back p d is in
      let r = room p c.0 c.1 in
      let begins = r.0 in (
        elim c.2.begin [
          | inl late ↦ let b_is = late.1 in omega (arith, less, short, b_is)
          | inr free ↦ elim free.1 [ inl low ↦ let b_is = low.1 in omega (arith, less, begins, b_is) | inr high ↦ let b_is = high.1 in omega (arith, less, begins, b_is) ]
        ],
        λ e ends. elim (end_cases c.0.end) [
          | inr none ↦ absurd (none_some d.end (c.2.open_end none) (is_some_of d.end e ends))
          | inl f ↦
              let new = c.2.end f.0 f.1 in
              let same = one_end d.end e new.0 ends new.1 in
              let room_end = r.1 f.0 f.1 in
              elim new.2 [
                | inl early ↦ let e_is = early.1 in omega (arith, less, short, e_is, same)
                | inr free ↦ elim free.1 [ inl low ↦ let e_is = low.1 in omega (arith, less, room_end, e_is, same) | inr high ↦ let e_is = high.1 in omega (arith, less, room_end, e_is, same) ]
              ]
        ],
      )

-- a log that is cut has as many calls
pub each_long : (R : (place : ℕ) → (whole part : Call) → Type 0) (calls cut : List Call) → AreEach R calls cut → length cut ≡ length calls
each_long R calls cut k = elim (cases_lt (length cut) (length calls)) [
  | inl less ↦ let c = slice_has calls (length cut) less in let d = k.there (length cut) c.0 c.1 in let within = slice_get_within cut (length cut) d.0 d.1 in absurd (omega (arith, within))
  | inr not_less ↦ elim (cases_lt (length calls) (length cut)) [
    | inl more ↦ let d = slice_has cut (length calls) more in let c = k.back (length calls) d.0 d.1 in let within = slice_get_within calls (length calls) c.0 c.1 in absurd (omega (arith, within))
    | inr not_more ↦ omega (arith, not_less, not_more)
  ]
]

pub spend_more : (calls few many : ℕ) → few ≤ many → spend calls few ≤ spend calls many
spend_more calls zero many le = omega arith
spend_more calls (suc few) zero le = absurd (omega (arith, le))
spend_more calls (suc few) (suc many) le = let more = spend_more calls few many (omega (arith, le)) in mul-le-mul_left calls (omega (arith, more))

-- what one cut takes
pub spent_once : (calls few many before after : ℕ) → few ≤ many → calls ≤ before → before - calls ≤ after + spend calls few → before ≤ after + (calls + spend calls many)
spent_once calls few many before after le enough spent = let more = spend_more calls few many le in omega (arith, enough, spent, more)

-- ---- cut after cut

-- the log has no order that is cut at the begin of a call at an earlier place, and the search took no more from what was left
pub record TriedTo (rules : Rules) (calls : List Call) (tie : Tie) (upto before left : ℕ) : Type 0 where
  pub none : (k : ℕ) (c : Call) → k < upto → slice_get calls k ≡ Some c → MaySplit calls tie c.begin → NoneAt rules calls tie c.begin
  pub spent : (fewer : ℕ) → length rules.ties.items ≡ suc fewer → before ≤ left + upto * (length calls + spend (length calls) fewer)

count_of : (ties : List Tie) (tie : Tie) → IsTieOf ties tie → (fewer : ℕ) × (length ties ≡ suc fewer)
count_of [] tie at = absurd (cc (at.1))
count_of (x ∷ ties) tie at = (length ties, omega arith)

module _ (rules : Rules) (calls : List Call) (tie : Tie) (upto before left : ℕ) (t : TriedTo rules calls tie upto before left) where
  pub tried_more : (c : Call) (now : ℕ) → slice_get calls upto ≡ Some c → (MaySplit calls tie c.begin → NoneAt rules calls tie c.begin) → ((fewer : ℕ) → length rules.ties.items ≡ suc fewer → left ≤ now + (length calls + spend (length calls) fewer)) → TriedTo rules calls tie (upto + 1) before now
  tried_more c now is none spent = record {
    none = λ k d below d_is. elim (less_or k upto below) [
      | inl less ↦ t.none k d less d_is
      | inr here ↦ subst (λ (x : Call). MaySplit calls tie x.begin → NoneAt rules calls tie x.begin) (one_at calls upto c d is (ap (slice_get calls) (sym here) ∙ d_is)) none
    ];
    spent = λ fewer long. let had = t.spent fewer long in let more = spent fewer long in omega (arith, had, more);
  }

  pub more_spent : (now : ℕ) → IsTieOf rules.ties.items tie → upto < length calls → ((fewer : ℕ) → length rules.ties.items ≡ suc fewer → left ≤ now + (length calls + spend (length calls) fewer)) → before ≤ now + spend (length calls) (length rules.ties.items)
  more_spent now at less spent =
      let fewer = count_of rules.ties.items tie at in
      let had = t.spent fewer.0 fewer.1 in
      let once = spent fewer.0 fewer.1 in
      let le : upto + 1 ≤ length calls = omega (arith, less) in
      let more = mul-le-mul_right (length calls + spend (length calls) fewer.0) le in
      subst (λ (n : ℕ). before ≤ now + spend (length calls) n) (sym fewer.1) (omega (arith, had, once, more))

  pub all_spent : IsTieOf rules.ties.items tie → upto ≤ length calls → before ≤ left + spend (length calls) (length rules.ties.items)
  all_spent at le =
      let fewer = count_of rules.ties.items tie at in
      let had = t.spent fewer.0 fewer.1 in
      let more = mul-le-mul_right (length calls + spend (length calls) fewer.0) le in
      subst (λ (n : ℕ). before ≤ left + spend (length calls) n) (sym fewer.1) (omega (arith, had, more))

  pub no_order_left : IsTieOf rules.ties.items tie → IsWritten calls → AllTouch calls rules.ties.items → length calls ≤ upto → IsLinearizable rules calls → ⊥
  no_order_left at written touch end order =
      let c = splits_are_exact.exact rules calls at.0 tie at.1 written (touch at.0 tie at.1) order in
      let less = slice_get_within calls c.0 c.1 c.2 in
      let n = t.none c.0 c.1 (omega (arith, less, end)) c.2 c.3 in
      n.none (c.4 n.rest n.cut n.split n.left)

-- a log whose begins were tried at an earlier place
pub tried_before : (rules : Rules) (calls : List Call) (tie : Tie) (upto before left time : ℕ) → TriedTo rules calls tie upto before left → IsBegunBefore calls upto time → MaySplit calls tie time → NoneAt rules calls tie time
tried_before rules calls tie upto before left time t b = subst (λ (n : ℕ). MaySplit calls tie n → NoneAt rules calls tie n) b.4 (t.none b.0 b.1 b.2 b.3)

pub explored_on : (rules : Rules) (calls : List Call) (tie : Tie) (time : ℕ) (found : Explored) → (found ≡ Explored.NoOrder → ⊥) → IsExploredAt rules calls tie time found → IsExplored rules calls found
explored_on rules calls tie time Explored.Clean other is = is
explored_on rules calls tie time Explored.NoOrder other is = absurd (other refl)
explored_on rules calls tie time (Explored.Stuck stuck) other is = tt

-- ---- a log without ties

pub clean_so : (rules : Rules) (calls : List Call) → rules.ties.items ≡ [] → Differ calls → IsWritten calls → NoFault rules calls × KeepsRoom rules calls → IsClean rules calls
clean_so rules calls none differ written fine = record {
  plain = rules;
  same = record { capacity = refl; closes = refl; none = none };
  cut = calls;
  timed = record {
    finer = record { there = λ p c is. (c, is, refl, λ some. some); back = λ p c is. (c, is, refl, λ some. some); before = λ a b e. e };
    timed = subst (λ (ties : List Tie). (i : ℕ) (tie : Tie) → slice_get ties i ≡ Some tie → EndsBefore calls tie.earlier tie.later) (sym none) (λ i tie is. absurd (cc (is)));
  };
  order = faultless_logs_have_orders rules calls none differ written fine.0;
  keeps = fine.1;
}
