-- Takes that haven't returned are given the items that are left: the take that began first has the item whose send ended first.
use Rattle.std.proofs.Common.{◌≡◌, ◌≢◌, ℕ, zero, suc, ◌+◌, ◌<◌, ◌≤◌, ◌⊎◌, inl, inr, false, List, [], ◌∷◌, length, Some, None, IsSome, refl, sym, ap, ◌∙◌, subst, arith}
use Rattle.std.specs.List.{slice_get}
use Rattle.std.proofs.lemmas.Bool.{cases_lt}
use Rattle.std.proofs.lemmas.Option.{slice_get_within, slice_get_cases}
use Rattle.cc_judge.specs.Names.{Act, Call, Step, Rules}
use Rattle.cc_judge.specs.Order.{EndsBefore, MayHaveDone, IsOfLog, IsOrder, IsLinearizable, of_any_capacity}
use Rattle.cc_judge.specs.Faults.{Did, Differ, FindsNone, Once}
use Rattle.cc_judge.proofs.Places.{In, at_in, from_without, without, without_length}
use Rattle.cc_judge.proofs.Turns.{nat_cases}
use Rattle.cc_judge.proofs.Fewer.{in_or_not, without_once}
use Rattle.cc_judge.specs.Complete.{IsLeft, IsWaiting, Enough, Ready}
use Rattle.cc_judge.proofs.Views.{Faultless, faultless_has_order, taker}
use Rattle.cc_judge.proofs.Complete.{Quiet}
use Rattle.cc_judge.specs.Late.{Weaker}
use Rattle.cc_judge.proofs.Weaker.{weaken}
use Rattle.cc_judge.proofs.Calls.{end_cases, none_some, one_call, one_act, is_send, none_took}

-- ---- the log in which a take has an item

pub give : List Call → (p item : ℕ) → List Call
give [] p item = []
give (c ∷ calls) zero item = record { begin = c.begin; end = c.end; act = Act.Took item } ∷ calls
give (c ∷ calls) (suc p) item = c ∷ give calls p item

there : (calls : List Call) (p item q : ℕ) → q ≢ p → slice_get (give calls p item) q ≡ slice_get calls q
unfolding give
there [] p item q other = refl
there (c ∷ calls) zero item zero other = absurd (other refl)
there (c ∷ calls) zero item (suc q) other = refl
there (c ∷ calls) (suc p) item zero other = refl
there (c ∷ calls) (suc p) item (suc q) other = there calls p item q (λ same. other (ap suc same))

here : (calls : List Call) (p item : ℕ) (c : Call) → slice_get calls p ≡ Some c → slice_get (give calls p item) p ≡ Some (record { begin = c.begin; end = c.end; act = Act.Took item })
unfolding give
here [] p item c is = cc
here (x ∷ calls) zero item c is = let e : x ≡ c = cc in ap (λ (y : Call). Some (record { begin = y.begin; end = y.end; act = Act.Took item })) e
here (x ∷ calls) (suc p) item c is = here calls p item c is

-- how many takes haven't returned
pub waiting_of : Act → ℕ
waiting_of Act.Taking = 1
waiting_of _ = 0

pub waiting : List Call → ℕ
waiting [] = 0
waiting (c ∷ calls) = waiting_of c.act + waiting calls

fewer_wait : (calls : List Call) (p item : ℕ) → Did calls p Act.Taking → waiting (give calls p item) < waiting calls
unfolding give waiting waiting_of
fewer_wait [] p item d = let is = d.call_is in cc
fewer_wait (c ∷ calls) zero item d = grind arith
fewer_wait (c ∷ calls) (suc p) item d = let h = fewer_wait calls p item (record { call = d.call; call_is = d.call_is; act_is = d.act_is }) in omega (arith, h)

module _ (calls : List Call) (p item : ℕ) (dp : Did calls p Act.Taking) where
  gave : Did (give calls p item) p (Act.Took item)
  gave = record { call = record { begin = dp.call.begin; end = dp.call.end; act = Act.Took item }; call_is = here calls p item dp.call dp.call_is; act_is = refl }

  -- a call of the new log is one of the old, or that take
  pub record Old (q : ℕ) (act : Act) (d : Did (give calls p item) q act) : Type 0 where
    pub old : Did calls q act
    pub call_is : d.call ≡ old.call

  pub record New (q : ℕ) (act : Act) (d : Did (give calls p item) q act) : Type 0 where
    pub place : q ≡ p
    pub act_is : act ≡ Act.Took item
    pub begin : d.call.begin ≡ dp.call.begin
    pub end : d.call.end ≡ dp.call.end

  which : (q : ℕ) (act : Act) (d : Did (give calls p item) q act) → Old q act d ⊎ New q act d
  unfolding gave
  which q act d = elim (nat_cases q p) [
    | inr other ↦ inl (record { old = record { call = d.call; call_is = sym (there calls p item q other) ∙ d.call_is; act_is = d.act_is }; call_is = refl })
    | inl same ↦
        let one : d.call ≡ gave.call = cc (sym d.call_is ∙ ap (slice_get (give calls p item)) same ∙ gave.call_is) in
        inr (record { place = same; act_is = sym d.act_is ∙ ap (λ (c : Call). c.act) one; begin = ap (λ (c : Call). c.begin) one; end = ap (λ (c : Call). c.end) one })
  ]

  -- one that isn't a take of the item is old
  old_of : (q : ℕ) (act : Act) → (d : Did (give calls p item) q act) → act ≢ Act.Took item → Old q act d
  old_of q act d other = elim (which q act d) [ inl o ↦ o | inr n ↦ absurd (other n.act_is) ]

  new_of : (q : ℕ) (act : Act) → (d : Did calls q act) → act ≢ Act.Taking → Did (give calls p item) q act
  new_of q act d other = record { call = d.call; call_is = there calls p item q (λ same. other (one_act calls p act Act.Taking (subst (λ (r : ℕ). Did calls r act) same d) dp)) ∙ d.call_is; act_is = d.act_is }

  -- the times are as they were
  times : (q : ℕ) (c : Call) → slice_get (give calls p item) q ≡ Some c → (d : Call) × (slice_get calls q ≡ Some d) × (c.begin ≡ d.begin) × (c.end ≡ d.end)
  unfolding gave
  times q c is = elim (nat_cases q p) [
    | inr other ↦ (c, sym (there calls p item q other) ∙ is, refl, refl)
    | inl same ↦
        let one : c ≡ gave.call = cc (sym is ∙ ap (slice_get (give calls p item)) same ∙ gave.call_is) in
        (dp.call, ap (slice_get calls) same ∙ dp.call_is, ap (λ (x : Call). x.begin) one, ap (λ (x : Call). x.end) one)
  ]

  ends_old : (a b : ℕ) → EndsBefore (give calls p item) a b → EndsBefore calls a b
  ends_old a b e = grind (arith, times)

  weaker : Weaker (give calls p item) calls
  unfolding gave
  weaker = record {
    there = λ q c is. elim (nat_cases q p) [
      | inr other ↦ (c, sym (there calls p item q other) ∙ is, λ act may. may)
      | inl same ↦
          let both : Some c ≡ Some gave.call = sym is ∙ ap (slice_get (give calls p item)) same ∙ gave.call_is in
          let one : c ≡ gave.call = cc in
          (dp.call, ap (slice_get calls) same ∙ dp.call_is, λ act may. subst (λ (a : Act). MayHaveDone dp.call.act a) (subst (λ (x : Call). MayHaveDone x.act act) one may) (subst (λ (a : Act). MayHaveDone a (Act.Took item)) (sym dp.act_is) tt))
    ];
    back = λ q d is. elim (nat_cases q p) [
      | inr other ↦ (d, there calls p item q other ∙ is, omega arith, λ e ends. (e, ends, omega arith))
      | inl same ↦
          let one : d ≡ dp.call = cc in
          (gave.call, ap (slice_get (give calls p item)) same ∙ gave.call_is, grind arith, λ e ends. (e, sym (ap (λ (x : Call). x.end) one) ∙ ends, omega arith))
    ];
  }

-- ---- lists of places

-- of one place more than wanted all but one aren't this one
record But (q : ℕ) (ys : List ℕ) : Type 0 where
  zs : List ℕ
  len : length zs + 1 ≡ length ys
  once : Once zs
  within : (r : ℕ) → In r zs → In r ys
  other : (r : ℕ) → In r zs → r ≢ q

but : (q n : ℕ) (ys : List ℕ) → length ys ≡ suc n → Once ys → But q ys
but q n [] len once = absurd (omega (arith, len))
but q n (y ∷ ys) len once = elim (in_or_not q (y ∷ ys)) [
  | inl has ↦ record {
    zs = without q (y ∷ ys) has;
    len = without_length q (y ∷ ys) has;
    once = (without_once q (y ∷ ys) has once).0;
    within = λ r h. from_without q r (y ∷ ys) has h;
    other = λ r h same. (without_once q (y ∷ ys) has once).1 (subst (λ (s : ℕ). In s (without q (y ∷ ys) has)) same h);
  }
  | inr no_such ↦ record { zs = ys; len = omega arith; once = once.1; within = λ r h. inr h; other = λ r h same. no_such (inr (subst (λ (s : ℕ). In s ys) same h)) }
]

-- ---- the least of some places

pub record LeastAt (P : ℕ → ℕ → Type 0) (n : ℕ) : Type 0 where
  pub place : ℕ
  pub number : ℕ
  pub holds : P place number
  pub least : (q v : ℕ) → q < n → P q v → number ≤ v

pub least_at : (P : ℕ → ℕ → Type 0) → (one : (q v w : ℕ) → P q v → P q w → v ≡ w) → ((q : ℕ) → ((v : ℕ) × P q v) ⊎ ((v : ℕ) → P q v → ⊥)) → (n : ℕ) → LeastAt P n ⊎ ((q v : ℕ) → q < n → P q v → ⊥)
least_at P one decide zero = inr (λ q v less h. omega (arith, less))
least_at P one decide (suc n) = elim (decide n) [
  | inr none_here ↦ elim (least_at P one decide n) [
    | inl l ↦ inl (record { place = l.place; number = l.number; holds = l.holds; least = λ q v less h. elim (cases_lt q n) [ inl lower ↦ l.least q v lower h | inr not_less ↦ let same : q ≡ n = omega (arith, less, not_less) in absurd (none_here v (subst (λ (r : ℕ). P r v) same h)) ] })
    | inr nobody ↦ inr (λ q v less h. elim (cases_lt q n) [ inl lower ↦ nobody q v lower h | inr not_less ↦ let same : q ≡ n = omega (arith, less, not_less) in none_here v (subst (λ (r : ℕ). P r v) same h) ])
  ]
  | inl r ↦ elim (least_at P one decide n) [
    | inr nobody ↦ inl (record { place = n; number = r.0; holds = r.1; least = λ q v less h. elim (cases_lt q n) [ inl lower ↦ absurd (nobody q v lower h) | inr not_less ↦ let same : q ≡ n = omega (arith, less, not_less) in let e = one n r.0 v r.1 (subst (λ (s : ℕ). P s v) same h) in omega (arith, e) ] })
    | inl l ↦ elim (cases_lt r.0 l.number) [
      | inl lower ↦ inl (record { place = n; number = r.0; holds = r.1; least = λ q v less h. elim (cases_lt q n) [ inl low ↦ let t = l.least q v low h in omega (arith, t, lower) | inr not_less ↦ let same : q ≡ n = omega (arith, less, not_less) in let e = one n r.0 v r.1 (subst (λ (s : ℕ). P s v) same h) in omega (arith, e) ] })
      | inr higher ↦ inl (record { place = l.place; number = l.number; holds = l.holds; least = λ q v less h. elim (cases_lt q n) [ inl low ↦ l.least q v low h | inr not_less ↦ let same : q ≡ n = omega (arith, less, not_less) in let e = one n r.0 v r.1 (subst (λ (s : ℕ). P s v) same h) in omega (arith, e, higher) ] })
    ]
  ]
]

-- ---- one is given

module _ (calls : List Call) (differ : Differ calls) (ready : Ready calls) (p : ℕ) (dp : Did calls p Act.Taking) (first : (q : ℕ) (d : Did calls q Act.Taking) → dp.call.begin ≤ d.call.begin)
    (x item end : ℕ) (dx : Did calls x (Act.Send item)) (ended : dx.call.end ≡ Some end) (untaken : (t : ℕ) → Did calls t (Act.Took item) → ⊥) (earliest : (y v e : ℕ) (d : Did calls y (Act.Send v)) → d.call.end ≡ Some e → ((t : ℕ) → Did calls t (Act.Took v) → ⊥) → end ≤ e) where
  New_calls : List Call
  New_calls = give calls p item

  send_old : (y v : ℕ) → (d : Did (give calls p item) y (Act.Send v)) → Old calls p item dp y (Act.Send v) d
  send_old y v d = old_of calls p item dp y (Act.Send v) d (λ is. cc)

  -- if enough takes had begun by a time for x, that take had
  by_then : (sent began : ℕ) → Enough calls sent began → end < sent → dp.call.begin ≤ began
  by_then sent began enough early = one r.0 r.1 r.3
    where
      r : (ys : List ℕ) × (length ys ≡ 1) × Once ys × ((q : ℕ) → In q ys → IsWaiting calls began q)
      r = enough (x ∷ []) ((λ none. none), tt) (λ y within. elim within [
        | inl same ↦ subst (IsLeft calls sent) same (record { item = item; sent = dx; end = end; ended = ended; early = early; untaken = untaken })
        | inr none ↦ absurd none
      ])

      one : (ys : List ℕ) → length ys ≡ 1 → ((q : ℕ) → In q ys → IsWaiting calls began q) → dp.call.begin ≤ began
      one [] len each = absurd (omega (arith, len))
      one (q ∷ ys) len each = let w = each q (inl refl) in let b = w.begun in let f = first q w.taking in omega (arith, b, f)

  -- an item that is left now was left before, and is another
  left_before : (sent y : ℕ) → IsLeft (give calls p item) sent y → IsLeft calls sent y × (y ≢ x)
  left_before sent y l =
      let o = send_old y l.item l.sent in (
        record {
          item = l.item;
          sent = o.old;
          end = l.end;
          ended = ap (λ (c : Call). c.end) (sym o.call_is) ∙ l.ended;
          early = l.early;
          untaken = λ t d. l.untaken t (new_of calls p item dp t (Act.Took l.item) d (λ is. cc));
        },
        λ same.
            let items : item ≡ l.item = cc in
            l.untaken p (subst (λ (v : ℕ). Did (give calls p item) p (Act.Took v)) items (gave calls p item dp)),
      )

  still_enough : (sent began : ℕ) → Enough calls sent began → Enough (give calls p item) sent began
  still_enough sent began enough [] once each = ([], refl, tt, λ q within. absurd within)
  still_enough sent began enough (y ∷ xs) once each =
      let l = left_before sent y (each y (inl refl)) in
      let e = earliest y l.0.item l.0.end l.0.sent l.0.ended l.0.untaken in
      let f = l.0.early in
      let r = enough (x ∷ y ∷ xs) (outside, once) all in
      let b = but p (length (y ∷ xs)) r.0 r.1 r.2 in
      let was = r.1 in (
        b.zs,
        omega (arith, was),
        b.once,
        λ q within.
            let w = r.3 q (b.within q within) in
            record {
              taking = record { call = w.taking.call; call_is = there calls p item q (b.other q within) ∙ w.taking.call_is; act_is = w.taking.act_is };
              begun = w.begun;
            },
      )
    where
      outside : In x (y ∷ xs) → ⊥
      outside within = (left_before sent x (each x within)).1 refl

      all : (z : ℕ) → In z (x ∷ y ∷ xs) → IsLeft calls sent z
      all z (inl same) =
          let l = left_before sent y (each y (inl refl)) in
          let e = earliest y l.0.item l.0.end l.0.sent l.0.ended l.0.untaken in
          let f = l.0.early in
          subst (IsLeft calls sent) same (record { item = item; sent = dx; end = end; ended = ended; early = omega (arith, e, f); untaken = untaken })
      all z (inr within) = (left_before sent z (each z within)).0

  -- a call that ended before another began, had that not returned
  never_ends : (a b : ℕ) (act : Act) (d : Did calls a act) → d.call.end ≡ None → EndsBefore calls a b → ⊥
  never_ends a b act d none e = grind arith

  ready_given : Ready (give calls p item)
  ready_given = record {
    timed = λ q c e is ends.
        let r = times calls p item dp q c is in
        let t = ready.timed q r.0 e r.1 (sym r.3 ∙ ends) in
        let b = r.2 in
        omega (arith, t, b);
    waits = λ q d. let o = old_of calls p item dp q Act.Taking d (λ is. cc) in ap (λ (c : Call). c.end) o.call_is ∙ ready.waits q o.old;
    sent = λ take v d. elim (which calls p item dp take (Act.Took v) d) [
      | inl o ↦ let s = ready.sent take v o.old in (s.0, new_of calls p item dp s.0 (Act.Send v) s.1 (λ is. cc))
      | inr n ↦ let acts : Act.Took v ≡ Act.Took item = n.act_is in let same : item ≡ v = cc in (x, new_of calls p item dp x (Act.Send v) (subst (λ (w : ℕ). Did calls x (Act.Send w)) same dx) (λ is. cc))
    ];
    once = λ v t u dt du. elim (which calls p item dp t (Act.Took v) dt) [
      | inl o ↦ elim (which calls p item dp u (Act.Took v) du) [ inl q ↦ ready.once v t u o.old q.old | inr n ↦ absurd (new_old v t o.old n.act_is) ]
      | inr n ↦ elim (which calls p item dp u (Act.Took v) du) [ inl q ↦ absurd (new_old v u q.old n.act_is) | inr m ↦ n.place ∙ sym m.place ]
    ];
    after = λ send take v s t ends. elim (which calls p item dp take (Act.Took v) t) [
      | inl o ↦ ready.after send take v (send_old send v s).old o.old (ends_old calls p item dp take send ends)
      | inr n ↦ never_ends p send Act.Taking dp (ready.waits p dp) (subst (λ (q : ℕ). EndsBefore calls q send) n.place (ends_old calls p item dp take send ends))
    ];
    in_turn = turn;
    last = λ y s2 t2 v other s untaken2 s_2 t ends before. late y s2 t2 v other s untaken2 s_2 t ends before;
    enough = λ s2 t2 other e s t ends. elim (which calls p item dp t2 (Act.Took other) t) [
      | inl o ↦
          let s_old = send_old s2 other s in
          let begins : s_old.old.call.begin ≡ s.call.begin = ap (λ (c : Call). c.begin) (sym s_old.call_is) in
          subst (λ (m : ℕ). Enough (give calls p item) m e) begins (still_enough s_old.old.call.begin e (ready.enough s2 t2 other e s_old.old o.old (ap (λ (c : Call). c.end) (sym o.call_is) ∙ ends)))
      | inr n ↦ let clash : None ≡ Some e = sym (ready.waits p dp) ∙ sym n.end ∙ ends in cc
    ];
    empty = λ call c e is finds ends.
        let o = old_of calls p item dp call c.act (record { call = c; call_is = is; act_is = refl }) (λ took. none_took c.act item finds took) in
        let same : o.old.call ≡ c = sym o.call_is in
        let m = ready.empty call o.old.call e o.old.call_is (subst (λ (d : Call). FindsNone d.act) (sym same) finds) (ap (λ (d : Call). d.end) same ∙ ends) in
        let begins : o.old.call.begin ≡ c.begin = ap (λ (d : Call). d.begin) same in
        let low = m.1 in (
          m.0,
          omega (arith, begins, low),
          m.2,
          (λ send take v f s s_ends early t. elim (which calls p item dp take (Act.Took v) t) [
            | inl q ↦
                let s_old = send_old send v s in
                let r = m.3 send take v f s_old.old (ap (λ (d : Call). d.end) (sym s_old.call_is) ∙ s_ends) early q.old in
                let b : t.call.begin ≡ q.old.call.begin = ap (λ (d : Call). d.begin) q.call_is in
                omega (arith, r, b)
            | inr n ↦
                let s_old = send_old send v s in
                let e2 = end_is send v f s_old.old (ap (λ (d : Call). d.end) (sym s_old.call_is) ∙ s_ends) n.act_is in
                let r = by_then m.0 m.0 m.4 (omega (arith, e2, early)) in
                let b = n.begin in
                omega (arith, r, b)
          ]),
          still_enough m.0 m.0 m.4,
        );
  }
    where
      new_old : (v t : ℕ) → Did calls t (Act.Took v) → Act.Took v ≡ Act.Took item → ⊥
      new_old v t d acts = let same : v ≡ item = cc in untaken t (subst (λ (w : ℕ). Did calls t (Act.Took w)) same d)

      -- the send of the item that is given is x, whose end is known: at least as early as the others
      end_is : (send v f : ℕ) → (s : Did calls send (Act.Send v)) → s.call.end ≡ Some f → Act.Took v ≡ Act.Took item → end ≤ f
      end_is send v f s s_ends acts = let same : item ≡ v = cc in earliest send v f s s_ends (subst (λ (w : ℕ). (t : ℕ) → Did calls t (Act.Took w) → ⊥) same untaken)

      x_ends : (y s2 v : ℕ) (s : Did calls y (Act.Send v)) → Act.Took v ≡ Act.Took item → (e : EndsBefore calls y s2) → end < e.other.begin
      x_ends y s2 v s acts e =
          let both : Some s.call ≡ Some e.one = sym s.call_is ∙ e.one_is in
          let one : s.call ≡ e.one = cc in
          let l = end_is y v e.end s (ap (λ (c : Call). c.end) one ∙ e.ended) acts in
          let b = e.before in
          omega (arith, l, b)

      turn : (s1 t1 s2 t2 one other : ℕ) → Did (give calls p item) s1 (Act.Send one) → Did (give calls p item) t1 (Act.Took one) → Did (give calls p item) s2 (Act.Send other) → Did (give calls p item) t2 (Act.Took other) → EndsBefore (give calls p item) s1 s2 → EndsBefore (give calls p item) t2 t1 → ⊥
      turn s1 t1 s2 t2 one other ds1 dt1 ds2 dt2 first_sent second_left = elim (which calls p item dp t2 (Act.Took other) dt2) [
        | inr n ↦ never_ends p t1 Act.Taking dp (ready.waits p dp) (subst (λ (q : ℕ). EndsBefore calls q t1) n.place (ends_old calls p item dp t2 t1 second_left))
        | inl o2 ↦ elim (which calls p item dp t1 (Act.Took one) dt1) [
          | inl o1 ↦ ready.in_turn s1 t1 s2 t2 one other (send_old s1 one ds1).old o1.old (send_old s2 other ds2).old o2.old (ends_old calls p item dp s1 s2 first_sent) (ends_old calls p item dp t2 t1 second_left)
          | inr n ↦
              let a = ends_old calls p item dp s1 s2 first_sent in
              let b = ends_old calls p item dp t2 t1 second_left in
              let s = (send_old s2 other ds2).old in
              let both : Some s.call ≡ Some a.other = sym s.call_is ∙ a.other_is in
              let same_s : s.call ≡ a.other = cc in
              let both2 : Some o2.old.call ≡ Some b.one = sym o2.old.call_is ∙ b.one_is in
              let same_t : o2.old.call ≡ b.one = cc in
              let begins : s.call.begin ≡ a.other.begin = ap (λ (c : Call). c.begin) same_s in
              let l = x_ends s1 s2 one (send_old s1 one ds1).old n.act_is a in
              let r = by_then s.call.begin b.end (ready.enough s2 t2 other b.end s o2.old (ap (λ (c : Call). c.end) same_t ∙ b.ended)) (omega (arith, l, begins)) in
              let same_p : b.other ≡ dp.call = cc in
              let t = b.before in
              grind (arith, r, t)
        ]
      ]

      late : (y s2 t2 v other : ℕ) → Did (give calls p item) y (Act.Send v) → ((t : ℕ) → Did (give calls p item) t (Act.Took v) → ⊥) → Did (give calls p item) s2 (Act.Send other) → (t : Did (give calls p item) t2 (Act.Took other)) → t.call.end ≡ None → EndsBefore (give calls p item) y s2 → ⊥
      late y s2 t2 v other s untaken2 s_2 t ends before = elim (which calls p item dp t2 (Act.Took other) t) [
        | inl o ↦ ready.last y s2 t2 v other (send_old y v s).old (λ u d. untaken2 u (new_of calls p item dp u (Act.Took v) d (λ is. cc))) (send_old s2 other s_2).old o.old (ap (λ (c : Call). c.end) (sym o.call_is) ∙ ends) (ends_old calls p item dp y s2 before)
        | inr n ↦
            let a = ends_old calls p item dp y s2 before in
            let sy = (send_old y v s).old in
            let both : Some sy.call ≡ Some a.one = sym sy.call_is ∙ a.one_is in
            let one : sy.call ≡ a.one = cc in
            let l = earliest y v a.end sy (ap (λ (c : Call). c.end) one ∙ a.ended) (λ u d. untaken2 u (new_of calls p item dp u (Act.Took v) d (λ is. cc))) in
            let s2_old = (send_old s2 other s_2).old in
            let same : other ≡ item = cc in
            let same_s : a.other ≡ s2_old.call = cc in
            let begins : a.other.begin ≡ s2_old.call.begin = ap (λ (c : Call). c.begin) same_s in
            late_end y s2 other same s2_old a.end l (omega (arith, a.before, begins))
      ]
        where
          late_end : (y s2 other : ℕ) → other ≡ item → (s : Did calls s2 (Act.Send other)) → (e : ℕ) → end ≤ e → e < s.call.begin → ⊥
          late_end y s2 other same s e l b =
              let s_item : Did calls s2 (Act.Send item) = subst (λ (w : ℕ). Did calls s2 (Act.Send w)) same s in
              let place : s2 ≡ x = differ item s2 x s_item dx in
              let one : s.call ≡ dx.call = cc in
              grind (arith, l, b, ready.timed x dx.call end dx.call_is ended)

differ_given : (calls : List Call) (p item : ℕ) (dp : Did calls p Act.Taking) → Differ calls → Differ (give calls p item)
differ_given calls p item dp differ v i j di dj = differ v i j (old_of calls p item dp i (Act.Send v) di (λ is. cc)).old (old_of calls p item dp j (Act.Send v) dj (λ is. cc)).old

-- ---- none is left to give, or none to give it to

IsDone : List Call → Type 0
IsDone calls = ((q : ℕ) → Did calls q Act.Taking → ⊥) ⊎ ((y item e : ℕ) (d : Did calls y (Act.Send item)) → d.call.end ≡ Some e → ((t : ℕ) → Did calls t (Act.Took item) → ⊥) → ⊥)

module _ (calls : List Call) (ready : Ready calls) (done : IsDone calls) where
  no_left : (sent began y : ℕ) → Enough calls sent began → IsLeft calls sent y → ⊥
  unfolding IsDone
  no_left sent began y enough l = elim done [
    | inr none ↦ none y l.item l.end l.sent l.ended l.untaken
    | inl none ↦
        let r = enough (y ∷ []) ((λ h. h), tt) (λ z within. elim within [ inl same ↦ subst (IsLeft calls sent) same l | inr nothing ↦ absurd nothing ]) in
        first none r.0 r.1 r.3
  ]
    where
      first : ((q : ℕ) → Did calls q Act.Taking → ⊥) → (ys : List ℕ) → length ys ≡ 1 → ((q : ℕ) → In q ys → IsWaiting calls began q) → ⊥
      first none [] len each = omega (arith, len)
      first none (q ∷ ys) len each = none q (each q (inl refl)).taking

  turns : (first second one other take : ℕ) → Did calls first (Act.Send one) → (s : Did calls second (Act.Send other)) → EndsBefore calls first second → (t : Did calls take (Act.Took other)) → (before : ℕ) × Did calls before (Act.Took one) × (EndsBefore calls take before → ⊥)
  turns first second one other take f s ends t = elim (taker calls one) [
    | inl r ↦ (r.0, r.1, λ e. ready.in_turn first r.0 second take one other f r.1 s t ends e)
    | inr untaken ↦ elim (end_cases t.call.end) [
      | inr open_end ↦ absurd (ready.last first second take one other f untaken s t open_end ends)
      | inl e ↦
          let one_is : f.call ≡ ends.one = cc in
          let other_is : s.call ≡ ends.other = cc in
          let b = ends.before in
          absurd (no_left s.call.begin e.0 first (ready.enough second take other e.0 s t e.1) (record { item = one; sent = f; end = ends.end; ended = ap (λ (c : Call). c.end) one_is ∙ ends.ended; early = grind (arith, b); untaken = untaken }))
    ]
  ]

  faultless : Faultless calls
  faultless = record {
    timed = ready.timed;
    waits = λ p c is act ended. none_some c.end (ready.waits p (record { call = c; call_is = is; act_is = act })) ended;
    sent = ready.sent;
    once = ready.once;
    after = ready.after;
    in_turn = turns;
    empty = λ call c e is finds ends.
        let m = ready.empty call c e is finds ends in (
          m.0,
          m.1,
          m.2,
          λ send item f s s_ends early. elim (taker calls item) [
            | inl r ↦ (r.0, r.1, m.3 send r.0 item f s s_ends early r.1)
            | inr untaken ↦ absurd (no_left m.0 m.0 send m.4 (record { item = item; sent = s; end = f; ended = s_ends; early = early; untaken = untaken }))
          ],
        );
  }

-- ---- all that can be are given

Waits : List Call → ℕ → ℕ → Type 0
Waits calls q v = (d : Did calls q Act.Taking) × (d.call.begin ≡ v)

Stays : List Call → ℕ → ℕ → Type 0
Stays calls y v = (item : ℕ) × (d : Did calls y (Act.Send item)) × (d.call.end ≡ Some v) × ((t : ℕ) → Did calls t (Act.Took item) → ⊥)

is_taking : (act : Act) → (act ≡ Act.Taking) ⊎ (act ≢ Act.Taking)
is_taking act = grind arith

no_call : (calls : List Call) (q : ℕ) (act : Act) → slice_get calls q ≡ None → Did calls q act → ⊥
no_call calls q act none d = let clash : None ≡ Some d.call = sym none ∙ d.call_is in cc

waits_at : (calls : List Call) (q : ℕ) → ((v : ℕ) × Waits calls q v) ⊎ ((v : ℕ) → Waits calls q v → ⊥)
unfolding Waits
waits_at calls q = elim (slice_get_cases calls q).1 [
  | inr none ↦ inr (λ v w. no_call calls q Act.Taking none.1 w.0)
  | inl c ↦ elim (is_taking c.0.act) [
    | inl taking ↦ inl (c.0.begin, (record { call = c.0; call_is = c.2; act_is = taking }, refl))
    | inr other ↦ inr (λ v w. other (one_act calls q c.0.act Act.Taking (record { call = c.0; call_is = c.2; act_is = refl }) w.0))
  ]
]

stays_at : (calls : List Call) (q : ℕ) → ((v : ℕ) × Stays calls q v) ⊎ ((v : ℕ) → Stays calls q v → ⊥)
unfolding Stays
stays_at calls q = elim (slice_get_cases calls q).1 [
  | inr none ↦ inr (λ v s. no_call calls q (Act.Send s.0) none.1 s.1)
  | inl c ↦ elim (is_send c.0.act) [
    | inr other ↦ inr (λ v s. other s.0 (one_act calls q c.0.act (Act.Send s.0) (record { call = c.0; call_is = c.2; act_is = refl }) s.1))
    | inl send ↦ sent c.0 c.2 send.0 send.1
  ]
]
  where
    sent : (c : Call) → slice_get calls q ≡ Some c → (item : ℕ) → c.act ≡ Act.Send item → ((v : ℕ) × Stays calls q v) ⊎ ((v : ℕ) → Stays calls q v → ⊥)
    sent c is item act = elim (end_cases c.end) [
      | inr open_end ↦ inr (λ v s. let one = one_call calls q (Act.Send s.0) (Act.Send item) s.1 (record { call = c; call_is = is; act_is = act }) in let clash : Some v ≡ None = sym s.2 ∙ ap (λ (x : Call). x.end) one ∙ open_end in cc)
      | inl e ↦ elim (taker calls item) [
        | inr untaken ↦ inl (e.0, (item, record { call = c; call_is = is; act_is = act }, e.1, untaken))
        | inl t ↦ inr (λ v s. let acts : Act.Send item ≡ Act.Send s.0 = one_act calls q (Act.Send item) (Act.Send s.0) (record { call = c; call_is = is; act_is = act }) s.1 in let same : item ≡ s.0 = cc in s.3 t.0 (subst (λ (w : ℕ). Did calls t.0 (Act.Took w)) same t.1))
      ]
    ]

one_wait : (calls : List Call) (q v w : ℕ) → Waits calls q v → Waits calls q w → v ≡ w
unfolding Waits
one_wait calls q v w a b = sym a.1 ∙ ap (λ (c : Call). c.begin) (one_call calls q Act.Taking Act.Taking a.0 b.0) ∙ b.1

one_stay : (calls : List Call) (q v w : ℕ) → Stays calls q v → Stays calls q w → v ≡ w
unfolding Stays
one_stay calls q v w a b = let e : Some v ≡ Some w = sym a.2 ∙ ap (λ (c : Call). c.end) (one_call calls q (Act.Send a.0) (Act.Send b.0) a.1 b.1) ∙ b.2 in cc

quiet_given : (calls : List Call) (p item : ℕ) → Did calls p Act.Taking → (order : List Step) → IsOfLog (give calls p item) order → Quiet (give calls p item) order → Quiet calls order
quiet_given calls p item dp order each quiet s within idle c is =
    let at = at_in s order within in
    let call = each at.0 s at.1 in
    let t = times calls p item dp s.place call.call call.call_is in
    let one : t.0 ≡ c = cc in
    subst (λ (x : Call). IsSome x.end) one (subst IsSome t.3 (quiet s within idle call.call call.call_is))

pub ready_has_order : (n : ℕ) (rules : Rules) (calls : List Call) → waiting calls < n → rules.ties.items ≡ [] → rules.closes ≡ false → Differ calls → Ready calls → (order : List Step) × IsOrder (of_any_capacity rules) calls order × Quiet calls order
unfolding IsDone Waits Stays
ready_has_order zero rules calls size ties closes differ ready = absurd (omega (arith, size))
ready_has_order (suc n) rules calls size ties closes differ ready = elim (least_at (Waits calls) (one_wait calls) (waits_at calls) (length calls)) [
  | inr nobody ↦ faultless_has_order rules calls ties closes differ (faultless calls ready (inl (λ q d. nobody q d.call.begin (slice_get_within calls q d.call d.call_is) (d, refl))))
  | inl p ↦ elim (least_at (Stays calls) (one_stay calls) (stays_at calls) (length calls)) [
    | inr nobody ↦ faultless_has_order rules calls ties closes differ (faultless calls ready (inr (λ y item e d ends untaken. nobody y e (slice_get_within calls y d.call d.call_is) (item, d, ends, untaken))))
    | inl x ↦
        let first : (q : ℕ) (d : Did calls q Act.Taking) → p.holds.0.call.begin ≤ d.call.begin = λ q d. let l = p.least q d.call.begin (slice_get_within calls q d.call d.call_is) (d, refl) in let e = p.holds.1 in omega (arith, l, e) in
        let earliest : (y v e : ℕ) (d : Did calls y (Act.Send v)) → d.call.end ≡ Some e → ((t : ℕ) → Did calls t (Act.Took v) → ⊥) → x.number ≤ e = λ y v e d ends untaken. x.least y e (slice_get_within calls y d.call d.call_is) (v, d, ends, untaken) in
        let g = ready_given calls differ ready p.place p.holds.0 first x.place x.holds.0 x.number x.holds.1 x.holds.2 x.holds.3 earliest in
        let less = fewer_wait calls p.place x.holds.0 p.holds.0 in
        let o = ready_has_order n rules (give calls p.place x.holds.0) (omega (arith, size, less)) ties closes (differ_given calls p.place x.holds.0 p.holds.0 differ) g in
        (o.0, weaken (of_any_capacity rules) (give calls p.place x.holds.0) calls o.0 (weaker calls p.place x.holds.0 p.holds.0) o.1, quiet_given calls p.place x.holds.0 p.holds.0 o.0 o.1.each o.2)
  ]
]

-- Complete: a log without closes, and with no calls that only their lines order, has a legal order if it has none of the faults.
pub completeness : (rules : Rules) (calls : List Call) → rules.ties.items ≡ [] → rules.closes ≡ false → Differ calls → Ready calls → IsLinearizable (of_any_capacity rules) calls
completeness rules calls ties closes differ ready = let o = ready_has_order (suc (waiting calls)) rules calls (omega arith) ties closes differ ready in (o.0, o.1)
