-- The faults that count exclude each legal order.
use Rattle.std.proofs.Common.{◌≡◌, ◌≢◌, ℕ, zero, suc, ◌≤◌, ◌⊎◌, inl, inr, false, List, [], ◌∷◌, Some, refl, sym, ap, ◌∙◌, subst, arith}
use Rattle.std.specs.List.{slice_get}
use Rattle.std.proofs.lemmas.Bool.{cases_lt}
use Rattle.cc_judge.specs.Names.{Act, Call, Step, Rules}
use Rattle.cc_judge.specs.Order.{EndsBefore, IsCall, IsOrder}
use Rattle.cc_judge.specs.Faults.{Did, Differ, ShowsClosed, BeganBy, FindsNone}
use Rattle.cc_judge.specs.Faults.{In}
use Rattle.cc_judge.specs.Counts.{SentBy, IsLeftBy, MoreLeft, IsInside, TookOver, LeftBehind, NeverEmpty, EndedWithItems, CountsHaveNoOrder}
use Rattle.cc_judge.proofs.Places.{Before, before_first, in_order, at_in, at_before, before_at}
use Rattle.cc_judge.proofs.Turns.{nat_cases}
use Rattle.cc_judge.proofs.Runs.{taken_before_none, first_taken_first}
use Rattle.cc_judge.proofs.Orders.{StepOf, runs, step_of, returned_step, in_log, sent_in_log, took_in_log, in_time, on_before, one_take, one_step}
use Rattle.cc_judge.proofs.Shut.{WantsOpen, not_after, accepted_step, shown_step}
use Rattle.cc_judge.proofs.Fewer.{once_another}
use Rattle.cc_judge.proofs.Calls.{is_some_of, one_act, none_send, none_taking}

goes : (calls : List Call) (a b c d : ℕ) → a ≡ c → b ≡ d → EndsBefore calls a b → EndsBefore calls c d
goes calls a b c d first second e = subst (λ (x : ℕ). EndsBefore calls x d) first (subst (EndsBefore calls a) second e)

module _ (rules : Rules) (calls : List Call) (order : List Step) (differ : Differ calls) (o : IsOrder rules calls order) where
  -- ---- a send that was done by a time

  pub done_step : (send item time : ℕ) → SentBy rules calls send item time → StepOf order send (Act.Send item)
  done_step send item time s = elim s.done [
    | inl e ↦
        let both : Some s.sent.call ≡ Some e.call = sym s.sent.call_is ∙ e.call_is in
        let one : s.sent.call ≡ e.call = cc in
        step_of rules calls order o send s.sent.call (Act.Send item) s.sent.call_is s.sent.act_is (λ is. cc) (is_some_of s.sent.call.end e.end (ap (λ (c : Call). c.end) one ∙ e.ended))
    | inr shut ↦
        let a = accepted_step rules calls order o differ send item shut.accepted in
        let d = sent_in_log rules calls order o a.step a.item a.within a.act_is in
        let acts : Act.Send a.item ≡ Act.Send item = one_act calls send (Act.Send a.item) (Act.Send item) (subst (λ (p : ℕ). Did calls p (Act.Send a.item)) a.place_is d) s.sent in
        record { step = a.step; within = a.within; place_is = a.place_is; act_is = a.act_is ∙ acts }
  ]

  -- no step of a call that began at that time or later comes before it
  pub done_first : (send item time : ℕ) (s : SentBy rules calls send item time) (h : StepOf order send (Act.Send item)) (f : Step) (c : Call) → slice_get calls f.place ≡ Some c → time ≤ c.begin → Before f h.step order → ⊥
  done_first send item time s h f c c_is from first = elim s.done [
    | inl e ↦
        let by = e.by in
        in_time rules calls order o f h.step first (record {
          one = e.call;
          other = c;
          end = e.end;
          one_is = ap (slice_get calls) h.place_is ∙ e.call_is;
          other_is = c_is;
          ended = e.ended;
          before = omega (arith, by, from);
        })
    | inr shut ↦
        let w = shown_step rules calls order o shut.closed shut.was_closed in
        let shows : ShowsClosed w.step.act = subst ShowsClosed (sym w.act_is) shut.was_closed.shows in
        let wants : WantsOpen h.step.act = inl (item, h.act_is) in
        let closes = o.closing shut.judged in
        let by = shut.by.by in
        elim (in_order w.step f order w.within (before_first f h.step order first)) [
          | inl same ↦ not_after false order f h.step closes first (subst (λ (x : Step). ShowsClosed x.act) same shows) wants
          | inr placed ↦ elim placed [
            | inl earlier ↦ not_after false order w.step h.step closes (on_before rules calls order o w.step f h.step earlier first) shows wants
            | inr later ↦ in_time rules calls order o f w.step later (record {
              one = shut.by.call;
              other = c;
              end = shut.by.end;
              one_is = ap (slice_get calls) w.place_is ∙ shut.by.call_is;
              other_is = c_is;
              ended = shut.by.ended;
              before = omega (arith, by, from);
            })
          ]
        ]
  ]

  -- ---- more are left than takes may have

  -- a step took the item, and its call had begun by a time
  pub record TakenBy (item began : ℕ) : Type 0 where
    pub step : Step
    pub within : In step order
    pub act_is : step.act ≡ Act.Took item
    pub by : BeganBy calls step.place began

  record Took (sent began send place : ℕ) : Type 0 where
    left : IsLeftBy rules calls sent send
    by : TakenBy left.item began
    place_is : by.step.place ≡ place

  took_one : (sent began s t place : ℕ) → Took sent began s place → Took sent began t place → s ≡ t
  took_one sent began s t place a b =
      let same = one_step rules calls order o a.by.step b.by.step a.by.within b.by.within (a.place_is ∙ sym b.place_is) in
      let acts : Act.Took a.left.item ≡ Act.Took b.left.item = sym a.by.act_is ∙ ap (λ (x : Step). x.act) same ∙ b.by.act_is in
      let items : a.left.item ≡ b.left.item = cc in
      differ b.left.item s t (subst (λ (i : ℕ). Did calls s (Act.Send i)) items a.left.sent_by.sent) b.left.sent_by.sent

  -- not each of them was taken
  pub not_all_taken : (sent began : ℕ) → MoreLeft rules calls sent began → ((send item : ℕ) → SentBy rules calls send item sent → ((take : ℕ) → Did calls take (Act.Took item) → ⊥) → TakenBy item began) → ⊥
  not_all_taken sent began m each =
      let a = once_another (Took sent began) (λ take. ⊥) m.sends m.takes m.apart m.more took (took_one sent began) others in
      a.more
    where
      took : (send : ℕ) → In send m.sends → (place : ℕ) × Took sent began send place
      took send within =
          let l = m.each send within in
          let t = each send l.item l.sent_by l.untaken in
          (t.step.place, record { left = l; by = t; place_is = refl })

      others : (send place : ℕ) → In send m.sends → Took sent began send place → In place m.takes ⊎ ⊥
      others send place within t = elim (took_in_log rules calls order o t.by.step t.left.item t.by.within t.by.act_is) [
        | inl said ↦ absurd (t.left.untaken t.by.step.place said)
        | inr taking ↦ inl (subst (λ (p : ℕ). In p m.takes) t.place_is (m.all t.by.step.place (taking, t.by.by)))
      ]

  began_by : (s : Step) (i : IsCall calls s) (time : ℕ) → i.call.begin ≤ time → BeganBy calls s.place time
  began_by s i time by = record { call = i.call; call_is = i.call_is; by = by }

  -- a call whose step comes before another's had begun when that ended
  pub began_before : (u t : Step) → Before u t order → (c : Call) → slice_get calls t.place ≡ Some c → (end : ℕ) → c.end ≡ Some end → BeganBy calls u.place end
  began_before u t first c c_is end ended =
      let i = in_log rules calls order o u (before_first u t order first) in
      elim (cases_lt end i.call.begin) [
        | inr by ↦ began_by u i end by
        | inl late ↦ absurd (in_time rules calls order o u t first (record { one = c; other = i.call; end = end; one_is = c_is; other_is = i.call_is; ended = ended; before = late }))
      ]

  -- ---- overtaken

  -- of two items the one whose send was done before the send of the other began is taken first
  pub taken_first : (later_send later : ℕ) (d : Did calls later_send (Act.Send later)) (t : Step) → In t order → t.act ≡ Act.Took later → (send item : ℕ) → SentBy rules calls send item d.call.begin → item ≢ later → (u : Step) × Before u t order × (u.act ≡ Act.Took item)
  taken_first later_send later d t within took send item s other =
      let h = done_step send item d.call.begin s in
      let not_before : (u : Step) → Before u h.step order → u.act ≢ Act.Send later = λ (u : Step) (first : Before u h.step order) (is : u.act ≡ Act.Send later).
      let sent = sent_in_log rules calls order o u later (before_first u h.step order first) is in
      let here : u.place ≡ later_send = differ later u.place later_send sent d in
      done_first send item d.call.begin s h u d.call (ap (slice_get calls) here ∙ d.call_is) (omega arith) first in
      let e = first_taken_first [] order h.step t item later (runs rules calls order o) (λ held. held) h.within within h.act_is not_before other took in
      (e.step, e.before, e.act_is)

  pub took_over : (send take later_send later_take : ℕ) → TookOver calls send take later_send later_take → ⊥
  took_over send take later_send later_take f =
      let e = f.sent_first in
      let d = f.later.sent in
      let both : Some e.other ≡ Some d.call = sym e.other_is ∙ d.call_is in
      let one : e.other ≡ d.call = cc in
      let begins : e.other.begin ≡ d.call.begin = ap (λ (c : Call). c.begin) one in
      let less = e.before in
      let s : SentBy rules calls send f.earlier.item d.call.begin = record { sent = f.earlier.sent; done = inl (record { call = e.one; call_is = e.one_is; end = e.end; ended = e.ended; by = omega (arith, begins, less) }) } in
      let t = returned_step rules calls order o later_take (Act.Took f.later.item) (λ is. cc) f.later.took in
      let r = returned_step rules calls order o take (Act.Took f.earlier.item) (λ is. cc) f.earlier.took in
      elim (nat_cases f.earlier.item f.later.item) [
        | inl same ↦
            let steps = one_take rules calls order o differ f.later.item r.step t.step r.within t.within (r.act_is ∙ ap Act.Took same) t.act_is in
            f.apart (sym t.place_is ∙ ap (λ (x : Step). x.place) (sym steps) ∙ r.place_is)
        | inr other ↦
            let u = taken_first later_send f.later.item d t.step t.within t.act_is send f.earlier.item s other in
            let steps = one_take rules calls order o differ f.earlier.item r.step u.0 r.within (before_first u.0 t.step order u.1) r.act_is u.2 in
            in_time rules calls order o u.0 t.step u.1 (goes calls later_take take t.step.place u.0.place (sym t.place_is) (sym r.place_is ∙ ap (λ (x : Step). x.place) steps) f.taken_last)
      ]

  pub left_behind : (later_send later_take : ℕ) → LeftBehind rules calls later_send later_take → ⊥
  left_behind later_send later_take f =
      let t = step_of rules calls order o later_take f.took.call (Act.Took f.item) f.took.call_is f.took.act_is (λ is. cc) (is_some_of f.took.call.end f.end f.ended) in
      not_all_taken f.sent.call.begin f.end f.left (λ send item s untaken. elim (nat_cases item f.item) [
        | inl same ↦ absurd (untaken later_take (subst (λ (v : ℕ). Did calls later_take (Act.Took v)) (sym same) f.took))
        | inr other ↦
            let u = taken_first later_send f.item f.sent t.step t.within t.act_is send item s other in
            record {
              step = u.0;
              within = before_first u.0 t.step order u.1;
              act_is = u.2;
              by = began_before u.0 t.step u.1 f.took.call (ap (slice_get calls) t.place_is ∙ f.took.call_is) f.end f.ended;
            }
      ])

  -- ---- a take found none

  -- an item that was sent before a step that found none, and is taken after that: there is no such item
  pub not_inside : (sent began : ℕ) → IsInside rules calls sent began → (e : Step) → FindsNone e.act → ((send item : ℕ) → SentBy rules calls send item sent → (h : StepOf order send (Act.Send item)) → Before h.step e order) → ((u : Step) → Before u e order → BeganBy calls u.place began) → ⊥
  not_inside sent began (inl s) e none before begun =
      let h = done_step s.send s.item sent s.sent_by in
      let u = taken_before_none [] order h.step e s.item (runs rules calls order o) (before s.send s.item s.sent_by h) h.act_is none in
      let r = returned_step rules calls order o s.take (Act.Took s.item) (λ is. cc) s.took in
      let steps = one_take rules calls order o differ s.item r.step u.step r.within (before_first u.step e order u.before) r.act_is u.act_is in
      let b = begun u.step u.before in
      let l = s.later in
      let places : u.step.place ≡ s.take = ap (λ (x : Step). x.place) (sym steps) ∙ r.place_is in
      let both : Some b.call ≡ Some l.call = sym b.call_is ∙ ap (slice_get calls) places ∙ l.call_is in
      let one : b.call ≡ l.call = cc in
      let begins : b.call.begin ≡ l.call.begin = ap (λ (c : Call). c.begin) one in
      let low = b.by in
      let high = l.after in
      absurd (omega (arith, begins, low, high))
  not_inside sent began (inr m) e none before begun = not_all_taken sent began m (λ send item s untaken.
      let h = done_step send item sent s in
      let u = taken_before_none [] order h.step e item (runs rules calls order o) (before send item s h) h.act_is none in
      record { step = u.step; within = before_first u.step e order u.before; act_is = u.act_is; by = begun u.step u.before })

  pub ended_with_items : (call : ℕ) → EndedWithItems rules calls call → ⊥
  ended_with_items call f =
      let d = f.found_none.did in
      let e = step_of rules calls order o call d.call Act.Ended d.call_is d.act_is (λ is. cc) (is_some_of d.call.end f.end f.found_none.end_is) in
      let closes = o.closing f.judged in
      let shows : ShowsClosed e.step.act = inr (inr e.act_is) in
      not_inside (suc f.end) f.end f.inside e.step (inr e.act_is) (λ send item s h. elim (in_order h.step e.step order h.within e.within) [
        | inl same ↦ absurd (none_send e.step.act item (inr e.act_is) (ap (λ (x : Step). x.act) (sym same) ∙ h.act_is))
        | inr placed ↦ elim placed [
          | inl right ↦ right
          | inr wrong ↦ absurd (not_after false order e.step h.step closes wrong shows (inl (item, h.act_is)))
        ]
      ]) (λ u first. began_before u e.step first d.call (ap (slice_get calls) e.place_is ∙ d.call_is) f.end f.found_none.end_is)

  -- ---- the moment of a step: the latest begin of the calls up to it

  -- the call at a place of the order began at a time
  Begins : (j m : ℕ) → Type 0
  Begins j m = (s : Step) × (c : Call) × (slice_get order j ≡ Some s) × (slice_get calls s.place ≡ Some c) × (c.begin ≡ m)

  begins_at : (j : ℕ) (s : Step) → slice_get order j ≡ Some s → (m : ℕ) × Begins j m
  unfolding Begins
  begins_at j s is = let i = o.each j s is in (i.call.begin, (s, i.call, is, i.call_is, refl))

  begins_once : (j m n : ℕ) → Begins j m → Begins j n → m ≡ n
  unfolding Begins
  begins_once j m n a b =
      let both : Some a.0 ≡ Some b.0 = sym a.2 ∙ b.2 in
      let one : a.0 ≡ b.0 = cc in
      let calls_are : Some a.1 ≡ Some b.1 = sym a.3 ∙ ap (λ (s : Step). slice_get calls s.place) one ∙ b.3 in
      let call_is : a.1 ≡ b.1 = cc in
      sym a.4 ∙ ap (λ (c : Call). c.begin) call_is ∙ b.4

  record Moment (k : ℕ) : Type 0 where
    m : ℕ
    at : ℕ
    upto : at ≤ k
    begins : Begins at m
    most : (j n : ℕ) → j ≤ k → Begins j n → n ≤ m

  moment : (k : ℕ) → ((j : ℕ) → j ≤ k → (n : ℕ) × Begins j n) → Moment k
  moment zero each =
      let b = each 0 (omega arith) in
      record { m = b.0; at = 0; upto = omega arith; begins = b.1; most = λ j n low is. let here : j ≡ 0 = omega (arith, low) in let same = begins_once 0 n b.0 (subst (λ (i : ℕ). Begins i n) here is) b.1 in omega (arith, same) }
  moment (suc k) each =
      let r = moment k (λ j low. each j (omega (arith, low))) in
      let b = each (suc k) (omega arith) in
      let up = r.upto in
      elim (cases_lt r.m b.0) [
        | inl less ↦ record {
          m = b.0;
          at = suc k;
          upto = omega arith;
          begins = b.1;
          most = λ j n low is. elim (cases_lt k j) [
            | inl last ↦ let here : j ≡ suc k = omega (arith, low, last) in let same = begins_once (suc k) n b.0 (subst (λ (i : ℕ). Begins i n) here is) b.1 in omega (arith, same)
            | inr earlier ↦ let h = r.most j n earlier is in omega (arith, h, less)
          ];
        }
        | inr not_less ↦ record {
          m = r.m;
          at = r.at;
          upto = omega (arith, up);
          begins = r.begins;
          most = λ j n low is. elim (cases_lt k j) [
            | inl last ↦ let here : j ≡ suc k = omega (arith, low, last) in let same = begins_once (suc k) n b.0 (subst (λ (i : ℕ). Begins i n) here is) b.1 in omega (arith, same, not_less)
            | inr earlier ↦ r.most j n earlier is
          ];
        }
      ]

  shorter : (xs : List Step) (k : ℕ) (s : Step) → slice_get xs k ≡ Some s → (j : ℕ) → j ≤ k → (t : Step) × (slice_get xs j ≡ Some t)
  shorter [] k s is j low = cc
  shorter (x ∷ xs) k s is zero low = (x, refl)
  shorter (x ∷ xs) zero s is (suc j) low = absurd (omega (arith, low))
  shorter (x ∷ xs) (suc k) s is (suc j) low = shorter xs k s is j (omega (arith, low))

  at_most : (j k : ℕ) (s : Step) → slice_get order j ≡ Some s → slice_get order k ≡ Some s → j ≤ k
  at_most j k s at_j at_k = elim (cases_lt k j) [ inl less ↦ absurd (o.once k j s s less at_k at_j refl) | inr not_less ↦ not_less ]

  too_late : (k : ℕ) (m : Moment k) (e : Step) → slice_get order k ≡ Some e → (send item : ℕ) → SentBy rules calls send item m.m → (h : StepOf order send (Act.Send item)) → Before e h.step order → ⊥
  unfolding Begins
  too_late k m e e_at send item s h wrong =
      let b = at_before e h.step order wrong in
      let up = m.upto in
      let same : k ≤ b.0 = at_most k b.0 e e_at b.3 in
      let less = b.2 in
      let is = m.begins.4 in
      done_first send item m.m s h m.begins.0 m.begins.1 m.begins.3 (omega (arith, is)) (before_at m.begins.0 h.step order m.at b.1 (omega (arith, up, same, less)) m.begins.2 b.4)

  pub never_empty : (call : ℕ) → NeverEmpty rules calls call → ⊥
  unfolding Begins
  never_empty call f =
      let d = f.found_none.did in
      let e = step_of rules calls order o call d.call f.act d.call_is d.act_is (none_taking f.act f.finds_none) (is_some_of d.call.end f.end f.found_none.end_is) in
      let at = at_in e.step order e.within in
      let k = at.0 in
      let m = moment k (λ j low. let t = shorter order k e.step at.1 j low in begins_at j t.0 t.1) in
      let e_is = ap (slice_get calls) e.place_is ∙ d.call_is in
      let e_begins : Begins k f.begin = (e.step, d.call, at.1, e_is, f.found_none.begin_is) in
      let none : FindsNone e.step.act = subst FindsNone (sym e.act_is) f.finds_none in
      let up = m.upto in
      let low : f.begin ≤ m.m = m.most k f.begin (omega arith) e_begins in
      let timed = f.timed in
      let high : m.m ≤ f.end = elim (cases_lt m.at k) [
        | inl less ↦
            let b = began_before m.begins.0 e.step (before_at m.begins.0 e.step order m.at k less m.begins.2 at.1) d.call e_is f.end f.found_none.end_is in
            let both : Some b.call ≡ Some m.begins.1 = sym b.call_is ∙ m.begins.3 in
            let one : b.call ≡ m.begins.1 = cc in
            let begins : b.call.begin ≡ m.begins.1.begin = ap (λ (c : Call). c.begin) one in
            let by = b.by in
            let is = m.begins.4 in
            omega (arith, begins, by, is)
        | inr not_less ↦
            let here : m.at ≡ k = omega (arith, not_less, up) in
            let same = begins_once k m.m f.begin (subst (λ (i : ℕ). Begins i m.m) here m.begins) e_begins in
            omega (arith, same, timed)
      ] in
      not_inside m.m m.m (f.inside m.m low high) e.step none (λ send item s h. elim (in_order h.step e.step order h.within e.within) [
        | inl same ↦ absurd (none_send e.step.act item none (ap (λ (x : Step). x.act) (sym same) ∙ h.act_is))
        | inr placed ↦ elim placed [
          | inl right ↦ right
          | inr wrong ↦ absurd (too_late k m e.step at.1 send item s h wrong)
        ]
      ]) (λ u first.
      let b = at_before u e.step order first in
      let i = o.each b.0 u b.3 in
      let upto : b.1 ≤ k = at_most b.1 k e.step b.4 at.1 in
      let less = b.2 in
      began_by u i m.m (m.most b.0 i.call.begin (omega (arith, less, upto)) (u, i.call, b.3, i.call_is, refl)))

pub counts_have_no_order : CountsHaveNoOrder
counts_have_no_order = record {
  took_over = λ rules calls send take later_send later_take differ f o. took_over rules calls o.0 differ o.1 send take later_send later_take f;
  left_behind = λ rules calls later_send later_take differ f o. left_behind rules calls o.0 differ o.1 later_send later_take f;
  never_empty = λ rules calls call differ f o. never_empty rules calls o.0 differ o.1 call f;
  ended_with_items = λ rules calls call differ f o. ended_with_items rules calls o.0 differ o.1 call f;
}
