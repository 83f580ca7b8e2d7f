-- A log whose items none overtook has a legal order.
use Rattle.std.proofs.Common.{◌≡◌, ◌≢◌, ℕ, zero, suc, ◌≤◌, ◌⊎◌, inl, inr, true, false, List, [], ◌∷◌, Some, None, IsSome, refl, sym, ap, ◌∙◌, subst, arith}
use Rattle.std.specs.List.{slice_get}
use Rattle.std.proofs.lemmas.Bool.{cases_lt}
use Rattle.cc_judge.specs.Names.{Act, Call, Step, Tie, Rules}
use Rattle.cc_judge.specs.Order.{Does, IsRun, MayHaveDone, IsCall, HasStepOf, IsOfLog, IsOnce, RespectsLines, IsOrder, of_any_capacity}
use Rattle.cc_judge.proofs.Places.{In, Before, in_at, at_in}
use Rattle.cc_judge.proofs.Weave.{Item, IsOf, Fits, Timed, Within, Once, timed_in_time}
use Rattle.cc_judge.proofs.Fifo.{Overtakes, Apart, woven}

-- ---- acts that leave the items as they are

abbrev pub IsIdle : Act → Type 0
IsIdle Act.Full = Unit {0}
IsIdle Act.Closed = Unit {0}
IsIdle Act.Close = Unit {0}
IsIdle _ = ⊥

idle_does : (held : List ℕ) (act : Act) → IsIdle act → Does None held act held
idle_does held act idle = grind arith

-- such a step at a moment
pub record Idle : Type 0 where
  pub step : Step
  pub moment : ℕ

-- the steps with one more
record With (P : Step → ℕ → Type 0) (now : ℕ) (s : Step) (steps : List Step) : Type 0 where
  after : List Step
  run : (held : List ℕ) → IsRun None held steps → IsRun None held after
  timed : Timed P now after
  all : (t : Step) → In t steps → In t after
  new : In s after
  only : (t : Step) → In t after → (s ≡ t) ⊎ In t steps
  once : ((t : Step) → In t steps → t.place ≢ s.place) → Once steps → Once after

-- it is put after those of earlier moments, and of the same
insert : (P : Step → ℕ → Type 0) (now : ℕ) (s : Step) (m : ℕ) (steps : List Step) → IsIdle s.act → now ≤ m → P s m → Timed P now steps → With P now s steps
insert P now s m [] idle later may timed = record {
  after = s ∷ [];
  run = λ held run. (held, idle_does held s.act idle, tt);
  timed = (m, later, may, tt);
  all = λ t within. absurd within;
  new = inl refl;
  only = λ t within. elim within [ inl same ↦ inl same | inr none ↦ absurd none ];
  once = λ apart once. ((λ t within. absurd within), tt);
}
insert P now s m (x ∷ steps) idle later may timed = elim (cases_lt m timed.0) [
  | inl less ↦ record {
    after = s ∷ x ∷ steps;
    run = λ held run. (held, idle_does held s.act idle, run);
    timed = (m, later, may, (timed.0, omega (arith, less), timed.2, timed.3));
    all = λ t within. inr within;
    new = inl refl;
    only = λ t within. within;
    once = λ apart once. (apart, once);
  }
  | inr not_less ↦
      let w = insert P timed.0 s m steps idle not_less may timed.3 in
      record {
        after = x ∷ w.after;
        run = λ held run. (run.0, run.1, w.run run.0 run.2);
        timed = (timed.0, timed.1, timed.2, w.timed);
        all = λ t within. elim within [ inl same ↦ inl same | inr more ↦ inr (w.all t more) ];
        new = inr w.new;
        only = λ t within. elim within [
          | inl same ↦ inr (inl same)
          | inr more ↦ elim (w.only t more) [ inl same ↦ inl same | inr old ↦ inr (inr old) ]
        ];
        once = λ apart once. (
          (λ t within same. elim (w.only t within) [
            | inl new ↦ apart x (inl refl) (sym same ∙ ap (λ (u : Step). u.place) (sym new))
            | inr old ↦ once.0 t old same
          ]),
          w.once (λ t within. apart t (inr within)) once.1,
        );
      }
]

-- the steps with all of these
record Filled (P : Step → ℕ → Type 0) (idles : List Idle) (steps : List Step) : Type 0 where
  after : List Step
  run : (held : List ℕ) → IsRun None held steps → IsRun None held after
  timed : Timed P 0 after
  all : (t : Step) → In t steps → In t after
  new : (i : Idle) → In i idles → In i.step after
  only : (t : Step) → In t after → ((i : Idle) × In i idles × (i.step ≡ t)) ⊎ In t steps
  once : Once after

fill : (P : Step → ℕ → Type 0) (idles : List Idle) (steps : List Step) → ((i : Idle) → In i idles → IsIdle i.step.act × P i.step i.moment) → ((i j : Idle) → Before i j idles → i.step.place ≢ j.step.place) → ((i : Idle) → In i idles → (t : Step) → In t steps → t.place ≢ i.step.place) → Timed P 0 steps → Once steps → Filled P idles steps
fill P [] steps fits apart fresh timed once = record { after = steps; run = λ held run. run; timed = timed; all = λ t within. within; new = λ i within. absurd within; only = λ t within. inr within; once = once }
fill P (i ∷ idles) steps fits apart fresh timed once =
    let f = fill P idles steps (λ j within. fits j (inr within)) (λ j k before. apart j k (inr before)) (λ j within. fresh j (inr within)) timed once in
    let h = fits i (inl refl) in
    let w = insert P 0 i.step i.moment f.after h.0 (omega arith) h.1 f.timed in
    record {
      after = w.after;
      run = λ held run. w.run held (f.run held run);
      timed = w.timed;
      all = λ t within. w.all t (f.all t within);
      new = λ j within. elim within [ inl same ↦ subst (λ (k : Idle). In k.step w.after) same w.new | inr more ↦ w.all j.step (f.new j more) ];
      only = λ t within. elim (w.only t within) [
        | inl same ↦ inl (i, inl refl, same)
        | inr old ↦ elim (f.only t old) [ inl j ↦ inl (j.0, inr j.1, j.2) | inr first ↦ inr first ]
      ];
      once = w.once (λ t within same. elim (f.only t within) [
        | inl j ↦ apart i j.0 (inl (refl, j.1)) (sym same ∙ ap (λ (u : Step). u.place) (sym j.2))
        | inr old ↦ fresh i (inl refl) t old same
      ]) f.once;
    }

-- ---- an order of the log

-- the step may be at this moment
abbrev pub At : List Call → Step → ℕ → Type 0
At calls s m = IsCall calls s × Within calls s.place m

once_at : (steps : List Step) → Once steps → IsOnce steps
once_at [] once j k s t less s_is t_is same = cc
once_at (x ∷ steps) once zero zero s t less s_is t_is same = absurd (omega arith)
once_at (x ∷ steps) once zero (suc k) s t less s_is t_is same =
    let here : x ≡ s = cc in
    once.0 t (in_at t steps k t_is) (sym same ∙ ap (λ (u : Step). u.place) (sym here))
once_at (x ∷ steps) once (suc j) zero s t less s_is t_is same = absurd (omega arith)
once_at (x ∷ steps) once (suc j) (suc k) s t less s_is t_is same = once_at steps once.1 j k s t (omega (arith, less)) s_is t_is same

each_at : (calls : List Call) (now : ℕ) (steps : List Step) → Timed (At calls) now steps → IsOfLog calls steps
each_at calls now [] timed k s is = cc
each_at calls now (x ∷ steps) timed zero s is = let here : x ≡ s = cc in subst (IsCall calls) here timed.2.0
each_at calls now (x ∷ steps) timed (suc k) s is = each_at calls timed.0 steps timed.3 k s is

no_ties : (ties : List Tie) (order : List Step) → ties ≡ [] → RespectsLines ties order
no_ties ties order none = subst (λ (l : List Tie). RespectsLines l order) (sym none) (λ i tie is. cc)

-- what a log comes to: items with what became of them, and the calls that leave them as they are
pub record View (calls : List Call) (never : ℕ) : Type 0 where
  pub xs : List Item
  pub idles : List Idle
  pub fits : (x : Item) → In x xs → Fits (At calls) never x
  pub apart : (x y : Item) → Before x y xs → Apart x y
  pub idle_fits : (i : Idle) → In i idles → IsIdle i.step.act × At calls i.step i.moment
  pub idle_apart : (i j : Idle) → Before i j idles → i.step.place ≢ j.step.place
  pub idle_other : (i : Idle) (x : Item) → In i idles → In x xs → IsOf x.fate i.step.place → ⊥
  pub idle_ended : (i : Idle) → In i idles → (c : Call) → slice_get calls i.step.place ≡ Some c → IsSome c.end
  pub busy : (x : Item) → In x xs → (place : ℕ) → IsOf x.fate place → (c : Call) → slice_get calls place ≡ Some c → IsIdle c.act → ⊥
  pub whole : (place : ℕ) (c : Call) → slice_get calls place ≡ Some c → IsSome c.end → ((x : Item) × In x xs × IsOf x.fate place) ⊎ ((i : Idle) × In i idles × (i.step.place ≡ place))

step_at : (steps : List Step) (place : ℕ) (s : Step) → In s steps → s.place ≡ place → HasStepOf steps place
step_at steps place s within is = let a = at_in s steps within in record { at = a.0; step = s; step_is = a.1; place_is = is }

-- of the calls that leave the items as they are only those have steps that returned
abbrev pub Quiet : List Call → List Step → Type 0
Quiet calls order = (s : Step) → In s order → IsIdle s.act → (c : Call) → slice_get calls s.place ≡ Some c → IsSome c.end

idle_said : (said did : Act) → MayHaveDone said did → IsIdle did → IsIdle said
idle_said said did may idle = grind arith

-- Complete: if none of the items was overtaken, the log has a legal order (of a log without closes, and with no calls that only
-- their lines order).
pub complete : (rules : Rules) (calls : List Call) (never : ℕ) → rules.ties.items ≡ [] → rules.closes ≡ false → (v : View calls never) → ((y z : Item) → In y v.xs → In z v.xs → Overtakes y z → ⊥) → (order : List Step) × IsOrder (of_any_capacity rules) calls order × Quiet calls order
complete rules calls never ties closes v none =
    let w = woven (At calls) never v.xs v.fits none v.apart in
    let p = w.2 in
    let f = fill (At calls) v.idles p.steps v.idle_fits v.idle_apart fresh p.timed p.once in (
      f.after,
      record {
        each = each_at calls 0 f.after f.timed;
        once = once_at f.after f.once;
        whole = λ place c is ended. elim (v.whole place c is ended) [
          | inl x ↦ let h = p.all x.0 (w.1 x.0 x.1) place x.2 in step_at f.after place h.step (f.all h.step h.within) h.place_is
          | inr i ↦ step_at f.after place i.0.step (f.new i.0 i.1) i.2
        ];
        in_time = timed_in_time calls (At calls) (λ s m at. at.1) 0 f.after f.timed;
        in_line = no_ties rules.ties.items f.after ties;
        legal = f.run [] p.run;
        closing = λ judged. let clash : true ≡ false = sym judged ∙ closes in cc;
      },
      λ s within idle c is. elim (f.only s within) [
        | inl i ↦ v.idle_ended i.0 i.1 c (ap (λ (t : Step). slice_get calls t.place) i.2 ∙ is)
        | inr old ↦ elim (p.only s old) [
          | inl x ↦ absurd x.1
          | inr y ↦
              let at = at_in s p.steps old in
              let call = each_at calls 0 p.steps p.timed at.0 s at.1 in
              absurd (v.busy y.0 (w.3 y.0 y.1) s.place y.2 call.call call.call_is (idle_said call.call.act s.act call.may idle))
        ]
      ],
    )
  where
    fresh : (i : Idle) → In i v.idles → (t : Step) → In t (woven (At calls) never v.xs v.fits none v.apart).2.steps → t.place ≢ i.step.place
    fresh i within t of same =
        let w = woven (At calls) never v.xs v.fits none v.apart in
        elim (w.2.only t of) [
          | inl x ↦ absurd x.1
          | inr y ↦ v.idle_other i y.0 within (w.3 y.0 y.1) (subst (IsOf y.0.fate) same y.2)
        ]
