-- From an order of the items, as the queue holds them, to a legal order of the calls.
use Rattle.std.proofs.Common.{◌≡◌, ◌≢◌, ℕ, zero, suc, ◌+◌, ◌<◌, ◌≤◌, ◌⊎◌, inl, inr, List, [], ◌∷◌, ◌++◌, length, Some, None, refl, sym, ap, subst, arith}
use Rattle.std.specs.List.{slice_get}
use Rattle.std.proofs.lemmas.Bool.{cases_lt}
use Rattle.cc_judge.specs.Names.{Act, Call, Step}
use Rattle.cc_judge.specs.Order.{Does, IsRun, RespectsRealTime}
use Rattle.cc_judge.specs.Faults.{FindsNone}
use Rattle.cc_judge.proofs.Places.{In, Before, in_at, in_snoc, in_last, in_more}

-- ---- moments

-- of each step P holds at a moment, and these moments never go back
abbrev pub Timed : (P : Step → ℕ → Type 0) → (now : ℕ) → List Step → Type 0
Timed P now [] = Unit {0}
Timed P now (s ∷ steps) = (m : ℕ) × (now ≤ m) × P s m × Timed P m steps

-- the moment is one of the call at this place
abbrev pub Within : List Call → (place moment : ℕ) → Type 0
Within calls place m = (call : Call) → slice_get calls place ≡ Some call → (call.begin ≤ m) × ((e : ℕ) → call.end ≡ Some e → m ≤ e)

timed_in : (P : Step → ℕ → Type 0) (now : ℕ) (steps : List Step) (t : Step) → Timed P now steps → In t steps → (m : ℕ) × (now ≤ m) × P t m
timed_in P now [] t timed within = absurd within
timed_in P now (s ∷ steps) t timed (inl here) = (timed.0, timed.1, subst (λ (x : Step). P x timed.0) here timed.2)
timed_in P now (s ∷ steps) t timed (inr later) = let r = timed_in P timed.0 steps t timed.3 later in (r.0, omega (arith, r.1, timed.1), r.2)

-- steps at moments of their calls agree with real time
pub timed_in_time : (calls : List Call) (P : Step → ℕ → Type 0) → ((s : Step) (m : ℕ) → P s m → Within calls s.place m) → (now : ℕ) (steps : List Step) → Timed P now steps → RespectsRealTime calls steps
timed_in_time calls P within now [] timed j k s t less s_is t_is ends = cc
timed_in_time calls P within now (x ∷ steps) timed zero zero s t less s_is t_is ends = absurd (omega arith)
timed_in_time calls P within now (x ∷ steps) timed zero (suc k) s t less s_is t_is ends =
    let here : x ≡ s = cc in
    let first = within s timed.0 (subst (λ (u : Step). P u timed.0) here timed.2) ends.other ends.other_is in
    let r = timed_in P timed.0 steps t timed.3 (in_at t steps k t_is) in
    omega (arith, first.0, (within t r.0 r.2 ends.one ends.one_is).1 ends.end ends.ended, r.1, ends.before)
timed_in_time calls P within now (x ∷ steps) timed (suc j) zero s t less s_is t_is ends = absurd (omega arith)
timed_in_time calls P within now (x ∷ steps) timed (suc j) (suc k) s t less s_is t_is ends = timed_in_time calls P within timed.0 steps timed.3 j k s t (omega (arith, less)) s_is t_is ends

-- ---- items

-- what became of an item: calls sent and took it, or one sent it; or there is none, and a take found that
pub data Fate : Type 0 where
  taken : (send take : ℕ) → Fate
  kept : (send : ℕ) → Fate
  none : (act : Act) → (take : ℕ) → Fate

-- an item is sent from `a` to `b`, and taken from `c` to `d`
pub record Item : Type 0 where
  pub item : ℕ
  pub fate : Fate
  pub a : ℕ
  pub b : ℕ
  pub c : ℕ
  pub d : ℕ

abbrev pub items : List Item → List ℕ
items [] = []
items (x ∷ xs) = x.item ∷ items xs

items_snoc : (xs : List Item) (y : Item) → items (xs ++ y ∷ []) ≡ items xs ++ y.item ∷ []
items_snoc [] y = refl
items_snoc (x ∷ xs) y = ap (λ (l : List ℕ). x.item ∷ l) (items_snoc xs y)

abbrev pub sends : (place item : ℕ) → Step
sends place item = record { place = place; act = Act.Send item }

abbrev pub takes : (place item : ℕ) → Step
takes place item = record { place = place; act = Act.Took item }

-- the place of the call by which it leaves
abbrev pub LeavesBy : Fate → (place : ℕ) → Type 0
LeavesBy (taken send take) place = place ≡ take
LeavesBy (kept send) place = ⊥
LeavesBy (none act take) place = ⊥

-- the place of a call of it
abbrev pub IsOf : Fate → (place : ℕ) → Type 0
IsOf (taken send take) place = (place ≡ send) ⊎ (place ≡ take)
IsOf (kept send) place = place ≡ send
IsOf (none act take) place = place ≡ take

leaves_of : (f : Fate) (place : ℕ) → LeavesBy f place → IsOf f place
leaves_of f place by = grind arith

-- the first may be in front of the second
pub record Ahead (x y : Item) : Type 0 where
  pub sent : x.a ≤ y.b
  pub gone : x.c ≤ y.d
  pub apart : (place : ℕ) → IsOf x.fate place → IsOf y.fate place → ⊥

-- the calls of an item may be at its moments, which are before `never`, unless it is kept
abbrev pub FateFits : (P : Step → ℕ → Type 0) → (never : ℕ) → Item → Fate → Type 0
FateFits P never x (taken send take) = (x.d < never) × ((m : ℕ) → x.a ≤ m → m ≤ x.b → P (sends send x.item) m) × ((m : ℕ) → x.c ≤ m → m ≤ x.d → P (takes take x.item) m) × (send ≢ take)
FateFits P never x (kept send) = (never ≤ x.c) × ((m : ℕ) → x.a ≤ m → m ≤ x.b → P (sends send x.item) m)
FateFits P never x (none act take) = (x.d < never) × (x.d ≤ x.a) × FindsNone act × ((m : ℕ) → x.a ≤ m → m ≤ x.d → P (record { place = take; act = act }) m)

pub record Fits (P : Step → ℕ → Type 0) (never : ℕ) (x : Item) : Type 0 where
  pub sent : x.a ≤ x.b
  pub lives : x.b ≤ x.d
  pub early : x.b < never
  pub gone : x.c ≤ x.d
  pub fits : FateFits P never x x.fate

abbrev pub IsItem : Fate → Type 0
IsItem (taken send take) = Unit {0}
IsItem (kept send) = Unit {0}
IsItem (none act take) = ⊥

-- the items that the queue holds, and those to come
pub record State (P : Step → ℕ → Type 0) (never now : ℕ) (inside rest : List Item) : Type 0 where
  pub held : (x : Item) → In x inside → Fits P never x × IsItem x.fate × (now ≤ x.d)
  pub to_come : (y : Item) → In y rest → Fits P never y × (now ≤ y.b)
  pub in_inside : (x y : Item) → Before x y inside → Ahead x y
  pub in_rest : (x y : Item) → Before x y rest → Ahead x y
  pub across : (x y : Item) → In x inside → In y rest → Ahead x y

pub record HasPlace (steps : List Step) (place : ℕ) : Type 0 where
  pub step : Step
  pub within : In step steps
  pub place_is : step.place ≡ place

further : (s : Step) (steps : List Step) (place : ℕ) → HasPlace steps place → HasPlace (s ∷ steps) place
further s steps place h = record { step = h.step; within = inr h.within; place_is = h.place_is }

here : (s : Step) (steps : List Step) (place : ℕ) → place ≡ s.place → HasPlace (s ∷ steps) place
here s steps place is = record { step = s; within = inl refl; place_is = sym is }

-- no two steps have one place
abbrev pub Once : List Step → Type 0
Once [] = Unit {0}
Once (s ∷ steps) = ((t : Step) → In t steps → t.place ≢ s.place) × Once steps

-- the place is that of a call by which an item leaves that is held, or of one of an item to come
abbrev pub Known : (inside rest : List Item) → (place : ℕ) → Type 0
Known inside rest place = ((x : Item) × In x inside × LeavesBy x.fate place) ⊎ ((y : Item) × In y rest × IsOf y.fate place)

-- steps that one queue answers, at moments of their calls
pub record Woven (P : Step → ℕ → Type 0) (now : ℕ) (inside rest : List Item) : Type 0 where
  pub steps : List Step
  pub run : IsRun None (items inside) steps
  pub timed : Timed P now steps
  pub leave : (x : Item) → In x inside → (place : ℕ) → LeavesBy x.fate place → HasPlace steps place
  pub all : (y : Item) → In y rest → (place : ℕ) → IsOf y.fate place → HasPlace steps place
  pub only : (s : Step) → In s steps → Known inside rest s.place
  pub once : Once steps

pub record Later (p q : ℕ) : Type 0 where
  pub m : ℕ
  pub past_p : p ≤ m
  pub past_q : q ≤ m
  pub one : (m ≡ p) ⊎ (m ≡ q)

pub later_of : (p q : ℕ) → Later p q
later_of p q = elim (cases_lt p q) [
  | inl less ↦ record { m = q; past_p = omega (arith, less); past_q = omega arith; one = inr refl }
  | inr not_less ↦ record { m = p; past_p = omega arith; past_q = not_less; one = inl refl }
]

before_snoc : {X : Type 0} (s t y : X) (xs : List X) → Before s t (xs ++ y ∷ []) → Before s t xs ⊎ (In s xs × (y ≡ t))
before_snoc s t y [] (inl h) = absurd h.1
before_snoc s t y [] (inr h) = absurd h
before_snoc s t y (x ∷ xs) (inl h) = elim (in_snoc t y xs h.1) [ inl old ↦ inl (inl (h.0, old)) | inr new ↦ inr (inl h.0, new) ]
before_snoc s t y (x ∷ xs) (inr h) = elim (before_snoc s t y xs h) [ inl old ↦ inl (inr old) | inr new ↦ inr (inr new.0, new.1) ]

-- an item to come is put into the queue: what is to be shown of the state
module _ (P : Step → ℕ → Type 0) (never now : ℕ) (inside : List Item) (y : Item) (rest : List Item) (z : State P never now inside (y ∷ rest)) where
  fits_y : Fits P never y
  fits_y = (z.to_come y (inl refl)).0

  -- the later of now and its begin is by all ends to come
  by_all : (m : ℕ) → (m ≡ now) ⊎ (m ≡ y.a) → (u : Item) → In u (y ∷ rest) → m ≤ u.b
  by_all m (inl is) u within = omega (arith, is, (z.to_come u within).1)
  by_all m (inr is) u (inl same) = let e : y.b ≡ u.b = ap (λ (x : Item). x.b) same in omega (arith, is, e, fits_y.sent)
  by_all m (inr is) u (inr within) = omega (arith, is, (z.in_rest y u (inl (refl, within))).sent)

  state_put : (m : ℕ) → (m ≡ now) ⊎ (m ≡ y.a) → IsItem y.fate → ((x : Item) → In x inside → m ≤ x.d) → State P never m (inside ++ y ∷ []) rest
  state_put m one is_item fine = record {
    held = λ x within. elim (in_snoc x y inside within) [
      | inl old ↦ ((z.held x old).0, (z.held x old).1, fine x old)
      | inr new ↦ subst (λ (u : Item). Fits P never u × IsItem u.fate × (m ≤ u.d)) new (fits_y, is_item, omega (arith, by_all m one y (inl refl), fits_y.lives))
    ];
    to_come = λ u within. ((z.to_come u (inr within)).0, by_all m one u (inr within));
    in_inside = λ u v before. elim (before_snoc u v y inside before) [
      | inl old ↦ z.in_inside u v old
      | inr new ↦ subst (λ (w : Item). Ahead u w) new.1 (z.across u y new.0 (inl refl))
    ];
    in_rest = λ u v before. z.in_rest u v (inr before);
    across = λ u v within to_come. elim (in_snoc u y inside within) [
      | inl old ↦ z.across u v old (inr to_come)
      | inr new ↦ subst (λ (w : Item). Ahead w v) new (z.in_rest y v (inl (refl, to_come)))
    ];
  }

-- the front item is taken
state_taken : (P : Step → ℕ → Type 0) (never now : ℕ) (x : Item) (inside rest : List Item) → State P never now (x ∷ inside) rest → (m : ℕ) → (m ≡ now) ⊎ (m ≡ x.c) → ((y : Item) → In y rest → m ≤ y.b) → State P never m inside rest
state_taken P never now x inside rest z m one by_all = record {
  held = λ u within.
      let h = z.held u (inr within) in (
        h.0,
        h.1,
        elim one [
          | inl is ↦ omega (arith, is, h.2)
          | inr is ↦ let e = (z.in_inside x u (inl (refl, within))).gone in omega (arith, is, e)
        ],
      );
  to_come = λ y within. ((z.to_come y within).0, by_all y within);
  in_inside = λ u v before. z.in_inside u v (inr before);
  in_rest = z.in_rest;
  across = λ u v within to_come. z.across u v (inr within) to_come;
}

-- a take that found none goes by an empty queue
state_none : (P : Step → ℕ → Type 0) (never now : ℕ) (y : Item) (rest : List Item) → State P never now [] (y ∷ rest) → (m : ℕ) → ((u : Item) → In u rest → m ≤ u.b) → State P never m [] rest
state_none P never now y rest z m by_all = grind arith

-- ---- one step more

take_woven : (P : Step → ℕ → Type 0) (never now : ℕ) (x : Item) (inside rest : List Item) (send take m : ℕ) → State P never now (x ∷ inside) rest → x.fate ≡ taken send take → now ≤ m → P (takes take x.item) m → Woven P m inside rest → Woven P now (x ∷ inside) rest
take_woven P never now x inside rest send take m z fate later may v = record {
  steps = takes take x.item ∷ v.steps;
  run = (items inside, refl, v.run);
  timed = (m, later, may, v.timed);
  leave = λ u within place by. grind (arith, further, here);
  all = λ y within place is. further (takes take x.item) v.steps place (v.all y within place is);
  only = λ s within. elim within [
    | inl same ↦ inl (x, inl refl, leaves_x s.place (ap (λ (t : Step). t.place) (sym same)))
    | inr more ↦ elim (v.only s more) [ inl u ↦ inl (u.0, inr u.1, u.2) | inr u ↦ inr u ]
  ];
  once = (
    (λ t within same. elim (v.only t within) [
      | inl u ↦ (z.in_inside x u.0 (inl (refl, u.1))).apart t.place (leaves_of x.fate t.place (leaves_x t.place same)) (leaves_of u.0.fate t.place u.2)
      | inr u ↦ (z.across x u.0 (inl refl) u.1).apart t.place (leaves_of x.fate t.place (leaves_x t.place same)) u.2
    ]),
    v.once,
  );
}
  where
    leaves_x : (place : ℕ) → place ≡ take → LeavesBy x.fate place
    leaves_x place is = subst (λ (g : Fate). LeavesBy g place) (sym fate) is

put_woven : (P : Step → ℕ → Type 0) (never now : ℕ) (inside : List Item) (y : Item) (rest : List Item) (send m : ℕ) → State P never now inside (y ∷ rest) → ((place : ℕ) → IsOf y.fate place → (place ≡ send) ⊎ LeavesBy y.fate place) → IsOf y.fate send → (LeavesBy y.fate send → ⊥) → now ≤ m → P (sends send y.item) m → Woven P m (inside ++ y ∷ []) rest → Woven P now inside (y ∷ rest)
put_woven P never now inside y rest send m z fate of stays later may v = record {
  steps = sends send y.item ∷ v.steps;
  run = (items inside ++ y.item ∷ [], (refl, tt), subst (λ (held : List ℕ). IsRun None held v.steps) (items_snoc inside y) v.run);
  timed = (m, later, may, v.timed);
  leave = λ x within place by. further (sends send y.item) v.steps place (v.leave x (in_more x y inside within) place by);
  all = λ u within place is. grind (arith, further, here, in_last);
  only = λ s within. elim within [
    | inl same ↦ inr (y, inl refl, subst (IsOf y.fate) (ap (λ (t : Step). t.place) same) of)
    | inr more ↦ elim (v.only s more) [
      | inl u ↦ elim (in_snoc u.0 y inside u.1) [
        | inl old ↦ inl (u.0, old, u.2)
        | inr new ↦ inr (y, inl refl, subst (λ (w : Item). IsOf w.fate s.place) (sym new) (leaves_of u.0.fate s.place u.2))
      ]
      | inr u ↦ inr (u.0, inr u.1, u.2)
    ]
  ];
  once = (
    (λ t within same. elim (v.only t within) [
      | inl u ↦ elim (in_snoc u.0 y inside u.1) [
        | inl old ↦ (z.across u.0 y old (inl refl)).apart t.place (leaves_of u.0.fate t.place u.2) (subst (IsOf y.fate) (sym same) of)
        | inr new ↦ stays (subst (LeavesBy y.fate) same (subst (λ (w : Item). LeavesBy w.fate t.place) (sym new) u.2))
      ]
      | inr u ↦ (z.in_rest y u.0 (inl (refl, u.1))).apart t.place (subst (IsOf y.fate) (sym same) of) u.2
    ]),
    v.once,
  );
}

none_does : (act : Act) → FindsNone act → Does None [] act []
none_does act finds = grind arith

none_woven : (P : Step → ℕ → Type 0) (never now : ℕ) (y : Item) (rest : List Item) (act : Act) (take m : ℕ) → State P never now [] (y ∷ rest) → y.fate ≡ none act take → FindsNone act → now ≤ m → P (record { place = take; act = act }) m → Woven P m [] rest → Woven P now [] (y ∷ rest)
none_woven P never now y rest act take m z fate finds later may v = record {
  steps = record { place = take; act = act } ∷ v.steps;
  run = ([], none_does act finds, v.run);
  timed = (m, later, may, v.timed);
  leave = λ x within place by. absurd within;
  all = λ u within place is. grind (arith, further, here);
  only = λ s within. elim within [
    | inl same ↦ inr (y, inl refl, is_y s.place (ap (λ (t : Step). t.place) (sym same)))
    | inr more ↦ elim (v.only s more) [ inl u ↦ absurd u.1 | inr u ↦ inr (u.0, inr u.1, u.2) ]
  ];
  once = (
    (λ t within same. elim (v.only t within) [
      | inl u ↦ absurd u.1
      | inr u ↦ (z.in_rest y u.0 (inl (refl, u.1))).apart t.place (is_y t.place same) u.2
    ]),
    v.once,
  );
}
  where
    is_y : (place : ℕ) → place ≡ take → IsOf y.fate place
    is_y place is = subst (λ (g : Fate). IsOf g place) (sym fate) is

-- ---- all steps

abbrev pub Weaves : (P : Step → ℕ → Type 0) → (never n : ℕ) → Type 0
Weaves P never n = (now : ℕ) (inside rest : List Item) → length inside + length rest + length rest < n → State P never now inside rest → Woven P now inside rest

length_snoc : (xs : List Item) (y : Item) → length (xs ++ y ∷ []) ≡ length xs + 1
length_snoc [] y = refl
length_snoc (x ∷ xs) y = let e = length_snoc xs y in omega (arith, e)

module _ (P : Step → ℕ → Type 0) (never n : ℕ) (ih : Weaves P never n) where
  put : (now : ℕ) (inside : List Item) (y : Item) (rest : List Item) (f : Fate) → y.fate ≡ f → FateFits P never y f → length inside + suc (length rest) + suc (length rest) < suc n → State P never now inside (y ∷ rest) → (l : Later now y.a) → ((x : Item) → In x inside → l.m ≤ x.d) → IsItem f ⊎ (inside ≡ []) → Woven P now inside (y ∷ rest)
  put now inside y rest (taken send take) fate fits size z l fine which =
      let s = state_put P never now inside y rest z l.m l.one (subst IsItem (sym fate) tt) fine in
      let len = length_snoc inside y in
      put_woven P never now inside y rest send l.m z (λ place is. let i : IsOf (taken send take) place = subst (λ (g : Fate). IsOf g place) fate is in elim i [ inl a ↦ inl a | inr b ↦ inr (subst (λ (g : Fate). LeavesBy g place) (sym fate) b) ]) (subst (λ (g : Fate). IsOf g send) (sym fate) (inl refl)) (λ by. fits.3 (subst (λ (g : Fate). LeavesBy g send) fate by)) l.past_p (fits.1 l.m l.past_q (by_all P never now inside y rest z l.m l.one y (inl refl))) (ih l.m (inside ++ y ∷ []) rest (omega (arith, size, len)) s)
  put now inside y rest (kept send) fate fits size z l fine which =
      let s = state_put P never now inside y rest z l.m l.one (subst IsItem (sym fate) tt) fine in
      let len = length_snoc inside y in
      put_woven P never now inside y rest send l.m z (λ place is. inl (subst (λ (g : Fate). IsOf g place) fate is)) (subst (λ (g : Fate). IsOf g send) (sym fate) refl) (λ by. subst (λ (g : Fate). LeavesBy g send) fate by) l.past_p (fits.1 l.m l.past_q (by_all P never now inside y rest z l.m l.one y (inl refl))) (ih l.m (inside ++ y ∷ []) rest (omega (arith, size, len)) s)
  put now inside y rest (none act take) fate fits size z l fine (inl item) = absurd item
  put now [] y rest (none act take) fate fits size z l fine (inr empty) =
      let w = z.to_come y (inl refl) in
      let up_to : l.m ≤ y.b = by_all P never now [] y rest z l.m l.one y (inl refl) in
      none_woven P never now y rest act take l.m z fate fits.2 l.past_p (fits.3 l.m l.past_q (omega (arith, up_to, w.0.lives))) (ih l.m [] rest (omega (arith, size)) (state_none P never now y rest z l.m (λ u within. by_all P never now [] y rest z l.m l.one u (inr within))))
  put now (x ∷ inside) y rest (none act take) fate fits size z l fine (inr empty) = cc

  leaves : (now : ℕ) (x : Item) (inside rest : List Item) (f : Fate) → x.fate ≡ f → FateFits P never x f → suc (length inside) + length rest + length rest < suc n → State P never now (x ∷ inside) rest → ((y : Item) → In y rest → x.c ≤ y.b) → (never ≤ x.c → ⊥) → Woven P now (x ∷ inside) rest
  leaves now x inside rest (taken send take) fate fits size z before near =
      let l = later_of now x.c in
      let h = z.held x (inl refl) in
      let fine : l.m ≤ x.d = elim l.one [ inl is ↦ omega (arith, is, h.2) | inr is ↦ omega (arith, is, h.0.gone) ] in
      let by : (y : Item) → In y rest → l.m ≤ y.b = λ y within. elim l.one [ inl is ↦ let t = (z.to_come y within).1 in omega (arith, is, t) | inr is ↦ let t = before y within in omega (arith, is, t) ] in
      take_woven P never now x inside rest send take l.m z fate l.past_p (fits.2 l.m l.past_q fine) (ih l.m inside rest (omega (arith, size)) (state_taken P never now x inside rest z l.m l.one by))
  leaves now x inside rest (kept send) fate fits size z before near = absurd (near fits.0)
  leaves now x inside rest (none act take) fate fits size z before near = absurd (subst IsItem fate (z.held x (inl refl)).1)

  -- nothing is to come, and the front item is kept: so are the others
  stop : (now : ℕ) (x : Item) (inside : List Item) (send : ℕ) → x.fate ≡ kept send → never ≤ x.c → State P never now (x ∷ inside) [] → Woven P now (x ∷ inside) []
  stop now x inside send fate far z = record {
    steps = [];
    run = tt;
    timed = tt;
    leave = λ u within place by. absurd (stays u within u.fate refl place by);
    all = λ y within place is. absurd within;
    only = λ s within. absurd within;
    once = tt;
  }
    where
      behind : (u : Item) → In u (x ∷ inside) → never ≤ u.d
      behind u (inl same) = let e : x.d ≡ u.d = ap (λ (w : Item). w.d) same in let h = (z.held x (inl refl)).0.gone in omega (arith, e, far, h)
      behind u (inr more) = let g = (z.in_inside x u (inl (refl, more))).gone in omega (arith, g, far)

      stays : (u : Item) → In u (x ∷ inside) → (f : Fate) → u.fate ≡ f → (place : ℕ) → LeavesBy f place → ⊥
      stays u within (taken send take) is place by = let fits : FateFits P never u (taken send take) = subst (FateFits P never u) is (z.held u within).0.fits in let late = behind u within in omega (arith, fits.0, late)
      stays u within (kept send) is place by = by
      stays u within (none act take) is place by = by

  last : (now : ℕ) (x : Item) (inside : List Item) (f : Fate) → x.fate ≡ f → FateFits P never x f → suc (length inside) < suc n → State P never now (x ∷ inside) [] → Woven P now (x ∷ inside) []
  last now x inside (kept send) fate fits size z = stop now x inside send fate fits.0 z
  last now x inside (taken send gone) fate fits size z = leaves now x inside [] (taken send gone) fate fits (omega (arith, size)) z (λ y within. absurd within) (λ far. let h = (z.held x (inl refl)).0.gone in omega (arith, far, fits.0, h))
  last now x inside (none act found) fate fits size z = absurd (subst IsItem fate (z.held x (inl refl)).1)

  either : (now : ℕ) (x : Item) (inside : List Item) (y : Item) (rest : List Item) → suc (length inside) + suc (length rest) + suc (length rest) < suc n → State P never now (x ∷ inside) (y ∷ rest) → Woven P now (x ∷ inside) (y ∷ rest)
  either now x inside y rest size z =
      let l = later_of now y.a in
      let h = z.held x (inl refl) in
      let w = z.to_come y (inl refl) in
      elim (cases_lt l.m x.c) [
        | inl less ↦ put now (x ∷ inside) y rest y.fate refl w.0.fits size z l (waits l less) (inl (no_none l less y.fate refl w.0.fits))
        | inr not_less ↦ leaves now x inside (y ∷ rest) x.fate refl h.0.fits size z (λ u within. let t = by_all P never now (x ∷ inside) y rest z l.m l.one u within in omega (arith, t, not_less)) (λ far. let t = by_all P never now (x ∷ inside) y rest z l.m l.one y (inl refl) in omega (arith, far, not_less, t, w.0.early))
      ]
    where
      waits : (l : Later now y.a) → l.m < x.c → (u : Item) → In u (x ∷ inside) → l.m ≤ u.d
      waits l less u (inl same) = let e : x.d ≡ u.d = ap (λ (w : Item). w.d) same in let h = (z.held x (inl refl)).0.gone in omega (arith, e, less, h)
      waits l less u (inr more) = let g = (z.in_inside x u (inl (refl, more))).gone in omega (arith, g, less)

      no_none : (l : Later now y.a) → l.m < x.c → (f : Fate) → y.fate ≡ f → FateFits P never y f → IsItem f
      no_none l less (taken send take) is fits = tt
      no_none l less (kept send) is fits = tt
      no_none l less (none act take) is fits = let g = (z.across x y (inl refl) (inl refl)).gone in let q = l.past_q in omega (arith, g, fits.1, q, less)

pub weave : (P : Step → ℕ → Type 0) (never n : ℕ) → Weaves P never n
weave P never zero now inside rest size z = absurd (omega (arith, size))
weave P never (suc n) now [] [] size z = record { steps = []; run = tt; timed = tt; leave = λ x within place by. absurd within; all = λ y within place is. absurd within; only = λ s within. absurd within; once = tt }
weave P never (suc n) now [] (y ∷ rest) size z = put P never n (weave P never n) now [] y rest y.fate refl (z.to_come y (inl refl)).0.fits size z (later_of now y.a) (λ x within. absurd within) (inr refl)
weave P never (suc n) now (x ∷ inside) [] size z = last P never n (weave P never n) now x inside x.fate refl (z.held x (inl refl)).0.fits (omega (arith, size)) z
weave P never (suc n) now (x ∷ inside) (y ∷ rest) size z = either P never n (weave P never n) now x inside y rest size z
