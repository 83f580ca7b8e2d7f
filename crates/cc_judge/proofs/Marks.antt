-- The calls that a late log may lack, by their places.
use Rattle.std.proofs.Common.{◌≡◌, ◌≢◌, ℕ, zero, suc, ◌<◌, ◌+◌, ◌⊎◌, inl, inr, Bool, true, false, List, [], ◌∷◌, ◌++◌, length, Option, Some, None, refl, sym, ap, ◌∙◌, subst, arith, length-append}
use Rattle.std.specs.Prelude.{fold, replicate, slice_set, unwrap_or}
use Rattle.std.specs.List.{slice_get}
use Rattle.cc_judge.specs.Names.{Act, Call}
use Rattle.cc_judge.specs.Late.{early, lacking, mark_sent, mark_taken, padding}
use Rattle.cc_judge.proofs.Turns.{nat_cases, set_at, set_elsewhere}

-- ---- two lists

pub get_front : {X : Type 0} (xs ys : List X) (k : ℕ) (z : X) → slice_get xs k ≡ Some z → slice_get (xs ++ ys) k ≡ Some z
get_front [] ys k z is = cc
get_front (x ∷ xs) ys zero z is = is
get_front (x ∷ xs) ys (suc k) z is = get_front xs ys k z is

pub get_within : {X : Type 0} (xs ys : List X) (k : ℕ) (z : X) → slice_get (xs ++ ys) k ≡ Some z → k < length xs → slice_get xs k ≡ Some z
get_within [] ys k z is less = absurd (omega (arith, less))
get_within (x ∷ xs) ys zero z is less = is
get_within (x ∷ xs) ys (suc k) z is less = get_within xs ys k z is (omega (arith, less))

pub get_behind : {X : Type 0} (xs ys : List X) (j : ℕ) → slice_get (xs ++ ys) (length xs + j) ≡ slice_get ys j
get_behind [] ys j = ap (slice_get ys) (let e : 0 + j ≡ j = omega arith in e)
get_behind (x ∷ xs) ys j = ap (slice_get (x ∷ (xs ++ ys))) (let e : length (x ∷ xs) + j ≡ suc (length xs + j) = omega arith in e) ∙ get_behind xs ys j

pub get_split : {X : Type 0} (xs ys : List X) (k : ℕ) (z : X) → slice_get (xs ++ ys) k ≡ Some z → (slice_get xs k ≡ Some z) ⊎ ((j : ℕ) × (k ≡ length xs + j) × (slice_get ys j ≡ Some z))
get_split [] ys k z is = inr (k, omega arith, is)
get_split (x ∷ xs) ys zero z is = inl is
get_split (x ∷ xs) ys (suc k) z is = grind (arith, get_split xs ys k z is)

pub get_last : {X : Type 0} (xs : List X) (z : X) → slice_get (xs ++ z ∷ []) (length xs) ≡ Some z
get_last [] z = refl
get_last (x ∷ xs) z = get_last xs z

-- ---- marks

-- this marks the items of calls that did this
pub record Marker (mark : List Bool → Act → List Bool) (done : ℕ → Act) : Type 0 where
  pub split : (marks : List Bool) (act : Act) → ((mark marks act ≡ marks) × ((x : ℕ) → act ≢ done x)) ⊎ ((x : ℕ) × (act ≡ done x) × (mark marks act ≡ slice_set marks x true))
  pub own : (x y : ℕ) → done x ≡ done y → x ≡ y

pub marks_sent : Marker mark_sent Act.Send
marks_sent = grind arith

pub marks_taken : Marker mark_taken Act.Took
marks_taken = grind arith

set_known : (marks : List Bool) (v x : ℕ) (b : Bool) → slice_get marks x ≡ Some b → (c : Bool) × (slice_get (slice_set marks v true) x ≡ Some c) × (x ≡ v → c ≡ true) × (b ≡ true → c ≡ true)
set_known marks v x b is = elim (nat_cases x v) [
  | inl same ↦ (true, subst (λ (p : ℕ). slice_get (slice_set marks p true) x ≡ Some true) same (set_at marks x b true is), (λ e. refl), λ e. refl)
  | inr other ↦ (b, set_elsewhere marks v x true other ∙ is, (λ e. absurd (other e)), λ e. e)
]

-- a mark after one call
one_known : (mark : List Bool → Act → List Bool) (done : ℕ → Act) → Marker mark done → (marks : List Bool) (act : Act) (x : ℕ) (b : Bool) → slice_get marks x ≡ Some b
    → (c : Bool) × (slice_get (mark marks act) x ≡ Some c) × (act ≡ done x → c ≡ true) × (b ≡ true → c ≡ true)
one_known mark done m marks act x b is = elim (m.split marks act) [
  | inl plain ↦ (b, ap (λ (l : List Bool). slice_get l x) plain.0 ∙ is, (λ e. absurd (plain.1 x e)), λ e. e)
  | inr marked ↦
      let r = set_known marks marked.0 x b is in
      (r.0, ap (λ (l : List Bool). slice_get l x) marked.2 ∙ r.1, (λ e. r.2 (m.own x marked.0 (sym e ∙ marked.1))), r.3)
]

-- a mark stays
stays_marked : (mark : List Bool → Act → List Bool) (done : ℕ → Act) → Marker mark done → (calls : List Call) (marks : List Bool) (x : ℕ) → slice_get marks x ≡ Some true
    → slice_get (fold (λ marks call. mark marks call.act) marks calls) x ≡ Some true
stays_marked mark done m [] marks x is = is
stays_marked mark done m (d ∷ calls) marks x is =
    let r = one_known mark done m marks d.act x true is in
    stays_marked mark done m calls (mark marks d.act) x (r.1 ∙ ap Some (r.3 refl))

-- the item of each such call is marked
pub marked : (mark : List Bool → Act → List Bool) (done : ℕ → Act) → Marker mark done → (calls : List Call) (marks : List Bool) (p x : ℕ) (c : Call) (b : Bool) → slice_get marks x ≡ Some b → slice_get calls p ≡ Some c
    → c.act ≡ done x → slice_get (fold (λ marks call. mark marks call.act) marks calls) x ≡ Some true
marked mark done m [] marks p x c b is at act = cc
marked mark done m (d ∷ calls) marks zero x c b is at act =
    let same : d ≡ c = cc in
    let r = one_known mark done m marks d.act x b is in
    stays_marked mark done m calls (mark marks d.act) x (r.1 ∙ ap Some (r.2 (ap (λ (y : Call). y.act) same ∙ act)))
marked mark done m (d ∷ calls) marks (suc p) x c b is at act =
    let r = one_known mark done m marks d.act x b is in
    marked mark done m calls (mark marks d.act) p x c r.0 r.1 at act

-- and no others
pub only_marked : (mark : List Bool → Act → List Bool) (done : ℕ → Act) → Marker mark done → (calls : List Call) (marks : List Bool) (x : ℕ) → slice_get (fold (λ marks call. mark marks call.act) marks calls) x ≡ Some true
    → (slice_get marks x ≡ Some true) ⊎ ((p : ℕ) × (c : Call) × (slice_get calls p ≡ Some c) × (c.act ≡ done x))
only_marked mark done m [] marks x is = inl is
only_marked mark done m (d ∷ calls) marks x is = elim (only_marked mark done m calls (mark marks d.act) x is) [
  | inr later ↦ inr (suc later.0, later.1, later.2, later.3)
  | inl was ↦ elim (m.split marks d.act) [
    | inl plain ↦ inl (sym (ap (λ (l : List Bool). slice_get l x) plain.0) ∙ was)
    | inr here ↦ elim (nat_cases x here.0) [
      | inl same ↦ inr (0, d, refl, here.1 ∙ ap done (sym same))
      | inr other ↦ inl (sym (set_elsewhere marks here.0 x true other) ∙ sym (ap (λ (l : List Bool). slice_get l x) here.2) ∙ was)
    ]
  ]
]

pub none_marked : (n x : ℕ) → x < n → slice_get (replicate n false) x ≡ Some false
none_marked zero x less = absurd (omega (arith, less))
none_marked (suc n) zero less = refl
none_marked (suc n) (suc x) less = none_marked n x (omega (arith, less))

pub none_is_marked : (n x : ℕ) → slice_get (replicate n false) x ≡ Some true → ⊥
none_is_marked zero x is = cc
none_is_marked (suc n) zero is = cc
none_is_marked (suc n) (suc x) is = none_is_marked n x is

pub is_some_true : (o : Option Bool) → unwrap_or o false ≡ true → o ≡ Some true
is_some_true o is = grind arith

-- ---- places of what is lacking

abbrev pub lacks : (sent taken : List Bool) → ℕ → List Call
lacks sent taken x = lacking (unwrap_or (slice_get sent x) false) (unwrap_or (slice_get taken x) false) x

-- what is lacking of an item comes after what is lacking of those before it
pub lacks_at : (sent taken : List Bool) (items x : ℕ) (c : Call) → x < items → lacks sent taken x ≡ c ∷ [] → slice_get (padding sent taken items) (length (padding sent taken x)) ≡ Some c
lacks_at sent taken zero x c less is = absurd (omega (arith, less))
lacks_at sent taken (suc i) x c less is = elim (nat_cases x i) [
  | inl same ↦
      let here : lacks sent taken i ≡ c ∷ [] = subst (λ (k : ℕ). lacks sent taken k ≡ c ∷ []) same is in
      ap (λ (k : ℕ). slice_get (padding sent taken i ++ lacks sent taken i) (length (padding sent taken k))) same ∙ ap (λ (l : List Call). slice_get (padding sent taken i ++ l) (length (padding sent taken i))) here ∙ get_last (padding sent taken i) c
  | inr other ↦ get_front (padding sent taken i) (lacks sent taken i) (length (padding sent taken x)) c (lacks_at sent taken i x c (omega (arith, less, other)) is)
]

pub lacks_rises : (sent taken : List Bool) (y x : ℕ) (c : Call) → x < y → lacks sent taken x ≡ c ∷ [] → length (padding sent taken x) < length (padding sent taken y)
lacks_rises sent taken zero x c less is = absurd (omega (arith, less))
lacks_rises sent taken (suc j) x c less is =
    let sum = length-append (padding sent taken j) (lacks sent taken j) in
    elim (nat_cases x j) [
      | inl same ↦
          let here : length (lacks sent taken j) ≡ 1 = ap length (subst (λ (k : ℕ). lacks sent taken k ≡ c ∷ []) same is) in
          grind (arith, sum, here)
      | inr other ↦ let h = lacks_rises sent taken j x c (omega (arith, less, other)) is in omega (arith, sum, h)
    ]

-- each of them began at 0 and hasn't returned
abbrev pub IsEarly : Call → Type 0
IsEarly c = (c.begin ≡ 0) × (c.end ≡ None)

pub early_is : (act : Act) (c : Call) → early act ≡ c → IsEarly c
early_is act c is = (ap (λ (y : Call). y.begin) (sym is), ap (λ (y : Call). y.end) (sym is))

lacking_early : (a b : Bool) (x j : ℕ) (c : Call) → slice_get (lacking a b x) j ≡ Some c → IsEarly c
lacking_early a b x j c is = grind arith

pub padding_early : (sent taken : List Bool) (items j : ℕ) (c : Call) → slice_get (padding sent taken items) j ≡ Some c → IsEarly c
padding_early sent taken zero j c is = cc
padding_early sent taken (suc i) j c is = elim (get_split (padding sent taken i) (lacks sent taken i) j c is) [
  | inl front ↦ padding_early sent taken i j c front
  | inr behind ↦ lacking_early (unwrap_or (slice_get sent i) false) (unwrap_or (slice_get taken i) false) i behind.0 c behind.2
]
