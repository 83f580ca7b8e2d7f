-- A table of the calls of one kind, one call further.
use Rattle.std.proofs.Common.{◌≡◌, ◌≢◌, ℕ, ◌+◌, ◌<◌, ◌≤◌, ◌⊎◌, inl, inr, List, length, get_or, Option, Some, None, sym, ap, ◌∙◌, subst, arith}
use Rattle.std.specs.List.{slice_get, slice_set}
use Rattle.std.proofs.lemmas.List.{length-set}
use Rattle.std.proofs.lemmas.Option.{slice_get-get_or, slice_get_within, slice_get_cases}
use Rattle.cc_judge.specs.Names.{Act, Call, Kind}
use Rattle.cc_judge.specs.Faults.{Did}
use Rattle.cc_judge.specs.Table.{act_of, IsTable, Twice}
use Rattle.cc_judge.proofs.Turns.{below_or_at, nat_cases, set_at, set_elsewhere}

-- the table has exactly the calls of this kind so far
pub record TabledTo (calls : List Call) (kind : Kind) (table : List (Option ℕ)) (upto : ℕ) : Type 0 where
  pub all : (place item : ℕ) → place < upto → Did calls place (act_of kind item) → slice_get table item ≡ Some (Some place)
  pub each : (place item : ℕ) → slice_get table item ≡ Some (Some place) → Did calls place (act_of kind item)
  pub past : (place item : ℕ) → slice_get table item ≡ Some (Some place) → place < upto

one_item : (kind : Kind) (item other : ℕ) → act_of kind item ≡ act_of kind other → item ≡ other
one_item kind item other same = grind arith

-- the call at i, as a loop reads it
pub did_here : (calls : List Call) (i : ℕ) (d : Call) (act : Act) → i < length calls → (get_or calls i d).act ≡ act → Did calls i act
did_here calls i d act within is = record { call = get_or calls i d; call_is = slice_get-get_or calls i d within; act_is = is }

here_did : (calls : List Call) (i place : ℕ) (d : Call) (act : Act) → place < i + 1 → Did calls place act → (place < i) ⊎ ((place ≡ i) × ((get_or calls i d).act ≡ act))
here_did calls i place d act below did = grind (arith, below_or_at)

pub tabled_skip : (calls : List Call) (kind : Kind) (table : List (Option ℕ)) (i : ℕ) (d : Call) → ((item : ℕ) → (get_or calls i d).act ≢ act_of kind item) → TabledTo calls kind table i → TabledTo calls kind table (i + 1)
tabled_skip calls kind table i d none so_far = record {
  all = λ place item below did. elim (here_did calls i place d (act_of kind item) below did) [
    | inl less ↦ so_far.all place item less did
    | inr here ↦ absurd (none item here.1)
  ];
  each = so_far.each;
  past = λ place item has. omega (arith, so_far.past place item has);
}

pub tabled_new : (calls : List Call) (kind : Kind) (before after : List (Option ℕ)) (i item : ℕ) (d : Call) → i < length calls → (get_or calls i d).act ≡ act_of kind item → slice_get before item ≡ Some None → after ≡ slice_set before item (Some i) → TabledTo calls kind before i → TabledTo calls kind after (i + 1)
tabled_new calls kind before after i item d within is was now so_far = record { all = all; each = each; past = past }
  where
    put : slice_get after item ≡ Some (Some i)
    put = subst (λ (l : List (Option ℕ)). slice_get l item ≡ Some (Some i)) (sym now) (set_at before item None (Some i) was)

    kept : (other : ℕ) → other ≢ item → slice_get after other ≡ slice_get before other
    kept other apart = subst (λ (l : List (Option ℕ)). slice_get l other ≡ slice_get before other) (sym now) (set_elsewhere before item other (Some i) apart)

    all : (place other : ℕ) → place < i + 1 → Did calls place (act_of kind other) → slice_get after other ≡ Some (Some place)
    all place other below did = elim (here_did calls i place d (act_of kind other) below did) [
      | inl less ↦
          let had : slice_get before other ≡ Some (Some place) = so_far.all place other less did in
          elim (nat_cases other item) [
            | inl same ↦ let both : Some (Some place) ≡ Some None = sym had ∙ ap (slice_get before) same ∙ was in cc
            | inr apart ↦ kept other apart ∙ had
          ]
      | inr here ↦
          let same : item ≡ other = one_item kind item other (sym is ∙ here.1) in
          subst (λ (n : ℕ). slice_get after n ≡ Some (Some place)) same (put ∙ ap (λ (n : ℕ). Some (Some n)) (sym here.0))
    ]

    each : (place other : ℕ) → slice_get after other ≡ Some (Some place) → Did calls place (act_of kind other)
    each place other has = elim (nat_cases other item) [
      | inl same ↦
          let both : Some (Some i) ≡ Some (Some place) = sym put ∙ ap (slice_get after) (sym same) ∙ has in
          let here : i ≡ place = cc in
          subst (λ (x : ℕ × ℕ). Did calls x.0 (act_of kind x.1)) (λ k. (here k, sym same k)) (did_here calls i d (act_of kind item) within is)
      | inr apart ↦ so_far.each place other (sym (kept other apart) ∙ has)
    ]

    past : (place other : ℕ) → slice_get after other ≡ Some (Some place) → place < i + 1
    past place other has = elim (nat_cases other item) [
      | inl same ↦ let both : Some (Some i) ≡ Some (Some place) = sym put ∙ ap (slice_get after) (sym same) ∙ has in let here : i ≡ place = cc in omega (arith, here)
      | inr apart ↦ omega (arith, so_far.past place other (sym (kept other apart) ∙ has))
    ]

-- an entry leaves the table as long as it was
pub as_long : (before after : List (Option ℕ)) (item : ℕ) (x : Option ℕ) → after ≡ slice_set before item x → length after ≡ length before
as_long before after item x now = ap length now ∙ length-set before item x

-- a call whose item has no entry has an item past the table
pub stray_past : (calls : List Call) (kind : Kind) (table : List (Option ℕ)) (i item items : ℕ) (d : Call) → i < length calls → (get_or calls i d).act ≡ act_of kind item → slice_get table item ≡ None → length table ≡ items → (other : ℕ) → Did calls i (act_of kind other) → items ≤ other
stray_past calls kind table i item items d within is none long other did =
    let here = did_here calls i d (act_of kind item) within is in
    let one : here.call ≡ did.call = cc in
    let same = one_item kind item other (sym here.act_is ∙ ap (λ (c : Call). c.act) one ∙ did.act_is) in
    elim (slice_get_cases table item).1 [
      | inl has ↦ let clash : None ≡ Some has.0 = sym none ∙ has.2 in cc
      | inr past ↦ let out = past.0 in omega (arith, out, long, same)
    ]

pub tabled_twice : (calls : List Call) (kind : Kind) (table : List (Option ℕ)) (i item first : ℕ) (d : Call) → i < length calls → (get_or calls i d).act ≡ act_of kind item → slice_get table item ≡ Some (Some first) → TabledTo calls kind table i → Twice calls kind first i
tabled_twice calls kind table i item first d within is had so_far = grind (arith, did_here)

pub tabled_end : (calls : List Call) (kind : Kind) (table : List (Option ℕ)) (i : ℕ) → length calls ≤ i → TabledTo calls kind table i → IsTable calls kind table
tabled_end calls kind table i end so_far = grind (arith, slice_get_within)

pub tabled_below : (calls : List Call) (kind : Kind) (table : List (Option ℕ)) (items : ℕ) → IsTable calls kind table → length table ≡ items → (place item : ℕ) → Did calls place (act_of kind item) → item < items
tabled_below calls kind table items is long place item did = let within = slice_get_within table item (Some place) (is.all place item did) in omega (arith, within, long)
