-- A log that times don't order is hard: its calls are searched for one with a long time, and the pairs that only their lines order for
-- two that overlap and for two pairs that meet at one time.
use Rattle.std.proofs.Common.{◌≡◌, ◌≢◌, ◌<◌, ◌≤◌, ◌⊎◌, inl, inr, ℕ, zero, suc, List, [], ◌∷◌, Option, Some, None, refl, sym, ap, subst, ◌∙◌, arith}
use Rattle.std.specs.List.{slice_get}
use Rattle.std.proofs.lemmas.Bool.{cases_lt}
use Rattle.cc_judge.specs.Cuts.{AreShort, DoMeet, IsShort, MayBeCut, MeetAt}
use Rattle.cc_judge.specs.Verdict.{AreOrdered, IsSmall}
use Rattle.cc_judge.proofs.Listing.{some_is}
use Rattle.cc_judge.proofs.Turns.{nat_cases}
use Rattle.cc_log.specs.Written.{AreTied, IsTied}
use Rattle.cc_cli.specs.Judged.{HasLongTime, HasOverlap, IsHard, MeetAtOnce}
use Rattle.cc_cli.specs.Names.{Call, Rules, Tie}

-- if one of two things holds of each element, the one holds of some, or the other of all
module _ {X : Type 0} where
  all_of : (Q : ℕ → X → Type 0) (x : X) (xs : List X) → Q 0 x → ((i : ℕ) (y : X) → slice_get xs i ≡ Some y → Q (suc i) y) → (i : ℕ) (y : X) → slice_get (x ∷ xs) i ≡ Some y → Q i y
  all_of Q x xs first rest zero y is = subst (Q 0) (some_is x y is) first
  all_of Q x xs first rest (suc i) y is = rest i y is

  some_or_all : (P : Type 0) (Q : ℕ → X → Type 0) (xs : List X) → ((i : ℕ) (x : X) → slice_get xs i ≡ Some x → P ⊎ Q i x) → P ⊎ ((i : ℕ) (x : X) → slice_get xs i ≡ Some x → Q i x)
  some_or_all P Q [] each = inr (λ i x is. absurd (cc is))
  some_or_all P Q (x ∷ xs) each = elim (each 0 x refl) [
    | inl found ↦ inl found
    | inr first ↦ elim (some_or_all P (λ i y. Q (suc i) y) xs (λ i y is. each (suc i) y is)) [
      | inl found ↦ inl found
      | inr rest ↦ inr (all_of Q x xs first rest)
    ]
  ]

-- ---- long times

end_is_short : (end : Option ℕ) → ((e : ℕ) × (end ≡ Some e) × (4611686018427387904 ≤ e)) ⊎ ((e : ℕ) → end ≡ Some e → e < 4611686018427387904)
end_is_short None = inr (λ e is. absurd (cc is))
end_is_short (Some e) = elim (cases_lt e 4611686018427387904) [
  | inl less ↦ inr (λ f is. subst (λ (n : ℕ). n < 4611686018427387904) (some_is e f is) less)
  | inr long ↦ inl (e, refl, long)
]

is_short : (calls : List Call) (place : ℕ) (call : Call) → slice_get calls place ≡ Some call → HasLongTime calls ⊎ IsShort call
is_short calls place call is = elim (cases_lt call.begin 4611686018427387904) [
  | inr long ↦ inl (record { place = place; call = call; call_is = is; long = inl long })
  | inl less ↦ elim (end_is_short call.end) [
    | inl long ↦ inl (record { place = place; call = call; call_is = is; long = inr long })
    | inr short ↦ inr (less, short)
  ]
]

-- ---- pairs that overlap

does_meet : (skew : ℕ) (calls : List Call) (ties : List Tie) → AreTied skew calls ties → (i : ℕ) (tie : Tie) → slice_get ties i ≡ Some tie
    → ((skew ≢ 0) × HasOverlap calls ties) ⊎ ((tie.earlier ≢ tie.later) × (time : ℕ) × MeetAt calls tie time)
does_meet skew calls ties tied i tie is =
    let t = tied i tie is in
    let touch = t.touch in
    let turn = t.in_turn in
    elim (cases_lt t.other.begin t.end) [
      | inl before ↦ inl (
        (λ none. let same = t.meet none in omega (arith, same, before)),
        record { i = i; tie = tie; tie_is = is; one = t.one; other = t.other; one_is = t.one_is; other_is = t.other_is; end = t.end; ended = t.ended; before = before },
      )
      | inr after ↦ inr (
        (λ same. omega (arith, turn, same)),
        t.end,
        record { one = t.one; other = t.other; one_is = t.one_is; other_is = t.other_is; ends = t.ended; begins = omega (arith, touch, after) },
      )
    ]

-- ---- pairs that meet at one time

module _ (calls : List Call) (ties : List Tie) (meet : DoMeet calls ties) where
  one_time : (tie : Tie) (t u : ℕ) → MeetAt calls tie t → MeetAt calls tie u → t ≡ u
  one_time tie t u m n =
      let same : m.one ≡ n.one = some_is m.one n.one (sym m.one_is ∙ n.one_is) in
      some_is t u (sym m.ends ∙ ap (λ (c : Call). c.end) same ∙ n.ends)

  are_one : (i j : ℕ) (tie other : Tie) → slice_get ties i ≡ Some tie → slice_get ties j ≡ Some other → MeetAtOnce calls ties ⊎ ((time : ℕ) → MeetAt calls tie time → MeetAt calls other time → i ≡ j)
  are_one i j tie other tie_is other_is = elim (nat_cases i j) [
    | inl same ↦ inr (λ time m n. same)
    | inr apart ↦
        let one = meet i tie tie_is in
        let two = meet j other other_is in
        elim (nat_cases one.1 two.1) [
          | inl at_once ↦ inl (record { i = i; j = j; apart = apart; tie = tie; other = other; tie_is = tie_is; other_is = other_is; time = one.1; met = one.2; other_met = subst (MeetAt calls other) (sym at_once) two.2 })
          | inr times ↦ inr (λ time m n. absurd (times (one_time tie one.1 time one.2 m ∙ one_time other time two.1 n two.2)))
        ]
  ]

  are_alone : MeetAtOnce calls ties ⊎ ((i : ℕ) (tie : Tie) → slice_get ties i ≡ Some tie → (j : ℕ) (other : Tie) → slice_get ties j ≡ Some other → (time : ℕ) → MeetAt calls tie time → MeetAt calls other time → i ≡ j)
  are_alone =
      some_or_all (MeetAtOnce calls ties) (λ i tie. (j : ℕ) (other : Tie) → slice_get ties j ≡ Some other → (time : ℕ) → MeetAt calls tie time → MeetAt calls other time → i ≡ j) ties
      (λ i tie tie_is. some_or_all (MeetAtOnce calls ties) (λ j other. (time : ℕ) → MeetAt calls tie time → MeetAt calls other time → i ≡ j) ties (λ j other other_is. are_one i j tie other tie_is other_is))

-- ---- the log

pub is_hard : (skew : ℕ) (rules : Rules) (calls : List Call) → AreTied skew calls rules.ties.items → (AreOrdered rules calls → ⊥) → (IsSmall rules calls → ⊥) → IsHard skew rules calls
is_hard skew rules calls tied unordered large = (λ none. unordered (inl none), large, by (some_or_all (HasLongTime calls) (λ place call. IsShort call) calls (is_short calls)))
  where
    after_meet : AreShort calls → DoMeet calls rules.ties.items → MeetAtOnce calls rules.ties.items ⊎ (((skew ≢ 0) × HasOverlap calls rules.ties.items) ⊎ HasLongTime calls)
    after_meet short meet = elim (are_alone calls rules.ties.items meet) [
      | inl found ↦ inl found
      | inr alone ↦ absurd (unordered (inr (record { short = short; meet = meet; alone = λ i j time tie other tie_is other_is m n. alone i tie tie_is j other other_is time m n })))
    ]

    after_short : AreShort calls → MeetAtOnce calls rules.ties.items ⊎ (((skew ≢ 0) × HasOverlap calls rules.ties.items) ⊎ HasLongTime calls)
    after_short short = elim (some_or_all ((skew ≢ 0) × HasOverlap calls rules.ties.items) (λ i tie. (tie.earlier ≢ tie.later) × (time : ℕ) × MeetAt calls tie time) rules.ties.items (does_meet skew calls rules.ties.items tied)) [
      | inl found ↦ inr (inl found)
      | inr meet ↦ after_meet short meet
    ]

    by : HasLongTime calls ⊎ AreShort calls → MeetAtOnce calls rules.ties.items ⊎ (((skew ≢ 0) × HasOverlap calls rules.ties.items) ⊎ HasLongTime calls)
    by (inl long) = inr (inr long)
    by (inr short) = after_short short

-- ---- a log with one such pair isn't

first_of_one : (tie other : Tie) (k : ℕ) → slice_get (tie ∷ []) k ≡ Some other → k ≡ 0
first_of_one tie other zero is = refl
first_of_one tie other (suc k) is = absurd (cc is)

not_long : (calls : List Call) → AreShort calls → HasLongTime calls → ⊥
not_long calls short long = by long.long
  where
    here : IsShort long.call
    here = short long.place long.call long.call_is

    by : (4611686018427387904 ≤ long.call.begin) ⊎ ((end : ℕ) × (long.call.end ≡ Some end) × (4611686018427387904 ≤ end)) → ⊥
    by (inl begins) = let less = here.0 in omega (arith, less, begins)
    by (inr ends) = let less = here.1 ends.0 ends.1 in let most = ends.2 in omega (arith, less, most)

pub easy : (skew : ℕ) (rules : Rules) (calls : List Call) (tie : Tie) → skew ≡ 0 → AreShort calls → rules.ties.items ≡ tie ∷ [] → IsHard skew rules calls → ⊥
easy skew rules calls tie none short one hard = by hard.2
  where
    at_first : (k : ℕ) (other : Tie) → slice_get rules.ties.items k ≡ Some other → k ≡ 0
    at_first k other is = first_of_one tie other k (subst (λ (ties : List Tie). slice_get ties k ≡ Some other) one is)

    by : MeetAtOnce calls rules.ties.items ⊎ (((skew ≢ 0) × HasOverlap calls rules.ties.items) ⊎ HasLongTime calls) → ⊥
    by (inl m) = m.apart (at_first m.i m.tie m.tie_is ∙ sym (at_first m.j m.other m.other_is))
    by (inr (inl overlap)) = overlap.0 none
    by (inr (inr long)) = not_long calls short long
