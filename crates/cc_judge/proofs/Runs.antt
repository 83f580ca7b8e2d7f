-- The facts that the run of one queue gives of the order of its calls: an item is taken after it was sent, at most as
-- often as it was sent, after each that was sent before it; and none is found only after the takes of all that were
-- sent.
use Rattle.std.proofs.Common.{◌≡◌, ◌≢◌, ℕ, ◌⊎◌, inl, inr, List, [], ◌∷◌, ◌++◌, Option, None, refl, sym, ap, ◌∙◌, subst, arith}
use Rattle.cc_judge.specs.Names.{Act, Step}
use Rattle.cc_judge.specs.Order.{Does, IsRun}
use Rattle.cc_judge.specs.Faults.{FindsNone}
use Rattle.cc_judge.proofs.Places.{In, Before, before_first, in_snoc, in_last, in_more}

-- a step of this act before t
pub record Earlier (steps : List Step) (t : Step) (act : Act) : Type 0 where
  pub step : Step
  pub before : Before step t steps
  pub act_is : step.act ≡ act

pub later : (x t : Step) (steps : List Step) (act : Act) → Earlier steps t act → Earlier (x ∷ steps) t act
later x t steps act e = record { step = e.step; before = inr e.before; act_is = e.act_is }

pub first : (x t : Step) (steps : List Step) (act : Act) → x.act ≡ act → In t steps → Earlier (x ∷ steps) t act
first x t steps act is within = record { step = x; before = inl (refl, within); act_is = is }

-- what the queue holds after a step was held before it, or was sent by it
pub from_where : (held next : List ℕ) (act : Act) (item : ℕ) → Does None held act next → In item next → In item held ⊎ (act ≡ Act.Send item)
from_where held next act item does within = grind (arith, in_snoc)

-- what the queue holds is held after a step too, unless the step took it
pub to_where : (held next : List ℕ) (act : Act) (item : ℕ) → Does None held act next → In item held → In item next ⊎ (act ≡ Act.Took item)
to_where held next act item does within = grind (arith, in_more)

pub takes_front : (held next : List ℕ) (act : Act) (item : ℕ) → Does None held act next → act ≡ Act.Took item → In item held
takes_front held next act item does is = let d : Does None held (Act.Took item) next = subst (λ (a : Act). Does None held a next) is does in subst (In item) (sym d) (inl refl)

-- ---- an item that is taken was held at first, or was sent before

pub sent_before : (held : List ℕ) (steps : List Step) (t : Step) (item : ℕ) → IsRun None held steps → In t steps → t.act ≡ Act.Took item → In item held ⊎ Earlier steps t (Act.Send item)
sent_before held [] t item run within is = absurd within
sent_before held (x ∷ steps) t item run (inl here) is = inl (takes_front held run.0 x.act item run.1 (ap (λ (s : Step). s.act) here ∙ is))
sent_before held (x ∷ steps) t item run (inr rest) is =
    grind (arith, first, from_where, later, sent_before run.0 steps t item run.2 rest is)

-- ---- after the send of an item none is found only if the item was taken between

none_held : (held next : List ℕ) (act : Act) → Does None held act next → FindsNone act → held ≡ []
none_held held next act does (inl none) = (subst (λ (a : Act). Does None held a next) none does).0
none_held held next act does (inr none) = (subst (λ (a : Act). Does None held a next) none does).0

held_taken : (held : List ℕ) (steps : List Step) (t : Step) (item : ℕ) → IsRun None held steps → In item held → In t steps → FindsNone t.act → Earlier steps t (Act.Took item)
held_taken held [] t item run has within is = absurd within
held_taken held (x ∷ steps) t item run has (inl here) is = grind (arith, none_held)
held_taken held (x ∷ steps) t item run has (inr rest) is = elim (to_where held run.0 x.act item run.1 has) [
  | inl still ↦ later x t steps (Act.Took item) (held_taken run.0 steps t item run.2 still rest is)
  | inr took ↦ first x t steps (Act.Took item) took rest
]

pub sends_last : (held next : List ℕ) (act : Act) (item : ℕ) → Does None held act next → act ≡ Act.Send item → next ≡ held ++ item ∷ []
sends_last held next act item does is = (subst (λ (a : Act). Does None held a next) is does).0

pub taken_before_none : (held : List ℕ) (steps : List Step) (s t : Step) (item : ℕ) → IsRun None held steps → Before s t steps → s.act ≡ Act.Send item → FindsNone t.act → Earlier steps t (Act.Took item)
taken_before_none held [] s t item run order sent none = absurd order
taken_before_none held (x ∷ steps) s t item run (inl here) sent none =
    grind (arith, held_taken, in_last, later, sends_last)
taken_before_none held (x ∷ steps) s t item run (inr rest) sent none = later x t steps (Act.Took item) (taken_before_none run.0 steps s t item run.2 rest sent none)

-- ---- of two items the one that was sent first is taken first

-- a is held, and no b is before it
abbrev Ahead : ℕ → ℕ → List ℕ → Type 0
Ahead a b [] = ⊥
Ahead a b (x ∷ xs) = (x ≡ a) ⊎ ((x ≢ b) × Ahead a b xs)

ahead_more : (a b y : ℕ) (xs : List ℕ) → Ahead a b xs → Ahead a b (xs ++ y ∷ [])
ahead_more a b y [] h = absurd h
ahead_more a b y (x ∷ xs) (inl here) = inl here
ahead_more a b y (x ∷ xs) (inr rest) = inr (rest.0, ahead_more a b y xs rest.1)

ahead_last : (a b : ℕ) (xs : List ℕ) → (In b xs → ⊥) → Ahead a b (xs ++ a ∷ [])
ahead_last a b [] none = inl refl
ahead_last a b (x ∷ xs) none = inr (λ same. none (inl same), ahead_last a b xs (λ within. none (inr within)))

-- after a step it is still so, unless the step took a; and b was not taken
ahead_on : (held next : List ℕ) (act : Act) (a b : ℕ) → Does None held act next → Ahead a b held → a ≢ b → (Ahead a b next ⊎ (act ≡ Act.Took a)) × (act ≢ Act.Took b)
ahead_on held next act a b does ahead apart = grind (arith, ahead_more)

ahead_taken : (held : List ℕ) (steps : List Step) (t : Step) (a b : ℕ) → IsRun None held steps → Ahead a b held → a ≢ b → In t steps → t.act ≡ Act.Took b → Earlier steps t (Act.Took a)
ahead_taken held [] t a b run ahead apart within is = absurd within
ahead_taken held (x ∷ steps) t a b run ahead apart (inl here) is = absurd ((ahead_on held run.0 x.act a b run.1 ahead apart).1 (ap (λ (s : Step). s.act) here ∙ is))
ahead_taken held (x ∷ steps) t a b run ahead apart (inr rest) is = elim (ahead_on held run.0 x.act a b run.1 ahead apart).0 [
  | inl still ↦ later x t steps (Act.Took a) (ahead_taken run.0 steps t a b run.2 still apart rest is)
  | inr took ↦ first x t steps (Act.Took a) took rest
]

pub first_taken_first : (held : List ℕ) (steps : List Step) (s t : Step) (a b : ℕ) → IsRun None held steps → (In b held → ⊥) → In s steps → In t steps → s.act ≡ Act.Send a → ((u : Step) → Before u s steps → u.act ≢ Act.Send b) → a ≢ b → t.act ≡ Act.Took b → Earlier steps t (Act.Took a)
first_taken_first held [] s t a b run none sending taking sent not_before apart took = absurd sending
first_taken_first held (x ∷ steps) s t a b run none (inl here) (inl there) sent not_before apart took = grind arith
first_taken_first held (x ∷ steps) s t a b run none (inl here) (inr taking) sent not_before apart took =
    grind (arith, ahead_last, ahead_taken, later, sends_last)
first_taken_first held (x ∷ steps) s t a b run none (inr sending) (inl there) sent not_before apart took =
    absurd (none (takes_front held run.0 x.act b run.1 (ap (λ (y : Step). y.act) there ∙ took)))
first_taken_first held (x ∷ steps) s t a b run none (inr sending) (inr taking) sent not_before apart took =
    let still : In b run.0 → ⊥ = λ (within : In b run.0). elim (from_where held run.0 x.act b run.1 within) [ inl old ↦ none old | inr new ↦ not_before x (inl (refl, sending)) new ] in
    later x t steps (Act.Took a) (first_taken_first run.0 steps s t a b run.2 still sending taking sent (λ u order. not_before u (inr order)) apart took)

-- ---- an item that is sent once is taken once

-- an item that isn't held, and isn't sent, isn't taken
not_taken : (held : List ℕ) (steps : List Step) (t : Step) (item : ℕ) → IsRun None held steps → (In item held → ⊥) → ((u : Step) → In u steps → u.act ≢ Act.Send item) → In t steps → t.act ≢ Act.Took item
not_taken held steps t item run none unsent within is = elim (sent_before held steps t item run within is) [
  | inl old ↦ none old
  | inr e ↦ unsent e.step (before_first e.step t steps e.before) e.act_is
]

-- the item is in the list at most once
abbrev pub AtMostOnce : ℕ → List ℕ → Type 0
AtMostOnce a [] = Unit {0}
AtMostOnce a (x ∷ xs) = (x ≡ a → In a xs → ⊥) × AtMostOnce a xs

once_more : (a y : ℕ) (xs : List ℕ) → AtMostOnce a xs → (y ≡ a → In a xs → ⊥) → AtMostOnce a (xs ++ y ∷ [])
once_more a y [] once apart = ((λ same within. within), tt)
once_more a y (x ∷ xs) once apart =
    grind (arith, in_snoc, once_more a y xs once.1 (λ new within. apart new (inr within)))

-- of an item that is held no send is left, and at most one send is
pub record Single (item : ℕ) (held : List ℕ) (steps : List Step) : Type 0 where
  pub once : AtMostOnce item held
  pub no_more : In item held → (u : Step) → In u steps → u.act ≢ Act.Send item
  pub one : (s t : Step) → Before s t steps → s.act ≡ Act.Send item → t.act ≢ Act.Send item

kept_once : (held next : List ℕ) (act : Act) (item : ℕ) → Does None held act next → AtMostOnce item held → (act ≡ Act.Send item → In item held → ⊥) → AtMostOnce item next
kept_once held next act item does once apart = grind (arith, once_more)

pub single_next : (item : ℕ) (held next : List ℕ) (x : Step) (steps : List Step) → Does None held x.act next → Single item held (x ∷ steps) → Single item next steps
single_next item held next x steps does single = record {
  once = kept_once held next x.act item does single.once (λ sent within. single.no_more within x (inl refl) sent);
  no_more = λ within u later. elim (from_where held next x.act item does within) [
    | inl old ↦ single.no_more old u (inr later)
    | inr sent ↦ single.one x u (inl (refl, later)) sent
  ];
  one = λ s t order. single.one s t (inr order);
}

pub gone : (held next : List ℕ) (act : Act) (item : ℕ) → Does None held act next → AtMostOnce item held → act ≡ Act.Took item → In item next → ⊥
gone held next act item does once is within = grind arith

taken_once_from : (held : List ℕ) (steps : List Step) (s t : Step) (item : ℕ) → IsRun None held steps → Single item held steps → Before s t steps → s.act ≡ Act.Took item → t.act ≢ Act.Took item
taken_once_from held [] s t item run single order took again = absurd order
taken_once_from held (x ∷ steps) s t item run single (inl here) took again =
    grind (arith, gone, later, not_taken, takes_front)
taken_once_from held (x ∷ steps) s t item run single (inr rest) took again = taken_once_from run.0 steps s t item run.2 (single_next item held run.0 x steps run.1 single) rest took again

pub taken_once : (steps : List Step) (s t : Step) (item : ℕ) → IsRun None [] steps → ((u v : Step) → Before u v steps → u.act ≡ Act.Send item → v.act ≢ Act.Send item) → Before s t steps → s.act ≡ Act.Took item → t.act ≢ Act.Took item
taken_once steps s t item run one order = taken_once_from [] steps s t item run (record { once = tt; no_more = λ within. absurd within; one = one }) order

-- ---- a queue of a capacity answers as one of whatever capacity

pub loosened : (capacity : Option ℕ) (held next : List ℕ) (act : Act) → Does capacity held act next → Does None held act next
loosened capacity held next act does = grind arith

pub of_whatever_capacity : (capacity : Option ℕ) (held : List ℕ) (steps : List Step) → IsRun capacity held steps → IsRun None held steps
of_whatever_capacity capacity held [] run = tt
of_whatever_capacity capacity held (x ∷ steps) run = (run.0, loosened capacity held run.0 x.act run.1, of_whatever_capacity capacity run.0 steps run.2)
