-- A sequential queue has exactly one answer to each call.
use Rattle.std.proofs.Common.{◌≡◌, ◌≢◌, ℕ, zero, suc, ◌+◌, ◌<◌, ◌≤◌, Bool, true, false, List, [], ◌∷◌, length, Some, inl, inr, refl, sym, ap, ◌∙◌, arith}
use Rattle.std.proofs.lemmas.Bool.{cases_eq, cases_lt}
use Rattle.std.proofs.lemmas.Option.{slice_get_within}
use Rattle.std.specs.List.{slice_get}
use Rattle.cc_model.specs.Names.{Config, Call, Item, Body, Answer, SendAnswer, CloseAnswer, TakeAnswer}
use Rattle.cc_model.specs.Sequential.{Exactly, NoTwoAnswers, EachCallHasAnAnswer}

item_at : (items : List Item) (n : ℕ) → n < length items → (x : Item) × (slice_get items n ≡ Some x)
item_at [] n less = absurd (omega (arith, less))
item_at (x ∷ items) zero less = (x, refl)
item_at (x ∷ items) (suc n) less = item_at items n (omega (arith, less))

module _ (cfg : Config) (items : List Item) (shut : Bool) (handed to_all : ℕ) where
  abbrev Sends : Body → Answer → Type 0
  Sends body b = Exactly cfg items shut handed to_all (Call.Send body) b

  abbrev Closes : Answer → Type 0
  Closes b = Exactly cfg items shut handed to_all Call.Close b

  abbrev Takes : Answer → Type 0
  Takes b = Exactly cfg items shut handed to_all Call.Take b

  closed_one : (body : Body) (b : Answer) → shut ≡ true → Sends body b → Answer.Send SendAnswer.Closed ≡ b
  closed_one body (Answer.Send SendAnswer.Closed) h k = refl
  closed_one body (Answer.Send SendAnswer.Spent) h k = let no : shut ≡ false = k.0 in absurd (cc)
  closed_one body (Answer.Send SendAnswer.Full) h k = let no : shut ≡ false = k.0 in absurd (cc)
  closed_one body (Answer.Send (SendAnswer.Accepted place)) h k = let no : shut ≡ false = k.0 in absurd (cc)
  closed_one body _ h k = absurd k

  spent_one : (body : Body) (b : Answer) → shut ≡ false → length items ≡ cfg.life → Sends body b → Answer.Send SendAnswer.Spent ≡ b
  spent_one body (Answer.Send SendAnswer.Closed) h i k = let no : shut ≡ true = k in absurd (cc)
  spent_one body (Answer.Send SendAnswer.Spent) h i k = refl
  spent_one body (Answer.Send SendAnswer.Full) h i k = absurd (k.1 i)
  spent_one body (Answer.Send (SendAnswer.Accepted place)) h i k = absurd (k.1 i)
  spent_one body _ h i k = absurd k

  full_one : (body : Body) (b : Answer) → shut ≡ false → length items ≢ cfg.life → length items ≡ to_all + cfg.capacity → Sends body b → Answer.Send SendAnswer.Full ≡ b
  full_one body (Answer.Send SendAnswer.Closed) h i j k = let no : shut ≡ true = k in absurd (cc)
  full_one body (Answer.Send SendAnswer.Spent) h i j k = absurd (i k.1)
  full_one body (Answer.Send SendAnswer.Full) h i j k = refl
  full_one body (Answer.Send (SendAnswer.Accepted place)) h i j k = absurd (omega (arith, k.2, j))
  full_one body _ h i j k = absurd k

  accepted_one : (body : Body) (at : ℕ) (b : Answer) → Sends body (Answer.Send (SendAnswer.Accepted at)) → Sends body b → Answer.Send (SendAnswer.Accepted at) ≡ b
  accepted_one body at (Answer.Send SendAnswer.Closed) h k = let no : shut ≡ true = k in let off : shut ≡ false = h.0 in absurd (cc)
  accepted_one body at (Answer.Send SendAnswer.Spent) h k = absurd (h.1 k.1)
  accepted_one body at (Answer.Send SendAnswer.Full) h k = absurd (omega (arith, h.2, k.2))
  accepted_one body at (Answer.Send (SendAnswer.Accepted place)) h k = ap (λ (n : ℕ). Answer.Send (SendAnswer.Accepted n)) (h.3 ∙ sym k.3)
  accepted_one body at _ h k = absurd k

  shut_one : (total : ℕ) (b : Answer) → Closes (Answer.Close (CloseAnswer.Shut total)) → Closes b → Answer.Close (CloseAnswer.Shut total) ≡ b
  shut_one total (Answer.Close (CloseAnswer.Shut n)) h k = ap (λ (z : ℕ). Answer.Close (CloseAnswer.Shut z)) (h.1 ∙ sym k.1)
  shut_one total (Answer.Close (CloseAnswer.Already n)) h k = let off : shut ≡ false = h.0 in let no : shut ≡ true = k.0 in absurd (cc)
  shut_one total _ h k = absurd k

  already_one : (total : ℕ) (b : Answer) → Closes (Answer.Close (CloseAnswer.Already total)) → Closes b → Answer.Close (CloseAnswer.Already total) ≡ b
  already_one total (Answer.Close (CloseAnswer.Shut n)) h k = let off : shut ≡ false = k.0 in let no : shut ≡ true = h.0 in absurd (cc)
  already_one total (Answer.Close (CloseAnswer.Already n)) h k = ap (λ (z : ℕ). Answer.Close (CloseAnswer.Already z)) (h.1 ∙ sym k.1)
  already_one total _ h k = absurd k

  got_one : (item : Item) (b : Answer) → Takes (Answer.Take (TakeAnswer.Got item)) → Takes b → Answer.Take (TakeAnswer.Got item) ≡ b
  got_one item (Answer.Take (TakeAnswer.Got x)) h k = let one : slice_get items handed ≡ Some item = h in let other : slice_get items handed ≡ Some x = k in let same : item ≡ x = cc in ap (λ (z : Item). Answer.Take (TakeAnswer.Got z)) same
  got_one item (Answer.Take TakeAnswer.Empty) h k = absurd (omega (arith, slice_get_within items handed item h, k.1))
  got_one item (Answer.Take (TakeAnswer.Ended total)) h k = absurd (omega (arith, slice_get_within items handed item h, k.1))
  got_one item _ h k = absurd k

  empty_one : (b : Answer) → Takes (Answer.Take TakeAnswer.Empty) → Takes b → Answer.Take TakeAnswer.Empty ≡ b
  empty_one (Answer.Take (TakeAnswer.Got x)) h k = absurd (omega (arith, slice_get_within items handed x k, h.1))
  empty_one (Answer.Take TakeAnswer.Empty) h k = refl
  empty_one (Answer.Take (TakeAnswer.Ended total)) h k = let off : shut ≡ false = h.0 in let no : shut ≡ true = k.0 in absurd (cc)
  empty_one _ h k = absurd k

  ended_one : (total : ℕ) (b : Answer) → Takes (Answer.Take (TakeAnswer.Ended total)) → Takes b → Answer.Take (TakeAnswer.Ended total) ≡ b
  ended_one total (Answer.Take (TakeAnswer.Got x)) h k = absurd (omega (arith, slice_get_within items handed x k, h.1))
  ended_one total (Answer.Take TakeAnswer.Empty) h k = let off : shut ≡ false = k.0 in let no : shut ≡ true = h.0 in absurd (cc)
  ended_one total (Answer.Take (TakeAnswer.Ended n)) h k = ap (λ (z : ℕ). Answer.Take (TakeAnswer.Ended z)) (h.2 ∙ sym k.2)
  ended_one total _ h k = absurd k

  -- two answers to a call are the same
  one_answer : (k : Call) (a b : Answer) → Exactly cfg items shut handed to_all k a → Exactly cfg items shut handed to_all k b → a ≡ b
  one_answer (Call.Send body) (Answer.Send SendAnswer.Closed) b h k = closed_one body b h k
  one_answer (Call.Send body) (Answer.Send SendAnswer.Spent) b h k = spent_one body b h.0 h.1 k
  one_answer (Call.Send body) (Answer.Send SendAnswer.Full) b h k = full_one body b h.0 h.1 h.2 k
  one_answer (Call.Send body) (Answer.Send (SendAnswer.Accepted at)) b h k = accepted_one body at b h k
  one_answer Call.Close (Answer.Close (CloseAnswer.Shut total)) b h k = shut_one total b h k
  one_answer Call.Close (Answer.Close (CloseAnswer.Already total)) b h k = already_one total b h k
  one_answer Call.Take (Answer.Take (TakeAnswer.Got item)) b h k = got_one item b h k
  one_answer Call.Take (Answer.Take TakeAnswer.Empty) b h k = empty_one b h k
  one_answer Call.Take (Answer.Take (TakeAnswer.Ended total)) b h k = ended_one total b h k
  one_answer _ _ b h k = absurd h

  -- a send has an answer, if no more items wait than the queue holds; so have a close and a take
  send_has : (body : Body) → length items ≤ to_all + cfg.capacity → (a : Answer) × Sends body a
  send_has body within = by_shut shut refl
    where
      by_shut : (b : Bool) → shut ≡ b → (a : Answer) × Sends body a
      by_shut true is = (Answer.Send SendAnswer.Closed, is)
      by_shut false is = elim (cases_eq (length items) cfg.life) [
        | inl all ↦ (Answer.Send SendAnswer.Spent, (is, all))
        | inr ne ↦ elim (cases_lt (length items) (to_all + cfg.capacity)) [
          | inl l ↦ (Answer.Send (SendAnswer.Accepted (length items)), (is, ne, l, refl))
          | inr l ↦ (Answer.Send SendAnswer.Full, (is, ne, omega (arith, l, within)))
        ]
      ]

  close_has : (a : Answer) × Closes a
  close_has = by_shut shut refl
    where
      by_shut : (b : Bool) → shut ≡ b → (a : Answer) × Closes a
      by_shut true is = (Answer.Close (CloseAnswer.Already (length items)), (is, refl))
      by_shut false is = (Answer.Close (CloseAnswer.Shut (length items)), (is, refl))

  take_has : handed ≤ length items → (a : Answer) × Takes a
  take_has within = elim (cases_lt handed (length items)) [
    | inl l ↦ let next : (x : Item) × (slice_get items handed ≡ Some x) = item_at items handed l in (Answer.Take (TakeAnswer.Got next.0), next.1)
    | inr l ↦ by_shut shut refl (omega (arith, l, within))
  ]
    where
      by_shut : (b : Bool) → shut ≡ b → handed ≡ length items → (a : Answer) × Takes a
      by_shut true is all = (Answer.Take (TakeAnswer.Ended (length items)), (is, all, refl))
      by_shut false is all = (Answer.Take TakeAnswer.Empty, (is, all))

  call_has : (k : Call) → handed ≤ length items → length items ≤ to_all + cfg.capacity → (a : Answer) × Exactly cfg items shut handed to_all k a
  call_has (Call.Send body) handed_few within = send_has body within
  call_has Call.Close handed_few within = close_has
  call_has Call.Take handed_few within = take_has handed_few

pub no_two_answers : NoTwoAnswers
no_two_answers cfg items shut handed to_all k a b h l = one_answer cfg items shut handed to_all k a b h l

pub each_call_has_an_answer : EachCallHasAnAnswer
each_call_has_an_answer cfg items shut handed to_all k handed_few within = call_has cfg items shut handed to_all k handed_few within
