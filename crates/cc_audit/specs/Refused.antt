-- Refused claims: for each kind of mistake a small case, and a claim about it that the clause doesn't admit.
use Rattle.std.specs.Prelude.{[], ◌∷◌, Some, None}
use Rattle.cc_model.specs.Body.{body_of}
use Rattle.cc_audit.specs.Names.{Item, SendReceipt, TakeReceipt, Verdict}
use Rattle.cc_audit.specs.Receipts.{send_receipt}
use Rattle.cc_audit.specs.Verdict.{IsVerdict}

-- a claim that doesn't hold
abbrev pub Refused : Type 0 → Type 0
Refused claim = claim → ⊥

-- the first item of sender 1, with a body of two words
abbrev pub sent : Item
sent = record { place = 0; sender = 1; number = 1; body = body_of (7 ∷ 8 ∷ []) }

-- the same item, but for its second word
abbrev pub other_word : Item
other_word = record sent { body = body_of (7 ∷ 9 ∷ []) }

abbrev pub taken : Item → TakeReceipt
taken item = record { receiver = 1; item = item }

pub record RefusedClaims : Type 0 where
  -- an item was taken with another second word than was sent, and the receipts are clean
  pub bodies_are_skipped : Refused (IsVerdict (send_receipt sent ∷ []) (taken other_word ∷ []) None Verdict.Clean)
  -- an item was taken twice, and the receipts are clean
  pub second_take_is_unseen : Refused (IsVerdict (send_receipt sent ∷ []) (taken sent ∷ taken sent ∷ []) None Verdict.Clean)
  -- an item was accepted beyond the total of a close, and the receipts are clean
  pub total_is_unseen : Refused (IsVerdict (send_receipt sent ∷ []) [] (Some 0) Verdict.Clean)
