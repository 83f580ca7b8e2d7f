-- No receipts are left if the calls or the answers have come to an end.
use Rattle.std.proofs.Common.{◌≡◌, ◌⊎◌, inl, inr, List, [], ◌∷◌, ◌++◌, map, refl, sym, ap, ◌∙◌, append-nil}
use Rattle.cc_model.specs.Items.{accepted_by}
use Rattle.cc_audit.specs.Names.{Entry, Answer, SendReceipt, TakeReceipt}
use Rattle.cc_audit.specs.Receipts.{send_receipt, takes_by}

none_to_accept : (calls : List Entry) (answers : List Answer) → (calls ≡ []) ⊎ (answers ≡ []) → accepted_by calls answers ≡ []
none_to_accept (c ∷ calls) (a ∷ answers) over = elim over [ inl none ↦ cc | inr none ↦ cc ]
none_to_accept _ _ over = refl

none_to_take : (calls : List Entry) (answers : List Answer) → (calls ≡ []) ⊎ (answers ≡ []) → takes_by calls answers ≡ []
none_to_take (c ∷ calls) (a ∷ answers) over = elim over [ inl none ↦ cc | inr none ↦ cc ]
none_to_take _ _ over = refl

pub all_sends : (receipts whole : List SendReceipt) (calls : List Entry) (answers : List Answer) → (calls ≡ []) ⊎ (answers ≡ []) → receipts ++ map send_receipt (accepted_by calls answers) ≡ whole → receipts ≡ whole
all_sends receipts whole calls answers over is = sym (append-nil receipts) ∙ ap (λ (l : List SendReceipt). receipts ++ l) (sym (ap (map send_receipt) (none_to_accept calls answers over))) ∙ is

pub all_takes : (receipts whole : List TakeReceipt) (calls : List Entry) (answers : List Answer) → (calls ≡ []) ⊎ (answers ≡ []) → receipts ++ takes_by calls answers ≡ whole → receipts ≡ whole
all_takes receipts whole calls answers over is = sym (append-nil receipts) ∙ ap (λ (l : List TakeReceipt). receipts ++ l) (sym (none_to_take calls answers over)) ∙ is
