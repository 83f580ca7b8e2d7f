-- Calls that a pass makes again until one has another answer.
use Rattle.std.proofs.Common.{◌≡◌, ◌≢◌, ◌<◌, ◌≤◌, inl, inr, List, [], ◌∷◌, ◌++◌, refl, sym, ap, subst}
use Rattle.std.proofs.lemmas.Bool.{cases_lt}
use Rattle.cc_queue.specs.Names.{Body, Call, Answer, Entry, SendAnswer, TakeAnswer}
use Rattle.cc_steps.specs.Walk.{Walk}
use Rattle.cc_queue.specs.Headline.{StandsInOne, entry_of}
use Rattle.cc_queue.specs.Calls.{Completed, IsSettled, IsFinal, Repeated, Tried, last_of, entries_of, TakenUntil, SentUntil}
use Rattle.cc_queue.proofs.Headline.{stands_more}

-- before the first of them
pub trying_none : (call : Call) (told : Answer) (v : Walk) → StandsInOne v [] v → Tried call told v v
trying_none call told v s = record { tried = []; each = tt; here = refl; stands = s }

each_more : (call : Call) (told : Answer) (v : Walk) (ws : List Walk) (x : Walk) → Repeated call told v ws → Completed (last_of v ws) call told x → Repeated call told v (ws ++ x ∷ [])
each_more call told v [] x each one = (one, tt)
each_more call told v (w ∷ ws) x each one = (each.0, each_more call told w ws x each.1 one)

last_more : (v : Walk) (ws : List Walk) (x : Walk) → last_of v (ws ++ x ∷ []) ≡ x
last_more v [] x = refl
last_more v (w ∷ ws) x = last_more w ws x

entries_more : (call : Call) (v : Walk) (ws : List Walk) (x : Walk) → entries_of call v (ws ++ x ∷ []) ≡ entries_of call v ws ++ entry_of (last_of v ws) call ∷ []
entries_more call v [] x = refl
entries_more call v (w ∷ ws) x = ap (λ (l : List Entry). entry_of v call ∷ l) (entries_more call w ws x)

-- one more call
one_more : (call : Call) (told other : Answer) (v w x : Walk) → (t : Tried call told v w) → Completed w call other x → Completed (last_of v t.tried) call other x × StandsInOne v (entries_of call v t.tried ++ entry_of (last_of v t.tried) call ∷ []) x
one_more call told other v w x t c =
    let here : Completed (last_of v t.tried) call other x = subst (λ (u : Walk). Completed u call other x) (sym t.here) c in
    (here, subst (λ (u : Walk). StandsInOne v (entries_of call v t.tried ++ entry_of u call ∷ []) x) (sym t.here) (stands_more v w x (entries_of call v t.tried) (entry_of w call ∷ []) t.stands c.stands))

-- that was answered as the others were
pub trying_more : (call : Call) (told : Answer) (v w x : Walk) → Tried call told v w → Completed w call told x → Tried call told v x
trying_more call told v w x t c =
    let one = one_more call told told v w x t c in
    record {
      tried = t.tried ++ x ∷ [];
      each = each_more call told v t.tried x t.each one.0;
      here = last_more v t.tried x;
      stands = subst (λ (l : List Entry). StandsInOne v l x) (sym (entries_more call v t.tried x)) one.1;
    }

-- the last take
pub taken_so : (v w x : Walk) (told : TakeAnswer) → Tried Call.Take (Answer.Take TakeAnswer.Empty) v w → Completed w Call.Take (Answer.Take told) x → IsSettled told → TakenUntil v told x
taken_so v w x told t c settled =
    let one = one_more Call.Take (Answer.Take TakeAnswer.Empty) (Answer.Take told) v w x t c in
    record { tried = t.tried; none = t.each; taken = one.0; stands = one.1; settled = settled }

-- the last send
pub sent_so : (v w x : Walk) (body : Body) (told : SendAnswer) → Tried (Call.Send body) (Answer.Send SendAnswer.Full) v w → Completed w (Call.Send body) (Answer.Send told) x → IsFinal told → SentUntil v body told x
sent_so v w x body told t c final =
    let one = one_more (Call.Send body) (Answer.Send SendAnswer.Full) (Answer.Send told) v w x t c in
    record { tried = t.tried; full = t.each; sent = one.0; stands = one.1; final = final }

-- an answer that isn't Full
pub final_unless : (told : SendAnswer) → told ≢ SendAnswer.Full → IsFinal told
final_unless (SendAnswer.Accepted place) ne = tt
final_unless SendAnswer.Full ne = absurd (ne refl)
final_unless SendAnswer.Closed ne = tt
final_unless SendAnswer.Spent ne = tt

-- a pass that may send now might have sent before it tried, if one that was exhausted then has not
-- moved
pub might_before : (v w : Walk) → (v.setting.config.per_sender ≤ v.stand.begun → w ≡ v) → w.stand.begun < w.setting.config.per_sender → v.stand.begun < v.setting.config.per_sender
might_before v w same may = elim (cases_lt v.stand.begun v.setting.config.per_sender) [
  | inl less ↦ less
  | inr worn ↦ subst (λ (x : Walk). x.stand.begun < x.setting.config.per_sender) (same worn) may
]
