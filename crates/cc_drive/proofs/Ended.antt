-- The passes of a run that has ended: they meet, and hold what they held.
use Rattle.std.proofs.Common.{◌≡◌, ℕ, zero, suc, ◌+◌, ◌*◌, ◌<◌, List, [], ◌∷◌, ◌++◌, map, length, get_or, Some, refl, sym, ap, ◌∙◌, subst, arith, append-nil, append_assoc, length-append}
use Rattle.std.specs.List.{All, AllByRecursion}
use Rattle.cc_drive.specs.Names.{Call, CloseAnswer, Answer}
use Rattle.cc_runs.specs.ChainLaws.{IsLastAnswer}
use Rattle.cc_steps.specs.Topic.{Topic}
use Rattle.cc_steps.specs.Walk.{Walk, IsOf, fresh}
use Rattle.cc_queue.specs.Headline.{entry_of, name, history}
use Rattle.cc_queue.specs.Met.{HasMet}
use Rattle.cc_model.specs.Items.{HasAnswer}
use Rattle.cc_queue.specs.Receipts.{AreInRow, receipts_in, receipts_by, sent}
use Rattle.cc_queue.proofs.OnItsSide.{Told}
use Rattle.cc_drive.specs.Back.{IsBack, SenderIsBack, ReceiverIsBack, BodiesFrom, SendsFrom, calls}
use Rattle.cc_drive.specs.Ran.{ClosedAfter}
use Rattle.cc_drive.specs.Row.{InRow, Pairs}
use Rattle.cc_drive.proofs.Told.{nil_of, stands_self, calls_stay}
use Rattle.cc_drive.proofs.Workers.{call_more, back_more}

-- ---- one pass

calls_met : (z : Topic) (n : ℕ) (v w : Walk) → IsBack z n v → HasMet v w → calls w ≡ calls v
calls_met z n v w b m = calls_stay v w b.stands b.answered m.stands

pub back_met : (z : Topic) (n : ℕ) (v w : Walk) → IsBack z n v → HasMet v w → IsBack z n w
back_met z n v w b m = record {
  here = (m.stands.same.0 ∙ b.here.0, m.stands.same.1 ∙ b.here.1);
  at = m.stands.same.2 ∙ b.at;
  stands = stands_self v w [] m.stands;
  answered = subst (AllByRecursion HasAnswer) (sym (calls_met z n v w b m)) b.answered;
}

pub sender_met : (z : Topic) (items n : ℕ) (v w : Walk) → SenderIsBack z items n v → HasMet v w → SenderIsBack z items n w
sender_met z items n v w s m = record {
  back = back_met z n v w s.back m;
  sends = subst (SendsFrom 1) (sym (calls_met z n v w s.back m)) s.sends;
  bodies = subst (λ (zs : List Told). BodiesFrom 1 (map (λ r. r.body) (receipts_in sent zs))) (sym (calls_met z n v w s.back m)) s.bodies;
  all = ap (λ (zs : List Told). length (receipts_in sent zs)) (calls_met z n v w s.back m) ∙ s.all;
}

pub receiver_met : (z : Topic) (n : ℕ) (v w : Walk) → ReceiverIsBack z n v → HasMet v w → ReceiverIsBack z n w
receiver_met z n v w r m = record {
  back = back_met z n v w r.back m;
  total = r.total;
  ended = record { before = r.ended.before; entry = r.ended.entry; last = calls_met z n v w r.back m ∙ r.ended.last };
}

-- ---- a row of them

pub row_weaker : {A : Type 0} (Is Are : ℕ → A → Type 0) → ((k : ℕ) (x : A) → Is k x → Are k x) → (n : ℕ) (xs : List A) → InRow Is n xs → InRow Are n xs
row_weaker Is Are f n [] row = tt
row_weaker Is Are f n (x ∷ xs) row = (f n x row.0, row_weaker Is Are f (n + 1) xs row.1)

pub row_all : {A : Type 0} (Is : ℕ → A → Type 0) (P : A → Type 0) → ((k : ℕ) (x : A) → Is k x → P x) → (n : ℕ) (xs : List A) → InRow Is n xs → All P xs
row_all Is P f n [] row k d less = absurd (omega (arith, less))
row_all Is P f n (x ∷ xs) row zero d less = f n x row.0
row_all Is P f n (x ∷ xs) row (suc k) d less = row_all Is P f (n + 1) xs row.1 k d (omega (arith, less))

pub row_met : (Is : ℕ → Walk → Type 0) → ((k : ℕ) (v w : Walk) → Is k v → HasMet v w → Is k w) → (n : ℕ) (vs ws : List Walk) → InRow Is n vs → Pairs HasMet vs ws → InRow Is n ws
row_met Is still n [] [] row met = tt
row_met Is still n [] (w ∷ ws) row met = absurd met
row_met Is still n (v ∷ vs) [] row met = absurd met
row_met Is still n (v ∷ vs) (w ∷ ws) row met = (still n v w row.0 met.0, row_met Is still (n + 1) vs ws row.1 met.1)

pub receipts_met : {X : Type 0} (receipts : Told → List X) (z : Topic) (n : ℕ) (vs ws : List Walk) → InRow (IsBack z) n vs → Pairs HasMet vs ws → receipts_by receipts ws ≡ receipts_by receipts vs
receipts_met receipts z n [] [] row met = refl
receipts_met receipts z n [] (w ∷ ws) row met = absurd met
receipts_met receipts z n (v ∷ vs) [] row met = absurd met
receipts_met receipts z n (v ∷ vs) (w ∷ ws) row met = λ i. receipts_in receipts (calls_met z n v w row.0 met.0 i) ++ receipts_met receipts z (n + 1) vs ws row.1 met.1 i

pub pairs_length : (vs ws : List Walk) → Pairs HasMet vs ws → length ws ≡ length vs
pairs_length [] [] met = refl
pairs_length [] (w ∷ ws) met = absurd met
pairs_length (v ∷ vs) [] met = absurd met
pairs_length (v ∷ vs) (w ∷ ws) met = ap suc (pairs_length vs ws met.1)

numbered : (z : Topic) (n : ℕ) (ws : List Walk) → InRow (IsBack z) n ws → (k : ℕ) (d : Walk) → k < length ws → (get_or ws k d).number ≡ n + k
numbered z n [] row k d less = absurd (omega (arith, less))
numbered z n (w ∷ ws) row zero d less = row.0.at ∙ omega arith
numbered z n (w ∷ ws) row (suc k) d less = numbered z (n + 1) ws row.1 k d (omega (arith, less)) ∙ omega arith

pub are_in_row : (z : Topic) (n count : ℕ) (ws : List Walk) → length ws ≡ count → InRow (IsBack z) n ws → AreInRow z n count ws
are_in_row z n count ws is row = record {
  count_is = is;
  are = row_all (IsBack z) (IsOf z) (λ k w b. b.here) n ws row;
  numbered = numbered z n ws row;
}

receipts_end : {X : Type 0} (receipts : Told → List X) (ws : List Walk) (w : Walk) → receipts_by receipts (ws ++ w ∷ []) ≡ receipts_by receipts ws ++ receipts_in receipts (calls w)
receipts_end receipts [] w = append-nil (receipts_in receipts (calls w))
receipts_end receipts (x ∷ ws) w = ap (λ l. receipts_in receipts (calls x) ++ l) (receipts_end receipts ws w) ∙ sym (append_assoc (receipts_in receipts (calls x)) (receipts_by receipts ws) (receipts_in receipts (calls w)))

-- a last one that holds none adds none
pub no_more_receipts : {X : Type 0} (receipts : Told → List X) (ws all : List Walk) (w : Walk) → all ≡ ws ++ w ∷ [] → receipts_in receipts (calls w) ≡ [] → receipts_by receipts all ≡ receipts_by receipts ws
no_more_receipts receipts ws all w is none = ap (receipts_by receipts) is ∙ receipts_end receipts ws w ∙ ap (λ l. receipts_by receipts ws ++ l) none ∙ append-nil (receipts_by receipts ws)

-- this many items were sent in all
pub all_items : (z : Topic) (items n : ℕ) (ws : List Walk) → InRow (SenderIsBack z items) n ws → length (receipts_by sent ws) ≡ length ws * items
all_items z items n [] row = (let e : 0 ≡ 0 * items = omega arith in e)
all_items z items n (w ∷ ws) row =
    length-append (receipts_in sent (calls w)) (receipts_by sent ws) ∙ (λ i. row.0.all i + all_items z items (n + 1) ws row.1 i) ∙ (let e : items + length ws * items ≡ suc (length ws) * items = omega arith in e)

-- ---- the closer

-- it has made no call before the close
fresh_met : (z : Topic) (n : ℕ) (c met : Walk) → c ≡ fresh z n → HasMet c met → (calls met ≡ []) × IsBack z n met
fresh_met z n c met is m =
    let none : calls met ≡ [] = nil_of (calls met) (m.stands.calls_are ∙ m.stands.made ∙ append-nil c.made ∙ ap (λ (x : Walk). x.made) is) in (
      none,
      record {
        here = (m.stands.same.0 ∙ ap (λ (x : Walk). x.table_id) is, m.stands.same.1 ∙ ap (λ (x : Walk). x.setting) is);
        at = m.stands.same.2 ∙ ap (λ (x : Walk). x.number) is;
        stands = stands_self c met [] m.stands;
        answered = subst (AllByRecursion HasAnswer) (sym none) tt;
      },
    )

pub closer_back : (z : Topic) (n : ℕ) (c w : Walk) (senders : List Walk) (told : CloseAnswer) → c ≡ fresh z n → ClosedAfter c senders told w → IsBack z n w
closer_back z n c w senders told is k = back_more z n k.met w Call.Close (Answer.Close told) (fresh_met z n c k.met is k.first).1 k.close

pub closer_calls : (z : Topic) (n : ℕ) (c w : Walk) (senders : List Walk) (told : CloseAnswer) → c ≡ fresh z n → (k : ClosedAfter c senders told w) → calls w ≡ (entry_of k.met Call.Close, Some (Answer.Close told)) ∷ []
closer_calls z n c w senders told is k =
    let met = fresh_met z n c k.met is k.first in
    call_more z n k.met w Call.Close (Answer.Close told) met.1 k.close ∙ ap (λ (zs : List Told). zs ++ (entry_of k.met Call.Close, Some (Answer.Close told)) ∷ []) met.0

pub closer_sent_none : (z : Topic) (n : ℕ) (c w : Walk) (senders : List Walk) (told : CloseAnswer) → c ≡ fresh z n → ClosedAfter c senders told w → receipts_in sent (calls w) ≡ []
closer_sent_none z n c w senders told is k = ap (receipts_in sent) (closer_calls z n c w senders told is k)

-- and the answer says so, when it has met the others too
pub closer_told : (z : Topic) (n : ℕ) (c w x : Walk) (senders : List Walk) (told : CloseAnswer) → c ≡ fresh z n → ClosedAfter c senders told w → HasMet w x → IsLastAnswer (name x) (history x) (Answer.Close told)
closer_told z n c w x senders told is k m = record {
  before = [];
  entry = entry_of k.met Call.Close;
  last = calls_met z n w x (closer_back z n c w senders told is k) m ∙ closer_calls z n c w senders told is k;
}
