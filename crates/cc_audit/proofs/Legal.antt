-- The receipts of a legal history come from items in their places.
use Rattle.std.proofs.Common.{◌≡◌, ℕ, zero, suc, ◌+◌, ◌<◌, ◌≤◌, ◌==◌, List, [], ◌∷◌, ◌++◌, length, map, Bool, true, false, cond, Some, refl, sym, ap, ◌∙◌, subst, arith, length-append}
use Rattle.std.specs.List.{slice_get, AllByRecursion}
use Rattle.std.proofs.lemmas.Bool.{eqb-false}
use Rattle.cc_model.specs.Record.{Record, of_group}
use Rattle.cc_model.specs.Items.{IsPrefix, accepted, accepted_by, accepted_item, handed_by, handed_item, of_sender}
use Rattle.cc_model.specs.Legal.{Legal, LegalTakes, SendSideAnswer, SendSideAnswers, TakeSideAnswer, TakeSideAnswers, IsReceivers}
use Rattle.cc_model.specs.Fifo.{RisesFrom}
use Rattle.cc_audit.specs.Names.{Config, Pass, Call, Item, Entry, Answer, SendAnswer, CloseAnswer, TakeReceipt}
use Rattle.cc_model.proofs.Prefixes.{map-append}
use Rattle.cc_model.proofs.Grows.{accepted_places}
use Rattle.cc_model.proofs.InOrder.{handed_front, accepted_rise}
use Rattle.cc_audit.specs.Receipts.{take_receipt, takes_by, takes_of, total_by, total_of}
use Rattle.cc_audit.proofs.Clean.{Fair}

-- ---- the items on the take receipts are those handed out

item_taken : (cfg : Config) (g : ℕ) (items : List Item) (shut : Bool) (n known : ℕ) (p : Pass) (k : Call) (a : Answer) → IsReceivers cfg g p k → TakeSideAnswer items shut n known a → map (λ (t : TakeReceipt). t.item) (take_receipt p a) ≡ handed_item a
item_taken cfg g items shut n known p k a is h = grind arith

items_taken : (cfg : Config) (g : ℕ) (items : List Item) (shut : Bool) (n : ℕ) (calls : List Entry) (answers : List Answer) → TakeSideAnswers items shut n calls answers → AllByRecursion (λ c. IsReceivers cfg g c.pass c.call) calls
    → map (λ (t : TakeReceipt). t.item) (takes_by calls answers) ≡ handed_by answers
items_taken cfg g items shut n [] [] h all = refl
items_taken cfg g items shut n (c ∷ calls) [] h all = refl
items_taken cfg g items shut n [] (a ∷ answers) h all = absurd h
items_taken cfg g items shut n (c ∷ calls) (a ∷ answers) h all =
    map-append (λ (t : TakeReceipt). t.item) (take_receipt c.pass a) (takes_by calls answers)
    ∙ ap (λ (l : List Item). l ++ map (λ (t : TakeReceipt). t.item) (takes_by calls answers)) (item_taken cfg g items shut n c.known c.pass c.call a all.0 h.0)
    ∙ ap (λ (l : List Item). handed_item a ++ l) (items_taken cfg g items shut (n + length (handed_item a)) calls answers h.1 all.1)

-- ---- the numbers of a sender rise

abbrev Rises : ℕ → List Item → Type 0
Rises low items = RisesFrom low (map (λ x. x.number) items)

same_item : (x y : Item) → Some x ≡ Some y → x ≡ y
same_item x y e = cc

-- an item that isn't the sender's
not_own : (s : ℕ) (x y : Item) → y.sender == s ≡ false → Some y ≡ Some x → x.sender ≡ s → ⊥
not_own s x y other e own = eqb-false y.sender s other (ap (λ (z : Item). z.sender) (same_item y x e) ∙ own)

-- a number of the sender, in a list whose numbers rise from low
low_head : (s low : ℕ) (y : Item) (items : List Item) (i : ℕ) (x : Item) → ((m k : ℕ) → Rises m (of_sender s items) → slice_get items k ≡ Some x → m ≤ x.number) → (b : Bool) → y.sender == s ≡ b → Rises low (cond b (y ∷ of_sender s items) (of_sender s items)) → slice_get (y ∷ items) i ≡ Some x → x.sender ≡ s → low ≤ x.number
low_head s low y items zero x later true own_y up is own = omega (arith, up.0, ap (λ (z : Item). z.number) (same_item y x is))
low_head s low y items (suc i) x later true own_y up is own = omega (arith, up.0, later (y.number + 1) i up.1 is)
low_head s low y items zero x later false other up is own = absurd (not_own s x y other is own)
low_head s low y items (suc i) x later false other up is own = later low i up is

low_enough : (s low : ℕ) (items : List Item) (i : ℕ) (x : Item) → Rises low (of_sender s items) → slice_get items i ≡ Some x → x.sender ≡ s → low ≤ x.number
low_enough s low [] i x up is own = cc
low_enough s low (y ∷ items) i x up is own = low_head s low y items i x (λ m k rises at. low_enough s m items k x rises at own) (y.sender == s) refl up is own

apart_head : (s low : ℕ) (z : Item) (items : List Item) (i j : ℕ) (x y : Item) → ((m k l : ℕ) → Rises m (of_sender s items) → k < l → slice_get items k ≡ Some x → slice_get items l ≡ Some y → x.number < y.number)
    → (b : Bool) → z.sender == s ≡ b → Rises low (cond b (z ∷ of_sender s items) (of_sender s items)) → i < j → slice_get (z ∷ items) i ≡ Some x → slice_get (z ∷ items) j ≡ Some y → x.sender ≡ s → y.sender ≡ s → x.number < y.number
apart_head s low z items zero (suc j) x y later true own_z up lt is_x is_y own_x own_y = omega (arith, low_enough s (z.number + 1) items j y up.1 is_y own_y, ap (λ (r : Item). r.number) (same_item z x is_x))
apart_head s low z items (suc i) (suc j) x y later true own_z up lt is_x is_y own_x own_y = later (z.number + 1) i j up.1 (omega (arith, lt)) is_x is_y
apart_head s low z items zero (suc j) x y later false other up lt is_x is_y own_x own_y = absurd (not_own s x z other is_x own_x)
apart_head s low z items i j x y later b l up lt is_x is_y own_x own_y = grind arith

apart : (s low : ℕ) (items : List Item) (i j : ℕ) (x y : Item) → Rises low (of_sender s items) → i < j → slice_get items i ≡ Some x → slice_get items j ≡ Some y → x.sender ≡ s → y.sender ≡ s → x.number < y.number
apart s low [] i j x y up lt is_x is_y own_x own_y = cc
apart s low (z ∷ items) i j x y up lt is_x is_y own_x own_y =
    apart_head s low z items i j x y (λ m k l rises less at_x at_y. apart s m items k l x y rises less at_x at_y own_x own_y) (z.sender == s) refl up lt is_x is_y own_x own_y

-- ---- the total is all that was accepted

no_accept : (cfg : Config) (n known place : ℕ) (k : Call) → SendSideAnswer cfg n true known k (Answer.Send (SendAnswer.Accepted place)) → ⊥
no_accept cfg n known place k h = grind arith

none_accepted : (cfg : Config) (n known : ℕ) (c : Entry) (a : Answer) → SendSideAnswer cfg n true known c.call a → accepted_item c a ≡ []
none_accepted cfg n known c (Answer.Send (SendAnswer.Accepted place)) h = absurd (no_accept cfg n known place c.call h)
none_accepted cfg n known c _ h = refl

-- nothing is accepted after a close
closed : (cfg : Config) (n : ℕ) (calls : List Entry) (answers : List Answer) → SendSideAnswers cfg n true calls answers → accepted_by calls answers ≡ []
closed cfg n (c ∷ calls) (a ∷ answers) h = ap (λ (l : List Item). l ++ accepted_by calls answers) (none_accepted cfg n c.known c a h.0) ∙ closed cfg (n + length (accepted_item c a)) calls answers h.1
closed cfg n calls answers h = grind arith

total_told : (cfg : Config) (n known total : ℕ) (k : Call) → SendSideAnswer cfg n false known k (Answer.Close (CloseAnswer.Shut total)) → total ≡ n
total_told cfg n known total k h = grind arith

total_is : (cfg : Config) (n : ℕ) (calls : List Entry) (answers : List Answer) (t : ℕ) → SendSideAnswers cfg n false calls answers → total_by answers ≡ Some t → t ≡ n + length (accepted_by calls answers)
total_is cfg n calls [] t h is = cc
total_is cfg n [] (a ∷ answers) t h is = absurd h
total_is cfg n (c ∷ calls) (Answer.Close (CloseAnswer.Shut total) ∷ answers) t h is =
    let same : total ≡ t = cc in
    omega (arith, total_told cfg n c.known total c.call h.0, ap length (closed cfg (n + 0) calls answers h.1))
total_is cfg n (c ∷ calls) (Answer.Send x ∷ answers) t h is =
    omega (arith, total_is cfg (n + length (accepted_item c (Answer.Send x))) calls answers t h.1 is, length-append (accepted_item c (Answer.Send x)) (accepted_by calls answers))
total_is cfg n (c ∷ calls) (_ ∷ answers) t h is = omega (arith, total_is cfg (n + 0) calls answers t h.1 is)

pub fair_of : (cfg : Config) (h : Record) (g : ℕ) → g < cfg.groups → Legal cfg h → Fair (accepted h) (takes_of h g) (total_of h)
fair_of cfg h g inside legal =
    let of : LegalTakes cfg h g = legal.takes g inside in
    record {
      places = λ i x is. accepted_places cfg 0 false h.sends.calls h.sends.answers legal.answers i x is ∙ omega arith;
      front = subst (λ (l : List Item). IsPrefix l (accepted h)) (sym (items_taken cfg g _ _ 0 (of_group h g).calls (of_group h g).answers of.answers of.receivers)) (handed_front _ _ 0 (of_group h g).calls (of_group h g).answers of.answers);
      numbers = λ i j x y lt is_x is_y same. apart y.sender 1 (accepted h) i j x y (accepted_rise y.sender 1 h.sends.calls h.sends.answers (legal.numbers y.sender)) lt is_x is_y same refl;
      all = λ n is. total_is cfg 0 h.sends.calls h.sends.answers n legal.answers is ∙ omega arith;
    }
