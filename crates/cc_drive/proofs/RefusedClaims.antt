-- The clauses refuse these claims.
use Rattle.std.proofs.Common.{◌≡◌, ◌∙◌, ◌*◌, ℕ, zero, suc, Bool, true, false, List, [], ◌∷◌, ◌++◌, length, map, Option, Some, None, IfSome, ap, subst, arith}
use Rattle.cc_drive.specs.Asked.{SendersAsked, WereAsked}
use Rattle.cc_drive.specs.Back.{MadeByGate, SenderGave, SenderIsBack, SendsByGate, calls}
use Rattle.cc_drive.specs.Crew.{least_missing}
use Rattle.cc_drive.specs.Names.{Answer, DriveConfig, DriveFault, Entry, Kind, Point, SendReceipt, Verdict, Worked}
use Rattle.cc_drive.specs.Ran.{due, HasEnd}
use Rattle.cc_drive.specs.Work.{AskedForCalls, AskedUntilOn, IsHeldUp, RanOut}
use Rattle.cc_drive.specs.Row.{InRowWith}
use Rattle.cc_queue.specs.Receipts.{receipts_in, sent}
use Rattle.cc_queue.specs.Work.{tally, reads}
use Rattle.cc_steps.specs.Topic.{Topic}
use Rattle.cc_steps.specs.Walk.{Walk}
use Rattle.cc_drive.specs.Refused.{OwnPoints, RefusedClaims}

a_limit : (workers number : ℕ) (sender receiver : Option ℕ) (closed whole : Bool) → due true workers sender receiver closed whole ≡ Some (DriveFault.Limit number) → ⊥
a_limit workers number sender receiver closed whole is = absurd (cc is)

lost : (workers number : ℕ) → due false workers None None true false ≡ Some (DriveFault.Limit number) → ⊥
lost workers number is = absurd (cc is)

early : (v w : Walk) → w.did ≡ v.did → RanOut v (record { made = 0; limit = 6 }) (record { made = 6; limit = 6 }) w → ⊥
early v w same out = absurd (omega (arith, out.read.reads, ap (λ (ks : List Kind). tally reads ks) same))

-- ---- the gates in the reverse order

-- a receiver's gate stays one
held_up : (times : ℕ) (h : Bool) → IsHeldUp OwnPoints Point.SendBegun times false h → h ≡ false
held_up zero h held = held
held_up (suc n) h held = held.2.1 ∙ held_up n held.0 held.1

-- and returns no answer to a sender's worker
no_answer : (held : ℕ) (k h : Bool) → k ≡ false → AskedUntilOn OwnPoints Point.SendBegun held k h → ⊥
no_answer held k h is asked =
    let stays : asked.0 ≡ false = held_up held asked.0 (subst (λ (g : Bool). IsHeldUp OwnPoints Point.SendBegun held g asked.0) is asked.1) in
    let bad : true ≡ false = asked.2.0 ∙ stays in absurd (cc bad)

-- nor was it asked for its calls
no_calls : (n held : ℕ) (h : Bool) → AskedForCalls OwnPoints Point.SendBegun Point.SendAnswered (suc n) held false h → ⊥
no_calls zero held h asked = no_answer asked.3 asked.0 asked.1 asked.6.1 asked.7
no_calls (suc n) held h asked = no_calls n asked.2 asked.0 asked.6

no_call : (zs : List (Entry × Option Answer)) (held : ℕ) (h : Bool) → length (receipts_in sent zs) ≡ 1 → AskedForCalls OwnPoints Point.SendBegun Point.SendAnswered (length zs) held false h → ⊥
no_call [] held h one asked = absurd (cc one)
no_call (z ∷ zs) held h one asked = no_calls (length zs) held h asked

no_sender : (z : Topic) (items limit : ℕ) (rest : List Bool) → items ≡ 1 → SendersAsked OwnPoints z items limit 1 None (false ∷ rest) → ⊥
no_sender z items limit rest one s = go s.workers s.many s.missing s.asked
  where
    back : (made : ℕ) (p : Option Walk) → None ≡ least_missing 0 (p ∷ []) → IfSome p (SenderIsBack z items 0) → IfSome p (λ w. (h : Bool) × MadeByGate OwnPoints Point.SendBegun Point.SendAnswered made w false h) → ⊥
    back made (Some w) none is asked = no_call (calls w) asked.1.0 asked.0 (is.all ∙ one) asked.1.1
    back made None none is asked = absurd (cc none)

    go : (ds : List (Worked Walk SendReceipt)) → length ds ≡ 1 → None ≡ least_missing 0 (map (λ d. d.pass) ds) → InRowWith (λ n d g. SenderGave z items limit n d × SendsByGate OwnPoints g z items limit n d) 0 ds (false ∷ rest) → ⊥
    go [] many none row = absurd (cc many)
    go (d ∷ []) many none row = back d.made d.pass none row.0.0.0 row.0.1.0
    go (d ∷ e ∷ ds) many none row = absurd (omega (arith, many))

first_is : {A : Type 0} (xs ys rest : List A) (x : A) → xs ++ ys ≡ x ∷ rest → length xs ≡ 1 → xs ≡ x ∷ []
first_is [] ys rest x same one = absurd (cc one)
first_is (a ∷ []) ys rest x same one = (let is : a ≡ x = cc same in ap (λ y. y ∷ []) is)
first_is (a ∷ b ∷ xs) ys rest x same one = absurd (omega (arith, one))

reversed : (c : DriveConfig) → c.senders ≡ 1 → c.items ≡ 1 → WereAsked OwnPoints (false ∷ true ∷ []) c → ⊥
reversed c one item w =
    let sending = first_is w.sending w.taking (true ∷ []) false w.in_order (w.count_sending ∙ one) in
    no_sender w.queue c.items c.limit [] item (subst (λ (n : ℕ × List Bool). SendersAsked OwnPoints w.queue c.items c.limit n.0 None n.1) (λ i. (one i, sending i)) w.senders)

none_driven : (c : DriveConfig) → c.senders ≡ 1 → c.items ≡ 1 → HasEnd c (record { sent = 0; taken = 0; verdict = Verdict.Clean }) → ⊥
none_driven c senders items end =
    let one : c.senders * c.items ≡ 1 = ap (λ (n : ℕ). n * c.items) senders ∙ ap (λ (n : ℕ). 1 * n) items in
    absurd (omega (arith, end.whole.all_sent ∙ one))

pub claims_refused : RefusedClaims
claims_refused = record {
  each_fault_is_a_limit = a_limit;
  a_lost_receipt_is_a_limit = lost;
  gives_up_early = early;
  gates_in_reverse = reversed;
  drives_no_item = none_driven;
}
