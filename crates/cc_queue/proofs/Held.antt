-- The receipts that a row of passes hold are those of the history, in another order.
use Rattle.std.proofs.Common.{◌≡◌, ℕ, zero, suc, ◌+◌, ◌-◌, ◌*◌, ◌/◌, ◌%◌, ◌<◌, ◌≤◌, ◌==◌, inl, inr, Bool, true, false, List, [], ◌∷◌, ◌++◌, map, length, take, drop, get_or, Option, Some, None, IsPermutation, Bor, Any, if◌then◌else◌, refl, sym, ap, ◌∙◌, subst, arith, append_assoc, eq-eqb, nat_lt, Ok}
use Rattle.std.proofs.Math.Nat.{suc-mul, mul-le-mul_right}
use Rattle.std.proofs.Math.Seq.{take-length}
use Rattle.std.proofs.lemmas.Nat.{div-add-mod', div-mul-add}
use Rattle.std.proofs.lemmas.Bool.{cases_lt, ne_eqb, lt-ltb, ltb-true, false≢true, true≢false}
use Rattle.std.proofs.lemmas.List.{map-append, get_or_default, get_or_past, get_or-drop, get_or-take, length-take, length-drop}
use Rattle.std.proofs.lemmas.List.Sorted.{IsPermutation-refl, IsPermutation-sym, IsPermutation-trans, IsPermutation-append_left, IsPermutation-append_right, IsPermutation-append_comm}
use Rattle.std.specs.Fn.{FnReturnsAt, Shared}
use Rattle.std.specs.List.{All, AllByRecursion, filter, slice_range}
use native.Mathlib.Decide.{ℕ_discrete}
use Rattle.cc_model.specs.Record.{Side, Record, silent, of_group}
use Rattle.cc_model.specs.Items.{answered, calls_of, is_pass, accepted, accepted_by, accepted_item}
use Rattle.cc_model.specs.Legal.{Legal, IsSenders, IsReceivers}
use Rattle.cc_model.specs.Config.{config_fault, group_of}
use Rattle.cc_queue.specs.Names.{Config, Call, Pass, Entry, Answer, Move, Setting, SendReceipt, TakeReceipt, Verdict}
use Rattle.cc_runs.specs.Words.{groups}
use Rattle.cc_runs.specs.State.{pass_at}
use Rattle.cc_runs.specs.Run.{history_of}
use Rattle.cc_runs.proofs.ListRuns.Posts.{all_map}
use Rattle.cc_runs.proofs.Ranges.{in_range}
use Rattle.cc_audit.specs.Receipts.{send_receipt, take_receipt, sends_of, takes_of, takes_by, total_of}
use Rattle.cc_audit.specs.Verdict.{IsVerdict, Holds, double_accept, double_take, stranger, altered, gap, disorder, overrun}
use Rattle.cc_audit.proofs.Clean.{no_fault}
use Rattle.cc_audit.proofs.Legal.{fair_of}
use Rattle.cc_audit.proofs.Orders.{same_verdict}
use Rattle.cc_steps.specs.Topic.{Topic}
use Rattle.cc_steps.specs.Walk.{Walk}
use Rattle.cc_queue.specs.Headline.{StandsInOne, name, history, IsAtRest}
use Rattle.cc_queue.specs.Met.{HaveSeenOne}
use Rattle.cc_queue.specs.Receipts.{Last, Row, AreInRow, AreAll, in_group, walk_at, HasEnded, HasJustCallsOf, IsTotal, seen_by, sent, got, receipts_in, receipts_by, receipts_told, receipts_left}
use Rattle.cc_queue.proofs.OnItsSide.{Told, on_its_side}
use Rattle.cc_queue.proofs.Lasts.{all_walks, all_stand, all_just, told_and_left, group_of_map}

-- what holds of the elements before an element, and of it
pub one_more : {X : Type 0} (P : X → Type 0) (xs : List X) (i : ℕ) (x : X) → i < length xs → x ≡ get_or xs i x → P x → ((k : ℕ) (d : X) → k < i → P (get_or xs k d)) → (k : ℕ) (d : X) → k < i + 1 → P (get_or xs k d)
one_more {X} P xs i x inside is here before k d less = elim (cases_lt k i) [
  | inl earlier ↦ before k d earlier
  | inr same ↦ let at : k ≡ i = omega (arith, same, less) in subst P (is ∙ get_or_default xs i x d inside ∙ ap (λ (n : ℕ). get_or xs n d) (sym at)) here
]

-- what a call ensures holds of each element, if it was made on each
pub so_at_each : {F X : Type 0} (g : Shared F (Bor X × Unit {0}) (Unit {0})) (f : F) (xs : List X) (P : X → Type 0) → ((y : Bor X) → g.post f (y, tt) tt → P y.now) → All (λ x. FnReturnsAt g f x tt) xs → All P xs
so_at_each g f xs P so made k d less = let m = made k d less in subst P m.shows (so m.shown m.says.met)

-- ---- calls that are dealt out to a row of passes

-- the receipts of the calls of pass n, then of pass n + 1, and so on, if mine m z says whether z is a call of pass m
abbrev held : {X : Type 0} → (Told → List X) → (ℕ → Told → Bool) → List Told → ℕ → ℕ → List X
held receipts mine zs n zero = []
held receipts mine zs n (suc count) = receipts_in receipts (filter (mine n) zs) ++ held receipts mine zs (suc n) count

-- the call is pass s's alone
abbrev IsOfAlone : (ℕ → Told → Bool) → Told → ℕ → Type 0
IsOfAlone mine z s = (m : ℕ) → mine m z ≡ (m == s)

-- it is of one of these passes alone
abbrev IsDealt : (ℕ → Told → Bool) → ℕ → ℕ → Told → Type 0
IsDealt mine n count z = (s : ℕ) × (n ≤ s) × (s < n + count) × IsOfAlone mine z s

kept : (z : Told) (zs : List Told) (b : Bool) → b ≡ true → (if b then z ∷ zs else zs) ≡ z ∷ zs
kept z zs true is = refl
kept z zs false is = absurd (false≢true is)

left_out : (z : Told) (zs : List Told) (b : Bool) → b ≡ false → (if b then z ∷ zs else zs) ≡ zs
left_out z zs true is = absurd (true≢false is)
left_out z zs false is = refl

-- a call of an earlier pass
held_after : {X : Type 0} (receipts : Told → List X) (mine : ℕ → Told → Bool) (z : Told) (zs : List Told) (s n count : ℕ) → IsOfAlone mine z s → s < n → held receipts mine (z ∷ zs) n count ≡ held receipts mine zs n count
held_after receipts mine z zs s n zero own before = refl
held_after receipts mine z zs s n (suc count) own before =
    let skipped : filter (mine n) (z ∷ zs) ≡ filter (mine n) zs = left_out z (filter (mine n) zs) (mine n z) (own n ∙ ne_eqb n s (λ e. omega (arith, e, before))) in
    λ i. receipts_in receipts (skipped i) ++ held_after receipts mine z zs s (suc n) count own (omega (arith, before)) i

held_one : {X : Type 0} (receipts : Told → List X) (mine : ℕ → Told → Bool) (z : Told) (zs : List Told) (s n count : ℕ) → IsOfAlone mine z s → n ≤ s → s < n + count → IsPermutation (held receipts mine (z ∷ zs) n count) (receipts z ++ held receipts mine zs n count)
held_one receipts mine z zs s n zero own low high = absurd (omega (arith, low, high))
held_one {X} receipts mine z zs s n (suc count) own low high =
    let first : List X = receipts_in receipts (filter (mine n) zs) in
    let others : List X = held receipts mine zs (suc n) count in
    let others' : List X = held receipts mine (z ∷ zs) (suc n) count in
    elim (ℕ_discrete n s) as (λ _. IsPermutation (receipts_in receipts (filter (mine n) (z ∷ zs)) ++ others') (receipts z ++ (first ++ others))) [
      | yes e ↦
          let taken : filter (mine n) (z ∷ zs) ≡ z ∷ filter (mine n) zs = kept z (filter (mine n) zs) (mine n z) (own n ∙ eq-eqb n s e) in
          let same : receipts_in receipts (filter (mine n) (z ∷ zs)) ++ others' ≡ (receipts z ++ first) ++ others = λ i. receipts_in receipts (taken i) ++ held_after receipts mine z zs s (suc n) count own (omega (arith, e)) i in
          subst (IsPermutation _) (same ∙ append_assoc (receipts z) first others) (IsPermutation-refl _)
      | no ne ↦
          let skipped : filter (mine n) (z ∷ zs) ≡ filter (mine n) zs = left_out z (filter (mine n) zs) (mine n z) (own n ∙ ne_eqb n s ne) in
          let later : IsPermutation (first ++ others') (first ++ (receipts z ++ others)) = IsPermutation-append_right first others' (receipts z ++ others) (held_one receipts mine z zs s (suc n) count own (omega (arith, low, ne)) (omega (arith, high))) in
          let swapped : IsPermutation ((first ++ receipts z) ++ others) ((receipts z ++ first) ++ others) = IsPermutation-append_left others (first ++ receipts z) (receipts z ++ first) (IsPermutation-append_comm first (receipts z)) in
          let back : IsPermutation (first ++ (receipts z ++ others)) (receipts z ++ (first ++ others)) = subst (λ (y : List X × List X). IsPermutation y.0 y.1) (λ i. (append_assoc first (receipts z) others i, append_assoc (receipts z) first others i)) swapped in
          subst (λ (l : List Told). IsPermutation (receipts_in receipts l ++ others') (receipts z ++ (first ++ others))) (sym skipped) (IsPermutation-trans _ _ _ later back)
    ]

held_nothing : {X : Type 0} (receipts : Told → List X) (mine : ℕ → Told → Bool) (n count : ℕ) → held receipts mine [] n count ≡ []
held_nothing receipts mine n zero = refl
held_nothing receipts mine n (suc count) = held_nothing receipts mine (suc n) count

held_all : {X : Type 0} (receipts : Told → List X) (mine : ℕ → Told → Bool) (n count : ℕ) (zs : List Told) → AllByRecursion (IsDealt mine n count) zs → IsPermutation (held receipts mine zs n count) (receipts_in receipts zs)
held_all {X} receipts mine n count [] all = subst (λ (l : List X). IsPermutation l []) (sym (held_nothing receipts mine n count)) (IsPermutation-refl [])
held_all receipts mine n count (z ∷ zs) all =
    IsPermutation-trans _ _ _ (held_one receipts mine z zs all.0.0 n count all.0.3 all.0.1 all.0.2)
    (IsPermutation-append_right (receipts z) (held receipts mine zs n count) (receipts_in receipts zs) (held_all receipts mine n count zs all.1))

-- ---- whose a call is

abbrev is_of : (ℕ → Pass) → ℕ → Told → Bool
is_of called m z = is_pass (called m) z.0.pass

all_at : {X : Type 0} (P : X → Type 0) (xs : List X) → AllByRecursion P xs → All P xs
all_at P [] all k d less = absurd (omega (arith, less))
all_at P (x ∷ xs) all zero d less = all.0
all_at P (x ∷ xs) all (suc k) d less = all_at P xs all.1 k d (omega (arith, less))

all_answered : (P : Entry → Type 0) (Q : Told → Type 0) (calls : List Entry) (answers : List Answer) → ((e : Entry) (told : Option Answer) → P e → Q (e, told)) → AllByRecursion P calls → AllByRecursion Q (answered calls answers)
all_answered P Q [] answers f all = tt
all_answered P Q (e ∷ calls) [] f all = (f e None all.0, all_answered P Q calls [] f all.1)
all_answered P Q (e ∷ calls) (a ∷ answers) f all = (f e (Some a) all.0, all_answered P Q calls answers f all.1)

sender_of : (cfg : Config) (p : Pass) (c : Call) → IsSenders cfg p c → (s : ℕ) × (1 ≤ s) × (s < 1 + cfg.senders) × (p ≡ Pass.Sender s)
sender_of cfg (Pass.Sender s) (Call.Send body) is = (s, is.0, omega (arith, is.1), refl)
sender_of cfg (Pass.Sender s) Call.Close is = (s, is.0, omega (arith, is.1), refl)
sender_of cfg (Pass.Sender s) Call.Take is = absurd is
sender_of cfg (Pass.Receiver r) c is = absurd is

receiver_of : (cfg : Config) (g : ℕ) (p : Pass) (c : Call) → IsReceivers cfg g p c → (r : ℕ) × (1 ≤ r) × (r < 1 + cfg.groups * cfg.receivers) × (group_of cfg r ≡ g) × (p ≡ Pass.Receiver r)
receiver_of cfg g (Pass.Receiver r) Call.Take is = (r, is.0, omega (arith, is.1), is.2, refl)
receiver_of cfg g (Pass.Receiver r) (Call.Send body) is = absurd is
receiver_of cfg g (Pass.Receiver r) Call.Close is = absurd is
receiver_of cfg g (Pass.Sender s) c is = absurd is

-- a receiver's number by its group
number_in : (cfg : Config) (g r : ℕ) → 0 < cfg.receivers → 1 ≤ r → group_of cfg r ≡ g → (1 + g * cfg.receivers ≤ r) × (r < 1 + g * cfg.receivers + cfg.receivers)
number_in cfg g r some low is =
    let whole : (r - 1) / cfg.receivers * cfg.receivers + (r - 1) % cfg.receivers ≡ r - 1 = div-add-mod' (r - 1) cfg.receivers in
    let same : (r - 1) / cfg.receivers * cfg.receivers ≡ g * cfg.receivers = ap (λ (q : ℕ). q * cfg.receivers) is in
    let rest : (r - 1) % cfg.receivers < cfg.receivers = omega (arith, some) in
    (omega (arith, whole, same, low), omega (arith, whole, same, rest, low))

-- and the group of such a number
group_at : (cfg : Config) (g m : ℕ) → 0 < cfg.receivers → 1 + g * cfg.receivers ≤ m → m < 1 + g * cfg.receivers + cfg.receivers → group_of cfg m ≡ g
group_at cfg g m some low high = ap (λ (n : ℕ). n / cfg.receivers) (omega (arith, low)) ∙ div-mul-add g cfg.receivers (m - 1 - g * cfg.receivers) (omega (arith, low, high))

next_multiple : (n k : ℕ) → 1 ≤ n → (n - 1) * k + k ≡ n * k
next_multiple zero k some = absurd (omega (arith, some))
next_multiple (suc n) k some = ap (λ (m : ℕ). m * k + k) (omega arith) ∙ sym (suc-mul n k)

-- ---- the receipts of calls

pub in_both : {X : Type 0} (receipts : Told → List X) (xs ys : List Told) → receipts_in receipts (xs ++ ys) ≡ receipts_in receipts xs ++ receipts_in receipts ys
in_both receipts [] ys = refl
in_both receipts (x ∷ xs) ys = ap (λ l. receipts x ++ l) (in_both receipts xs ys) ∙ sym (append_assoc (receipts x) (receipts_in receipts xs) (receipts_in receipts ys))

in_sent : (calls : List Entry) (answers : List Answer) → receipts_in sent (answered calls answers) ≡ map send_receipt (accepted_by calls answers)
in_sent [] answers = refl
in_sent (e ∷ []) [] = refl
in_sent (e ∷ f ∷ calls) [] = in_sent (f ∷ calls) []
in_sent (e ∷ calls) (a ∷ answers) = ap (λ l. map send_receipt (accepted_item e a) ++ l) (in_sent calls answers) ∙ sym (map-append send_receipt (accepted_item e a) (accepted_by calls answers))

in_got : (calls : List Entry) (answers : List Answer) → receipts_in got (answered calls answers) ≡ takes_by calls answers
in_got [] answers = refl
in_got (e ∷ []) [] = refl
in_got (e ∷ f ∷ calls) [] = in_got (f ∷ calls) []
in_got (e ∷ calls) (a ∷ answers) = ap (λ l. take_receipt e.pass a ++ l) (in_got calls answers)

-- each call of the senders, and of a group, is dealt to one of its passes
sends_dealt : (cfg : Config) (h : Record) → Legal cfg h → AllByRecursion (IsDealt (is_of Pass.Sender) 1 cfg.senders) (answered h.sends.calls h.sends.answers)
sends_dealt cfg h l =
    all_answered (λ e. IsSenders cfg e.pass e.call) (IsDealt (is_of Pass.Sender) 1 cfg.senders) h.sends.calls h.sends.answers
    (λ e told is. let s = sender_of cfg e.pass e.call is in (s.0, s.1, s.2, λ m. ap (is_pass (Pass.Sender m)) s.3)) l.senders

takes_dealt : (cfg : Config) (h : Record) (g : ℕ) → 0 < cfg.receivers → g < cfg.groups → Legal cfg h → AllByRecursion (IsDealt (is_of Pass.Receiver) (1 + g * cfg.receivers) cfg.receivers) (answered (of_group h g).calls (of_group h g).answers)
takes_dealt cfg h g some inside l =
    all_answered (λ e. IsReceivers cfg g e.pass e.call) (IsDealt (is_of Pass.Receiver) (1 + g * cfg.receivers) cfg.receivers) (of_group h g).calls (of_group h g).answers
    (λ e told is. let r = receiver_of cfg g e.pass e.call is in let n = number_in cfg g r.0 some r.1 r.3 in (r.0, n.0, n.1, λ m. ap (is_pass (Pass.Receiver m)) r.4)) (l.takes g inside).receivers

-- ---- passes in a row

-- they are called so from n on, and all have seen this history
record IsRow (called : ℕ → Pass) (h : Record) (n : ℕ) (ws : List Walk) : Type 0 where
  pub named : (k : ℕ) (d : Walk) → k < length ws → name (get_or ws k d) ≡ called (n + k)
  pub seen : All (λ w. history w ≡ h) ws

-- the receipts that they hold, if all calls of each of them are among these
held_by : {X : Type 0} (receipts : Told → List X) (called : ℕ → Pass) (h : Record) (zs : List Told) (n : ℕ) (ws : List Walk) → IsRow called h n ws → ((m : ℕ) → n ≤ m → m < n + length ws → calls_of (called m) h ≡ filter (is_of called m) zs) → receipts_by receipts ws ≡ held receipts (is_of called) zs n (length ws)
held_by receipts called h zs n [] row are = refl
held_by receipts called h zs n (w ∷ ws) row are =
    let here : name w ≡ called n = row.named 0 w (omega arith) ∙ ap called (omega arith) in
    let own : calls_of (name w) (history w) ≡ filter (is_of called n) zs = (λ i. calls_of (here i) (row.seen 0 w (omega arith) i)) ∙ are n (omega arith) (omega arith) in
    let rest : IsRow called h (suc n) ws = record {
      named = λ k d less. row.named (suc k) d (omega (arith, less)) ∙ ap called (omega arith);
      seen = λ k d less. row.seen (suc k) d (omega (arith, less));
    } in
    λ i. receipts_in receipts (own i) ++ held_by receipts called h zs (suc n) ws rest (λ m low high. are m (omega (arith, low)) (omega (arith, high))) i

-- one of them is called as a call's pass is
one_called : (called : ℕ → Pass) (h : Record) (ws : List Walk) (s : ℕ) → IsRow called h 1 ws → 1 ≤ s → s < 1 + length ws → Any (λ w. called s ≡ name w) ws
one_called called h [] s row low high = absurd (omega (arith, low, high))
one_called called h (w ∷ ws) zero row low high = absurd (omega (arith, low))
one_called called h (w ∷ ws) (suc k) row low high =
    let less : k < length (w ∷ ws) = omega (arith, high) in
    let x : Walk = get_or (w ∷ ws) k w in
    (k, x, less, get_or_default (w ∷ ws) k x w less, ap called (omega arith) ∙ sym (row.named k w less))

-- the passes from one of them on
row_range : (called : ℕ → Pass) (h : Record) (first count : ℕ) (ws : List Walk) → IsRow called h 1 ws → first + count ≤ length ws → IsRow called h (1 + first) (slice_range ws first (first + count))
row_range called h first count ws row fits = record {
  named = λ k d less. ap name (nth k d less) ∙ row.named (first + k) d (omega (arith, fits, below k less)) ∙ ap called (omega arith);
  seen = λ k d less. ap history (nth k d less) ∙ row.seen (first + k) d (omega (arith, fits, below k less));
}
  where
    below : (k : ℕ) → k < length (slice_range ws first (first + count)) → k < count
    below k less = omega (arith, less, length-take (first + count - first) (drop first ws))

    nth : (k : ℕ) (d : Walk) → k < length (slice_range ws first (first + count)) → get_or (slice_range ws first (first + count)) k d ≡ get_or ws (first + k) d
    nth k d less = get_or-take (first + count - first) (drop first ws) k d (omega (arith, below k less)) ∙ get_or-drop first ws k d

-- ---- the passes of a queue that have met

pub sender_named : (cfg : Config) (k : ℕ) → k < cfg.senders → pass_at cfg k ≡ Pass.Sender (1 + k)
sender_named cfg k less = ap (λ (b : Bool). if b then Pass.Sender (k + 1) else Pass.Receiver (k - cfg.senders + 1)) (lt-ltb k cfg.senders less) ∙ ap Pass.Sender (omega arith)

pub receiver_named : (cfg : Config) (k : ℕ) → pass_at cfg (cfg.senders + k) ≡ Pass.Receiver (1 + k)
receiver_named cfg k = named (nat_lt (cfg.senders + k) cfg.senders) refl
  where
    named : (b : Bool) → nat_lt (cfg.senders + k) cfg.senders ≡ b → (if b then Pass.Sender (cfg.senders + k + 1) else Pass.Receiver (cfg.senders + k - cfg.senders + 1)) ≡ Pass.Receiver (1 + k)
    named true is = absurd (omega (arith, ltb-true _ _ is))
    named false is = ap Pass.Receiver (omega arith)

name_at : (z : Topic) (first count : ℕ) (ws : List Walk) (k : ℕ) (d : Walk) → AreInRow z first count ws → k < length ws → name (get_or ws k d) ≡ pass_at z.setting.config (first + k)
name_at z first count ws k d row less = λ i. pass_at ((row.are k d less).1 i).config (row.numbered k d less i)

seen_at : (z : Topic) (first count : ℕ) (ws : List Walk) (seen : List Move) → AreInRow z first count ws → All (λ w. w.seen ≡ seen) ws → All (λ w. history w ≡ history_of z.setting seen) ws
seen_at z first count ws seen row one k d less = λ i. history_of ((row.are k d less).1 i) (one k d less i)

senders_row : (z : Topic) (ws : List Walk) (seen : List Move) → AreInRow z 0 z.setting.config.senders ws → All (λ w. w.seen ≡ seen) ws → IsRow Pass.Sender (history_of z.setting seen) 1 ws
senders_row z ws seen row one = record {
  named = λ k d less. name_at z 0 z.setting.config.senders ws k d row less ∙ ap (pass_at z.setting.config) (omega arith) ∙ sender_named z.setting.config k (omega (arith, less, row.count_is));
  seen = seen_at z 0 z.setting.config.senders ws seen row one;
}

receivers_row : (z : Topic) (ws : List Walk) (seen : List Move) → AreInRow z z.setting.config.senders (groups z.setting.config * z.setting.config.receivers) ws → All (λ w. w.seen ≡ seen) ws → IsRow Pass.Receiver (history_of z.setting seen) 1 ws
receivers_row z ws seen row one = record {
  named = λ k d less. name_at z z.setting.config.senders (groups z.setting.config * z.setting.config.receivers) ws k d row less ∙ receiver_named z.setting.config k;
  seen = seen_at z z.setting.config.senders (groups z.setting.config * z.setting.config.receivers) ws seen row one;
}

-- a queue has a sender
has_sender : (z : Topic) (ws : List Walk) → config_fault z.setting.config ≡ Ok tt → AreInRow z 0 z.setting.config.senders ws → 0 < length ws
has_sender z ws checked row = let r = in_range z.setting.config checked in omega (arith, r.senders, row.count_is)

pub seen_is : (z : Topic) (ws : List Walk) (seen : List Move) → 0 < length ws → AreInRow z 0 z.setting.config.senders ws → All (λ w. w.seen ≡ seen) ws → seen_by ws ≡ history_of z.setting seen
seen_is z [] seen some row one = absurd (omega (arith, some))
seen_is z (w ∷ ws) seen some row one = seen_at z 0 z.setting.config.senders (w ∷ ws) seen row one 0 w (omega arith)

-- the history that the first of them has seen is legal
legal_seen : (z : Topic) (ws : List Walk) → 0 < length ws → AreInRow z 0 z.setting.config.senders ws → All (λ w. StandsInOne w [] w) ws → Legal z.setting.config (seen_by ws)
legal_seen z [] some row stand = absurd (omega (arith, some))
legal_seen z (w ∷ ws) some row stand = subst (λ (c : Setting). Legal c.config (history w)) (row.are 0 w (omega arith)).1 (stand 0 w (omega arith)).legal

-- all passes of a queue at the end, live ones and those that were given up, which have met
module _ (z : Topic) (row : Row) (senders receivers given_up : List Walk) (checked : config_fault z.setting.config ≡ Ok tt) (all : AreAll z row senders receivers given_up) (one : HaveSeenOne senders receivers given_up) (rest : All IsAtRest senders) (ended : All HasEnded given_up) where
  abbrev their_senders : List Walk
  their_senders = map walk_at row.senders

  abbrev their_receivers : List Walk
  their_receivers = map walk_at row.receivers

  abbrev h : Record
  h = history_of z.setting one.seen

  senders_have : All (λ w. w.seen ≡ one.seen) their_senders
  senders_have = all_walks (λ w. w.seen ≡ one.seen) senders given_up row.senders one.senders_have one.given_up_have all.senders_from

  receivers_have : All (λ w. w.seen ≡ one.seen) their_receivers
  receivers_have = all_walks (λ w. w.seen ≡ one.seen) receivers given_up row.receivers one.receivers_have one.given_up_have all.receivers_from

  some : 0 < length their_senders
  some = has_sender z their_senders checked all.senders_are

  here : seen_by their_senders ≡ h
  here = seen_is z their_senders one.seen some all.senders_are senders_have

  legal : Legal z.setting.config h
  legal = subst (Legal z.setting.config) here (legal_seen z their_senders some all.senders_are (all_stand senders given_up row.senders rest ended all.senders_from))

  sent_row : IsRow Pass.Sender h 1 their_senders
  sent_row = senders_row z their_senders one.seen all.senders_are senders_have

  got_row : IsRow Pass.Receiver h 1 their_receivers
  got_row = receivers_row z their_receivers one.seen all.receivers_are receivers_have

  sends_just : All (λ e. Any (λ w. e.pass ≡ name w) their_senders) h.sends.calls
  sends_just =
      all_at (λ e. Any (λ w. e.pass ≡ name w) their_senders) h.sends.calls (all_map (λ e. IsSenders z.setting.config e.pass e.call) (λ e. Any (λ w. e.pass ≡ name w) their_senders) h.sends.calls
      (λ e is. let s = sender_of z.setting.config e.pass e.call is in subst (λ (p : Pass). Any (λ w. p ≡ name w) their_senders) (sym s.3) (one_called Pass.Sender h their_senders s.0 sent_row s.1 (omega (arith, s.2, all.senders_are.count_is)))) legal.senders)

  takes_just : (g : ℕ) → All (λ e. Any (λ w. e.pass ≡ name w) their_receivers) (of_group h g).calls
  takes_just g = elim (cases_lt g z.setting.config.groups) [
    | inl inside ↦ all_at (λ e. Any (λ w. e.pass ≡ name w) their_receivers) (of_group h g).calls (all_map (λ e. IsReceivers z.setting.config g e.pass e.call) (λ e. Any (λ w. e.pass ≡ name w) their_receivers) (of_group h g).calls
        (λ e is. let r = receiver_of z.setting.config g e.pass e.call is in subst (λ (p : Pass). Any (λ w. p ≡ name w) their_receivers) (sym r.4) (one_called Pass.Receiver h their_receivers r.0 got_row r.1 (omega (arith, r.2, all.receivers_are.count_is)))) (legal.takes g inside).receivers)
    | inr far ↦ subst (λ (s : Side). All (λ e. Any (λ w. e.pass ≡ name w) their_receivers) s.calls) (sym (get_or_past h.takes g silent (omega (arith, far, legal.groups)))) (λ k d less. absurd (omega (arith, less)))
  ]

  -- what they have seen is the history of their calls
  pub has_just : All IsAtRest receivers → HasJustCallsOf row (seen_by their_senders)
  has_just also = subst (HasJustCallsOf row) (sym here) (record {
    sends = sends_just;
    takes = takes_just;
    of_senders = all_just h senders given_up row.senders (λ k d less. sent_row.seen k d less) rest ended all.senders_from;
    of_receivers = all_just h receivers given_up row.receivers (λ k d less. got_row.seen k d less) also ended all.receivers_from;
  })

-- the receipts that they hold are those of the history
pub sends_held : (z : Topic) (ws : List Walk) (seen : List Move) → Legal z.setting.config (history_of z.setting seen) → AreInRow z 0 z.setting.config.senders ws → All (λ w. w.seen ≡ seen) ws → IsPermutation (receipts_by sent ws) (sends_of (history_of z.setting seen))
sends_held z ws seen l row one =
    let cfg : Config = z.setting.config in
    let h : Record = history_of z.setting seen in
    let zs : List Told = answered h.sends.calls h.sends.answers in
    let same : receipts_by sent ws ≡ held sent (is_of Pass.Sender) zs 1 cfg.senders =
    held_by sent Pass.Sender h zs 1 ws (senders_row z ws seen row one) (λ m low high. on_its_side cfg h (Pass.Sender m) l) ∙ ap (held sent (is_of Pass.Sender) zs 1) row.count_is in
    subst (λ (y : List SendReceipt × List SendReceipt). IsPermutation y.0 y.1) (λ i. (sym same i, in_sent h.sends.calls h.sends.answers i)) (held_all sent (is_of Pass.Sender) 1 cfg.senders zs (sends_dealt cfg h l))

-- those of a group, and its side of the history
pub takes_held : (z : Topic) (ws : List Walk) (seen : List Move) (group : ℕ) → 0 < z.setting.config.receivers → 1 ≤ group → group ≤ groups z.setting.config → Legal z.setting.config (history_of z.setting seen)
    → AreInRow z z.setting.config.senders (groups z.setting.config * z.setting.config.receivers) ws → All (λ w. w.seen ≡ seen) ws → IsPermutation (receipts_by got (in_group z.setting.config group ws)) (takes_of (history_of z.setting seen) (group - 1))
takes_held z ws seen group some low high l row one =
    let cfg : Config = z.setting.config in
    let g : ℕ = group - 1 in
    let first : ℕ = g * cfg.receivers in
    let h : Record = history_of z.setting seen in
    let zs : List Told = answered (of_group h g).calls (of_group h g).answers in
    let all : first + cfg.receivers ≡ group * cfg.receivers = next_multiple group cfg.receivers low in
    let fits : first + cfg.receivers ≤ length ws = rw (all, row.count_is) (mul-le-mul_right cfg.receivers high) in
    let part : List Walk = slice_range ws first (first + cfg.receivers) in
    let its_row : IsRow Pass.Receiver h (1 + first) part = row_range Pass.Receiver h first cfg.receivers ws (receivers_row z ws seen row one) fits in
    let many : length part ≡ cfg.receivers = omega (arith, length-take (first + cfg.receivers - first) (drop first ws), length-drop first ws, fits) in
    let mine : (m : ℕ) → 1 + first ≤ m → m < 1 + first + length part → calls_of (Pass.Receiver m) h ≡ filter (is_of Pass.Receiver m) zs =
    λ m from to. on_its_side cfg h (Pass.Receiver m) l ∙ ap (λ (k : ℕ). filter (is_of Pass.Receiver m) (answered (of_group h k).calls (of_group h k).answers)) (group_at cfg g m some from (omega (arith, to, many))) in
    let same : receipts_by got part ≡ held got (is_of Pass.Receiver) zs (1 + first) cfg.receivers = held_by got Pass.Receiver h zs (1 + first) part its_row mine ∙ ap (held got (is_of Pass.Receiver) zs (1 + first)) many in
    subst (λ (n : ℕ). IsPermutation (receipts_by got (slice_range ws first n)) (takes_of h g)) all
    (subst (λ (y : List TakeReceipt × List TakeReceipt). IsPermutation y.0 y.1) (λ i. (sym same i, in_got (of_group h g).calls (of_group h g).answers i)) (held_all got (is_of Pass.Receiver) (1 + first) cfg.receivers zs (takes_dealt cfg h g some (omega (arith, low, high)) l)))

-- if there is one group, all receivers are its
pub only_group : (cfg : Config) (ws : List Walk) → length ws ≡ cfg.receivers → in_group cfg 1 ws ≡ ws
only_group cfg ws all =
    let from : 0 * cfg.receivers ≡ 0 = omega arith in
    let to : 1 * cfg.receivers ≡ length ws = omega (arith, all) in
    (λ i. take (to i - from i) (drop (from i) ws)) ∙ ap (λ (n : ℕ). take n ws) (omega arith) ∙ take-length ws

-- the verdict stays Clean if no total is given
without_total : {sends : List SendReceipt} {takes : List TakeReceipt} {kind p : ℕ} (total : Option ℕ) → Holds sends takes None kind p → Holds sends takes total kind p
without_total total (double_accept is h) = double_accept is h
without_total total (double_take is h) = double_take is h
without_total total (stranger is h) = stranger is h
without_total total (altered is h) = altered is h
without_total total (gap is h) = gap is h
without_total total (disorder is h) = disorder is h
without_total total (overrun is h) = absurd h.0

by_total : (h : Record) (sends : List SendReceipt) (takes : List TakeReceipt) (total : Option ℕ) → IsTotal h total → IsVerdict sends takes (total_of h) Verdict.Clean → IsVerdict sends takes total Verdict.Clean
by_total h sends takes None is clean = λ kind p held. clean kind p (without_total (total_of h) held)
by_total h sends takes (Some total) is clean = subst (λ (t : Option ℕ). IsVerdict sends takes t Verdict.Clean) is clean

-- so the verdict on the receipts that are held, in whatever order they come, and those that are left is Clean
pub are_clean : (z : Topic) (row : Row) (senders receivers given_up : List Walk) (group : ℕ) (sends : List SendReceipt) (takes : List TakeReceipt) (total : Option ℕ) → config_fault z.setting.config ≡ Ok tt → 1 ≤ group → group ≤ groups z.setting.config
    → AreAll z row senders receivers given_up → HaveSeenOne senders receivers given_up → All IsAtRest senders → All HasEnded given_up
    → IsPermutation (receipts_told sent row.senders) sends → IsPermutation (receipts_told got (in_group z.setting.config group row.receivers)) takes → IsTotal (seen_by (map walk_at row.senders)) total
    → IsVerdict (sends ++ receipts_left sent row.senders) (takes ++ receipts_left got (in_group z.setting.config group row.receivers)) total Verdict.Clean
are_clean z row senders receivers given_up group sends takes total checked low high all one rest ended same also last =
    let cfg : Config = z.setting.config in
    let h : Record = history_of z.setting one.seen in
    let l : Legal cfg h = legal z row senders receivers given_up checked all one rest ended in
    let part : List Last = in_group cfg group row.receivers in
    let left : List SendReceipt = receipts_left sent row.senders in
    let left' : List TakeReceipt = receipts_left got part in
    let clean : IsVerdict (sends_of h) (takes_of h (group - 1)) (total_of h) Verdict.Clean = no_fault (accepted h) (takes_of h (group - 1)) (total_of h) (fair_of cfg h (group - 1) (omega (arith, low, high)) l) in
    let all_sends : IsPermutation (receipts_by sent (map walk_at row.senders)) (sends_of h) = sends_held z (map walk_at row.senders) one.seen l all.senders_are (senders_have z row senders receivers given_up checked all one rest ended) in
    let of_group_held : IsPermutation (receipts_by got (in_group cfg group (map walk_at row.receivers))) (takes_of h (group - 1)) =
    takes_held z (map walk_at row.receivers) one.seen group (in_range cfg checked).receivers.0 low high l all.receivers_are (receivers_have z row senders receivers given_up checked all one rest ended) in
    let all_takes : IsPermutation (receipts_by got (map walk_at part)) (takes_of h (group - 1)) = subst (λ (ws : List Walk). IsPermutation (receipts_by got ws) (takes_of h (group - 1))) (group_of_map walk_at cfg group row.receivers) of_group_held in
    by_total h (sends ++ left) (takes ++ left') total (subst (λ (x : Record). IsTotal x total) (here z row senders receivers given_up checked all one rest ended) last)
    (same_verdict (sends_of h) (sends ++ left) (takes_of h (group - 1)) (takes ++ left') (total_of h) Verdict.Clean
    (IsPermutation-sym (sends ++ left) (sends_of h) (IsPermutation-trans (sends ++ left) (receipts_told sent row.senders ++ left) (sends_of h)
    (IsPermutation-append_left left sends (receipts_told sent row.senders) (IsPermutation-sym (receipts_told sent row.senders) sends same))
    (IsPermutation-trans (receipts_told sent row.senders ++ left) (receipts_by sent (map walk_at row.senders)) (sends_of h) (told_and_left sent row.senders) all_sends)))
    (IsPermutation-sym (takes ++ left') (takes_of h (group - 1)) (IsPermutation-trans (takes ++ left') (receipts_told got part ++ left') (takes_of h (group - 1))
    (IsPermutation-append_left left' takes (receipts_told got part) (IsPermutation-sym (receipts_told got part) takes also))
    (IsPermutation-trans (receipts_told got part ++ left') (receipts_by got (map walk_at part)) (takes_of h (group - 1)) (told_and_left got part) all_takes)))
    clean)
