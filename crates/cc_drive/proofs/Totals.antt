-- The facts in a legal history about the total that a close returned, and about the end that a
-- receiver got.
use Rattle.std.proofs.Common.{◌≡◌, ℕ, ◌+◌, ◌<◌, ◌≤◌, Bool, true, false, ◌||◌, List, [], ◌∷◌, ◌++◌, length, Option, Some, None, if◌then◌else◌, refl, sym, ap, ◌∙◌, subst, arith, length-append}
use Rattle.std.proofs.lemmas.List.{length-map}
use Rattle.std.proofs.Math.Logic.{◌⊎◌, inl, inr}
use Rattle.std.specs.List.{AllByRecursion, filter}
use Rattle.cc_model.specs.Record.{Record}
use Rattle.cc_model.specs.Items.{answered, is_pass, accepted, accepted_item, shuts, is_shut, handed, handed_by, handed_item}
use Rattle.cc_model.specs.Legal.{Legal, LegalTakes, SendSideAnswer, SendSideAnswers, TakeSideAnswer, TakeSideAnswers, IsReceivers}
use Rattle.cc_drive.specs.Names.{Config, Call, Pass, Item, Entry, Answer, SendAnswer, CloseAnswer, TakeAnswer}
use Rattle.cc_runs.specs.ChainLaws.{IsLastAnswer}
use Rattle.cc_audit.specs.Receipts.{sends_of, takes_of, takes_by, take_receipt, total_of, total_by, send_receipt}
use Rattle.cc_model.specs.After.{side_of}
use Rattle.cc_queue.proofs.OnItsSide.{Told, on_its_side}
use Rattle.cc_model.specs.Record.{Side, silent, of_group}
use Rattle.cc_model.specs.Config.{group_of}
use Rattle.std.proofs.lemmas.Bool.{cases_lt}
use Rattle.std.proofs.lemmas.List.{get_or_past}
use Rattle.cc_drive.specs.Ran.{total_in}

-- ---- a call among others

abbrev In : Told → List Told → Type 0
In z [] = ⊥
In z (x ∷ xs) = (x ≡ z) ⊎ In z xs

in_last : (before : List Told) (z : Told) → In z (before ++ z ∷ [])
in_last [] z = inl refl
in_last (x ∷ before) z = inr (in_last before z)

in_filter : (f : Told → Bool) (z : Told) (xs : List Told) → In z (filter f xs) → In z xs
in_filter f z [] i = i
in_filter f z (x ∷ xs) i = go (f x) (in_filter f z xs) i
  where
    go : (b : Bool) → (In z (filter f xs) → In z xs) → In z (if b then x ∷ filter f xs else filter f xs) → In z (x ∷ xs)
    go true rest (inl e) = inl e
    go true rest (inr j) = inr (rest j)
    go false rest j = inr (rest j)

-- a pass's last answer is one of its side
last_in : (cfg : Config) (who : Pass) (h : Record) (told : Answer) → Legal cfg h → (k : IsLastAnswer who h told) → In (k.entry, Some told) (answered (side_of cfg who h).calls (side_of cfg who h).answers)
last_in cfg who h told l k =
    let side = side_of cfg who h in
    in_filter (λ c. is_pass who c.0.pass) (k.entry, Some told) (answered side.calls side.answers) (subst (In (k.entry, Some told)) (sym k.last ∙ on_its_side cfg h who l) (in_last k.before (k.entry, Some told)))

-- what a call with its answer is
no_answer : (c e : Entry) (a : Answer) → ◌≡◌ {A = Told} (c, None) (e, Some a) → ⊥
no_answer c e a same = absurd (let none : None ≡ Some a = ap (λ (z : Told). z.1) same in cc none)

abbrev told_of : Option Answer → Answer → Answer
told_of (Some a) b = a
told_of None b = b

same_answer : (c e : Entry) (a b : Answer) → ◌≡◌ {A = Told} (c, Some a) (e, Some b) → a ≡ b
same_answer c e a b same = ap (λ (z : Told). told_of z.1 a) same

-- ---- each answer is on its side

no_end_of_sender : (cfg : Config) (count : ℕ) (shut : Bool) (calls : List Entry) (answers : List Answer) (e : Entry) (total : ℕ) → SendSideAnswers cfg count shut calls answers → In (e, Some (Answer.Take (TakeAnswer.Ended total))) (answered calls answers) → ⊥
no_end_of_sender cfg count shut [] answers e total k i = i
no_end_of_sender cfg count shut (c ∷ calls) [] e total k (inl same) = no_answer c e (Answer.Take (TakeAnswer.Ended total)) same
no_end_of_sender cfg count shut (c ∷ calls) [] e total k (inr i) = no_end_of_sender cfg count shut calls [] e total tt i
no_end_of_sender cfg count shut (c ∷ calls) (a ∷ answers) e total k (inl same) = no_take cfg count shut c.known c.call total (subst (λ (z : Answer). SendSideAnswer cfg count shut c.known c.call z) (same_answer c e a (Answer.Take (TakeAnswer.Ended total)) same) k.0)
  where
    no_take : (cfg : Config) (count : ℕ) (shut : Bool) (known : ℕ) (c : Call) (total : ℕ) → SendSideAnswer cfg count shut known c (Answer.Take (TakeAnswer.Ended total)) → ⊥
    no_take cfg count true known (Call.Send body) total k = k
    no_take cfg count true known Call.Close total k = k
    no_take cfg count true known Call.Take total k = k
    no_take cfg count false known (Call.Send body) total k = k
    no_take cfg count false known Call.Close total k = k
    no_take cfg count false known Call.Take total k = k
no_end_of_sender cfg count shut (c ∷ calls) (a ∷ answers) e total k (inr i) = no_end_of_sender cfg (count + length (accepted_item c a)) (shut || shuts a) calls answers e total k.1 i

no_close_of_receiver : (items : List Item) (shut : Bool) (count : ℕ) (calls : List Entry) (answers : List Answer) (e : Entry) (told : CloseAnswer) → TakeSideAnswers items shut count calls answers → In (e, Some (Answer.Close told)) (answered calls answers) → ⊥
no_close_of_receiver items shut count [] answers e told k i = i
no_close_of_receiver items shut count (c ∷ calls) [] e told k (inl same) = no_answer c e (Answer.Close told) same
no_close_of_receiver items shut count (c ∷ calls) [] e told k (inr i) = no_close_of_receiver items shut count calls [] e told tt i
no_close_of_receiver items shut count (c ∷ calls) (a ∷ answers) e told k (inl same) = subst (λ (z : Answer). TakeSideAnswer items shut count c.known z) (same_answer c e a (Answer.Close told) same) k.0
no_close_of_receiver items shut count (c ∷ calls) (a ∷ answers) e told k (inr i) = no_close_of_receiver items shut (count + length (handed_item a)) calls answers e told k.1 i

-- ---- the total of a close

-- after the close nothing is accepted, and each further close returns the same
still_shut : (cfg : Config) (count : ℕ) (known : ℕ) (c : Entry) (a : Answer) → SendSideAnswer cfg count true known c.call a → accepted_item c a ≡ []
still_shut cfg count known c (Answer.Send SendAnswer.Closed) k = refl
still_shut cfg count known c (Answer.Send SendAnswer.Full) k = refl
still_shut cfg count known c (Answer.Send SendAnswer.Spent) k = refl
still_shut cfg count known c (Answer.Send (SendAnswer.Accepted place)) k = absurd (no c.call k)
  where
    no : (x : Call) → SendSideAnswer cfg count true known x (Answer.Send (SendAnswer.Accepted place)) → ⊥
    no (Call.Send body) k = k
    no Call.Close k = k
    no Call.Take k = k
still_shut cfg count known c (Answer.Close a) k = refl
still_shut cfg count known c (Answer.Take a) k = refl

told_when_shut : (cfg : Config) (count : ℕ) (known : ℕ) (c : Call) (told : CloseAnswer) → SendSideAnswer cfg count true known c (Answer.Close told) → total_in told ≡ count
told_when_shut cfg count known Call.Close (CloseAnswer.Already total) k = k
told_when_shut cfg count known Call.Close (CloseAnswer.Shut total) k = absurd k
told_when_shut cfg count known (Call.Send body) told k = absurd k
told_when_shut cfg count known Call.Take told k = absurd k

told_behind : (cfg : Config) (count : ℕ) (calls : List Entry) (answers : List Answer) (e : Entry) (told : CloseAnswer) → SendSideAnswers cfg count true calls answers → In (e, Some (Answer.Close told)) (answered calls answers) → total_in told ≡ count
told_behind cfg count [] answers e told k i = absurd i
told_behind cfg count (c ∷ calls) [] e told k (inl same) = absurd (no_answer c e (Answer.Close told) same)
told_behind cfg count (c ∷ calls) [] e told k (inr i) = told_behind cfg count calls [] e told tt i
told_behind cfg count (c ∷ calls) (a ∷ answers) e told k (inl same) = told_when_shut cfg count c.known c.call told (subst (λ (z : Answer). SendSideAnswer cfg count true c.known c.call z) (same_answer c e a (Answer.Close told) same) k.0)
told_behind cfg count (c ∷ calls) (a ∷ answers) e told k (inr i) =
    let none : length (accepted_item c a) ≡ 0 = ap length (still_shut cfg count c.known c a k.0) in
    told_behind cfg (count + length (accepted_item c a)) calls answers e told k.1 i ∙ omega (arith, none)

-- the first close with this answer is the one that counts
total_so : (cfg : Config) (count : ℕ) (calls : List Entry) (answers : List Answer) (e : Entry) (told : CloseAnswer) → SendSideAnswers cfg count false calls answers → In (e, Some (Answer.Close told)) (answered calls answers) → Some (total_in told) ≡ total_by answers
total_so cfg count [] answers e told k i = absurd i
total_so cfg count (c ∷ calls) [] e told k (inl same) = absurd (no_answer c e (Answer.Close told) same)
total_so cfg count (c ∷ calls) [] e told k (inr i) = total_so cfg count calls [] e told tt i
total_so cfg count (c ∷ calls) (Answer.Close (CloseAnswer.Shut total) ∷ answers) e told k (inl same) = (let s : Answer.Close (CloseAnswer.Shut total) ≡ Answer.Close told = same_answer c e (Answer.Close (CloseAnswer.Shut total)) (Answer.Close told) same in let t : CloseAnswer.Shut total ≡ told = cc s in ap (λ (a : CloseAnswer). Some (total_in a)) (sym t))
total_so cfg count (c ∷ calls) (Answer.Close (CloseAnswer.Shut total) ∷ answers) e told k (inr i) = ap Some (told_behind cfg (count + 0) calls answers e told k.1 i ∙ (let z : count + 0 ≡ count = omega arith in z) ∙ sym (at c.call k.0))
  where
    at : (x : Call) → SendSideAnswer cfg count false c.known x (Answer.Close (CloseAnswer.Shut total)) → total ≡ count
    at Call.Close k = k
    at (Call.Send body) k = absurd k
    at Call.Take k = absurd k
total_so cfg count (c ∷ calls) (Answer.Close (CloseAnswer.Already total) ∷ answers) e told k i = absurd (no c.call k.0)
  where
    no : (x : Call) → SendSideAnswer cfg count false c.known x (Answer.Close (CloseAnswer.Already total)) → ⊥
    no Call.Close k = k
    no (Call.Send body) k = k
    no Call.Take k = k
total_so cfg count (c ∷ calls) (Answer.Send a ∷ answers) e told k (inl same) = absurd (let s : Answer.Send a ≡ Answer.Close told = same_answer c e (Answer.Send a) (Answer.Close told) same in cc s)
total_so cfg count (c ∷ calls) (Answer.Send a ∷ answers) e told k (inr i) = total_so cfg (count + length (accepted_item c (Answer.Send a))) calls answers e told k.1 i
total_so cfg count (c ∷ calls) (Answer.Take a ∷ answers) e told k (inl same) = absurd (let s : Answer.Take a ≡ Answer.Close told = same_answer c e (Answer.Take a) (Answer.Close told) same in cc s)
total_so cfg count (c ∷ calls) (Answer.Take a ∷ answers) e told k (inr i) = total_so cfg (count + 0) calls answers e told k.1 i

-- a pass with an answer is a sender, or a receiver of a group that there is
side_of_answer : (cfg : Config) (h : Record) (r : ℕ) (told : Answer) → Legal cfg h → IsLastAnswer (Pass.Receiver r) h told → group_of cfg r < cfg.groups
side_of_answer cfg h r told l k = elim (cases_lt (group_of cfg r) cfg.groups) [
  | inl inside ↦ inside
  | inr far ↦
      let none : of_group h (group_of cfg r) ≡ silent = get_or_past h.takes (group_of cfg r) silent (omega (arith, far, l.groups)) in
      absurd (subst (λ (s : Side). In (k.entry, Some told) (answered s.calls s.answers)) none (last_in cfg (Pass.Receiver r) h told l k))
]

-- the answer of a pass's close has the total of the history
pub total_is : (cfg : Config) (h : Record) (who : Pass) (told : CloseAnswer) → Legal cfg h → IsLastAnswer who h (Answer.Close told) → Some (total_in told) ≡ total_of h
total_is cfg h (Pass.Sender s) told l k = total_so cfg 0 h.sends.calls h.sends.answers k.entry told l.answers (last_in cfg (Pass.Sender s) h (Answer.Close told) l k)
total_is cfg h (Pass.Receiver r) told l k =
    let g : ℕ = group_of cfg r in
    let its = l.takes g (side_of_answer cfg h r (Answer.Close told) l k) in
    absurd (no_close_of_receiver (accepted h) (is_shut h) 0 (of_group h g).calls (of_group h g).answers k.entry told its.answers (last_in cfg (Pass.Receiver r) h (Answer.Close told) l k))

-- ---- the end

ended_so : (items : List Item) (shut : Bool) (count : ℕ) (calls : List Entry) (answers : List Answer) (e : Entry) (total : ℕ) → TakeSideAnswers items shut count calls answers → In (e, Some (Answer.Take (TakeAnswer.Ended total))) (answered calls answers) → length items ≤ count + length (handed_by answers)
ended_so items shut count [] answers e total k i = absurd i
ended_so items shut count (c ∷ calls) [] e total k (inl same) = absurd (no_answer c e (Answer.Take (TakeAnswer.Ended total)) same)
ended_so items shut count (c ∷ calls) [] e total k (inr i) = ended_so items shut count calls [] e total tt i
ended_so items shut count (c ∷ calls) (a ∷ answers) e total k (inl same) =
    let d = subst (λ (z : Answer). TakeSideAnswer items shut count c.known z) (same_answer c e a (Answer.Take (TakeAnswer.Ended total)) same) k.0 in
    let n : count ≡ length items = d.2 in omega (arith, n)
ended_so items shut count (c ∷ calls) (a ∷ answers) e total k (inr i) =
    let rest = ended_so items shut (count + length (handed_item a)) calls answers e total k.1 i in
    omega (arith, rest, length-append (handed_item a) (handed_by answers))

-- a receipt of each item that was handed out
receipts_of : (cfg : Config) (g : ℕ) (items : List Item) (shut : Bool) (count : ℕ) (calls : List Entry) (answers : List Answer) → AllByRecursion (λ c. IsReceivers cfg g c.pass c.call) calls → TakeSideAnswers items shut count calls answers → length (takes_by calls answers) ≡ length (handed_by answers)
receipts_of cfg g items shut count [] [] all k = refl
receipts_of cfg g items shut count [] (a ∷ answers) all k = absurd k
receipts_of cfg g items shut count (c ∷ calls) [] all k = refl
receipts_of cfg g items shut count (c ∷ calls) (a ∷ answers) all k =
    let rest = receipts_of cfg g items shut (count + length (handed_item a)) calls answers all.1 k.1 in
    let one : length (take_receipt c.pass a) ≡ length (handed_item a) = own c.pass c.call a all.0 in
    omega (arith, rest, one, length-append (take_receipt c.pass a) (takes_by calls answers), length-append (handed_item a) (handed_by answers))
  where
    own : (p : Pass) (x : Call) (a : Answer) → IsReceivers cfg g p x → length (take_receipt p a) ≡ length (handed_item a)
    own (Pass.Receiver r) x (Answer.Take (TakeAnswer.Got item)) is = refl
    own (Pass.Receiver r) x (Answer.Take TakeAnswer.Empty) is = refl
    own (Pass.Receiver r) x (Answer.Take (TakeAnswer.Ended total)) is = refl
    own (Pass.Receiver r) x (Answer.Send b) is = refl
    own (Pass.Receiver r) x (Answer.Close b) is = refl
    own (Pass.Sender s) x a is = absurd is

-- if a receiver got the end, its group took as many items as were sent
group_took_all : (cfg : Config) (h : Record) (r total : ℕ) → Legal cfg h → IsLastAnswer (Pass.Receiver r) h (Answer.Take (TakeAnswer.Ended total)) → length (takes_of h (group_of cfg r)) ≡ length (sends_of h)
group_took_all cfg h r total l k =
    let g : ℕ = group_of cfg r in
    let its : LegalTakes cfg h g = l.takes g (side_of_answer cfg h r (Answer.Take (TakeAnswer.Ended total)) l k) in
    let more = ended_so (accepted h) (is_shut h) 0 (of_group h g).calls (of_group h g).answers k.entry total its.answers (last_in cfg (Pass.Receiver r) h (Answer.Take (TakeAnswer.Ended total)) l k) in
    let all : length (handed h g) ≡ length (accepted h) = omega (arith, more, its.within) in
    receipts_of cfg g (accepted h) (is_shut h) 0 (of_group h g).calls (of_group h g).answers its.receivers its.answers ∙ all ∙ sym (length-map (accepted h) send_receipt)

-- and so did the one group, if there is one
pub taken_is_sent : (cfg : Config) (h : Record) (who : Pass) (total : ℕ) → cfg.groups ≡ 1 → Legal cfg h → IsLastAnswer who h (Answer.Take (TakeAnswer.Ended total)) → length (takes_of h 0) ≡ length (sends_of h)
taken_is_sent cfg h (Pass.Sender s) total one l k = absurd (no_end_of_sender cfg 0 false h.sends.calls h.sends.answers k.entry total l.answers (last_in cfg (Pass.Sender s) h (Answer.Take (TakeAnswer.Ended total)) l k))
taken_is_sent cfg h (Pass.Receiver r) total one l k =
    let only : group_of cfg r ≡ 0 = omega (arith, one, side_of_answer cfg h r (Answer.Take (TakeAnswer.Ended total)) l k) in
    subst (λ (g : ℕ). length (takes_of h g) ≡ length (sends_of h)) only (group_took_all cfg h r total l k)
