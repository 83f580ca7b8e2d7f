-- A call that comes after all of an earlier history.
use Rattle.std.proofs.Common.{◌≡◌, ℕ, ◌+◌, ◌<◌, ◌≤◌, inl, inr, List, [], ◌∷◌, ◌++◌, length, Bool, true, false, ◌||◌, Some, refl, sym, ap, ◌∙◌, subst, arith, length-append}
use Rattle.std.specs.List.{slice_get, list_any}
use Rattle.std.proofs.lemmas.Bool.{cases_lt}
use Rattle.std.proofs.lemmas.List.{get_or_past}
use Rattle.cc_model.specs.Config.{group_of}
use Rattle.cc_model.specs.Record.{Side, Record, silent, of_group}
use Rattle.cc_model.specs.Items.{IsPrefix, SideBegins, accepted, accepted_by, accepted_item, shuts, is_shut, handed_by, handed_item, handed_to_all, known_at}
use Rattle.cc_model.specs.Legal.{Legal, LegalTakes, SendSideAnswer, SendSideAnswers, TakeSideAnswer, TakeSideAnswers, IsSenders}
use Rattle.cc_model.specs.Fresh.{GoesOn, HasSeen, IsAnswered}
use Rattle.cc_model.specs.After.{side_of, Tells, LaterTells}
use Rattle.cc_model.specs.Names.{Config, Pass, Call, Item, Entry, Answer, SendAnswer, CloseAnswer, TakeAnswer}
use Rattle.cc_model.proofs.Fresh.{accepted_front, shorter_front, all_at, d_at, e_at, front, empty_fresh, sender_knows}
use Rattle.cc_model.proofs.Grows.{any-append, handed_by-append}

-- ---- the answers that a side had given there it had given before

e_few : (cfg : Config) (n : ℕ) (shut : Bool) (calls : List Entry) (answers : List Answer) → SendSideAnswers cfg n shut calls answers → length answers ≤ length calls
e_few cfg n shut calls [] h = omega arith
e_few cfg n shut [] (a ∷ answers) h = absurd h
e_few cfg n shut (c ∷ calls) (a ∷ answers) h = omega (arith, e_few cfg (n + length (accepted_item c a)) (shut || shuts a) calls answers h.1)

d_few : (items : List Item) (shut : Bool) (n : ℕ) (calls : List Entry) (answers : List Answer) → TakeSideAnswers items shut n calls answers → length answers ≤ length calls
d_few items shut n calls [] h = omega arith
d_few items shut n [] (a ∷ answers) h = absurd h
d_few items shut n (c ∷ calls) (a ∷ answers) h = omega (arith, d_few items shut (n + length (handed_item a)) calls answers h.1)

given_before : (s later : Side) (before : List Answer) (call : Entry) (told : Answer) → SideBegins s later → IsAnswered later before call told → length s.answers ≤ length s.calls → length s.calls ≤ length before → IsPrefix s.answers before
given_before s later before call told begins is few behind = shorter_front s.answers before later.answers begins.answers (told ∷ is.behind, is.answers_are) (omega (arith, few, behind))

-- ---- a sender's call

not_true : (b : Bool) → (b ≡ true → false ≡ true) → b ≡ false
not_true false h = refl
not_true true h = sym (h refl)

e_tells : (cfg : Config) (h later : Record) (who : Pass) (before : List Answer) (n known : ℕ) (shut : Bool) (k : Call) (told : Answer) → SendSideAnswer cfg n shut known k told → (is_shut h ≡ true → shut ≡ true) → length (accepted h) ≤ n → n ≡ length (accepted_by later.sends.calls before) → handed_to_all h ≤ known
    → Tells cfg h later who before told
e_tells cfg h later who before n known true (Call.Send body) (Answer.Send SendAnswer.Closed) e shut grown is seen = tt
e_tells cfg h later who before n known true Call.Close (Answer.Close (CloseAnswer.Already total)) e shut grown is seen = omega (arith, e, grown)
e_tells cfg h later who before n known false Call.Close (Answer.Close (CloseAnswer.Shut total)) e shut grown is seen = (omega (arith, e, grown), not_true (is_shut h) shut)
e_tells cfg h later who before n known false (Call.Send body) (Answer.Send SendAnswer.Spent) e shut grown is seen = not_true (is_shut h) shut
e_tells cfg h later who before n known false (Call.Send body) (Answer.Send (SendAnswer.Accepted place)) e shut grown is seen = (omega (arith, e.1, grown), not_true (is_shut h) shut)
e_tells cfg h later who before n known false (Call.Send body) (Answer.Send SendAnswer.Full) e shut grown is seen = (omega (arith, e.1, is, seen), not_true (is_shut h) shut)
e_tells cfg h later who before n known shut k told e closed grown is seen = absurd e

sender_tells : (cfg : Config) (h later : Record) (s : ℕ) (before : List Answer) (call : Entry) (told : Answer) → GoesOn cfg h later → IsAnswered later.sends before call told → HasSeen h call → length h.sends.calls ≤ length before → Tells cfg h later (Pass.Sender s) before told
sender_tells cfg h later s before call told on is seen behind =
    let answers : SendSideAnswers cfg 0 false later.sends.calls (before ++ told ∷ is.behind) = subst (λ (l : List Answer). SendSideAnswers cfg 0 false later.sends.calls l) is.answers_are on.later_legal.answers in
    let told_so = e_at cfg 0 false later.sends.calls before is.behind call told answers is.call_is in
    let given : IsPrefix h.sends.answers before = given_before h.sends later.sends before call told on.begins.sends is (e_few cfg 0 false h.sends.calls h.sends.answers on.legal.answers) behind in
    let knows : known_at call.pass h ≡ handed_to_all h = sender_knows cfg h call.pass call.call (all_at (λ (e : Entry). IsSenders cfg e.pass e.call) later.sends.calls (length before) call on.later_legal.senders is.call_is) in
    e_tells cfg h later (Pass.Sender s) before _ call.known _ call.call told told_so (still_shut given) (omega (arith, grown given)) (omega arith) (omega (arith, seen, knows))
  where
    still_shut : IsPrefix h.sends.answers before → is_shut h ≡ true → list_any shuts before ≡ true
    still_shut f is_true = ap (list_any shuts) f.1 ∙ any-append shuts h.sends.answers f.0 ∙ ap (λ (b : Bool). b || list_any shuts f.0) is_true

    grown : IsPrefix h.sends.answers before → length (accepted h) ≤ length (accepted_by later.sends.calls before)
    grown f =
        let front_is : IsPrefix (accepted h) (accepted_by (h.sends.calls ++ on.begins.sends.calls.0) (h.sends.answers ++ f.0)) = accepted_front cfg 0 false h.sends.calls on.begins.sends.calls.0 h.sends.answers f.0 on.legal.answers in
        let same : accepted_by later.sends.calls before ≡ accepted h ++ front_is.0 = (λ i. accepted_by (on.begins.sends.calls.1 i) (f.1 i)) ∙ front_is.1 in
        omega (arith, ap (λ (l : List Item). length l) same, length-append (accepted h) front_is.0)

-- ---- a take

-- a call that has an answer is one of a group that there is
pub group_there : (cfg : Config) (h : Record) (g : ℕ) (before : List Answer) (call : Entry) (told : Answer) → Legal cfg h → IsAnswered (of_group h g) before call told → g < cfg.groups
group_there cfg h g before call told legal is = elim (cases_lt g cfg.groups) [
  | inl less ↦ less
  | inr far ↦ absurd (nobody (of_group h g).calls (length before) call (ap (λ (s : Side). s.calls) (get_or_past h.takes g silent (omega (arith, far, legal.groups)))) is.call_is)
]
  where
    nobody : (xs : List Entry) (i : ℕ) (x : Entry) → xs ≡ [] → slice_get xs i ≡ Some x → ⊥
    nobody [] i x none is = cc
    nobody (y ∷ ys) i x none is = cc

taker_tells : (cfg : Config) (h later : Record) (r : ℕ) (before : List Answer) (call : Entry) (told : Answer) → GoesOn cfg h later → IsAnswered (of_group later (group_of cfg r)) before call told → HasSeen h call → length (of_group h (group_of cfg r)).calls ≤ length before → Tells cfg h later (Pass.Receiver r) before told
taker_tells cfg h later r before call told on is seen behind =
    let inside : group_of cfg r < cfg.groups = group_there cfg later (group_of cfg r) before call told on.later_legal is in
    let of : LegalTakes cfg later (group_of cfg r) = on.later_legal.takes (group_of cfg r) inside in
    let answers = subst (λ (l : List Answer). TakeSideAnswers (accepted later) (is_shut later) 0 (of_group later (group_of cfg r)).calls l) is.answers_are of.answers in
    let told_so = d_at (accepted later) (is_shut later) 0 (of_group later (group_of cfg r)).calls before is.behind call told answers is.call_is in
    let few = d_few (accepted h) (is_shut h) 0 (of_group h (group_of cfg r)).calls (of_group h (group_of cfg r)).answers (on.legal.takes (group_of cfg r) inside).answers in
    let given = given_before (of_group h (group_of cfg r)) (of_group later (group_of cfg r)) before call told (on.begins.takes (group_of cfg r)) is few behind in
    tells told refl told_so given (λ empty. empty_fresh cfg h later on (group_of cfg r) before call inside (subst (IsAnswered (of_group later (group_of cfg r)) before call) empty is) seen)
  where
    tells : (a : Answer) → told ≡ a → TakeSideAnswer (accepted later) (is_shut later) (0 + length (handed_by before)) call.known a → IsPrefix (of_group h (group_of cfg r)).answers before → (told ≡ Answer.Take TakeAnswer.Empty → IsPrefix (accepted h) (handed_by before) × (is_shut h ≡ false)) → Tells cfg h later (Pass.Receiver r) before a
    tells (Answer.Take (TakeAnswer.Got item)) same k given empty =
        let more = ap (λ (l : List Answer). length (handed_by l)) given.1 ∙ ap (λ (l : List Item). length l) (handed_by-append (of_group h (group_of cfg r)).answers given.0) in
        omega (arith, k.1, more, length-append (handed_by (of_group h (group_of cfg r)).answers) (handed_by given.0))
    tells (Answer.Take TakeAnswer.Empty) same k given empty = empty same
    tells (Answer.Take (TakeAnswer.Ended total)) same k given empty =
        let f : IsPrefix (accepted h) (accepted later) = front cfg h later on in
        omega (arith, k.1, k.2, ap (λ (l : List Item). length l) f.1, length-append (accepted h) f.0)
    tells (Answer.Send a) same k given empty = absurd k
    tells (Answer.Close a) same k given empty = absurd k

-- ---- together

pub later_tells : LaterTells
later_tells cfg h later on before call told after = by_side call.pass refl
  where
    by_side : (who : Pass) → call.pass ≡ who → Tells cfg h later call.pass before told
    by_side (Pass.Sender s) is =
        subst (λ (p : Pass). Tells cfg h later p before told) (sym is) (sender_tells cfg h later s before call told on
        (subst (λ (p : Pass). IsAnswered (side_of cfg p later) before call told) is after.answered) after.seen
        (subst (λ (p : Pass). length (side_of cfg p h).calls ≤ length before) is after.behind))
    by_side (Pass.Receiver r) is =
        subst (λ (p : Pass). Tells cfg h later p before told) (sym is) (taker_tells cfg h later r before call told on
        (subst (λ (p : Pass). IsAnswered (side_of cfg p later) before call told) is after.answered) after.seen
        (subst (λ (p : Pass). length (side_of cfg p h).calls ≤ length before) is after.behind))
