-- The answer of a call agrees with all that its pass had seen.
use Rattle.std.proofs.Common.{◌≡◌, ℕ, zero, suc, ◌+◌, ◌≤◌, List, [], ◌∷◌, ◌++◌, length, Bool, true, false, ◌||◌, Some, refl, sym, ap, ◌∙◌, subst, arith, add-zero, length-append, if◌then◌else◌}
use Rattle.std.specs.List.{slice_get, list_any, AllByRecursion}
use Rattle.std.proofs.Math.Bool.{or_assoc}
use Rattle.cc_model.specs.Record.{Record, of_group}
use Rattle.cc_model.specs.Items.{IsPrefix, entries, accepted, accepted_by, accepted_item, shuts, is_shut, handed_by, handed_item, handed_to_all, known_at}
use Rattle.cc_model.specs.Legal.{LegalTakes, SendSideAnswer, SendSideAnswers, TakeSideAnswer, TakeSideAnswers, IsSenders, IsReceivers}
use Rattle.cc_model.specs.Fresh.{GoesOn, EmptyIsFresh, FullIsFresh}
use Rattle.cc_model.specs.Names.{Config, Pass, Call, Item, Entry, Answer, SendAnswer, TakeAnswer}
use Rattle.cc_model.proofs.Prefixes.{prefix_after}
use Rattle.cc_model.proofs.InOrder.{handed_front}

-- ---- lists

pub all_at : {X : Type 0} (P : X → Type 0) (xs : List X) (i : ℕ) (x : X) → AllByRecursion P xs → slice_get xs i ≡ Some x → P x
all_at P [] i x all is = cc
all_at P (y ∷ xs) zero x all is = let same : y ≡ x = cc in subst P same all.0
all_at P (y ∷ xs) (suc i) x all is = all_at P xs i x all.1 is

-- of two prefixes of one list the shorter is a prefix of the longer
pub shorter_front : {X : Type 0} (xs ys whole : List X) → IsPrefix xs whole → IsPrefix ys whole → length xs ≤ length ys → IsPrefix xs ys
shorter_front [] ys whole a b less = (ys, refl)
shorter_front (x ∷ xs) [] whole a b less = absurd (omega (arith, less))
shorter_front {X} (x ∷ xs) (y ∷ ys) whole a b less =
    let both : x ∷ (xs ++ a.0) ≡ y ∷ (ys ++ b.0) = sym a.1 ∙ b.1 in
    let first : x ≡ y = cc in
    let rest : xs ++ a.0 ≡ ys ++ b.0 = cc in
    let more : IsPrefix xs ys = shorter_front xs ys (ys ++ b.0) (a.0, sym rest) (b.0, refl) (omega (arith, less)) in
    (more.0, ap (λ (z : X). z ∷ ys) (sym first) ∙ ap (λ (l : List X). x ∷ l) more.1)

-- ---- takes

d_front : (items : List Item) (shut : Bool) (n : ℕ) (calls : List Entry) (before rest : List Answer) → TakeSideAnswers items shut n calls (before ++ rest) → TakeSideAnswers items shut n calls before
d_front items shut n calls [] rest h = tt
d_front items shut n [] (a ∷ before) rest h = absurd h
d_front items shut n (c ∷ calls) (a ∷ before) rest h = (h.0, d_front items shut (n + length (handed_item a)) calls before rest h.1)

-- the answer of a take, after others
pub d_at : (items : List Item) (shut : Bool) (n : ℕ) (calls : List Entry) (before behind : List Answer) (c : Entry) (a : Answer) → TakeSideAnswers items shut n calls (before ++ a ∷ behind) → slice_get calls (length before) ≡ Some c → TakeSideAnswer items shut (n + length (handed_by before)) c.known a
d_at items shut n [] before behind c a h is = cc
d_at items shut n (d ∷ calls) [] behind c a h is = let same : d ≡ c = cc in rw (sym same, add-zero) h.0
d_at items shut n (d ∷ calls) (b ∷ before) behind c a h is =
    subst (λ (m : ℕ). TakeSideAnswer items shut m c.known a) (omega (arith, length-append (handed_item b) (handed_by before))) (d_at items shut (n + length (handed_item b)) calls before behind c a h.1 is)

-- a receiver can come upon the entries
taker_knows : (cfg : Config) (g : ℕ) (h : Record) (p : Pass) (k : Call) → IsReceivers cfg g p k → known_at p h ≡ entries h
taker_knows cfg g h (Pass.Receiver r) k is = refl
taker_knows cfg g h (Pass.Sender s) k is = absurd is

-- ---- sends

pub e_at : (cfg : Config) (n : ℕ) (shut : Bool) (calls : List Entry) (before behind : List Answer) (c : Entry) (a : Answer) → SendSideAnswers cfg n shut calls (before ++ a ∷ behind) → slice_get calls (length before) ≡ Some c
    → SendSideAnswer cfg (n + length (accepted_by calls before)) (shut || list_any shuts before) c.known c.call a
e_at cfg n shut [] before behind c a h is = cc
e_at cfg n shut (d ∷ calls) [] behind c a h is = let same : d ≡ c = cc in rw (sym same, add-zero) (or_nil shut h.0)
  where
    or_nil : (b : Bool) → SendSideAnswer cfg n b d.known d.call a → SendSideAnswer cfg n (b || false) d.known d.call a
    or_nil true e = e
    or_nil false e = e
e_at cfg n shut (d ∷ calls) (b ∷ before) behind c a h is =
    subst (λ (z : ℕ × Bool). SendSideAnswer cfg z.0 z.1 c.known c.call a) (λ i. (count i, or_assoc shut (shuts b) (list_any shuts before) i)) (e_at cfg (n + length (accepted_item d b)) (shut || shuts b) calls before behind c a h.1 is)
  where
    count : n + length (accepted_item d b) + length (accepted_by calls before) ≡ n + length (accepted_item d b ++ accepted_by calls before)
    count = omega (arith, length-append (accepted_item d b) (accepted_by calls before))

pub sender_knows : (cfg : Config) (h : Record) (p : Pass) (k : Call) → IsSenders cfg p k → known_at p h ≡ handed_to_all h
sender_knows cfg h (Pass.Sender s) k is = refl
sender_knows cfg h (Pass.Receiver r) k is = absurd is

full_only : (cfg : Config) (count known : ℕ) (shut : Bool) (k : Call) → SendSideAnswer cfg count shut known k (Answer.Send SendAnswer.Full) → known + cfg.capacity ≤ count
full_only cfg count known false (Call.Send body) h = h.1
full_only cfg count known true (Call.Send body) h = absurd h
full_only cfg count known true Call.Close h = absurd h
full_only cfg count known false Call.Close h = absurd h
full_only cfg count known true Call.Take h = absurd h
full_only cfg count known false Call.Take h = absurd h

-- ---- what was accepted before

closed_adds : (cfg : Config) (n : ℕ) (c : Entry) (a : Answer) → SendSideAnswer cfg n true c.known c.call a → length (accepted_item c a) ≡ 0
closed_adds cfg n c (Answer.Send (SendAnswer.Accepted place)) h = none c.call h
  where
    none : (k : Call) → SendSideAnswer cfg n true c.known k (Answer.Send (SendAnswer.Accepted place)) → length (accepted_item c (Answer.Send (SendAnswer.Accepted place))) ≡ 0
    none (Call.Send body) e = absurd e
    none Call.Close e = absurd e
    none Call.Take e = absurd e
closed_adds cfg n c (Answer.Send SendAnswer.Full) h = refl
closed_adds cfg n c (Answer.Send SendAnswer.Closed) h = refl
closed_adds cfg n c (Answer.Send SendAnswer.Spent) h = refl
closed_adds cfg n c (Answer.Close told) h = refl
closed_adds cfg n c (Answer.Take told) h = refl

closed_none : (cfg : Config) (n : ℕ) (calls : List Entry) (answers : List Answer) → SendSideAnswers cfg n true calls answers → length (accepted_by calls answers) ≡ 0
closed_none cfg n [] answers h = refl
closed_none cfg n (c ∷ calls) [] h = refl
closed_none cfg n (c ∷ calls) (a ∷ answers) h =
    omega (arith, length-append (accepted_item c a) (accepted_by calls answers), closed_adds cfg n c a h.0, closed_none cfg (n + length (accepted_item c a)) calls answers h.1)

-- the items accepted in a prefix of a history are a prefix of those of the whole
pub accepted_front : (cfg : Config) (n : ℕ) (shut : Bool) (calls more : List Entry) (answers rest : List Answer) → SendSideAnswers cfg n shut calls answers → IsPrefix (accepted_by calls answers) (accepted_by (calls ++ more) (answers ++ rest))
accepted_front cfg n shut [] more [] rest h = (accepted_by more rest, refl)
accepted_front cfg n shut [] more (a ∷ answers) rest h = absurd h
accepted_front cfg n shut (c ∷ calls) more [] rest h = (accepted_by ((c ∷ calls) ++ more) rest, refl)
accepted_front cfg n shut (c ∷ calls) more (a ∷ answers) rest h =
    let front : IsPrefix (accepted_by calls answers) (accepted_by (calls ++ more) (answers ++ rest)) = accepted_front cfg (n + length (accepted_item c a)) (shut || shuts a) calls more answers rest h.1 in
    prefix_after (accepted_item c a) (accepted_by calls answers) (accepted_by (calls ++ more) (answers ++ rest)) (accepted_item c a ++ accepted_by (calls ++ more) (answers ++ rest)) refl front

-- and if the prefix was shut they are all
accepted_shut : (cfg : Config) (n : ℕ) (shut : Bool) (calls more : List Entry) (answers rest : List Answer) → SendSideAnswers cfg n shut calls answers → SendSideAnswers cfg n shut (calls ++ more) (answers ++ rest)
    → shut || list_any shuts answers ≡ true → length (accepted_by (calls ++ more) (answers ++ rest)) ≡ length (accepted_by calls answers)
accepted_shut cfg n shut calls more [] rest h k closed = closed_none cfg n (calls ++ more) rest (subst (λ (b : Bool). SendSideAnswers cfg n b (calls ++ more) rest) (sym (or_false shut) ∙ closed) k) ∙ sym (none_of calls)
  where
    or_false : (b : Bool) → b || false ≡ b
    or_false true = refl
    or_false false = refl

    none_of : (cs : List Entry) → length (accepted_by cs []) ≡ 0
    none_of [] = refl
    none_of (c ∷ cs) = refl
accepted_shut cfg n shut [] more (a ∷ answers) rest h k closed = absurd h
accepted_shut cfg n shut (c ∷ calls) more (a ∷ answers) rest h k closed =
    let same = accepted_shut cfg (n + length (accepted_item c a)) (shut || shuts a) calls more answers rest h.1 k.1 (or_assoc shut (shuts a) (list_any shuts answers) ∙ closed) in
    omega (arith, same, length-append (accepted_item c a) (accepted_by calls answers), length-append (accepted_item c a) (accepted_by (calls ++ more) (answers ++ rest)))

module _ (cfg : Config) (h later : Record) (on : GoesOn cfg h later) where
  abbrev Calls : List Entry
  Calls = h.sends.calls ++ on.begins.sends.calls.0

  abbrev Answers : List Answer
  Answers = h.sends.answers ++ on.begins.sends.answers.0

  is_later : accepted later ≡ accepted_by Calls Answers
  is_later = λ i. accepted_by (on.begins.sends.calls.1 i) (on.begins.sends.answers.1 i)

  legal : SendSideAnswers cfg 0 false Calls Answers
  legal = subst (λ (z : List Entry × List Answer). SendSideAnswers cfg 0 false z.0 z.1) (λ i. (on.begins.sends.calls.1 i, on.begins.sends.answers.1 i)) on.later_legal.answers

  pub front : IsPrefix (accepted h) (accepted later)
  front = subst (λ (l : List Item). IsPrefix (accepted h) l) (sym is_later) (accepted_front cfg 0 false h.sends.calls on.begins.sends.calls.0 h.sends.answers on.begins.sends.answers.0 on.legal.answers)

  all_there : is_shut h ≡ true → length (accepted later) ≡ length (accepted h)
  all_there closed = ap (λ (l : List Item). length l) is_later ∙ accepted_shut cfg 0 false h.sends.calls on.begins.sends.calls.0 h.sends.answers on.begins.sends.answers.0 on.legal.answers legal closed

-- ---- together

not_shut : (b : Bool) (n : ℕ) → (b ≡ true → n + (if b then 1 else 0) ≤ n) → b ≡ false
not_shut true n h = absurd (let less = h refl in omega (arith, less))
not_shut false n h = refl

pub empty_fresh : EmptyIsFresh
empty_fresh cfg h later on g before c inside is seen =
    let of : LegalTakes cfg later g = on.later_legal.takes g inside in
    let takes : TakeSideAnswers (accepted later) (is_shut later) 0 (of_group later g).calls (before ++ Answer.Take TakeAnswer.Empty ∷ is.behind) = subst (λ (l : List Answer). TakeSideAnswers (accepted later) (is_shut later) 0 (of_group later g).calls l) is.answers_are of.answers in
    let reached : c.known ≤ 0 + length (handed_by before) = d_at (accepted later) (is_shut later) 0 (of_group later g).calls before is.behind c (Answer.Take TakeAnswer.Empty) takes is.call_is in
    let knows : known_at c.pass h ≡ entries h = taker_knows cfg g h c.pass c.call (all_at (λ (e : Entry). IsReceivers cfg g e.pass e.call) (of_group later g).calls (length before) c of.receivers is.call_is) in
    let all : length (accepted h) + (if is_shut h then 1 else 0) ≤ length (handed_by before) = omega (arith, seen, reached, knows) in
    let out : IsPrefix (handed_by before) (accepted later) = handed_front (accepted later) (is_shut later) 0 (of_group later g).calls before (d_front (accepted later) (is_shut later) 0 (of_group later g).calls before (Answer.Take TakeAnswer.Empty ∷ is.behind) takes) in (
      shorter_front (accepted h) (handed_by before) (accepted later) (front cfg h later on) out (omega (arith, all)),
      not_shut (is_shut h) (length (accepted h)) (λ closed. omega (arith, all, all_there cfg h later on closed, ap (λ (l : List Item). length l) out.1, length-append (handed_by before) out.0)),
    )

pub full_fresh : FullIsFresh
full_fresh cfg h later on before c is seen =
    let sends : SendSideAnswers cfg 0 false later.sends.calls (before ++ Answer.Send SendAnswer.Full ∷ is.behind) = subst (λ (l : List Answer). SendSideAnswers cfg 0 false later.sends.calls l) is.answers_are on.later_legal.answers in
    let told : c.known + cfg.capacity ≤ 0 + length (accepted_by later.sends.calls before) = full_only cfg (0 + length (accepted_by later.sends.calls before)) c.known _ c.call (e_at cfg 0 false later.sends.calls before is.behind c (Answer.Send SendAnswer.Full) sends is.call_is) in
    let knows : known_at c.pass h ≡ handed_to_all h = sender_knows cfg h c.pass c.call (all_at (λ (e : Entry). IsSenders cfg e.pass e.call) later.sends.calls (length before) c on.later_legal.senders is.call_is) in
    omega (arith, seen, told, knows)
