-- Sends at the last queue, while a group is at the queue before it.
use Rattle.std.proofs.Common.{◌≡◌, inr, ℕ, suc, ◌+◌, Bool, true, false, ◌||◌, List, [], ◌∷◌, ◌++◌, length, refl, ap}
use Rattle.std.proofs.Common.{subst, arith, length-append}
use Rattle.std.specs.List.{AllByRecursion}
use Rattle.cc_model.specs.Items.{accepted_by, accepted_item, shuts}
use Rattle.cc_model.specs.Legal.{SendSideAnswer, SendSideAnswers, IsSenders}
use Rattle.cc_joined.specs.Names.{Config, Pass, Call, Entry, Answer, SendAnswer}
use Rattle.cc_joined.specs.Narrow.{LastPlaceCounts, NarrowSendHasRoom}

none_by : (calls : List Entry) → length (accepted_by calls []) ≡ 0
none_by [] = refl
none_by (c ∷ calls) = refl

last_one : (cfg : Config) (n : ℕ) (b : Bool) (pass : Pass) (call : Call) (number known place : ℕ) (rest : List Entry)
    → IsSenders cfg pass call → SendSideAnswer cfg n b known call (Answer.Send (SendAnswer.Accepted place))
    → n + length (accepted_by (record { pass = pass; call = call; number = number; known = known } ∷ rest)
    (Answer.Send (SendAnswer.Accepted place) ∷ [])) ≡ suc place
last_one cfg n false (Pass.Sender s) (Call.Send body) number known place rest is k = let none = none_by rest in
    let at = k.1 in omega (arith, none, at)
last_one cfg n true (Pass.Sender s) (Call.Send body) number known place rest is k = absurd k
last_one cfg n false (Pass.Sender s) Call.Close number known place rest is k = absurd k
last_one cfg n true (Pass.Sender s) Call.Close number known place rest is k = absurd k
last_one cfg n b (Pass.Sender s) Call.Take number known place rest is k = absurd is
last_one cfg n b (Pass.Receiver r) call number known place rest is k = absurd is

last_of : (cfg : Config) (n : ℕ) (b : Bool) (calls : List Entry) (front : List Answer) (place : ℕ)
    → AllByRecursion (λ c. IsSenders cfg c.pass c.call) calls
    → SendSideAnswers cfg n b calls (front ++ Answer.Send (SendAnswer.Accepted place) ∷ [])
    → n + length (accepted_by calls (front ++ Answer.Send (SendAnswer.Accepted place) ∷ [])) ≡ suc place
last_of cfg n b [] [] place are k = absurd k
last_of cfg n b [] (a ∷ front) place are k = absurd k
last_of cfg n b (c ∷ calls) [] place are k = last_one cfg n b c.pass c.call c.number c.known place calls are.0 k.0
last_of cfg n b (c ∷ calls) (a ∷ front) place are k =
    let rest = last_of cfg (n + length (accepted_item c a)) (b || shuts a) calls front place are.1 k.1 in
    let parts = length-append (accepted_item c a)
    (accepted_by calls (front ++ Answer.Send (SendAnswer.Accepted place) ∷ [])) in
    omega (arith, rest, parts)

pub last_place_counts : LastPlaceCounts
last_place_counts cfg h place legal is =
    let same = ap (λ (l : List Answer). length (accepted_by h.sends.calls l)) is.1 in
    let all = last_of cfg 0 false h.sends.calls is.0 place legal.senders
    (subst (λ (l : List Answer). SendSideAnswers cfg 0 false h.sends.calls l) is.1 legal.answers) in
    omega (arith, same, all)

pub narrow_send_has_room : NarrowSendHasRoom
narrow_send_has_room cfg bound g taken ahead place h last legal is found fits =
    let count = last_place_counts cfg last place legal is in
    inr (omega (arith, count, found, fits))
