-- Which answers a call of a sender may get, by the tag of its request; and the item that it sends.
use Rattle.std.proofs.Common.{◌≡◌, ◌≢◌, ℕ, ◌+◌, ◌^◌, ◌<◌, ◌≤◌, [], ◌∷◌, true, false, refl, sym, arith}
use Rattle.cc_model.specs.Items.{sent_item}
use Rattle.cc_model.specs.Legal.{SendSideAnswer, IsSenders}
use Rattle.cc_model.specs.Body.{HasBody}
use Rattle.cc_runs.specs.Names.{Body, Config, Entry, Pass, Call, Answer, SendAnswer, CloseAnswer}
use Rattle.cc_runs.specs.Codes.{packed, item_of, request_of, request_in}
use Rattle.cc_runs.proofs.Bodies.{sender_told, number_told, body_told}

-- whose send a call is
abbrev pub sender_number : Pass → ℕ
sender_number (Pass.Sender s) = s
sender_number (Pass.Receiver r) = 0

-- the parts of a call fit in its tag
pub record FitsTag (e : Entry) : Type 0 where
  pub sender : sender_number e.pass < 2 ^ 16
  pub number : e.number < 2 ^ 32
  pub body : HasBody e.call

-- the tag of a send isn't 0, since senders are numbered from 1
sent_tag : (s number : ℕ) (b : Body) → 1 ≤ s → s < 2 ^ 16 → packed s number b ≢ 0
sent_tag s number b low few z = omega (arith, low, few, z)

pub closed_fits : (c : Config) (n known : ℕ) (p : Pass) (k : Call) (number : ℕ) → IsSenders c p k → (request_of p k number).tag ≢ 0 → SendSideAnswer c n true known k (Answer.Send SendAnswer.Closed)
closed_fits c n known p k number is ne = grind arith

pub already_fits : (c : Config) (n known : ℕ) (p : Pass) (k : Call) (number total : ℕ) → IsSenders c p k → sender_number p < 2 ^ 16 → (request_of p k number).tag ≡ 0 → total ≡ n → SendSideAnswer c n true known k (Answer.Close (CloseAnswer.Already total))
already_fits c n known (Pass.Sender s) (Call.Send body) number total is few z same = absurd (sent_tag s number body is.0 few z)
already_fits c n known (Pass.Sender s) Call.Close number total is few z same = same
already_fits _ _ _ _ _ _ _ is few z same = absurd is

pub shut_fits : (c : Config) (n known : ℕ) (p : Pass) (k : Call) (number total : ℕ) → IsSenders c p k → sender_number p < 2 ^ 16 → (request_of p k number).tag ≡ 0 → total ≡ n → SendSideAnswer c n false known k (Answer.Close (CloseAnswer.Shut total))
shut_fits c n known (Pass.Sender s) (Call.Send body) number total is few z same = absurd (sent_tag s number body is.0 few z)
shut_fits c n known (Pass.Sender s) Call.Close number total is few z same = same
shut_fits _ _ _ _ _ _ _ is few z same = absurd is

pub spent_fits : (c : Config) (n known : ℕ) (p : Pass) (k : Call) (number : ℕ) → IsSenders c p k → (request_of p k number).tag ≢ 0 → n ≡ c.life → SendSideAnswer c n false known k (Answer.Send SendAnswer.Spent)
spent_fits c n known p k number is ne same = grind arith

pub full_fits : (c : Config) (n known : ℕ) (p : Pass) (k : Call) (number : ℕ) → IsSenders c p k → (request_of p k number).tag ≢ 0 → n ≢ c.life → known + c.capacity ≤ n → SendSideAnswer c n false known k (Answer.Send SendAnswer.Full)
full_fits c n known p k number is ne room full = grind arith

pub accepted_fits : (c : Config) (n known : ℕ) (p : Pass) (k : Call) (number place : ℕ) → IsSenders c p k → (request_of p k number).tag ≢ 0 → n ≢ c.life → place ≡ n → SendSideAnswer c n false known k (Answer.Send (SendAnswer.Accepted place))
accepted_fits c n known p k number place is ne room same = grind arith

-- the item of an accepted send is that of its request's words
pub item_sent : (c : Config) (e : Entry) (place : ℕ) → IsSenders c e.pass e.call → FitsTag e → (request_in e).tag ≢ 0 → sent_item e.pass e.call e.number place ≡ item_of place (request_in e).tag (request_in e).body ∷ []
item_sent c e place is fits ne = of_parts e.pass e.call e.number is fits.sender fits.number fits.body ne
  where
    of_parts : (p : Pass) (k : Call) (number : ℕ) → IsSenders c p k → sender_number p < 2 ^ 16 → number < 2 ^ 32 → HasBody k → (request_of p k number).tag ≢ 0 →
        sent_item p k number place ≡ item_of place (request_of p k number).tag (request_of p k number).body ∷ []
    of_parts (Pass.Sender s) (Call.Send body) number is few small whole ne = λ i. record {
      place = place;
      sender = sym (sender_told s number body few small) i;
      number = sym (number_told s number body small) i;
      body = sym (body_told s number body small whole) i;
    } ∷ []
    of_parts (Pass.Sender s) Call.Close number is few small whole ne = absurd (ne refl)
    of_parts _ _ _ is few small whole ne = absurd is
